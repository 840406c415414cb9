use Rattle.std.proofs.Common.{◌+◌, sym, subst, arith}
use Rattle.listing.proofs.Marking.{Gathering, gathering_skip, gathering_more}
use Rattle.listing.proofs.marks.MarkedShelf.gather.Goals as goal
use Rattle.listing.proofs.marks.MarkedShelf.gather.Goals.{then-marked, else-marked}

pub loop-place-preserved : goal.loop-place-preserved
loop-place-preserved c =
    let ms = c.args.self.now.marked in
    let l = c.loop-place in
    elim c.if-marked.branch [
      | then-marked w ↦
          subst (Gathering ms (l.place + 1)) (sym w.waiting-is)
          (gathering_more ms l.place l.waiting w.put.new.self (omega arith) w.if-marked.true w.put.ensures.bound w.put.ensures.items l.invariant)
      | else-marked w ↦ subst (Gathering ms (l.place + 1)) (sym w.waiting-is) (gathering_skip ms l.place l.waiting (omega arith) w.if-marked.false l.invariant)
    ]
