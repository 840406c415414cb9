use Rattle.std.proofs.Common.{◌≡◌, true, rules}
use Rattle.listing.specs.Marks.{mark}
use Rattle.listing.proofs.Picking.{candidate_clear}
use Rattle.listing.proofs.marks.MarkedShelf.candidate.Goals as goal

pub returns : goal.returns
returns c =
    let m = c.args.self.now in
    let on : mark m.marked c.args.place ≡ true = search rules in
    rw c.then_some.ensures (candidate_clear m.shelf.blocks.now m.marked c.args.place c.in_ok-side.side c.in_ok-side.ensures on c.are_clear.result c.are_clear.ensures)
