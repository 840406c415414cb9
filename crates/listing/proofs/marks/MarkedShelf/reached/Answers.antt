use Rattle.std.proofs.Common.{◌≡◌, ◌+◌, ◌-◌, ◌∙◌, false, replicate, subst, arith}
use Rattle.std.proofs.lemmas.Bool.{both_ways}
use Rattle.model.specs.Blocks.{referred}
use Rattle.book.specs.declared.shelf.Shelf.{Shelf}
use Rattle.listing.specs.Marks.{mark, Spread}
use Rattle.listing.proofs.Marking.{remarked_both, spread_start, spread_marks, blank}
use Rattle.listing.proofs.marks.MarkedShelf.reached.Goals as goal

pub loop-place-preserved : goal.loop-place-preserved
loop-place-preserved c =
    let bs = c.mark_all.new.self.shelf.blocks.now in
    let l = c.loop-place in
    let down : l.place ≡ (l.place - 1) + 1 = omega arith in
    remarked_both l.invariant c.spread.ensures (λ before step start sp. step start (subst (λ i. Spread bs start i l.marks.marked) down (before start sp)))

pub returns : goal.returns
returns c =
    let s = c.args.shelf in
    let bs = s.blocks.now in
    let start = referred c.args.start in
    let first = c.mark_all.new.self.marked in
    let l = c.loop-place in
    let zero : l.place ≡ 0 = omega arith in
    let from = spread_start bs s.sound start (replicate 4096 false) first c.len-place.result (λ j e. both_ways (mark (replicate 4096 false) j) (blank 4096 j) e) (omega arith) c.mark_all.ensures.marks in
    let down = subst (λ (x : Shelf). Spread x.blocks.now start c.len-place.result first → Spread x.blocks.now start l.place l.marks.marked) c.mark_all.ensures.shelf (l.invariant.marks start) in
    record {
      shelf = l.invariant.shelf ∙ c.mark_all.ensures.shelf;
      marks = spread_marks bs s.sound start l.marks.marked (subst (λ i. Spread bs start i l.marks.marked) zero (down from));
    }
