use Rattle.std.proofs.Common.{◌≡◌, true, false, length, set, sym, ◌∙◌, subst, arith}
use Rattle.model.specs.Books.{sides_held}
use Rattle.places.specs.Held.{held}
use Rattle.book.specs.declared.shelf.Shelf.{Shelf}
use Rattle.book.specs.Places.{find}
use Rattle.listing.specs.Steps.{Listed}
use Rattle.listing.proofs.Picking.{count_drop, gathered_drop}
use Rattle.listing.proofs.Growth.{Sofar, sofar_more, sofar_done}
use Rattle.listing.proofs.lines.append.Goals as goal

pub loop-place-preserved : goal.loop-place-preserved
loop-place-preserved g c =
    let l = c.loop-place in
    let s = l.marks.shelf in
    let i = c.in-Some.place in
    let w = c.args.waiting.now in
    let h = c.in-Some.ensures in
    let d = count_drop l.marks.marked i h.0.0 in (
      omega (arith, c.put.ensures.count, l.invariant.0),
      c.put.ensures.bound ∙ l.invariant.1,
      gathered_drop l.marks.marked i w (length w) l.invariant.2,
      l.invariant.3,
      λ start m.
          subst (λ N. Sofar g.O.Order.precedes s.blocks.now start (held c.args.lines.now) N (set l.marks.marked i false)) (sym c.put.ensures.items)
          (sofar_more g.O.Order.precedes g.met.O.Order.lawful s.blocks.now s.sound start (held c.args.lines.now) (held l.lines) l.marks.marked w (length w) l.invariant.2 (l.invariant.4 start m) i c.in-Some.block h),
    )

pub returns : goal.returns
returns g c =
    let before = g.O.Order.precedes in
    let l = c.loop-place in
    let same_shelf = l.invariant.3 in
    let s = l.marks.shelf in
    let w = c.args.waiting.now in
    let L = held c.args.lines.now in
    record {
      listed = λ start sides m.
          let held_now = subst (λ (x : Shelf). sides_held (find x.blocks.now) start ≡ true) (sym same_shelf) sides in
          subst (λ (x : Shelf). Listed before (find x.blocks.now) start L (held l.lines)) same_shelf
          (sofar_done before g.met.O.Order.lawful s.blocks.now s.sound start L (held l.lines) l.marks.marked w (length w) l.invariant.2 (l.invariant.4 start m) c.in_default.ensures held_now);
      bound = l.invariant.1;
      size = omega (arith, l.invariant.0);
    }
