use Rattle.std.proofs.Common.{◌≡◌, true, [], ◌∷◌, ◌++◌, sym, refl, ap, ◌∙◌, subst, arith}
use Rattle.std.proofs.lemmas.Bool.{leb-false}
use Rattle.std.proofs.lemmas.List.{append_assoc}
use Rattle.model.specs.Blocks.{referred}
use Rattle.model.specs.Books.{sides_held}
use Rattle.places.specs.Held.{held}
use Rattle.book.specs.declared.shelf.Shelf.{Shelf}
use Rattle.book.specs.Places.{find}
use Rattle.listing.specs.Marks.{Marks, Pending}
use Rattle.listing.specs.Steps.{Listed}
use Rattle.listing.proofs.Marking.{left_marked}
use Rattle.listing.proofs.Picking.{lines_count}
use Rattle.listing.proofs.lines.list_block.Goals as goal

pub returns-then-not-has_room-clause-listed : goal.returns-then-not-has_room-clause-listed
returns-then-not-has_room-clause-listed g c = (
  refl,
  refl,
  λ xs l.
      let s = c.args.shelf in
      let start = referred c.args.block.references in
      let ms = c.unmark_listed.new.self.marked in
      let left = left_marked s start c.as_slice.result.now c.reached-marks.result c.unmark_listed.new.self c.reached-marks.ensures.shelf c.reached-marks.ensures.marks c.unmark_listed.ensures in
      let n = lines_count g.O.Order.precedes s.blocks.now s.sound start l ms (subst (λ L. Marks s.blocks.now (Pending s.blocks.now start L) ms) c.as_slice.ensures left) in
      let full = leb-false _ _ (sym c.has_room.ensures ∙ c.if-not-has_room.true) in
      omega (arith, c.gather-waiting.ensures.count),
)

pub returns-clause-listed : goal.returns-clause-listed
returns-clause-listed g c =
    let s = c.args.shelf in
    let before = g.O.Order.precedes in
    let start = referred c.args.block.references in
    let ms = c.unmark_listed.new.self.marked in
    let L = held c.args.lines.now in
    let left = left_marked s start c.as_slice.result.now c.reached-marks.result c.unmark_listed.new.self c.reached-marks.ensures.shelf c.reached-marks.ensures.marks c.unmark_listed.ensures in
    let m = subst (λ L. Marks s.blocks.now (Pending s.blocks.now start L) ms) c.as_slice.ensures left in
    let listed = subst (λ (x : Shelf). sides_held (find x.blocks.now) start ≡ true → Marks x.blocks.now (Pending x.blocks.now start L) ms → Listed before (find x.blocks.now) start L (held c.append.new.lines))
    (c.unmark_listed.ensures.shelf ∙ c.reached-marks.ensures.shelf) (c.append.ensures.listed start) in
    let r = listed c.requires m in
    let n = lines_count before s.blocks.now s.sound start r.1 ms m in
    (r.0, r.1, c.put.ensures.items ∙ ap (λ l. l ++ (c.args.block.name ∷ [])) r.2 ∙ append_assoc L r.0 (c.args.block.name ∷ []), omega (arith, c.gather-waiting.ensures.count))
