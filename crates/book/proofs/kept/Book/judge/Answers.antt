use Rattle.std.proofs.Common.{cond, Some, None, sym, ap, ◌∙◌}
use Rattle.model.specs.Books.{named_held}
use Rattle.model.proofs.Derived.{blocks, equal_blocks}
use Rattle.book.specs.Places.{find}
use Rattle.book.specs.Meaning.{book_of, has_place}
use Rattle.book.proofs.Adding.{name_taken}
use Rattle.book.proofs.kept.Book.judge.Goals as goal

pub returns-in-Some : goal.returns-in-Some
returns-in-Some c =
    let b = c.args.block in
    let held = c.in-Some.held in
    let named = c.if-not-holds_named.ensures ∙ ap (λ bs. named_held (find bs) b) c.shelf.ensures.blocks in
    let there = c.in-Some.ensures ∙ ap (book_of c.args.self.now) c.name.ensures in
    let equal = sym c.if-eq.ensures in (
      name_taken (book_of c.args.self.now) (has_place c.args.self.now) b held c.if-not-in_order.ensures named there ∙ ap (λ t. cond t None (Some 7)) (sym (blocks held b) ∙ equal),
      sym there ∙ ap Some ((equal_blocks held b).0 equal),
    )

pub returns-in-Some-2 : goal.returns-in-Some-2
returns-in-Some-2 c =
    let b = c.args.block in
    let held = c.in-Some.held in
    let named = c.if-not-holds_named.ensures ∙ ap (λ bs. named_held (find bs) b) c.shelf.ensures.blocks in
    let there = c.in-Some.ensures ∙ ap (book_of c.args.self.now) c.name.ensures in
    name_taken (book_of c.args.self.now) (has_place c.args.self.now) b held c.if-not-in_order.ensures named there ∙ ap (λ t. cond t None (Some 7)) (sym (blocks held b) ∙ sym c.if-eq.ensures)
