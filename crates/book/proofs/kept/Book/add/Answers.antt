use Rattle.std.proofs.Common.{◌≡◌, rules, sym, ap, ◌∙◌, Ok, subst}
use Rattle.model.specs.declared.answers.Added.TheVariants.{New}
use Rattle.model.specs.Books.{AddDone}
use Rattle.book.specs.Places.{find}
use Rattle.book.specs.Meaning.{blocks_of, book_of, has_place, Judged}
use Rattle.book.proofs.Finds.{find_push}
use Rattle.book.proofs.Adding.{new_joins}
use Rattle.book.proofs.kept.Book.add.Goals as goal

pub take_up-requires-clause-joins : goal.take_up-requires-clause-joins
take_up-requires-clause-joins c =
    let K = book_of c.args.self.now in
    let room = has_place c.args.self.now in
    let new : c.in_ok-answer.answer ≡ New = search rules in
    let j = subst (λ a. Judged K room c.args.block (Ok a)) new c.in_ok-answer.ensures in
    new_joins K room c.args.block j.0 j.1

pub returns-then-eq-clause-answer : goal.returns-then-eq-clause-answer
returns-then-eq-clause-answer c =
    let new : c.in_ok-answer.answer ≡ New = search rules in
    let K = book_of c.args.self.now in
    let K' = book_of c.take_up.new.self in
    let b = c.args.block in
    let j = subst (λ a. Judged K (has_place c.args.self.now) b (Ok a)) new c.in_ok-answer.ensures in
    let done : AddDone K K' b New = (j.1, λ n. ap (λ l. find l n) c.take_up.ensures.blocks ∙ find_push (blocks_of c.args.self.now) b n j.1) in
    (j.0, subst (AddDone K K' b) (sym new) done)
