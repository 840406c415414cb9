use Rattle.std.proofs.Common.{◌≡◌, ℕ, ◌≤◌, List, None, Some, length, ap, ◌∙◌, sym, subst, rules}
use Rattle.std.specs.Option.{ok_or}
use Rattle.std.specs.Result.{result_ok}
use Rattle.std.proofs.lemmas.Option.{MatchOption-at_none, MatchOption-at_some}
use Rattle.std.proofs.lemmas.Result.{err_from_is_err_and}
use Rattle.model.specs.Refusals.{number}
use Rattle.model.specs.declared.refusals.Refusal.TheVariants.{NotWhole}
use Rattle.words.specs.Messages.{Lies, said}
use Rattle.words.proofs.Wholes.{wrongly, whole}
use Rattle.words.proofs.reading.read.Goals as goal

pub returns-in_err-body : goal.returns-in_err-body
returns-in_err-body c =
    let ws = c.args.words.now in
    let h : 1 ≤ length ws = search rules in
    let none : c.behind.result ≡ None = c.ok_or.ensures.ok_part ∙ ap result_ok c.in_err-body.was in
    let p = err_from_is_err_and c.from_residual.result c.from_residual.ensures.1 in
    let e = sym c.in_err-body.was ∙ c.ok_or.ensures.value ∙ ap (λ o. ok_or o NotWhole) none in
    let n : number p.0 ≡ 24 = search rules in
    rw p.1 (n, wrongly ws h (MatchOption-at_none _ _ none c.behind.ensures))

pub returns : goal.returns
returns c =
    let ws = c.args.words.now in
    let h : 1 ≤ length ws = search rules in
    let body = c.in_ok-body.body in
    let some : c.behind.result ≡ Some body = c.ok_or.ensures.ok_part ∙ ap result_ok c.in_ok-body.was in
    let b = MatchOption-at_some _ _ body some c.behind.ensures in
    whole ws body.layout _ h b.0 (subst (λ (xs : List ℕ). Lies body.layout (said c.message.result) xs) b.1 c.message.ensures)
