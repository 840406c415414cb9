-- Names compare as the rules say, an entry with a name too, and what each make keeps for a grade is that ledger of its meaning.
use Rattle.std.proofs.Common.{◌≡◌, ℕ, ◌^◌, not, is_some, Some, None, Option, refl, ap, ◌∙◌, rules}
use Rattle.std.specs.Option.{option_eq}
use Rattle.model.specs.declared.names.Name.{Name}
use Rattle.model.specs.declared.votes.Grade.{Grade}
use Rattle.model.specs.declared.votes.Grade.TheVariants.{One, Two}
use Rattle.model.specs.contracts.names.NamePartialEq.TheImpl as name_impl
use Rattle.model.specs.Names.{same}
use Rattle.model.specs.Ledgers.{Ledger, at, is, enter, clear}
use Rattle.model.specs.Broadcasts.{ledger, entered}
use Rattle.model.proofs.Ledgers.{clear_at}
use Rattle.broadcast.specs.Ballots.{told}
use Rattle.broadcast.specs.Grades.{of, put}
use Rattle.broadcast.specs.declared.ballots.Ballot.{Ballot}
use Rattle.broadcast.specs.declared.grades.PerGrade.{PerGrade}

pub same_turned : (x y : Name) → same x y ≡ same y x
same_turned x y = search rules

pub entry_is : (x : Name) (e : Option Name) → option_eq name_impl.ghosts.eq e (Some x) ≡ is x e
entry_is x None = refl
entry_is x (Some y) = same_turned y x

-- what is kept for a grade, which f reads as a ledger
module _ {T : Type 0} (f : T → Ledger) (b : Ballot) (p : PerGrade T) where
  pub ledger_of : (g : Grade) → ledger (told b (f p.one) (f p.two)) g ≡ f (of p g)
  ledger_of One = refl
  ledger_of Two = refl

  pub put_enters : (g : Grade) (x : Name) (k : ℕ) (t : T) → f t ≡ enter x k (f (of p g))
      → told b (f (put p g t).one) (f (put p g t).two) ≡ entered (told b (f p.one) (f p.two)) g x k
  put_enters One x k t e = ap (λ l. told b l (f p.two)) e
  put_enters Two x k t e = ap (told b (f p.one)) e

  pub of_put : (g : Grade) (t : T) → of (put p g t) g ≡ t
  of_put One t = refl
  of_put Two t = refl

-- what holds of each that is kept, and of the one that is put in another's place, holds of each then
pub put_each : {T : Type 0} (P : T → Type 0) (p : PerGrade T) (g : Grade) (t : T) → P t → ((h : Grade) → P (of p h)) → (h : Grade) → P (of (put p g t) h)
put_each P p One t here all One = here
put_each P p One t here all Two = all Two
put_each P p Two t here all One = all One
put_each P p Two t here all Two = here

-- whether the place of a mask's one station is free, of all-to-all
pub free_at : (b : Ballot) (p : PerGrade Ledger) (g : Grade) (k i : ℕ) → k ≡ 2 ^ i → clear k (ledger (told b p.one p.two) g) ≡ not (is_some (at (of p g) i))
free_at b p g k i e = ap (clear k) (ledger_of (λ l. l) b p g) ∙ clear_at (of p g) k i e
