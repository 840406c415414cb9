-- Entering a mask, and giving the second vote with the first quorum, keeps the clauses of every broadcast.
use Rattle.std.proofs.Common.{◌≡◌, ℕ, Bool, true, false, cond, not, ◌⊎◌, List, [], ◌∷◌, is_some, Some, None, Ok, Err, Option, Result, refl, inl, inr, ⊎_elim}
use Rattle.std.proofs.lemmas.Bool.{and_parts}
use Rattle.model.specs.declared.names.Name.{Name}
use Rattle.model.specs.declared.refusals.Refusal.{Refusal}
use Rattle.model.specs.declared.votes.Grade.{Grade}
use Rattle.model.specs.declared.votes.Grade.TheVariants.{One, Two}
use Rattle.model.specs.declared.votes.SecondVote.{SecondVote}
use Rattle.model.specs.declared.votes.SecondVote.TheVariants.{Waiting, Given, Shut}
use Rattle.model.specs.Questions.{Question, Answered, first_no}
use Rattle.model.specs.Quorums.{has, quorum, Quorum}
use Rattle.model.specs.Ledgers.{at, under}
use Rattle.model.specs.Broadcasts.{Meaning, ledger, Asking, hear_questions, entered, newly, given, heard, Hears}
use Rattle.model.proofs.Ledgers.{at_enter}
use Rattle.model.proofs.Clash.{clash}

entries : (m : Meaning) (g : Grade) (x : Name) (k : ℕ) (h : Grade) (i : ℕ)
    → (at (ledger (entered m g x k) h) i ≡ at (ledger m h) i)
    ⊎ ((h ≡ g) × (has k i ≡ true) × (at (ledger m h) i ≡ None) × (at (ledger (entered m g x k) h) i ≡ Some x))
entries m One x k One i = ⊎_elim (λ e. inl e) (λ e. inr (refl, e.0, e.1, e.2)) (at_enter x k m.one i)
entries m One x k Two i = inl refl
entries m Two x k One i = inl refl
entries m Two x k Two i = ⊎_elim (λ e. inl e) (λ e. inr (refl, e.0, e.1, e.2)) (at_enter x k m.two i)

-- the second vote is given, or stays
gives : (m : Meaning) (g : Grade) (x : Name) (k : ℕ) (v : SecondVote) (b : Bool) → newly m g x k ≡ b
    → (cond b (given g v x) v ≡ v)
    ⊎ ((v ≡ Waiting) × ((y : Name) × (cond b (given g v x) v ≡ Given y) × Quorum m.numbers (under y (entered m g x k).one)))
gives m g x k v false e = inl refl
gives m Two x k v true e = inl refl
gives m One x k Waiting true e =
    inr (refl, (x, refl, (and_parts (not (quorum m.numbers (under x m.one))) (quorum m.numbers (under x (entered m One x k).one)) e).1))
gives m One x k (Given y) true e = inl refl
gives m One x k Shut true e = inl refl

pub same_ledger : (m : Meaning) (g : Grade) (x : Name) (k : ℕ) (h : Grade) → ledger (heard m g x k) h ≡ ledger (entered m g x k) h
same_ledger m g x k One = refl
same_ledger m g x k Two = refl

pub heard_keeps : (m : Meaning) (g : Grade) (x : Name) (k : ℕ) (send : Option ℕ)
    → (send ≡ None) ⊎ ((send ≡ Some (under x (ledger (heard m g x k) g))) × (is_some m.first ≡ true))
    → Hears m g x k send (heard m g x k)
heard_keeps m g x k send out =
    record {
      numbers = refl;
      view = refl;
      first = refl;
      entries = λ h i. rw (same_ledger m g x k h) (entries m g x k h i);
      second = gives m g x k m.second (newly m g x k) refl;
      sent = out;
    }

-- an answer that says more
pub answered_more : {W A : Type 0} (qs : List Question) (old new : W) (P Q : A → Type 0) (r : Result A Refusal)
    → (first_no qs ≡ None → (a : A) → P a → Q a) → Answered qs old new P r → Answered qs old new Q r
answered_more qs old new P Q (Ok a) f h = (h.0, f h.0 a h.1)
answered_more qs old new P Q (Err e) f h = h

-- no refusal of a Hear: both questions are answered yes
pub accepted : (fits free : Asking) (m : Meaning) (g : Grade) (x : Name) (k : ℕ) → first_no (hear_questions fits free m g x k) ≡ None
    → (fits m g x k ≡ true) × (free m g x k ≡ true)
accepted fits free m g x k = both (fits m g x k) (free m g x k)
  where
    both : (a b : Bool) → first_no ((13, a) ∷ (14, b) ∷ []) ≡ None → (a ≡ true) × (b ≡ true)
    both true true h = (refl, refl)
    both true false h = clash cc
    both false b h = clash cc
