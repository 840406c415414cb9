-- A table of questions in two parts.
use Rattle.std.proofs.Common.{◌≡◌, ℕ, Bool, true, false, cond, List, [], ◌∷◌, ◌++◌, Some, None, Option, refl}
use Rattle.model.specs.Questions.{Question, first_no}
use Rattle.model.proofs.Clash.{clash}

no_answer : {A : Type 0} (k : ℕ) → ◌≡◌ {A = Option ℕ} (Some k) None → A
no_answer k h = clash cc

-- where the first part is answered yes, the second answers
pub first_yes : (a b : List Question) → first_no a ≡ None → first_no (a ++ b) ≡ first_no b
first_yes [] b h = refl
first_yes (q ∷ qs) b h = go q.1 (first_yes qs b) h
  where
    go : (t : Bool) → (first_no qs ≡ None → first_no (qs ++ b) ≡ first_no b) → cond t (first_no qs) (Some q.0) ≡ None
        → cond t (first_no (qs ++ b)) (Some q.0) ≡ first_no b
    go true rest k = rest k
    go false rest k = no_answer q.0 k

-- a no in the first part stands
pub first_stands : (a b : List Question) (n : ℕ) → first_no a ≡ Some n → first_no (a ++ b) ≡ Some n
first_stands [] b n h = clash cc
first_stands (q ∷ qs) b n h = go q.1 (first_stands qs b n) h
  where
    go : (t : Bool) → (first_no qs ≡ Some n → first_no (qs ++ b) ≡ Some n) → cond t (first_no qs) (Some q.0) ≡ Some n
        → cond t (first_no (qs ++ b)) (Some q.0) ≡ Some n
    go true rest k = rest k
    go false rest k = k
