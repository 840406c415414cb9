-- A call's questions and its answer. Assumes nothing.
use Rattle.std.specs.Prelude.{◌≡◌, ℕ, Bool, cond, List, [], ◌∷◌, Some, None, Ok, Err, Option, Result}
use Rattle.model.specs.Refusals.{number}
use Rattle.model.specs.declared.refusals.Refusal.{Refusal}

-- a question: its number, and whether it is answered yes
abbrev pub Question : Type 0
Question = ℕ × Bool

-- the number of the first question that is answered no
abbrev pub first_no : List Question → Option ℕ
first_no [] = None
first_no (q ∷ qs) = cond q.1 (first_no qs) (Some q.0)

-- A call is accepted where no question is answered no, and then `done` holds of its answer;
-- else it is refused with the number of the first one, and what it may touch, `old` before it, is `new` and the same.
abbrev pub Answered : {W T : Type 0} → List Question → W → W → (T → Type 0) → Result T Refusal → Type 0
Answered questions old new done (Ok x) = (first_no questions ≡ None) × done x
Answered questions old new done (Err e) = (first_no questions ≡ Some (number e)) × (new ≡ old)

-- The same of a call that touches nothing.
abbrev pub Judged : {T : Type 0} → List Question → (T → Type 0) → Result T Refusal → Type 0
Judged questions done (Ok x) = (first_no questions ≡ None) × done x
Judged questions done (Err e) = first_no questions ≡ Some (number e)
