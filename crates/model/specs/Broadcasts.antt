-- What one view's broadcast means, what its calls do, and the clauses that every broadcast keeps. Assumes nothing.
use Rattle.std.specs.Prelude.{◌≡◌, ℕ, Bool, true, false, cond, not, ◌⊎◌, List, [], ◌∷◌, is_some, Some, None, Option, Result}
use Rattle.model.specs.declared.names.Name.{Name}
use Rattle.model.specs.declared.numbers.Numbers.{Numbers}
use Rattle.model.specs.declared.refusals.Refusal.{Refusal}
use Rattle.model.specs.declared.votes.Grade.{Grade}
use Rattle.model.specs.declared.votes.Grade.TheVariants.{One, Two}
use Rattle.model.specs.declared.votes.SecondVote.{SecondVote}
use Rattle.model.specs.declared.votes.SecondVote.TheVariants.{Waiting, Given}
use Rattle.model.specs.declared.votes.Event.TheVariants.{HeardQuorum, Shutting}
use Rattle.model.specs.Questions.{Question, Answered}
use Rattle.model.specs.Quorums.{has, Quorum, first_quorum}
use Rattle.model.specs.Votes.{after}
use Rattle.model.specs.Ledgers.{Ledger, empty, at, under, enter, full}

-- the numbers of Start, a view, the two votes, and a ledger for each grade
pub record Meaning : Type 0 where
  pub numbers : Numbers
  pub view : ℕ
  pub first : Option Name
  pub second : SecondVote
  pub one : Ledger
  pub two : Ledger

abbrev pub ledger : Meaning → Grade → Ledger
ledger m One = m.one
ledger m Two = m.two

-- the view is complete for the name: ledger 2 holds a quorum under it
abbrev pub complete : Meaning → Name → Bool
complete m x = full m.numbers m.two x

-- for which name the view is complete, if it is for one
abbrev pub Completed : Meaning → Option Name → Type 0
Completed m None = (x : Name) → complete m x ≡ false
Completed m (Some x) = complete m x ≡ true

-- Open: a view, no first vote, a waiting second vote and empty ledgers.
abbrev pub opened : Numbers → ℕ → Meaning
opened s v = record { numbers = s; view = v; first = None; second = Waiting; one = empty; two = empty }

-- Offer: the name becomes the first vote, where there is none.
abbrev pub offer_questions : Meaning → List Question
offer_questions m = (15, not (is_some m.first)) ∷ []

abbrev pub voted : Meaning → Name → Meaning
voted m x = record { numbers = m.numbers; view = m.view; first = Some x; second = m.second; one = m.one; two = m.two }

abbrev pub OfferAnswered : Meaning → Name → Meaning → Result (Unit {0}) Refusal → Type 0
OfferAnswered m x m' = Answered (offer_questions m) m m' (λ _. m' ≡ voted m x)

-- Shut: a waiting second vote becomes shut.
abbrev pub closed : Meaning → Meaning
closed m = record { numbers = m.numbers; view = m.view; first = m.first; second = after m.second Shutting; one = m.one; two = m.two }

-- Hear: a make asks whether mask and name fit it, and whether their places are free.
abbrev pub Asking : Type 0
Asking = Meaning → Grade → Name → ℕ → Bool

abbrev pub hear_questions : Asking → Asking → Meaning → Grade → Name → ℕ → List Question
hear_questions fits free m g x k = (13, fits m g x k) ∷ (14, free m g x k) ∷ []

-- a make's own relation of an accepted Hear, to the mask to send and the meaning after it
abbrev pub Hearing : Type 1
Hearing = Meaning → Grade → Name → ℕ → Option ℕ → Meaning → Type 0

abbrev pub HearAnswered : Asking → Asking → Hearing → Meaning → Grade → Name → ℕ → Meaning → Result (Option ℕ) Refusal → Type 0
HearAnswered fits free hears m g x k m' = Answered (hear_questions fits free m g x k) m m' (λ send. hears m g x k send m')

-- The clauses of an accepted Hear, in every make.
pub record Hears (m : Meaning) (g : Grade) (x : Name) (k : ℕ) (send : Option ℕ) (m' : Meaning) : Type 0 where
  pub numbers : m'.numbers ≡ m.numbers
  pub view : m'.view ≡ m.view
  pub first : m'.first ≡ m.first
  -- no entry is altered, and only stations of the mask are entered, under this name in this ledger
  pub entries : (h : Grade) (i : ℕ) → (at (ledger m' h) i ≡ at (ledger m h) i)
      ⊎ ((h ≡ g) × (has k i ≡ true) × (at (ledger m h) i ≡ None) × (at (ledger m' h) i ≡ Some x))
  -- a waiting second vote is given only for a name under which ledger 1 then holds a quorum
  pub second : (m'.second ≡ m.second)
      ⊎ ((m.second ≡ Waiting) × ((y : Name) × (m'.second ≡ Given y) × Quorum m.numbers (under y m'.one)))
  -- a mask to send is that of this ledger, and never without a first vote
  pub sent : (send ≡ None) ⊎ ((send ≡ Some (under x (ledger m' g))) × (is_some m.first ≡ true))

-- the make keeps the clauses
abbrev pub Keeps : Asking → Asking → Hearing → Type 0
Keeps fits free hears =
    (m : Meaning) (g : Grade) (x : Name) (k : ℕ) (send : Option ℕ) (m' : Meaning)
    → fits m g x k ≡ true → free m g x k ≡ true → hears m g x k send m' → Hears m g x k send m'

-- What both makes do in an accepted Hear: the stations of the mask are entered under the name in that ledger,
abbrev pub entered : Meaning → Grade → Name → ℕ → Meaning
entered m One x k = record { numbers = m.numbers; view = m.view; first = m.first; second = m.second; one = enter x k m.one; two = m.two }
entered m Two x k = record { numbers = m.numbers; view = m.view; first = m.first; second = m.second; one = m.one; two = enter x k m.two }

-- whether that ledger then first holds a quorum under the name,
abbrev pub newly : Meaning → Grade → Name → ℕ → Bool
newly m g x k = first_quorum m.numbers (under x (ledger m g)) (under x (ledger (entered m g x k) g))

-- and if so, a waiting second vote is given where the grade is 1.
abbrev pub given : Grade → SecondVote → Name → SecondVote
given One v x = after v (HeardQuorum x)
given Two v x = v

abbrev pub heard : Meaning → Grade → Name → ℕ → Meaning
heard m g x k = record {
  numbers = m.numbers;
  view = m.view;
  first = m.first;
  second = cond (newly m g x k) (given g m.second x) m.second;
  one = (entered m g x k).one;
  two = (entered m g x k).two;
}
