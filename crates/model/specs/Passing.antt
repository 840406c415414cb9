-- The calls that begin and end a view, Start, Probe and Leave, and Take: questions, effect, promise. Assumes nothing.
use Rattle.std.specs.Prelude.{◌≡◌, ℕ, ◌+◌, max, Bool, true, false, cond, ◌||◌, List, [], ◌∷◌, replicate, Some, None, Option, Result, ◌==◌, nat_lt}
use Rattle.model.specs.declared.numbers.Numbers.{Numbers}
use Rattle.model.specs.declared.votes.SecondVote.{SecondVote}
use Rattle.model.specs.declared.votes.SecondVote.TheVariants.{Waiting, Given, Shut}
use Rattle.model.specs.declared.states.State.{State}
use Rattle.model.specs.declared.states.Sent.{Sent}
use Rattle.model.specs.declared.states.Probed.{Probed}
use Rattle.model.specs.declared.states.Probed.TheVariants.{Adopt, NoAdopt}
use Rattle.model.specs.declared.refusals.Refusal.{Refusal}
use Rattle.model.specs.Questions.{Question, Answered, Judged}
use Rattle.model.specs.Quorums.{start_questions}
use Rattle.model.specs.Broadcasts.{opened, closed}
use Rattle.model.specs.Certifying.{genesis_certificate}
use Rattle.model.specs.Stations.{Core, Desk, Post, numbers, view, height, adopts, two_free, with_cast, with_core, posted, own_claim, own_certificate}

-- ---- Start

-- genesis certified, no claim kept, no ground given
abbrev pub first_state : State
first_state = record { highest = genesis_certificate; target = genesis_certificate; claims = replicate 28 None; grounded = false }

-- a new station with these numbers, in view 1
abbrev pub new_station : Numbers → Core
new_station s = record { state = first_state; cast = opened s 1 }

abbrev pub Started : ℕ → ℕ → Core → Type 0
Started f own c = ((numbers c).f ≡ f) × ((numbers c).own ≡ own) × (c ≡ new_station (numbers c))

-- `core` tells what a station of whatever type S is
abbrev pub StartCall : {S : Type 0} → (S → Core) → ℕ → ℕ → Result S Refusal → Type 0
StartCall core f own = Judged (start_questions f own) (λ s. Started f own (core s))

-- ---- Probe

abbrev pub probe_questions : Desk → List Question
probe_questions d = (16, two_free d) ∷ []

abbrev pub probe_answer : Core → Probed
probe_answer c = cond (adopts c) (Adopt c.state.highest) (NoAdopt (height c))

-- a station that does not adopt shows its highest certificate, unless that is genesis, and states its claim
abbrev pub probe_posts : Core → List Post
probe_posts c = cond (adopts c) [] (cond (height c == 0) (own_claim c ∷ []) (own_certificate c ∷ own_claim c ∷ []))

-- and shuts its second vote
abbrev pub probing : Core → Core
probing c = cond (adopts c) c (with_cast (closed c.cast) c)

abbrev pub ProbeCall : Desk → Desk → Result Probed Refusal → Type 0
ProbeCall d d' = Answered (probe_questions d) d d'
    (λ a. (a ≡ probe_answer d.core) × (d' ≡ posted (probe_posts d.core) (with_core (probing d.core) d)))

-- ---- Leave

abbrev pub is_shut : SecondVote → Bool
is_shut Waiting = false
is_shut (Given x) = false
is_shut Shut = true

-- the view after the larger of view and height
abbrev pub next_view : Core → ℕ
next_view c = max (view c) (height c) + 1

abbrev pub leave_questions : Desk → List Question
leave_questions d =
    (16, two_free d)
    ∷ (17, is_shut d.core.cast.second || adopts d.core)
    ∷ (18, nat_lt (next_view d.core) 268435456)
    ∷ []

-- a station that had reached the old view shows its highest certificate
abbrev pub leave_posts : Core → List Post
leave_posts c = cond (adopts c) (own_certificate c ∷ []) []

-- in the new view nothing is heard, no claim kept and no ground given
abbrev pub dropping : State → State
dropping s = record { highest = s.highest; target = s.target; claims = replicate 28 None; grounded = false }

abbrev pub leaving : Core → Core
leaving c = record { state = dropping c.state; cast = opened (numbers c) (next_view c) }

abbrev pub LeaveCall : Desk → Desk → Result ℕ Refusal → Type 0
LeaveCall d d' = Answered (leave_questions d) d d'
    (λ v. (v ≡ next_view d.core) × (d' ≡ posted (leave_posts d.core) (with_core (leaving d.core) d)))

-- ---- Take: the oldest message leaves the outbox, if there is one

abbrev pub TakeCall : List Sent → List Sent → Option Sent → Type 0
TakeCall [] out' r = (r ≡ None) × (out' ≡ [])
TakeCall (m ∷ ms) out' r = (r ≡ Some m) × (out' ≡ ms)
