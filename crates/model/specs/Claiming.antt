-- The calls Claim, which keeps a claim, and Ground, which goes by the kept ones: questions, effect, promise. Assumes nothing.
use Rattle.std.specs.Prelude.{◌≡◌, ℕ, ◌+◌, true, not, ◌&&◌, ◌||◌, List, [], ◌∷◌, is_some, Some, None, Result, ◌==◌, nat_le, nat_lt, slice_index_or, slice_set}
use Rattle.model.specs.declared.statements.Certificate.{Certificate}
use Rattle.model.specs.declared.statements.Claim.{Claim}
use Rattle.model.specs.declared.states.State.{State}
use Rattle.model.specs.declared.refusals.Refusal.{Refusal}
use Rattle.model.specs.Questions.{Question, Answered}
use Rattle.model.specs.Quorums.{stations, leads, quorum}
use Rattle.model.specs.Claims.{keepers}
use Rattle.model.specs.Ranges.{station_fits, view_fits}
use Rattle.model.specs.Stations.{Core, numbers, view, height, with_state}

-- ---- Claim: a claim of the view before the current one

abbrev pub claim_questions : Core → Claim → List Question
claim_questions c x =
    (2, station_fits (numbers c) x.station)
    ∷ (3, view_fits x.view && nat_lt x.height x.view)
    ∷ (4, nat_le (view c) (x.view + 1))
    ∷ (5, nat_le (x.view + 1) (view c))
    ∷ (11, nat_le x.height (height c))
    ∷ (14, not (is_some (slice_index_or c.state.claims x.station None)))
    ∷ []

abbrev pub keeping : Claim → State → State
keeping x s = record { highest = s.highest; target = s.target; claims = slice_set s.claims x.station (Some x.height); grounded = s.grounded }

abbrev pub ClaimCall : Core → Claim → Core → Result (Unit {0}) Refusal → Type 0
ClaimCall c x c' = Answered (claim_questions c x) c c' (λ _. c' ≡ with_state (keeping x c.state) c)

-- ---- Ground: the right to propose once in the view, on the highest certificate

-- what a ground tells
pub record Grounds : Type 0 where
  pub view : ℕ
  pub parent : Certificate

abbrev pub ground_questions : Core → List Question
ground_questions c =
    (19, leads (numbers c) (view c) && not c.state.grounded)
    ∷ (20, (height c + 1 == view c) || (nat_lt (height c + 1) (view c) && quorum (numbers c) (keepers (stations (numbers c)) c.state.claims)))
    ∷ []

abbrev pub grounds_of : Core → Grounds
grounds_of c = record { view = view c; parent = c.state.highest }

abbrev pub granting : State → State
granting s = record { highest = s.highest; target = s.target; claims = s.claims; grounded = true }

-- `tells` reads a ground of whatever type G
abbrev pub GroundCall : {G : Type 0} → (G → Grounds) → Core → Core → Result G Refusal → Type 0
GroundCall tells c c' = Answered (ground_questions c) c c' (λ g. (tells g ≡ grounds_of c) × (c' ≡ with_state (granting c.state) c))
