-- The number of each type of message. Assumes nothing.
use Rattle.std.specs.Prelude.{◌≡◌, ◌≢◌, ℕ, Result, MatchResult}
use Rattle.model.specs.Refusals.{number}
use Rattle.model.specs.declared.refusals.Refusal.{Refusal}
use Rattle.words.specs.declared.types.MessageType.{MessageType}
use Rattle.words.specs.declared.types.MessageType.TheVariants.{Side, Backbone, Offer, Voices, Certificate, Claim, Probe, Leave}

abbrev pub type_number : MessageType → ℕ
type_number Side = 1
type_number Backbone = 2
type_number Offer = 3
type_number Voices = 4
type_number Certificate = 5
type_number Claim = 6
type_number Probe = 7
type_number Leave = 8

-- the type of that number, or 24 where there is none
abbrev pub IsTypeOf : ℕ → Result MessageType Refusal → Type 0
IsTypeOf t r = MatchResult r (λ m. type_number m ≡ t) (λ e. (number e ≡ 24) × ((m : MessageType) → type_number m ≢ t))
