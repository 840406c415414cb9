-- Masks of stations, and what a quorum is by the numbers of Start. Assumes nothing.
use Rattle.std.specs.Prelude.{◌≡◌, ℕ, ◌+◌, ◌-◌, ◌*◌, ◌/◌, ◌%◌, ◌^◌, ◌<◌, ◌≤◌, Bool, true, false, not, ◌&&◌, List, [], ◌∷◌, ◌==◌, bit_and, count_ones, nat_le, nat_lt}
use Rattle.model.specs.declared.numbers.Numbers.{Numbers}
use Rattle.model.specs.Questions.{Question}

-- the question of Start
abbrev pub start_questions : ℕ → ℕ → List Question
start_questions f own = (1, nat_le 1 f && (nat_le f 9 && nat_le own (3 * f))) ∷ []

-- how many stations there are
abbrev pub stations : Numbers → ℕ
stations s = 3 * s.f + 1

-- the station that leads a view
abbrev pub leader : Numbers → ℕ → ℕ
leader s v = v % stations s

-- this station leads the view
abbrev pub leads : Numbers → ℕ → Bool
leads s v = leader s v == s.own

-- station i is in the mask m
abbrev pub has : ℕ → ℕ → Bool
has m i = m / 2 ^ i % 2 == 1

-- the mask has no bit from the number of stations up
abbrev pub within : Numbers → ℕ → Bool
within s m = nat_lt m (2 ^ stations s)

-- the mask has exactly one station
abbrev pub single : Numbers → ℕ → Bool
single s m = count_ones m == 1 && within s m

-- The measure of a mask, how much of it a quorum needs, and how much of it may lie.
-- Whatever is said of quorums goes by these three.
abbrev pub weight : Numbers → ℕ → ℕ
weight s m = count_ones m

abbrev pub needed : Numbers → ℕ
needed s = 2 * s.f + 1

abbrev pub tolerated : Numbers → ℕ
tolerated s = s.f

-- the mask holds a quorum
abbrev pub quorum : Numbers → ℕ → Bool
quorum s m = nat_le (needed s) (weight s m) && within s m

abbrev pub Quorum : Numbers → ℕ → Type 0
Quorum s m = quorum s m ≡ true

-- a mask that grew holds a quorum now that it did not hold
abbrev pub first_quorum : Numbers → ℕ → ℕ → Bool
first_quorum s before then = not (quorum s before) && quorum s then

-- no more lie than may
abbrev pub Few : Numbers → ℕ → Type 0
Few s liars = (within s liars ≡ true) × (weight s liars ≤ tolerated s)

-- station i is one, and does not lie
abbrev pub Correct : Numbers → ℕ → ℕ → Type 0
Correct s liars i = (i < stations s) × (has liars i ≡ false)

-- the mask of the stations that do not lie
abbrev pub honest : Numbers → ℕ → ℕ
honest s liars = 2 ^ stations s - 1 - liars

-- two stations of one start: the same numbers, but for their own
abbrev pub Alike : Numbers → Numbers → Type 0
Alike s t = s.f ≡ t.f

-- All that later proofs may use of quorums.
pub record QuorumLaws : Type 0 where
  -- Any two quorums share more than may lie, hence a station that does not.
  pub share : (s : Numbers) (a b : ℕ) → Quorum s a → Quorum s b → tolerated s < weight s (bit_and a b)
  pub meet : (s : Numbers) (liars a b : ℕ) → Few s liars → Quorum s a → Quorum s b
      → (i : ℕ) × (Correct s liars i) × (has a i ≡ true) × (has b i ≡ true)
  -- The stations that do not lie are a quorum, and so is every mask that has them all.
  pub correct : (s : Numbers) (liars : ℕ) → Few s liars → Quorum s (honest s liars)
  pub enough : (s : Numbers) (liars m : ℕ) → Few s liars → within s m ≡ true → ((i : ℕ) → Correct s liars i → has m i ≡ true) → Quorum s m

-- What masks are, station by station, and that stations of one start go by the same.
pub record MaskLaws : Type 0 where
  pub members : (s : Numbers) (m i : ℕ) → within s m ≡ true → has m i ≡ true → i < stations s
  pub honestly : (s : Numbers) (liars : ℕ) → Few s liars → (i : ℕ) → i < stations s → has (honest s liars) i ≡ not (has liars i)
  pub alike : (s t : Numbers) → Alike s t
      → ((m : ℕ) → quorum s m ≡ quorum t m) × ((m : ℕ) → Few s m → Few t m) × ((v : ℕ) → leader s v ≡ leader t v) × (stations s ≡ stations t)
