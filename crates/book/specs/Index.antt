-- An index of places, sorted by the names that stand there. Assumes nothing.
use Rattle.std.specs.Prelude.{◌≡◌, ℕ, ◌+◌, ◌<◌, ◌≤◌, Bool, true, false, ◌||◌, List, [], ◌∷◌, length, Some, None, Option, Result, MatchResult, ◌==◌, slice_index}
use Rattle.std.specs.List.{slice_get}
use Rattle.model.specs.Blocks.{name_of}
use Rattle.model.specs.Books.{genesis}
use Rattle.model.specs.Orders.{name_before}
use Rattle.model.specs.declared.names.Name.{Name}
use Rattle.model.specs.declared.blocks.Block.{Block}

abbrev pub name_there : Option Block → Name
name_there None = genesis
name_there (Some b) = name_of b

-- the name at the place that stands at k in the index
abbrev pub key : List Block → List ℕ → ℕ → Name
key bs ix k = name_there (slice_get bs (slice_index ix k))

abbrev pub stands : List ℕ → ℕ → Bool
stands [] p = false
stands (x ∷ xs) p = x == p || stands xs p

-- each entry is a place
abbrev pub Ranged : List Block → List ℕ → Type 0
Ranged bs ix = (k : ℕ) → k < length ix → slice_index ix k < length bs

-- the names rise
abbrev pub Rises : List Block → List ℕ → Type 0
Rises bs ix = (k : ℕ) → k + 1 < length ix → name_before (key bs ix k) (key bs ix (k + 1)) ≡ true

-- no place is left out
abbrev pub Covers : List Block → List ℕ → Type 0
Covers bs ix = (p : ℕ) → p < length bs → stands ix p ≡ true

pub record Indexed (bs : List Block) (ix : List ℕ) : Type 0 where
  pub ranged : Ranged bs ix
  pub rises : Rises bs ix
  pub covers : Covers bs ix

-- where a name stands in the index, or where it would
abbrev pub Sought : List Block → List ℕ → Name → Result ℕ ℕ → Type 0
Sought bs ix n r = MatchResult r
    (λ k. (k < length ix) × (key bs ix k ≡ n))
    (λ k. (k ≤ length ix) × ((j : ℕ) → j < k → name_before (key bs ix j) n ≡ true) × ((j : ℕ) → k ≤ j → j < length ix → name_before n (key bs ix j) ≡ true))
