-- Marks beside the places of a book's blocks, and the next line among the marked ones: inner matters of listing a block. Assumes nothing.
use Rattle.std.specs.Prelude.{◌≡◌, ℕ, ◌<◌, ◌≤◌, Bool, true, false, cond, not, ◌&&◌, ◌⊎◌, List, length, Some, count_by, Option, MatchOption, ◌≢◌, slice_index, slice_index_or}
use Rattle.std.specs.List.{slice_get}
use Rattle.model.specs.declared.names.Name.{Name}
use Rattle.model.specs.declared.blocks.SideBlock.{SideBlock}
use Rattle.model.specs.declared.blocks.Block.{Block}
use Rattle.model.specs.declared.blocks.Block.TheVariants.{Side}
use Rattle.model.specs.Names.{same}
use Rattle.model.specs.Blocks.{referred, name_of}
use Rattle.model.specs.Orders.{Before}
use Rattle.model.specs.Listing.{has, Reached}
use Rattle.book.specs.Places.{find}
use Rattle.listing.specs.declared.marks.MarkedShelf.{MarkedShelf}

abbrev pub mark : List Bool → ℕ → Bool
mark ms i = slice_index_or ms i false

-- how many places are marked
abbrev pub count : List Bool → ℕ
count ms = count_by (λ b. b) ms

-- the shelf is the same, and R holds of its blocks and of the marks before and after
pub record Remarked (R : List Block → List Bool → List Bool → Type 0) (m after : MarkedShelf) : Type 0 where
  pub shelf : after.shelf ≡ m.shelf
  pub marks : R m.shelf.blocks.now m.marked after.marked

-- exactly the places of the blocks whose name is in P are marked
pub record Marks (bs : List Block) (P : Name → Type 0) (ms : List Bool) : Type 0 where
  pub sound : (i : ℕ) → mark ms i ≡ true → (b : Block) × (slice_get bs i ≡ Some b) × P (name_of b)
  pub full : (i : ℕ) (b : Block) → slice_get bs i ≡ Some b → P (name_of b) → mark ms i ≡ true

-- after is ms but at the block of the name n, whose mark is now as `on` says
pub record Turned (bs : List Block) (n : Name) (on : Bool) (ms after : List Bool) : Type 0 where
  pub there : (i : ℕ) (b : Block) → slice_get bs i ≡ Some b → mark after i ≡ cond (same n (name_of b)) on (mark ms i)
  pub past : (i : ℕ) → length bs ≤ i → mark after i ≡ mark ms i

-- more has the marks of ms, and marks the blocks whose name is in P, and no other
pub record Adds (bs : List Block) (P : Name → Type 0) (ms more : List Bool) : Type 0 where
  pub keeps : (i : ℕ) → mark ms i ≡ true → mark more i ≡ true
  pub adds : (i : ℕ) (b : Block) → slice_get bs i ≡ Some b → P (name_of b) → mark more i ≡ true
  pub only : (i : ℕ) → mark more i ≡ true → (mark ms i ≡ true) ⊎ ((b : Block) × (slice_get bs i ≡ Some b) × P (name_of b))

-- the names that a block refers to
abbrev pub Among : List Name → Name → Type 0
Among names n = has names n ≡ true

-- what is marked is reached, the start is marked, and from the place i on what a marked block refers to is marked
pub record Spread (bs : List Block) (start : List Name) (i : ℕ) (ms : List Bool) : Type 0 where
  pub sound : (j : ℕ) → mark ms j ≡ true → (b : Block) × (slice_get bs j ≡ Some b) × Reached (find bs) start (name_of b)
  pub base : (j : ℕ) (b : Block) → slice_get bs j ≡ Some b → Among start (name_of b) → mark ms j ≡ true
  pub closed : (j : ℕ) (s : SideBlock) → i ≤ j → mark ms j ≡ true → slice_get bs j ≡ Some (Side s) → (k : ℕ) (c : Block) → slice_get bs k ≡ Some c → Among (referred s.references) (name_of c) → mark ms k ≡ true

-- reached and not listed yet
abbrev pub Pending : List Block → List Name → List Name → Name → Type 0
Pending bs start L n = Reached (find bs) start n × (has L n ≡ false)

-- the marks without those of the blocks that L lists
pub record Without (bs : List Block) (L : List Name) (ms less : List Bool) : Type 0 where
  pub there : (j : ℕ) (b : Block) → slice_get bs j ≡ Some b → mark less j ≡ (mark ms j && not (has L (name_of b)))
  pub past : (j : ℕ) → length bs ≤ j → mark less j ≡ mark ms j

-- the block of that name is marked
abbrev pub Marked : List Block → List Bool → Name → Type 0
Marked bs ms n = (k : ℕ) × (c : Block) × (slice_get bs k ≡ Some c) × (name_of c ≡ n) × (mark ms k ≡ true)

-- none of these is marked
abbrev pub Clear : List Block → List Bool → List Name → Type 0
Clear bs ms names = (n : Name) → Among names n → Marked bs ms n → ⊥

-- a marked side block that refers to no marked one
abbrev pub Candidate : List Block → List Bool → ℕ → SideBlock → Type 0
Candidate bs ms j s = (mark ms j ≡ true) × (slice_get bs j ≡ Some (Side s)) × Clear bs ms (referred s.references)

-- the places that are marked, below i, stand among the first n of w
pub record Gathered (ms : List Bool) (i : ℕ) (w : List ℕ) (n : ℕ) : Type 0 where
  pub within : (k : ℕ) → k < n → slice_index w k < length ms
  pub all : (j : ℕ) → j < i → mark ms j ≡ true → (k : ℕ) × (k < n) × (slice_index w k ≡ j)

-- r is the place and block of the first candidate, by the order, of those at the first i places of w
abbrev pub Best : Before → List Block → List Bool → List ℕ → ℕ → Option (ℕ × SideBlock) → Type 0
Best before bs ms w i r = MatchOption r
    ((k : ℕ) (t : SideBlock) → k < i → Candidate bs ms (slice_index w k) t → ⊥)
    (λ p. Candidate bs ms p.0 p.1 × ((k : ℕ) (t : SideBlock) → k < i → Candidate bs ms (slice_index w k) t → (slice_index w k ≢ p.0) → before p.1 t ≡ true))
