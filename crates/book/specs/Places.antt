-- Blocks in the order of their places, read as a book, and what these blocks keep. Assumes nothing.
-- That a block names only blocks at lower places follows from `Sound` alone, in proofs/Lower.antt.
use Rattle.std.specs.Prelude.{◌≡◌, ℕ, ◌<◌, Bool, true, cond, not, ◌&&◌, List, [], ◌∷◌, length, take, is_some, Some, None, Option, MatchOption}
use Rattle.std.specs.List.{slice_get}
use Rattle.model.specs.Names.{same}
use Rattle.model.specs.Blocks.{name_of}
use Rattle.model.specs.Books.{Book, in_order, named_held}
use Rattle.model.specs.declared.names.Name.{Name}
use Rattle.model.specs.declared.blocks.Block.{Block}

-- the block of that name
abbrev pub find : List Block → Book
find [] n = None
find (b ∷ bs) n = cond (same (name_of b) n) (Some b) (find bs n)

-- a block that the book may take up: its numbers are in order, its name is new, and what it names is held
abbrev pub joins : Book → Block → Bool
joins K b = in_order b && (not (is_some (K (name_of b))) && named_held K b)

-- each block may join the blocks before it
abbrev pub Sound : List Block → Type 0
Sound bs = (i : ℕ) (b : Block) → slice_get bs i ≡ Some b → joins (find (take i bs)) b ≡ true

-- r is the place of the block of that name
abbrev pub Placed : List Block → Name → Option ℕ → Type 0
Placed bs n r = MatchOption r (find bs n ≡ None) (λ i. (i < length bs) × (find bs n ≡ slice_get bs i))
