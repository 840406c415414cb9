-- What a book of blocks holds, what Add asks of a block, and what the book then holds.
-- A book is the block under each name, if it holds one; genesis stands in no book. Assumes nothing.
use Rattle.std.specs.Prelude.{◌≡◌, ℕ, ◌<◌, Bool, true, false, cond, not, ◌&&◌, ◌||◌, List, [], ◌∷◌, is_some, Some, None, Option, ◌==◌, nat_lt}
use Rattle.model.specs.Names.{same}
use Rattle.model.specs.Blocks.{referred, name_of, same_block}
use Rattle.model.specs.Questions.{Question}
use Rattle.model.specs.declared.names.Name.{Name}
use Rattle.model.specs.declared.blocks.Parent.{Parent}
use Rattle.model.specs.declared.blocks.BackboneBlock.{BackboneBlock}
use Rattle.model.specs.declared.blocks.Block.{Block}
use Rattle.model.specs.declared.blocks.Block.TheVariants.{Side, Backbone}
use Rattle.model.specs.declared.answers.Added.{Added}
use Rattle.model.specs.declared.answers.Added.TheVariants.{New, Held}

-- the block under each name, if it is held
abbrev pub Book : Type 0
Book = Name → Option Block

-- the name of the backbone block of view 0
abbrev pub genesis : Name
genesis = record { high = 0; low = 0 }

abbrev pub is_side : Option Block → Bool
is_side None = false
is_side (Some (Side s)) = true
is_side (Some (Backbone b)) = false

abbrev pub is_backbone : Option Block → Bool
is_backbone None = false
is_backbone (Some (Side s)) = false
is_backbone (Some (Backbone b)) = true

-- a backbone block of that view
abbrev pub of_view : ℕ → Option Block → Bool
of_view v None = false
of_view v (Some (Side s)) = false
of_view v (Some (Backbone b)) = b.view == v

-- each of these names is that of a held side block
abbrev pub sides_held : Book → List Name → Bool
sides_held K [] = true
sides_held K (r ∷ rs) = is_side (K r) && sides_held K rs

-- the parent is genesis, of view 0, or a held backbone block of the stated view
abbrev pub parent_held : Book → Parent → Bool
parent_held K p = cond (same p.name genesis) (p.view == 0) (of_view p.view (K p.name))

-- the blocks that this one names are held, of the needed sort and view
abbrev pub named_held : Book → Block → Bool
named_held K (Side s) = sides_held K (referred s.references)
named_held K (Backbone b) = sides_held K (referred b.references) && parent_held K b.parent

-- its name is not that of genesis, and a parent is of a lower view
abbrev pub in_order : Block → Bool
in_order (Side s) = not (same s.name genesis)
in_order (Backbone b) = not (same b.name genesis) && nat_lt b.parent.view b.view

-- nothing is held under that name, or this very content
abbrev pub new_or_same : Option Block → Block → Bool
new_or_same None b = true
new_or_same (Some c) b = same_block c b

-- what Add asks of a block, of a book with a place for one more or without: its numbers, the blocks that it names, its name, its place
abbrev pub add_questions : Book → Bool → Block → List Question
add_questions K room b =
    (3, in_order b) ∷ (6, named_held K b) ∷ (7, new_or_same (K (name_of b)) b) ∷ (8, is_some (K (name_of b)) || room) ∷ []

-- the book with one block more
abbrev pub with_block : Book → Block → Book
with_block K b n = cond (same (name_of b) n) (Some b) (K n)

-- an accepted Add found the block held, and then the book is as it was, or it was new, and then it is held besides
abbrev pub AddDone : Book → Book → Block → Added → Type 0
AddDone K after b Held = (K (name_of b) ≡ Some b) × ((n : Name) → after n ≡ K n)
AddDone K after b New = (K (name_of b) ≡ None) × ((n : Name) → after n ≡ with_block K b n)

-- what every book keeps
pub record Whole (K : Book) : Type 0 where
  -- each block stands under its own name, and none under that of genesis
  pub named : (n : Name) (b : Block) → K n ≡ Some b → name_of b ≡ n
  pub no_genesis : K genesis ≡ None
  -- what a block names is held
  pub held : (n : Name) (b : Block) → K n ≡ Some b → named_held K b ≡ true
  -- a parent is of a lower view
  pub lower : (n : Name) (b : BackboneBlock) → K n ≡ Some (Backbone b) → b.parent.view < b.view
