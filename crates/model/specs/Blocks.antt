-- What blocks refer to, and when two blocks have one content. Assumes nothing.
use Rattle.std.specs.Prelude.{Bool, true, false, ◌&&◌, List, [], ◌∷◌, ◌==◌}
use Rattle.model.specs.Names.{same}
use Rattle.model.specs.declared.names.Name.{Name}
use Rattle.model.specs.declared.blocks.References.{References}
use Rattle.model.specs.declared.blocks.References.TheVariants.{Empty, One, Two, Three, Four}
use Rattle.model.specs.declared.blocks.Names.{Names}
use Rattle.model.specs.declared.blocks.Entry.{Entry}
use Rattle.model.specs.declared.blocks.Entry.TheVariants.{Bind, Release}
use Rattle.model.specs.declared.blocks.SideBlock.{SideBlock}
use Rattle.model.specs.declared.blocks.Parent.{Parent}
use Rattle.model.specs.declared.blocks.BackboneBlock.{BackboneBlock}
use Rattle.model.specs.declared.blocks.Block.{Block}
use Rattle.model.specs.declared.blocks.Block.TheVariants.{Side, Backbone}

-- the names, in their order
abbrev pub referred : References → List Name
referred Empty = []
referred (One a) = a ∷ []
referred (Two a b) = a ∷ b ∷ []
referred (Three a b c) = a ∷ b ∷ c ∷ []
referred (Four a b c d) = a ∷ b ∷ c ∷ d ∷ []

-- the names that an iterator over references has still to give
abbrev pub names_left : Names → List Name
names_left names = referred names.left

abbrev pub name_of : Block → Name
name_of (Side s) = s.name
name_of (Backbone b) = b.name

-- the same names in the same number and order
abbrev pub same_names : List Name → List Name → Bool
same_names [] [] = true
same_names [] (y ∷ ys) = false
same_names (x ∷ xs) [] = false
same_names (x ∷ xs) (y ∷ ys) = same x y && same_names xs ys

abbrev pub same_entry : Entry → Entry → Bool
same_entry (Bind s c f) (Bind t d g) = s == t && (c == d && f == g)
same_entry (Bind s c f) (Release t g) = false
same_entry (Release s f) (Bind t d g) = false
same_entry (Release s f) (Release t g) = s == t && f == g

abbrev pub same_parent : Parent → Parent → Bool
same_parent p q = p.view == q.view && same p.name q.name

abbrev pub same_side : SideBlock → SideBlock → Bool
same_side a b =
    same a.name b.name && (a.author == b.author && (same_entry a.entry b.entry && same_names (referred a.references) (referred b.references)))

abbrev pub same_backbone : BackboneBlock → BackboneBlock → Bool
same_backbone a b =
    same a.name b.name
    && (a.author == b.author && (a.view == b.view && (same_parent a.parent b.parent && same_names (referred a.references) (referred b.references))))

-- every field is equal
abbrev pub same_block : Block → Block → Bool
same_block (Side a) (Side b) = same_side a b
same_block (Side a) (Backbone b) = false
same_block (Backbone a) (Side b) = false
same_block (Backbone a) (Backbone b) = same_backbone a b
