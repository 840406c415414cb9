-- The derived comparisons are those of the rules.
use Rattle.std.proofs.Common.{◌≡◌, Decides, rules, refl}
use Rattle.std.specs.Ordering.{partial_lt}
use Rattle.model.specs.Names.{same}
use Rattle.model.specs.Orders.{name_before}
use Rattle.model.specs.Blocks.{referred, same_names, same_entry, same_parent, same_side, same_backbone, same_block}
use Rattle.model.specs.declared.names.Name.{Name}
use Rattle.model.specs.declared.blocks.References.{References}
use Rattle.model.specs.declared.blocks.Entry.{Entry}
use Rattle.model.specs.declared.blocks.Entry.TheVariants.{Bind, Release}
use Rattle.model.specs.declared.blocks.Parent.{Parent}
use Rattle.model.specs.declared.blocks.SideBlock.{SideBlock}
use Rattle.model.specs.declared.blocks.BackboneBlock.{BackboneBlock}
use Rattle.model.specs.declared.blocks.Block.{Block}
use Rattle.model.specs.declared.blocks.Block.TheVariants.{Side, Backbone}
use Rattle.model.specs.contracts.names.NamePartialEq.TheImpl as name_impl
use Rattle.model.specs.contracts.names.NamePartialOrd.TheImpl as name_order
use Rattle.model.specs.contracts.blocks.EntryPartialEq.TheImpl as entry_impl
use Rattle.model.specs.contracts.blocks.ReferencesPartialEq.TheImpl as references_impl
use Rattle.model.specs.contracts.blocks.ParentPartialEq.TheImpl as parent_impl
use Rattle.model.specs.contracts.blocks.SideBlockPartialEq.TheImpl as side_impl
use Rattle.model.specs.contracts.blocks.BackboneBlockPartialEq.TheImpl as backbone_impl
use Rattle.model.specs.contracts.blocks.BlockPartialEq.TheImpl as block_impl
use Rattle.model.proofs.Naming.{same_true, eq_same}
use Rattle.model.proofs.Contents.{decides}

pub names : (a b : Name) → name_impl.ghosts.eq a b ≡ same a b
names a b = refl

pub equal_names : (a b : Name) → Decides (name_impl.ghosts.eq a b) (a ≡ b)
equal_names a b = (same_true a b, eq_same a b)

pub before : (a b : Name) → partial_lt name_order.ghosts.partial_cmp a b ≡ name_before a b
before a b = search rules

pub entries : (a b : Entry) → entry_impl.ghosts.eq a b ≡ same_entry a b
entries (Bind s c f) (Bind t d g) = search rules
entries (Bind s c f) (Release t g) = refl
entries (Release s f) (Bind t d g) = refl
entries (Release s f) (Release t g) = search rules

pub references : (r s : References) → references_impl.ghosts.eq r s ≡ same_names (referred r) (referred s)
references r s = search rules

pub parents : (a b : Parent) → parent_impl.ghosts.eq a b ≡ same_parent a b
parents a b = refl

pub sides : (a b : SideBlock) → side_impl.ghosts.eq a b ≡ same_side a b
sides a b = let e = entries a.entry b.entry in let r = references a.references b.references in search rules

pub backbones : (a b : BackboneBlock) → backbone_impl.ghosts.eq a b ≡ same_backbone a b
backbones a b = let r = references a.references b.references in search rules

pub blocks : (a b : Block) → block_impl.ghosts.eq a b ≡ same_block a b
blocks (Side a) (Side b) = sides a b
blocks (Side a) (Backbone b) = refl
blocks (Backbone a) (Side b) = refl
blocks (Backbone a) (Backbone b) = backbones a b

pub equal_blocks : (a b : Block) → Decides (block_impl.ghosts.eq a b) (a ≡ b)
equal_blocks a b = decides a b (block_impl.ghosts.eq a b) (blocks a b)
