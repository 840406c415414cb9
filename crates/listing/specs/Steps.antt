-- What listing one backbone block leaves, and what one line does to a lookup: inner steps. Assumes nothing.
use Rattle.std.specs.Prelude.{◌≡◌, ℕ, ◌+◌, ◌<◌, List, [], ◌∷◌, ◌++◌, length, Some, None, Ok, Err, Option, Result, MatchOption}
use Rattle.model.specs.declared.names.Name.{Name}
use Rattle.model.specs.declared.blocks.BackboneBlock.{BackboneBlock}
use Rattle.model.specs.declared.blocks.Block.{Block}
use Rattle.model.specs.declared.blocks.Block.TheVariants.{Side, Backbone}
use Rattle.model.specs.Blocks.{referred}
use Rattle.model.specs.Books.{Book}
use Rattle.model.specs.Orders.{Before}
use Rattle.model.specs.Listing.{Lines}
use Rattle.model.specs.Lookups.{entry_effect}
use Rattle.model.specs.declared.answers.Binding.{Binding}
use Rattle.model.specs.declared.refusals.Refusal.{Refusal}
use Rattle.model.specs.declared.refusals.Refusal.TheVariants.{ListFull}
use Rattle.model.specs.Chains.{OnChain, Next}

-- the lines of side blocks that are added to L
abbrev pub Listed : Before → Book → List Name → List Name → List Name → Type 0
Listed before K start L after = (xs : List Name) × Lines before K start L xs × (after ≡ L ++ xs)

-- the block is listed after L, or there are too few places and nothing changes
abbrev pub BlockListed : Before → Book → BackboneBlock → ℕ → List Name → List Name → Result ℕ Refusal → Type 0
BlockListed before K b places L after (Ok n) = (xs : List Name) × Lines before K (referred b.references) L xs × (after ≡ L ++ (xs ++ (b.name ∷ []))) × (n ≡ length xs + 1)
BlockListed before K b places L after (Err e) = (e ≡ ListFull) × (after ≡ L) × ((xs : List Name) → Lines before K (referred b.references) L xs → places < length L + (length xs + 1))

-- the backbone block there, if it is one
abbrev pub backbone_of : Option Block → Option BackboneBlock
backbone_of None = None
backbone_of (Some (Side s)) = None
backbone_of (Some (Backbone b)) = Some b

-- r is the block above the last listed one on the target's chain, or the last listed one is not on it
abbrev pub Walked : Book → Name → Name → Option BackboneBlock → Type 0
Walked K target last r = MatchOption r (OnChain K target last → ⊥) (λ b. Next K target last b)

-- what one line does to what holds for a sonde: a side block's entry has its effect, any other line none
abbrev pub line_effect : ℕ → Option Binding → Option Block → Option Binding
line_effect sonde h None = h
line_effect sonde h (Some (Side s)) = entry_effect sonde h s.entry
line_effect sonde h (Some (Backbone b)) = h
