-- The parent chain of a backbone block, the listing of a chain, and what listing one block more answers and leaves. Assumes nothing.
use Rattle.std.specs.Prelude.{◌≡◌, ℕ, ◌+◌, ◌<◌, cond, ◌⊎◌, List, [], ◌∷◌, ◌++◌, length, Some, Ok, Err, fold, Result, ◌≢◌}
use Rattle.model.specs.Blocks.{referred}
use Rattle.model.specs.Books.{Book, Whole, genesis, is_backbone}
use Rattle.model.specs.Orders.{Before, Lawful}
use Rattle.model.specs.Listing.{Lines}
use Rattle.model.specs.Refusals.{number}
use Rattle.model.specs.declared.names.Name.{Name}
use Rattle.model.specs.declared.blocks.BackboneBlock.{BackboneBlock}
use Rattle.model.specs.declared.blocks.Block.{Block}
use Rattle.model.specs.declared.blocks.Block.TheVariants.{Backbone}
use Rattle.model.specs.declared.refusals.Refusal.{Refusal}

-- n is on the parent chain of t: t, its parent, that one's parent and so on
pub data OnChain (K : Book) : Name → Name → Type 0 where
  here : {n : Name} → OnChain K n n
  up : {t n : Name} (b : BackboneBlock) → K t ≡ Some (Backbone b) → OnChain K b.parent.name n → OnChain K t n

-- L is the listing of the chain up to n: none for genesis, else that of the parent's chain, the unlisted side blocks reached from n, and n
pub data Listing (before : Before) (K : Book) : List Name → Name → Type 0 where
  none : {n : Name} → n ≡ genesis → Listing before K [] n
  more : {L xs : List Name} {n : Name} (b : BackboneBlock) → K n ≡ Some (Backbone b) → Listing before K L b.parent.name → Lines before K (referred b.references) L xs → Listing before K (L ++ (xs ++ (n ∷ []))) n

-- two books have no name for two contents
abbrev pub Agree : Book → Book → Type 0
Agree K K' = (n : Name) (b c : Block) → K n ≡ Some b → K' n ≡ Some c → b ≡ c

-- the listing of a chain is one, whichever book the blocks are held in
abbrev pub OneListing : Type 0
OneListing = (before : Before) → Lawful before → (K K' : Book) → Whole K → Whole K' → Agree K K' → (n : Name) (L L' : List Name) → Listing before K L n → Listing before K' L' n → L ≡ L'

-- the listing of a chain begins the listing of every chain above it
abbrev pub ListingsBegin : Type 0
ListingsBegin = (before : Before) → Lawful before → (K K' : Book) → Whole K → Whole K' → Agree K K' → (n t : Name) (L M : List Name) → Listing before K L n → Listing before K' M t → OnChain K' t n → (rest : List Name) × (M ≡ L ++ rest)

-- a book that holds more blocks has the same listing of a chain
abbrev pub ListingsStay : Type 0
ListingsStay = (before : Before) (K K' : Book) → Whole K → Whole K' → ((n : Name) (b : Block) → K n ≡ Some b → K' n ≡ Some b) → (L : List Name) (n : Name) → Listing before K L n → Listing before K' L n

-- the last line that the book holds as a backbone block, genesis where there is none
abbrev pub last_listed : Book → List Name → Name
last_listed K L = fold (λ last n. cond (is_backbone (K n)) n last) genesis L

-- the block on the chain of the target whose parent is the last listed one
pub record Next (K : Book) (target last : Name) (b : BackboneBlock) : Type 0 where
  pub held : K b.name ≡ Some (Backbone b)
  pub on : OnChain K target b.name
  pub above : b.parent.name ≡ last

-- The answer of listing one block more of the target's chain: lines added and view listed, (0, 0) where the target is listed,
-- 22 where the last listed block is not on the chain, 23 where the list has too few places for all the lines.
abbrev pub Extended : Before → Book → Name → ℕ → List Name → List Name → Result (ℕ × ℕ) Refusal → Type 0
Extended before K target places L after (Ok p) =
    ((target ≡ last_listed K L) × (after ≡ L) × (p ≡ (0, 0)))
    ⊎ ((target ≢ last_listed K L)
    × ((b : BackboneBlock) × (xs : List Name) × Next K target (last_listed K L) b × Lines before K (referred b.references) L xs × (after ≡ L ++ (xs ++ (b.name ∷ []))) × (p ≡ (length xs + 1, b.view))))
Extended before K target places L after (Err e) =
    (after ≡ L)
    × (((number e ≡ 22) × (OnChain K target (last_listed K L) → ⊥))
    ⊎ ((number e ≡ 23)
    × ((b : BackboneBlock) × Next K target (last_listed K L) b × ((xs : List Name) → Lines before K (referred b.references) L xs → places < length L + (length xs + 1)))))
