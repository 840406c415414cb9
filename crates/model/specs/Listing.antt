-- The lines of one backbone block: the side blocks that come before it, over any book and order. Assumes nothing.
use Rattle.std.specs.Prelude.{◌≡◌, Bool, true, false, ◌||◌, List, [], ◌∷◌, ◌++◌, Some, ◌≢◌}
use Rattle.model.specs.Names.{same}
use Rattle.model.specs.Blocks.{referred}
use Rattle.model.specs.Books.{Book}
use Rattle.model.specs.Orders.{Before}
use Rattle.model.specs.declared.names.Name.{Name}
use Rattle.model.specs.declared.blocks.SideBlock.{SideBlock}
use Rattle.model.specs.declared.blocks.Block.TheVariants.{Side}

-- these names have this one
abbrev pub has : List Name → Name → Bool
has [] n = false
has (x ∷ xs) n = same x n || has xs n

-- every reference is listed
abbrev pub Ready : List Name → List Name → Type 0
Ready L references = (r : Name) → has references r ≡ true → has L r ≡ true

-- the names that references lead to, from those in `start`
pub data Reached (K : Book) (start : List Name) : Name → Type 0 where
  direct : {n : Name} → has start n ≡ true → Reached K start n
  onward : {m n : Name} (s : SideBlock) → Reached K start m → K m ≡ Some (Side s) → has (referred s.references) n ≡ true → Reached K start n

-- x is the next line after L: the first, by the order, of the reached blocks that are unlisted and have every reference listed
pub record First (before : Before) (K : Book) (start L : List Name) (x : Name) : Type 0 where
  pub block : SideBlock
  pub held : K x ≡ Some (Side block)
  pub reached : Reached K start x
  pub new : has L x ≡ false
  pub ready : Ready L (referred block.references)
  pub least : (m : Name) (t : SideBlock) → K m ≡ Some (Side t) → Reached K start m → has L m ≡ false → Ready L (referred t.references) → (m ≢ x) → before block t ≡ true

-- xs are the lines that come after L, until every block reached from `start` is listed
pub data Lines (before : Before) (K : Book) (start : List Name) : List Name → List Name → Type 0 where
  done : {L : List Name} → ((n : Name) → Reached K start n → has L n ≡ true) → Lines before K start L []
  next : {L : List Name} {x : Name} {xs : List Name} → First before K start L x → Lines before K start (L ++ (x ∷ [])) xs → Lines before K start L (x ∷ xs)
