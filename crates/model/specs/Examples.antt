-- Two worked cases: the listing of a block in both orders, and the lookups of a sonde. Assumes nothing.
use Rattle.std.specs.Prelude.{◌≡◌, ℕ, cond, [], ◌∷◌, Some, None}
use Rattle.model.specs.declared.names.Name.{Name}
use Rattle.model.specs.declared.blocks.SideBlock.{SideBlock}
use Rattle.model.specs.declared.blocks.BackboneBlock.{BackboneBlock}
use Rattle.model.specs.declared.blocks.Block.TheVariants.{Side, Backbone}
use Rattle.model.specs.declared.blocks.Entry.TheVariants.{Bind, Release}
use Rattle.model.specs.declared.blocks.References.TheVariants.{Empty, One, Two}
use Rattle.model.specs.Names.{same}
use Rattle.model.specs.Books.{Book, genesis}
use Rattle.model.specs.Orders.{by_author, by_sonde}
use Rattle.model.specs.Chains.{Listing}
use Rattle.model.specs.Lookups.{holding}

abbrev pub named : ℕ → Name
named n = record { high = 0; low = n }

-- S3 refers to S1, and the backbone block B to S3 and S4
abbrev pub s1 : SideBlock
s1 = record { name = named 1; author = 2; entry = Bind 70 501 9; references = Empty }

abbrev pub s3 : SideBlock
s3 = record { name = named 3; author = 0; entry = Bind 60 502 9; references = One (named 1) }

abbrev pub s4 : SideBlock
s4 = record { name = named 4; author = 1; entry = Bind 80 503 9; references = Empty }

abbrev pub b5 : BackboneBlock
b5 = record { name = named 5; author = 1; view = 1; parent = record { view = 0; name = genesis }; references = Two (named 3) (named 4) }

abbrev pub four : Book
four n = cond (same (named 1) n) (Some (Side s1)) (cond (same (named 3) n) (Some (Side s3)) (cond (same (named 4) n) (Some (Side s4)) (cond (same (named 5) n) (Some (Backbone b5)) None)))

-- by author: S4, S1, S3, B; by sonde: S1, S3, S4, B
abbrev pub WorkedListing : Type 0
WorkedListing =
    Listing by_author four (named 4 ∷ named 1 ∷ named 3 ∷ named 5 ∷ []) (named 5) × Listing by_sonde four (named 1 ∷ named 3 ∷ named 4 ∷ named 5 ∷ []) (named 5)

-- after each of: bind 501 flight 9; bind 502 flight 10; release 9; bind 502 flight 10
abbrev pub WorkedLookups : Type 0
WorkedLookups =
    (holding 70 (Bind 70 501 9 ∷ []) ≡ Some (record { certificate = 501; flight = 9 }))
    × (holding 70 (Bind 70 501 9 ∷ Bind 70 502 10 ∷ []) ≡ Some (record { certificate = 501; flight = 9 }))
    × (holding 70 (Bind 70 501 9 ∷ Bind 70 502 10 ∷ Release 70 9 ∷ []) ≡ None)
    × (holding 70 (Bind 70 501 9 ∷ Bind 70 502 10 ∷ Release 70 9 ∷ Bind 70 502 10 ∷ []) ≡ Some (record { certificate = 502; flight = 10 }))
