-- What holds for a sonde after some lines: a law over entries, and Lookup over the lines that a book holds. Assumes nothing.
use Rattle.std.specs.Prelude.{◌≡◌, ℕ, true, cond, ◌&&◌, List, [], ◌∷◌, Some, None, fold, Option, ◌==◌, nat_lt}
use Rattle.model.specs.Books.{Book}
use Rattle.model.specs.Listing.{has}
use Rattle.model.specs.Questions.{Question}
use Rattle.model.specs.declared.answers.Binding.{Binding}
use Rattle.model.specs.declared.names.Name.{Name}
use Rattle.model.specs.declared.blocks.Entry.{Entry}
use Rattle.model.specs.declared.blocks.Entry.TheVariants.{Bind, Release}
use Rattle.model.specs.declared.blocks.Block.{Block}
use Rattle.model.specs.declared.blocks.Block.TheVariants.{Side, Backbone}

-- what one entry more does: a bind takes effect when nothing holds, a release when its flight holds, and entries of other sondes nothing
abbrev pub entry_effect : ℕ → Option Binding → Entry → Option Binding
entry_effect sonde None (Bind s c f) = cond (s == sonde) (Some (record { certificate = c; flight = f })) None
entry_effect sonde (Some x) (Bind s c f) = Some x
entry_effect sonde None (Release s f) = None
entry_effect sonde (Some x) (Release s f) = cond (s == sonde && f == x.flight) None (Some x)

-- what holds for the sonde after these entries, from nothing
abbrev pub holding : ℕ → List Entry → Option Binding
holding sonde entries = fold (entry_effect sonde) None entries

-- the entries of the lines that the book holds as side blocks
abbrev pub entry_there : Option Block → List Entry → List Entry
entry_there None rest = rest
entry_there (Some (Side s)) rest = s.entry ∷ rest
entry_there (Some (Backbone b)) rest = rest

abbrev pub entries : Book → List Name → List Entry
entries K [] = []
entries K (n ∷ ns) = entry_there (K n) (entries K ns)

-- is the sonde's number from 1 to 2^28 - 1?
abbrev pub lookup_questions : ℕ → List Question
lookup_questions sonde = (3, nat_lt 0 sonde && nat_lt sonde 268435456) ∷ []

-- equal lists, in books that hold their lines alike, give equal answers
abbrev pub EqualLookups : Type 0
EqualLookups = (K K' : Book) (L L' : List Name) → L ≡ L' → ((n : Name) → has L n ≡ true → K n ≡ K' n) → (sonde : ℕ) → holding sonde (entries K L) ≡ holding sonde (entries K' L')
