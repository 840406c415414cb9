-- A lookup, line by line.
use Rattle.std.proofs.Common.{◌≡◌, ℕ, List, [], ◌∷◌, Some, None, fold, Option, sym, refl, ◌∙◌}
use Rattle.model.specs.declared.answers.Binding.{Binding}
use Rattle.model.specs.declared.names.Name.{Name}
use Rattle.model.specs.declared.blocks.Entry.{Entry}
use Rattle.model.specs.declared.blocks.Block.{Block}
use Rattle.model.specs.declared.blocks.Block.TheVariants.{Side, Backbone}
use Rattle.model.specs.Books.{Book}
use Rattle.model.specs.Lookups.{entry_effect, entry_there, entries}
use Rattle.listing.specs.Steps.{line_effect}

-- an entry more, before the others
follow_one : (sonde : ℕ) (h : Option Binding) (o : Option Block) (rest : List Entry) → fold (entry_effect sonde) h (entry_there o rest) ≡ fold (entry_effect sonde) (line_effect sonde h o) rest
follow_one sonde h None rest = refl
follow_one sonde h (Some (Side s)) rest = refl
follow_one sonde h (Some (Backbone b)) rest = refl

pub follow_lines : (K : Book) (sonde : ℕ) (h : Option Binding) (lines : List Name) → fold (λ held n. line_effect sonde held (K n)) h lines ≡ fold (entry_effect sonde) h (entries K lines)
follow_lines K sonde h [] = refl
follow_lines K sonde h (n ∷ lines) = follow_lines K sonde (line_effect sonde h (K n)) lines ∙ sym (follow_one sonde h (K n) (entries K lines))
