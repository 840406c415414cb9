-- Whether names fit their words: each does that is in range.
use Rattle.std.proofs.Common.{◌≡◌, ◌&&◌, List, [], ◌∷◌, refl, ap}
use Rattle.std.specs.List.{list_all}
use Rattle.model.specs.Ranges.{halves_fit}
use Rattle.model.specs.declared.names.Name.{Name}
use Rattle.words.specs.Words.{small_name, small_names}

pub small_more : (n : Name) (ns : List Name) → small_names (n ∷ ns) ≡ (small_name n && small_names ns)
unfolding small_names
small_more n ns = refl

pub halves_small : (n : Name) → halves_fit n ≡ small_name n
unfolding halves_fit
halves_small n = refl

pub all_small : (ns : List Name) → list_all (λ n. halves_fit n) ns ≡ small_names ns
unfolding small_names halves_fit
all_small [] = refl
all_small (n ∷ ns) = ap (λ b. small_name n && b) (all_small ns)
