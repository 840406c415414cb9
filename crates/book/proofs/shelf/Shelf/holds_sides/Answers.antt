use Rattle.std.proofs.Common.{◌≡◌, List, [], ◌∷◌, refl, ap, ◌∙◌, ◌&&◌, rules, tests}
use Rattle.std.specs.List.{list_all}
use Rattle.std.proofs.lemmas.Iterator.Search.{all_from_yields_List}
use Rattle.std.proofs.lemmas.Iterator.Consumers.{YieldsList-from_first}
use Rattle.model.specs.declared.names.Name.{Name}
use Rattle.model.specs.Blocks.{referred, names_left}
use Rattle.model.specs.Books.{Book, is_side, sides_held}
use Rattle.book.specs.Places.{find}
use Rattle.book.proofs.shelf.Shelf.holds_sides.Goals as goal

all_sides : (K : Book) (names : List Name) → list_all (λ n. is_side (K n)) names ≡ sides_held K names
all_sides K [] = refl
all_sides K (n ∷ names) = ap (λ rest. is_side (K n) && rest) (all_sides K names)

pub returns : goal.returns
returns c =
    let K = find c.args.self.blocks.now in
    let names = referred c.args.references in
    all_from_yields_List (λ n. is_side (K n)) _ _ _ c.all.ensures.ran (YieldsList-from_first (λ n. n) names_left names c.into_iter.ensures.into_iter_gives) (λ x b q called. search (rules, tests))
    ∙ all_sides K names
