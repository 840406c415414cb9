use Rattle.std.proofs.Common.{◌∙◌, rules, tests}
use Rattle.std.proofs.lemmas.Iterator.Consumers.{YieldsList-from_first}
use Rattle.std.proofs.lemmas.Iterator.Search.{all_from_yields_List}
use Rattle.model.specs.Blocks.{referred, names_left}
use Rattle.model.specs.Ranges.{halves_fit}
use Rattle.words.proofs.SmallNames.{all_small}
use Rattle.words.proofs.writing.are_small_names.Goals as goal

pub returns : goal.returns
returns c =
    let names = referred c.args.references in
    all_from_yields_List (λ n. halves_fit n) c.all.new.self _ _ c.all.ensures.ran (YieldsList-from_first (λ n. n) names_left names c.into_iter.ensures.into_iter_gives)
    (λ x b q k. search (rules, tests))
    ∙ all_small names
