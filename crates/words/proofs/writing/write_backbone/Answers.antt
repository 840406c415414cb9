use Rattle.std.proofs.Common.{◌≡◌, ℕ, List, [], ◌∷◌, ◌++◌, get_or, rules}
use Rattle.model.specs.Blocks.{referred}
use Rattle.words.specs.Messages.{backbone, encoded}
use Rattle.words.specs.Words.{names_words}
use Rattle.words.proofs.NamesWords.{length_of_names}
use Rattle.words.proofs.Placing.{two_parts}
use Rattle.words.proofs.writing.write_backbone.Goals as goal

pub returns : goal.returns
returns c =
    let l = length_of_names (referred c.args.block.references) in
    let n = c.words_of_name.result in
    let p = c.words_of_name-2.result in
    let front : List ℕ = c.head_of.result ∷ get_or n 0 0 ∷ get_or n 1 0 ∷ get_or n 2 0 ∷ get_or n 3 0
    ∷ c.word_of-author.result ∷ c.word_of-view.result ∷ c.word_of-below.result
    ∷ get_or p 0 0 ∷ get_or p 1 0 ∷ get_or p 2 0 ∷ get_or p 3 0 ∷ [] in
    let e : encoded (backbone c.args.block) ≡ front ++ names_words (referred c.args.block.references) = search rules in
    two_parts front _ _ _ _ _ _ c.put.ensures c.put_names.ensures e (search rules)
