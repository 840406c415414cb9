use Rattle.std.proofs.Common.{◌≡◌, ℕ, List, [], ◌∷◌, ◌+◌, ◌++◌, get_or, ap, ◌∙◌, rules}
use Rattle.model.specs.Blocks.{referred}
use Rattle.words.specs.Messages.{side, encoded}
use Rattle.words.specs.Places.{placed}
use Rattle.words.specs.Words.{entry_words, names_words}
use Rattle.words.proofs.NamesWords.{length_of_names}
use Rattle.words.proofs.Placing.{three_parts}
use Rattle.words.proofs.writing.write_side.Goals as goal

pub returns : goal.returns
returns c =
    let l = length_of_names (referred c.args.block.references) in
    let n = c.words_of_name.result in
    let front : List ℕ = c.head_of.result ∷ get_or n 0 0 ∷ get_or n 1 0 ∷ get_or n 2 0 ∷ get_or n 3 0 ∷ c.word_of-author.result ∷ [] in
    let e : encoded (side c.args.block) ≡ front ++ (entry_words c.args.block.entry ++ names_words (referred c.args.block.references)) = search rules in
    let k = c.count_entry_words-names.ensures in
    three_parts front (entry_words c.args.block.entry) (names_words (referred c.args.block.references)) c.args.words.now _ _ _ _ _ (search rules) c.put.ensures
    c.put_entry.ensures (c.put_names.ensures ∙ ap (λ i. placed (6 + i) (names_words (referred c.args.block.references)) c.put_entry.new.words) k) e (search rules)
