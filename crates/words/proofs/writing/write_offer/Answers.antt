use Rattle.std.proofs.Common.{◌≡◌, ℕ, List, [], ◌∷◌, ◌++◌, get_or, rules}
use Rattle.words.specs.Messages.{offer, encoded}
use Rattle.words.proofs.Placing.{two_parts}
use Rattle.words.proofs.writing.write_offer.Goals as goal

pub returns : goal.returns
returns c =
    let n = c.words_of_name.result in
    let front : List ℕ = c.head_of.result ∷ c.word_of-station.result ∷ c.word_of-view.result
    ∷ get_or n 0 0 ∷ get_or n 1 0 ∷ get_or n 2 0 ∷ get_or n 3 0 ∷ c.word_of.result ∷ c.word_of-2.result ∷ [] in
    let e : encoded (offer c.args.offer c.args.claims.now) ≡ front ++ c.args.claims.now = search rules in
    two_parts front _ _ _ _ _ _ c.put.ensures c.put-2.ensures e (search rules)
