use Rattle.std.proofs.Common.{◌∙◌, ◌&&◌, rules, tests}
use Rattle.std.proofs.lemmas.Iterator.{YieldsList-from_slice}
use Rattle.std.proofs.lemmas.Iterator.Search.{all_from_yields_List}
use Rattle.words.specs.Words.{small}
use Rattle.words.proofs.ClaimWords.{all_small}
use Rattle.words.proofs.claims.are_small_claims.Goals as goal

pub returns : goal.returns
returns c =
    let claims = c.args.claims.now in
    all_from_yields_List (λ claim. small claim.station && small claim.height) c.all.new.self _ _ c.all.ensures.ran (YieldsList-from_slice claims cc)
    (λ x b q k. search (rules, tests))
    ∙ all_small claims
