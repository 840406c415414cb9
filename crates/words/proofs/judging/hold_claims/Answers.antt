use Rattle.std.proofs.Common.{rules, tests}
use Rattle.std.proofs.lemmas.Iterator.Search.{all_from_yields_List}
use Rattle.words.proofs.RightKinds.{is_claim, pairs_come, pairs_of_claims}
use Rattle.words.proofs.judging.hold_claims.Goals as goal

pub returns-then-words-eq0 : goal.returns-then-words-eq0
returns-then-words-eq0 c =
    let ws = c.args.words.now in
    let e = all_from_yields_List is_claim c.all.new.self _ _ c.all.ensures.ran (pairs_come _ ws c.chunks_exact.ensures.rest c.chunks_exact.ensures.size)
    (λ x b q k. search (rules, tests)) in
    let same = pairs_of_claims 28 ws (search rules) (search rules) in
    search rules
