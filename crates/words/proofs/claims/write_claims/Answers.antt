use Rattle.std.proofs.Common.{◌≡◌, ℕ, ◌+◌, ◌*◌, ◌≤◌, List, [], ◌∷◌, ◌++◌, length, get_or, drop, sym, ap, ◌∙◌, arith, rules}
use Rattle.words.specs.Claims.{claims_words}
use Rattle.words.specs.Places.{placed}
use Rattle.words.proofs.ClaimWords.{zeros, claim_words, small_more, length_of_claims, placed_claim, placed_all}
use Rattle.words.proofs.claims.write_claims.Goals as goal

pub word_of-requires : goal.word_of-requires
word_of-requires c = let e = small_more c.args.claims.now c.loop-i.i c.loop-i-test.true in search rules

pub word_of-requires-in-loop-i : goal.word_of-requires-in-loop-i
word_of-requires-in-loop-i c = let e = small_more c.args.claims.now c.loop-i.i c.loop-i-test.true in search rules

pub loop-i-preserved : goal.loop-i-preserved
loop-i-preserved c =
    let cs = c.args.claims.now in
    let i = c.loop-i.i in
    let old = c.loop-i.words in
    let part : List ℕ = c.word_of.result ∷ c.word_of-in-loop-i.result ∷ [] in
    let same : part ≡ claim_words (get_or cs i zeros) = search rules in
    let next : 2 * (i + 1) ≡ 2 * i + 2 = omega arith in
    let room : 2 * i ≤ length old = omega arith in
    let behind = claims_words (drop (i + 1) cs) in
    let small = small_more cs i c.loop-i-test.true in (
      ap (λ k. placed k behind c.put.new.words) next ∙ ap (λ ws. placed (2 * i + 2) behind ws) (c.put.ensures ∙ ap (λ p. placed (2 * i) p old) same)
          ∙ sym (placed_claim (2 * i) i cs old c.loop-i-test.true room) ∙ c.loop-i.invariant.0,
      search rules,
    )

pub returns : goal.returns
returns c =
    let cs = c.args.claims.now in
    let old = c.args.words.now in
    let n = length_of_claims cs in
    let e = placed_all (2 * c.loop-i.i) c.loop-i.i cs c.loop-i.words c.loop-i-test.false in
    let k : 0 + length (claims_words cs) ≡ 2 * length cs = omega arith in
    (search rules, (sym n, sym e ∙ c.loop-i.invariant.0 ∙ ap (λ m. claims_words cs ++ drop m old) k))
