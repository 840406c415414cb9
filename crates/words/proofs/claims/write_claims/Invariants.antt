use Rattle.std.proofs.Common.{◌≡◌, ◌*◌, true, drop}
use Rattle.words.specs.Claims.{claims_words, small_claims}
use Rattle.words.specs.Places.{placed}
use Rattle.words.proofs.claims.write_claims.Given as goal

abbrev pub invariant-loop-i : goal.invariant-loop-i
invariant-loop-i l =
    (placed (2 * l.i) (claims_words (drop l.i l.claims)) l.words ≡ placed 0 (claims_words l.claims) l.initial.words)
    × (small_claims (drop l.i l.claims) ≡ true)
