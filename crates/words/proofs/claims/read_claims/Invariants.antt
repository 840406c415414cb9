use Rattle.std.proofs.Common.{◌≡◌}
use Rattle.std.specs.Iterator.Adapters.{enumerate_source, enumerate_count}
use Rattle.std.specs.Slice.Iter.{chunks_exact_rest, chunks_exact_size}
use Rattle.words.proofs.ClaimWords.{ReadSoFar}
use Rattle.words.proofs.claims.read_claims.Given as goal

abbrev pub invariant-loop-i : goal.invariant-loop-i
invariant-loop-i l =
    ReadSoFar l.words (chunks_exact_rest (enumerate_source l.i-iterator)) l.initial.claims l.claims (enumerate_count l.i-iterator)
    × (chunks_exact_size (enumerate_source l.i-iterator) ≡ 2)
