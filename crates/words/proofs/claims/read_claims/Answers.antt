use Rattle.std.proofs.Common.{ap, sym, ◌∙◌, rules}
use Rattle.std.specs.Iterator.Adapters.{enumerate_source, enumerate_count}
use Rattle.std.specs.Slice.Iter.{chunks_exact_rest, chunks_exact_size}
use Rattle.words.proofs.ClaimWords.{read_none, read_more}
use Rattle.words.proofs.claims.read_claims.Goals as goal

pub loop-i-init : goal.loop-i-init
loop-i-init c =
    let e = c.into_iter-i-iterator.ensures.into_iter_gives in
    let s = ap enumerate_source e ∙ c.enumerate-i-items.ensures.source in
    let none = read_none c.args.words.now _ c.args.claims.now _ (sym c.if-not-hold_claims.ensures) (ap chunks_exact_rest s ∙ c.chunks_exact.ensures.rest)
    (ap enumerate_count e ∙ c.enumerate-i-items.ensures.count) in
    (none, ap chunks_exact_size s ∙ c.chunks_exact.ensures.size)

pub loop-i-preserved : goal.loop-i-preserved
loop-i-preserved c =
    let s = c.in-Some.ensures.steps in
    let r = c.loop-i.invariant in
    let claims = c.loop-i.claims in
    let more = read_more c.args.words.now _ c.in-Some.pair.now _ c.args.claims.now claims _ _ _ (sym c.if-not-hold_claims.ensures) r.0 s.0.1.0 (s.0.1.1 ∙ r.1) (search rules) s.2
    c.value_of.ensures.0 c.value_of-in-loop-i.ensures.0 (search rules) in
    (rw s.1 more, s.0.0 ∙ r.1)
