use Rattle.std.proofs.Common.{length, sym, ◌∙◌}
use Rattle.words.proofs.Wholes.{announced}
use Rattle.words.proofs.reading.Body.behind.Goals as goal

pub invariant_of-result-clause-counted : goal.invariant_of-result-clause-counted
invariant_of-result-clause-counted c = (announced c.args.head (length c.args.words.now) c.in_ok-layout.layout (sym c.announced.ensures ∙ c.in_ok-layout.was)).takes

pub invariant_of-result-clause-judged : goal.invariant_of-result-clause-judged
invariant_of-result-clause-judged c = sym c.have_right_kinds.ensures ∙ c.if-have_right_kinds.true
