use Rattle.std.proofs.Common.{◌≡◌, ℕ, ◌<◌, false}
use Rattle.model.specs.Ledgers.{at}
use Rattle.model.proofs.Completions.{complete_at}
use Rattle.broadcast.specs.Tallies.{tally}
use Rattle.broadcast.proofs.tallies.AllToAllObserve.completed.Given as goal

abbrev pub invariant-loop-entry : goal.invariant-loop-entry
invariant-loop-entry l = (k : ℕ) → k < l.entry-index → complete_at (tally l.self) (at l.self.ledgers.two k) ≡ false
