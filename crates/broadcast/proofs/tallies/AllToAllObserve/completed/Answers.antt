use Rattle.std.proofs.Common.{arith}
use Rattle.model.proofs.Completions.{none_complete}
use Rattle.broadcast.specs.Tallies.{tally}
use Rattle.broadcast.proofs.tallies.AllToAllObserve.completed.Goals as goal

pub returns : goal.returns
returns c = none_complete (tally c.args.self.now) (λ i h. c.loop-entry.invariant i (omega arith))
