use Rattle.std.proofs.Common.{◌≡◌, ◌-◌, ◌^◌, ◌<◌, length, drop}
use Rattle.model.specs.Ledgers.{under}
use Rattle.broadcast.proofs.tallies.mask_under.Given as goal

abbrev pub invariant-loop-entry : goal.invariant-loop-entry
invariant-loop-entry l = (l.mask ≡ under l.name (drop (28 - length l.yielded) l.ledger)) × (l.mask < 2 ^ length l.yielded)
