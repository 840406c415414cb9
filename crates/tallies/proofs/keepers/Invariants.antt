use Rattle.std.proofs.Common.{◌≡◌}
use Rattle.model.specs.Claims.{keepers}
use Rattle.tallies.proofs.keepers.Given as goal

abbrev pub invariant-loop-i : goal.invariant-loop-i
invariant-loop-i l = l.mask ≡ keepers l.i l.heights
