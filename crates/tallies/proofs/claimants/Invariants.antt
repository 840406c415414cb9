use Rattle.std.proofs.Common.{◌≡◌, ◌^◌, ◌<◌, drop}
use lib.Bits.{bit_or}
use Rattle.model.specs.Claims.{claimants}
use Rattle.tallies.proofs.claimants.Given as goal

abbrev pub invariant-loop-claim : goal.invariant-loop-claim
invariant-loop-claim l =
    (l.mask < 2 ^ l.n)
    × (bit_or l.mask (claimants l.n l.parent (drop l.claim-index l.claims)) ≡ claimants l.n l.parent l.claims)
