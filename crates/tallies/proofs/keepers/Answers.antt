use Rattle.std.proofs.Common.{None, rules, arith}
use lib.Bits.{or_zero_r}
use Rattle.std.proofs.lemmas.List.{get_or-take}
use Rattle.model.proofs.Claims.{keepers_more}
use Rattle.tallies.proofs.keepers.Goals as goal

pub loop-i-preserved : goal.loop-i-preserved
loop-i-preserved c =
    let e = keepers_more c.loop-i.i c.args.heights.now in
    let z = or_zero_r c.loop-i.mask in
    let t = get_or-take c.stations-n.result c.args.heights.now c.loop-i.i None (omega arith) in
    search rules
