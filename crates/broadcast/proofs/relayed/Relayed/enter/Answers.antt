use Rattle.std.proofs.Common.{rules}
use Rattle.broadcast.proofs.Supports.{puts}
use Rattle.broadcast.proofs.relayed.Relayed.enter.Goals as goal

pub invariant_of-self : goal.invariant_of-self
invariant_of-self c = let p = puts c.args.self.now c.args.grade c.args.name c.args.mask c.requires in search rules
