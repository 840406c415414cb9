use Rattle.model.specs.declared.votes.Grade.{Grade}
use Rattle.model.specs.Ledgers.{empty}
use Rattle.broadcast.specs.Supports.{supported}
use Rattle.broadcast.specs.Relays.{held}
use Rattle.broadcast.proofs.Supports.{offered}
use Rattle.broadcast.proofs.relays.RelayedBroadcast.offer.Goals as goal

pub invariant_of-self : goal.invariant_of-self
invariant_of-self c =
    let b = c.args.self.now in
    let after = λ (g : Grade). offered b.ballot c.offer.new.self c.args.name c.offer.result (c.offer.ensures empty empty) (held b g) (b.inside g) (b.owned g) in
    record { inside = λ g. (after g).0; owned = λ g. (after g).1 }

pub returns : goal.returns
returns c = let kept = c.args.self.now.supports in c.offer.ensures (supported kept.one) (supported kept.two)
