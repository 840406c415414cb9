use Rattle.std.proofs.Common.{ap, ◌∙◌}
use Rattle.model.specs.declared.votes.Grade.{Grade}
use Rattle.model.specs.Ledgers.{empty}
use Rattle.broadcast.specs.Supports.{supported}
use Rattle.broadcast.specs.Relays.{held}
use Rattle.broadcast.proofs.Supports.{kept}
use Rattle.broadcast.proofs.relays.RelayedBroadcast.shut.Goals as goal

pub invariant_of-self : goal.invariant_of-self
invariant_of-self c =
    let b = c.args.self.now in
    let e = c.shut.ensures empty empty in
    let same = λ (g : Grade). kept b.ballot c.shut.new.self (ap (λ m. m.numbers) e) (ap (λ m. m.view) e) (ap (λ m. m.first) e) (held b g) in
    record { inside = λ g. (same g).0 ∙ b.inside g; owned = λ g. (same g).1 ∙ b.owned g }

pub returns : goal.returns
returns c = let kept = c.args.self.now.supports in c.shut.ensures (supported kept.one) (supported kept.two)
