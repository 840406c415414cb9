use Rattle.broadcast.proofs.tallies.AllToAllBroadcast.offer.Goals as goal

pub returns : goal.returns
returns c = let kept = c.args.self.now.ledgers in c.offer.ensures kept.one kept.two
