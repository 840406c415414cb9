use Rattle.broadcast.proofs.tallies.AllToAllBroadcast.shut.Goals as goal

pub returns : goal.returns
returns c = let kept = c.args.self.now.ledgers in c.shut.ensures kept.one kept.two
