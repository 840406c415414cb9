-- What an all-to-all broadcast means: its ballot and its ledgers as they are. Assumes nothing.
use Rattle.model.specs.Broadcasts.{Meaning}
use Rattle.broadcast.specs.Ballots.{told}
use Rattle.broadcast.specs.declared.tallies.AllToAll.{AllToAll}

abbrev pub tally : AllToAll → Meaning
tally b = told b.ballot b.ledgers.one b.ledgers.two
