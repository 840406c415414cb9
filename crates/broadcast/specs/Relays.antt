-- What a relayed broadcast means: its supports as ledgers, its ballot as it is. Assumes nothing.
use Rattle.std.specs.Prelude.{Option}
use Rattle.model.specs.declared.votes.Grade.{Grade}
use Rattle.model.specs.Broadcasts.{Meaning}
use Rattle.broadcast.specs.Ballots.{told}
use Rattle.broadcast.specs.Grades.{of}
use Rattle.broadcast.specs.Supports.{supported}
use Rattle.broadcast.specs.declared.support.Support.{Support}
use Rattle.broadcast.specs.declared.relayed.Relayed.{Relayed}

abbrev pub relay : Relayed → Meaning
relay b = told b.ballot (supported b.supports.one) (supported b.supports.two)

-- the support of that grade, if it has one
abbrev pub held : Relayed → Grade → Option Support
held b g = of b.supports g
