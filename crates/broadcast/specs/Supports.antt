-- The ledger that a support stands for, and what holds of each that is kept. Assumes nothing.
use Rattle.std.specs.Prelude.{Bool, true, not, ◌&&◌, ◌||◌, Some, None, Option, nat_lt}
use Rattle.model.specs.Quorums.{leads, within}
use Rattle.model.specs.Ledgers.{Ledger, empty, enter, is}
use Rattle.broadcast.specs.declared.ballots.Ballot.{Ballot}
use Rattle.broadcast.specs.declared.support.Support.{Support}

abbrev pub supported : Option Support → Ledger
supported None = empty
supported (Some w) = enter w.name w.mask empty

-- it has stations, and nothing but stations
abbrev pub inside : Ballot → Option Support → Bool
inside b None = true
inside b (Some w) = nat_lt 0 w.mask && within b.numbers w.mask

-- a leader's is under its own first vote
abbrev pub owned : Ballot → Option Support → Bool
owned b None = true
owned b (Some w) = not (leads b.numbers b.view) || is w.name b.first
