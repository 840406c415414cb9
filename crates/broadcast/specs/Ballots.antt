-- What a ballot tells beside two ledgers, and what it is once the stations under a name are counted. Assumes nothing.
use Rattle.std.specs.Prelude.{ℕ, cond}
use Rattle.model.specs.declared.names.Name.{Name}
use Rattle.model.specs.declared.votes.Grade.{Grade}
use Rattle.model.specs.Quorums.{first_quorum}
use Rattle.model.specs.Ledgers.{Ledger}
use Rattle.model.specs.Broadcasts.{Meaning, given}
use Rattle.broadcast.specs.declared.ballots.Ballot.{Ballot}

abbrev pub told : Ballot → Ledger → Ledger → Meaning
told b one two = record { numbers = b.numbers; view = b.view; first = b.first; second = b.second; one = one; two = two }

-- a waiting second vote is given where the mask under the name in ledger 1 first holds a quorum
abbrev pub counted : Ballot → Grade → Name → ℕ → ℕ → Ballot
counted b g x before after = record b { second = cond (first_quorum b.numbers before after) (given g b.second x) b.second }
