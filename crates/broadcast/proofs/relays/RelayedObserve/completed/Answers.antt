use Rattle.std.proofs.Common.{rules}
use Rattle.broadcast.proofs.Supports.{completed_by}
use Rattle.broadcast.proofs.relays.RelayedObserve.completed.Goals as goal

pub returns : goal.returns
returns c = let e = completed_by c.args.self.now in search rules

pub returns-in_err-held : goal.returns-in_err-held
returns-in_err-held c = let e = completed_by c.args.self.now in search rules
