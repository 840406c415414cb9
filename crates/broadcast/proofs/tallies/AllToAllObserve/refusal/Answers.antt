use Rattle.std.proofs.Common.{◌≡◌, ◌^◌, rules}
use Rattle.broadcast.proofs.Entries.{free_at}
use Rattle.broadcast.proofs.tallies.AllToAllObserve.refusal.Goals as goal

pub returns : goal.returns
returns c =
    let b = c.args.self.now in
    let one : c.args.mask ≡ 2 ^ c.in-Some.station = search rules in
    let free = free_at b.ballot b.ledgers c.args.grade c.args.mask c.in-Some.station one in
    search rules
