use Rattle.station.specs.Meaning.{core_of, desk_of}
use Rattle.station.proofs.Parts.{voices_parts}
use Rattle.station.proofs.Voicing.{voiced}
use Rattle.station.proofs.stations.Station.voices.Goals as goal
use Rattle.std.proofs.Common.{rules}

pub returns : goal.returns
returns g c =
    let hears = g.B.Broadcast.hears in
    let d = desk_of g.B.Observe c.args.self.now c.args.out.now in
    let o = c.args.voices in
    let given = desk_of g.B.Observe c.give.new.self c.give.new.out in
    let completed = core_of g.B.Observe c.complete.new.self in
    let after = desk_of g.B.Observe c.complete.new.self c.relay.new.out in (
      search (rules, voices_parts),
      voiced hears d o c.in_ok-grade.grade (g.B.Observe.meaning c.hear.new.self) c.in_ok-send.send c.second-before.result given completed after
          c.in_ok-grade.ensures.1 c.in_ok-send.ensures.1 c.second-before.ensures c.give.ensures.after c.complete.ensures c.relay.ensures,
    )
