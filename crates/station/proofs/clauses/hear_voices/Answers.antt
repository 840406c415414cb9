use Rattle.model.proofs.Courses.{any_make, calls_follow}
use Rattle.book.specs.Meaning.{book_of}
use Rattle.station.specs.Meaning.{desk_of}
use Rattle.station.proofs.clauses.hear_voices.Goals as goal

pub returns : goal.returns
returns g c =
    let fits = g.B.Observe.fits in
    let free = g.B.Observe.free in
    let d = desk_of g.B.Observe c.args.station.now c.args.out.now in
    let after = desk_of g.B.Observe c.voices.new.self c.voices.new.out in
    let held = book_of c.args.book.now in
    let heard = any_make fits free g.B.Broadcast.hears d held c.args.voices after c.voices.result g.met.B.Broadcast.keeps c.voices.ensures in
    record { clauses = heard; follows = calls_follow.voices fits free d held c.args.voices after c.voices.result heard }
