use Rattle.std.proofs.Common.{rules}
use Rattle.model.specs.Broadcasts.{Hears, hear_questions}
use Rattle.model.proofs.Hearings.{answered_more, accepted}
use Rattle.broadcast.proofs.clauses.hear.Goals as goal

pub returns : goal.returns
returns g c =
    let fits = g.B.Observe.fits in
    let free = g.B.Observe.free in
    let hears = g.B.Broadcast.hears in
    let m = g.B.Observe.meaning c.args.cast.now in
    let n = g.B.Observe.meaning c.hear.new.self in
    let h = c.args.grade in
    let x = c.args.name in
    let k = c.args.mask in
    let more = answered_more (hear_questions fits free m h x k) m n (λ a. hears m h x k a n) (λ a. Hears m h x k a n) c.hear.result
    (λ none a t. let both = accepted fits free m h x k none in g.met.B.Broadcast.keeps m h x k a n both.0 both.1 t) in
    search rules
