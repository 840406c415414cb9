use Rattle.std.proofs.Common.{◌+◌, take, length, set, sym, ap, ◌∙◌, arith, length-take}
use Rattle.std.proofs.lemmas.Bool.{leb-true}
use Rattle.places.proofs.Lists.{inserted}
use Rattle.places.specs.Held.{held, bound}
use Rattle.places.proofs.list.Bounded.insert.Goals as goal

pub returns-clause-items : goal.returns-clause-items
returns-clause-items g c =
    let b = c.args.self.now in
    let room = leb-true (length (held b) + 1) (bound b) (sym c.if-not-has_room.ensures) in
    ap (λ ys. take (b.len + 1) (set ys c.args.i c.args.x)) c.copy_within.ensures.after
    ∙ inserted b.places.now c.args.i b.len c.args.x (omega arith) (omega (arith, room, length-take b.len b.places.now))
