use Rattle.std.proofs.Common.{refl, arith}
use Rattle.listing.proofs.Marking.{turned_place, turned_absent}
use Rattle.listing.proofs.marks.MarkedShelf.turn.Goals as goal

pub returns-in-Some : goal.returns-in-Some
returns-in-Some c =
    let m = c.args.self.now in
    let h = c.in-Some.ensures in
    let lt = h.0 in
    record { shelf = refl; marks = turned_place m.shelf.blocks.now m.shelf.sound c.args.name c.args.on m.marked c.in-Some.place h.0 (omega (arith, m.shelf.few)) h.1 }

pub returns-in_default : goal.returns-in_default
returns-in_default c =
    let m = c.args.self.now in
    record { shelf = refl; marks = turned_absent m.shelf.blocks.now c.args.name c.args.on m.marked c.in_default.ensures }
