use Rattle.std.proofs.Common.{refl}
use Rattle.std.proofs.lemmas.Bool.{both_ways}
use Rattle.listing.proofs.Marking.{spread_down, spread_past}
use Rattle.listing.proofs.marks.MarkedShelf.spread.Goals as goal

pub returns-then-not-self-place : goal.returns-then-not-self-place
returns-then-not-self-place c =
    let m = c.args.self.now in
    record { shelf = refl; marks = λ start sp. spread_past m.shelf.blocks.now m.shelf.sound start m.marked c.args.place sp (λ _ on _. both_ways _ c.if-not-self-place.true on) }

pub returns-in-Some : goal.returns-in-Some
returns-in-Some c =
    let m = c.args.self.now in
    let more = c.mark_all.ensures in
    record { shelf = more.shelf; marks = λ start sp. spread_down m.shelf.blocks.now m.shelf.sound start m.marked c.mark_all.new.self.marked c.args.place c.in-Some.side sp c.if-not-self-place.false c.in-Some.ensures more.marks }

pub returns-in_default : goal.returns-in_default
returns-in_default c =
    let m = c.args.self.now in
    record { shelf = refl; marks = λ start sp. spread_past m.shelf.blocks.now m.shelf.sound start m.marked c.args.place sp (λ side _ p. c.in_default.ensures side p) }
