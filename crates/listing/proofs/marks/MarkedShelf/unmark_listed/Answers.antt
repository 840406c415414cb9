use Rattle.std.proofs.Common.{take, get_or, sym, refl, subst}
use Rattle.std.proofs.lemmas.List.{take_more, take_all}
use Rattle.model.specs.Books.{genesis}
use Rattle.listing.specs.Marks.{Without}
use Rattle.listing.proofs.Marking.{remarked_both, without_none, without_more, without_marks}
use Rattle.listing.proofs.marks.MarkedShelf.unmark_listed.Goals as goal

pub loop-line-init : goal.loop-line-init
loop-line-init c = record { shelf = refl; marks = without_none c.args.self.now.shelf.blocks.now c.args.self.now.marked }

pub loop-line-preserved : goal.loop-line-preserved
loop-line-preserved c =
    let m = c.args.self.now in
    let l = c.loop-line in
    let lines = c.args.lines.now in
    let L = take l.line-index lines in
    let n = get_or lines l.line-index genesis in
    let more = take_more lines l.line-index genesis c.loop-line-test.true in
    remarked_both l.invariant c.turn.ensures
    (λ before one. subst (λ x. Without m.shelf.blocks.now x m.marked c.turn.new.self.marked) (sym more) (without_more m.shelf.blocks.now L n m.marked l.self.marked c.turn.new.self.marked before one))

pub returns : goal.returns
returns c =
    let m = c.args.self.now in
    let l = c.loop-line in
    let bs = m.shelf.blocks.now in
    let lines = c.args.lines.now in
    let whole = subst (λ L. Without bs L m.marked l.self.marked) (take_all l.line-index lines c.loop-line-test.false) l.invariant.marks in
    record { shelf = l.invariant.shelf; marks = λ start reached. without_marks bs start lines m.marked l.self.marked whole reached }
