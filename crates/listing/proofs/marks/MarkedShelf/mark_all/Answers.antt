use Rattle.std.proofs.Common.{List, ◌∷◌, sym, refl, subst}
use Rattle.model.specs.declared.names.Name.{Name}
use Rattle.model.specs.Blocks.{names_left}
use Rattle.listing.specs.Marks.{Remarked, Adds, Among}
use Rattle.listing.proofs.Marking.{remarked_both, adds_first, adds_nothing}
use Rattle.listing.proofs.marks.MarkedShelf.mark_all.Goals as goal

pub loop-name-preserved : goal.loop-name-preserved
loop-name-preserved c most more =
    let m = c.loop-name.self in
    let left = names_left c.next.new.self in
    let both = remarked_both {R = λ bs. Adds bs (Among (c.in-Some.name ∷ left))} c.turn.ensures more
    (adds_first m.shelf.blocks.now c.in-Some.name left m.marked c.turn.new.self.marked most.marked) in
    c.loop-name.invariant most (subst (λ (names : List Name). Remarked (λ bs. Adds bs (Among names)) m most) (sym c.in-Some.ensures.steps) both)

pub returns : goal.returns
returns c =
    let m = c.loop-name.self in
    c.loop-name.invariant m
    (subst (λ (names : List Name). Remarked (λ bs. Adds bs (Among names)) m m) (sym c.in-None.ensures.steps.0) (record { shelf = refl; marks = adds_nothing m.shelf.blocks.now m.marked }))
