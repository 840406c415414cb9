use Rattle.model.specs.Blocks.{referred, names_left}
use Rattle.listing.specs.declared.marks.MarkedShelf.{MarkedShelf}
use Rattle.listing.specs.Marks.{Remarked, Adds, Among}
use Rattle.listing.proofs.marks.MarkedShelf.mark_all.Given as goal

-- what marks the names that are left marks all of them
abbrev pub invariant-loop-name : goal.invariant-loop-name
invariant-loop-name l = (most : MarkedShelf) → Remarked (λ bs. Adds bs (Among (names_left l.name-iterator))) l.self most → Remarked (λ bs. Adds bs (Among (referred l.fn.references))) l.initial.self most
