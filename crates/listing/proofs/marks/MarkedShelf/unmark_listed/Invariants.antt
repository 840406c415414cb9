use Rattle.std.proofs.Common.{take}
use Rattle.listing.specs.Marks.{Remarked, Without}
use Rattle.listing.proofs.marks.MarkedShelf.unmark_listed.Given as goal

abbrev pub invariant-loop-line : goal.invariant-loop-line
invariant-loop-line l = Remarked (λ bs. Without bs (take l.line-index l.lines)) l.initial.self l.self
