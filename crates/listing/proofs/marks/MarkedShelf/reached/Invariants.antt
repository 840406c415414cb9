use Rattle.std.proofs.Common.{List}
use Rattle.model.specs.declared.names.Name.{Name}
use Rattle.listing.specs.Marks.{Remarked, Spread}
use Rattle.listing.proofs.marks.MarkedShelf.reached.Given as goal

-- the loop does not read the start, so the invariant speaks of any
abbrev pub invariant-loop-place : goal.invariant-loop-place
invariant-loop-place l = Remarked (λ bs ms more. (start : List Name) → Spread bs start l.initial.place ms → Spread bs start l.place more) l.initial.marks l.marks
