use Rattle.model.specs.declared.names.Name.{Name}
use Rattle.book.specs.Places.{find}
use Rattle.listing.proofs.Walks.{Walking, height}
use Rattle.listing.proofs.chain.walk.Given as goal

-- the loop no longer reads the target, so the invariant speaks of any
abbrev pub invariant-loop-at : goal.invariant-loop-at
invariant-loop-at l = (target : Name) → Walking (find l.shelf.blocks.now) target l.last l.initial.at → Walking (find l.shelf.blocks.now) target l.last l.at

abbrev pub decreases-loop-at : goal.decreases-loop-at
decreases-loop-at l = height l.at
