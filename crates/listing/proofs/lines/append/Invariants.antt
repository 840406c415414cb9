use Rattle.std.proofs.Common.{◌≡◌, ◌+◌, List, length}
use Rattle.model.specs.declared.names.Name.{Name}
use Rattle.places.specs.Held.{held, bound}
use Rattle.listing.specs.Marks.{Marks, Pending, Gathered, count}
use Rattle.listing.proofs.Growth.{Sofar}
use Rattle.listing.proofs.lines.append.Given as goal

abbrev pub invariant-loop-place : goal.invariant-loop-place
invariant-loop-place g l =
    let first = l.initial.marks in
    (length (held l.lines) + count l.marks.marked ≡ length (held l.initial.lines) + count first.marked)
    × (bound l.lines ≡ bound l.initial.lines) × Gathered l.marks.marked (length l.marks.marked) l.waiting (length l.waiting) × (l.marks.shelf ≡ first.shelf)
    × ((start : List Name) → Marks first.shelf.blocks.now (Pending first.shelf.blocks.now start (held l.initial.lines)) first.marked → Sofar g.O.Order.precedes l.marks.shelf.blocks.now start (held l.initial.lines) (held l.lines) l.marks.marked)

abbrev pub decreases-loop-place : goal.decreases-loop-place
decreases-loop-place g l = count l.marks.marked
