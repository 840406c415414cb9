use Rattle.listing.proofs.Marking.{Gathering}
use Rattle.listing.proofs.marks.MarkedShelf.gather.Given as goal

abbrev pub invariant-loop-place : goal.invariant-loop-place
invariant-loop-place l = Gathering l.self.marked l.place l.waiting
