use Rattle.std.proofs.Common.{length}
use Rattle.model.specs.Blocks.{referred}
use Rattle.words.proofs.NamesWords.{Found}
use Rattle.words.proofs.reading.references.Given as goal

abbrev pub invariant-loop-left : goal.invariant-loop-left
invariant-loop-left l = Found l.words (referred l.found) l.left

abbrev pub decreases-loop-left : goal.decreases-loop-left
decreases-loop-left l = length l.left
