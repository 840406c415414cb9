-- Grades by their numbers, and the second vote. Assumes nothing.
use Rattle.std.specs.Prelude.{ℕ, cond, Some, None, Option, ◌==◌}
use Rattle.model.specs.declared.votes.Grade.{Grade}
use Rattle.model.specs.declared.votes.Grade.TheVariants.{One, Two}
use Rattle.model.specs.declared.votes.SecondVote.{SecondVote}
use Rattle.model.specs.declared.votes.SecondVote.TheVariants.{Waiting, Given, Shut}
use Rattle.model.specs.declared.votes.Event.{Event}
use Rattle.model.specs.declared.votes.Event.TheVariants.{HeardQuorum, Shutting, Opening}

abbrev pub graded : Grade → ℕ
graded One = 1
graded Two = 2

abbrev pub grade_of : ℕ → Option Grade
grade_of n = cond (n == 1) (Some One) (cond (n == 2) (Some Two) None)

-- the second vote after an event: a waiting one is given or shut, and only a new view makes it wait again
abbrev pub after : SecondVote → Event → SecondVote
after Waiting (HeardQuorum x) = Given x
after Waiting Shutting = Shut
after Waiting Opening = Waiting
after (Given y) (HeardQuorum x) = Given y
after (Given y) Shutting = Given y
after (Given y) Opening = Waiting
after Shut (HeardQuorum x) = Shut
after Shut Shutting = Shut
after Shut Opening = Waiting
