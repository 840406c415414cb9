-- The thing of a grade, and both things once one is put in the place of that grade's. Assumes nothing.
use Rattle.std.specs.Borrow.{RattleType, MutBor, Fml, Lends}
use Rattle.model.specs.declared.votes.Grade.{Grade}
use Rattle.model.specs.declared.votes.Grade.TheVariants.{One, Two}
use Rattle.broadcast.specs.declared.grades.PerGrade.{PerGrade}
use Rattle.broadcast.specs.contracts.grades.PerGrade.{the_row}

abbrev pub of : {T : Type 0} → PerGrade T → Grade → T
of p One = p.one
of p Two = p.two

abbrev pub put : {T : Type 0} → PerGrade T → Grade → T → PerGrade T
put p One x = record p { one = x }
put p Two x = record p { two = x }

-- both end with the last value behind the reference in the place of that grade's
abbrev pub LendsOne : (T : RattleType) → MutBor (PerGrade T.Denot) → Grade → MutBor T.Denot → Fml
LendsOne T s g r = Lends (the_row T) T s r (put s.now g)
