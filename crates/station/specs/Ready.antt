-- The calls in steps: what their questions leave to the effect, and the desk after a step. Assumes nothing.
use Rattle.std.specs.Prelude.{◌≡◌, ℕ, true, false, List, [], ◌∷◌, is_some, None, Some, Option, nat_le, ◌&&◌}
use Rattle.model.specs.declared.names.Name.{Name}
use Rattle.model.specs.declared.votes.Grade.{Grade}
use Rattle.model.specs.declared.statements.Voices.{Voices}
use Rattle.model.specs.declared.states.Sent.TheVariants as sends
use Rattle.model.specs.Questions.{Question, first_no}
use Rattle.model.specs.Ranges.{grade_fits, view_fits, name_fits}
use Rattle.model.specs.Votes.{graded}
use Rattle.model.specs.Broadcasts.{Asking, hear_questions}
use Rattle.model.specs.Stations.{Core, Desk, Post, passed, view, two_free, with_core, posted}
use Rattle.model.specs.Voting.{grade_at, giving, giving_posts}

-- there is no first vote, and room for two messages
abbrev pub MayVote : Desk → Type 0
MayVote d = (is_some d.core.cast.first ≡ false) × (two_free d ≡ true)

-- the grade of that number, which is one
abbrev pub IsGrade : ℕ → Grade → Type 0
IsGrade n g = (g ≡ grade_at n) × (graded g ≡ n)

-- grade, view and name are in range
abbrev pub range_questions : ℕ → ℕ → Name → List Question
range_questions g v x = (3, grade_fits g && (view_fits v && name_fits x)) ∷ []

-- the view is the current one
abbrev pub view_questions : Core → ℕ → List Question
view_questions c v = (4, nat_le (view c) v) ∷ (5, nat_le v (view c)) ∷ []

-- the broadcast would not refuse the voices, and there is room for two messages
abbrev pub MayHear : Asking → Asking → Desk → Voices → Type 0
MayHear fits free d o =
    (first_no (hear_questions fits free d.core.cast (grade_at o.grade) o.name o.mask) ≡ None) × (two_free d ≡ true)

-- a second vote that was given is certified and sent
abbrev pub gives : Option Name → Desk → Desk
gives y d = posted (giving_posts d.core y) (with_core (giving y d.core) d)

-- a mask to send is passed on, under that grade and name
abbrev pub relaying : Grade → Name → Option ℕ → Core → List Post
relaying g x None c = []
relaying g x (Some k) c = passed (sends.Voices (record { grade = graded g; view = view c; name = x; mask = k })) ∷ []
