-- What a station is, with the outbox that a call is handed, and what a call puts there. Assumes nothing.
use Rattle.std.specs.Prelude.{ℕ, ◌+◌, ◌^◌, Bool, List, [], ◌∷◌, ◌++◌, length, nat_le}
use Rattle.model.specs.declared.names.Name.{Name}
use Rattle.model.specs.declared.numbers.Numbers.{Numbers}
use Rattle.model.specs.declared.states.State.{State}
use Rattle.model.specs.declared.states.Sent.{Sent}
use Rattle.model.specs.declared.states.Sent.TheVariants.{Offer, Voices, Certificate, Claim}
use Rattle.model.specs.Broadcasts.{Meaning}

-- a station: what it keeps, and what its broadcast means, which has the numbers of Start and the view
pub record Core : Type 0 where
  pub state : State
  pub cast : Meaning

-- a station at its outbox: what that holds, oldest first, and for how many it has places
pub record Desk : Type 0 where
  pub core : Core
  pub out : List Sent
  pub room : ℕ

abbrev pub numbers : Core → Numbers
numbers c = c.cast.numbers

abbrev pub view : Core → ℕ
view c = c.cast.view

-- the view of the highest certificate
abbrev pub height : Core → ℕ
height c = c.state.highest.view

-- the height has reached the view
abbrev pub adopts : Core → Bool
adopts c = nat_le (view c) (height c)

-- the outbox has two free places
abbrev pub two_free : Desk → Bool
two_free d = nat_le (length d.out + 2) d.room

abbrev pub with_state : State → Core → Core
with_state s c = record { state = s; cast = c.cast }

abbrev pub with_cast : Meaning → Core → Core
with_cast m c = record { state = c.state; cast = m }

abbrev pub with_core : Core → Desk → Desk
with_core c d = record { core = c; out = d.out; room = d.room }

-- What a call puts into the outbox: a statement, which the station makes by it, or what it only passes on.
pub data Post : Type 0 where
  stated : Sent → Post
  passed : Sent → Post

abbrev pub sent : Post → Sent
sent (stated m) = m
sent (passed m) = m

-- put into the outbox, the first one first
abbrev pub posted : List Post → Desk → Desk
posted [] d = d
posted (p ∷ ps) d = posted ps (record { core = d.core; out = d.out ++ sent p ∷ []; room = d.room })

-- what these are, in their order
abbrev pub messages : List Post → List Sent
messages [] = []
messages (p ∷ ps) = sent p ∷ messages ps

-- A statement of a station: a voice (grade, view, name), a claim (view, height), or an offer (view, name).
pub data Statement : Type 0 where
  voice : ℕ → ℕ → Name → Statement
  claim : ℕ → ℕ → Statement
  offer : ℕ → Name → Statement

abbrev pub statement_of : Sent → List Statement
statement_of (Offer o n) = offer o.view o.name ∷ []
statement_of (Voices o) = voice o.grade o.view o.name ∷ []
statement_of (Certificate x) = []
statement_of (Claim c) = claim c.view c.height ∷ []

-- those that a call makes, by what it puts into the outbox
abbrev pub statements : List Post → List Statement
statements [] = []
statements (stated m ∷ ps) = statement_of m ++ statements ps
statements (passed m ∷ ps) = statements ps

-- the station's own voice, and its own claim
abbrev pub own_voice : Core → ℕ → Name → Post
own_voice c g x = stated (Voices (record { grade = g; view = view c; name = x; mask = 2 ^ (numbers c).own }))

abbrev pub own_claim : Core → Post
own_claim c = stated (Claim (record { station = (numbers c).own; view = view c; height = height c }))

abbrev pub own_certificate : Core → Post
own_certificate c = passed (Certificate c.state.highest)
