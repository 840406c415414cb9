-- The layouts of messages: type, counts of words behind the head, and their kinds. Assumes nothing.
use Rattle.std.specs.Prelude.{◌≡◌, ℕ, ◌/◌, ◌%◌, Bool, false, cond, ◌&&◌, List, [], ◌∷◌, replicate, length, Some, None, Option, ◌⊎◌, ◌==◌, nat_le}
use Rattle.words.specs.Claims.{claims_kinds}
use Rattle.words.specs.Words.{kind, value, right_kinds}
use Rattle.words.specs.declared.layouts.Layout.{Layout}
use Rattle.words.specs.declared.layouts.Layout.TheVariants.{Bind, Release, Backbone, Offer, Voices, Certificate, Claim, Probe, Leave}

abbrev pub type_of : Layout → ℕ
type_of Bind = 1
type_of Release = 1
type_of Backbone = 2
type_of Offer = 3
type_of Voices = 4
type_of Certificate = 5
type_of Claim = 6
type_of Probe = 7
type_of Leave = 8

-- so many words can stand behind the head: a block has up to four references of four words, an offer up to 28 claims of two
abbrev pub counts : Layout → ℕ → Bool
counts Bind n = nat_le 8 n && (nat_le n 24 && n % 4 == 0)
counts Release n = nat_le 7 n && (nat_le n 23 && n % 4 == 3)
counts Backbone n = nat_le 11 n && (nat_le n 27 && n % 4 == 3)
counts Offer n = nat_le 8 n && (nat_le n 64 && n % 2 == 0)
counts Voices n = n == 7
counts Certificate n = n == 7
counts Claim n = n == 3
counts Probe n = n == 0
counts Leave n = n == 0

-- the layouts of side blocks
abbrev pub IsSideLayout : Layout → Type 0
IsSideLayout l = (l ≡ Bind) ⊎ (l ≡ Release)

-- the kinds of four references' words
abbrev pub references_kinds : List ℕ
references_kinds = replicate 16 3

-- the kinds of as many words as there can be
abbrev pub kinds_of : Layout → List ℕ
kinds_of Bind = 3 ∷ 3 ∷ 3 ∷ 3 ∷ 4 ∷ 7 ∷ 8 ∷ 9 ∷ references_kinds
kinds_of Release = 3 ∷ 3 ∷ 3 ∷ 3 ∷ 4 ∷ 7 ∷ 9 ∷ references_kinds
kinds_of Backbone = 3 ∷ 3 ∷ 3 ∷ 3 ∷ 4 ∷ 2 ∷ 2 ∷ 3 ∷ 3 ∷ 3 ∷ 3 ∷ references_kinds
kinds_of Offer = 4 ∷ 2 ∷ 3 ∷ 3 ∷ 3 ∷ 3 ∷ 10 ∷ 5 ∷ claims_kinds 28
kinds_of Voices = 10 ∷ 2 ∷ 3 ∷ 3 ∷ 3 ∷ 3 ∷ 5 ∷ []
kinds_of Certificate = 10 ∷ 2 ∷ 3 ∷ 3 ∷ 3 ∷ 3 ∷ 5 ∷ []
kinds_of Claim = 4 ∷ 2 ∷ 2 ∷ []
kinds_of Probe = []
kinds_of Leave = []

-- the kinds of the words behind those that each message of the layout has: of references, or of claims
abbrev pub tail_kinds : Layout → List ℕ
tail_kinds Bind = references_kinds
tail_kinds Release = references_kinds
tail_kinds Backbone = references_kinds
tail_kinds Offer = claims_kinds 28
tail_kinds Voices = []
tail_kinds Certificate = []
tail_kinds Claim = []
tail_kinds Probe = []
tail_kinds Leave = []

abbrev pub layouts : List Layout
layouts = Bind ∷ Release ∷ Backbone ∷ Offer ∷ Voices ∷ Certificate ∷ Claim ∷ Probe ∷ Leave ∷ []

-- the layout of a type and a count
abbrev pub layout_among : List Layout → ℕ → ℕ → Option Layout
layout_among [] t n = None
layout_among (l ∷ ls) t n = cond (t == type_of l && counts l n) (Some l) (layout_among ls t n)

abbrev pub layout_at : ℕ → ℕ → Option Layout
layout_at t n = layout_among layouts t n

-- the layout that a head word announces over a count of words behind it
abbrev pub layout_behind : ℕ → ℕ → Option Layout
layout_behind h n = cond (kind h == 1 && h % 1048576 == n) (layout_at (value h / 1048576) n) None

-- these words have not the kinds of the layout that the head word announces over so many, if it announces one
abbrev pub IsAnnouncedWrongly : ℕ → List ℕ → Type 0
IsAnnouncedWrongly h ws = (l : Layout) → layout_behind h (length ws) ≡ Some l → right_kinds (kinds_of l) ws ≡ false
