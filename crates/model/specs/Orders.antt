-- What an order of side blocks is, and the two orders in use. Assumes nothing.
use Rattle.std.specs.Prelude.{◌≡◌, ℕ, Bool, true, false, not, ◌&&◌, ◌||◌, ◌==◌, ◌≢◌, nat_lt}
use Rattle.model.specs.declared.names.Name.{Name}
use Rattle.model.specs.declared.blocks.SideBlock.{SideBlock}
use Rattle.model.specs.declared.blocks.Entry.{Entry}
use Rattle.model.specs.declared.blocks.Entry.TheVariants.{Bind, Release}

-- whether the first of two side blocks is before the second
abbrev pub Before : Type 0
Before = SideBlock → SideBlock → Bool

-- of two differently named blocks exactly one is before the other, none is before itself, and before is transitive
pub record Lawful (before : Before) : Type 0 where
  pub apart : (a b : SideBlock) → (a.name ≢ b.name) → before a b ≡ not (before b a)
  pub never : (a : SideBlock) → before a a ≡ false
  pub chain : (a b c : SideBlock) → before a b ≡ true → before b c ≡ true → before a c ≡ true

-- by one number, and where it is equal by what follows
abbrev pub then_by : ℕ → ℕ → Bool → Bool
then_by a b rest = nat_lt a b || (a == b && rest)

-- names compare by their first number, then their second
abbrev pub name_before : Name → Name → Bool
name_before m n = then_by m.high n.high (nat_lt m.low n.low)

-- by author, then name
abbrev pub by_author : Before
by_author a b = then_by a.author b.author (name_before a.name b.name)

abbrev pub sonde_of : Entry → ℕ
sonde_of (Bind s c f) = s
sonde_of (Release s f) = s

-- a release is before a bind
abbrev pub sort_of : Entry → ℕ
sort_of (Release s f) = 0
sort_of (Bind s c f) = 1

-- by sonde, release before bind, then name
abbrev pub by_sonde : Before
by_sonde a b = then_by (sonde_of a.entry) (sonde_of b.entry) (then_by (sort_of a.entry) (sort_of b.entry) (name_before a.name b.name))
