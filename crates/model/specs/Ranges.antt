-- Which numbers are in range: stations, views, grades, names, and the numbers of a block. Assumes nothing.
use Rattle.std.specs.Prelude.{ℕ, Bool, true, not, ◌&&◌, ◌||◌, List, [], ◌∷◌, ◌==◌, nat_lt}
use Rattle.model.specs.Names.{same}
use Rattle.model.specs.Blocks.{referred}
use Rattle.model.specs.Books.{genesis}
use Rattle.model.specs.Quorums.{stations, within}
use Rattle.model.specs.declared.names.Name.{Name}
use Rattle.model.specs.declared.numbers.Numbers.{Numbers}
use Rattle.model.specs.declared.blocks.Entry.{Entry}
use Rattle.model.specs.declared.blocks.Entry.TheVariants.{Bind, Release}
use Rattle.model.specs.declared.blocks.Block.{Block}
use Rattle.model.specs.declared.blocks.Block.TheVariants.{Side, Backbone}

-- a station that there is
abbrev pub station_fits : Numbers → ℕ → Bool
station_fits s i = nat_lt i (stations s)

-- a mask of some stations, all of them stations that there are
unfoldable pub some_stations : Numbers → ℕ → Bool
some_stations s m = not (m == 0) && within s m

-- a view, and each number of an entry: from 1 to 2^28 - 1
abbrev pub view_fits : ℕ → Bool
view_fits v = nat_lt 0 v && nat_lt v 268435456

unfoldable pub grade_fits : ℕ → Bool
grade_fits g = g == 1 || g == 2

-- both halves are below 2^56: a parent's name
unfoldable pub halves_fit : Name → Bool
halves_fit x = nat_lt x.high 72057594037927936 && nat_lt x.low 72057594037927936

-- and it is not that of genesis: any other name
unfoldable pub name_fits : Name → Bool
name_fits x = halves_fit x && not (same x genesis)

abbrev pub names_fit : List Name → Bool
names_fit [] = true
names_fit (x ∷ xs) = name_fits x && names_fit xs

unfoldable pub entry_fits : Entry → Bool
entry_fits (Bind s c f) = view_fits s && (view_fits c && view_fits f)
entry_fits (Release s f) = view_fits s && view_fits f

abbrev pub author_of : Block → ℕ
author_of (Side s) = s.author
author_of (Backbone b) = b.author

-- the numbers of a block, but for its author; the view of a parent is below the block's, which is asked besides
unfoldable pub block_fits : Block → Bool
block_fits (Side s) = name_fits s.name && (entry_fits s.entry && names_fit (referred s.references))
block_fits (Backbone b) = name_fits b.name && (view_fits b.view && (halves_fit b.parent.name && names_fit (referred b.references)))
