-- A ledger: for each station at most one name, by station number. Assumes nothing.
use Rattle.std.specs.Prelude.{ℕ, ◌+◌, ◌*◌, ◌/◌, ◌%◌, Bool, true, false, not, ◌&&◌, List, [], ◌∷◌, replicate, Some, None, Option, ◌==◌, slice_index_or}
use Rattle.model.specs.declared.names.Name.{Name}
use Rattle.model.specs.declared.numbers.Numbers.{Numbers}
use Rattle.model.specs.Names.{same}
use Rattle.model.specs.Quorums.{quorum}

abbrev pub Ledger : Type 0
Ledger = List (Option Name)

-- the ledger with no entry, of as many stations as there may be
abbrev pub empty : Ledger
empty = replicate 28 None

-- the entry of station i
abbrev pub at : Ledger → ℕ → Option Name
at l i = slice_index_or l i None

-- the entry is that name
abbrev pub is : Name → Option Name → Bool
is x None = false
is x (Some y) = same x y

abbrev pub bit : Bool → ℕ
bit true = 1
bit false = 0

-- the mask of the stations under a name
unfoldable pub under : Name → Ledger → ℕ
under x [] = 0
under x (e ∷ es) = bit (is x e) + 2 * under x es

-- the entry once it is the station's turn, or not, to be entered: an entry stays
abbrev pub entry : Name → Bool → Option Name → Option Name
entry x b (Some y) = Some y
entry x true None = Some x
entry x false None = None

-- the ledger once the stations of the mask that had no entry are entered under the name
unfoldable pub enter : Name → ℕ → Ledger → Ledger
enter x k [] = []
enter x k (e ∷ es) = entry x (k % 2 == 1) e ∷ enter x (k / 2) es

-- no station of the mask has an entry
unfoldable pub clear : ℕ → Ledger → Bool
clear k [] = true
clear k (None ∷ es) = clear (k / 2) es
clear k (Some y ∷ es) = not (k % 2 == 1) && clear (k / 2) es

-- no station has an entry
unfoldable pub vacant : Ledger → Bool
vacant [] = true
vacant (None ∷ es) = vacant es
vacant (Some y ∷ es) = false

-- the ledger holds a quorum under the name
abbrev pub full : Numbers → Ledger → Name → Bool
full s l x = quorum s (under x l)
