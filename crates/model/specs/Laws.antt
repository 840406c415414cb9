-- What masks and ledgers are, station by station, and which Hear gives the second vote. Assumes nothing.
use Rattle.std.specs.Prelude.{◌≡◌, ℕ, ◌<◌, ◌≤◌, true, length, Some, None}
use Rattle.model.specs.declared.names.Name.{Name}
use Rattle.model.specs.declared.numbers.Numbers.{Numbers}
use Rattle.model.specs.declared.votes.Grade.{Grade}
use Rattle.model.specs.declared.votes.SecondVote.TheVariants.{Waiting, Given}
use Rattle.model.specs.Quorums.{has, stations, within, Quorum}
use Rattle.model.specs.Ledgers.{Ledger, at, is, entry, under, enter, clear, vacant}
use Rattle.model.specs.Broadcasts.{Meaning, ledger, heard}

pub record StationByStation : Type 0 where
  -- the mask under a name has just the stations whose entry is that name
  pub masks : (x : Name) (l : Ledger) (i : ℕ) → has (under x l) i ≡ is x (at l i)
  -- where no station from the number of stations up has an entry, it is a mask of stations
  pub within_if : (s : Numbers) (x : Name) (l : Ledger) → ((i : ℕ) → stations s ≤ i → at l i ≡ None) → within s (under x l) ≡ true
  -- entering a mask leaves each entry, and gives the name to just the stations of the mask that had none
  pub enters : (x : Name) (k : ℕ) (l : Ledger) (i : ℕ) → i < length l → at (enter x k l) i ≡ entry x (has k i) (at l i)
  pub keeps_length : (x : Name) (k : ℕ) (l : Ledger) → length (enter x k l) ≡ length l
  -- a ledger is clear of a mask where no station of the mask has an entry, and vacant where no station has one
  pub clears : (k : ℕ) (l : Ledger) → clear k l ≡ true → (i : ℕ) → has k i ≡ true → at l i ≡ None
  pub clear_if : (k : ℕ) (l : Ledger) → ((i : ℕ) → has k i ≡ true → at l i ≡ None) → clear k l ≡ true
  pub vacants : (l : Ledger) → vacant l ≡ true → (i : ℕ) → at l i ≡ None
  pub vacant_if : (l : Ledger) → ((i : ℕ) → at l i ≡ None) → vacant l ≡ true
  -- a ledger holds a quorum under one name at most
  pub one_quorum : (s : Numbers) (l : Ledger) (x y : Name) → Quorum s (under x l) → Quorum s (under y l) → x ≡ y

-- The call that first gives ledger 1 a quorum, under any name, gives a waiting second vote for that name, and no other call does.
pub record Gives (m m' : Meaning) : Type 0 where
  pub when : m.second ≡ Waiting → (y : Name) → Quorum m.numbers (under y m'.one)
      → ((z : Name) → Quorum m.numbers (under z m.one) → ⊥) → m'.second ≡ Given y
  pub only : m.second ≡ Waiting → (y : Name) → m'.second ≡ Given y
      → (Quorum m.numbers (under y m'.one)) × ((z : Name) → Quorum m.numbers (under z m.one) → ⊥)

abbrev pub FirstQuorumGives : Type 0
FirstQuorumGives = (m : Meaning) (g : Grade) (x : Name) (k : ℕ) → Gives m (heard m g x k)

-- every station of a mask that the ledger was clear of stands under the name then
abbrev pub AllEnter : Type 0
AllEnter =
    (m : Meaning) (g : Grade) (x : Name) (k : ℕ) → clear k (ledger m g) ≡ true → (i : ℕ) → has k i ≡ true → i < length (ledger m g)
    → at (ledger (heard m g x k) g) i ≡ Some x
