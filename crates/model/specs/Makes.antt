-- The two makes: what each asks before a Hear, and what an accepted Hear does. Assumes nothing.
use Rattle.std.specs.Prelude.{◌≡◌, ℕ, Bool, cond, ◌&&◌, Some, None, Option}
use Rattle.model.specs.declared.names.Name.{Name}
use Rattle.model.specs.declared.votes.Grade.{Grade}
use Rattle.model.specs.Quorums.{leads, single, quorum}
use Rattle.model.specs.Ledgers.{is, under, clear, vacant}
use Rattle.model.specs.Broadcasts.{Meaning, Asking, Hearing, ledger, entered, newly, heard}

-- All-to-all hears exactly one station, which has no entry yet; it is entered, and there is nothing to send.
abbrev pub tally_fits : Asking
tally_fits m g x k = single m.numbers k

abbrev pub tally_free : Asking
tally_free m g x k = clear k (ledger m g)

abbrev pub tally_hears : Hearing
tally_hears m g x k send m' = (send ≡ None) × (m' ≡ heard m g x k)

-- this station leads the view
abbrev pub leading : Meaning → Bool
leading m = leads m.numbers m.view

-- Relayed: the leader hears one station at a time, for its own first vote; the others hear a quorum's mask, while the ledger is empty.
-- All of the mask is entered, and a leader whose ledger first holds a quorum has that mask to send.
abbrev pub suits : Meaning → Name → ℕ → Bool
suits m x k = cond (leading m) (single m.numbers k && is x m.first) (quorum m.numbers k)

abbrev pub room : Meaning → Grade → ℕ → Bool
room m g k = cond (leading m) (clear k (ledger m g)) (vacant (ledger m g))

abbrev pub relay_fits : Asking
relay_fits m g x k = suits m x k

abbrev pub relay_free : Asking
relay_free m g x k = room m g k

abbrev pub relay_sends : Meaning → Grade → Name → ℕ → Option ℕ
relay_sends m g x k = cond (leading m && newly m g x k) (Some (under x (ledger (entered m g x k) g))) None

abbrev pub relay_hears : Hearing
relay_hears m g x k send m' = (send ≡ relay_sends m g x k) × (m' ≡ heard m g x k)
