-- What a relayed broadcast's supports stand for, and that each that is kept stays sound.
use Rattle.std.proofs.Common.{◌≡◌, ℕ, ◌^◌, ◌<◌, ◌≤◌, Bool, true, false, cond, not, ◌&&◌, eqb, ltb, is_some, Some, None, Ok, Err, Option, Result, sym, refl, ap, ◌∙◌, arith, pow_mono, rules}
use lib.Bits.{bit_and, bit_or, or_lt, or_zero_l}
use Rattle.std.proofs.lemmas.Nat.{pow_pos, ones_le_self, le_or_r}
use Rattle.std.proofs.lemmas.Bool.{ltb-true, lt-ltb, and_from}
use Rattle.std.specs.Bool.{then_some}
use Rattle.model.specs.declared.names.Name.{Name}
use Rattle.model.specs.declared.refusals.Refusal.{Refusal}
use Rattle.model.specs.declared.votes.Grade.{Grade}
use Rattle.model.specs.declared.votes.Grade.TheVariants.{Two}
use Rattle.model.specs.Names.{same}
use Rattle.model.specs.Questions.{first_no}
use Rattle.model.specs.Quorums.{stations, leads, within, quorum}
use Rattle.model.specs.Ledgers.{Ledger, empty, is, under, enter, clear, vacant}
use Rattle.model.specs.Broadcasts.{ledger, complete, Completed, hear_questions, entered, OfferAnswered}
use Rattle.model.specs.Makes.{relay_fits, relay_free, suits}
use Rattle.model.proofs.Ledgers.{enter_twice, under_enter, clear_enter, vacant_enter}
use Rattle.model.proofs.Hearings.{accepted}
use Rattle.model.proofs.Naming.{same_refl}
use Rattle.model.proofs.Meetings.{none_quorum}
use Rattle.broadcast.specs.Ballots.{told}
use Rattle.broadcast.specs.Grades.{of, put}
use Rattle.broadcast.specs.Supports.{supported, inside, owned}
use Rattle.broadcast.specs.Relays.{relay, held}
use Rattle.broadcast.specs.declared.ballots.Ballot.{Ballot}
use Rattle.broadcast.specs.declared.support.Support.{Support}
use Rattle.broadcast.specs.declared.relayed.Relayed.{Relayed}
use Rattle.broadcast.proofs.Entries.{ledger_of, put_enters, of_put, put_each}

-- what a support answers to the questions on its ledger
abbrev pub votes : Name → Option Support → ℕ
votes x None = 0
votes x (Some w) = cond (same x w.name) w.mask 0

abbrev pub apart : ℕ → Option Support → Bool
apart k None = true
apart k (Some w) = eqb (bit_and w.mask k) 0

-- the name of a support that holds a quorum
abbrev pub named : Ballot → Option Support → Option Name
named b None = None
named b (Some w) = then_some (quorum b.numbers w.mask) w.name

-- whether a support that completes a view completes it for that name
abbrev pub completes : Ballot → Option Support → Name → Bool
completes b None x = false
completes b (Some w) x = cond (same x w.name) (quorum b.numbers w.mask) false

module _ (b : Ballot) where
  below : (k : ℕ) → within b.numbers k ≡ true → k < 2 ^ 28
  below k h =
      let n : stations b.numbers ≤ 28 = omega arith in
      let m : 2 ^ stations b.numbers ≤ 2 ^ 28 = pow_mono n in
      let l = ltb-true k (2 ^ stations b.numbers) h in
      omega arith

  fit : (w : Support) → inside b (Some w) ≡ true → (0 < w.mask) × (w.mask < 2 ^ 28)
  fit w i = (search rules, below w.mask (search rules))

  under_of : (o : Option Support) → inside b o ≡ true → (x : Name) → under x (supported o) ≡ votes x o
  unfolding under
  under_of None i x = refl
  under_of (Some w) i x = under_enter w.name x 28 w.mask (fit w i).1

  clears : (o : Option Support) → inside b o ≡ true → (k : ℕ) → clear k (supported o) ≡ apart k o
  unfolding clear
  clears None i k = refl
  clears (Some w) i k = clear_enter w.name 28 w.mask k (fit w i).1

  vacates : (o : Option Support) → inside b o ≡ true → vacant (supported o) ≡ not (is_some o)
  unfolding vacant
  vacates None i = refl
  vacates (Some w) i = let f = (fit w i).0 in vacant_enter w.name 28 w.mask (fit w i).1 ∙ search rules

  -- a view whose second support this is, is complete for its name, if that holds a quorum, and for no other
  completes_of : (l : Ledger) (o : Option Support) → inside b o ≡ true → (x : Name) → complete (told b l (supported o)) x ≡ completes b o x
  completes_of l None i x = ap (quorum b.numbers) (under_of None i x) ∙ none_quorum b.numbers
  completes_of l (Some w) i x = ap (quorum b.numbers) (under_of (Some w) i x) ∙ split (same x w.name)
    where
      split : (c : Bool) → quorum b.numbers (cond c w.mask 0) ≡ cond c (quorum b.numbers w.mask) false
      split true = refl
      split false = none_quorum b.numbers

  answers : (l : Ledger) (o : Option Support) → inside b o ≡ true → Completed (told b l (supported o)) (named b o)
  answers l None i = completes_of l None i
  answers l (Some w) i = go (quorum b.numbers w.mask) refl
    where
      go : (q : Bool) → quorum b.numbers w.mask ≡ q → Completed (told b l (supported (Some w))) (then_some q w.name)
      go true e = let s = same_refl w.name in let n = completes_of l (Some w) i w.name in search rules
      go false e = λ x. let n = completes_of l (Some w) i x in search rules

module _ (b : Relayed) where
  pub mask_of : (g : Grade) (x : Name) → under x (ledger (relay b) g) ≡ votes x (held b g)
  mask_of g x = ap (under x) (ledger_of supported b.ballot b.supports g) ∙ under_of b.ballot (held b g) (b.inside g) x

  pub clear_of : (g : Grade) (k : ℕ) → clear k (ledger (relay b) g) ≡ apart k (held b g)
  clear_of g k = ap (clear k) (ledger_of supported b.ballot b.supports g) ∙ clears b.ballot (held b g) (b.inside g) k

  pub vacant_of : (g : Grade) → vacant (ledger (relay b) g) ≡ not (is_some (held b g))
  vacant_of g = ap vacant (ledger_of supported b.ballot b.supports g) ∙ vacates b.ballot (held b g) (b.inside g)

  pub completed_only : (x : Name) → complete (relay b) x ≡ completes b.ballot b.supports.two x
  completed_only = completes_of b.ballot (supported b.supports.one) b.supports.two (b.inside Two)

  pub completed_by : Completed (relay b) (named b.ballot b.supports.two)
  completed_by = answers b.ballot (supported b.supports.one) b.supports.two (b.inside Two)

-- the support that is put in an old one's place where a Hear is accepted
abbrev pub more : Option Support → Name → ℕ → Support
more o x k = record { name = x; mask = bit_or (votes x o) k }

module _ (b : Ballot) (o : Option Support) (i : inside b o ≡ true) (a : owned b o ≡ true) (l r : Ledger) (x : Name) (k : ℕ) (f : suits (told b l r) x k ≡ true) where
  positive : 0 < k
  positive = let n = ones_le_self k in search rules

  votes_within : within b.numbers (votes x o) ≡ true
  votes_within = go o i
    where
      go : (o : Option Support) → inside b o ≡ true → within b.numbers (votes x o) ≡ true
      go None i = lt-ltb 0 (2 ^ stations b.numbers) (pow_pos (stations b.numbers))
      go (Some w) i = split (same x w.name)
        where
          split : (c : Bool) → within b.numbers (cond c w.mask 0) ≡ true
          split true = search rules
          split false = lt-ltb 0 (2 ^ stations b.numbers) (pow_pos (stations b.numbers))

  more_inside : inside b (Some (more o x k)) ≡ true
  more_inside =
      let p = positive in
      let q = le_or_r (votes x o) k in
      let n : within b.numbers k ≡ true = search rules in
      let s = stations b.numbers in
      let u = or_lt s (votes x o) k (ltb-true (votes x o) (2 ^ s) votes_within) (ltb-true k (2 ^ s) n) in
      and_from (ltb 0 (bit_or (votes x o) k)) (within b.numbers (bit_or (votes x o) k)) (lt-ltb 0 (bit_or (votes x o) k) (omega arith)) (lt-ltb (bit_or (votes x o) k) (2 ^ s) u)

  more_owned : owned b (Some (more o x k)) ≡ true
  more_owned = search rules

  more_enters : cond (leads b.numbers b.view) (apart k o) (not (is_some o)) ≡ true → enter x k (supported o) ≡ supported (Some (more o x k))
  more_enters free = go o a free
    where
      go : (o : Option Support) → owned b o ≡ true → cond (leads b.numbers b.view) (apart k o) (not (is_some o)) ≡ true
          → enter x k (supported o) ≡ supported (Some (more o x k))
      go None a h = sym (ap (λ j. enter x j empty) (or_zero_l k))
      go (Some w) a h =
          let e : w.name ≡ x = same_of (search rules) (search rules) in
          let z : votes x (Some w) ≡ w.mask = search rules in
          ap (λ y. enter x k (enter y w.mask empty)) e ∙ enter_twice x w.mask k empty ∙ ap (λ j. enter x (bit_or j k) empty) (sym z)
        where
          same_of : is w.name b.first ≡ true → is x b.first ≡ true → w.name ≡ x
          same_of p q = search rules

-- where a Hear is accepted: what the supports are once that is put
pub record Put (b : Relayed) (g : Grade) (x : Name) (k : ℕ) : Type 0 where
  pub inside : (h : Grade) → inside b.ballot (of (put b.supports g (Some (more (held b g) x k))) h) ≡ true
  pub owned : (h : Grade) → owned b.ballot (of (put b.supports g (Some (more (held b g) x k))) h) ≡ true
  pub sum : bit_or (under x (ledger (relay b) g)) k ≡ bit_or (votes x (held b g)) k
  pub enters : told b.ballot (supported (put b.supports g (Some (more (held b g) x k))).one) (supported (put b.supports g (Some (more (held b g) x k))).two)
      ≡ entered (relay b) g x k
  pub all : under x (ledger (entered (relay b) g x k) g) ≡ bit_or (votes x (held b g)) k

pub puts : (b : Relayed) (g : Grade) (x : Name) (k : ℕ) → first_no (hear_questions relay_fits relay_free (relay b) g x k) ≡ None → Put b g x k
puts b g x k h =
    let o = held b g in
    let c = b.ballot in
    let l = supported b.supports.one in
    let r = supported b.supports.two in
    let both = accepted relay_fits relay_free (relay b) g x k h in
    let f : suits (told c l r) x k ≡ true = both.0 in
    let q = clear_of b g k in
    let v = vacant_of b g in
    let free : cond (leads c.numbers c.view) (apart k o) (not (is_some o)) ≡ true = search rules in
    let t : Option Support = Some (more o x k) in
    let i : inside c t ≡ true = more_inside c o (b.inside g) (b.owned g) l r x k f in
    let e = put_enters supported c b.supports g x k t (sym (more_enters c o (b.inside g) (b.owned g) l r x k f free)) in
    record {
      inside = put_each (λ u. inside c u ≡ true) b.supports g t i b.inside;
      owned = put_each (λ u. owned c u ≡ true) b.supports g t (more_owned c o (b.inside g) (b.owned g) l r x k f) b.owned;
      sum = ap (λ j. bit_or j k) (mask_of b g x);
      enters = e;
      all =
          ap (λ m. under x (ledger m g)) (sym e) ∙ ap (under x) (ledger_of supported c (put b.supports g t) g ∙ ap supported (of_put supported c b.supports g t))
          ∙ under_of c t i x ∙ ap (λ s. cond s (bit_or (votes x o) k) 0) (same_refl x);
    }

-- a ballot that keeps its numbers, its view and its first vote, and one that casts its first vote
pub kept : (a b : Ballot) → b.numbers ≡ a.numbers → b.view ≡ a.view → b.first ≡ a.first → (o : Option Support)
    → (inside b o ≡ inside a o) × (owned b o ≡ owned a o)
kept a b n v f None = (refl, refl)
kept a b n v f (Some w) = (ap (λ s. ltb 0 w.mask && within s w.mask) n, cc)

pub offered : (a b : Ballot) (x : Name) (r : Result (Unit {0}) Refusal) → OfferAnswered (told a empty empty) x (told b empty empty) r
    → (o : Option Support) → inside a o ≡ true → owned a o ≡ true → (inside b o ≡ true) × (owned b o ≡ true)
offered a b x (Err e) h o i w =
    let k = kept a b (ap (λ m. m.numbers) h.1) (ap (λ m. m.view) h.1) (ap (λ m. m.first) h.1) o in
    (k.0 ∙ i, k.1 ∙ w)
offered a b x (Ok u) h None i w = (refl, refl)
offered a b x (Ok u) h (Some s) i w =
    let n : b.numbers ≡ a.numbers = ap (λ m. m.numbers) h.1 in
    let v : b.view ≡ a.view = ap (λ m. m.view) h.1 in
    (ap (λ m. ltb 0 s.mask && within m s.mask) n ∙ i, search rules)
