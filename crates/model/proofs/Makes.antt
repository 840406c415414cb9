-- Both makes keep the clauses of every broadcast, and the call that first gives ledger 1 a quorum gives a waiting second vote.
use Rattle.std.proofs.Common.{◌≡◌, ℕ, ◌+◌, ◌*◌, ◌/◌, ◌%◌, ◌<◌, Bool, true, false, cond, not, eqb, ◌⊎◌, [], ◌∷◌, length, is_some, Some, None, Option, sym, refl, ap, ◌∙◌, subst, ap₂, inl, rules}
use Rattle.std.proofs.lemmas.Bool.{and_parts, and_from, both_ways, not-true, true≢false}
use Rattle.model.specs.declared.names.Name.{Name}
use Rattle.model.specs.declared.numbers.Numbers.{Numbers}
use Rattle.model.specs.declared.votes.Grade.{Grade}
use Rattle.model.specs.declared.votes.Grade.TheVariants.{One, Two}
use Rattle.model.specs.declared.votes.SecondVote.{SecondVote}
use Rattle.model.specs.declared.votes.SecondVote.TheVariants.{Waiting, Given, Shut}
use Rattle.model.specs.Names.{same}
use Rattle.model.specs.Quorums.{has, quorum, Quorum}
use Rattle.model.specs.Ledgers.{Ledger, at, is, bit, entry, under, enter, clear, full}
use Rattle.model.specs.Broadcasts.{Meaning, Keeps, Hears, ledger, entered, newly, given, heard}
use Rattle.model.specs.Makes.{tally_fits, tally_free, tally_hears, relay_fits, relay_free, relay_sends, relay_hears}
use Rattle.model.specs.Laws.{FirstQuorumGives, AllEnter}
use Rattle.model.proofs.Naming.{same_true, same_refl}
use Rattle.model.proofs.Ledgers.{some_none}
use Rattle.model.proofs.Hearings.{heard_keeps, same_ledger}
use Rattle.model.proofs.Stations.{one_quorum, enters, clears}
use Rattle.model.proofs.Clash.{clash}

pub tally_keeps : Keeps tally_fits tally_free tally_hears
tally_keeps m g x k send m' a b h =
    subst (λ (n : Meaning). Hears m g x k send n) (sym h.1) (heard_keeps m g x k send (inl h.0))

-- a mask is sent by a leader alone, whose own first vote is the name
sent : (m : Meaning) (g : Grade) (x : Name) (k : ℕ) → relay_fits m g x k ≡ true
    → (relay_sends m g x k ≡ None) ⊎ ((relay_sends m g x k ≡ Some (under x (ledger (entered m g x k) g))) × (is_some m.first ≡ true))
sent m g x k f = search rules

pub relay_keeps : Keeps relay_fits relay_free relay_hears
relay_keeps m g x k send m' a b h =
    let out : (send ≡ None) ⊎ ((send ≡ Some (under x (ledger (heard m g x k) g))) × (is_some m.first ≡ true)) =
    rw (h.0, same_ledger m g x k g) (sent m g x k a) in
    subst (λ (n : Meaning). Hears m g x k send n) (sym h.1) (heard_keeps m g x k send out)

-- stations under another name stay
other_entry : (x y : Name) (b : Bool) (e : Option Name) → same y x ≡ false → bit (is y (entry x b e)) ≡ bit (is y e)
other_entry x y b (Some z) h = refl
other_entry x y true None h = ap bit h
other_entry x y false None h = refl

under_other : (x y : Name) (k : ℕ) (l : Ledger) → same y x ≡ false → under y (enter x k l) ≡ under y l
unfolding enter under
under_other x y k [] h = refl
under_other x y k (e ∷ es) h =
    ap₂ (λ a r. a + 2 * r) (other_entry x y (eqb (k % 2) 1) e h) (under_other x y (k / 2) es h)

not_full : (s : Numbers) (l : Ledger) (x : Name) → (Quorum s (under x l) → ⊥) → not (full s l x) ≡ true
not_full s l x h = go (full s l x) refl
  where
    go : (b : Bool) → full s l x ≡ b → not b ≡ true
    go true e = absurd (h e)
    go false e = refl

when_first : (m : Meaning) (g : Grade) (x : Name) (k : ℕ) → m.second ≡ Waiting → (y : Name)
    → Quorum m.numbers (under y (heard m g x k).one) → ((z : Name) → Quorum m.numbers (under z m.one) → ⊥) → (heard m g x k).second ≡ Given y
when_first m Two x k w y q none = absurd (none y q)
when_first m One x k w y q none = go (same y x) refl
  where
    go : (b : Bool) → same y x ≡ b → (heard m One x k).second ≡ Given y
    go false e = absurd (none y (ap (quorum m.numbers) (sym (under_other x y k m.one e)) ∙ q))
    go true e =
        let i : y ≡ x = same_true y x e in
        let f : full m.numbers (enter x k m.one) x ≡ true = ap (λ z. quorum m.numbers (under z (enter x k m.one))) (sym i) ∙ q in
        let n : newly m One x k ≡ true =
        and_from (not (full m.numbers m.one x)) (full m.numbers (enter x k m.one) x) (not_full m.numbers m.one x (none x)) f in
        ap (λ b. cond b (given One m.second x) m.second) n ∙ ap (λ v. given One v x) w ∙ ap Given (sym i)

given_for : (v : SecondVote) (b : Bool) (g : Grade) (x y : Name) → v ≡ Waiting → cond b (given g v x) v ≡ Given y → (b ≡ true) × (g ≡ One) × (y ≡ x)
given_for Waiting true One x y w e = (refl, refl, cc)
given_for Waiting true Two x y w e = clash cc
given_for Waiting false g x y w e = clash cc
given_for (Given u) b g x y w e = clash cc
given_for Shut b g x y w e = clash cc

only_first : (m : Meaning) (g : Grade) (x : Name) (k : ℕ) → m.second ≡ Waiting → (y : Name) → (heard m g x k).second ≡ Given y
    → (Quorum m.numbers (under y (heard m g x k).one)) × ((z : Name) → Quorum m.numbers (under z m.one) → ⊥)
only_first m Two x k w y e =
    let h = given_for m.second (newly m Two x k) Two x y w e in
    clash cc
only_first m One x k w y e =
    let h = given_for m.second (newly m One x k) One x y w e in
    let p = and_parts (not (full m.numbers m.one x)) (full m.numbers (enter x k m.one) x) h.0 in
    let q : Quorum m.numbers (under y (enter x k m.one)) = ap (λ z. quorum m.numbers (under z (enter x k m.one))) h.2 ∙ p.1 in
    (q, λ z o. go z o (not-true (full m.numbers m.one x) p.0) p.1 (same z x) refl)
  where
    go : (z : Name) → Quorum m.numbers (under z m.one) → full m.numbers m.one x ≡ false → full m.numbers (enter x k m.one) x ≡ true
        → (b : Bool) → same z x ≡ b → ⊥
    go z o n f true e = both_ways (full m.numbers m.one x) n (ap (λ u. quorum m.numbers (under u m.one)) (sym (same_true z x e)) ∙ o)
    go z o n f false e =
        let j : Quorum m.numbers (under z (enter x k m.one)) = ap (quorum m.numbers) (under_other x z k m.one e) ∙ o in
        let i : z ≡ x = one_quorum m.numbers (enter x k m.one) z x j f in
        both_ways (same z x) e (ap (λ u. same u x) i ∙ same_refl x)

pub first_quorum_gives : FirstQuorumGives
first_quorum_gives m g x k = record { when = when_first m g x k; only = only_first m g x k }

-- a station without an entry, in the mask
entry_new : (x : Name) (b : Bool) (e : Option Name) → e ≡ None → b ≡ true → entry x b e ≡ Some x
entry_new x true None p q = refl
entry_new x false None p q = absurd (true≢false (sym q))
entry_new x b (Some y) p q = some_none y p

pub all_enter : AllEnter
all_enter m g x k c i h l =
    ap (λ r. at r i) (same_ledger m g x k g) ∙ go g l c
  where
    go : (g : Grade) → i < length (ledger m g) → clear k (ledger m g) ≡ true → at (ledger (entered m g x k) g) i ≡ Some x
    go One l c = enters x k m.one i l ∙ entry_new x (has k i) (at m.one i) (clears k m.one c i h) h
    go Two l c = enters x k m.two i l ∙ entry_new x (has k i) (at m.two i) (clears k m.two c i h) h
