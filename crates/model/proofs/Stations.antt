-- Masks and ledgers, station by station; a ledger holds a quorum under one name at most.
use Rattle.std.proofs.Common.{◌≡◌, ℕ, zero, suc, ◌+◌, ◌*◌, ◌/◌, ◌%◌, ◌^◌, ◌<◌, ◌≤◌, Bool, true, false, not, eqb, [], ◌∷◌, length, Some, None, Option, sym, refl, ap, ◌∙◌, arith, rules}
use native.Mathlib.Nat.{pow-succ'}
use Rattle.std.proofs.lemmas.Nat.{pow_pos}
use Rattle.std.proofs.lemmas.Bool.{and_parts, and_from, both_ways, not-true, lt-ltb, false≢true}
use Rattle.model.specs.declared.names.Name.{Name}
use Rattle.model.specs.declared.numbers.Numbers.{Numbers}
use Rattle.model.specs.Quorums.{has, stations, within, Quorum}
use Rattle.model.specs.Ledgers.{Ledger, at, is, bit, entry, under, enter, clear, vacant}
use Rattle.model.specs.Laws.{StationByStation}
use Rattle.model.proofs.Masks.{has_up, has_low, has_none}
use Rattle.model.proofs.Meetings.{meet, nobody_lies}
use Rattle.model.proofs.Ledgers.{some_none, length_enter}

pub masks : (x : Name) (l : Ledger) (i : ℕ) → has (under x l) i ≡ is x (at l i)
unfolding under
masks x [] i = has_none i
masks x (e ∷ es) zero =
    has_low (bit (is x e) + 2 * under x es) ∙ go (is x e)
  where
    go : (b : Bool) → eqb ((bit b + 2 * under x es) % 2) 1 ≡ b
    go true = search rules
    go false = search rules
masks x (e ∷ es) (suc i) =
    let h : (bit (is x e) + 2 * under x es) / 2 ≡ under x es = search rules in
    has_up (bit (is x e) + 2 * under x es) i ∙ ap (λ k. has k i) h ∙ masks x es i

under_lt : (n : ℕ) (x : Name) (l : Ledger) → ((i : ℕ) → n ≤ i → at l i ≡ None) → under x l < 2 ^ n
unfolding under
under_lt n x [] h = pow_pos n
under_lt zero x (e ∷ es) h =
    let r = under_lt zero x es (λ i k. h (suc i) (omega arith)) in
    let z : bit (is x e) ≡ 0 = ap (λ o. bit (is x o)) (h 0 (omega arith)) in
    omega arith
under_lt (suc n) x (e ∷ es) h =
    let r = under_lt n x es (λ i k. h (suc i) (omega arith)) in
    let p = pow-succ' 2 n in
    omega (arith, bit_le (is x e))
  where
    bit_le : (b : Bool) → bit b ≤ 1
    bit_le true = omega arith
    bit_le false = omega arith

within_if : (s : Numbers) (x : Name) (l : Ledger) → ((i : ℕ) → stations s ≤ i → at l i ≡ None) → within s (under x l) ≡ true
within_if s x l h = lt-ltb (under x l) (2 ^ stations s) (under_lt (stations s) x l h)

pub enters : (x : Name) (k : ℕ) (l : Ledger) (i : ℕ) → i < length l → at (enter x k l) i ≡ entry x (has k i) (at l i)
unfolding enter
enters x k [] i h = absurd (omega arith)
enters x k (e ∷ es) zero h = ap (λ b. entry x b e) (sym (has_low k))
enters x k (e ∷ es) (suc i) h = enters x (k / 2) es i (omega arith) ∙ ap (λ b. entry x b (at es i)) (sym (has_up k i))

pub clears : (k : ℕ) (l : Ledger) → clear k l ≡ true → (i : ℕ) → has k i ≡ true → at l i ≡ None
unfolding clear
clears k [] c i h = refl
clears k (None ∷ es) c zero h = refl
clears k (Some y ∷ es) c zero h =
    let out = not-true (eqb (k % 2) 1) (and_parts (not (eqb (k % 2) 1)) (clear (k / 2) es) c).0 in
    absurd (both_ways (has k 0) (has_low k ∙ out) h)
clears k (None ∷ es) c (suc i) h = clears (k / 2) es c i (sym (has_up k i) ∙ h)
clears k (Some y ∷ es) c (suc i) h =
    clears (k / 2) es (and_parts (not (eqb (k % 2) 1)) (clear (k / 2) es) c).1 i (sym (has_up k i) ∙ h)

clear_if : (k : ℕ) (l : Ledger) → ((i : ℕ) → has k i ≡ true → at l i ≡ None) → clear k l ≡ true
unfolding clear
clear_if k [] h = refl
clear_if k (None ∷ es) h = clear_if (k / 2) es (λ i p. h (suc i) (has_up k i ∙ p))
clear_if k (Some y ∷ es) h =
    and_from (not (eqb (k % 2) 1)) (clear (k / 2) es) (out (eqb (k % 2) 1) refl) (clear_if (k / 2) es (λ i p. h (suc i) (has_up k i ∙ p)))
  where
    out : (b : Bool) → eqb (k % 2) 1 ≡ b → not b ≡ true
    out false e = refl
    out true e = some_none y (h 0 (has_low k ∙ e))

vacants : (l : Ledger) → vacant l ≡ true → (i : ℕ) → at l i ≡ None
unfolding vacant
vacants [] v i = refl
vacants (None ∷ es) v zero = refl
vacants (None ∷ es) v (suc i) = vacants es v i
vacants (Some y ∷ es) v i = absurd (false≢true v)

vacant_if : (l : Ledger) → ((i : ℕ) → at l i ≡ None) → vacant l ≡ true
unfolding vacant
vacant_if [] h = refl
vacant_if (None ∷ es) h = vacant_if es (λ i. h (suc i))
vacant_if (Some y ∷ es) h = some_none y (h 0)

-- the station that two quorums of a ledger share has one entry
same_entry : (x y : Name) (e : Option Name) → is x e ≡ true → is y e ≡ true → x ≡ y
same_entry x y e p q = search rules

pub one_quorum : (s : Numbers) (l : Ledger) (x y : Name) → Quorum s (under x l) → Quorum s (under y l) → x ≡ y
one_quorum s l x y p q =
    let t = meet s 0 (under x l) (under y l) (nobody_lies s) p q in
    same_entry x y (at l t.0) (sym (masks x l t.0) ∙ t.2) (sym (masks y l t.0) ∙ t.3)

pub station_by_station : StationByStation
station_by_station = record {
  masks = masks;
  within_if = within_if;
  enters = enters;
  keeps_length = length_enter;
  clears = clears;
  clear_if = clear_if;
  vacants = vacants;
  vacant_if = vacant_if;
  one_quorum = one_quorum;
}
