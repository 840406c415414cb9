-- What entering the stations of a mask does to a ledger.
use Rattle.std.proofs.Common.{◌≡◌, ℕ, zero, suc, ◌+◌, ◌-◌, ◌*◌, ◌/◌, ◌%◌, ◌^◌, ◌<◌, ◌≤◌, max, Bool, true, false, cond, not, ◌||◌, eqb, ◌⊎◌, [], ◌∷◌, length, drop, set, replicate, is_some, Some, None, Option, sym, refl, ap, ◌∙◌, ap₂, inl, inr, ⊎_elim, arith, rules}
use lib.Bits.{bit_and, bit_or, and_step, or_step}
use Rattle.std.proofs.lemmas.List.{at_drop_more, at_drop_all}
use Rattle.std.proofs.lemmas.Bool.{false≢true}
use Rattle.model.specs.declared.names.Name.{Name}
use Rattle.model.specs.Names.{same}
use Rattle.model.specs.Quorums.{has}
use Rattle.model.specs.Ledgers.{Ledger, at, is, bit, entry, under, enter, clear, vacant}
use Rattle.model.proofs.Masks.{half_lt, half_pow, even_pow, has_up, has_low}
use Rattle.model.proofs.Clash.{clash}

-- an entry is a name or none
pub some_none : {A : Type 0} (y : Name) → ◌≡◌ {A = Option Name} (Some y) None → A
some_none y h = clash cc

-- an entry is as it was, or the station is in the mask, had none and has the name now
pub at_enter : (x : Name) (k : ℕ) (l : Ledger) (i : ℕ)
    → (at (enter x k l) i ≡ at l i) ⊎ ((has k i ≡ true) × (at l i ≡ None) × (at (enter x k l) i ≡ Some x))
unfolding enter
at_enter x k [] i = inl refl
at_enter x k (Some y ∷ es) zero = inl refl
at_enter x k (None ∷ es) zero = go (eqb (k % 2) 1) refl
  where
    go : (b : Bool) → eqb (k % 2) 1 ≡ b
        → (entry x (eqb (k % 2) 1) None ≡ None) ⊎ ((has k 0 ≡ true) × (◌≡◌ {A = Option Name} None None) × (entry x (eqb (k % 2) 1) None ≡ Some x))
    go true e = inr (has_low k ∙ e, refl, ap (λ b. entry x b None) e)
    go false e = inl (ap (λ b. entry x b None) e)
at_enter x k (e ∷ es) (suc i) =
    ⊎_elim (λ h. inl h) (λ h. inr (has_up k i ∙ h.0, h.1, h.2)) (at_enter x (k / 2) es i)

pub length_enter : (x : Name) (k : ℕ) (l : Ledger) → length (enter x k l) ≡ length l
unfolding enter
length_enter x k [] = refl
length_enter x k (e ∷ es) = ap suc (length_enter x (k / 2) es)

-- nobody
pub enter_none : (x : Name) (l : Ledger) → enter x 0 l ≡ l
unfolding enter
enter_none x [] = refl
enter_none x (None ∷ es) = ap (λ r. None ∷ r) (enter_none x es)
enter_none x (Some y ∷ es) = ap (λ r. Some y ∷ r) (enter_none x es)

pub clear_none : (l : Ledger) → clear 0 l ≡ true
unfolding clear
clear_none [] = refl
clear_none (None ∷ es) = clear_none es
clear_none (Some y ∷ es) = clear_none es

-- one station
pub enter_one : (x : Name) (l : Ledger) (i : ℕ) → at l i ≡ None → enter x (2 ^ i) l ≡ set l i (Some x)
unfolding enter
enter_one x [] i h = refl
enter_one x (Some y ∷ es) zero h = some_none y h
enter_one x (None ∷ es) zero h = ap (λ r. Some x ∷ r) (enter_none x es)
enter_one x (e ∷ es) (suc i) h =
    simp (half_pow i, even_pow i, enter_one x es i h) (go e)
  where
    go : (e : Option Name) → entry x (eqb 0 1) e ∷ set es i (Some x) ≡ e ∷ set es i (Some x)
    go None = refl
    go (Some y) = refl

pub clear_one : (l : Ledger) (i : ℕ) → clear (2 ^ i) l ≡ not (is_some (at l i))
unfolding clear
clear_one [] i = refl
clear_one (None ∷ es) zero = clear_none es
clear_one (Some y ∷ es) zero = refl
clear_one (None ∷ es) (suc i) = ap (λ k. clear k es) (half_pow i) ∙ clear_one es i
clear_one (Some y ∷ es) (suc i) = simp (half_pow i, even_pow i, clear_one es i)

pub clear_at : (l : Ledger) (k i : ℕ) → k ≡ 2 ^ i → clear k l ≡ not (is_some (at l i))
clear_at l k i e = ap (λ j. clear j l) e ∙ clear_one l i

none_at : (e : Option Name) → not (is_some e) ≡ true → e ≡ None
none_at None h = refl
none_at (Some y) h = absurd (false≢true h)

pub enter_at : (x : Name) (l : Ledger) (k i : ℕ) → k ≡ 2 ^ i → clear k l ≡ true → enter x k l ≡ set l i (Some x)
enter_at x l k i e h = ap (λ j. enter x j l) e ∙ enter_one x l i (none_at (at l i) (sym (clear_at l k i e) ∙ h))

-- two masks, one after the other
entry_twice : (x : Name) (a b : Bool) (e : Option Name) → entry x b (entry x a e) ≡ entry x (a || b) e
entry_twice x a b (Some y) = refl
entry_twice x true b None = refl
entry_twice x false true None = refl
entry_twice x false false None = refl

pub enter_twice : (x : Name) (k j : ℕ) (l : Ledger) → enter x j (enter x k l) ≡ enter x (bit_or k j) l
unfolding enter
enter_twice x k j [] = refl
enter_twice x k j (e ∷ es) =
    let o = or_step k j in
    let h : bit_or k j / 2 ≡ bit_or (k / 2) (j / 2) = omega arith in
    let p : bit_or k j % 2 ≡ max (k % 2) (j % 2) = omega arith in
    let b : (eqb (k % 2) 1 || eqb (j % 2) 1) ≡ eqb (bit_or k j % 2) 1 = search rules in
    ap₂ (λ a r. a ∷ r)
    (entry_twice x (eqb (k % 2) 1) (eqb (j % 2) 1) e ∙ ap (λ c. entry x c e) b)
    (enter_twice x (k / 2) (j / 2) es ∙ ap (λ c. enter x c es) (sym h))

-- a ledger that a mask of one name makes
is_entry : (x y : Name) (b : Bool) → bit (is y (entry x b None)) ≡ cond (same y x) (bit b) 0
is_entry x y true = search rules
is_entry x y false = search rules

pub under_enter : (x y : Name) (n k : ℕ) → k < 2 ^ n → under y (enter x k (replicate n None)) ≡ cond (same y x) k 0
unfolding enter under
under_enter x y zero k h = search rules
under_enter x y (suc n) k h =
    let r = under_enter x y n (k / 2) (half_lt k n h) in
    let b = is_entry x y (eqb (k % 2) 1) in
    search rules

pub clear_enter : (x : Name) (n k j : ℕ) → k < 2 ^ n → clear j (enter x k (replicate n None)) ≡ eqb (bit_and k j) 0
unfolding enter clear
clear_enter x zero k j h = search rules
clear_enter x (suc n) k j h =
    let r = clear_enter x n (k / 2) (j / 2) (half_lt k n h) in
    let a = and_step k j in
    search rules

pub vacant_enter : (x : Name) (n k : ℕ) → k < 2 ^ n → vacant (enter x k (replicate n None)) ≡ eqb k 0
unfolding enter vacant
vacant_enter x zero k h = search rules
vacant_enter x (suc n) k h =
    let r = vacant_enter x n (k / 2) (half_lt k n h) in
    search rules

-- the mask under a name, from the last station down
pub under_end : (x : Name) (l : Ledger) (n : ℕ) → length l ≤ n → under x (drop n l) ≡ 0
unfolding under
under_end x l n h = at_drop_all (under x) l n h

pub under_more : (x : Name) (l : Ledger) (i : ℕ) → 0 < i → i ≤ length l → under x (drop (i - 1) l) ≡ bit (is x (at l (i - 1))) + 2 * under x (drop i l)
unfolding under
under_more x l i p h =
    let e : i - 1 + 1 ≡ i = omega arith in
    at_drop_more (under x) l (i - 1) None (omega arith) ∙ ap (λ j. bit (is x (at l (i - 1))) + 2 * under x (drop j l)) e
