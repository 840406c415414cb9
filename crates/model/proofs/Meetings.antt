-- Two quorums share more than may lie, and the stations that do not lie are a quorum.
use Rattle.std.proofs.Common.{◌≡◌, ℕ, zero, suc, ◌+◌, ◌-◌, ◌*◌, ◌/◌, ◌%◌, ◌^◌, ◌<◌, ◌≤◌, Bool, true, false, not, ◌&&◌, ltb, leb, sym, refl, ap, ◌∙◌, ap₂, arith}
use native.Mathlib.Decide.{dec_le}
use native.Mathlib.Nat.{pow-succ'}
use lib.Bits.{bit_and, and_lt}
use lib.Count.{ones, ones_step, ones-le}
use Rattle.std.proofs.lemmas.Nat.{pow_pos}
use Rattle.std.proofs.lemmas.Bool.{both_ways, and_parts, and_from, leb-true, le-leb, ltb-true, lt-ltb, eqb-true}
use Rattle.model.specs.declared.numbers.Numbers.{Numbers}
use Rattle.model.specs.Quorums.{stations, leader, has, within, weight, needed, tolerated, quorum, Quorum, Few, Correct, honest, Alike, QuorumLaws, MaskLaws}
use Rattle.model.proofs.Masks.{half_lt, half_and, low_and, has_up, has_lowest, has_low, has_none, has_both, has_below}

-- what a quorum is
many : (s : Numbers) (m : ℕ) → Quorum s m → needed s ≤ weight s m
many s m q = leb-true (needed s) (weight s m) (and_parts (leb (needed s) (weight s m)) (within s m) q).0

inside : (s : Numbers) (m : ℕ) → Quorum s m → m < 2 ^ stations s
inside s m q = ltb-true m (2 ^ stations s) (and_parts (leb (needed s) (weight s m)) (within s m) q).1

-- of n stations, two masks share as many as they have beyond n
both : (n a b : ℕ) → a < 2 ^ n → b < 2 ^ n → ones a + ones b ≤ n + ones (bit_and a b)
both zero a b ha hb = omega (arith, ones-le 0 a ha, ones-le 0 b hb)
both (suc n) a b ha hb =
    let r = both n (a / 2) (b / 2) (half_lt a n ha) (half_lt b n hb) in
    let h : ones (bit_and a b / 2) ≡ ones (bit_and (a / 2) (b / 2)) = ap ones (half_and a b) in
    omega (arith, ones_step a, ones_step b, ones_step (bit_and a b), low_and a b)

share : (s : Numbers) (a b : ℕ) → Quorum s a → Quorum s b → tolerated s < weight s (bit_and a b)
share s a b p q = omega (arith, many s a p, many s b q, both (stations s) a b (inside s a p) (inside s b q))

-- a mask with more stations than another has one that the other has not
beyond : (n m l : ℕ) → m < 2 ^ n → ones l < ones m → (i : ℕ) × (i < n) × (has m i ≡ true) × (has l i ≡ false)
beyond zero m l h k = absurd (omega (arith, ones-le 0 m h))
beyond (suc n) m l h k = go (dec_le (ones (m / 2)) (ones (l / 2))) (beyond n (m / 2) (l / 2) (half_lt m n h))
  where
    go : Dec (ones (m / 2) ≤ ones (l / 2)) → (ones (l / 2) < ones (m / 2) → (i : ℕ) × (i < n) × (has (m / 2) i ≡ true) × (has (l / 2) i ≡ false))
        → (i : ℕ) × (i < suc n) × (has m i ≡ true) × (has l i ≡ false)
    go (no d) up = let t = up (omega arith) in (suc t.0, omega (arith, t.1), has_up m t.0 ∙ t.2, has_up l t.0 ∙ t.3)
    go (yes d) up =
        let p : m % 2 ≡ 1 = omega (arith, ones_step m, ones_step l) in
        let q : l % 2 ≡ 0 = omega (arith, ones_step m, ones_step l) in
        (0, omega arith, has_lowest m 1 p, has_lowest l 0 q)

pub meet : (s : Numbers) (liars a b : ℕ) → Few s liars → Quorum s a → Quorum s b
    → (i : ℕ) × (Correct s liars i) × (has a i ≡ true) × (has b i ≡ true)
meet s liars a b few p q =
    let t = beyond (stations s) (bit_and a b) liars (and_lt (stations s) a b (inside s a p) (inside s b q)) (omega (arith, few.1, share s a b p q)) in
    let h = has_both a b t.0 t.2 in
    (t.0, (t.1, t.3), h.0, h.1)

-- a mask that has every station that another has not: together they have all
cover : (n m l : ℕ) → ((i : ℕ) → i < n → has l i ≡ false → has m i ≡ true) → n ≤ ones m + ones l
cover zero m l h = omega arith
cover (suc n) m l h =
    let r = cover n (m / 2) (l / 2) (λ i k o. sym (has_up m i) ∙ h (suc i) (omega arith) (has_up l i ∙ o)) in
    omega (arith, ones_step m, ones_step l, low (dec_le (l % 2) 0))
  where
    low : Dec (l % 2 ≤ 0) → 1 ≤ m % 2 + l % 2
    low (no d) = omega arith
    low (yes d) =
        let o : l % 2 ≡ 0 = omega arith in
        let k : m % 2 ≡ 1 = eqb-true (m % 2) 1 (sym (has_low m) ∙ h 0 (omega arith) (has_lowest l 0 o)) in
        omega arith

enough : (s : Numbers) (liars m : ℕ) → Few s liars → within s m ≡ true → ((i : ℕ) → Correct s liars i → has m i ≡ true) → Quorum s m
enough s liars m few w all =
    let c = cover (stations s) m liars (λ i k o. all i (k, o)) in
    and_from (leb (needed s) (weight s m)) (within s m) (le-leb (needed s) (weight s m) (omega (arith, few.1))) w

-- the others of n stations
rest_half : (n l : ℕ) → l < 2 ^ suc n → ((2 ^ suc n - 1 - l) / 2 ≡ 2 ^ n - 1 - l / 2) × ((2 ^ suc n - 1 - l) % 2 ≡ 1 - l % 2)
rest_half n l h = let e = pow-succ' 2 n in (omega arith, omega arith)

rest_has : (n l : ℕ) → l < 2 ^ n → (i : ℕ) → i < n → has (2 ^ n - 1 - l) i ≡ not (has l i)
rest_has zero l h i k = absurd (omega arith)
rest_has (suc n) l h zero k = go (l % 2) refl
  where
    go : (b : ℕ) → l % 2 ≡ b → has (2 ^ suc n - 1 - l) 0 ≡ not (has l 0)
    go zero e = has_lowest (2 ^ suc n - 1 - l) 1 (omega (arith, (rest_half n l h).1)) ∙ ap not (sym (has_lowest l 0 e))
    go (suc b) e =
        let o : l % 2 ≡ 1 = omega arith in
        has_lowest (2 ^ suc n - 1 - l) 0 (omega (arith, (rest_half n l h).1)) ∙ ap not (sym (has_lowest l 1 o))
rest_has (suc n) l h (suc i) k =
    has_up (2 ^ suc n - 1 - l) i ∙ ap (λ x. has x i) (rest_half n l h).0 ∙ rest_has n (l / 2) (half_lt l n h) i (omega arith)
    ∙ ap not (sym (has_up l i))

honestly : (s : Numbers) (liars : ℕ) → Few s liars → (i : ℕ) → i < stations s → has (honest s liars) i ≡ not (has liars i)
honestly s liars few i k = rest_has (stations s) liars (ltb-true liars (2 ^ stations s) few.0) i k

correct : (s : Numbers) (liars : ℕ) → Few s liars → Quorum s (honest s liars)
correct s liars few =
    let w : within s (honest s liars) ≡ true = lt-ltb (honest s liars) (2 ^ stations s) (omega (arith, pow_pos (stations s))) in
    enough s liars (honest s liars) few w (λ i c. honestly s liars few i c.0 ∙ ap not c.1)

members : (s : Numbers) (m i : ℕ) → within s m ≡ true → has m i ≡ true → i < stations s
members s m i w h = has_below (stations s) m i (ltb-true m (2 ^ stations s) w) h

-- all go by the one number
alike : (s t : Numbers) → Alike s t
    → ((m : ℕ) → quorum s m ≡ quorum t m) × ((m : ℕ) → Few s m → Few t m) × ((v : ℕ) → leader s v ≡ leader t v) × (stations s ≡ stations t)
alike s t e =
    let n : stations s ≡ stations t = ap (λ f. 3 * f + 1) e in
    let w : (m : ℕ) → within s m ≡ within t m = λ m. ap (λ k. ltb m (2 ^ k)) n in
    (λ m. ap₂ (λ f b. leb (2 * f + 1) (ones m) && b) e (w m), λ m few. (sym (w m) ∙ few.0, omega (arith, few.1)), λ v. ap (λ k. v % k) n, n)

-- where nobody lies, few do
pub nobody_lies : (s : Numbers) → Few s 0
nobody_lies s = (lt-ltb 0 (2 ^ stations s) (pow_pos (stations s)), omega (arith, ones-le 0 0 (omega arith)))

-- nobody is no quorum: it has no station to share
pub none_quorum : (s : Numbers) → quorum s 0 ≡ false
none_quorum s = go (quorum s 0) refl
  where
    go : (b : Bool) → quorum s 0 ≡ b → quorum s 0 ≡ false
    go false e = e
    go true e = let t = meet s 0 0 0 (nobody_lies s) e e in absurd (both_ways (has 0 t.0) (has_none t.0) t.2)

pub quorum_laws : QuorumLaws
quorum_laws = record { share = share; meet = meet; correct = correct; enough = enough }

pub mask_laws : MaskLaws
mask_laws = record { members = members; honestly = honestly; alike = alike }
