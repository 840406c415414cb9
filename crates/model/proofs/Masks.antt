-- Bits of masks, and masks of one station.
use Rattle.std.proofs.Common.{◌≡◌, ℕ, zero, suc, ◌/◌, ◌%◌, ◌^◌, ◌<◌, ◌≤◌, min, true, false, eqb, refl, ap, ◌∙◌, ⊎_elim, arith, pow_mono}
use native.Mathlib.Nat.{pow-succ', mul-div_cancel_left}
use lib.Bits.{bit_and, and_step}
use lib.Count.{ones, ones_step, ones-le, count_trailing_zeros, under as lowest}
use Rattle.std.proofs.lemmas.Bool.{both_ways, cases_lt, eqb-true}
use Rattle.std.proofs.lemmas.Nat.{zero_from_ones}
use Rattle.std.proofs.lemmas.Nat.Bits.{bit_at-suc, bit_at_lowest, bit_at-zero, bit_at_and, bit_at_above}
use Rattle.model.specs.Quorums.{has}

-- half of a mask
pub half_lt : (k n : ℕ) → k < 2 ^ suc n → k / 2 < 2 ^ n
half_lt k n h = let e = pow-succ' 2 n in omega arith

pub half_pow : (i : ℕ) → 2 ^ suc i / 2 ≡ 2 ^ i
half_pow i = ap (λ x. x / 2) (pow-succ' 2 i) ∙ mul-div_cancel_left (2 ^ i) (omega arith)

pub even_pow : (i : ℕ) → 2 ^ suc i % 2 ≡ 0
even_pow i = let e = pow-succ' 2 i in omega arith

pub half_and : (a b : ℕ) → bit_and a b / 2 ≡ bit_and (a / 2) (b / 2)
half_and a b = omega (arith, and_step a b)

pub low_and : (a b : ℕ) → bit_and a b % 2 ≡ min (a % 2) (b % 2)
low_and a b = omega (arith, and_step a b)

-- a station is in the mask where the bit of its number is set: one further up, the lowest, one of no mask, one of two masks
pub has_up : (k i : ℕ) → has k (suc i) ≡ has (k / 2) i
has_up k i = ap (λ x. eqb x 1) (bit_at-suc k i)

pub has_low : (k : ℕ) → has k 0 ≡ eqb (k % 2) 1
has_low k = ap (λ x. eqb x 1) (bit_at_lowest k)

pub has_lowest : (k b : ℕ) → k % 2 ≡ b → has k 0 ≡ eqb b 1
has_lowest k b h = has_low k ∙ ap (λ x. eqb x 1) h

pub has_none : (i : ℕ) → has 0 i ≡ false
has_none i = ap (λ x. eqb x 1) (bit_at-zero i)

pub has_both : (a b i : ℕ) → has (bit_and a b) i ≡ true → (has a i ≡ true) × (has b i ≡ true)
has_both a b i h =
    let e = bit_at_and a b i in
    let k = eqb-true (bit_and a b / 2 ^ i % 2) 1 h in
    let p : a / 2 ^ i % 2 ≡ 1 = omega arith in
    let q : b / 2 ^ i % 2 ≡ 1 = omega arith in
    (ap (λ x. eqb x 1) p, ap (λ x. eqb x 1) q)

-- a mask below 2 ^ n has stations below n
pub has_below : (n m i : ℕ) → m < 2 ^ n → has m i ≡ true → i < n
has_below n m i h t =
    ⊎_elim (λ (l : i < n). l) (λ (g : n ≤ i). absurd (both_ways (has m i) (ap (λ x. eqb x 1) (bit_at_above m n i h g)) t)) (cases_lt i n)

-- a mask of one station is a power of two
pub one_station : (n k : ℕ) → k < 2 ^ n → ones k ≡ 1 → k ≡ 2 ^ count_trailing_zeros n k
unfolding count_trailing_zeros
one_station zero k h o = let e : k ≡ 0 = omega arith in let z = ones-le 0 k h in absurd (omega arith)
one_station (suc n) k h o = go (k % 2) refl (λ q. one_station n (k / 2) (half_lt k n h) q)
  where
    go : (d : ℕ) → k % 2 ≡ d → (ones (k / 2) ≡ 1 → k / 2 ≡ 2 ^ count_trailing_zeros n (k / 2)) → k ≡ 2 ^ lowest d (count_trailing_zeros n (k / 2))
    go zero e rest =
        let s = ones_step k in
        let r = rest (omega arith) in
        let p = pow-succ' 2 (count_trailing_zeros n (k / 2)) in
        omega arith
    go (suc d) e rest =
        let s = ones_step k in
        let r = zero_from_ones (k / 2) (omega arith) in
        omega arith

pub below_of_powers : (a b : ℕ) → 2 ^ a < 2 ^ b → a < b
below_of_powers a b h = ⊎_elim (λ (l : a < b). l) (λ (g : b ≤ a). let m : 2 ^ b ≤ 2 ^ a = pow_mono g in absurd (omega arith)) (cases_lt a b)
