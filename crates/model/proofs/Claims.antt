-- Masks of the stations that a test picks, and how claims add to them.
use Rattle.std.proofs.Common.{◌≡◌, ℕ, zero, suc, ◌+◌, ◌*◌, ◌/◌, ◌%◌, ◌^◌, ◌<◌, ◌≤◌, Bool, true, false, cond, ◌&&◌, ◌||◌, eqb, ltb, leb, List, [], ◌∷◌, get_or, is_some, None, Option, sym, refl, ap, ◌∙◌, ap₂, inl, inr, arith, rules}
use native.Mathlib.Nat.{pow-succ'}
use lib.Bits.{bit_or}
use Rattle.std.proofs.lemmas.Nat.{pow_pos, pow_below, or_lt}
use Rattle.std.proofs.lemmas.Nat.Bits.{bit_at_or, bit_at-pow_same, bit_at-pow_other, same_from_bits_below}
use Rattle.std.proofs.lemmas.Bool.{eqb-true, eq-eqb, both_ways, cases_Bool}
use Rattle.model.specs.declared.statements.OfferClaim.{OfferClaim}
use Rattle.model.specs.Ledgers.{bit}
use Rattle.model.specs.Quorums.{has}
use Rattle.model.specs.Claims.{marked, claims_up_to, claimants, keepers, ClaimLaws}
use Rattle.model.proofs.Masks.{has_up, has_low, has_none}

-- ---- masks by their stations

bit_low : (b : Bool) (m : ℕ) → eqb ((bit b + 2 * m) % 2) 1 ≡ b
bit_low true m = search rules
bit_low false m = search rules

bit_high : (b : Bool) (m : ℕ) → (bit b + 2 * m) / 2 ≡ m
bit_high true m = search rules
bit_high false m = search rules

ltb_up : (i n : ℕ) → ltb (suc i) (suc n) ≡ ltb i n
ltb_up i n = search rules

pub marked_at : (n : ℕ) (t : ℕ → Bool) (i : ℕ) → has (marked n t) i ≡ (ltb i n && t i)
unfolding marked
marked_at zero t i = has_none i ∙ search rules
marked_at (suc n) t zero = has_low (bit (t 0) + 2 * marked n (λ j. t (suc j))) ∙ bit_low (t 0) (marked n (λ j. t (suc j))) ∙ search rules
marked_at (suc n) t (suc i) =
    let m = marked n (λ j. t (suc j)) in
    has_up (bit (t 0) + 2 * m) i ∙ ap (λ k. has k i) (bit_high (t 0) m) ∙ marked_at n (λ j. t (suc j)) i ∙ ap (λ b. b && t (suc i)) (sym (ltb_up i n))

pub marked_below : (n : ℕ) (t : ℕ → Bool) → marked n t < 2 ^ n
unfolding marked
marked_below zero t = omega arith
marked_below (suc n) t =
    let r = marked_below n (λ i. t (suc i)) in
    let p = pow-succ' 2 n in
    omega (arith, bit_le (t 0))
  where
    bit_le : (b : Bool) → bit b ≤ 1
    bit_le true = omega arith
    bit_le false = omega arith

-- masks with the same stations are one
pub same_stations : (n a b : ℕ) → a < 2 ^ n → b < 2 ^ n → ((i : ℕ) → has a i ≡ has b i) → a ≡ b
same_stations n a b p q h =
    same_from_bits_below n a b p q (λ i _.
    let e : eqb (a / 2 ^ i % 2) 1 ≡ eqb (b / 2 ^ i % 2) 1 = h i in
    search rules)

-- the mask of one station, and of two masks together
pub has_one : (j i : ℕ) → has (2 ^ j) i ≡ eqb j i
has_one j i = elim (cases_Bool (eqb j i)) [
  | inl t ↦ ap (λ k. eqb (2 ^ j / 2 ^ k % 2) 1) (sym (eqb-true j i t)) ∙ ap (λ x. eqb x 1) (bit_at-pow_same j) ∙ sym t
  | inr f ↦ ap (λ x. eqb x 1) (bit_at-pow_other j i (λ e. both_ways (eqb j i) f (eq-eqb j i (sym e)))) ∙ sym f
]

pub has_either : (a b i : ℕ) → has (bit_or a b) i ≡ (has a i || has b i)
has_either a b i =
    let e = bit_at_or a b i in
    search rules

-- ---- how a claim, and a kept claim, adds to its mask

together : (a e l t q : Bool) → t ≡ true → (e ≡ true → l ≡ true) → ((a || e) || (l && q)) ≡ (a || (l && ((e && t) || q)))
together a true l t q h f = let g = f refl in search rules
together a false l t q h f = search rules

pub claimants_none : (n p : ℕ) → claimants n p [] ≡ 0
unfolding claimants
claimants_none n p = same_stations n (marked n (claims_up_to p [])) 0 (marked_below n (claims_up_to p [])) (pow_pos n)
    (λ i. marked_at n (claims_up_to p []) i ∙ both_false (ltb i n) ∙ sym (has_none i))
  where
    both_false : (b : Bool) → (b && false) ≡ false
    both_false true = refl
    both_false false = refl

-- a claim that counts, met with the mask m of those before it
pub claimants_count : (n p m : ℕ) (c : OfferClaim) (cs : List OfferClaim) → m < 2 ^ n → c.station < n → c.height ≤ p
    → bit_or (bit_or m (2 ^ c.station)) (claimants n p cs) ≡ bit_or m (claimants n p (c ∷ cs))
unfolding claimants
claimants_count n p m c cs k l h =
    let s = c.station in
    let rest = marked n (claims_up_to p cs) in
    let all = marked n (claims_up_to p (c ∷ cs)) in
    let one : bit_or m (2 ^ s) < 2 ^ n = or_lt n m (2 ^ s) k (pow_below s n l) in
    same_stations n (bit_or (bit_or m (2 ^ s)) rest) (bit_or m all)
    (or_lt n (bit_or m (2 ^ s)) rest one (marked_below n (claims_up_to p cs)))
    (or_lt n m all k (marked_below n (claims_up_to p (c ∷ cs))))
    (λ i.
    let t : leb c.height p ≡ true = search rules in
    let u : eqb s i ≡ true → ltb i n ≡ true = λ e. let f = eqb-true s i e in search rules in
    has_either (bit_or m (2 ^ s)) rest i
    ∙ ap₂ (λ a b. a || b) (has_either m (2 ^ s) i ∙ ap (λ b. has m i || b) (has_one s i)) (marked_at n (claims_up_to p cs) i)
    ∙ together (has m i) (eqb s i) (ltb i n) (leb c.height p) (claims_up_to p cs i) t u
    ∙ sym (has_either m all i ∙ ap (λ b. has m i || b) (marked_at n (claims_up_to p (c ∷ cs)) i)))

-- one that does not
pub claimants_skip : (n p : ℕ) (c : OfferClaim) (cs : List OfferClaim) → (ltb c.station n && leb c.height p) ≡ false
    → claimants n p (c ∷ cs) ≡ claimants n p cs
unfolding claimants
claimants_skip n p c cs h =
    same_stations n (marked n (claims_up_to p (c ∷ cs))) (marked n (claims_up_to p cs))
    (marked_below n (claims_up_to p (c ∷ cs))) (marked_below n (claims_up_to p cs))
    (λ i. marked_at n (claims_up_to p (c ∷ cs)) i ∙ apart i ∙ sym (marked_at n (claims_up_to p cs) i))
  where
    aside : (l e t q : Bool) → (e ≡ true → (l && t) ≡ false) → (l && ((e && t) || q)) ≡ (l && q)
    aside l true t q f = let g = f refl in search rules
    aside l false t q f = refl

    apart : (i : ℕ) → (ltb i n && claims_up_to p (c ∷ cs) i) ≡ (ltb i n && claims_up_to p cs i)
    apart i = aside (ltb i n) (eqb c.station i) (leb c.height p) (claims_up_to p cs i)
        (λ e. ap (λ j. ltb j n && leb c.height p) (sym (eqb-true c.station i e)) ∙ h)

alone_lt : (b : Bool) (n : ℕ) → cond b (2 ^ n) 0 < 2 ^ (n + 1)
alone_lt true n = pow_below n (n + 1) (omega arith)
alone_lt false n = pow_pos (n + 1)

alone_at : (b : Bool) (n i : ℕ) → has (cond b (2 ^ n) 0) i ≡ (b && eqb n i)
alone_at true n i = has_one n i
alone_at false n i = has_none i

next_station : (n : ℕ) (t : ℕ → Bool) (i : ℕ) → (ltb i (n + 1) && t i) ≡ ((ltb i n && t i) || (t n && eqb n i))
next_station n t i = go (eqb n i) refl
  where
    go : (e : Bool) → eqb n i ≡ e → (ltb i (n + 1) && t i) ≡ ((ltb i n && t i) || (t n && e))
    go true h =
        let e = eqb-true n i h in
        let a : ltb i (n + 1) ≡ true = search rules in
        let b : ltb i n ≡ false = search rules in
        let f : t n ≡ t i = ap t e in
        search rules
    go false h =
        let a : ltb i (n + 1) ≡ ltb i n = search rules in
        search rules

-- the station n beside those below it
pub keepers_more : (n : ℕ) (kept : List (Option ℕ)) → keepers (n + 1) kept ≡ bit_or (keepers n kept) (cond (is_some (get_or kept n None)) (2 ^ n) 0)
unfolding keepers
keepers_more n kept =
    let t : ℕ → Bool = λ i. is_some (get_or kept i None) in
    let one = cond (t n) (2 ^ n) 0 in
    let p : 2 ^ n < 2 ^ (n + 1) = pow_below n (n + 1) (omega arith) in
    let k = marked_below n t in
    same_stations (n + 1) (marked (n + 1) t) (bit_or (marked n t) one)
    (marked_below (n + 1) t)
    (or_lt (n + 1) (marked n t) one (omega arith) (alone_lt (t n) n))
    (λ i. marked_at (n + 1) t i ∙ next_station n t i ∙ sym (has_either (marked n t) one i ∙ ap₂ (λ a b. a || b) (marked_at n t i) (alone_at (t n) n i)))

pub keepers_none : (kept : List (Option ℕ)) → keepers 0 kept ≡ 0
unfolding keepers marked
keepers_none kept = refl

pub claim_laws : ClaimLaws
unfolding claimants keepers
claim_laws = record {
  claimants_at = λ n p cs i. marked_at n (claims_up_to p cs) i;
  claimants_below = λ n p cs. marked_below n (claims_up_to p cs);
  keepers_at = λ n kept i. marked_at n (λ j. is_some (get_or kept j None)) i;
  keepers_below = λ n kept. marked_below n (λ j. is_some (get_or kept j None));
}
