-- A row of digits has the value that the library's parser gives it, and none where that fails.
use Rattle.std.proofs.Common.{◌≡◌, ◌≢◌, ◌∙◌, sym, ℕ, ◌+◌, ◌*◌, ◌^◌, ◌<◌, ◌≤◌, Option, List, [], ◌∷◌, get_or, Some, None, Result, Ok, Err, refl, ap, arith, inl, inr}
use Rattle.std.proofs.Math.Nat.{le-mul_of_pos_right}
use Rattle.std.proofs.lemmas.Bool.{cases_lt}
use Rattle.std.proofs.lemmas.Bool.Decides.{nat_tests}
use Rattle.std.proofs.lemmas.Str.Parse.{without_leading_plus_none}
use Rattle.std.specs.Char.{digit_value}
use Rattle.std.specs.Result.{result_ok, OkIff}
use Rattle.std.specs.Str.Parse.{AllDigits, IsNumeral, digits_value, digits_value_after, ParsesUnsigned}
use Rattle.bench.specs.Numerals.{below, digit, with_digit, value_from, value_of}

digit_is : (base c : ℕ) → base ≤ 16 → digit base c ≡ below base (digit_value c)
digit_is base c h = grind (arith, nat_tests)

grows : (base n : ℕ) (bs : List ℕ) → 0 < base → n ≤ digits_value_after base n bs
grows base n [] h = omega arith
grows base n (c ∷ cs) h = omega (arith, grows base (n * base + digit_value c) cs h, le-mul_of_pos_right n h)

module _ (base n c : ℕ) (high : base ≤ 16) where
  one_more : digit_value c < base → n * base + digit_value c < 2 ^ 64 → with_digit base n (digit base c) ≡ Some (n * base + digit_value c)
  one_more d fits = ap (with_digit base n) (digit_is base c high) ∙ grind (arith, nat_tests, d, fits)

  no_digit : base ≤ digit_value c → with_digit base n (digit base c) ≡ None
  no_digit d = ap (with_digit base n) (digit_is base c high) ∙ grind (arith, nat_tests, d)

  too_large : digit_value c < base → 2 ^ 64 ≤ n * base + digit_value c → with_digit base n (digit base c) ≡ None
  too_large d big = ap (with_digit base n) (digit_is base c high) ∙ grind (arith, nat_tests, d, big)

digits_read :
    (base n : ℕ) (bs : List ℕ) → 0 < base → base ≤ 16 → AllDigits base bs → digits_value_after base n bs < 2 ^ 64
    → value_from base (Some n) bs ≡ Some (digits_value_after base n bs)
unfolding value_from
digits_read base n [] low high all small = refl
digits_read base n (c ∷ cs) low high all small =
    let next = n * base + digit_value c in
    let fits : next < 2 ^ 64 = omega (arith, grows base next cs low) in
    ap (λ o. value_from base o cs) (one_more base n c high all.0 fits) ∙ digits_read base next cs low high all.1 small

none_more : (base : ℕ) (o : Option ℕ) (bs : List ℕ) → o ≡ None → value_from base o bs ≡ None
unfolding value_from
none_more base o bs e = ap (λ p. value_from base p bs) e

others_fail :
    (base n : ℕ) (bs : List ℕ) → 0 < base → base ≤ 16 → n < 2 ^ 64 → ¬ (AllDigits base bs × (digits_value_after base n bs < 2 ^ 64))
    → value_from base (Some n) bs ≡ None
unfolding value_from
others_fail base n [] low high fits h = absurd (h (tt, fits))
others_fail base n (c ∷ cs) low high fits h =
    let next = n * base + digit_value c in
    elim (cases_lt (digit_value c) base) [
      | inr d ↦ none_more base _ cs (no_digit base n c high d)
      | inl d ↦ elim (cases_lt next (2 ^ 64)) [
        | inr big ↦ none_more base _ cs (too_large base n c high d big)
        | inl small ↦ ap (λ o. value_from base o cs) (one_more base n c high d small)
            ∙ others_fail base next cs low high small (λ p. h ((d, p.0), p.1))
      ]
    ]

not_empty : (base c : ℕ) (cs : List ℕ) → value_of base (c ∷ cs) ≡ value_from base (Some 0) (c ∷ cs)
not_empty base c cs = grind (arith, nat_tests)

of_digits :
    {E : Type 0} (base : ℕ) (bs : List ℕ) (r : Result ℕ E) → 0 < base → base ≤ 16
    → OkIff r (IsNumeral base bs × (digits_value base bs < 2 ^ 64)) (digits_value base bs) → result_ok r ≡ value_of base bs
of_digits base [] (Ok x) low high h = absurd (omega (arith, h.0.0.0))
of_digits base [] (Err e) low high h = refl
of_digits base (c ∷ cs) (Ok x) low high h =
    ap Some h.1 ∙ sym (not_empty base c cs ∙ digits_read base 0 (c ∷ cs) low high h.0.0.1 h.0.1)
of_digits base (c ∷ cs) (Err e) low high h =
    sym (not_empty base c cs ∙ others_fail base 0 (c ∷ cs) low high (omega arith) (λ p. h ((omega arith, p.0), p.1)))

pub parsed :
    {E : Type 0} (base : ℕ) (bs : List ℕ) (r : Result ℕ E) → 0 < base → base ≤ 16 → get_or bs 0 0 ≢ 43
    → ParsesUnsigned 64 base bs r → result_ok r ≡ value_of base bs
parsed base bs r low high plain h = of_digits base bs r low high (rw (without_leading_plus_none bs plain) at h)

pub signed : (base : ℕ) (bs : List ℕ) → get_or bs 0 0 ≡ 43 → value_of base bs ≡ None
unfolding value_from
signed base [] e = refl
signed base (c ∷ cs) e = not_empty base c cs ∙ none_more base _ cs (ap (λ b. with_digit base 0 (digit base b)) e)
