-- Lists in places: moving the end one place up and writing there inserts; moving all but the first one down takes the first out.
use Rattle.std.proofs.Common.{◌≡◌, ℕ, zero, suc, ◌+◌, ◌-◌, ◌<◌, ◌≤◌, List, [], ◌∷◌, ◌++◌, length, get_or, take, drop, set, refl, ap, ◌∙◌, subst, arith, append_assoc}
use Rattle.std.proofs.lemmas.List.{take_more, set_at, take-take, drop-take, take_at, length-take-le}
use Rattle.std.proofs.lemmas.List.Edits.{length-insert}
use Rattle.std.specs.List.{copy_within, insert}
use Rattle.places.specs.Held.{rest}

module _ {X : Type 0} where
  moved_up : (xs : List X) (i n : ℕ) (x : X) → i ≤ n → n < length xs → set (copy_within xs i n (i + 1)) i x ≡ insert (take n xs) i x ++ drop (n + 1) xs
  moved_up xs i n x h l =
      let m : ℕ = n - i in
      let e : i + m ≡ n = omega arith in
      let f : n + 1 ≡ (i + 1) + m = omega arith in
      let p : length (take i xs) ≡ i = length-take-le i xs (omega arith) in
      let d : drop i (take n xs) ≡ take m (drop i xs) = subst (λ k. drop i (take k xs) ≡ take m (drop i xs)) e (drop-take i m xs) in
      let rest = take m (drop i xs) ++ drop ((i + 1) + m) xs in
      ap (λ t. set t i x) (append_assoc (take (i + 1) xs) (take m (drop i xs)) (drop ((i + 1) + m) xs))
      ∙ ap (λ t. set (t ++ rest) i x) (take_more xs i x (omega arith))
      ∙ ap (λ t. set t i x) (append_assoc (take i xs) (get_or xs i x ∷ []) rest)
      ∙ set_at (take i xs) (get_or xs i x) rest x i p
      ∙ rw (append_assoc (take i (take n xs)), take-take i n xs h, d, f) refl

  pub inserted : (xs : List X) (i n : ℕ) (x : X) → i ≤ n → n < length xs → take (n + 1) (set (copy_within xs i n (i + 1)) i x) ≡ insert (take n xs) i x
  inserted xs i n x h l =
      let p : length (take n xs) ≡ n = length-take-le n xs (omega arith) in
      ap (take (n + 1)) (moved_up xs i n x h l)
      ∙ take_at (insert (take n xs) i x) (drop (n + 1) xs) (n + 1) (omega (arith, length-insert (take n xs) i x (omega arith)))

  -- moving all but the first one place down takes the first out
  pub without_first : (xs : List X) (n : ℕ) → n ≤ length xs → take (n - 1) (copy_within xs 1 n 0) ≡ rest (take n xs)
  without_first [] n l = let e : n ≡ 0 = omega arith in rw e refl
  without_first (x ∷ xs) zero l = refl
  without_first (x ∷ xs) (suc n) l =
      let e : suc n - 1 ≡ n = omega arith in
      rw e (take_at (take n xs) (drop (0 + n) (x ∷ xs)) n (length-take-le n xs (omega arith)))
