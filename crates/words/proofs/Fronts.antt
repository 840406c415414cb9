-- Words by their places: what stands in front, and that kind and value make the word.
use Rattle.std.proofs.Common.{◌≡◌, ℕ, zero, suc, ◌+◌, ◌-◌, ◌<◌, ◌≤◌, true, List, [], ◌∷◌, ◌++◌, length, get_or, take, drop, sym, refl, ap, ◌∙◌, arith, rules}
use Rattle.std.proofs.lemmas.List.{at_drop_more, take_rest}
use Rattle.words.specs.Words.{kind, value, word, right_kinds}

-- n words from place i on, each by its place
abbrev pub firsts : ℕ → ℕ → List ℕ → List ℕ
firsts i zero ws = []
firsts i (suc n) ws = get_or ws i 0 ∷ firsts (i + 1) n ws

pub firsts_from : (n i : ℕ) (ws : List ℕ) → i + n ≤ length ws → drop i ws ≡ firsts i n ws ++ drop (i + n) ws
firsts_from zero i ws h = let e : i + 0 ≡ i = omega arith in ap (λ k. drop k ws) (sym e)
firsts_from (suc n) i ws h =
    let e : i + 1 + n ≡ i + suc n = omega arith in
    at_drop_more (λ xs. xs) ws i 0 (omega arith)
    ∙ ap (λ xs. get_or ws i 0 ∷ xs) (firsts_from n (i + 1) ws (omega arith) ∙ ap (λ k. firsts (i + 1) n ws ++ drop k ws) e)

-- the kind in each place is the one asked for
pub kind_at : (ks ws : List ℕ) (i : ℕ) → right_kinds ks ws ≡ true → i < length ws → kind (get_or ws i 0) ≡ get_or ks i 0
unfolding right_kinds
kind_at ks [] i r h = absurd (omega arith)
kind_at [] (w ∷ ws) i r h = search rules
kind_at (k ∷ ks) (w ∷ ws) zero r h = search rules
kind_at (k ∷ ks) (w ∷ ws) (suc i) r h = kind_at ks ws i (search rules) (omega arith)

pub kinds_behind : (n : ℕ) (ks ws : List ℕ) → right_kinds ks ws ≡ true → right_kinds (drop n ks) (drop n ws) ≡ true
unfolding right_kinds
kinds_behind zero ks ws r = r
kinds_behind (suc n) ks [] r = refl
kinds_behind (suc n) [] (w ∷ ws) r = search rules
kinds_behind (suc n) (k ∷ ks) (w ∷ ws) r = kinds_behind n ks ws (search rules)

pub word_again : (w k : ℕ) → kind w ≡ k → word k (value w) ≡ w
word_again w k h = omega arith

-- the word in each place is made of the kind asked for and its value
pub word_at : (ks ws : List ℕ) (i v : ℕ) → right_kinds ks ws ≡ true → i < length ws → v ≡ value (get_or ws i 0) → word (get_or ks i 0) v ≡ get_or ws i 0
word_at ks ws i v r h e = ap (λ x. word (get_or ks i 0) x) e ∙ word_again (get_or ws i 0) (get_or ks i 0) (kind_at ks ws i r h)

-- the kinds of four words in a row
pub kinds_at_four :
    (ks ws : List ℕ) (i : ℕ) → right_kinds ks ws ≡ true → i + 3 < length ws
    → (kind (get_or ws i 0) ≡ get_or ks i 0) × (kind (get_or ws (i + 1) 0) ≡ get_or ks (i + 1) 0)
    × (kind (get_or ws (i + 2) 0) ≡ get_or ks (i + 2) 0) × (kind (get_or ws (i + 3) 0) ≡ get_or ks (i + 3) 0)
kinds_at_four ks ws i r h =
    (kind_at ks ws i r (omega arith), kind_at ks ws (i + 1) r (omega arith), kind_at ks ws (i + 2) r (omega arith), kind_at ks ws (i + 3) r (omega arith))

-- the words behind the first n have the kinds behind the first n
pub kinds_of_rest : (n : ℕ) (ks ws : List ℕ) → right_kinds ks ws ≡ true → right_kinds (drop n ks) (take (length ws - n) (drop n ws)) ≡ true
kinds_of_rest n ks ws r = ap (λ xs. right_kinds (drop n ks) xs) (take_rest ws n) ∙ kinds_behind n ks ws r

pub all_in_front : (n : ℕ) (ws : List ℕ) → n ≤ length ws → ws ≡ firsts 0 n ws ++ take (length ws - n) (drop n ws)
all_in_front n ws h =
    let e : 0 + n ≡ n = omega arith in
    firsts_from n 0 ws (omega arith) ∙ ap (λ k. firsts 0 n ws ++ drop k ws) e ∙ ap (λ xs. firsts 0 n ws ++ xs) (sym (take_rest ws n))
