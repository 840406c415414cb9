-- The test of kinds: of the first words by a row of kinds, then of those behind.
use Rattle.std.proofs.Common.{◌≡◌, ℕ, zero, suc, ◌*◌, ◌%◌, ◌≤◌, Bool, true, ◌&&◌, eqb, List, [], ◌∷◌, ◌++◌, map, length, length-append, get_or, drop, replicate, zip, refl, sym, ap, ◌∙◌, arith, rules}
use Rattle.std.specs.Iterator.{AlwaysYields}
use Rattle.std.specs.List.{list_all}
use Rattle.std.specs.Slice.Iter.{chunks_exact_rest, chunks_exact_size, chunks_exact_steps}
use Rattle.std.proofs.lemmas.Iterator.{YieldsList}
use Rattle.words.specs.Claims.{claims_kinds}
use Rattle.words.specs.Kinds.{kind_number}
use Rattle.words.specs.Words.{kind, right_kinds}
use Rattle.words.specs.declared.kinds.Kind.{Kind}
use Rattle.words.specs.declared.layouts.Layout.{Layout}
use Rattle.words.specs.Layouts.{tail_kinds, references_kinds}

pub no_words : (ks : List ℕ) → right_kinds ks [] ≡ true
unfolding right_kinds
no_words [] = refl
no_words (k ∷ ks) = refl

-- the words have the kinds of a row, one by one, and those behind have the kinds behind
pub front_and_tail :
    (ks : List Kind) (ls ws : List ℕ) → length ks ≤ length ws
    → right_kinds (map kind_number ks ++ ls) ws ≡ (list_all (λ p. eqb (kind p.0) (kind_number p.1)) (zip ws ks) && right_kinds ls (drop (length ks) ws))
unfolding right_kinds
front_and_tail [] ls [] h = refl
front_and_tail [] ls (w ∷ ws) h = refl
front_and_tail (k ∷ ks) ls [] h = absurd (omega arith)
front_and_tail (k ∷ ks) ls (w ∷ ws) h = let e = front_and_tail ks ls ws (omega arith) in search rules

-- one kind, over and over
one_kind : (k n : ℕ) (ws : List ℕ) → length ws ≤ n → right_kinds (replicate n k) ws ≡ list_all (λ w. eqb (kind w) k) ws
unfolding right_kinds
one_kind k n [] h = no_words (replicate n k)
one_kind k zero (w ∷ ws) h = absurd (omega arith)
one_kind k (suc n) (w ∷ ws) h = let e = one_kind k n ws (omega arith) in search rules

-- the words behind the front: of names, or none
pub names_tail : (l : Layout) (ws : List ℕ) → tail_kinds l ≡ references_kinds → length ws ≤ length (tail_kinds l) → right_kinds (tail_kinds l) ws ≡ list_all (λ w. eqb (kind w) 3) ws
names_tail l ws e h = ap (λ ks. right_kinds ks ws) e ∙ one_kind 3 16 ws (omega (arith, h, ap length e))

pub no_tail : (l : Layout) (ws : List ℕ) → tail_kinds l ≡ [] → length ws ≤ length (tail_kinds l) → right_kinds (tail_kinds l) ws ≡ true
no_tail l [] e h = no_words (tail_kinds l)
no_tail l (w ∷ ws) e h = absurd (omega (arith, h, ap length e))

-- one claim more than is needed does no harm
claim_longer : (n : ℕ) (ws : List ℕ) → length ws ≤ 2 * n → right_kinds (claims_kinds (suc n)) ws ≡ right_kinds (claims_kinds n) ws
unfolding right_kinds
claim_longer n [] h = no_words (claims_kinds (suc n)) ∙ sym (no_words (claims_kinds n))
claim_longer zero (a ∷ ws) h = absurd (omega arith)
claim_longer (suc n) (a ∷ []) h = refl
claim_longer (suc n) (a ∷ b ∷ ws) h = let e = claim_longer n ws (omega arith) in search rules

-- the words left, when those before them are claims'
pub record ClaimsLeft (ws left : List ℕ) : Type 0 where
  pub same : right_kinds (claims_kinds 28) left ≡ right_kinds (claims_kinds 28) ws
  pub few : length left ≤ 56
  pub even : length left % 2 ≡ 0

-- a claim's two words, and those behind
pub claim_more :
    (pair rest left : List ℕ) → left ≡ pair ++ rest → length pair ≡ 2 → length left ≤ 56
    → right_kinds (claims_kinds 28) left ≡ (eqb (kind (get_or pair 0 0)) 4 && (eqb (kind (get_or pair 1 0)) 2 && right_kinds (claims_kinds 28) rest))
unfolding right_kinds
claim_more [] rest left e l h = absurd (omega arith)
claim_more (a ∷ []) rest left e l h = absurd (omega arith)
claim_more (a ∷ b ∷ []) rest left e l h =
    let k = claim_longer 27 rest (omega (arith, ap length e)) in
    ap (λ xs. right_kinds (claims_kinds 28) xs) e ∙ ap (λ x. eqb (kind a) 4 && (eqb (kind b) 2 && x)) (sym k)
claim_more (a ∷ b ∷ d ∷ pair) rest left e l h = absurd (omega arith)

pub claims_next :
    (ws left pair rest : List ℕ) → ClaimsLeft ws left → left ≡ pair ++ rest → length pair ≡ 2
    → (eqb (kind (get_or pair 0 0)) 4 && eqb (kind (get_or pair 1 0)) 2) ≡ true → ClaimsLeft ws rest
claims_next ws left pair rest c e l t =
    let n = ap length e in
    let k : right_kinds (claims_kinds 28) left ≡ right_kinds (claims_kinds 28) rest = claim_more pair rest left e l c.few ∙ search rules in
    record { same = sym k ∙ c.same; few = omega (arith, n, c.few, length-append pair rest); even = omega (arith, n, c.even, length-append pair rest) }

-- the words, two by two
abbrev pub pairs : List ℕ → List (List ℕ)
pairs [] = []
pairs (a ∷ []) = []
pairs (a ∷ b ∷ ws) = (a ∷ b ∷ []) ∷ pairs ws

abbrev pub is_claim : List ℕ → Bool
is_claim pair = eqb (kind (get_or pair 0 0)) 4 && eqb (kind (get_or pair 1 0)) 2

pub pairs_of_claims : (n : ℕ) (ws : List ℕ) → length ws ≤ 2 * n → length ws % 2 ≡ 0 → list_all is_claim (pairs ws) ≡ right_kinds (claims_kinds n) ws
unfolding right_kinds
pairs_of_claims n [] h e = sym (no_words (claims_kinds n))
pairs_of_claims n (a ∷ []) h e = absurd (omega arith)
pairs_of_claims zero (a ∷ b ∷ ws) h e = absurd (omega arith)
pairs_of_claims (suc n) (a ∷ b ∷ ws) h e = let more = pairs_of_claims n ws (omega arith) (omega arith) in search rules

-- the first two words, and those behind
first_pair : (a b : ℕ) (ws pair rest : List ℕ) → a ∷ b ∷ ws ≡ pair ++ rest → length pair ≡ 2 → (pair ≡ a ∷ b ∷ []) × (rest ≡ ws)
first_pair a b ws [] rest e l = absurd (omega arith)
first_pair a b ws (c ∷ []) rest e l = absurd (omega arith)
first_pair a b ws (c ∷ d ∷ []) rest e l = (cc, cc)
first_pair a b ws (c ∷ d ∷ f ∷ pair) rest e l = absurd (omega arith)

come : (ws : List ℕ) (s : _) → chunks_exact_rest s ≡ ws → chunks_exact_size s ≡ 2 → AlwaysYields chunks_exact_steps (λ x. x.now) s (pairs ws)
come [] s e l = λ x j p. absurd (omega (arith, ap length e, ap length p.1.0, length-append x.now (chunks_exact_rest j), p.1.1, l))
come (a ∷ []) s e l = λ x j p. absurd (omega (arith, ap length e, ap length p.1.0, length-append x.now (chunks_exact_rest j), p.1.1, l))
come (a ∷ b ∷ ws) s e l = (
  λ j p. absurd (omega (arith, ap length e, p.1.0, l)),
  λ x j p. let q = first_pair a b ws x.now (chunks_exact_rest j) (sym e ∙ p.1.0) (p.1.1 ∙ l) in (q.0, come ws j q.1 (p.0 ∙ l)),
)

pub pairs_come : (s : _) (ws : List ℕ) → chunks_exact_rest s ≡ ws → chunks_exact_size s ≡ 2 → YieldsList chunks_exact_steps (λ x. x.now) s (pairs ws)
pairs_come s ws e l = record { runs = come ws s e l }
