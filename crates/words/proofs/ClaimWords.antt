-- The words of claims, one claim at a time.
use Rattle.std.proofs.Common.{◌≡◌, ℕ, ◌+◌, ◌*◌, ◌%◌, ◌<◌, ◌≤◌, Bool, true, ◌&&◌, List, [], ◌∷◌, ◌++◌, length, length-append, get_or, take, drop, set, sym, refl, ap, ◌∙◌, arith, rules}
use Rattle.std.specs.List.{list_all}
use Rattle.std.proofs.lemmas.List.{at_drop_more, at_drop_all, append_assoc, take_more_set, drop-set-lt, drop-drop}
use Rattle.model.specs.declared.statements.OfferClaim.{OfferClaim}
use Rattle.words.specs.Claims.{claims_kinds, claims_words, small_claims, are_claims}
use Rattle.words.specs.Places.{placed}
use Rattle.words.specs.Words.{kind, value, word, small, right_kinds}
use Rattle.words.proofs.Fronts.{word_again}
use Rattle.words.proofs.RightKinds.{ClaimsLeft, claim_more, claims_next}
use Rattle.words.proofs.Placing.{placed_more, placed_none}

-- a claim of zeros, where a place past the end is read
abbrev pub zeros : OfferClaim
zeros = record { station = 0; height = 0 }

abbrev pub claim_words : OfferClaim → List ℕ
claim_words c = word 4 c.station ∷ word 2 c.height ∷ []

abbrev pub small_claim : OfferClaim → Bool
small_claim c = small c.station && small c.height

small_one : (c : OfferClaim) (cs : List OfferClaim) → small_claims (c ∷ cs) ≡ (small_claim c && small_claims cs)
unfolding small_claims
small_one c cs = search rules

small_none : small_claims [] ≡ true
unfolding small_claims
small_none = refl

words_one : (c : OfferClaim) (cs : List OfferClaim) → claims_words (c ∷ cs) ≡ claim_words c ++ claims_words cs
unfolding claims_words
words_one c cs = refl

words_none : claims_words [] ≡ []
unfolding claims_words
words_none = refl

pub all_small : (cs : List OfferClaim) → list_all (λ c. small c.station && small c.height) cs ≡ small_claims cs
unfolding small_claims
all_small [] = refl
all_small (c ∷ cs) = let e = all_small cs in search rules

pub small_more : (cs : List OfferClaim) (i : ℕ) → i < length cs → small_claims (drop i cs) ≡ (small_claim (get_or cs i zeros) && small_claims (drop (i + 1) cs))
small_more cs i h = at_drop_more small_claims cs i zeros h ∙ small_one (get_or cs i zeros) (drop (i + 1) cs)

pub length_of_claims : (cs : List OfferClaim) → length (claims_words cs) ≡ 2 * length cs
length_of_claims [] = ap length words_none
length_of_claims (c ∷ cs) = ap length (words_one c cs) ∙ omega (arith, length_of_claims cs)

-- one claim's words written, and those of the claims behind it
pub placed_claim :
    (at i : ℕ) (cs : List OfferClaim) (old : List ℕ) → i < length cs → at ≤ length old
    → placed at (claims_words (drop i cs)) old ≡ placed (at + 2) (claims_words (drop (i + 1) cs)) (placed at (claim_words (get_or cs i zeros)) old)
placed_claim at i cs old h l =
    ap (λ ws. placed at ws old) (at_drop_more claims_words cs i zeros h ∙ words_one (get_or cs i zeros) (drop (i + 1) cs))
    ∙ placed_more at (claim_words (get_or cs i zeros)) (claims_words (drop (i + 1) cs)) old l

pub placed_all : (at i : ℕ) (cs : List OfferClaim) (old : List ℕ) → length cs ≤ i → placed at (claims_words (drop i cs)) old ≡ old
placed_all at i cs old h = ap (λ ws. placed at ws old) (at_drop_all claims_words cs i h ∙ words_none) ∙ placed_none at old

words_push : (cs : List OfferClaim) (c : OfferClaim) → claims_words (cs ++ c ∷ []) ≡ claims_words cs ++ claim_words c
words_push [] c = words_one c [] ∙ ap (λ ws. claim_words c ++ ws) words_none ∙ ap (λ ws. ws ++ claim_words c) (sym words_none)
words_push (d ∷ cs) c =
    words_one d (cs ++ c ∷ []) ∙ ap (λ ws. claim_words d ++ ws) (words_push cs c)
    ∙ ap (λ ws. ws ++ claim_words c) (sym (words_one d cs))

small_push : (cs : List OfferClaim) (c : OfferClaim) → small_claims cs ≡ true → small_claim c ≡ true → small_claims (cs ++ c ∷ []) ≡ true
unfolding small_claims
small_push [] c h k = search rules
small_push (d ∷ cs) c h k = let e = small_push cs c (search rules) k in search rules

-- claims read so far, with the words left
pub record ReadSoFar (ws left : List ℕ) (old new : List OfferClaim) (i : ℕ) : Type 0 where
  pub words : claims_words (take i new) ++ left ≡ ws
  pub whole : small_claims (take i new) ≡ true
  pub behind : drop i new ≡ drop i old
  pub kinds : ClaimsLeft ws left
  pub count : 2 * i + length left ≡ length ws

pub read_none : (ws left : List ℕ) (old : List OfferClaim) (i : ℕ) → are_claims ws ≡ true → left ≡ ws → i ≡ 0 → ReadSoFar ws left old old i
read_none ws left old i a e z =
    let few : length ws ≤ 56 = search rules in
    let even : length ws % 2 ≡ 0 = search rules in
    let t : take i old ≡ [] = ap (λ k. take k old) z in
    let l = ap length e in
    record {
      words = ap (λ cs. claims_words cs ++ left) t ∙ ap (λ xs. xs ++ left) words_none ∙ e;
      whole = ap small_claims t ∙ small_none;
      behind = refl;
      kinds = record { same = ap (λ xs. right_kinds (claims_kinds 28) xs) e; few = omega (arith, l, few); even = ap (λ n. n % 2) l ∙ even };
      count = omega (arith, l, z);
    }

-- the two words of a claim are those of its numbers
two_words :
    (pair : List ℕ) (c : OfferClaim) → length pair ≡ 2 → kind (get_or pair 0 0) ≡ 4 → kind (get_or pair 1 0) ≡ 2
    → c.station ≡ value (get_or pair 0 0) → c.height ≡ value (get_or pair 1 0) → pair ≡ claim_words c
two_words [] c l ka kb ea eb = absurd (omega arith)
two_words (a ∷ []) c l ka kb ea eb = absurd (omega arith)
two_words (a ∷ b ∷ []) c l ka kb ea eb =
    ap (λ (x : ℕ). x ∷ b ∷ []) (sym (word_again a 4 ka) ∙ ap (λ v. word 4 v) (sym ea))
    ∙ ap (λ (x : ℕ). word 4 c.station ∷ x ∷ []) (sym (word_again b 2 kb) ∙ ap (λ v. word 2 v) (sym eb))
two_words (a ∷ b ∷ d ∷ pair) c l ka kb ea eb = absurd (omega arith)

-- one claim more, read from its two words
pub read_more :
    (ws left pair rest : List ℕ) (old new : List OfferClaim) (i j : ℕ) (c : OfferClaim)
    → are_claims ws ≡ true → ReadSoFar ws left old new i → left ≡ pair ++ rest → length pair ≡ 2 → i < length new → j ≡ i + 1
    → c.station ≡ value (get_or pair 0 0) → c.height ≡ value (get_or pair 1 0) → small_claim c ≡ true
    → ReadSoFar ws rest old (set new i c) j
read_more ws left pair rest old new i j c a r e l h ej es eh s =
    let k : right_kinds (claims_kinds 28) ws ≡ true = search rules in
    let m : right_kinds (claims_kinds 28) left ≡ true = r.kinds.same ∙ k in
    let q = sym (claim_more pair rest left e l r.kinds.few) ∙ m in
    let ka : kind (get_or pair 0 0) ≡ 4 = search rules in
    let kb : kind (get_or pair 1 0) ≡ 2 = search rules in
    let w = two_words pair c l ka kb es eh in
    let p : take j (set new i c) ≡ take i new ++ c ∷ [] = ap (λ n. take n (set new i c)) ej ∙ take_more_set new i c h in
    record {
      words = ap (λ cs. claims_words cs ++ rest) p ∙ ap (λ xs. xs ++ rest) (words_push (take i new) c)
          ∙ append_assoc (claims_words (take i new)) (claim_words c) rest
          ∙ ap (λ xs. claims_words (take i new) ++ (xs ++ rest)) (sym w) ∙ ap (λ xs. claims_words (take i new) ++ xs) (sym e) ∙ r.words;
      whole = ap small_claims p ∙ small_push (take i new) c r.whole s;
      behind = ap (λ n. drop n (set new i c)) ej ∙ drop-set-lt (i + 1) new i c (omega arith) ∙ drop_more new old i r.behind ∙ ap (λ n. drop n old) (sym ej);
      kinds = claims_next ws left pair rest r.kinds e l (search rules);
      count = omega (arith, r.count, ap length e, length-append pair rest, ej);
    }
  where
    drop_more : (xs ys : List OfferClaim) (n : ℕ) → drop n xs ≡ drop n ys → drop (n + 1) xs ≡ drop (n + 1) ys
    drop_more xs ys n e = sym (drop-drop 1 n xs) ∙ ap (λ zs. drop 1 zs) e ∙ drop-drop 1 n ys
