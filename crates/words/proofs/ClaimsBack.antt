-- The words of claims give the claims back.
use Rattle.std.proofs.Common.{◌≡◌, ℕ, zero, suc, ◌*◌, ◌%◌, ◌≤◌, true, List, [], ◌∷◌, ◌++◌, length, take, drop, Ok, Err, Result, sym, refl, ap, ◌∙◌, arith, rules}
use Rattle.std.proofs.lemmas.List.{take_at}
use Rattle.model.specs.declared.refusals.Refusal.{Refusal}
use Rattle.model.specs.declared.statements.OfferClaim.{OfferClaim}
use Rattle.words.specs.Claims.{claims_kinds, claims_words, small_claims, are_claims, WritesClaims, ReadsClaims, ClaimsRoundTrip}
use Rattle.words.specs.Words.{word, right_kinds}
use Rattle.words.proofs.ClaimWords.{length_of_claims}
use Rattle.words.proofs.RightKinds.{no_words}
use Rattle.words.proofs.Wholes.{kind_of_word}
use Rattle.model.proofs.Clash.{clash}

-- claims that fit have claim words
kinds_of_claims : (m : ℕ) (cs : List OfferClaim) → length cs ≤ m → small_claims cs ≡ true → right_kinds (claims_kinds m) (claims_words cs) ≡ true
unfolding small_claims claims_words
kinds_of_claims m [] h s = no_words (claims_kinds m)
kinds_of_claims zero (c ∷ cs) h s = absurd (omega arith)
kinds_of_claims (suc m) (c ∷ cs) h s =
    kind_of_word 4 c.station _ _ (search rules) (kind_of_word 2 c.height _ _ (search rules) (kinds_of_claims m cs (omega arith) (search rules)))

are_claims_words : (cs : List OfferClaim) → length cs ≤ 28 → small_claims cs ≡ true → are_claims (claims_words cs) ≡ true
are_claims_words cs h s =
    let l = length_of_claims cs in
    let k = kinds_of_claims 28 cs h s in
    let e : length (claims_words cs) % 2 ≡ 0 = omega arith in
    search rules

-- claims with the same words are the same
one_row : (cs ds : List OfferClaim) → claims_words cs ≡ claims_words ds → cs ≡ ds
unfolding claims_words
one_row [] [] e = refl
one_row [] (d ∷ ds) e = clash cc
one_row (c ∷ cs) [] e = clash cc
one_row (c ∷ cs) (d ∷ ds) e =
    let a : word 4 c.station ≡ word 4 d.station = cc in
    let b : word 2 c.height ≡ word 2 d.height = cc in
    let s : c.station ≡ d.station = omega arith in
    let h : c.height ≡ d.height = omega arith in
    let t : claims_words cs ≡ claims_words ds = cc in
    ap (λ (x : ℕ). record { station = x; height = c.height } ∷ cs) s ∙ ap (λ (x : ℕ). record { station = d.station; height = x } ∷ cs) h
    ∙ ap (λ xs. d ∷ xs) (one_row cs ds t)

-- what was written reads back
reads_back : (cs : List OfferClaim) (ws : List ℕ) (places after : List OfferClaim) (r : Result ℕ Refusal)
    → length cs ≤ 28 → small_claims cs ≡ true → ws ≡ claims_words cs → length cs ≤ length places → ReadsClaims ws places after r
    → (r ≡ Ok (length cs)) × (take (length cs) after ≡ cs)
reads_back cs ws places after (Ok n) f s e l (q, a) =
    let k = length_of_claims cs in
    let m : n ≡ length cs = omega (arith, a.count, ap length e) in
    (ap Ok m, ap (λ i. take i after) (sym m) ∙ one_row (take n after) cs (a.words ∙ e))
reads_back cs ws places after (Err x) f s e l (q, a) =
    let k = length_of_claims cs in
    let g : are_claims ws ≡ true = ap are_claims e ∙ are_claims_words cs f s in
    let i : length ws ≤ 2 * length places = omega (arith, ap length e) in
    let z : ◌≡◌ {A = ℕ} 0 1 = search rules in
    absurd (omega arith)

-- what was read is written so again
writes_again : (ws : List ℕ) (cs : List OfferClaim) (old new : List ℕ) (r : Result ℕ Refusal)
    → length cs ≤ 28 → small_claims cs ≡ true → claims_words cs ≡ ws → length ws ≤ length old → WritesClaims cs old new r
    → (r ≡ Ok (length ws)) × (new ≡ ws ++ drop (length ws) old)
writes_again ws cs old new (Ok n) f s e l (q, a) =
    let k : n ≡ length ws = a.0 ∙ ap length e in
    (ap Ok k, a.1 ∙ ap (λ xs. xs ++ drop n old) e ∙ ap (λ i. ws ++ drop i old) k)
writes_again ws cs old new (Err x) f s e l (q, a) =
    let k = length_of_claims cs in
    let i : 2 * length cs ≤ length old = omega (arith, ap length e) in
    let z : ◌≡◌ {A = ℕ} 0 1 = search rules in
    absurd (omega arith)

pub claims_round_trip : ClaimsRoundTrip
claims_round_trip = record {
  written_claims_read_back = λ cs old new n places after r w l a.
      let f : length cs ≤ 28 = search rules in
      let s : small_claims cs ≡ true = search rules in
      reads_back cs (take n new) places after r f s (ap (λ xs. take n xs) w.1.1 ∙ take_at (claims_words cs) (drop n old) n (sym w.1.0)) l a;
  read_claims_are_written_as_their_words = λ ws places after n old new r a l w.
      let k = length_of_claims (take n after) in
      let g : length ws ≤ 56 = search rules in
      let f : length (take n after) ≤ 28 = omega (arith, ap length a.1.words) in
      writes_again ws (take n after) old new r f a.1.whole a.1.words l w;
}
