-- The words of an offer's claims: a station word and a view word for each, at most 28 of them. Assumes nothing.
use Rattle.std.specs.Prelude.{◌≡◌, ℕ, zero, suc, ◌*◌, ◌%◌, ◌≤◌, Bool, true, ◌&&◌, List, [], ◌∷◌, ◌++◌, length, take, drop, Ok, Result, ◌==◌, nat_le}
use Rattle.model.specs.Questions.{Question, Answered}
use Rattle.model.specs.declared.refusals.Refusal.{Refusal}
use Rattle.model.specs.declared.statements.OfferClaim.{OfferClaim}
use Rattle.words.specs.Places.{InFront}
use Rattle.words.specs.Words.{word, small, right_kinds}

-- the kinds of that many claims' words
abbrev pub claims_kinds : ℕ → List ℕ
claims_kinds zero = []
claims_kinds (suc n) = 4 ∷ 2 ∷ claims_kinds n

-- the words are those of claims
abbrev pub are_claims : List ℕ → Bool
are_claims ws = nat_le (length ws) 56 && (length ws % 2 == 0 && right_kinds (claims_kinds 28) ws)

-- the words of claims
unfoldable pub claims_words : List OfferClaim → List ℕ
claims_words [] = []
claims_words (c ∷ cs) = word 4 c.station ∷ word 2 c.height ∷ claims_words cs

-- each number of the claims fits its word
unfoldable pub small_claims : List OfferClaim → Bool
small_claims [] = true
small_claims (c ∷ cs) = small c.station && (small c.height && small_claims cs)

-- Writing claims: are there at most 28, does each number fit, and is there space?
abbrev pub write_claims_questions : List OfferClaim → ℕ → List Question
write_claims_questions cs space = (25, nat_le (length cs) 28 && (small_claims cs && nat_le (2 * length cs) space)) ∷ []

-- Reading claims: are the words those of claims, and is there a place for each?
abbrev pub read_claims_questions : List ℕ → ℕ → List Question
read_claims_questions ws places = (24, are_claims ws) ∷ (25, nat_le (length ws) (2 * places)) ∷ []

-- The claims of these words stand in front, and what stood behind them stays.
pub record ClaimsInFront (ws : List ℕ) (old new : List OfferClaim) (n : ℕ) : Type 0 where
  pub count : 2 * n ≡ length ws
  pub words : claims_words (take n new) ≡ ws
  pub whole : small_claims (take n new) ≡ true
  pub behind : drop n new ≡ drop n old

abbrev pub WritesClaims : List OfferClaim → List ℕ → List ℕ → Result ℕ Refusal → Type 0
WritesClaims cs old new r = Answered (write_claims_questions cs (length old)) old new (λ n. InFront (claims_words cs) old new n) r

abbrev pub ReadsClaims : List ℕ → List OfferClaim → List OfferClaim → Result ℕ Refusal → Type 0
ReadsClaims ws old new r = Answered (read_claims_questions ws (length old)) old new (λ n. ClaimsInFront ws old new n) r

-- Written claims read back as themselves, and claims that read are written as those very words.
pub record ClaimsRoundTrip : Type 0 where
  pub written_claims_read_back :
      (cs : List OfferClaim) (old new : List ℕ) (n : ℕ) (places after : List OfferClaim) (r : Result ℕ Refusal)
      → WritesClaims cs old new (Ok n) → length cs ≤ length places → ReadsClaims (take n new) places after r
      → (r ≡ Ok (length cs)) × (take (length cs) after ≡ cs)
  pub read_claims_are_written_as_their_words :
      (ws : List ℕ) (places after : List OfferClaim) (n : ℕ) (old new : List ℕ) (r : Result ℕ Refusal)
      → ReadsClaims ws places after (Ok n) → length ws ≤ length old → WritesClaims (take n after) old new r
      → (r ≡ Ok (length ws)) × (new ≡ ws ++ drop (length ws) old)
