-- Claims that count: the stations whose claims an offer brings, and those whose claims are kept, as masks. Assumes nothing.
use Rattle.std.specs.Prelude.{◌≡◌, ℕ, zero, suc, ◌+◌, ◌*◌, ◌^◌, ◌<◌, Bool, true, false, ◌&&◌, ◌||◌, List, [], ◌∷◌, is_some, None, Option, ◌==◌, nat_le, nat_lt, slice_index_or}
use Rattle.model.specs.declared.statements.OfferClaim.{OfferClaim}
use Rattle.model.specs.Ledgers.{bit}
use Rattle.model.specs.Quorums.{has}

-- the mask of the stations below n of which t holds
unfoldable pub marked : ℕ → (ℕ → Bool) → ℕ
marked zero t = 0
marked (suc n) t = bit (t 0) + 2 * marked n (λ i. t (suc i))

-- some claim of station i has a height of at most p
abbrev pub claims_up_to : ℕ → List OfferClaim → ℕ → Bool
claims_up_to p [] i = false
claims_up_to p (c ∷ cs) i = (c.station == i && nat_le c.height p) || claims_up_to p cs i

-- the mask of the stations below n with a claim of height at most p, each once, however many claims it has
unfoldable pub claimants : ℕ → ℕ → List OfferClaim → ℕ
claimants n p cs = marked n (claims_up_to p cs)

-- the mask of the stations below n with a kept claim
unfoldable pub keepers : ℕ → List (Option ℕ) → ℕ
keepers n kept = marked n (λ i. is_some (slice_index_or kept i None))

-- every claim has a height below u
unfoldable pub heights_below : ℕ → List OfferClaim → Bool
heights_below u [] = true
heights_below u (c ∷ cs) = nat_lt c.height u && heights_below u cs

-- What these masks are, station by station, and that they have no bit from n up.
pub record ClaimLaws : Type 0 where
  pub claimants_at : (n p : ℕ) (cs : List OfferClaim) (i : ℕ) → has (claimants n p cs) i ≡ (nat_lt i n && claims_up_to p cs i)
  pub claimants_below : (n p : ℕ) (cs : List OfferClaim) → claimants n p cs < 2 ^ n
  pub keepers_at : (n : ℕ) (kept : List (Option ℕ)) (i : ℕ) → has (keepers n kept) i ≡ (nat_lt i n && is_some (slice_index_or kept i None))
  pub keepers_below : (n : ℕ) (kept : List (Option ℕ)) → keepers n kept < 2 ^ n
