-- What a host does with the words of an offer. Assumes nothing.
use Rattle.std.specs.Prelude.{◌≡◌, ℕ, ◌*◌, ◌<◌, ◌⊎◌, List, length, replicate, Ok, Err, Result}
use Rattle.model.specs.Refusals.{number}
use Rattle.model.specs.declared.refusals.Refusal.{Refusal}
use Rattle.model.specs.declared.statements.Offer.{Offer}
use Rattle.model.specs.declared.statements.OfferClaim.{OfferClaim}
use Rattle.words.specs.Claims.{ClaimsInFront}
use Rattle.words.specs.Messages.{offer, WordsOf}

-- the words are no offer's
abbrev pub NoOffer : List ℕ → Type 0
NoOffer ws = (o : Offer) (cs : List ℕ) → WordsOf (offer o cs) ws → ⊥

-- the words are those of an offer with more claims than there are places
abbrev pub TooMany : List ℕ → ℕ → Type 0
TooMany ws places = (o : Offer) × (cs : List ℕ) × WordsOf (offer o cs) ws × (2 * places < length cs)

-- The offer whose words these are, with its claims in the places, and the words cleared; or a refusal, and nothing changed.
abbrev pub TakesOffer : List ℕ → List ℕ → List OfferClaim → List OfferClaim → Result (Offer × ℕ) Refusal → Type 0
TakesOffer ws ws' old new (Ok x) =
    ((cs : List ℕ) × WordsOf (offer x.0 cs) ws × ClaimsInFront cs old new x.1) × (ws' ≡ replicate (length ws) 0)
TakesOffer ws ws' old new (Err e) =
    (((number e ≡ 24) × NoOffer ws) ⊎ ((number e ≡ 25) × TooMany ws (length old))) × (ws' ≡ ws) × (new ≡ old)
