use Rattle.words.proofs.ClaimsBack as back
use Rattle.words.proofs.laws.claims_round_trip.Goals as goal

pub returns : goal.returns
returns c = back.claims_round_trip
