use Rattle.words.proofs.RoundTrip as trip
use Rattle.words.proofs.laws.words_round_trip.Goals as goal

pub returns : goal.returns
returns c = trip.words_round_trip
