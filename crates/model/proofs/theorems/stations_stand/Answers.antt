use Rattle.model.proofs.Courses.{calls_follow, votes_once}
use Rattle.model.proofs.Postings.{sent_in_order, what_is_stated}
use Rattle.model.proofs.theorems.stations_stand.Goals as goal

pub returns : goal.returns
returns c = record { follow = calls_follow; votes = votes_once; sent = sent_in_order; stated = what_is_stated }
