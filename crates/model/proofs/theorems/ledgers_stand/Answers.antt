use Rattle.model.proofs.Stations.{station_by_station}
use Rattle.model.proofs.Makes.{first_quorum_gives, all_enter}
use Rattle.model.proofs.theorems.ledgers_stand.Goals as goal

pub returns : goal.returns
returns c = record { stations = station_by_station; gives = first_quorum_gives; enters = all_enter }
