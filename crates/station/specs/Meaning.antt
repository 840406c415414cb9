-- What a station means, with its outbox, and what a ground tells. Assumes nothing.
use Rattle.places.specs.declared.list.Bounded.{Bounded}
use Rattle.places.specs.Held.{held, bound}
use Rattle.model.specs.declared.states.Sent.{Sent}
use Rattle.model.specs.Claiming.{Grounds}
use Rattle.model.specs.Stations.{Core, Desk}
use Rattle.broadcast.specs.declared.Observe.{Ghosts}
use Rattle.station.specs.declared.stations.Station.{Station}
use Rattle.station.specs.declared.grounds.Ground.{Ground}

module _ {B : Type 0} (cast : Ghosts B) where
  abbrev pub core_of : Station B → Core
  core_of s = record { state = s.state; cast = cast.meaning s.cast }

  abbrev pub desk_of : Station B → Bounded Sent 32 → Desk
  desk_of s out = record { core = core_of s; out = held out; room = bound out }

abbrev pub tells : Ground → Grounds
tells g = record { view = g.view; parent = g.parent }
