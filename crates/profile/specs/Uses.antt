-- What a profile program does with what holds for a sonde. Assumes nothing.
use Rattle.std.specs.Prelude.{Some, None, Option}
use Rattle.model.specs.declared.answers.Binding.{Binding}
use Rattle.profile.specs.declared.uses.Use.{Use}
use Rattle.profile.specs.declared.uses.Use.TheVariants.{Convert, PassOver}

abbrev pub use_of : Option Binding → Use
use_of None = PassOver
use_of (Some b) = Convert b.certificate b.flight
