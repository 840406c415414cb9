-- The number of each kind of word. Assumes nothing.
use Rattle.std.specs.Prelude.{ℕ}
use Rattle.words.specs.declared.kinds.Kind.{Kind}
use Rattle.words.specs.declared.kinds.Kind.TheVariants.{Head, View, NamePart, Station, Mask, Sonde, Certificate, Flight, Grade}

abbrev pub kind_number : Kind → ℕ
kind_number Head = 1
kind_number View = 2
kind_number NamePart = 3
kind_number Station = 4
kind_number Mask = 5
kind_number Sonde = 7
kind_number Certificate = 8
kind_number Flight = 9
kind_number Grade = 10
