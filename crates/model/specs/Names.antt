-- When two names are one, and how a name is printed. Assumes nothing.
use Rattle.std.specs.Prelude.{ℕ, Bool, ◌&&◌, List, ◌∷◌, ◌++◌, ◌==◌}
use Rattle.std.specs.Fmt.{decimal}
use Rattle.model.specs.declared.names.Name.{Name}

abbrev pub same : Name → Name → Bool
same x y = x.high == y.high && x.low == y.low

-- the two numbers in decimal, the first one first, and a colon between them
abbrev pub name_text : Name → List ℕ
name_text x = decimal x.high ++ 58 ∷ decimal x.low
