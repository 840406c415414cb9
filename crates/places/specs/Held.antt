-- What a bounded list holds, and what stands in its places. Assumes nothing.
use Rattle.std.specs.Prelude.{ℕ, min, List, [], ◌∷◌, length, take, drop}
use Rattle.places.specs.declared.list.Bounded.{Bounded}

module _ {T : Type 0} {N : ℕ} where
  -- what stands in the places that the list was made over
  abbrev pub standing : Bounded T N → List T
  standing b = b.places.now

  -- the things held, oldest first
  abbrev pub held : Bounded T N → List T
  held b = take b.len (standing b)

  -- what stands in the places beyond the first n
  abbrev pub beyond : ℕ → Bounded T N → List T
  beyond n b = drop n (standing b)

  -- how many things it has places for: the bound, or fewer where fewer places were handed in
  abbrev pub bound : Bounded T N → ℕ
  bound b = min N (length (standing b))

-- a list without its oldest
abbrev pub rest : {T : Type 0} → List T → List T
rest [] = []
rest (x ∷ xs) = xs
