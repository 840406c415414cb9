-- The number that a numeral of a script stands for. Assumes nothing.
use Rattle.std.specs.Prelude.{ℕ, ◌+◌, ◌-◌, ◌*◌, Bool, cond, ◌&&◌, List, [], ◌∷◌, length, drop, Some, None, Option, ◌==◌, nat_le, nat_lt, slice_index}
use Rattle.bench.specs.declared.numerals.Base.{Base}
use Rattle.bench.specs.declared.numerals.Base.TheVariants.{Ten, Sixteen}

abbrev pub radix : Base → ℕ
radix Ten = 10
radix Sixteen = 16

-- a digit below the base, or none
abbrev pub below : ℕ → ℕ → Option ℕ
below base d = cond (nat_lt d base) (Some d) None

-- the value of a digit: 0 to 9, then a to f in either case
abbrev pub digit : ℕ → ℕ → Option ℕ
digit base b =
    cond (nat_le 48 b && nat_le b 57) (below base (b - 48))
    (cond (nat_le 97 b && nat_le b 102) (below base (b - 97 + 10))
    (cond (nat_le 65 b && nat_le b 70) (below base (b - 65 + 10)) None))

-- the number with one digit more, as long as 64 bits hold it
abbrev pub with_digit : ℕ → ℕ → Option ℕ → Option ℕ
with_digit base n None = None
with_digit base n (Some d) = cond (nat_lt (n * base + d) 18446744073709551616) (Some (n * base + d)) None

-- the number once further digits are read
unfoldable pub value_from : ℕ → Option ℕ → List ℕ → Option ℕ
value_from base None bs = None
value_from base (Some n) [] = Some n
value_from base (Some n) (b ∷ bs) = value_from base (with_digit base n (digit base b)) bs

-- a row of digits, at least one
abbrev pub value_of : ℕ → List ℕ → Option ℕ
value_of base bs = cond (length bs == 0) None (value_from base (Some 0) bs)

-- the digits stand behind 0x
abbrev pub prefixed : List ℕ → Bool
prefixed bs = slice_index bs 0 == 48 && slice_index bs 1 == 120

-- digits of the base, or hexadecimal ones behind 0x
abbrev pub numeral_in : ℕ → List ℕ → Option ℕ
numeral_in base bs = cond (prefixed bs) (value_of 16 (drop 2 bs)) (value_of base bs)

-- a numeral is decimal, or hexadecimal behind 0x
abbrev pub numeral : List ℕ → Option ℕ
numeral bs = numeral_in 10 bs

-- a word of 32 bits is hexadecimal, with or without 0x
abbrev pub word_numeral : List ℕ → Option ℕ
word_numeral bs = numeral_in 16 bs

-- such a number, if 32 bits hold it
abbrev pub short : Option ℕ → Option ℕ
short None = None
short (Some n) = cond (nat_lt n 4294967296) (Some n) None
