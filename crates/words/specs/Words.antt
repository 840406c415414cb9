-- Words of 32 bits, and the words of names, entries and references. Assumes nothing.
use Rattle.std.specs.Prelude.{ℕ, ◌+◌, ◌*◌, ◌/◌, ◌%◌, Bool, true, false, ◌&&◌, List, [], ◌∷◌, ◌++◌, ◌==◌, nat_lt}
use Rattle.model.specs.declared.names.Name.{Name}
use Rattle.model.specs.declared.blocks.Entry.{Entry}
use Rattle.model.specs.declared.blocks.Entry.TheVariants.{Bind, Release}

-- a word's kind, its top four bits, and its value, the other 28
abbrev pub kind : ℕ → ℕ
kind w = w / 268435456

abbrev pub value : ℕ → ℕ
value w = w % 268435456

-- the word of a kind and a value
abbrev pub word : ℕ → ℕ → ℕ
word k v = k * 268435456 + v

-- the head of a message of a type, over the count of its other words: the type in bits 20 to 27, the count below
abbrev pub head : ℕ → ℕ → ℕ
head t n = word 1 (t * 1048576 + n)

-- a number fits a word, half a name two words
abbrev pub small : ℕ → Bool
small v = nat_lt v 268435456

abbrev pub small_half : ℕ → Bool
small_half v = nat_lt v 72057594037927936

abbrev pub small_name : Name → Bool
small_name n = small_half n.high && small_half n.low

unfoldable pub small_names : List Name → Bool
small_names [] = true
small_names (n ∷ ns) = small_name n && small_names ns

-- a name's four words: of each half its high 28 bits first
abbrev pub name_words : Name → List ℕ
name_words n =
    word 3 (n.high / 268435456) ∷ word 3 (n.high % 268435456) ∷ word 3 (n.low / 268435456) ∷ word 3 (n.low % 268435456) ∷ []

unfoldable pub names_words : List Name → List ℕ
names_words [] = []
names_words (n ∷ ns) = name_words n ++ names_words ns

-- the four numbers that voices and certificates have: grade, view, name, mask
abbrev pub voices_words : ℕ → ℕ → Name → ℕ → List ℕ
voices_words g v n m = word 10 g ∷ word 2 v ∷ (name_words n ++ word 5 m ∷ [])

abbrev pub small_voices : ℕ → ℕ → Name → ℕ → Bool
small_voices g v n m = small g && (small v && (small_name n && small m))

-- an entry's words: sonde, certificate (of a bind only), flight
abbrev pub entry_words : Entry → List ℕ
entry_words (Bind s c f) = word 7 s ∷ word 8 c ∷ word 9 f ∷ []
entry_words (Release s f) = word 7 s ∷ word 9 f ∷ []

abbrev pub small_entry : Entry → Bool
small_entry (Bind s c f) = small s && (small c && small f)
small_entry (Release s f) = small s && small f

-- the words have these kinds, place by place; there may be fewer words than kinds
unfoldable pub right_kinds : List ℕ → List ℕ → Bool
right_kinds ks [] = true
right_kinds [] (w ∷ ws) = false
right_kinds (k ∷ ks) (w ∷ ws) = kind w == k && right_kinds ks ws
