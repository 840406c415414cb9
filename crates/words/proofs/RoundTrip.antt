-- The words of a message give the message back, so no two messages have the same words.
use Rattle.std.proofs.Common.{◌≡◌, ℕ, ◌+◌, ◌*◌, ◌/◌, ◌%◌, ◌≤◌, true, List, [], ◌∷◌, ◌++◌, length, get_or, take, drop, Some, Ok, Err, Result, sym, refl, ap, ◌∙◌, arith, rules}
use Rattle.std.proofs.lemmas.List.{take_at}
use Rattle.model.specs.Blocks.{referred}
use Rattle.model.specs.declared.blocks.Entry.{Entry}
use Rattle.model.specs.declared.blocks.Entry.TheVariants.{Bind as Binds, Release as Releases}
use Rattle.model.specs.declared.blocks.References.{References}
use Rattle.model.specs.declared.blocks.References.TheVariants.{Empty, One, Two, Three, Four}
use Rattle.model.specs.declared.names.Name.{Name}
use Rattle.model.specs.declared.refusals.Refusal.{Refusal}
use Rattle.words.specs.Layouts.{type_of, layout_behind}
use Rattle.words.specs.Messages.{Said, side, backbone, offer, voices, certificate, claim, probe, leave, said, heard, layout, entry_layout, body, fits, encoded, WordsOf, Reads, Writes, WordsRoundTrip}
use Rattle.words.specs.Words.{value, word, head, small, small_name, small_names, small_entry, name_words, names_words, entry_words}
use Rattle.words.specs.declared.layouts.Layout.{Layout}
use Rattle.words.specs.declared.layouts.Layout.TheVariants.{Bind, Release, Backbone, Offer, Voices, Certificate, Claim, Probe, Leave}
use Rattle.words.specs.declared.messages.Message.{Message}
use Rattle.words.proofs.SmallNames.{small_more}
use Rattle.words.proofs.Wholes.{encoded_announced}

-- the number and the name that words stand for
abbrev number_at : List ℕ → ℕ → ℕ
number_at ws i = value (get_or ws i 0)

abbrev name_of : ℕ → ℕ → ℕ → ℕ → Name
name_of a b c d = record { high = value a * 268435456 + value b; low = value c * 268435456 + value d }

abbrev name_at : List ℕ → ℕ → Name
name_at ws i = name_of (get_or ws i 0) (get_or ws (i + 1) 0) (get_or ws (i + 2) 0) (get_or ws (i + 3) 0)

unfoldable names_of : List ℕ → List Name
names_of [] = []
names_of (a ∷ []) = []
names_of (a ∷ b ∷ []) = []
names_of (a ∷ b ∷ c ∷ []) = []
names_of (a ∷ b ∷ c ∷ d ∷ ws) = name_of a b c d ∷ names_of ws

abbrev references_of : List Name → References
references_of [] = Empty
references_of (a ∷ []) = One a
references_of (a ∷ b ∷ []) = Two a b
references_of (a ∷ b ∷ c ∷ []) = Three a b c
references_of (a ∷ b ∷ c ∷ d ∷ []) = Four a b c d
references_of (a ∷ b ∷ c ∷ d ∷ e ∷ ns) = Empty

abbrev references_at : List ℕ → ℕ → References
references_at ws i = references_of (names_of (drop i ws))

-- the message that the words of a layout stand for
abbrev meant : Layout → List ℕ → Said
meant Bind ws = side (record {
  name = name_at ws 0;
  author = number_at ws 4;
  entry = Binds (number_at ws 5) (number_at ws 6) (number_at ws 7);
  references = references_at ws 8;
})
meant Release ws = side (record {
  name = name_at ws 0;
  author = number_at ws 4;
  entry = Releases (number_at ws 5) (number_at ws 6);
  references = references_at ws 7;
})
meant Backbone ws = backbone (record {
  name = name_at ws 0;
  author = number_at ws 4;
  view = number_at ws 5;
  parent = record { view = number_at ws 6; name = name_at ws 7 };
  references = references_at ws 11;
})
meant Offer ws = offer (record { station = number_at ws 0; view = number_at ws 1; name = name_at ws 2; grade = number_at ws 6; mask = number_at ws 7 }) (drop 8 ws)
meant Voices ws = voices (record { grade = number_at ws 0; view = number_at ws 1; name = name_at ws 2; mask = number_at ws 6 })
meant Certificate ws = certificate (record { grade = number_at ws 0; view = number_at ws 1; name = name_at ws 2; mask = number_at ws 6 })
meant Claim ws = claim (record { station = number_at ws 0; view = number_at ws 1; height = number_at ws 2 })
meant Probe ws = probe
meant Leave ws = leave

-- each part comes back
number_again : (k v : ℕ) → small v ≡ true → value (word k v) ≡ v
number_again k v s = search rules

name_again : (n : Name) → small_name n ≡ true
    → name_of (word 3 (n.high / 268435456)) (word 3 (n.high % 268435456)) (word 3 (n.low / 268435456)) (word 3 (n.low % 268435456)) ≡ n
name_again n s =
    let h : value (word 3 (n.high / 268435456)) * 268435456 + value (word 3 (n.high % 268435456)) ≡ n.high = search rules in
    let l : value (word 3 (n.low / 268435456)) * 268435456 + value (word 3 (n.low % 268435456)) ≡ n.low = search rules in
    ap (λ (x : ℕ). record { high = x; low = value (word 3 (n.low / 268435456)) * 268435456 + value (word 3 (n.low % 268435456)) }) h
    ∙ ap (λ (x : ℕ). record { high = n.high; low = x }) l

names_again : (ns : List Name) → small_names ns ≡ true → names_of (names_words ns) ≡ ns
unfolding names_of names_words
names_again [] s = refl
names_again (n ∷ ns) s =
    let e = small_more n ns in
    ap (λ x. x ∷ names_of (names_words ns)) (name_again n (search rules)) ∙ ap (λ xs. n ∷ xs) (names_again ns (search rules))

row_again : (r : References) → references_of (referred r) ≡ r
row_again Empty = refl
row_again (One a) = refl
row_again (Two a b) = refl
row_again (Three a b c) = refl
row_again (Four a b c d) = refl

references_again : (r : References) → small_names (referred r) ≡ true → references_of (names_of (names_words (referred r))) ≡ r
references_again r s = ap references_of (names_again (referred r) s) ∙ row_again r

side_again : (n : Name) (a : ℕ) (e : Entry) (r : References)
    → small_name n ≡ true → small a ≡ true → small_entry e ≡ true → small_names (referred r) ≡ true
    → meant (entry_layout e) (name_words n ++ word 4 a ∷ (entry_words e ++ names_words (referred r)))
    ≡ side (record { name = n; author = a; entry = e; references = r })
side_again n a (Binds s c f) r hn ha he hr =
    let x = name_again n hn in
    let y = number_again 4 a ha in
    let u = number_again 7 s (search rules) in
    let v = number_again 8 c (search rules) in
    let w = number_again 9 f (search rules) in
    let z = references_again r hr in
    simp (x, y, u, v, w, z)
side_again n a (Releases s f) r hn ha he hr =
    let x = name_again n hn in
    let y = number_again 4 a ha in
    let u = number_again 7 s (search rules) in
    let w = number_again 9 f (search rules) in
    let z = references_again r hr in
    simp (x, y, u, w, z)

again : (s : Said) → fits s ≡ true → meant (layout s) (body s) ≡ s
again (side b) h = side_again b.name b.author b.entry b.references (search rules) (search rules) (search rules) (search rules)
again (backbone b) h =
    let x = name_again b.name (search rules) in
    let y = number_again 4 b.author (search rules) in
    let u = number_again 2 b.view (search rules) in
    let v = number_again 2 b.parent.view (search rules) in
    let w = name_again b.parent.name (search rules) in
    let z = references_again b.references (search rules) in
    simp (x, y, u, v, w, z)
again (offer o cs) h =
    let x = number_again 4 o.station (search rules) in
    let y = number_again 2 o.view (search rules) in
    let u = name_again o.name (search rules) in
    let v = number_again 10 o.grade (search rules) in
    let w = number_again 5 o.mask (search rules) in
    simp (x, y, u, v, w)
again (voices v) h =
    let x = number_again 10 v.grade (search rules) in
    let y = number_again 2 v.view (search rules) in
    let u = name_again v.name (search rules) in
    let w = number_again 5 v.mask (search rules) in
    simp (x, y, u, w)
again (certificate c) h =
    let x = number_again 10 c.grade (search rules) in
    let y = number_again 2 c.view (search rules) in
    let u = name_again c.name (search rules) in
    let w = number_again 5 c.mask (search rules) in
    simp (x, y, u, w)
again (claim c) h =
    let x = number_again 4 c.station (search rules) in
    let y = number_again 2 c.view (search rules) in
    let w = number_again 2 c.height (search rules) in
    simp (x, y, w)
again probe h = refl
again leave h = refl

-- no two messages have the same words
one_message : (s t : Said) (ws : List ℕ) → WordsOf s ws → WordsOf t ws → s ≡ t
one_message s t ws a b =
    let e : encoded s ≡ encoded t = sym a.same ∙ b.same in
    let h : head (type_of (layout s)) (length (body s)) ≡ head (type_of (layout t)) (length (body t)) = cc in
    let w : body s ≡ body t = cc in
    let l : Some (layout s) ≡ Some (layout t) =
    sym (encoded_announced s a.whole) ∙ ap (λ x. layout_behind x (length (body s))) h
    ∙ ap (λ xs. layout_behind (head (type_of (layout t)) (length (body t))) (length xs)) w ∙ encoded_announced t b.whole in
    let k : layout s ≡ layout t = cc in
    sym (again s a.whole) ∙ ap (λ x. meant x (body s)) k ∙ ap (λ xs. meant (layout t) xs) w ∙ again t b.whole

-- what was written in front is what stands there
written : (s : Said) (old new : List ℕ) (n : ℕ) → Writes s old new (Ok n) → WordsOf s (take n new)
written s old new n w =
    let f : fits s ≡ true = search rules in
    record { whole = f; same = ap (λ xs. take n xs) w.1.1 ∙ take_at (encoded s) (drop n old) n (sym w.1.0) }

back : (s : Said) (ws : List ℕ) (r : Result Message Refusal) → WordsOf s ws → Reads ws r → heard r ≡ Some s
back s ws (Ok m) a b = ap Some (one_message (said m) s ws b a)
back s ws (Err e) a b = absurd (b.1 s a)

space : (m : Said) (ws old new : List ℕ) (r : Result ℕ Refusal) → WordsOf m ws → length ws ≤ length old → Writes m old new r
    → (r ≡ Ok (length ws)) × (new ≡ ws ++ drop (length ws) old)
space m ws old new (Ok n) a l w =
    let k : n ≡ length ws = w.1.0 ∙ ap length (sym a.same) in
    (ap Ok k, w.1.1 ∙ ap (λ xs. xs ++ drop n old) (sym a.same) ∙ ap (λ i. ws ++ drop i old) k)
space m ws old new (Err e) a l w =
    let f = a.whole in
    let g : length (encoded m) ≤ length old = omega (arith, ap length a.same) in
    let z : ◌≡◌ {A = ℕ} 0 1 = search rules in
    absurd (omega arith)

pub words_round_trip : WordsRoundTrip
words_round_trip = record {
  a_written_message_reads_back = λ s old new n r w a. back s (take n new) r (written s old new n w) a;
  a_read_message_is_written_as_its_words = λ ws m old new r a l w. space (said m) ws old new r a l w;
}
