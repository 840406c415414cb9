-- A head announces the layout of its message, and the words of a message that fits have the right kinds.
use Rattle.std.proofs.Common.{◌≡◌, ℕ, zero, suc, ◌/◌, ◌%◌, ◌<◌, ◌≤◌, Bool, true, false, ◌&&◌, eqb, List, [], ◌∷◌, ◌++◌, length, get_or, Some, None, Ok, Err, Result, sym, refl, ap, ◌∙◌, subst, arith, rules}
use Rattle.std.specs.Result.{result_ok}
use Rattle.std.proofs.lemmas.Bool.{eq-eqb}
use Rattle.std.proofs.lemmas.Option.{none-some}
use Rattle.model.specs.Blocks.{referred}
use Rattle.model.specs.declared.blocks.Entry.{Entry}
use Rattle.model.specs.declared.blocks.Entry.TheVariants.{Bind as Binds, Release as Releases}
use Rattle.model.specs.declared.blocks.References.{References}
use Rattle.model.specs.declared.blocks.References.TheVariants.{Empty, One, Two, Three, Four}
use Rattle.model.specs.declared.names.Name.{Name}
use Rattle.model.specs.declared.refusals.Refusal.{Refusal}
use Rattle.words.specs.Layouts.{type_of, counts, kinds_of, layout_among, layout_at, layout_behind, layouts, references_kinds, IsAnnouncedWrongly}
use Rattle.words.specs.Messages.{Said, side, backbone, offer, voices, certificate, claim, probe, leave, layout, entry_layout, body, fits, Lies, WordsOf}
use Rattle.words.specs.Types.{IsTypeOf}
use Rattle.words.specs.declared.types.MessageType.{MessageType}
use Rattle.words.specs.declared.types.MessageType.TheVariants.{Side as OfSide, Backbone as OfBackbone, Offer as OfOffer, Voices as OfVoices, Certificate as OfCertificate, Claim as OfClaim, Probe as OfProbe, Leave as OfLeave}
use Rattle.words.specs.Words.{kind, value, word, head, small, small_name, small_names, small_entry, name_words, names_words, entry_words, voices_words, small_voices, right_kinds}
use Rattle.words.proofs.Bodies.{rest}
use Rattle.words.proofs.Fronts.{all_in_front}
use Rattle.words.proofs.NamesWords.{length_of_names}
use Rattle.words.proofs.RightKinds.{no_words}
use Rattle.words.specs.declared.layouts.Layout.{Layout}
use Rattle.words.specs.declared.layouts.Layout.TheVariants.{Bind, Release, Backbone, Offer, Voices, Certificate, Claim, Probe, Leave}
use Rattle.model.proofs.Clash.{clash}

-- a layout that is found has that type and takes that count
abbrev FoundFits : List Layout → ℕ → ℕ → Layout → Type 0
FoundFits ls t n l = layout_among ls t n ≡ Some l → (t ≡ type_of l) × (counts l n ≡ true)

found_next : (k : Layout) (ls : List Layout) (t n : ℕ) (l : Layout) → FoundFits ls t n l → (b : Bool) → (eqb t (type_of k) && counts k n) ≡ b → FoundFits (k ∷ ls) t n l
found_next k ls t n l more true q e =
    let s : k ≡ l = search rules in
    let f : t ≡ type_of k = search rules in
    let c : counts k n ≡ true = search rules in
    (f ∙ ap type_of s, ap (λ x. counts x n) (sym s) ∙ c)
found_next k ls t n l more false q e = more (search rules)

found_fits : (ls : List Layout) (t n : ℕ) (l : Layout) → FoundFits ls t n l
found_fits [] t n l e = clash cc
found_fits (k ∷ ls) t n l e = found_next k ls t n l (found_fits ls t n l) (eqb t (type_of k) && counts k n) refl e

-- a number that is no type's has no layout
pub no_type : (t n : ℕ) (r : Result MessageType Refusal) → IsTypeOf t r → result_ok r ≡ None → layout_at t n ≡ None
no_type t n (Ok m) h e = absurd (none-some m (sym e))
no_type t n (Err x) h z =
    let a = h.1 OfSide in
    let b = h.1 OfBackbone in
    let c = h.1 OfOffer in
    let d = h.1 OfVoices in
    let e = h.1 OfCertificate in
    let g = h.1 OfClaim in
    let k = h.1 OfProbe in
    let i = h.1 OfLeave in
    search rules

-- what a head announces, it says
pub record Announced (h n : ℕ) (l : Layout) : Type 0 where
  pub says : h ≡ head (type_of l) n
  pub takes : counts l n ≡ true

pub announced : (h n : ℕ) (l : Layout) → layout_behind h n ≡ Some l → Announced h n l
announced h n l e = at (eqb (kind h) 1 && eqb (h % 1048576) n) refl
  where
    at : (b : Bool) → (eqb (kind h) 1 && eqb (h % 1048576) n) ≡ b → Announced h n l
    at true q =
        let f = found_fits layouts (value h / 1048576) n l (search rules) in
        let k : kind h ≡ 1 = search rules in
        let c : h % 1048576 ≡ n = search rules in
        record { says = omega (arith, f.0); takes = f.1 }
    at false q = let z : None ≡ Some l = search rules in let y : ◌≡◌ {A = ℕ} 0 1 = cc in absurd (omega arith)

-- a head gives back its type and its count
head_says : (t n : ℕ) → t < 256 → n < 1048576 → layout_behind (head t n) n ≡ layout_at t n
head_says t n ht hn =
    let k : kind (head t n) ≡ 1 = omega arith in
    let c : head t n % 1048576 ≡ n = omega arith in
    let y : value (head t n) / 1048576 ≡ t = omega arith in
    let e = eq-eqb n n refl in simp (k, c, y, e)

-- a layout is found by its type and a count that it takes
record Taken (l : Layout) (n : ℕ) : Type 0 where
  again : layout_at (type_of l) n ≡ Some l
  few : n ≤ 64
  known : type_of l ≤ 8

taken : (l : Layout) (n : ℕ) → counts l n ≡ true → Taken l n
taken Bind n h = record { again = search rules; few = search rules; known = omega arith }
taken Release n h = record { again = search rules; few = search rules; known = omega arith }
taken Backbone n h = record { again = search rules; few = search rules; known = omega arith }
taken Offer n h = record { again = search rules; few = search rules; known = omega arith }
taken Voices n h = record { again = search rules; few = search rules; known = omega arith }
taken Certificate n h = record { again = search rules; few = search rules; known = omega arith }
taken Claim n h = record { again = search rules; few = search rules; known = omega arith }
taken Probe n h = record { again = search rules; few = search rules; known = omega arith }
taken Leave n h = record { again = search rules; few = search rules; known = omega arith }

announces : (l : Layout) (n : ℕ) → counts l n ≡ true → layout_behind (head (type_of l) n) n ≡ Some l
announces l n h = let k = taken l n h in head_says (type_of l) n (omega (arith, k.known)) (omega (arith, k.few)) ∙ k.again

-- one word, and the four words of a name, have the kinds asked for
pub kind_of_word : (k v : ℕ) (ks ws : List ℕ) → small v ≡ true → right_kinds ks ws ≡ true → right_kinds (k ∷ ks) (word k v ∷ ws) ≡ true
unfolding right_kinds
kind_of_word k v ks ws s r = let e : kind (word k v) ≡ k = search rules in search rules

kinds_of_name : (n : Name) (ks ws : List ℕ) → small_name n ≡ true → right_kinds ks ws ≡ true → right_kinds (3 ∷ 3 ∷ 3 ∷ 3 ∷ ks) (name_words n ++ ws) ≡ true
kinds_of_name n ks ws s r =
    kind_of_word 3 _ _ _ (search rules) (kind_of_word 3 _ _ _ (search rules) (kind_of_word 3 _ _ _ (search rules) (kind_of_word 3 _ _ _ (search rules) r)))

-- the kinds of m names' words
abbrev names_kinds : ℕ → List ℕ
names_kinds zero = []
names_kinds (suc m) = 3 ∷ 3 ∷ 3 ∷ 3 ∷ names_kinds m

kinds_of_names : (m : ℕ) (ns : List Name) → length ns ≤ m → small_names ns ≡ true → right_kinds (names_kinds m) (names_words ns) ≡ true
unfolding small_names names_words
kinds_of_names m [] h s = no_words (names_kinds m)
kinds_of_names zero (n ∷ ns) h s = absurd (omega arith)
kinds_of_names (suc m) (n ∷ ns) h s = kinds_of_name n (names_kinds m) (names_words ns) (search rules) (kinds_of_names m ns (omega arith) (search rules))

few_referred : (r : References) → length (referred r) ≤ 4
few_referred Empty = omega arith
few_referred (One a) = omega arith
few_referred (Two a b) = omega arith
few_referred (Three a b c) = omega arith
few_referred (Four a b c d) = omega arith

kinds_of_references : (r : References) → small_names (referred r) ≡ true → right_kinds references_kinds (names_words (referred r)) ≡ true
kinds_of_references r s = kinds_of_names 4 (referred r) (few_referred r) s

-- a side block's words, whichever its entry
kinds_of_side : (n : Name) (a : ℕ) (e : Entry) (r : References)
    → small_name n ≡ true → small a ≡ true → small_entry e ≡ true → small_names (referred r) ≡ true
    → right_kinds (kinds_of (entry_layout e)) (name_words n ++ word 4 a ∷ (entry_words e ++ names_words (referred r))) ≡ true
kinds_of_side n a (Binds s c f) r hn ha he hr =
    kinds_of_name n _ _ hn (kind_of_word 4 a _ _ ha (kind_of_word 7 s _ _ (search rules) (kind_of_word 8 c _ _ (search rules) (kind_of_word 9 f _ _ (search rules) (kinds_of_references r hr)))))
kinds_of_side n a (Releases s f) r hn ha he hr =
    kinds_of_name n _ _ hn (kind_of_word 4 a _ _ ha (kind_of_word 7 s _ _ (search rules) (kind_of_word 9 f _ _ (search rules) (kinds_of_references r hr))))

counts_of_side : (n : Name) (a : ℕ) (e : Entry) (r : References)
    → counts (entry_layout e) (length (name_words n ++ word 4 a ∷ (entry_words e ++ names_words (referred r)))) ≡ true
counts_of_side n a (Binds s c f) r = let l = length_of_names (referred r) in let k = few_referred r in search rules
counts_of_side n a (Releases s f) r = let l = length_of_names (referred r) in let k = few_referred r in search rules

kinds_of_voices : (g v m : ℕ) (n : Name) → small_voices g v n m ≡ true → right_kinds (kinds_of Voices) (voices_words g v n m) ≡ true
kinds_of_voices g v m n h =
    kind_of_word 10 g _ _ (search rules) (kind_of_word 2 v _ _ (search rules) (kinds_of_name n _ _ (search rules) (kind_of_word 5 m _ _ (search rules) (no_words []))))

-- the words of a message that fits: as many as its layout takes, of the right kinds
encoded_counts : (s : Said) → fits s ≡ true → counts (layout s) (length (body s)) ≡ true
encoded_counts (side b) h = counts_of_side b.name b.author b.entry b.references
encoded_counts (backbone b) h = let l = length_of_names (referred b.references) in let k = few_referred b.references in search rules
encoded_counts (offer o cs) h = search rules
encoded_counts (voices v) h = refl
encoded_counts (certificate c) h = refl
encoded_counts (claim c) h = refl
encoded_counts probe h = refl
encoded_counts leave h = refl

encoded_kinds : (s : Said) → fits s ≡ true → right_kinds (kinds_of (layout s)) (body s) ≡ true
encoded_kinds (side b) h = kinds_of_side b.name b.author b.entry b.references (search rules) (search rules) (search rules) (search rules)
encoded_kinds (backbone b) h =
    kinds_of_name b.name _ _ (search rules) (kind_of_word 4 b.author _ _ (search rules) (kind_of_word 2 b.view _ _ (search rules) (kind_of_word 2 b.parent.view _ _ (search rules)
    (kinds_of_name b.parent.name _ _ (search rules) (kinds_of_references b.references (search rules))))))
encoded_kinds (offer o cs) h =
    kind_of_word 4 o.station _ _ (search rules) (kind_of_word 2 o.view _ _ (search rules) (kinds_of_name o.name _ _ (search rules)
    (kind_of_word 10 o.grade _ _ (search rules) (kind_of_word 5 o.mask _ _ (search rules) (search rules)))))
encoded_kinds (voices v) h = kinds_of_voices v.grade v.view v.mask v.name h
encoded_kinds (certificate c) h = kinds_of_voices c.grade c.view c.mask c.name h
encoded_kinds (claim c) h =
    kind_of_word 4 c.station _ _ (search rules) (kind_of_word 2 c.view _ _ (search rules) (kind_of_word 2 c.height _ _ (search rules) (no_words [])))
encoded_kinds probe h = no_words []
encoded_kinds leave h = no_words []

pub encoded_announced : (s : Said) → fits s ≡ true → layout_behind (head (type_of (layout s)) (length (body s))) (length (body s)) ≡ Some (layout s)
encoded_announced s h = announces (layout s) (length (body s)) (encoded_counts s h)

-- Words of a message pass each test: what its head announces, and the kinds.
record Passes (w : ℕ) (ws : List ℕ) : Type 0 where
  found : Layout
  announced : layout_behind w (length ws) ≡ Some found
  kinds : right_kinds (kinds_of found) ws ≡ true

passes : (s : Said) (w : ℕ) (ws : List ℕ) → WordsOf s (w ∷ ws) → Passes w ws
passes s w ws e =
    let hw : w ≡ head (type_of (layout s)) (length (body s)) = cc e.same in
    let hs : ws ≡ body s = cc e.same in
    record {
      found = layout s;
      announced = ap (λ x. layout_behind x (length ws)) hw ∙ ap (λ xs. layout_behind (head (type_of (layout s)) (length (body s))) (length xs)) hs
          ∙ announces (layout s) (length (body s)) (encoded_counts s e.whole);
      kinds = ap (λ xs. right_kinds (kinds_of (layout s)) xs) hs ∙ encoded_kinds s e.whole;
    }

-- the head, and the rest
parted : (ws : List ℕ) → 1 ≤ length ws → ws ≡ get_or ws 0 0 ∷ rest 1 ws
parted ws h = all_in_front 1 ws h

split : (s : Said) (ws : List ℕ) → 1 ≤ length ws → WordsOf s ws → Passes (get_or ws 0 0) (rest 1 ws)
split s ws h e = passes s (get_or ws 0 0) (rest 1 ws) (subst (λ (xs : List ℕ). WordsOf s xs) (parted ws h) e)

pub wrongly : (ws : List ℕ) → 1 ≤ length ws → IsAnnouncedWrongly (get_or ws 0 0) (rest 1 ws) → (s : Said) → WordsOf s ws → ⊥
wrongly ws h n s e =
    let p = split s ws h e in
    let b = n p.found p.announced in
    let z : ◌≡◌ {A = ℕ} 0 1 = cc (b, p.kinds) in
    omega arith

pub whole :
    (ws : List ℕ) (l : Layout) (s : Said) → 1 ≤ length ws → layout_behind (get_or ws 0 0) (length (rest 1 ws)) ≡ Some l → Lies l s (rest 1 ws) → WordsOf s ws
whole ws l s h a e =
    let k = announced (get_or ws 0 0) (length (rest 1 ws)) l a in
    let w : get_or ws 0 0 ≡ head (type_of (layout s)) (length (body s)) =
    k.says ∙ ap (λ x. head (type_of x) (length (rest 1 ws))) (sym e.layout) ∙ ap (λ xs. head (type_of (layout s)) (length xs)) (sym e.same) in
    record { whole = e.whole; same = parted ws h ∙ ap (λ x. x ∷ rest 1 ws) w ∙ ap (λ xs. head (type_of (layout s)) (length (body s)) ∷ xs) (sym e.same) }
