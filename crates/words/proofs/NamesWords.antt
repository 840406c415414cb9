-- The words of a row of names, one name at a time.
use Rattle.std.proofs.Common.{◌≡◌, ℕ, ◌+◌, ◌-◌, ◌*◌, ◌<◌, ◌≤◌, true, List, [], ◌∷◌, ◌++◌, length, get_or, take, drop, sym, refl, ap, ◌∙◌, arith, rules}
use Rattle.std.proofs.lemmas.List.{take_rest, append_assoc, append-nil, length_push}
use Rattle.model.specs.declared.names.Name.{Name}
use Rattle.words.specs.Layouts.{references_kinds}
use Rattle.words.specs.Words.{kind, right_kinds, small_name, small_names, name_words, names_words}
use Rattle.words.proofs.SmallNames.{small_more}
use Rattle.words.specs.Places.{placed}
use Rattle.words.proofs.Placing.{placed_none, placed_more, length_placed}
use Rattle.words.proofs.Fronts.{kind_at, kinds_behind, firsts, firsts_from}

pub names_words_none : names_words [] ≡ []
unfolding names_words
names_words_none = refl

pub names_words_more : (n : Name) (ns : List Name) → names_words (n ∷ ns) ≡ name_words n ++ names_words ns
unfolding names_words
names_words_more n ns = refl

pub length_of_names : (ns : List Name) → length (names_words ns) ≡ 4 * length ns
unfolding names_words
length_of_names [] = refl
length_of_names (n ∷ ns) = omega (arith, length_of_names ns)

pub names_words_push : (ns : List Name) (n : Name) → names_words (ns ++ n ∷ []) ≡ names_words ns ++ name_words n
unfolding names_words
names_words_push [] n = append-nil (name_words n)
names_words_push (m ∷ ns) n = ap (λ ws. name_words m ++ ws) (names_words_push ns n) ∙ sym (append_assoc (name_words m) (names_words ns) (name_words n))

pub small_names_push : (ns : List Name) (n : Name) → small_names ns ≡ true → small_name n ≡ true → small_names (ns ++ n ∷ []) ≡ true
unfolding small_names
small_names_push [] n h k = search rules
small_names_push (m ∷ ns) n h k = let e = small_names_push ns n (search rules) k in search rules

-- more kinds than words do no harm
pub kinds_longer : (ks ls ws : List ℕ) → right_kinds ks ws ≡ true → right_kinds (ks ++ ls) ws ≡ true
unfolding right_kinds
kinds_longer ks ls [] h = refl
kinds_longer [] ls (w ∷ ws) h = search rules
kinds_longer (k ∷ ks) ls (w ∷ ws) h = let e = kinds_longer ks ls ws (search rules) in search rules

-- four words of references and those behind them
pub record FourWords (ws : List ℕ) : Type 0 where
  pub front : ws ≡ firsts 0 4 ws ++ take (length ws - 4) (drop 4 ws)
  pub kinds : (i : ℕ) → i < 4 → kind (get_or ws i 0) ≡ get_or references_kinds i 0
  pub behind : right_kinds references_kinds (take (length ws - 4) (drop 4 ws)) ≡ true

pub four_words : (ws : List ℕ) → 4 ≤ length ws → right_kinds references_kinds ws ≡ true → FourWords ws
four_words ws h r =
    let e = take_rest ws 4 in
    record {
      front = firsts_from 4 0 ws (omega arith) ∙ ap (λ xs. firsts 0 4 ws ++ xs) (sym e);
      kinds = λ i k. kind_at references_kinds ws i r (omega arith);
      behind = ap (λ xs. right_kinds references_kinds xs) e ∙ kinds_longer (drop 4 references_kinds) (3 ∷ 3 ∷ 3 ∷ 3 ∷ []) (drop 4 ws) (kinds_behind 4 references_kinds ws r);
    }

-- the words so far are those of the names found, and then those left
pub record Found (ws : List ℕ) (ns : List Name) (left : List ℕ) : Type 0 where
  pub same : names_words ns ++ left ≡ ws
  pub small : small_names ns ≡ true
  pub kinds : right_kinds references_kinds left ≡ true
  pub count : length left + 4 * length ns ≡ length ws

pub found_none : (ws : List ℕ) → right_kinds references_kinds ws ≡ true → Found ws [] ws
unfolding names_words small_names
found_none ws r = record { same = refl; small = refl; kinds = r; count = omega arith }

pub found_more :
    (ws left : List ℕ) (ns more : List Name) (n : Name) → Found ws ns left → 4 ≤ length left → name_words n ≡ firsts 0 4 left → small_name n ≡ true
    → more ≡ ns ++ n ∷ [] → Found ws more (take (length left - 4) (drop 4 left))
found_more ws left ns more n f h e s m =
    let b = take (length left - 4) (drop 4 left) in
    let w = four_words left h f.kinds in
    let l : name_words n ++ b ≡ left = ap (λ xs. xs ++ b) e ∙ sym w.front in
    record {
      same = ap (λ xs. names_words xs ++ b) m ∙ ap (λ xs. xs ++ b) (names_words_push ns n) ∙ append_assoc (names_words ns) (name_words n) b
          ∙ ap (λ xs. names_words ns ++ xs) l ∙ f.same;
      small = ap small_names m ∙ small_names_push ns n f.small s;
      kinds = w.behind;
      count = let q : length more ≡ length ns + 1 = ap length m ∙ length_push ns n in omega (arith, ap length w.front, f.count);
    }

-- names that are left to be written, n being written from a place on
pub record NamesLeft (at : ℕ) (all : List Name) (old new : List ℕ) (n : ℕ) (left : List Name) : Type 0 where
  pub same : placed (at + 4 * n) (names_words left) new ≡ placed at (names_words all) old
  pub space : at + 4 * n + length (names_words left) ≤ length new
  pub small : small_names left ≡ true

-- the first of the names left, and its space
pub record FirstLeft (at : ℕ) (new : List ℕ) (n : ℕ) (first : Name) (left behind : List Name) : Type 0 where
  pub words : names_words left ≡ name_words first ++ names_words behind
  pub space : at + 4 * n + (4 + length (names_words behind)) ≤ length new
  pub small : small_name first ≡ true
  pub others : small_names behind ≡ true

pub first_left :
    (at : ℕ) (all : List Name) (old new : List ℕ) (n : ℕ) (first : Name) (left behind : List Name)
    → NamesLeft at all old new n left → left ≡ first ∷ behind → FirstLeft at new n first left behind
first_left at all old new n first left behind l e =
    let w = ap names_words e ∙ names_words_more first behind in
    let s = sym (ap small_names e ∙ small_more first behind) ∙ l.small in
    record { words = w; space = omega (arith, l.space, ap length w); small = search rules; others = search rules }

-- one name more is written
pub left_next :
    (at : ℕ) (all : List Name) (old new after : List ℕ) (n m i : ℕ) (first : Name) (left behind : List Name)
    → NamesLeft at all old new n left → left ≡ first ∷ behind → i ≡ n → m ≡ n + 1 → after ≡ placed (at + 4 * i) (name_words first) new
    → NamesLeft at all old after m behind
left_next at all old new after n m i first left behind l e ei em ea =
    let f = first_left at all old new n first left behind l e in
    let g = ea ∙ ap (λ x. placed (at + 4 * x) (name_words first) new) ei in
    let p = length_placed (at + 4 * n) (name_words first) new (omega (arith, f.space)) in
    let k : at + 4 * m ≡ at + 4 * n + 4 = omega (arith, em) in
    record {
      same = ap (λ x. placed x (names_words behind) after) k ∙ ap (λ xs. placed (at + 4 * n + 4) (names_words behind) xs) g
          ∙ sym (placed_more (at + 4 * n) (name_words first) (names_words behind) new (omega (arith, f.space)))
          ∙ ap (λ xs. placed (at + 4 * n) xs new) (sym f.words) ∙ l.same;
      space = omega (arith, f.space, k, ap length g, p);
      small = f.others;
    }

pub left_none :
    (at : ℕ) (all : List Name) (old new : List ℕ) (n : ℕ) (left : List Name) → NamesLeft at all old new n left → left ≡ [] → new ≡ placed at (names_words all) old
left_none at all old new n left l e =
    sym (placed_none (at + 4 * n) new) ∙ ap (λ xs. placed (at + 4 * n) xs new) (sym (ap names_words e ∙ names_words_none)) ∙ l.same
