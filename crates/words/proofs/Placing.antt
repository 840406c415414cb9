-- Words written over others: one part after the other.
use Rattle.std.proofs.Common.{◌≡◌, ℕ, ◌+◌, ◌≤◌, List, [], ◌++◌, length, take, drop, sym, ap, ◌∙◌, arith, length-append, length-drop}
use Rattle.std.proofs.lemmas.List.{take_at, drop_at, drop-drop, append_assoc, take-append-drop, length-take-le}
use Rattle.words.specs.Places.{placed, InFront}

pub placed_none : (at : ℕ) (old : List ℕ) → placed at [] old ≡ old
placed_none at old = let e : at + 0 ≡ at = omega arith in ap (λ k. take at old ++ drop k old) e ∙ take-append-drop at old

-- what stands up to the end of the part, and what stands behind it
front : (at : ℕ) (ws old : List ℕ) → placed at ws old ≡ (take at old ++ ws) ++ drop (at + length ws) old
front at ws old = sym (append_assoc (take at old) ws (drop (at + length ws) old))

front_length : (at : ℕ) (ws old : List ℕ) → at ≤ length old → length (take at old ++ ws) ≡ at + length ws
front_length at ws old h = let l = length-take-le at old h in simp (length-append, l)

pub length_placed : (at : ℕ) (ws old : List ℕ) → at + length ws ≤ length old → length (placed at ws old) ≡ length old
length_placed at ws old h =
    let l = length-take-le at old (omega arith) in
    simp (length-append, l, length-drop) (omega arith)

pub placed_more : (at : ℕ) (a b old : List ℕ) → at ≤ length old → placed at (a ++ b) old ≡ placed (at + length a) b (placed at a old)
placed_more at a b old h =
    let n = at + length a in
    let p = take at old ++ a in
    let q = drop n old in
    let e : placed at a old ≡ p ++ q = front at a old in
    let t : take n (placed at a old) ≡ p = ap (λ xs. take n xs) e ∙ take_at p q n (front_length at a old h) in
    let s : at + length (a ++ b) ≡ n + length b = simp length-append (omega arith) in
    let d : drop (n + length b) (placed at a old) ≡ drop (at + length (a ++ b)) old =
    ap (λ xs. drop (n + length b) xs) e ∙ sym (drop-drop (length b) n (p ++ q)) ∙ ap (λ xs. drop (length b) xs) (drop_at p q n (front_length at a old h))
    ∙ drop-drop (length b) n old ∙ ap (λ k. drop k old) (sym s) in
    ap (λ xs. take at old ++ xs) (append_assoc a b (drop (at + length (a ++ b)) old))
    ∙ sym (append_assoc (take at old) a (b ++ drop (at + length (a ++ b)) old))
    ∙ ap (λ xs. xs ++ (b ++ drop (at + length (a ++ b)) old)) (sym t)
    ∙ ap (λ xs. take n (placed at a old) ++ (b ++ xs)) (sym d)

-- a front part and what follows it
pub two_parts :
    (front rest old mid new ws : List ℕ) (n : ℕ) → mid ≡ placed 0 front old → new ≡ placed (length front) rest mid → ws ≡ front ++ rest → n ≡ length ws
    → InFront ws old new n
two_parts front rest old mid new ws n em en ew e =
    let z : 0 + length front ≡ length front = omega arith in
    let k : 0 + length (front ++ rest) ≡ n = omega (arith, ap length ew) in (
      e,
      en ∙ ap (λ xs. placed (length front) rest xs) em ∙ ap (λ i. placed i rest (placed 0 front old)) (sym z)
          ∙ sym (placed_more 0 front rest old (omega arith)) ∙ ap (λ i. (front ++ rest) ++ drop i old) k ∙ ap (λ xs. xs ++ drop n old) (sym ew),
    )

-- a part written behind another, and then what follows both
pub three_parts :
    (head part rest old mid next new ws : List ℕ) (n : ℕ) → length head ≤ length old → mid ≡ placed 0 head old → next ≡ placed (length head) part mid
    → new ≡ placed (length head + length part) rest next → ws ≡ head ++ (part ++ rest) → n ≡ length ws → InFront ws old new n
three_parts head part rest old mid next new ws n h em ex en ew e =
    let l : length (head ++ part) ≡ length head + length part = length-append head part in
    let z : 0 + length head ≡ length head = omega arith in
    let b : next ≡ placed 0 (head ++ part) old =
    ex ∙ ap (λ xs. placed (length head) part xs) em ∙ ap (λ i. placed i part (placed 0 head old)) (sym z) ∙ sym (placed_more 0 head part old (omega arith)) in
    two_parts (head ++ part) rest old next new ws n b (en ∙ ap (λ i. placed i rest next) (sym l)) (ew ∙ sym (append_assoc head part rest)) e
