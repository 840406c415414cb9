-- What a search for a name comes to, and blocks that join.
use Rattle.std.proofs.Common.{◌≡◌, ℕ, zero, suc, ◌<◌, ◌≤◌, true, false, cond, not, ◌&&◌, ltb, List, [], ◌∷◌, ◌++◌, length, take, is_some, Some, None, sym, Option, refl, ap, ◌∙◌, subst, inl, inr, arith}
use Rattle.std.specs.List.{slice_get}
use Rattle.std.proofs.lemmas.List.{get_or_append_left, get_or_push, take-append-le, take_at, length_push}
use Rattle.std.proofs.lemmas.Option.{slice_get-get_or, slice_get_past, none-some}
use Rattle.std.proofs.lemmas.Grind.{common_steps}
use Rattle.std.proofs.lemmas.Bool.{cond-true, cond-false, cases_Bool, cases_order, and_parts, not-true, both_ways, ltb-true}
use Rattle.model.specs.declared.names.Name.{Name}
use Rattle.model.specs.declared.blocks.BackboneBlock.{BackboneBlock}
use Rattle.model.specs.declared.blocks.Block.{Block}
use Rattle.model.specs.declared.blocks.Block.TheVariants.{Side, Backbone}
use Rattle.model.specs.Names.{same}
use Rattle.model.specs.Blocks.{name_of}
use Rattle.model.specs.Books.{Book, genesis, in_order, named_held}
use Rattle.model.proofs.Naming.{same_true, eq_same}
use Rattle.book.specs.Places.{find, joins, Sound}

-- a first block x, and b in front of the rest, where not both have the name that is looked for
front_apart : (x b : Block) (n : Name) (rest : Option Block) → (same (name_of x) n ≡ true → same (name_of b) n ≡ true → ⊥) → cond (same (name_of x) n) (Some x) (cond (same (name_of b) n) (Some b) rest) ≡ cond (same (name_of b) n) (Some b) (cond (same (name_of x) n) (Some x) rest)
front_apart x b n rest apart = grind (arith, common_steps)

-- one block more, of a new name
pub find_push : (bs : List Block) (b : Block) (n : Name) → find bs (name_of b) ≡ None → find (bs ++ (b ∷ [])) n ≡ cond (same (name_of b) n) (Some b) (find bs n)
find_push [] b n e = refl
find_push (x ∷ bs) b n e = elim (cases_Bool (same (name_of x) (name_of b))) [
  | inl t ↦ absurd (none-some x (sym (rw t at e)))
  | inr f ↦
      let apart : same (name_of x) n ≡ true → same (name_of b) n ≡ true → ⊥ = λ t u.
      both_ways _ f (eq_same (name_of x) (name_of b) (same_true (name_of x) n t ∙ sym (same_true (name_of b) n u))) in
      ap (λ rest. cond (same (name_of x) n) (Some x) rest) (find_push bs b n (rw f at e)) ∙ front_apart x b n (find bs n) apart
]

-- the parts of a block that joins
pub joins_order : (K : Book) (b : Block) → joins K b ≡ true → in_order b ≡ true
joins_order K b j = (and_parts (in_order b) (not (is_some (K (name_of b))) && named_held K b) j).0

joins_rest : (K : Book) (b : Block) → joins K b ≡ true → (not (is_some (K (name_of b))) && named_held K b) ≡ true
joins_rest K b j = (and_parts (in_order b) (not (is_some (K (name_of b))) && named_held K b) j).1

pub joins_new : (K : Book) (b : Block) → joins K b ≡ true → is_some (K (name_of b)) ≡ false
joins_new K b j = not-true (is_some (K (name_of b))) (and_parts (not (is_some (K (name_of b)))) (named_held K b) (joins_rest K b j)).0

pub joins_held : (K : Book) (b : Block) → joins K b ≡ true → named_held K b ≡ true
joins_held K b j = (and_parts (not (is_some (K (name_of b)))) (named_held K b) (joins_rest K b j)).1

pub order_name : (b : Block) → in_order b ≡ true → same (name_of b) genesis ≡ false
order_name (Side s) e = not-true (same s.name genesis) e
order_name (Backbone b) e = not-true (same b.name genesis) (and_parts (not (same b.name genesis)) (ltb b.parent.view b.view) e).0

pub order_view : (b : BackboneBlock) → in_order (Backbone b) ≡ true → b.parent.view < b.view
order_view b e = ltb-true b.parent.view b.view (and_parts (not (same b.name genesis)) (ltb b.parent.view b.view) e).1

pub sound_push : (bs : List Block) (b : Block) → Sound bs → joins (find bs) b ≡ true → Sound (bs ++ (b ∷ []))
sound_push bs b ok j i c e = elim (cases_order i (length bs)) [
  | inl at ↦
      let h : i < length (bs ++ (b ∷ [])) = omega (arith, length_push bs b) in
      let p : slice_get (bs ++ (b ∷ [])) i ≡ Some b = slice_get-get_or (bs ++ (b ∷ [])) i b h ∙ ap (λ y. Some y) (get_or_push bs b b i (sym at)) in
      let c-is : c ≡ b = cc in
      let t : take i (bs ++ (b ∷ [])) ≡ bs = take_at bs (b ∷ []) i (sym at) in
      subst (λ y. joins (find (take i (bs ++ (b ∷ [])))) y ≡ true) (sym c-is) (subst (λ l. joins (find l) b ≡ true) (sym t) j)
  | inr (inl lt) ↦
      let h : i < length (bs ++ (b ∷ [])) = omega (arith, length_push bs b) in
      let p : slice_get bs i ≡ Some c = slice_get-get_or bs i c lt ∙ ap (λ y. Some y) (sym (get_or_append_left bs (b ∷ []) c i lt)) ∙ sym (slice_get-get_or (bs ++ (b ∷ [])) i c h) ∙ e in
      let le : i ≤ length bs = omega arith in
      subst (λ l. joins (find l) c ≡ true) (sym (take-append-le i bs (b ∷ []) le)) (ok i c p)
  | inr (inr gt) ↦
      let p : slice_get (bs ++ (b ∷ [])) i ≡ None = slice_get_past (bs ++ (b ∷ [])) i (omega (arith, length_push bs b)) in
      absurd (none-some c (sym p ∙ e))
]

-- what is found stands at a place, under the name
pub find_some : (bs : List Block) (n : Name) (b : Block) → find bs n ≡ Some b → (i : ℕ) × (slice_get bs i ≡ Some b) × (name_of b ≡ n)
find_some [] n b e = absurd (none-some b e)
find_some (x ∷ bs) n b e = elim (cases_Bool (same (name_of x) n)) [
  | inl t ↦
      let p : Some x ≡ Some b = sym (cond-true (same (name_of x) n) (Some x) (find bs n) t) ∙ e in
      let q : x ≡ b = cc in
      (0, p, ap name_of (sym q) ∙ same_true (name_of x) n t)
  | inr f ↦
      let r = find_some bs n b (sym (cond-false (same (name_of x) n) (Some x) (find bs n) f) ∙ e) in
      (suc r.0, r.1, r.2)
]

pub find_any : (bs : List Block) (i : ℕ) (b : Block) → slice_get bs i ≡ Some b → (c : Block) × (find bs (name_of b) ≡ Some c)
find_any [] i b e = absurd (none-some b e)
find_any (x ∷ bs) zero b e =
    let q : x ≡ b = cc in
    (x, cond-true (same (name_of x) (name_of b)) (Some x) (find bs (name_of b)) (eq_same (name_of x) (name_of b) (ap name_of q)))
find_any (x ∷ bs) (suc i) b e = elim (cases_Bool (same (name_of x) (name_of b))) [
  | inl t ↦ (x, cond-true (same (name_of x) (name_of b)) (Some x) (find bs (name_of b)) t)
  | inr f ↦
      let r = find_any bs i b e in
      (r.0, cond-false (same (name_of x) (name_of b)) (Some x) (find bs (name_of b)) f ∙ r.1)
]
