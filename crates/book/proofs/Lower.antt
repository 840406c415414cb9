-- What the blocks of a book keep: one place to a name, what a block names at lower places, and so a whole book.
use Rattle.std.proofs.Common.{◌≡◌, ℕ, ◌<◌, true, false, eqb, List, [], ◌∷◌, take, is_some, Some, None, Option, sym, refl, ap, ◌∙◌, subst, inl, inr}
use Rattle.std.specs.List.{slice_get}
use Rattle.std.proofs.lemmas.Bool.{cond-true, cond-false, cases_Bool, cases_order, and_parts, and_from, both_ways}
use Rattle.model.specs.declared.names.Name.{Name}
use Rattle.model.specs.declared.blocks.SideBlock.{SideBlock}
use Rattle.model.specs.declared.blocks.Parent.{Parent}
use Rattle.model.specs.declared.blocks.Block.{Block}
use Rattle.model.specs.declared.blocks.Block.TheVariants.{Side, Backbone}
use Rattle.model.specs.Names.{same}
use Rattle.model.specs.Blocks.{referred, name_of}
use Rattle.model.specs.Books.{Book, genesis, is_side, of_view, sides_held, parent_held, named_held, Whole}
use Rattle.model.specs.Listing.{has}
use Rattle.model.proofs.Naming.{eq_same}
use Rattle.model.proofs.OneListing.{side_there, held_there}
use Rattle.book.specs.Places.{find, joins, Sound}
use Rattle.book.proofs.Finds.{joins_order, joins_new, joins_held, order_name, order_view, find_some, find_any}
use Rattle.book.proofs.Nths.{nth_take, nth_from_take}
use Rattle.std.proofs.lemmas.Bool.{false≢true}

module _ (bs : List Block) (ok : Sound bs) where
  -- no block after another has its name
  not_later : (i j : ℕ) (b c : Block) → slice_get bs i ≡ Some b → slice_get bs j ≡ Some c → name_of b ≡ name_of c → i < j → ⊥
  not_later i j b c p q e lt =
      let r = find_any (take j bs) i b (nth_take bs j i b lt p) in
      let new : is_some (find (take j bs) (name_of c)) ≡ false = joins_new (find (take j bs)) c (ok j c q) in
      let old : is_some (find (take j bs) (name_of c)) ≡ true = ap (λ n. is_some (find (take j bs) n)) (sym e) ∙ ap is_some r.1 in
      both_ways _ new old

  pub one_place : (i j : ℕ) (b c : Block) → slice_get bs i ≡ Some b → slice_get bs j ≡ Some c → name_of b ≡ name_of c → i ≡ j
  one_place i j b c p q e = elim (cases_order i j) [
    | inl same ↦ same
    | inr (inl lt) ↦ absurd (not_later i j b c p q e lt)
    | inr (inr gt) ↦ absurd (not_later j i c b q p (sym e) gt)
  ]

  pub find_nth : (i : ℕ) (b : Block) → slice_get bs i ≡ Some b → find bs (name_of b) ≡ Some b
  find_nth i b p =
      let r = find_any bs i b p in
      let s = find_some bs (name_of b) r.0 r.1 in
      let at = one_place s.0 i r.0 b s.1 p s.2 in
      let q : slice_get bs i ≡ Some r.0 = subst (λ k. slice_get bs k ≡ Some r.0) at s.1 in
      r.1 ∙ sym q ∙ p

  pub find_stays : (i : ℕ) (n : Name) (b : Block) → find (take i bs) n ≡ Some b → find bs n ≡ Some b
  find_stays i n b e =
      let p = find_some (take i bs) n b e in
      let u = nth_from_take bs i p.0 b p.1 in
      ap (find bs) (sym p.2) ∙ find_nth p.0 b u.1

  -- what a side block refers to stands at a lower place
  pub reference_lower : (i : ℕ) (s : SideBlock) (n : Name) → slice_get bs i ≡ Some (Side s) → has (referred s.references) n ≡ true → (j : ℕ) × (t : SideBlock) × (j < i) × (slice_get bs j ≡ Some (Side t)) × (t.name ≡ n)
  reference_lower i s n p r =
      let f = joins_held (find (take i bs)) (Side s) (ok i (Side s) p) in
      let t = held_there (find (take i bs)) (referred s.references) n f r in
      let q = find_some (take i bs) n (Side t.0) t.1 in
      let u = nth_from_take bs i q.0 (Side t.0) q.1 in
      (q.0, t.0, u.0, u.1, q.2)

-- a book that holds more holds what a block names
module _ (K K' : Book) (grows : (n : Name) (b : Block) → K n ≡ Some b → K' n ≡ Some b) where
  sides_stay : (names : List Name) → sides_held K names ≡ true → sides_held K' names ≡ true
  sides_stay [] h = refl
  sides_stay (r ∷ rs) h =
      let p = and_parts (is_side (K r)) (sides_held K rs) h in
      let s = side_there (K r) p.0 in
      and_from (is_side (K' r)) (sides_held K' rs) (ap is_side (grows r (Side s.0) s.1)) (sides_stay rs p.1)

  view_stays : (v : ℕ) (n : Name) (o : Option Block) → K n ≡ o → of_view v o ≡ true → of_view v (K' n) ≡ true
  view_stays v n None e h = absurd (false≢true h)
  view_stays v n (Some b) e h = ap (of_view v) (grows n b e) ∙ h

  parent_stays : (p : Parent) → parent_held K p ≡ true → parent_held K' p ≡ true
  parent_stays p h = elim (cases_Bool (same p.name genesis)) [
    | inl t ↦
        cond-true (same p.name genesis) (eqb p.view 0) (of_view p.view (K' p.name)) t
        ∙ sym (cond-true (same p.name genesis) (eqb p.view 0) (of_view p.view (K p.name)) t) ∙ h
    | inr f ↦
        cond-false (same p.name genesis) (eqb p.view 0) (of_view p.view (K' p.name)) f
        ∙ view_stays p.view p.name (K p.name) refl (sym (cond-false (same p.name genesis) (eqb p.view 0) (of_view p.view (K p.name)) f) ∙ h)
  ]

  named_stays : (b : Block) → named_held K b ≡ true → named_held K' b ≡ true
  named_stays (Side s) h = sides_stay (referred s.references) h
  named_stays (Backbone b) h =
      let p = and_parts (sides_held K (referred b.references)) (parent_held K b.parent) h in
      and_from (sides_held K' (referred b.references)) (parent_held K' b.parent) (sides_stay (referred b.references) p.0) (parent_stays b.parent p.1)

-- the blocks read as a book
module _ (bs : List Block) (ok : Sound bs) where
  found_joins : (n : Name) (b : Block) → find bs n ≡ Some b → (i : ℕ) × (joins (find (take i bs)) b ≡ true)
  found_joins n b e = let p = find_some bs n b e in (p.0, ok p.0 b p.1)

  no_genesis : (o : Option Block) → find bs genesis ≡ o → find bs genesis ≡ None
  no_genesis None e = e
  no_genesis (Some b) e =
      let j = found_joins genesis b e in
      absurd (both_ways _ (order_name b (joins_order (find (take j.0 bs)) b j.1)) (eq_same (name_of b) genesis (find_some bs genesis b e).2))

  pub book_whole : Whole (find bs)
  book_whole = record {
    named = λ n b e. (find_some bs n b e).2;
    no_genesis = no_genesis (find bs genesis) refl;
    held = λ n b e.
        let j = found_joins n b e in
        named_stays (find (take j.0 bs)) (find bs) (find_stays bs ok j.0) b (joins_held (find (take j.0 bs)) b j.1);
    lower = λ n b e.
        let j = found_joins n (Backbone b) e in
        order_view b (joins_order (find (take j.0 bs)) (Backbone b) j.1);
  }
