-- A search in a sorted index.
use Rattle.std.proofs.Common.{◌≡◌, ℕ, zero, suc, ◌+◌, ◌-◌, ◌<◌, ◌≤◌, true, false, eqb, List, [], ◌∷◌, ◌++◌, length, get_or, Some, None, Option, Result, Ok, Err, sym, refl, ap, ◌∙◌, subst, inl, inr, Less, Equal, Greater, arith}
use Rattle.std.specs.List.{slice_get, insert}
use Rattle.std.proofs.lemmas.List.Edits.{length-insert, get_or-insert_below, get_or-insert_at, get_or-insert_above}
use Rattle.std.proofs.lemmas.List.{length_push}
use Rattle.std.proofs.lemmas.Option.{slice_get_within, none-some}
use Rattle.std.proofs.lemmas.Bool.{cases_eq, cases_order, or_left, or_right, eq-eqb, cases_lt, or_cases, eqb-true, both_ways}
use Rattle.model.specs.declared.names.Name.{Name}
use Rattle.model.specs.declared.blocks.Block.{Block}
use Rattle.model.specs.Blocks.{name_of}
use Rattle.book.specs.Places.{find, Sound, Placed}
use Rattle.model.specs.Orders.{name_before}
use Rattle.book.specs.Index.{name_there, key, stands, Indexed, Sought}
use Rattle.model.proofs.OrderLaws.{name_never, name_chain}
use Rattle.model.specs.Names.{same}
use Rattle.model.specs.contracts.names.NameOrd.TheImpl as name_order
use Rattle.model.proofs.Naming.{same_true}
use Rattle.std.specs.Option.{option_map}
use Rattle.std.specs.Result.{result_ok}
use Rattle.std.specs.Ordering.{ordering_index}
use Rattle.std.specs.List.Sorted.{IsSearchInRange, IsBinarySearchResult, IsNonDecreasingBy}
use Rattle.std.proofs.lemmas.List.Sorted.{IsNonDecreasingBy-from_default}
use Rattle.std.proofs.lemmas.Bool.Decides.{nat_tests}
use Rattle.book.proofs.Nths.{nth_some, nth_front, nth_end}
use Rattle.book.proofs.Finds.{find_some}
use Rattle.book.proofs.Lower.{find_nth}

pub stands_at : (xs : List ℕ) (p : ℕ) → stands xs p ≡ true → (k : ℕ) × (k < length xs) × (get_or xs k 0 ≡ p)
stands_at [] p e = absurd (both_ways false refl e)
stands_at (x ∷ xs) p e = elim (or_cases (eqb x p) (stands xs p) e) [
  | inl t ↦ (0, omega arith, eqb-true x p t)
  | inr f ↦ let r = stands_at xs p f in let lt = r.1 in (suc r.0, omega arith, r.2)
]

-- what the library's comparison of two names answers
name_equal : (a b : Name) → name_order.ghosts.cmp a b ≡ Equal → a ≡ b
name_equal a b e = let s : same a b ≡ true = grind (arith, nat_tests) in same_true a b s

name_less : (a b : Name) → name_order.ghosts.cmp a b ≡ Less → name_before a b ≡ true
name_less a b e = grind (arith, nat_tests)

name_greater : (a b : Name) → name_order.ghosts.cmp a b ≡ Greater → name_before b a ≡ true
name_greater a b e = grind (arith, nat_tests)

index_up : (a b n : Name) → name_before a b ≡ true → ordering_index (name_order.ghosts.cmp a n) ≤ ordering_index (name_order.ghosts.cmp b n)
index_up a b n e = grind (arith, nat_tests)

module _ (bs : List Block) (ix : List ℕ) (ok : Indexed bs ix) where
  -- names rise over any distance
  rises_far : (j k : ℕ) → j < k → k < length ix → name_before (key bs ix j) (key bs ix k) ≡ true
  rises_far j zero lt h = absurd (omega arith)
  rises_far j (suc k) lt h =
      let next : suc k ≡ k + 1 = omega arith in
      let step : name_before (key bs ix k) (key bs ix (suc k)) ≡ true = rw next (ok.rises k (omega arith)) in
      elim (cases_eq j k) [
        | inl e ↦ rw e step
        | inr ne ↦ name_chain (key bs ix j) (key bs ix k) (key bs ix (suc k)) (rises_far j k (omega arith) (omega arith)) step
      ]

  -- the comparisons of its names with n rise along the index, as a binary search asks
  comparisons_rise : (n : Name) → IsNonDecreasingBy (λ p. ordering_index (name_order.ghosts.cmp (name_there (slice_get bs p)) n)) ix
  comparisons_rise n = IsNonDecreasingBy-from_default (λ p. ordering_index (name_order.ghosts.cmp (name_there (slice_get bs p)) n)) ix 0 (λ i j le h.
      elim (cases_eq i j) [
        | inl e ↦ subst (λ k. ordering_index (name_order.ghosts.cmp (key bs ix i) n) ≤ ordering_index (name_order.ghosts.cmp (key bs ix k) n)) e (omega arith)
        | inr ne ↦ index_up (key bs ix i) (key bs ix j) n (rises_far i j (omega arith) h)
      ])

  -- what a binary search for a name finds in the index
  pub sought : (n : Name) (r : Result ℕ ℕ) → IsSearchInRange r (length ix) → IsBinarySearchResult (λ p. name_order.ghosts.cmp (name_there (slice_get bs p)) n) ix r → Sought bs ix n r
  sought n (Ok k) h equal = (h, name_equal (key bs ix k) n (equal 0))
  sought n (Err k) h parted =
      let parts = parted (comparisons_rise n) in
      (h, λ j lt. name_less (key bs ix j) n (parts.0 j 0 (omega arith) lt), λ j le lt. name_greater (key bs ix j) n (parts.1 j 0 le lt))

  pub sought_place : (sound : Sound bs) (n : Name) (k : ℕ) → k < length ix → key bs ix k ≡ n → Placed bs n (Some (get_or ix k 0))
  sought_place sound n k h e =
      let lt = ok.ranged k h in
      let b = nth_some bs (get_or ix k 0) lt in
      let nm : name_of b.0 ≡ n = ap name_there (sym b.1) ∙ e in
      (lt, ap (find bs) (sym nm) ∙ find_nth bs sound (get_or ix k 0) b.0 b.1 ∙ sym b.1)

  pub sought_none : (n : Name) (k : ℕ) → ((j : ℕ) → j < k → name_before (key bs ix j) n ≡ true) → ((j : ℕ) → k ≤ j → j < length ix → name_before n (key bs ix j) ≡ true) → Placed bs n None
  sought_none n k low high = go (find bs n) refl
    where
      go : (o : Option Block) → find bs n ≡ o → find bs n ≡ None
      go None e = e
      go (Some b) e =
          let p = find_some bs n b e in
          let at = stands_at ix p.0 (ok.covers p.0 (slice_get_within bs p.0 b p.1)) in
          let nm : key bs ix at.0 ≡ n = ap (λ x. name_there (slice_get bs x)) at.2 ∙ ap name_there p.1 ∙ p.2 in
          elim (cases_lt at.0 k) [
            | inl lt ↦ absurd (both_ways (name_before n n) (name_never n) (subst (λ x. name_before x n ≡ true) nm (low at.0 lt)))
            | inr ge ↦ absurd (both_ways (name_before n n) (name_never n) (subst (λ x. name_before n x ≡ true) nm (high at.0 ge at.1)))
          ]

  -- the place of the block that a search for its name comes to
  pub placed : (sound : Sound bs) (n : Name) (r : Result ℕ ℕ) (o : Option ℕ) → o ≡ result_ok r → Sought bs ix n r → Placed bs n (option_map (λ k. get_or ix k 0) o)
  placed sound n (Ok k) o e s = rw e (sought_place sound n k s.0 s.1)
  placed sound n (Err k) o e s = rw e (sought_none n k s.1 s.2)

stands_from : (xs : List ℕ) (k : ℕ) → k < length xs → stands xs (get_or xs k 0) ≡ true
stands_from [] k h = absurd (omega arith)
stands_from (x ∷ xs) zero h = or_left (eqb x x) (stands xs x) (eq-eqb x x refl)
stands_from (x ∷ xs) (suc k) h = or_right (eqb x (get_or xs k 0)) (stands xs (get_or xs k 0)) (stands_from xs k (omega arith))

-- one block more at the end, and its place put into the index at k
module _ (bs : List Block) (ix : List ℕ) (ok : Indexed bs ix) (b : Block) (k : ℕ) (le : k ≤ length ix) (low : (j : ℕ) → j < k → name_before (key bs ix j) (name_of b) ≡ true) (high : (j : ℕ) → k ≤ j → j < length ix → name_before (name_of b) (key bs ix j) ≡ true) where
  key_kept : (p q : ℕ) → p ≡ q → q < length bs → name_there (slice_get (bs ++ (b ∷ [])) p) ≡ name_there (slice_get bs q)
  key_kept p q e h = ap (λ x. name_there (slice_get (bs ++ (b ∷ [])) x)) e ∙ ap name_there (nth_front bs b q h)

  key_below : (j : ℕ) → j < k → key (bs ++ (b ∷ [])) (insert ix k (length bs)) j ≡ key bs ix j
  key_below j lt = key_kept (get_or (insert ix k (length bs)) j 0) (get_or ix j 0) (get_or-insert_below ix k (length bs) 0 j lt le) (ok.ranged j (omega arith))

  key_here : key (bs ++ (b ∷ [])) (insert ix k (length bs)) k ≡ name_of b
  key_here = ap (λ x. name_there (slice_get (bs ++ (b ∷ [])) x)) (get_or-insert_at ix k (length bs) 0 le) ∙ ap name_there (nth_end bs b)

  key_above : (j : ℕ) → k ≤ j → j < length ix → key (bs ++ (b ∷ [])) (insert ix k (length bs)) (j + 1) ≡ key bs ix j
  key_above j ge h = key_kept (get_or (insert ix k (length bs)) (j + 1) 0) (get_or ix j 0) (get_or-insert_above ix k (length bs) 0 j ge le) (ok.ranged j h)

  pair : (x y x' y' : Name) → x ≡ x' → y ≡ y' → name_before x' y' ≡ true → name_before x y ≡ true
  pair x y x' y' p q h = ap (λ z. name_before z y) p ∙ ap (name_before x') q ∙ h

  pub indexed_push : Indexed (bs ++ (b ∷ [])) (insert ix k (length bs))
  indexed_push =
      let long = length-insert ix k (length bs) le in
      let more = length_push bs b in
      record {
        ranged = λ j h. elim (cases_order j k) [
          | inl e ↦
              let v : get_or (insert ix k (length bs)) j 0 ≡ length bs = ap (λ x. get_or (insert ix k (length bs)) x 0) e ∙ get_or-insert_at ix k (length bs) 0 le in
              omega arith
          | inr (inl lt) ↦
              let v = get_or-insert_below ix k (length bs) 0 j lt le in
              let r = ok.ranged j (omega arith) in
              omega arith
          | inr (inr gt) ↦
              let i : ℕ = j - 1 in
              let e : i + 1 ≡ j = omega arith in
              let v = get_or-insert_above ix k (length bs) 0 i (omega arith) le in
              let w : get_or (insert ix k (length bs)) j 0 ≡ get_or ix i 0 = ap (λ x. get_or (insert ix k (length bs)) x 0) (sym e) ∙ v in
              let r = ok.ranged i (omega arith) in
              omega arith
        ];
        rises = λ j h. elim (cases_order (j + 1) k) [
          | inl e ↦ pair _ _ (key bs ix j) (name_of b) (key_below j (omega arith)) (ap (key (bs ++ (b ∷ [])) (insert ix k (length bs))) e ∙ key_here) (low j (omega arith))
          | inr (inl lt) ↦ pair _ _ (key bs ix j) (key bs ix (j + 1)) (key_below j (omega arith)) (key_below (j + 1) lt) (ok.rises j (omega arith))
          | inr (inr gt) ↦ elim (cases_eq j k) [
            | inl e ↦ pair _ _ (name_of b) (key bs ix j) (ap (key (bs ++ (b ∷ [])) (insert ix k (length bs))) e ∙ key_here) (key_above j (omega arith) (omega arith)) (high j (omega arith) (omega arith))
            | inr ne ↦
                let i : ℕ = j - 1 in
                let e : i + 1 ≡ j = omega arith in
                pair _ _ (key bs ix i) (key bs ix j) (ap (key (bs ++ (b ∷ [])) (insert ix k (length bs))) (sym e) ∙ key_above i (omega arith) (omega arith)) (key_above j (omega arith) (omega arith))
                (subst (λ x. name_before (key bs ix i) (key bs ix x) ≡ true) e (ok.rises i (omega arith)))
          ]
        ];
        covers = λ p h. elim (cases_eq p (length bs)) [
          | inl e ↦ subst (λ x. stands (insert ix k (length bs)) x ≡ true) (get_or-insert_at ix k (length bs) 0 le ∙ sym e) (stands_from (insert ix k (length bs)) k (omega arith))
          | inr ne ↦
              let at = stands_at ix p (ok.covers p (omega arith)) in
              let lt = at.1 in
              elim (cases_lt at.0 k) [
                | inl l ↦ subst (λ x. stands (insert ix k (length bs)) x ≡ true) (get_or-insert_below ix k (length bs) 0 at.0 l le ∙ at.2) (stands_from (insert ix k (length bs)) at.0 (omega arith))
                | inr g ↦ subst (λ x. stands (insert ix k (length bs)) x ≡ true) (get_or-insert_above ix k (length bs) 0 at.0 g le ∙ at.2) (stands_from (insert ix k (length bs)) (at.0 + 1) (omega arith))
              ]
        ];
      }

pub found_none : (bs : List Block) (ix : List ℕ) → Indexed bs ix → Sound bs → (n : Name) (k : ℕ) → k < length ix → key bs ix k ≡ n → find bs n ≡ None → ⊥
found_none bs ix ok sound n k h e none =
    let p = sought_place bs ix ok sound n k h e in
    let b = nth_some bs (get_or ix k 0) p.0 in
    none-some b.0 (sym none ∙ p.1 ∙ b.1)
