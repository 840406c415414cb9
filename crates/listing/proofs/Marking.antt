-- Marks: one more, one less, and how they spread along references.
use Rattle.std.proofs.Common.{◌≡◌, ℕ, zero, suc, ◌+◌, ◌<◌, ◌≤◌, Bool, true, false, cond, not, ◌&&◌, ◌||◌, ◌≢◌, ◌⊎◌, List, [], ◌∷◌, ◌++◌, length, get_or, set, take, replicate, Some, None, sym, refl, ap, ◌∙◌, subst, inl, inr, arith}
use Rattle.std.specs.List.{slice_get}
use Rattle.std.proofs.lemmas.List.{get_or-set_same, get_or-set_other, length_push, get_or_push, get_or_append_left}
use Rattle.std.proofs.lemmas.Bool.{cases_eq, cases_lt, cases_Bool, cond-true, cond-false, both_ways, or_cases, or_left, or_right, and_parts, and_from, not_from_false, not-true}
use Rattle.model.specs.declared.names.Name.{Name}
use Rattle.model.specs.declared.blocks.SideBlock.{SideBlock}
use Rattle.model.specs.declared.blocks.Block.{Block}
use Rattle.model.specs.declared.blocks.Block.TheVariants.{Side}
use Rattle.model.specs.Names.{same}
use Rattle.model.specs.Blocks.{referred, name_of}
use Rattle.model.specs.Listing.{has, Reached, direct, onward}
use Rattle.model.proofs.Naming.{same_true, eq_same, has_push}
use Rattle.book.specs.Places.{find, Sound}
use Rattle.std.proofs.lemmas.Option.{slice_get_within}
use Rattle.book.proofs.Nths.{nth_some}
use Rattle.book.proofs.Finds.{find_any, find_some}
use Rattle.book.proofs.Lower.{one_place, find_nth, reference_lower}
use Rattle.std.proofs.lemmas.List.Sums.{count_by_more_yes, count_by_more_no}
use Rattle.places.specs.declared.list.Bounded.{Bounded}
use Rattle.places.specs.Held.{held, bound}
use Rattle.book.specs.declared.shelf.Shelf.{Shelf}
use Rattle.listing.specs.declared.marks.MarkedShelf.{MarkedShelf}
use Rattle.listing.specs.Marks.{mark, Remarked, Marks, Turned, Adds, Among, Spread, Pending, Without, Gathered, count}
use Rattle.std.proofs.lemmas.Bool.{false≢true}

-- one change of the marks after another
pub remarked_both : {P Q R : List Block → List Bool → List Bool → Type 0} {m n o : MarkedShelf} → Remarked P m n → Remarked Q n o → (P m.shelf.blocks.now m.marked n.marked → Q m.shelf.blocks.now n.marked o.marked → R m.shelf.blocks.now m.marked o.marked) → Remarked R m o
remarked_both {P} {Q} {R} {m} {n} {o} p q join = record {
  shelf = q.shelf ∙ p.shelf;
  marks = join p.marks (subst (λ (s : Shelf). Q s.blocks.now n.marked o.marked) p.shelf q.marks);
}

-- the mark of the block of a name turned
pub turned_place : (bs : List Block) (ok : Sound bs) (n : Name) (on : Bool) (ms : List Bool) (i : ℕ) → i < length bs → i < length ms → find bs n ≡ slice_get bs i → Turned bs n on ms (set ms i on)
turned_place bs ok n on ms i h l f =
    let p = nth_some bs i h in
    let q = find_some bs n p.0 (f ∙ p.1) in
    record {
      there = λ j b at. elim (cases_eq j i) [
        | inl e ↦
            let at' : slice_get bs i ≡ Some b = subst (λ k. slice_get bs k ≡ Some b) e at in
            let pb = p.1 in
            let same_block : p.0 ≡ b = cc in
            let named = eq_same n (name_of b) (sym q.2 ∙ ap name_of same_block) in
            ap (mark (set ms i on)) e ∙ get_or-set_same ms i on false l ∙ sym (cond-true (same n (name_of b)) on (mark ms j) named)
        | inr ne ↦
            let other : same n (name_of b) ≡ false = elim (cases_Bool (same n (name_of b))) [
              | inl t ↦ absurd (ne (one_place bs ok j i b p.0 at p.1 (sym (same_true n (name_of b) t) ∙ sym q.2)))
              | inr f' ↦ f'
            ] in
            get_or-set_other ms i j on false ne ∙ sym (cond-false (same n (name_of b)) on (mark ms j) other)
      ];
      past = λ j le. let ne : j ≢ i = omega arith in get_or-set_other ms i j on false ne;
    }

-- a name that the book lacks turns no mark
pub turned_absent : (bs : List Block) (n : Name) (on : Bool) (ms : List Bool) → find bs n ≡ None → Turned bs n on ms ms
turned_absent bs n on ms f = record {
  there = λ j b p.
      let other : same n (name_of b) ≡ false = elim (cases_Bool (same n (name_of b))) [
        | inl t ↦
            let c = find_any bs j b p in
            let y : find bs n ≡ Some c.0 = ap (find bs) (same_true n (name_of b) t) ∙ c.1 in
            let z : ◌≡◌ {A = ℕ} 0 1 = cc in
            absurd (omega arith)
        | inr f' ↦ f'
      ] in
      sym (cond-false (same n (name_of b)) on (mark ms j) other);
  past = λ j le. refl;
}

cond_on : (b m : Bool) → m ≡ true → cond b true m ≡ true
cond_on true m e = refl
cond_on false m e = e

cond_off : (b m : Bool) → cond b false m ≡ (m && not (b || false))
cond_off true true = refl
cond_off true false = refl
cond_off false true = refl
cond_off false false = refl

-- turned on: the mark of the block of that name more
pub turned_adds : (bs : List Block) (n : Name) (ms more : List Bool) → Turned bs n true ms more → Adds bs (λ m. m ≡ n) ms more
turned_adds bs n ms more t = record {
  keeps = λ i e. elim (cases_lt i (length bs)) [
    | inl lt ↦ let b = nth_some bs i lt in t.there i b.0 b.1 ∙ cond_on (same n (name_of b.0)) (mark ms i) e
    | inr ge ↦ t.past i ge ∙ e
  ];
  adds = λ i b p e. t.there i b p ∙ cond-true (same n (name_of b)) true (mark ms i) (eq_same n (name_of b) (sym e));
  only = λ i e. elim (cases_lt i (length bs)) [
    | inl lt ↦
        let b = nth_some bs i lt in
        elim (cases_Bool (same n (name_of b.0))) [
          | inl s ↦ inr (b.0, b.1, sym (same_true n (name_of b.0) s))
          | inr s ↦ inl (sym (t.there i b.0 b.1 ∙ cond-false (same n (name_of b.0)) true (mark ms i) s) ∙ e)
        ]
    | inr ge ↦ inl (sym (t.past i ge) ∙ e)
  ];
}

-- one after the other
pub adds_both : (bs : List Block) (P Q R : Name → Type 0) (ms more most : List Bool) → Adds bs P ms more → Adds bs Q more most → ((n : Name) → R n → P n ⊎ Q n) → ((n : Name) → P n → R n) → ((n : Name) → Q n → R n) → Adds bs R ms most
adds_both bs P Q R ms more most p q split left right = record {
  keeps = λ i e. q.keeps i (p.keeps i e);
  adds = λ i b at r. elim (split (name_of b) r) [
    | inl x ↦ q.keeps i (p.adds i b at x)
    | inr y ↦ q.adds i b at y
  ];
  only = λ i e. elim (q.only i e) [
    | inl m ↦ elim (p.only i m) [
      | inl o ↦ inl o
      | inr x ↦ inr (x.0, x.1, left (name_of x.0) x.2)
    ]
    | inr y ↦ inr (y.0, y.1, right (name_of y.0) y.2)
  ];
}

-- the first of some names, and then the others
pub adds_first : (bs : List Block) (n : Name) (rest : List Name) (ms more most : List Bool) → Turned bs n true ms more → Adds bs (Among rest) more most → Adds bs (Among (n ∷ rest)) ms most
adds_first bs n rest ms more most p q = adds_both bs (λ m. m ≡ n) (Among rest) (Among (n ∷ rest)) ms more most (turned_adds bs n ms more p) q
    (λ m h. elim (or_cases (same n m) (has rest m) h) [
      | inl t ↦ inl (sym (same_true n m t))
      | inr f ↦ inr f
    ])
    (λ m e. or_left (same n m) (has rest m) (eq_same n m (sym e)))
    (λ m h. or_right (same n m) (has rest m) h)

-- no names, no marks
pub adds_nothing : (bs : List Block) (ms : List Bool) → Adds bs (Among []) ms ms
adds_nothing bs ms = record { keeps = λ i e. e; adds = λ i b p q. absurd (false≢true q); only = λ i e. inl e }

module _ (bs : List Block) (ok : Sound bs) (start : List Name) where
  -- the marks of the start alone
  pub spread_start : (ms more : List Bool) (i : ℕ) → ((j : ℕ) → mark ms j ≡ true → ⊥) → length bs ≤ i → Adds bs (Among start) ms more → Spread bs start i more
  spread_start ms more i none end a = record {
    sound = λ j e. elim (a.only j e) [
      | inl m ↦ absurd (none j m)
      | inr x ↦ (x.0, x.1, direct x.2)
    ];
    base = λ j b p r. a.adds j b p r;
    closed = λ j s le m p k c q r.
        let lt = slice_get_within bs j (Side s) p in
        absurd (omega arith);
  }

  -- a place down whose block is not marked, or refers to nothing
  pub spread_past : (ms : List Bool) (i : ℕ) → Spread bs start (i + 1) ms → ((s : SideBlock) → mark ms i ≡ true → slice_get bs i ≡ Some (Side s) → ⊥) → Spread bs start i ms
  spread_past ms i sp none = record {
    sound = sp.sound;
    base = sp.base;
    closed = λ j s le m p k c q r. elim (cases_eq j i) [
      | inl same ↦ absurd (none s (subst (λ x. mark ms x ≡ true) same m) (subst (λ x. slice_get bs x ≡ Some (Side s)) same p))
      | inr ne ↦ sp.closed j s (omega arith) m p k c q r
    ];
  }

  -- a place down whose block is marked, and what it refers to is marked now
  pub spread_down : (ms more : List Bool) (i : ℕ) (s : SideBlock) → Spread bs start (i + 1) ms → mark ms i ≡ true → slice_get bs i ≡ Some (Side s) → Adds bs (Among (referred s.references)) ms more → Spread bs start i more
  spread_down ms more i s sp m p a =
      let here = sp.sound i m in
      let reached : Reached (find bs) start s.name =
      let e : here.0 ≡ Side s = let x = here.1 in cc in
      subst (λ b. Reached (find bs) start (name_of b)) e here.2 in
      let held = find_nth bs ok i (Side s) p in
      record {
        sound = λ j e. elim (a.only j e) [
          | inl o ↦ sp.sound j o
          | inr x ↦ (x.0, x.1, onward s reached held x.2)
        ];
        base = λ j b q r. a.keeps j (sp.base j b q r);
        closed = λ j t le e q k c at r. elim (cases_eq j i) [
          | inl same ↦
              let q' : slice_get bs i ≡ Some (Side t) = subst (λ x. slice_get bs x ≡ Some (Side t)) same q in
              let ts : t ≡ s = cc in
              a.adds k c at (subst (λ x. Among (referred x.references) (name_of c)) ts r)
          | inr ne ↦ elim (a.only j e) [
            | inl o ↦ a.keeps k (sp.closed j t (omega arith) o q k c at r)
            | inr x ↦
                let low = reference_lower bs ok i s (name_of x.0) p x.2 in
                let js = one_place bs ok low.0 j (Side low.1) x.0 low.3 x.1 low.4 in
                let lt = low.2 in
                absurd (omega arith)
          ]
        ];
      }

  -- at the lowest place all that is reached is marked
  pub spread_full : (ms : List Bool) → Spread bs start 0 ms → {n : Name} → Reached (find bs) start n → (k : ℕ) (c : Block) → slice_get bs k ≡ Some c → name_of c ≡ n → mark ms k ≡ true
  spread_full ms sp (direct r) k c p e = sp.base k c p (subst (Among start) (sym e) r)
  spread_full ms sp (onward {m} {n} s q held r) k c p e =
      let at = find_some (bs) m (Side s) held in
      let marked = spread_full ms sp q at.0 (Side s) at.1 at.2 in
      sp.closed at.0 s (omega arith) marked at.1 k c p (subst (Among (referred s.references)) (sym e) r)

  pub spread_marks : (ms : List Bool) → Spread bs start 0 ms → Marks bs (Reached (find bs) start) ms
  spread_marks ms sp = record {
    sound = sp.sound;
    full = λ i b p r. spread_full ms sp r i b p refl;
  }

pub blank : (n j : ℕ) → mark (replicate n false) j ≡ false
blank zero j = refl
blank (suc n) zero = refl
blank (suc n) (suc j) = blank n j

-- the marks of listed blocks taken away, name by name
pub without_none : (bs : List Block) (ms : List Bool) → Without bs [] ms ms
without_none bs ms = record {
  there = λ j b p. elim (mark ms j) as (λ m. m ≡ (m && true)) [ true ↦ refl | false ↦ refl ];
  past = λ j le. refl;
}

either_off : (m h e : Bool) → ((m && not h) && not (e || false)) ≡ (m && not (h || e))
either_off true true e = refl
either_off true false true = refl
either_off true false false = refl
either_off false h e = refl

-- turned off: the mark of the block of that name taken away
turned_without : (bs : List Block) (n : Name) (ms less : List Bool) → Turned bs n false ms less → Without bs (n ∷ []) ms less
turned_without bs n ms less t = record {
  there = λ j b p. t.there j b p ∙ cond_off (same n (name_of b)) (mark ms j);
  past = t.past;
}

-- a line more
pub without_more : (bs : List Block) (L : List Name) (n : Name) (ms less least : List Bool) → Without bs L ms less → Turned bs n false less least → Without bs (L ++ (n ∷ [])) ms least
without_more bs L n ms less least w turned =
    let v = turned_without bs n less least turned in
    record {
      there = λ j b p.
          v.there j b p ∙ ap (λ m. m && not (same n (name_of b) || false)) (w.there j b p)
          ∙ either_off (mark ms j) (has L (name_of b)) (same n (name_of b)) ∙ ap (λ h. mark ms j && not h) (sym (has_push L n (name_of b)));
      past = λ j le. v.past j le ∙ w.past j le;
    }

pub without_marks : (bs : List Block) (start L : List Name) (ms less : List Bool) → Without bs L ms less → Marks bs (Reached (find bs) start) ms → Marks bs (Pending bs start L) less
without_marks bs start L ms less w m = record {
  sound = λ j e. elim (cases_lt j (length bs)) [
    | inl lt ↦
        let b = nth_some bs j lt in
        let parts = and_parts (mark ms j) (not (has L (name_of b.0))) (sym (w.there j b.0 b.1) ∙ e) in
        let r = m.sound j parts.0 in
        let same_block : r.0 ≡ b.0 = let x = r.1 in let y = b.1 in cc in
        (b.0, b.1, (subst (λ x. Reached (find bs) start (name_of x)) same_block r.2, not-true _ parts.1))
    | inr ge ↦
        let r = m.sound j (sym (w.past j ge) ∙ e) in
        let lt = slice_get_within bs j r.0 r.1 in
        absurd (omega arith)
  ];
  full = λ j b p r. w.there j b p ∙ and_from (mark ms j) (not (has L (name_of b))) (m.full j b p r.0) (not_from_false _ r.1);
}

-- the marked places, gathered
pub gathered_skip : (ms : List Bool) (i : ℕ) (w : List ℕ) (n : ℕ) → mark ms i ≡ false → Gathered ms i w n → Gathered ms (i + 1) w n
gathered_skip ms i w n off g = record {
  within = g.within;
  all = λ j h m. elim (cases_eq j i) [
    | inl e ↦ absurd (both_ways (mark ms i) off (subst (λ x. mark ms x ≡ true) e m))
    | inr ne ↦ g.all j (omega arith) m
  ];
}

pub gathered_more : (ms : List Bool) (i : ℕ) (w : List ℕ) → i < length ms → Gathered ms i w (length w) → Gathered ms (i + 1) (w ++ (i ∷ [])) (length (w ++ (i ∷ [])))
gathered_more ms i w h g =
    let long = length_push w i in
    let last = get_or_push w i 0 (length w) refl in
    record {
      within = λ k lt. elim (cases_lt k (length w)) [
        | inl l ↦ let e = get_or_append_left w (i ∷ []) 0 k l in let r = g.within k l in omega arith
        | inr ge ↦ let e : k ≡ length w = omega arith in let v = ap (λ x. get_or (w ++ (i ∷ [])) x 0) e ∙ last in omega arith
      ];
      all = λ j lt m. elim (cases_eq j i) [
        | inl e ↦ (length w, omega arith, last ∙ sym e)
        | inr ne ↦ let r = g.all j (omega arith) m in let l = r.1 in (r.0, omega arith, get_or_append_left w (i ∷ []) 0 r.0 l ∙ r.2)
      ];
    }

-- of the first i places those that are marked are gathered, and there is room for all the others
abbrev pub Gathering : List Bool → ℕ → Bounded ℕ 4096 → Type 0
Gathering ms i w = (bound w ≡ 4096) × (length (held w) ≡ count (take i ms)) × Gathered ms i (held w) (length (held w))

pub gathering_skip : (ms : List Bool) (i : ℕ) (w : Bounded ℕ 4096) → i < length ms → mark ms i ≡ false → Gathering ms i w → Gathering ms (i + 1) w
gathering_skip ms i w h off g = (g.0, g.1 ∙ sym (count_by_more_no (λ b. b) ms i false h off), gathered_skip ms i (held w) (length (held w)) off g.2)

pub gathering_more : (ms : List Bool) (i : ℕ) (w v : Bounded ℕ 4096) → i < length ms → mark ms i ≡ true → bound v ≡ bound w → held v ≡ held w ++ (i ∷ []) → Gathering ms i w → Gathering ms (i + 1) v
gathering_more ms i w v h on same_bound put g =
    let longer = length_push (held w) i in
    let counted = count_by_more_yes (λ b. b) ms i false h on in (
      same_bound ∙ g.0,
      ap length put ∙ omega (arith, longer, counted, g.1),
      subst (λ x. Gathered ms (i + 1) x (length x)) (sym put) (gathered_more ms i (held w) h g.2),
    )

-- what is left after the listed ones are unmarked, on the shelf that was given
pub left_marked : (s : Shelf) (start L : List Name) (r u : MarkedShelf) → r.shelf ≡ s → Marks s.blocks.now (Reached (find s.blocks.now) start) r.marked → Remarked (λ bs ms less. (start : List Name) → Marks bs (Reached (find bs) start) ms → Marks bs (Pending bs start L) less) r u → Marks s.blocks.now (Pending s.blocks.now start L) u.marked
left_marked s start L r u e reached drops =
    subst (λ (x : Shelf). Marks x.blocks.now (Reached (find x.blocks.now) start) r.marked → Marks x.blocks.now (Pending x.blocks.now start L) u.marked) e (drops.marks start) reached
