-- The first candidate is the next line.
use Rattle.std.proofs.Common.{◌≡◌, ℕ, zero, suc, ◌+◌, ◌<◌, Bool, true, false, not, cond, ◌≢◌, List, [], ◌∷◌, ◌++◌, length, get_or, set, Some, None, Option, sym, refl, ap, ◌∙◌, subst, inl, inr, arith, length-set, Decides, MatchOption}
use Rattle.std.specs.List.{slice_get, AllWithin, HoldsAt}
use Rattle.std.specs.Bool.{MatchBool, then_some}
use Rattle.std.proofs.lemmas.List.Sums.{sum_by-set, sum_by-cons}
use Rattle.std.proofs.lemmas.List.{get_or-set_same, get_or-set_other, get_or_past, set_past, get_or_append_left}
use Rattle.std.proofs.lemmas.Bool.{cases_eq, cases_lt, cases_Bool, both_ways, not_from_false, or_parts, or_from, or_cases, or_left, or_right}
use Rattle.model.specs.declared.names.Name.{Name}
use Rattle.model.specs.declared.blocks.SideBlock.{SideBlock}
use Rattle.model.specs.declared.blocks.Block.{Block}
use Rattle.model.specs.declared.blocks.Block.TheVariants.{Side}
use Rattle.model.specs.Names.{same}
use Rattle.model.specs.Blocks.{referred, name_of}
use Rattle.model.specs.Books.{genesis, sides_held}
use Rattle.model.specs.Orders.{Before, Lawful}
use Rattle.model.specs.Listing.{has, Ready, Reached, onward, First, Lines, done, next}
use Rattle.model.proofs.Naming.{same_true, same_false, same_refl, has_push}
use Rattle.model.proofs.OneListing.{reached_held}
use Rattle.book.specs.Places.{find, Sound}
use Rattle.book.proofs.Nths.{nth_some}
use Rattle.book.proofs.Finds.{find_some, find_any}
use Rattle.book.proofs.Lower.{one_place, find_nth, reference_lower, book_whole}
use Rattle.listing.specs.Marks.{mark, Marks, Pending, Marked, Clear, Candidate, Gathered, Best, count}
use Rattle.std.proofs.lemmas.Bool.{false≢true}

pub mark_below : (ms : List Bool) (i : ℕ) → mark ms i ≡ true → i < length ms
mark_below ms i e = elim (cases_lt i (length ms)) [
  | inl lt ↦ lt
  | inr ge ↦ absurd (both_ways (mark ms i) (get_or_past ms i false ge) e)
]

-- whether the block of a name is marked
module _ (bs : List Block) (ok : Sound bs) (ms : List Bool) where
  pub marked_at : (n : Name) (i : ℕ) → i < length bs → find bs n ≡ slice_get bs i → mark ms i ≡ true → Marked bs ms n
  marked_at n i h f m =
      let p = nth_some bs i h in
      (i, p.0, p.1, (find_some bs n p.0 (f ∙ p.1)).2, m)

  pub at_marked : (n : Name) (i : ℕ) → i < length bs → find bs n ≡ slice_get bs i → Marked bs ms n → mark ms i ≡ true
  at_marked n i h f m =
      let p = nth_some bs i h in
      let q = find_some bs n p.0 (f ∙ p.1) in
      let at = one_place bs ok m.0 i m.1 p.0 m.2 p.1 (m.3 ∙ sym q.2) in
      subst (λ k. mark ms k ≡ true) at m.4

  pub absent_unmarked : (n : Name) → find bs n ≡ None → Marked bs ms n → ⊥
  absent_unmarked n f m =
      let c = find_any bs m.0 m.1 m.2 in
      let y : find bs n ≡ Some c.0 = ap (find bs) (sym m.3) ∙ c.1 in
      let z : ◌≡◌ {A = ℕ} 0 1 = cc in
      omega arith

-- a name stands among some names where it has a place
has_at : (names : List Name) (k : ℕ) (d : Name) → k < length names → has names (get_or names k d) ≡ true
has_at [] k d h = absurd (omega arith)
has_at (n ∷ names) zero d h = or_left (same n n) (has names n) (same_refl n)
has_at (n ∷ names) (suc k) d h = or_right (same n (get_or names k d)) (has names (get_or names k d)) (has_at names k d (omega arith))

has_place : (names : List Name) (n : Name) → has names n ≡ true → (k : ℕ) × (k < length names) × (get_or names k n ≡ n)
has_place [] n h = absurd (false≢true h)
has_place (m ∷ names) n h = elim (or_cases (same m n) (has names n) h) [
  | inl t ↦ (0, omega arith, same_true m n t)
  | inr f ↦ let r = has_place names n f in let l = r.1 in (suc r.0, omega arith, r.2)
]

-- whether none of some names is marked
pub decides_clear : (bs : List Block) (ms : List Bool) (names : List Name) (r : Bool) → MatchBool r ((k : ℕ) × (k < length names) × HoldsAt (Marked bs ms) names k) (AllWithin (λ n. Marked bs ms n → ⊥) names 0 (length names)) → Decides (not r) (Clear bs ms names)
decides_clear bs ms names true h = ((λ f. absurd (false≢true f)), λ clear. absurd (clear (get_or names h.0 genesis) (has_at names h.0 genesis h.1) (h.2 genesis)))
decides_clear bs ms names false h = (
  (λ t n among m. let at = has_place names n among in h at.0 n (omega arith) at.1 (subst (Marked bs ms) (sym at.2) m)),
  λ clear. refl,
)

-- the block at a place, if it is marked and refers to no marked one
pub candidate_clear : (bs : List Block) (ms : List Bool) (i : ℕ) (s : SideBlock) → slice_get bs i ≡ Some (Side s) → mark ms i ≡ true → (r : Bool) → Decides r (Clear bs ms (referred s.references)) → MatchOption (then_some r s) ((t : SideBlock) → Candidate bs ms i t → ⊥) (Candidate bs ms i)
candidate_clear bs ms i s at on true h = (on, at, h.0 refl)
candidate_clear bs ms i s at on false h =
    λ t c.
    let p = c.1 in
    let e : t ≡ s = cc in
    both_ways false refl (h.1 (subst (λ x. Clear bs ms (referred x.references)) e c.2))

-- more places behind change nothing among the first
pub best_longer : (before : Before) (bs : List Block) (ms : List Bool) (w more : List ℕ) (r : Option (ℕ × SideBlock)) → Best before bs ms w (length w) r → Best before bs ms (w ++ more) (length w) r
best_longer before bs ms w more None h = λ k t lt c. h k t lt (subst (λ j. Candidate bs ms j t) (get_or_append_left w more 0 k lt) c)
best_longer before bs ms w more (Some p) h = (
  h.0,
  λ k t lt c ne. let e = get_or_append_left w more 0 k lt in h.1 k t lt (subst (λ j. Candidate bs ms j t) e c) (λ at. ne (e ∙ at)),
)

-- the best of one place more
module _ (before : Before) (law : Lawful before) (bs : List Block) (ok : Sound bs) (ms : List Bool) (w : List ℕ) where
  pub best_skip : (i place : ℕ) (r : Option (ℕ × SideBlock)) → get_or w i 0 ≡ place → Best before bs ms w i r → ((s : SideBlock) → Candidate bs ms place s → ⊥) → Best before bs ms w (i + 1) r
  best_skip i place None at h none = λ k t lt c. elim (cases_eq k i) [
    | inl e ↦ none t (subst (λ j. Candidate bs ms j t) (ap (λ x. get_or w x 0) e ∙ at) c)
    | inr ne ↦ h k t (omega arith) c
  ]
  best_skip i place (Some p) at h none = (
    h.0,
    λ k t lt c ne. elim (cases_eq k i) [
      | inl e ↦ absurd (none t (subst (λ j. Candidate bs ms j t) (ap (λ x. get_or w x 0) e ∙ at) c))
      | inr ni ↦ h.1 k t (omega arith) c ne
    ],
  )

  -- the block at a place is one
  one_block : (i : ℕ) (s t : SideBlock) → slice_get bs i ≡ Some (Side s) → slice_get bs i ≡ Some (Side t) → s ≡ t
  one_block i s t p q = cc

  pub best_keeps : (i place b : ℕ) (s f : SideBlock) → get_or w i 0 ≡ place → Best before bs ms w i (Some (b, f)) → Candidate bs ms place s → before s f ≡ false → Best before bs ms w (i + 1) (Some (b, f))
  best_keeps i place b s f at h cand e = (
    h.0,
    λ k t lt c ne. elim (cases_eq k i) [
      | inl ki ↦
          let kp : get_or w k 0 ≡ place = ap (λ x. get_or w x 0) ki ∙ at in
          let ts = one_block place s t cand.1 (subst (λ j. slice_get bs j ≡ Some (Side t)) kp c.1) in
          let names : f.name ≡ s.name → ⊥ = λ same_name. ne (kp ∙ sym (one_place bs ok b place (Side f) (Side s) h.0.1 cand.1 same_name)) in
          subst (λ x. before f x ≡ true) ts (law.apart f s names ∙ not_from_false (before s f) e)
      | inr ni ↦ h.1 k t (omega arith) c ne
    ],
  )

  -- of all that wait the best is the next line, and with none left all is listed
  module _ (start L : List Name) (marks : Marks bs (Pending bs start L) ms) (n : ℕ) (all : Gathered ms (length ms) w n) where
    unlisted : (m : Name) → Marked bs ms m → has L m ≡ false
    unlisted m x =
        let s = marks.sound x.0 x.4 in
        let e : s.0 ≡ x.1 = let p = s.1 in let q = x.2 in cc in
        subst (λ y. has L y ≡ false) (ap name_of e ∙ x.3) s.2.1

    waits : (j : ℕ) (t : SideBlock) → Candidate bs ms j t → (k : ℕ) × (k < n) × (get_or w k 0 ≡ j)
    waits j t c = all.all j (mark_below ms j c.0) c.0

    -- a pending block that is ready is a candidate
    ready_clear : (t : SideBlock) → Ready L (referred t.references) → Clear bs ms (referred t.references)
    ready_clear t ready m h x = both_ways (has L m) (unlisted m x) (ready m h)

    -- a candidate is ready: what it refers to is reached with it, so it is listed where it is not marked
    clear_ready : (j : ℕ) (s : SideBlock) → slice_get bs j ≡ Some (Side s) → Reached (find bs) start s.name → Clear bs ms (referred s.references) → Ready L (referred s.references)
    clear_ready j s p reached clear m h = elim (cases_Bool (has L m)) [
      | inl t ↦ t
      | inr f ↦
          let low = reference_lower bs ok j s m p h in
          let there : Reached (find bs) start m = onward s reached (find_nth bs ok j (Side s) p) h in
          let marked = marks.full low.0 (Side low.1) low.3 (subst (Pending bs start L) (sym low.4) (there, f)) in
          absurd (clear m h (low.0, Side low.1, low.3, low.4, marked))
    ]

    pub best_is_next : (b : ℕ) (s : SideBlock) → Best before bs ms w n (Some (b, s)) → First before (find bs) start L s.name
    best_is_next b s h =
        let m = marks.sound b h.0.0 in
        let e : m.0 ≡ Side s = let x = m.1 in let y = h.0.1 in cc in
        let pending = subst (λ x. Pending bs start L (name_of x)) e m.2 in
        record {
          block = s;
          held = find_nth bs ok b (Side s) h.0.1;
          reached = pending.0;
          new = pending.1;
          ready = clear_ready b s h.0.1 pending.0 h.0.2;
          least = λ x t held reached new ready ne.
              let at = find_some bs x (Side t) held in
              let marked = marks.full at.0 (Side t) at.1 (subst (Pending bs start L) (sym at.2) (reached, new)) in
              let cand : Candidate bs ms at.0 t = (marked, at.1, ready_clear t ready) in
              let k = waits at.0 t cand in
              let other : get_or w k.0 0 ≡ b → ⊥ = λ same_place.
              let ts = one_block b t s (subst (λ j. slice_get bs j ≡ Some (Side t)) (sym k.2 ∙ same_place) at.1) h.0.1 in
              ne (sym at.2 ∙ ap (λ (y : SideBlock). y.name) ts) in
              h.1 k.0 t k.1 (subst (λ j. Candidate bs ms j t) (sym k.2) cand) other;
        }

    -- the lowest unlisted one would be a candidate
    none_below : Best before bs ms w n None → (i j : ℕ) (s : SideBlock) → j < i → slice_get bs j ≡ Some (Side s) → Reached (find bs) start s.name → has L s.name ≡ true
    none_below h zero j s lt p r = absurd (omega arith)
    none_below h (suc i) j s lt p r = elim (cases_Bool (has L s.name)) [
      | inl t ↦ t
      | inr f ↦
          let held = find_nth bs ok j (Side s) p in
          let ready : Ready L (referred s.references) = λ m ref.
          let low = reference_lower bs ok j s m p ref in
          let ll = low.2 in
          let there = subst (Reached (find bs) start) (sym low.4) (onward s r held ref) in
          subst (λ x. has L x ≡ true) low.4 (none_below h i low.0 low.1 (omega arith) low.3 there) in
          let cand : Candidate bs ms j s = (marks.full j (Side s) p (r, f), p, ready_clear s ready) in
          let k = waits j s cand in
          absurd (h k.0 s k.1 (subst (λ x. Candidate bs ms x s) (sym k.2) cand))
    ]

    pub none_left : Best before bs ms w n None → sides_held (find bs) start ≡ true → (x : Name) → Reached (find bs) start x → has L x ≡ true
    none_left h held x r =
        let t = reached_held (find bs) (book_whole bs ok) start held r in
        let at = find_some bs x (Side t.0) t.1 in
        let there = subst (Reached (find bs) start) (sym at.2) r in
        subst (λ y. has L y ≡ true) at.2 (none_below h (suc at.0) at.0 t.0 (omega arith) at.1 there)

pub count_drop : (ms : List Bool) (i : ℕ) → mark ms i ≡ true → count (set ms i false) + 1 ≡ count ms
count_drop ms i e =
    let s = sum_by-set (λ (b : Bool). cond b 1 0) ms i false false (mark_below ms i e) in
    let c : cond {A = ℕ} (mark ms i) 1 0 ≡ 1 = ap (λ b. cond {A = ℕ} b 1 0) e in
    omega arith

-- the block at i is listed now
pub pending_drop : (bs : List Block) (ok : Sound bs) (start : List Name) (L : List Name) (ms : List Bool) (i : ℕ) (b : Block) → slice_get bs i ≡ Some b → Marks bs (Pending bs start L) ms → Marks bs (Pending bs start (L ++ (name_of b ∷ []))) (set ms i false)
pending_drop bs ok start L ms i b p m = record {
  sound = λ j e. elim (cases_eq j i) [
    | inl same ↦
        let off : mark (set ms i false) i ≡ false = elim (cases_lt i (length ms)) [
          | inl lt ↦ get_or-set_same ms i false false lt
          | inr ge ↦ ap (λ l. mark l i) (set_past ms i false ge) ∙ get_or_past ms i false ge
        ] in
        absurd (both_ways (mark (set ms i false) i) off (subst (λ k. mark (set ms i false) k ≡ true) same e))
    | inr ne ↦
        let x = m.sound j (sym (get_or-set_other ms i j false false ne) ∙ e) in
        let other : same (name_of b) (name_of x.0) ≡ false = elim (cases_Bool (same (name_of b) (name_of x.0))) [
          | inl t ↦ absurd (ne (one_place bs ok j i x.0 b x.1 p (sym (same_true (name_of b) (name_of x.0) t))))
          | inr f ↦ f
        ] in
        (x.0, x.1, (x.2.0, has_push L (name_of b) (name_of x.0) ∙ or_from (has L (name_of x.0)) (same (name_of b) (name_of x.0)) x.2.1 other))
  ];
  full = λ j c q r.
      let parts = or_parts (has L (name_of c)) (same (name_of b) (name_of c)) (sym (has_push L (name_of b) (name_of c)) ∙ r.1) in
      let ne : j ≢ i = λ e.
      let q' : slice_get bs i ≡ Some c = subst (λ k. slice_get bs k ≡ Some c) e q in
      let bc : b ≡ c = cc in
      same_false (name_of b) (name_of c) parts.1 (ap name_of bc) in
      get_or-set_other ms i j false false ne ∙ m.full j c q (r.0, parts.0);
}

count_none : (ms : List Bool) → ((i : ℕ) → mark ms i ≡ true → ⊥) → count ms ≡ 0
count_none [] none = refl
count_none (true ∷ ms) none = absurd (none 0 refl)
count_none (false ∷ ms) none =
    let ih = count_none ms (λ i e. none (suc i) e) in
    let c = sum_by-cons (λ (b : Bool). cond {A = ℕ} b 1 0) false ms in
    omega arith

-- as many lines as marks
pub lines_count : (before : Before) (bs : List Block) (ok : Sound bs) (start : List Name) {L xs : List Name} → Lines before (find bs) start L xs → (ms : List Bool) → Marks bs (Pending bs start L) ms → length xs ≡ count ms
lines_count before bs ok start (done f) ms m = sym (count_none ms (λ i e.
    let x = m.sound i e in
    both_ways _ x.2.1 (f _ x.2.0)))
lines_count before bs ok start {L} (next {x} {xs} p ls) ms m =
    let at = find_some bs x (Side p.block) p.held in
    let marked = m.full at.0 (Side p.block) at.1 (subst (Pending bs start L) (sym at.2) (p.reached, p.new)) in
    let drops = pending_drop bs ok start L ms at.0 (Side p.block) at.1 m in
    let ih = lines_count before bs ok start ls (set ms at.0 false) (subst (λ n. Marks bs (Pending bs start (L ++ (n ∷ []))) (set ms at.0 false)) at.2 drops) in
    let c = count_drop ms at.0 marked in
    omega arith

-- the places of what is left wait still
pub gathered_drop : (ms : List Bool) (i : ℕ) (w : List ℕ) (n : ℕ) → Gathered ms (length ms) w n → Gathered (set ms i false) (length (set ms i false)) w n
gathered_drop ms i w n g =
    let long = length-set ms i false in
    record {
      within = λ k h. let r = g.within k h in omega arith;
      all = λ j h m. g.all j (omega arith) (elim (cases_eq j i) [
        | inl e ↦ elim (cases_lt i (length ms)) [
          | inl lt ↦ absurd (both_ways _ (ap (mark (set ms i false)) e ∙ get_or-set_same ms i false false lt) m)
          | inr ge ↦ absurd (omega arith)
        ]
        | inr ne ↦ sym (get_or-set_other ms i j false false ne) ∙ m
      ]);
    }
