-- The worked listing and lookups hold, and equal lists give equal lookups.
use Rattle.std.proofs.Common.{◌≡◌, true, false, ◌⊎◌, List, [], ◌∷◌, Some, sym, refl, ap, ◌∙◌, subst, inl, inr}
use Rattle.std.proofs.lemmas.Bool.{both_ways, or_cases, or_left, or_right}
use Rattle.model.specs.declared.names.Name.{Name}
use Rattle.model.specs.declared.blocks.SideBlock.{SideBlock}
use Rattle.model.specs.declared.blocks.Block.TheVariants.{Side}
use Rattle.model.specs.Names.{same}
use Rattle.model.specs.Blocks.{referred}
use Rattle.model.specs.Books.{Book}
use Rattle.model.specs.Orders.{Before, by_author, by_sonde}
use Rattle.model.specs.Listing.{has, Ready, Reached, direct, onward, Lines, done, next}
use Rattle.model.specs.Chains.{none, more}
use Rattle.model.specs.Lookups.{holding, entries, entry_there, EqualLookups}
use Rattle.model.specs.Examples.{named, s1, s3, s4, b5, four, WorkedListing}
use Rattle.model.proofs.Naming.{same_true, same_refl}

nope : {X : Type 0} → true ≡ false → X
nope e = absurd (both_ways true e refl)

start : List Name
start = named 3 ∷ named 4 ∷ []

Known : Name → Type 0
Known n = (n ≡ named 1) ⊎ ((n ≡ named 3) ⊎ (n ≡ named 4))

-- the block under each name
block_of : (n m : Name) (s t : SideBlock) → n ≡ m → four m ≡ Some (Side t) → four n ≡ Some (Side s) → s ≡ t
block_of n m s t e p q =
    let r = ap four e in
    cc

one_name : (m n : Name) → has (m ∷ []) n ≡ true → n ≡ m
one_name m n h = elim (or_cases (same m n) false h) [ inl t ↦ sym (same_true m n t) | inr f ↦ nope (sym f) ]

start_are : (n : Name) → has start n ≡ true → (n ≡ named 3) ⊎ (n ≡ named 4)
unfolding start
start_are n h = elim (or_cases (same (named 3) n) (has (named 4 ∷ []) n) h) [ inl t ↦ inl (sym (same_true (named 3) n t)) | inr f ↦ inr (one_name (named 4) n f) ]

-- what a block of the three refers to
refers : (m n : Name) (s t : SideBlock) → m ≡ n → four n ≡ Some (Side t) → four m ≡ Some (Side s) → (r : Name) → has (referred s.references) r ≡ true → has (referred t.references) r ≡ true
refers m n s t e p q r h = subst (λ (x : SideBlock). has (referred x.references) r ≡ true) (block_of m n s t e p q) h

reached_are : {n : Name} → Reached four start n → Known n
unfolding Known
reached_are {n} (direct r) = inr (start_are n r)
reached_are (onward {m} {n} s p e r) = elim (reached_are p) [
  | inl a ↦ nope (sym (refers m (named 1) s s1 a refl e n r))
  | inr (inl b) ↦ inl (one_name (named 1) n (refers m (named 3) s s3 b refl e n r))
  | inr (inr c) ↦ nope (sym (refers m (named 4) s s4 c refl e n r))
]

none_ready : (L : List Name) → Ready L []
none_ready L n r = nope (sym r)

s3_ready : (L : List Name) → has L (named 1) ≡ true → Ready L (referred s3.references)
s3_ready L h n r = subst (λ x. has L x ≡ true) (sym (one_name (named 1) n r)) h

r3 : Reached four start (named 3)
unfolding start
r3 = direct refl

r4 : Reached four start (named 4)
unfolding start
r4 = direct refl

r1 : Reached four start (named 1)
r1 = onward s3 r3 refl refl

-- at each other name: it is before, or listed already, or not ready
least_of : (before : Before) (L : List Name) (x : Name) (s : SideBlock) → ((named 1 ≡ x → ⊥) → has L (named 1) ≡ false → before s s1 ≡ true) → ((named 3 ≡ x → ⊥) → has L (named 3) ≡ false → has L (named 1) ≡ true → before s s3 ≡ true) → ((named 4 ≡ x → ⊥) → has L (named 4) ≡ false → before s s4 ≡ true) → (m : Name) (t : SideBlock) → four m ≡ Some (Side t) → Reached four start m → has L m ≡ false → Ready L (referred t.references) → (m ≡ x → ⊥) → before s t ≡ true
unfolding Known
least_of before L x s a b c m t p r new ready ne = elim (reached_are r) [
  | inl e ↦ subst (λ y. before s y ≡ true) (sym (block_of m (named 1) t s1 e refl p)) (a (λ q. ne (e ∙ q)) (subst (λ y. has L y ≡ false) e new))
  | inr (inl e) ↦
      let ts = block_of m (named 3) t s3 e refl p in
      subst (λ y. before s y ≡ true) (sym ts) (b (λ q. ne (e ∙ q)) (subst (λ y. has L y ≡ false) e new) (subst (λ (y : SideBlock). Ready L (referred y.references)) ts ready (named 1) refl))
  | inr (inr e) ↦ subst (λ y. before s y ≡ true) (sym (block_of m (named 4) t s4 e refl p)) (c (λ q. ne (e ∙ q)) (subst (λ y. has L y ≡ false) e new))
]

all_listed : (L : List Name) → has L (named 1) ≡ true → has L (named 3) ≡ true → has L (named 4) ≡ true → (n : Name) → Reached four start n → has L n ≡ true
unfolding Known
all_listed L a b c n r = elim (reached_are r) [
  | inl e ↦ subst (λ y. has L y ≡ true) (sym e) a
  | inr (inl e) ↦ subst (λ y. has L y ≡ true) (sym e) b
  | inr (inr e) ↦ subst (λ y. has L y ≡ true) (sym e) c
]

by_author_lines : Lines by_author four start [] (named 4 ∷ named 1 ∷ named 3 ∷ [])
by_author_lines =
    next (record { block = s4; held = refl; reached = r4; new = refl; ready = none_ready []; least = least_of by_author [] (named 4) s4 (λ _ _. refl) (λ _ _ h. nope (sym h)) (λ ne _. absurd (ne refl)) })
    (next (record { block = s1; held = refl; reached = r1; new = refl; ready = none_ready (named 4 ∷ []); least = least_of by_author (named 4 ∷ []) (named 1) s1 (λ ne _. absurd (ne refl)) (λ _ _ h. nope (sym h)) (λ _ h. nope h) })
    (next (record { block = s3; held = refl; reached = r3; new = refl; ready = s3_ready (named 4 ∷ named 1 ∷ []) refl; least = least_of by_author (named 4 ∷ named 1 ∷ []) (named 3) s3 (λ _ h. nope h) (λ ne _ _. absurd (ne refl)) (λ _ h. nope h) })
    (done (all_listed (named 4 ∷ named 1 ∷ named 3 ∷ []) refl refl refl))))

by_sonde_lines : Lines by_sonde four start [] (named 1 ∷ named 3 ∷ named 4 ∷ [])
by_sonde_lines =
    next (record { block = s1; held = refl; reached = r1; new = refl; ready = none_ready []; least = least_of by_sonde [] (named 1) s1 (λ ne _. absurd (ne refl)) (λ _ _ h. nope (sym h)) (λ _ _. refl) })
    (next (record { block = s3; held = refl; reached = r3; new = refl; ready = s3_ready (named 1 ∷ []) refl; least = least_of by_sonde (named 1 ∷ []) (named 3) s3 (λ _ h. nope h) (λ ne _ _. absurd (ne refl)) (λ _ _. refl) })
    (next (record { block = s4; held = refl; reached = r4; new = refl; ready = none_ready (named 1 ∷ named 3 ∷ []); least = least_of by_sonde (named 1 ∷ named 3 ∷ []) (named 4) s4 (λ _ h. nope h) (λ _ h _. nope h) (λ ne _. absurd (ne refl)) })
    (done (all_listed (named 1 ∷ named 3 ∷ named 4 ∷ []) refl refl refl))))

pub worked_listing : WorkedListing
unfolding start
worked_listing = (more b5 refl (none refl) by_author_lines, more b5 refl (none refl) by_sonde_lines)

-- the entries of lines that two books hold alike
same_entries : (K K' : Book) (L : List Name) → ((n : Name) → has L n ≡ true → K n ≡ K' n) → entries K L ≡ entries K' L
same_entries K K' [] alike = refl
same_entries K K' (x ∷ L) alike =
    ap (λ o. entry_there o (entries K L)) (alike x (or_left (same x x) (has L x) (same_refl x)))
    ∙ ap (entry_there (K' x)) (same_entries K K' L (λ n h. alike n (or_right (same x n) (has L n) h)))

pub equal_lookups : EqualLookups
equal_lookups K K' L L' e alike sonde = ap (holding sonde) (same_entries K K' L alike ∙ ap (entries K') e)
