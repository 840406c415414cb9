-- Equal names, and lists that have a name.
use Rattle.std.proofs.Common.{◌≡◌, ℕ, true, false, ◌||◌, eqb, ◌⊎◌, List, [], ◌∷◌, ◌++◌, refl, ap, ◌∙◌, subst, inl, inr}
use Rattle.std.proofs.lemmas.Bool.{eqb-true, eq-eqb, and_parts, and_from, cases_Bool, both_ways}
use Rattle.model.specs.declared.names.Name.{Name}
use Rattle.model.specs.Names.{same}
use Rattle.model.specs.Listing.{has}

abbrev pub made : ℕ → ℕ → Name
made h l = record { high = h; low = l }

pub same_true : (a b : Name) → same a b ≡ true → a ≡ b
same_true a b e =
    let p = and_parts (eqb a.high b.high) (eqb a.low b.low) e in
    let h : a.high ≡ b.high = eqb-true a.high b.high p.0 in
    let l : a.low ≡ b.low = eqb-true a.low b.low p.1 in
    ap (λ x. made x a.low) h ∙ ap (λ x. made b.high x) l

pub same_refl : (a : Name) → same a a ≡ true
same_refl a = and_from (eqb a.high a.high) (eqb a.low a.low) (eq-eqb a.high a.high refl) (eq-eqb a.low a.low refl)

pub eq_same : (a b : Name) → a ≡ b → same a b ≡ true
eq_same a b e = subst (λ y. same a y ≡ true) e (same_refl a)

pub same_false : (a b : Name) → same a b ≡ false → a ≡ b → ⊥
same_false a b f e = both_ways (same a b) f (eq_same a b e)

pub cases_name : (a b : Name) → (a ≡ b) ⊎ (a ≡ b → ⊥)
cases_name a b = elim (cases_Bool (same a b)) [ inl t ↦ inl (same_true a b t) | inr f ↦ inr (same_false a b f) ]

pub has_push : (L : List Name) (x n : Name) → has (L ++ (x ∷ [])) n ≡ (has L n || same x n)
has_push [] x n = elim (same x n) as (λ b. (b || false) ≡ b) [ true ↦ refl | false ↦ refl ]
has_push (y ∷ L) x n = elim (same y n) as (λ b. (b || has (L ++ (x ∷ [])) n) ≡ ((b || has L n) || same x n)) [ true ↦ refl | false ↦ has_push L x n ]
