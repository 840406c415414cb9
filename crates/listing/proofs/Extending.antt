-- Listing one block more keeps a listing one.
use Rattle.std.proofs.Common.{◌≡◌, ℕ, List, [], ◌∷◌, ◌++◌, Ok, Err, Result, sym, ap, ◌∙◌, subst, inl, inr}
use Rattle.std.proofs.lemmas.List.{append_assoc}
use Rattle.model.specs.declared.names.Name.{Name}
use Rattle.model.specs.declared.refusals.Refusal.{Refusal}
use Rattle.model.specs.Books.{Book}
use Rattle.model.specs.Orders.{Before}
use Rattle.model.specs.Chains.{Listing, more, last_listed, Extended}
use Rattle.listing.proofs.Walks.{last_push}

pub extended_keeps : (before : Before) (K : Book) (target : Name) (places : ℕ) (L after : List Name) (r : Result (ℕ × ℕ) Refusal) → Extended before K target places L after r → Listing before K L (last_listed K L) → Listing before K after (last_listed K after)
extended_keeps before K target places L after (Err e) x l = subst (λ M. Listing before K M (last_listed K M)) (sym x.0) l
extended_keeps before K target places L after (Ok p) (inl x) l = subst (λ M. Listing before K M (last_listed K M)) (sym x.1) l
extended_keeps before K target places L after (Ok p) (inr x) l =
    let b = x.1.0 in
    let xs = x.1.1 in
    let next = x.1.2 in
    let below = subst (Listing before K L) (sym next.above) l in
    let now = more b next.held below x.1.3 in
    let last : last_listed K (L ++ (xs ++ (b.name ∷ []))) ≡ b.name = ap (last_listed K) (sym (append_assoc L xs (b.name ∷ []))) ∙ last_push K (L ++ xs) b next.held in
    subst (λ M. Listing before K M (last_listed K M)) (sym x.1.4) (subst (Listing before K (L ++ (xs ++ (b.name ∷ [])))) (sym last) now)
