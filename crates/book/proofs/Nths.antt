-- Lists read at a place.
use Rattle.std.proofs.Common.{◌≡◌, ℕ, zero, suc, ◌<◌, List, [], ◌∷◌, ◌++◌, length, take, Some, sym, refl, ap, ◌∙◌, arith}
use Rattle.std.specs.List.{slice_get}
use Rattle.std.proofs.lemmas.List.{length-take, get_or-take}
use Rattle.std.proofs.lemmas.Option.{slice_get-get_or, slice_get_within}

pub nth_some : {X : Type 0} (xs : List X) (i : ℕ) → i < length xs → (x : X) × (slice_get xs i ≡ Some x)
nth_some [] i h = absurd (omega arith)
nth_some (x ∷ xs) zero h = (x, refl)
nth_some (x ∷ xs) (suc i) h = nth_some xs i (omega arith)

pub nth_take : {X : Type 0} (xs : List X) (k i : ℕ) (x : X) → i < k → slice_get xs i ≡ Some x → slice_get (take k xs) i ≡ Some x
nth_take xs k i x h e =
    let b = slice_get_within xs i x e in
    let l : i < length (take k xs) = simp length-take (omega arith) in
    slice_get-get_or (take k xs) i x l ∙ ap (λ y. Some y) (get_or-take k xs i x h) ∙ sym (slice_get-get_or xs i x b) ∙ e

pub nth_from_take : {X : Type 0} (xs : List X) (k i : ℕ) (x : X) → slice_get (take k xs) i ≡ Some x → (i < k) × (slice_get xs i ≡ Some x)
nth_from_take xs k i x e =
    let l = slice_get_within (take k xs) i x e in
    let m = simp length-take at l in
    let h : i < k = omega arith in
    let b : i < length xs = omega arith in
    (h, slice_get-get_or xs i x b ∙ ap (λ y. Some y) (sym (get_or-take k xs i x h)) ∙ sym (slice_get-get_or (take k xs) i x l) ∙ e)

pub nth_front : {X : Type 0} (xs : List X) (x : X) (p : ℕ) → p < length xs → slice_get (xs ++ (x ∷ [])) p ≡ slice_get xs p
nth_front [] x p h = absurd (omega arith)
nth_front (y ∷ xs) x zero h = refl
nth_front (y ∷ xs) x (suc p) h = nth_front xs x p (omega arith)

pub nth_end : {X : Type 0} (xs : List X) (x : X) → slice_get (xs ++ (x ∷ [])) (length xs) ≡ Some x
nth_end [] x = refl
nth_end (y ∷ xs) x = nth_end xs x
