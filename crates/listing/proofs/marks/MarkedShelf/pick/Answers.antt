use Rattle.std.proofs.Common.{◌≡◌, ℕ, ◌+◌, List, [], ◌∷◌, ◌++◌, length, get_or, None, rules, sym, refl, subst, arith}
use Rattle.std.specs.Iterator.{AlwaysYields}
use Rattle.std.proofs.lemmas.Fn.{fold_over, slice_gives, fronts}
use Rattle.std.proofs.lemmas.List.{length_push, get_or_push}
use Rattle.listing.specs.Marks.{Best}
use Rattle.listing.proofs.Picking.{best_longer}
use Rattle.listing.proofs.marks.MarkedShelf.pick.Goals as goal

pub returns : goal.returns
returns g c =
    let m = c.args.self.now in
    let bs = m.shelf.blocks.now in
    let before = g.O.Order.precedes in
    fold_over fronts (λ y. y.now) _ (λ w best. Best before bs m.marked w (length w) best) _
    (λ w best x r f' so_far call.
    let better : (v : List ℕ) (i : ℕ) → get_or v i 0 ≡ x.now → Best before bs m.marked v i best → Best before bs m.marked v (i + 1) r = search rules in
    let longer = w ++ (x.now ∷ []) in
    let now = better longer (length w) (get_or_push w x.now 0 (length w) refl) (best_longer before bs m.marked w (x.now ∷ []) best so_far) in
    (subst (λ i. Best before bs m.marked longer i r) (sym (length_push w x.now)) now, search rules))
    c.iter.result c.args.waiting.now None c.fold.result (subst (λ xs. AlwaysYields fronts (λ y. y.now) c.iter.result xs) c.iter.ensures.rest (slice_gives c.iter.result)) (λ k t lt cand. absurd (omega arith)) c.fold.ensures.ran
