-- A listing grows by one line at a time.
use Rattle.std.proofs.Common.{◌≡◌, ℕ, Bool, true, false, List, [], ◌∷◌, ◌++◌, length, set, Some, None, sym, ap, ◌∙◌, subst}
use Rattle.std.proofs.lemmas.List.{append-nil, append_assoc}
use Rattle.model.specs.declared.names.Name.{Name}
use Rattle.model.specs.declared.blocks.SideBlock.{SideBlock}
use Rattle.model.specs.declared.blocks.Block.{Block}
use Rattle.model.specs.declared.blocks.Block.TheVariants.{Side}
use Rattle.model.specs.Books.{sides_held}
use Rattle.model.specs.Orders.{Before, Lawful}
use Rattle.model.specs.Listing.{Lines, done, next}
use Rattle.book.specs.Places.{find, Sound}
use Rattle.listing.specs.Marks.{Marks, Pending, Gathered, Best}
use Rattle.listing.specs.Steps.{Listed}
use Rattle.listing.proofs.Picking.{best_is_next, none_left, pending_drop}

-- the lines so far, from L to M: what goes on from M is a listing from L, and the marks are of what is left
pub record Sofar (before : Before) (bs : List Block) (start L M : List Name) (ms : List Bool) : Type 0 where
  pub added : List Name
  pub grown : M ≡ L ++ added
  pub goes_on : (rest : List Name) → Lines before (find bs) start M rest → Lines before (find bs) start L (added ++ rest)
  pub left : Marks bs (Pending bs start M) ms

module _ (before : Before) (law : Lawful before) (bs : List Block) (ok : Sound bs) (start L M : List Name) (ms : List Bool) (w : List ℕ) (n : ℕ) (all : Gathered ms (length ms) w n) (so : Sofar before bs start L M ms) where
  pub sofar_more : (b : ℕ) (s : SideBlock) → Best before bs ms w n (Some (b, s)) → Sofar before bs start L (M ++ (s.name ∷ [])) (set ms b false)
  sofar_more b s h =
      let f = best_is_next before law bs ok ms w start M so.left n all b s h in
      record {
        added = so.added ++ (s.name ∷ []);
        grown = ap (λ l. l ++ (s.name ∷ [])) so.grown ∙ append_assoc L so.added (s.name ∷ []);
        goes_on = λ rest l. subst (λ l. Lines before (find bs) start L l) (sym (append_assoc so.added (s.name ∷ []) rest)) (so.goes_on (s.name ∷ rest) (next f l));
        left = pending_drop bs ok start M ms b (Side s) h.0.1 so.left;
      }

  pub sofar_done : Best before bs ms w n None → sides_held (find bs) start ≡ true → Listed before (find bs) start L M
  sofar_done h held =
      let l = so.goes_on [] (done (none_left before law bs ok ms w start M so.left n all h held)) in
      (so.added, subst (λ l. Lines before (find bs) start L l) (append-nil so.added) l, so.grown)
