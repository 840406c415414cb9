-- A walk down the parent chain, and the last listed block.
use Rattle.std.proofs.Common.{◌≡◌, ℕ, suc, ◌<◌, Bool, true, false, cond, eqb, List, [], ◌∷◌, ◌++◌, reverse, Some, None, Option, sym, refl, ap, ◌∙◌, subst, inl, inr, arith, MatchOption}
use Rattle.std.specs.List.{find, fold}
use Rattle.std.specs.Option.{is_some, option_or, unwrap_or}
use Rattle.std.proofs.lemmas.List.Sums.{fold-append}
use Rattle.std.proofs.lemmas.List.Folds.{find-append}
use Rattle.std.proofs.lemmas.Grind.{reverse_onto}
use Rattle.std.proofs.lemmas.Bool.{eqb-true, cond-false, cases_Bool, and_parts}
use Rattle.model.specs.declared.names.Name.{Name}
use Rattle.model.specs.declared.blocks.SideBlock.{SideBlock}
use Rattle.model.specs.declared.blocks.BackboneBlock.{BackboneBlock}
use Rattle.model.specs.declared.blocks.Block.{Block}
use Rattle.model.specs.declared.blocks.Block.TheVariants.{Side, Backbone}
use Rattle.model.specs.Names.{same}
use Rattle.model.specs.Blocks.{referred}
use Rattle.model.specs.Books.{Book, Whole, genesis, is_backbone, of_view, sides_held, parent_held}
use Rattle.model.specs.Chains.{OnChain, here, up, last_listed}
use Rattle.model.proofs.Naming.{same_true}
use Rattle.listing.specs.Steps.{Walked, backbone_of}
use Rattle.model.proofs.Clash.{clash}

-- what is on the chain, and is not its top, is on the chain of the parent
pub chain_step : (K : Book) (t n : Name) (b : BackboneBlock) → OnChain K t n → (t ≡ n → ⊥) → K t ≡ Some (Backbone b) → OnChain K b.parent.name n
chain_step K t n b (here {n = x}) ne e = absurd (ne refl)
chain_step K t n b (up {t = x} {n = y} c p rest) ne e =
    let cb : c ≡ b = cc in
    subst (λ (z : BackboneBlock). OnChain K z.parent.name y) cb rest

-- the chain goes on below its end
pub chain_more : (K : Book) {t n : Name} (b : BackboneBlock) → OnChain K t n → K n ≡ Some (Backbone b) → OnChain K t b.parent.name
chain_more K b here e = up b e here
chain_more K b (up c p rest) e = up c p (chain_more K b rest e)

-- a name that the book lacks has only itself on its chain
pub chain_none : (K : Book) (t n : Name) → OnChain K t n → (t ≡ n → ⊥) → K t ≡ None → ⊥
chain_none K t n (here {n = x}) ne e = ne refl
chain_none K t n (up {t = x} {n = y} c p rest) ne e = clash cc

pub chain_side : (K : Book) (t n : Name) (s : SideBlock) → OnChain K t n → (t ≡ n → ⊥) → K t ≡ Some (Side s) → ⊥
chain_side K t n s (here {n = x}) ne e = ne refl
chain_side K t n s (up {t = x} {n = y} c p rest) ne e = clash cc

-- what is read there
pub backbone_there : (o : Option Block) (b : BackboneBlock) → backbone_of o ≡ Some b → o ≡ Some (Backbone b)
backbone_there None b e = clash cc
backbone_there (Some (Side s)) b e = clash cc
backbone_there (Some (Backbone c)) b e = cc

-- a chain from a name with no backbone block has only the name itself
chain_ends : (K : Book) (t n : Name) (o : Option Block) → K t ≡ o → backbone_of o ≡ None → OnChain K t n → (t ≡ n → ⊥) → ⊥
chain_ends K t n None e none on ne = chain_none K t n on ne e
chain_ends K t n (Some (Side s)) e none on ne = chain_side K t n s on ne e
chain_ends K t n (Some (Backbone b)) e none on ne = clash cc

-- the walk has come down to a block, and the last listed one, if it is on the chain, is below
abbrev pub Walking : Book → Name → Name → Option BackboneBlock → Type 0
Walking K target last r = MatchOption r
    (OnChain K target last → ⊥)
    (λ b. (K b.name ≡ Some (Backbone b)) × OnChain K target b.name × (OnChain K target last → OnChain K b.name last) × (b.name ≡ last → ⊥))

-- how far a walk can go: a parent is of a lower view
abbrev pub height : Option BackboneBlock → ℕ
height None = 0
height (Some b) = suc b.view

module _ (K : Book) (w : Whole K) where
  module _ (target last : Name) where
    -- from a name on the chain to its block
    walk_to : (n : Name) (r : Option BackboneBlock) → r ≡ backbone_of (K n) → OnChain K target n → (OnChain K target last → OnChain K n last) → (n ≡ last → ⊥) → Walking K target last r
    walk_to n None e on below ne = λ o. chain_ends K n last (K n) refl (sym e) (below o) ne
    walk_to n (Some b) e on below ne =
        let held = backbone_there (K n) b (sym e) in
        let nm : b.name ≡ n = w.named n (Backbone b) held in
        (subst (λ x. K x ≡ Some (Backbone b)) (sym nm) held, subst (OnChain K target) (sym nm) on, (λ o. subst (λ x. OnChain K x last) (sym nm) (below o)), λ same_name. ne (sym nm ∙ same_name))

    pub walk_start : (r : Option BackboneBlock) → r ≡ backbone_of (K target) → (target ≡ last → ⊥) → Walking K target last r
    walk_start r e ne = walk_to target r e here (λ o. o) ne

    pub walk_on : (b : BackboneBlock) (r : Option BackboneBlock) → Walking K target last (Some b) → (b.parent.name ≡ last → ⊥) → r ≡ backbone_of (K b.parent.name) → Walking K target last r
    walk_on b r at ne e = walk_to b.parent.name r e (chain_more K b at.1 at.0) (λ o. chain_step K b.name last b (at.2 o) at.3 at.0) ne

    pub walk_found : (b : BackboneBlock) → Walking K target last (Some b) → b.parent.name ≡ last → Walked K target last (Some b)
    walk_found b at e = record { held = at.0; on = at.1; above = e }

  -- the parent's block is of a lower view
  view_there : (v : ℕ) (o : Option Block) (c : BackboneBlock) → of_view v o ≡ true → o ≡ Some (Backbone c) → c.view ≡ v
  view_there v o c h e = eqb-true c.view v (sym (ap (of_view v) e) ∙ h)

  parent_view : (b c : BackboneBlock) → parent_held K b.parent ≡ true → K b.parent.name ≡ Some (Backbone c) → c.view ≡ b.parent.view
  parent_view b c h e = elim (cases_Bool (same b.parent.name genesis)) [
    | inl t ↦
        let g = ap K (sym (same_true b.parent.name genesis t)) in
        let none = w.no_genesis in
        let z : ◌≡◌ {A = ℕ} 0 1 = cc in
        absurd (omega arith)
    | inr f ↦
        view_there b.parent.view (K b.parent.name) c
        (sym (cond-false (same b.parent.name genesis) (eqb b.parent.view 0) (of_view b.parent.view (K b.parent.name)) f) ∙ h) e
  ]

  pub walk_lower : (b : BackboneBlock) (r : Option BackboneBlock) → K b.name ≡ Some (Backbone b) → r ≡ backbone_of (K b.parent.name) → height r < suc b.view
  walk_lower b None held e = omega arith
  walk_lower b (Some c) held e =
      let p = (and_parts (sides_held K (referred b.references)) (parent_held K b.parent) (w.held b.name (Backbone b) held)).1 in
      let v = parent_view b c p (backbone_there (K b.parent.name) c (sym e)) in
      let l = w.lower b.name b held in
      omega arith

-- whether a backbone block is read there
backbone_there_is : (o : Option Block) → is_some (backbone_of o) ≡ is_backbone o
backbone_there_is None = refl
backbone_there_is (Some (Side s)) = refl
backbone_there_is (Some (Backbone b)) = refl

last_of_one : (b : Bool) (n first : Name) (o : Option Name) → unwrap_or (option_or o (cond b (Some n) None)) first ≡ unwrap_or o (cond b n first)
last_of_one true n first None = refl
last_of_one false n first None = refl
last_of_one b n first (Some m) = refl

-- the last of some lines that is a backbone block is the first of them from behind
pub last_found : (K : Book) (L : List Name) (first : Name) → unwrap_or (find (λ n. is_some (backbone_of (K n))) (reverse L)) first ≡ fold (λ last n. cond (is_backbone (K n)) n last) first L
last_found K [] first = refl
last_found K (n ∷ L) first =
    let t = λ (m : Name). is_some (backbone_of (K m)) in
    let turned : reverse (n ∷ L) ≡ reverse L ++ (n ∷ []) = reverse_onto L n [] in
    ap (λ l. unwrap_or (find t l) first) turned ∙ ap (λ o. unwrap_or o first) (find-append t (reverse L) (n ∷ []))
    ∙ last_of_one (t n) n first (find t (reverse L)) ∙ ap (λ b. unwrap_or (find t (reverse L)) (cond b n first)) (backbone_there_is (K n))
    ∙ last_found K L (cond (is_backbone (K n)) n first)

-- a backbone block that is listed is the last one listed
pub last_push : (K : Book) (L : List Name) (b : BackboneBlock) → K b.name ≡ Some (Backbone b) → last_listed K (L ++ (b.name ∷ [])) ≡ b.name
last_push K L b held =
    let step = λ (last n : Name). cond (is_backbone (K n)) n last in
    fold-append step genesis L (b.name ∷ []) ∙ ap (λ o. cond (is_backbone o) b.name (fold step genesis L)) held
