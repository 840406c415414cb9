-- Blocks of one content are equal.
use Rattle.std.proofs.Common.{◌≡◌, ℕ, Bool, true, false, ◌&&◌, eqb, List, [], ◌∷◌, Decides, sym, refl, ap, ◌∙◌, subst}
use Rattle.std.proofs.lemmas.Bool.{eqb-true, eq-eqb, and_parts, and_from}
use Rattle.model.specs.Names.{same}
use Rattle.model.specs.Blocks.{referred, same_names, same_entry, same_parent, same_side, same_backbone, same_block}
use Rattle.model.specs.declared.names.Name.{Name}
use Rattle.model.specs.declared.blocks.References.{References}
use Rattle.model.specs.declared.blocks.References.TheVariants.{Empty, One, Two, Three, Four}
use Rattle.model.specs.declared.blocks.Entry.{Entry}
use Rattle.model.specs.declared.blocks.Entry.TheVariants.{Bind, Release}
use Rattle.model.specs.declared.blocks.SideBlock.{SideBlock}
use Rattle.model.specs.declared.blocks.Parent.{Parent}
use Rattle.model.specs.declared.blocks.BackboneBlock.{BackboneBlock}
use Rattle.model.specs.declared.blocks.Block.{Block}
use Rattle.model.specs.declared.blocks.Block.TheVariants.{Side, Backbone}
use Rattle.model.proofs.Naming.{same_true, same_refl}
use Rattle.std.proofs.lemmas.Bool.{false≢true}

never : {X : Type 0} → false ≡ true → X
never e = absurd (false≢true e)

names_true : (xs ys : List Name) → same_names xs ys ≡ true → xs ≡ ys
names_true [] [] e = refl
names_true [] (y ∷ ys) e = never e
names_true (x ∷ xs) [] e = never e
names_true (x ∷ xs) (y ∷ ys) e =
    let p = and_parts (same x y) (same_names xs ys) e in
    let h = same_true x y p.0 in
    let t = names_true xs ys p.1 in
    cc

names_refl : (xs : List Name) → same_names xs xs ≡ true
names_refl [] = refl
names_refl (x ∷ xs) = and_from (same x x) (same_names xs xs) (same_refl x) (names_refl xs)

-- the cases leave no two forms for one row of names
back : List Name → References
back [] = Empty
back (a ∷ []) = One a
back (a ∷ (b ∷ [])) = Two a b
back (a ∷ (b ∷ (c ∷ []))) = Three a b c
back (a ∷ (b ∷ (c ∷ (d ∷ _)))) = Four a b c d

back_again : (r : References) → back (referred r) ≡ r
unfolding back
back_again Empty = refl
back_again (One a) = refl
back_again (Two a b) = refl
back_again (Three a b c) = refl
back_again (Four a b c d) = refl

references_true : (r s : References) → same_names (referred r) (referred s) ≡ true → r ≡ s
references_true r s e = sym (back_again r) ∙ ap back (names_true (referred r) (referred s) e) ∙ back_again s

entry_true : (a b : Entry) → same_entry a b ≡ true → a ≡ b
entry_true (Bind s c f) (Bind t d g) e =
    let p = and_parts (eqb s t) (eqb c d && eqb f g) e in
    let q = and_parts (eqb c d) (eqb f g) p.1 in
    let x = eqb-true s t p.0 in
    let y = eqb-true c d q.0 in
    let z = eqb-true f g q.1 in
    cc
entry_true (Bind s c f) (Release t g) e = never e
entry_true (Release s f) (Bind t d g) e = never e
entry_true (Release s f) (Release t g) e =
    let p = and_parts (eqb s t) (eqb f g) e in
    let x = eqb-true s t p.0 in
    let y = eqb-true f g p.1 in
    cc

entry_refl : (a : Entry) → same_entry a a ≡ true
entry_refl (Bind s c f) = and_from (eqb s s) (eqb c c && eqb f f) (eq-eqb s s refl) (and_from (eqb c c) (eqb f f) (eq-eqb c c refl) (eq-eqb f f refl))
entry_refl (Release s f) = and_from (eqb s s) (eqb f f) (eq-eqb s s refl) (eq-eqb f f refl)

side : Name → ℕ → Entry → References → SideBlock
side n a e r = record { name = n; author = a; entry = e; references = r }

side_true : (a b : SideBlock) → same_side a b ≡ true → a ≡ b
unfolding side
side_true a b e =
    let p = and_parts (same a.name b.name) _ e in
    let q = and_parts (eqb a.author b.author) _ p.1 in
    let r = and_parts (same_entry a.entry b.entry) _ q.1 in
    ap (λ n. side n a.author a.entry a.references) (same_true a.name b.name p.0)
    ∙ ap (λ n. side b.name n a.entry a.references) (eqb-true a.author b.author q.0)
    ∙ ap (λ x. side b.name b.author x a.references) (entry_true a.entry b.entry r.0)
    ∙ ap (side b.name b.author b.entry) (references_true a.references b.references r.1)

side_refl : (a : SideBlock) → same_side a a ≡ true
side_refl a =
    and_from (same a.name a.name) _ (same_refl a.name)
    (and_from (eqb a.author a.author) _ (eq-eqb a.author a.author refl) (and_from (same_entry a.entry a.entry) _ (entry_refl a.entry) (names_refl (referred a.references))))

parent : ℕ → Name → Parent
parent v n = record { view = v; name = n }

parent_true : (a b : Parent) → same_parent a b ≡ true → a ≡ b
unfolding parent
parent_true a b e =
    let p = and_parts (eqb a.view b.view) (same a.name b.name) e in
    ap (λ v. parent v a.name) (eqb-true a.view b.view p.0) ∙ ap (parent b.view) (same_true a.name b.name p.1)

backbone : Name → ℕ → ℕ → Parent → References → BackboneBlock
backbone n a v p r = record { name = n; author = a; view = v; parent = p; references = r }

backbone_true : (a b : BackboneBlock) → same_backbone a b ≡ true → a ≡ b
unfolding backbone
backbone_true a b e =
    let p = and_parts (same a.name b.name) _ e in
    let q = and_parts (eqb a.author b.author) _ p.1 in
    let r = and_parts (eqb a.view b.view) _ q.1 in
    let s = and_parts (same_parent a.parent b.parent) _ r.1 in
    ap (λ n. backbone n a.author a.view a.parent a.references) (same_true a.name b.name p.0)
    ∙ ap (λ n. backbone b.name n a.view a.parent a.references) (eqb-true a.author b.author q.0)
    ∙ ap (λ v. backbone b.name b.author v a.parent a.references) (eqb-true a.view b.view r.0)
    ∙ ap (λ x. backbone b.name b.author b.view x a.references) (parent_true a.parent b.parent s.0)
    ∙ ap (backbone b.name b.author b.view b.parent) (references_true a.references b.references s.1)

backbone_refl : (a : BackboneBlock) → same_backbone a a ≡ true
backbone_refl a =
    and_from (same a.name a.name) _ (same_refl a.name)
    (and_from (eqb a.author a.author) _ (eq-eqb a.author a.author refl)
    (and_from (eqb a.view a.view) _ (eq-eqb a.view a.view refl)
    (and_from (same_parent a.parent a.parent) _ (and_from (eqb a.parent.view a.parent.view) _ (eq-eqb a.parent.view a.parent.view refl) (same_refl a.parent.name)) (names_refl (referred a.references)))))

pub block_true : (a b : Block) → same_block a b ≡ true → a ≡ b
block_true (Side a) (Side b) e = ap (λ x. Side x) (side_true a b e)
block_true (Side a) (Backbone b) e = never e
block_true (Backbone a) (Side b) e = never e
block_true (Backbone a) (Backbone b) e = ap (λ x. Backbone x) (backbone_true a b e)

pub block_refl : (a : Block) → same_block a a ≡ true
block_refl (Side a) = side_refl a
block_refl (Backbone a) = backbone_refl a

-- a test that is the sameness of blocks decides their equality
pub decides : (a b : Block) (r : Bool) → r ≡ same_block a b → Decides r (a ≡ b)
decides a b r e = ((λ t. block_true a b (sym e ∙ t)), λ q. e ∙ subst (λ x. same_block a x ≡ true) q (block_refl a))
