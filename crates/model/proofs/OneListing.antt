-- The listing of a chain is one: of a block, over books that agree, and along the chain.
use Rattle.std.proofs.Common.{◌≡◌, ℕ, true, List, [], ◌∷◌, ◌++◌, Some, None, Option, sym, refl, ap, ◌∙◌, subst, inl, inr, arith}
use Rattle.std.proofs.lemmas.Bool.{both_ways, not_from_true, and_parts, or_cases}
use Rattle.std.proofs.lemmas.List.{append-nil, append_assoc}
use Rattle.model.specs.declared.names.Name.{Name}
use Rattle.model.specs.declared.blocks.SideBlock.{SideBlock}
use Rattle.model.specs.declared.blocks.BackboneBlock.{BackboneBlock}
use Rattle.model.specs.declared.blocks.Block.{Block}
use Rattle.model.specs.declared.blocks.Block.TheVariants.{Side, Backbone}
use Rattle.model.specs.Names.{same}
use Rattle.model.specs.Blocks.{referred}
use Rattle.model.specs.Books.{Book, Whole, genesis, is_side, sides_held, parent_held}
use Rattle.model.specs.Orders.{Before, Lawful}
use Rattle.model.specs.Listing.{has, Reached, direct, onward, First, Lines, done, next}
use Rattle.model.specs.Chains.{OnChain, here, up, Listing, none, more, Agree, OneListing, ListingsBegin, ListingsStay}
use Rattle.model.proofs.Naming.{cases_name, same_true}
use Rattle.std.proofs.lemmas.Bool.{false≢true}

pub side_there : (o : Option Block) → is_side o ≡ true → (s : SideBlock) × (o ≡ Some (Side s))
side_there None e = absurd (false≢true e)
side_there (Some (Side s)) e = (s, refl)
side_there (Some (Backbone b)) e = absurd (false≢true e)

-- a name among held ones is that of a side block
pub held_there : (K : Book) (names : List Name) (n : Name) → sides_held K names ≡ true → has names n ≡ true → (s : SideBlock) × (K n ≡ Some (Side s))
held_there K [] n h e = absurd (false≢true e)
held_there K (r ∷ rs) n h e =
    let p = and_parts (is_side (K r)) (sides_held K rs) h in
    elim (or_cases (same r n) (has rs n) e) [
      | inl t ↦ side_there (K n) (subst (λ x. is_side (K x) ≡ true) (same_true r n t) p.0)
      | inr f ↦ held_there K rs n p.1 f
    ]

-- what references lead to is held
module _ (K : Book) (w : Whole K) (start : List Name) (held : sides_held K start ≡ true) where
  pub reached_held : {n : Name} → Reached K start n → (s : SideBlock) × (K n ≡ Some (Side s))
  reached_held (direct r) = held_there K start _ held r
  reached_held (onward {m} {n} s p e r) = held_there K (referred s.references) n (w.held m (Side s) e) r

-- of one block, in one book
module _ (before : Before) (law : Lawful before) (K : Book) (w : Whole K) (start : List Name) where
  one_first : (L : List Name) (x y : Name) → First before K start L x → First before K start L y → x ≡ y
  one_first L x y p q = elim (cases_name x y) [
    | inl e ↦ e
    | inr ne ↦
        let xy = p.least y q.block q.held q.reached q.new q.ready (λ e. ne (sym e)) in
        let yx = q.least x p.block p.held p.reached p.new p.ready ne in
        let nm : p.block.name ≡ q.block.name → ⊥ = λ e. ne (sym (w.named x (Side p.block) p.held) ∙ e ∙ w.named y (Side q.block) q.held) in
        absurd (both_ways _ (law.apart p.block q.block nm ∙ not_from_true _ yx) xy)
  ]

  pub one_lines : {L : List Name} {xs ys : List Name} → Lines before K start L xs → Lines before K start L ys → xs ≡ ys
  one_lines (done f) (done g) = refl
  one_lines (done f) (next p ls) = absurd (both_ways _ p.new (f _ p.reached))
  one_lines (next p ls) (done g) = absurd (both_ways _ p.new (g _ p.reached))
  one_lines {L} (next {x} {xs} p ls) (next {x = y} {xs = ys} q ms) =
      let e = one_first L x y p q in
      let rest = one_lines ls (subst (λ n. Lines before K start (L ++ (n ∷ [])) ys) (sym e) ms) in
      ap (λ n. n ∷ xs) e ∙ ap (λ zs. y ∷ zs) rest

-- a book that agrees with another on the names of both leads to the same blocks
module _ (K K' : Book) (start : List Name) (agree : Agree K K') (w' : Whole K') (held' : sides_held K' start ≡ true) where
  block_there : {n : Name} → Reached K' start n → (s : SideBlock) → K n ≡ Some (Side s) → K' n ≡ Some (Side s)
  block_there {n} p s e =
      let t = reached_held K' w' start held' p in
      let q = agree n (Side s) (Side t.0) e t.1 in
      t.1 ∙ ap (λ b. Some b) (sym q)

  reached_there : {n : Name} → Reached K start n → Reached K' start n
  reached_there (direct r) = direct r
  reached_there (onward s p e r) =
      let q = reached_there p in
      onward s q (block_there q s e) r

module _ (before : Before) (K K' : Book) (start : List Name) (agree : Agree K K') (w : Whole K) (held : sides_held K start ≡ true) (w' : Whole K') (held' : sides_held K' start ≡ true) where
  agree_back : Agree K' K
  agree_back n b c p q = sym (agree n c b q p)

  first_there : (L : List Name) (x : Name) → First before K start L x → First before K' start L x
  first_there L x p =
      let r = reached_there K K' start agree w' held' p.reached in
      record {
        block = p.block;
        held = block_there K K' start agree w' held' r p.block p.held;
        reached = r;
        new = p.new;
        ready = p.ready;
        least = λ m t e q new ready ne.
            let s = reached_there K' K start agree_back w held q in
            p.least m t (block_there K' K start agree_back w held s t e) s new ready ne;
      }

  pub lines_there : {L : List Name} {xs : List Name} → Lines before K start L xs → Lines before K' start L xs
  lines_there (done f) = done (λ n p. f n (reached_there K' K start agree_back w held p))
  lines_there {L} (next {x} p ls) = next (first_there L x p) (lines_there ls)

not_genesis : (K : Book) → Whole K → (n : Name) (b : BackboneBlock) → n ≡ genesis → K n ≡ Some (Backbone b) → ⊥
not_genesis K w n b e p =
    let q = ap K e in
    let g = w.no_genesis in
    let z : ◌≡◌ {A = ℕ} 0 1 = cc in
    omega arith

-- what a backbone block of the book refers to is held
pub backbone_sides : (K : Book) → Whole K → (n : Name) (b : BackboneBlock) → K n ≡ Some (Backbone b) → sides_held K (referred b.references) ≡ true
backbone_sides K w n b e = (and_parts (sides_held K (referred b.references)) (parent_held K b.parent) (w.held n (Backbone b) e)).0

module _ (before : Before) (law : Lawful before) (K K' : Book) (w : Whole K) (w' : Whole K') (agree : Agree K K') where
  same_listing : {L L' : List Name} {n : Name} → Listing before K L n → Listing before K' L' n → L ≡ L'
  same_listing (none e) (none f) = refl
  same_listing {n} (none e) (more c q rest' lines') = absurd (not_genesis K' w' n c e q)
  same_listing {n} (more b p rest lines) (none f) = absurd (not_genesis K w n b f p)
  same_listing {n} (more {L} {xs} b p rest lines) (more {L = M} {xs = ys} c q rest' lines') =
      let bc : b ≡ c = let x = agree n (Backbone b) (Backbone c) p q in cc in
      let p' = subst (λ (x : BackboneBlock). K n ≡ Some (Backbone x)) bc p in
      let below = subst (λ (x : BackboneBlock). Listing before K L x.parent.name) bc rest in
      let lm : L ≡ M = same_listing below rest' in
      let l1 = subst (λ (x : BackboneBlock). Lines before K (referred x.references) L xs) bc lines in
      let l2 = lines_there before K K' (referred c.references) agree w (backbone_sides K w n c p') w' (backbone_sides K' w' n c q) l1 in
      let l3 = subst (λ l. Lines before K' (referred c.references) l xs) lm l2 in
      let same = one_lines before law K' w' (referred c.references) l3 lines' in
      ap (λ l. l ++ (xs ++ (n ∷ []))) lm ∙ ap (λ l. M ++ (l ++ (n ∷ []))) same

  begins : {L M : List Name} {n t : Name} → Listing before K L n → OnChain K' t n → Listing before K' M t → (rest : List Name) × (M ≡ L ++ rest)
  begins {L} c here m = ([], sym (same_listing c m) ∙ sym (append-nil L))
  begins {L} {n} {t} c (up b p on) (none e) = absurd (not_genesis K' w' t b e p)
  begins {L} {n} {t} c (up b p on) (more {L = M} {xs = ys} d q rest lines) =
      let bd : b ≡ d = cc in
      let r = begins c (subst (λ (x : BackboneBlock). OnChain K' x.parent.name n) bd on) rest in
      (r.0 ++ (ys ++ (t ∷ [])), ap (λ l. l ++ (ys ++ (t ∷ []))) r.1 ∙ append_assoc L r.0 (ys ++ (t ∷ [])))

pub one_listing : OneListing
one_listing before law K K' w w' agree n L L' p q = same_listing before law K K' w w' agree p q

pub listings_begin : ListingsBegin
listings_begin before law K K' w w' agree n t L M c m on = begins before law K K' w w' agree c on m

module _ (before : Before) (K K' : Book) (w : Whole K) (w' : Whole K') (grows : (n : Name) (b : Block) → K n ≡ Some b → K' n ≡ Some b) where
  stays : {L : List Name} {n : Name} → Listing before K L n → Listing before K' L n
  stays (none e) = none e
  stays {n} (more b p rest lines) =
      let agree : Agree K K' = λ m x y e f. let g = grows m x e in cc in
      let p' = grows n (Backbone b) p in
      more b p' (stays rest) (lines_there before K K' (referred b.references) agree w (backbone_sides K w n b p) w' (backbone_sides K' w' n b p') lines)

pub listings_stay : ListingsStay
listings_stay before K K' w w' grows L n l = stays before K K' w w' grows l
