-- Each body is the words that its numbers were read from.
use Rattle.std.proofs.Common.{◌≡◌, ℕ, ◌-◌, ◌≤◌, true, List, [], ◌∷◌, ◌++◌, length, get_or, take, drop, ◌⊎◌, inl, inr, sym, ap, ◌∙◌, subst, arith, rules}
use Rattle.std.proofs.lemmas.List.{drop_all, take_rest}
use Rattle.model.specs.declared.names.Name.{Name}
use Rattle.model.specs.declared.blocks.Entry.TheVariants.{Bind as Binds, Release as Releases}
use Rattle.words.specs.Layouts.{counts, kinds_of, IsSideLayout}
use Rattle.words.specs.Messages.{HoldsEntry}
use Rattle.words.specs.Words.{kind, value, small, right_kinds, word, name_words, names_words, voices_words}
use Rattle.words.specs.declared.layouts.Layout.{Layout}
use Rattle.words.specs.declared.layouts.Layout.TheVariants.{Bind, Release, Backbone, Offer, Voices, Certificate, Claim}
use Rattle.words.proofs.Fronts.{kind_at, word_at, word_again, firsts, firsts_from, kinds_of_rest, all_in_front}

-- the words behind the first n
abbrev pub rest : ℕ → List ℕ → List ℕ
rest n ws = take (length ws - n) (drop n ws)

-- the words of a layout, as many as it takes and of its kinds
pub record LaidAs (l : Layout) (ws : List ℕ) : Type 0 where
  pub counted : counts l (length ws) ≡ true
  pub judged : right_kinds (kinds_of l) ws ≡ true

pub laid_as : (l k : Layout) (ws : List ℕ) → l ≡ k → counts l (length ws) ≡ true → right_kinds (kinds_of l) ws ≡ true → LaidAs k ws
laid_as l k ws e c j = subst (λ (x : Layout). LaidAs x ws) e (record { counted = c; judged = j })

-- voices and certificates lie alike
pub laid_as_voices : (l : Layout) (ws : List ℕ) → (l ≡ Voices) ⊎ (l ≡ Certificate) → counts l (length ws) ≡ true → right_kinds (kinds_of l) ws ≡ true → LaidAs Voices ws
laid_as_voices l ws (inl e) c j = laid_as l Voices ws e c j
laid_as_voices l ws (inr e) c j = let b = laid_as l Certificate ws e c j in record { counted = b.counted; judged = b.judged }

pub bind_entry :
    (l : Layout) (ws : List ℕ) (s c f : ℕ) → l ≡ Bind → counts l (length ws) ≡ true → right_kinds (kinds_of l) ws ≡ true → s ≡ value (get_or ws 5 0) → c ≡ value (get_or ws 6 0) → f ≡ value (get_or ws 7 0)
    → small s ≡ true → small c ≡ true → small f ≡ true → HoldsEntry l (Binds s c f) (rest 8 ws) ws
bind_entry l ws s c f is counted judged es ec ef hs hc hf =
    let b = laid_as l Bind ws is counted judged in
    let h : 8 ≤ length ws = search (rules, b.counted) in
    let w = word_at (kinds_of Bind) ws in
    let w5 = w 5 s b.judged (omega arith) es in
    let wc = w 6 c b.judged (omega arith) ec in
    let wf = w 7 f b.judged (omega arith) ef in
    let e = firsts_from 3 5 ws (omega arith) in
    let r = take_rest ws 8 in
    record { layout = sym is; whole = search rules; same = cc; few = search (rules, b.counted); fours = search (rules, b.counted); kinds = kinds_of_rest 8 (kinds_of Bind) ws b.judged }

pub release_entry :
    (l : Layout) (ws : List ℕ) (s f : ℕ) → l ≡ Release → counts l (length ws) ≡ true → right_kinds (kinds_of l) ws ≡ true → s ≡ value (get_or ws 5 0) → f ≡ value (get_or ws 6 0)
    → small s ≡ true → small f ≡ true → HoldsEntry l (Releases s f) (rest 7 ws) ws
release_entry l ws s f is counted judged es ef hs hf =
    let b = laid_as l Release ws is counted judged in
    let h : 7 ≤ length ws = search (rules, b.counted) in
    let w = word_at (kinds_of Release) ws in
    let w5 = w 5 s b.judged (omega arith) es in
    let wf = w 6 f b.judged (omega arith) ef in
    let e = firsts_from 2 5 ws (omega arith) in
    let r = take_rest ws 7 in
    record { layout = sym is; whole = search rules; same = cc; few = search (rules, b.counted); fours = search (rules, b.counted); kinds = kinds_of_rest 7 (kinds_of Release) ws b.judged }

-- the first five words of a side block are parts of its name and its author
pub record SideFront (ws : List ℕ) : Type 0 where
  pub long : 5 ≤ length ws
  pub a : kind (get_or ws 0 0) ≡ 3
  pub b : kind (get_or ws 1 0) ≡ 3
  pub c : kind (get_or ws 2 0) ≡ 3
  pub d : kind (get_or ws 3 0) ≡ 3
  pub author : kind (get_or ws 4 0) ≡ 4

pub side_front : (l : Layout) (ws : List ℕ) → IsSideLayout l → counts l (length ws) ≡ true → right_kinds (kinds_of l) ws ≡ true → SideFront ws
side_front l ws (inl e) c j =
    let b = laid_as l Bind ws e c j in
    let h : 5 ≤ length ws = search (rules, b.counted) in
    let k = kind_at (kinds_of Bind) ws in
    record { long = h; a = k 0 b.judged (omega arith); b = k 1 b.judged (omega arith); c = k 2 b.judged (omega arith); d = k 3 b.judged (omega arith); author = k 4 b.judged (omega arith) }
side_front l ws (inr e) c j =
    let b = laid_as l Release ws e c j in
    let h : 5 ≤ length ws = search (rules, b.counted) in
    let k = kind_at (kinds_of Release) ws in
    record { long = h; a = k 0 b.judged (omega arith); b = k 1 b.judged (omega arith); c = k 2 b.judged (omega arith); d = k 3 b.judged (omega arith); author = k 4 b.judged (omega arith) }

pub side_body :
    (ws : List ℕ) (n : Name) (a : ℕ) (es : List ℕ) → SideFront ws → name_words n ≡ firsts 0 4 ws → a ≡ value (get_or ws 4 0) → es ≡ drop 5 ws
    → name_words n ++ word 4 a ∷ es ≡ ws
side_body ws n a es f en ea ee =
    let w : word 4 a ≡ get_or ws 4 0 = ap (λ v. word 4 v) ea ∙ word_again (get_or ws 4 0) 4 f.author in
    let e = firsts_from 5 0 ws f.long in
    cc

pub backbone_body :
    (ws : List ℕ) (n p : Name) (a v u : ℕ) (ns : List Name) → right_kinds (kinds_of Backbone) ws ≡ true → 11 ≤ length ws
    → name_words n ≡ firsts 0 4 ws → a ≡ value (get_or ws 4 0) → v ≡ value (get_or ws 5 0) → u ≡ value (get_or ws 6 0)
    → name_words p ≡ firsts 7 4 ws → names_words ns ≡ rest 11 ws
    → name_words n ++ word 4 a ∷ word 2 v ∷ word 2 u ∷ (name_words p ++ names_words ns) ≡ ws
backbone_body ws n p a v u ns r l en ea ev eu ep er =
    let w = word_at (kinds_of Backbone) ws in
    let wa = w 4 a r (omega arith) ea in
    let wv = w 5 v r (omega arith) ev in
    let wu = w 6 u r (omega arith) eu in
    let e = all_in_front 11 ws l in
    cc

pub offer_body :
    (ws : List ℕ) (n : Name) (s v g m : ℕ) → right_kinds (kinds_of Offer) ws ≡ true → 8 ≤ length ws
    → s ≡ value (get_or ws 0 0) → v ≡ value (get_or ws 1 0) → name_words n ≡ firsts 2 4 ws → g ≡ value (get_or ws 6 0) → m ≡ value (get_or ws 7 0)
    → word 4 s ∷ word 2 v ∷ (name_words n ++ word 10 g ∷ word 5 m ∷ rest 8 ws) ≡ ws
offer_body ws n s v g m r l es ev en eg em =
    let w = word_at (kinds_of Offer) ws in
    let w0 = w 0 s r (omega arith) es in
    let wv = w 1 v r (omega arith) ev in
    let wg = w 6 g r (omega arith) eg in
    let wm = w 7 m r (omega arith) em in
    let e = all_in_front 8 ws l in
    cc

pub voices_body :
    (ws : List ℕ) (n : Name) (g v m : ℕ) → right_kinds (kinds_of Voices) ws ≡ true → length ws ≡ 7
    → g ≡ value (get_or ws 0 0) → v ≡ value (get_or ws 1 0) → name_words n ≡ firsts 2 4 ws → m ≡ value (get_or ws 6 0)
    → voices_words g v n m ≡ ws
voices_body ws n g v m r l eg ev en em =
    let w = word_at (kinds_of Voices) ws in
    let wg = w 0 g r (omega arith) eg in
    let wv = w 1 v r (omega arith) ev in
    let wm = w 6 m r (omega arith) em in
    let h : 7 ≤ length ws = omega arith in
    let e = all_in_front 7 ws h in
    let z : drop 7 ws ≡ [] = drop_all 7 ws (omega arith) in
    let k : rest 7 ws ≡ [] = search (rules, z) in
    cc

pub claim_body :
    (ws : List ℕ) (s v h : ℕ) → right_kinds (kinds_of Claim) ws ≡ true → length ws ≡ 3
    → s ≡ value (get_or ws 0 0) → v ≡ value (get_or ws 1 0) → h ≡ value (get_or ws 2 0)
    → word 4 s ∷ word 2 v ∷ word 2 h ∷ [] ≡ ws
claim_body ws s v h r l es ev eh =
    let w = word_at (kinds_of Claim) ws in
    let w0 = w 0 s r (omega arith) es in
    let wv = w 1 v r (omega arith) ev in
    let wh = w 2 h r (omega arith) eh in
    let g : 3 ≤ length ws = omega arith in
    let e = all_in_front 3 ws g in
    let z : drop 3 ws ≡ [] = drop_all 3 ws (omega arith) in
    let k : rest 3 ws ≡ [] = search (rules, z) in
    cc
