-- What each call of a station leaves as it was: the laws of specs/StationLaws.antt.
use Rattle.std.proofs.Common.{◌≡◌, ℕ, ◌≤◌, Bool, true, false, cond, not, eqb, ltb, ◌⊎◌, List, [], ◌∷◌, ◌++◌, is_some, Some, None, Ok, Err, Option, Result, sym, refl, ap, ◌∙◌, subst, inl, inr, arith}
use Rattle.std.proofs.lemmas.Bool.{ltb-true, ltb-false}
use Rattle.model.specs.declared.names.Name.{Name}
use Rattle.model.specs.declared.votes.Grade.{Grade}
use Rattle.model.specs.declared.votes.Grade.TheVariants.{One, Two}
use Rattle.model.specs.declared.votes.SecondVote.{SecondVote}
use Rattle.model.specs.declared.votes.SecondVote.TheVariants.{Waiting, Given, Shut}
use Rattle.model.specs.declared.votes.Event.TheVariants.{Shutting}
use Rattle.model.specs.declared.statements.Certificate.{Certificate}
use Rattle.model.specs.declared.statements.Claim.{Claim}
use Rattle.model.specs.declared.statements.Offer.{Offer}
use Rattle.model.specs.declared.statements.OfferClaim.{OfferClaim}
use Rattle.model.specs.declared.statements.Voices.{Voices}
use Rattle.model.specs.declared.states.State.{State}
use Rattle.model.specs.declared.states.Probed.{Probed}
use Rattle.model.specs.declared.states.Probed.TheVariants.{Adopt, NoAdopt}
use Rattle.model.specs.declared.refusals.Refusal.{Refusal}
use Rattle.model.specs.Questions.{Question, first_no}
use Rattle.model.specs.Votes.{after}
use Rattle.model.specs.Books.{Book}
use Rattle.model.specs.Broadcasts.{Meaning, Asking, Hearing, Hears, Keeps, complete, closed, voted}
use Rattle.model.specs.Stations.{Core, Desk, Post, view, height, adopts, with_state, with_cast, with_core, posted}
use Rattle.model.specs.Certifying.{higher, taking, CertificateCall}
use Rattle.model.specs.Claiming.{Grounds, keeping, granting, ClaimCall, GroundCall}
use Rattle.model.specs.Passing.{probing, leaving, probe_posts, leave_posts, ProbeCall, LeaveCall}
use Rattle.model.specs.Voting.{offered_questions, offered_form, offered_fit, voices_questions, voices_form, voices_fit, grade_at, gave, certifying, giving, completing, voicing, voices_posts, Voiced, OfferCall, VoicesCall}
use Rattle.model.specs.StationLaws.{Follows, CallsFollow, VotesOnce}
use Rattle.model.proofs.Clash.{clash}

-- ---- tables of questions that are all answered yes

abbrev AllYes : List Question → Type 0
AllYes [] = Unit {0}
AllYes (q ∷ qs) = (q.1 ≡ true) × AllYes qs

yes : (n : ℕ) (b : Bool) (r : Option ℕ) → cond b r (Some n) ≡ None → (b ≡ true) × (r ≡ None)
yes n true r h = (refl, h)
yes n false r h = clash cc

all_yes : (qs : List Question) → first_no qs ≡ None → AllYes qs
all_yes [] h = tt
all_yes (q ∷ qs) h = let p = yes q.0 q.1 (first_no qs) h in (p.0, all_yes qs p.1)

none : (f : Option Name) → not (is_some f) ≡ true → f ≡ None
none None h = refl
none (Some x) h = clash cc

-- ---- steps

posted_core : (ps : List Post) (d : Desk) → (posted ps d).core ≡ d.core
posted_core [] d = refl
posted_core (p ∷ ps) d = posted_core ps _

follow : (c e c' : Core) → c' ≡ e → Follows c e → Follows c c'
follow c e c' h f = subst (λ (x : Core). Follows c x) (sym h) f

restated : (c : Core) (s : State) → height c ≤ s.highest.view → c.state.target.view ≤ s.target.view → Follows c (with_state s c)
restated c s h t = record { same_numbers = refl; views = omega arith; heights = h; targets = t; first = λ _ x e. e; second = λ _ _. refl }

still : (c c' : Core) → c' ≡ c → Follows c c'
still c c' h = follow c (with_state c.state c) c' h (restated c c.state (omega arith) (omega arith))

higher_rises : (a b : Certificate) → (a.view ≤ (higher a b).view) × (b.view ≤ (higher a b).view)
higher_rises a b = go (ltb a.view b.view) refl
  where
    go : (t : Bool) → ltb a.view b.view ≡ t → (a.view ≤ (cond t b a).view) × (b.view ≤ (cond t b a).view)
    go true e = let l = ltb-true a.view b.view e in (omega arith, omega arith)
    go false e = let l = ltb-false a.view b.view e in (omega arith, omega arith)

taking_targets : (x : Certificate) (s : State) → s.target.view ≤ (taking x s).target.view
taking_targets x s = go (eqb x.grade 2)
  where
    go : (t : Bool) → s.target.view ≤ (cond t (higher s.target x) s.target).view
    go true = (higher_rises s.target x).0
    go false = omega arith

taken : (x : Certificate) (c : Core) → Follows c (with_state (taking x c.state) c)
taken x c = restated c (taking x c.state) (higher_rises c.state.highest x).0 (taking_targets x c.state)

-- ---- Probe and Leave

shut_stays : (s : SecondVote) → (s ≡ Waiting → ⊥) → after s Shutting ≡ s
shut_stays Waiting h = absurd (h refl)
shut_stays (Given x) h = refl
shut_stays Shut h = refl

shut_waits_no_more : (s : SecondVote) → after s Shutting ≡ Waiting → ⊥
shut_waits_no_more Waiting h = clash cc
shut_waits_no_more (Given x) h = clash cc
shut_waits_no_more Shut h = clash cc

probed : (c : Core) → Follows c (probing c)
probed c = go (adopts c)
  where
    go : (t : Bool) → Follows c (cond t c (with_cast (closed c.cast) c))
    go true = still c c refl
    go false = record {
      same_numbers = refl;
      views = omega arith;
      heights = omega arith;
      targets = omega arith;
      first = λ _ x e. e;
      second = λ _ h. shut_stays c.cast.second h;
    }

not_waiting : (c : Core) (x : Certificate) (h k : ℕ) (t : Bool) → NoAdopt h ≡ cond t (Adopt x) (NoAdopt k)
    → (cond t c (with_cast (closed c.cast) c)).cast.second ≡ Waiting → ⊥
not_waiting c x h k true e w = clash cc
not_waiting c x h k false e w = shut_waits_no_more c.cast.second w

left : (c : Core) → Follows c (leaving c)
left c = record {
  same_numbers = refl;
  views = omega arith;
  heights = omega arith;
  targets = omega arith;
  first = λ e. absurd (omega arith);
  second = λ e. absurd (omega arith);
}

-- ---- Voices

abbrev Rises : Core → Core → Type 0
Rises c e = (height c ≤ height e) × (c.state.target.view ≤ e.state.target.view)

certifying_rises : (g : Grade) (x : Name) (c : Core) → Rises c (certifying g x c)
certifying_rises g x c = let f = taken (record { grade = _; view = _; name = _; mask = _ }) c in (f.heights, f.targets)

giving_rises : (y : Option Name) (c : Core) → Rises c (giving y c)
giving_rises None c = (omega arith, omega arith)
giving_rises (Some y) c = certifying_rises One y c

completing_rises : (x : Name) (c : Core) → Rises c (completing x c)
completing_rises x c = go (complete c.cast x)
  where
    go : (t : Bool) → Rises c (cond t (certifying Two x c) c)
    go true = certifying_rises Two x c
    go false = (omega arith, omega arith)

voicing_rises : (c : Core) (o : Voices) (m : Meaning) → Rises c (voicing c o m)
voicing_rises c o m =
    let c1 : Core = giving (gave c.cast.second m.second) (with_cast m c) in
    let a = giving_rises (gave c.cast.second m.second) (with_cast m c) in
    let b = completing_rises o.name c1 in
    let a0 : height c ≤ height c1 = a.0 in
    let a1 : c.state.target.view ≤ c1.state.target.view = a.1 in
    let b0 : height c1 ≤ height (voicing c o m) = b.0 in
    let b1 : c1.state.target.view ≤ (voicing c o m).state.target.view = b.1 in
    (omega arith, omega arith)

giving_reaches : (y : Option Name) (x : Name) (c : Core) → y ≡ Some x → view c ≤ height (giving y c)
giving_reaches None x c h = clash cc
giving_reaches (Some y) x c h = (higher_rises c.state.highest _).1

voicing_reaches : (c : Core) (o : Voices) (m : Meaning) (x : Name) → gave c.cast.second m.second ≡ Some x → m.view ≤ height (voicing c o m)
voicing_reaches c o m x h =
    let c1 : Core = giving (gave c.cast.second m.second) (with_cast m c) in
    let a : m.view ≤ height c1 = giving_reaches (gave c.cast.second m.second) x (with_cast m c) h in
    let b : height c1 ≤ height (voicing c o m) = (completing_rises o.name c1).0 in
    omega arith

gave_waiting : (s t : SecondVote) (x : Name) → gave s t ≡ Some x → s ≡ Waiting
gave_waiting Waiting t x h = refl
gave_waiting (Given y) t x h = clash cc
gave_waiting Shut t x h = clash cc

voiced_core : (d : Desk) (o : Voices) (d' : Desk) (w : Voiced Hears d o d') → d'.core ≡ voicing d.core o d'.core.cast
voiced_core d o d' w =
    ap (λ (x : Desk). x.core) w.after
    ∙ posted_core (voices_posts d.core o d'.core.cast w.send) (with_core (voicing d.core o d'.core.cast) d)

spoken : (d : Desk) (o : Voices) (d' : Desk) → Voiced Hears d o d' → Follows d.core d'.core
spoken d o d' w =
    let e = voiced_core d o d' w in
    let r = voicing_rises d.core o d'.core.cast in
    let h = w.heard in
    record {
      same_numbers = h.numbers;
      views = subst (λ (v : ℕ). d.core.cast.view ≤ v) (sym h.view) (omega arith);
      heights = subst (λ (x : Core). height d.core ≤ height x) (sym e) r.0;
      targets = subst (λ (x : Core). d.core.state.target.view ≤ x.state.target.view) (sym e) r.1;
      first = λ _ x k. h.first ∙ k;
      second = λ _ k. stays k h.second;
    }
  where
    stays : {A : Type 0} {s t : SecondVote} → (s ≡ Waiting → ⊥) → (t ≡ s) ⊎ ((s ≡ Waiting) × A) → t ≡ s
    stays k (inl p) = p
    stays k (inr p) = absurd (k p.0)

-- ---- the laws

no_vote : (qs : List Question) (f : Option Name) → first_no qs ≡ None → (AllYes qs → not (is_some f) ≡ true) → f ≡ None
no_vote qs f h k = none f (k (all_yes qs h))

pub votes_once : VotesOnce
unfolding offered_questions
votes_once = record {
  cast = λ d K o cs d' u p. no_vote (offered_form d.core o cs ++ offered_fit d K o cs) d.core.cast.first p.0 (λ y. y.1.1.1.1.1.1.1.1.0);
  given = λ fits free d K o d' u y p g. (
    gave_waiting d.core.cast.second d'.core.cast.second y g,
    subst (λ (x : Core). d'.core.cast.view ≤ height x) (sym (voiced_core d o d' p.1)) (voicing_reaches d.core o d'.core.cast y g),
  );
  shut = λ d d' h p w.
      not_waiting d.core d.core.state.highest h (height d.core) (adopts d.core) p.1.0
      (sym (ap (λ (x : Core). x.cast.second) (ap (λ (x : Desk). x.core) p.1.1 ∙ posted_core (probe_posts d.core) (with_core (probing d.core) d))) ∙ w);
}

offered : (d : Desk) (K : Book) (o : Offer) (cs : List OfferClaim) (d' : Desk) (u : Unit {0}) → OfferCall d K o cs d' (Ok u) → Follows d.core d'.core
offered d K o cs d' u p =
    follow d.core (with_cast (voted d.core.cast o.name) d.core) d'.core (ap (λ (x : Desk). x.core) p.1) (record {
      same_numbers = refl;
      views = omega arith;
      heights = omega arith;
      targets = omega arith;
      first = λ _ x e. let z : ◌≡◌ {A = Option Name} None (Some x) = sym (votes_once.cast d K o cs d' u p) ∙ e in absurd (none_some x z);
      second = λ _ _. refl;
    })
  where
    none_some : (x : Name) → ◌≡◌ {A = Option Name} None (Some x) → ⊥
    none_some x e = clash cc

core_of_still : (d d' : Desk) → d' ≡ d → Follows d.core d'.core
core_of_still d d' h = still d.core d'.core (ap (λ (x : Desk). x.core) h)

claimed : (c : Core) (x : Claim) (c' : Core) (r : Result (Unit {0}) Refusal) → ClaimCall c x c' r → Follows c c'
claimed c x c' (Ok u) p = follow c _ c' p.1 (restated c (keeping x c.state) (omega arith) (omega arith))
claimed c x c' (Err e) p = still c c' p.1

certified : (c : Core) (K : Book) (x : Certificate) (c' : Core) (r : Result (Unit {0}) Refusal) → CertificateCall c K x c' r → Follows c c'
certified c K x c' (Ok u) p = follow c _ c' p.1 (taken x c)
certified c K x c' (Err e) p = still c c' p.1

grounded : (c c' : Core) (r : Result Grounds Refusal) → GroundCall (λ g. g) c c' r → Follows c c'
grounded c c' (Ok g) p = follow c _ c' p.1.1 (restated c (granting c.state) (omega arith) (omega arith))
grounded c c' (Err e) p = still c c' p.1

probes : (d d' : Desk) (r : Result Probed Refusal) → ProbeCall d d' r → Follows d.core d'.core
probes d d' (Ok a) p =
    follow d.core (probing d.core) d'.core
    (ap (λ (x : Desk). x.core) p.1.1 ∙ posted_core (probe_posts d.core) (with_core (probing d.core) d)) (probed d.core)
probes d d' (Err e) p = core_of_still d d' p.1

leaves : (d d' : Desk) (r : Result ℕ Refusal) → LeaveCall d d' r → Follows d.core d'.core
leaves d d' (Ok a) p =
    follow d.core (leaving d.core) d'.core
    (ap (λ (x : Desk). x.core) p.1.1 ∙ posted_core (leave_posts d.core) (with_core (leaving d.core) d)) (left d.core)
leaves d d' (Err e) p = core_of_still d d' p.1

offers : (d : Desk) (K : Book) (o : Offer) (cs : List OfferClaim) (d' : Desk) (r : Result (Unit {0}) Refusal) → OfferCall d K o cs d' r → Follows d.core d'.core
offers d K o cs d' (Ok u) p = offered d K o cs d' u p
offers d K o cs d' (Err e) p = core_of_still d d' p.1

speaks : (fits free : Asking) (d : Desk) (K : Book) (o : Voices) (d' : Desk) (r : Result (Unit {0}) Refusal)
    → VoicesCall fits free Hears d K o d' r → Follows d.core d'.core
speaks fits free d K o d' (Ok u) p = spoken d o d' p.1
speaks fits free d K o d' (Err e) p = core_of_still d d' p.1

pub calls_follow : CallsFollow
calls_follow = record {
  claim = claimed;
  certificate = certified;
  ground = grounded;
  probe = probes;
  leave = leaves;
  offer = offers;
  voices = speaks;
}

-- what a make's own Voices is by the clauses alone
pub any_make : (fits free : Asking) (hears : Hearing) (d : Desk) (K : Book) (o : Voices) (d' : Desk) (r : Result (Unit {0}) Refusal)
    → Keeps fits free hears → VoicesCall fits free hears d K o d' r → VoicesCall fits free Hears d K o d' r
unfolding voices_questions
any_make fits free hears d K o d' (Ok u) keeps p =
    let y = all_yes (voices_form d.core o ++ voices_fit fits free d K o) p.0 in
    let w = p.1 in
    let h = keeps d.core.cast (grade_at o.grade) o.name o.mask w.send d'.core.cast y.1.1.1.1.1.0 y.1.1.1.1.1.1.0 w.heard in
    (p.0, record { send = w.send; heard = h; after = w.after })
any_make fits free hears d K o d' (Err e) keeps p = p
