-- What no call of a station undoes: views and heights do not fall, and in one view a vote stays; and what each call states. Assumes nothing.
use Rattle.std.specs.Prelude.{◌≡◌, ℕ, ◌≤◌, cond, List, [], ◌∷◌, ◌++◌, Some, None, Ok, Option, Result, ◌≢◌}
use Rattle.model.specs.declared.names.Name.{Name}
use Rattle.model.specs.declared.votes.SecondVote.TheVariants.{Waiting}
use Rattle.model.specs.declared.statements.Certificate.{Certificate}
use Rattle.model.specs.declared.statements.Claim.{Claim}
use Rattle.model.specs.declared.statements.Offer.{Offer}
use Rattle.model.specs.declared.statements.OfferClaim.{OfferClaim}
use Rattle.model.specs.declared.statements.Voices.{Voices}
use Rattle.model.specs.declared.states.Probed.{Probed}
use Rattle.model.specs.declared.states.Probed.TheVariants.{NoAdopt}
use Rattle.model.specs.declared.refusals.Refusal.{Refusal}
use Rattle.model.specs.Books.{Book}
use Rattle.model.specs.Broadcasts.{Meaning, Asking, Hears}
use Rattle.model.specs.Stations.{Core, Desk, Post, Statement, voice, claim, numbers, view, height, adopts, posted, messages, statements}
use Rattle.model.specs.Certifying.{CertificateCall}
use Rattle.model.specs.Claiming.{Grounds, ClaimCall, GroundCall}
use Rattle.model.specs.Passing.{probe_posts, leave_posts, ProbeCall, LeaveCall}
use Rattle.model.specs.Voting.{offer_posts, voices_posts, OfferCall, VoicesCall, gave}

-- c' may come after c
pub record Follows (c c' : Core) : Type 0 where
  pub same_numbers : numbers c' ≡ numbers c
  pub views : view c ≤ view c'
  pub heights : height c ≤ height c'
  pub targets : c.state.target.view ≤ c'.state.target.view
  -- in one view a first vote stays, and so does a second vote that is given or shut
  pub first : view c' ≡ view c → (x : Name) → c.cast.first ≡ Some x → c'.cast.first ≡ Some x
  pub second : view c' ≡ view c → (c.cast.second ≢ Waiting) → c'.cast.second ≡ c.cast.second

-- it does so after every call, accepted or refused, whatever the broadcast
pub record CallsFollow : Type 0 where
  pub claim : (c : Core) (x : Claim) (c' : Core) (r : Result (Unit {0}) Refusal) → ClaimCall c x c' r → Follows c c'
  pub certificate : (c : Core) (K : Book) (x : Certificate) (c' : Core) (r : Result (Unit {0}) Refusal) → CertificateCall c K x c' r → Follows c c'
  pub ground : (c c' : Core) (r : Result Grounds Refusal) → GroundCall (λ g. g) c c' r → Follows c c'
  pub probe : (d d' : Desk) (r : Result Probed Refusal) → ProbeCall d d' r → Follows d.core d'.core
  pub leave : (d d' : Desk) (r : Result ℕ Refusal) → LeaveCall d d' r → Follows d.core d'.core
  pub offer : (d : Desk) (K : Book) (o : Offer) (cs : List OfferClaim) (d' : Desk) (r : Result (Unit {0}) Refusal)
      → OfferCall d K o cs d' r → Follows d.core d'.core
  pub voices : (fits free : Asking) (d : Desk) (K : Book) (o : Voices) (d' : Desk) (r : Result (Unit {0}) Refusal)
      → VoicesCall fits free Hears d K o d' r → Follows d.core d'.core

-- So a station votes once: a first vote is cast only where there was none, and a second vote given only where it was waiting.
pub record VotesOnce : Type 0 where
  pub cast : (d : Desk) (K : Book) (o : Offer) (cs : List OfferClaim) (d' : Desk) (u : Unit {0})
      → OfferCall d K o cs d' (Ok u) → d.core.cast.first ≡ None
  -- the station's height has then reached the view
  pub given : (fits free : Asking) (d : Desk) (K : Book) (o : Voices) (d' : Desk) (u : Unit {0}) (y : Name)
      → VoicesCall fits free Hears d K o d' (Ok u) → gave d.core.cast.second d'.core.cast.second ≡ Some y
      → (d.core.cast.second ≡ Waiting) × (view d'.core ≤ height d'.core)
  -- and it waits no more after a Probe that does not adopt
  pub shut : (d d' : Desk) (h : ℕ) → ProbeCall d d' (Ok (NoAdopt h)) → d'.core.cast.second ≢ Waiting

-- What a call sends is in the outbox afterwards, behind what it held and in this order, and nothing else is touched by it.
pub record SentInOrder : Type 0 where
  pub out : (ps : List Post) (d : Desk) → (posted ps d).out ≡ d.out ++ messages ps
  pub room : (ps : List Post) (d : Desk) → (posted ps d).room ≡ d.room
  pub core : (ps : List Post) (d : Desk) → (posted ps d).core ≡ d.core

-- a second vote's voice, where one was given
abbrev pub second_voice : ℕ → Option Name → List Statement
second_voice v None = []
second_voice v (Some y) = voice 2 v y ∷ []

-- What each call states: Offer the first vote, Voices a second vote given and no mask that is passed on, Probe a claim where it does not
-- adopt, Leave nothing.
pub record WhatIsStated : Type 0 where
  pub offer : (c : Core) (o : Offer) → statements (offer_posts c o) ≡ voice 1 (view c) o.name ∷ []
  pub voices : (c : Core) (o : Voices) (m : Meaning) (send : Option ℕ)
      → statements (voices_posts c o m send) ≡ second_voice m.view (gave c.cast.second m.second)
  pub probe : (c : Core) → statements (probe_posts c) ≡ cond (adopts c) [] (claim (view c) (height c) ∷ [])
  pub leave : (c : Core) → statements (leave_posts c) ≡ []
