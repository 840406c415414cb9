-- The calls by which a station votes, Offer and Voices: questions, effect, promise. Assumes nothing.
use Rattle.std.specs.Prelude.{◌≡◌, ℕ, ◌+◌, ◌-◌, Bool, false, cond, ◌&&◌, ◌||◌, List, [], ◌∷◌, ◌++◌, length, Some, None, Option, Result, ◌==◌, nat_eq, nat_le}
use Rattle.model.specs.declared.names.Name.{Name}
use Rattle.model.specs.declared.blocks.BackboneBlock.{BackboneBlock}
use Rattle.model.specs.declared.blocks.Block.{Block}
use Rattle.model.specs.declared.blocks.Block.TheVariants.{Side, Backbone}
use Rattle.model.specs.declared.votes.Grade.{Grade}
use Rattle.model.specs.declared.votes.Grade.TheVariants.{One, Two}
use Rattle.model.specs.declared.votes.SecondVote.{SecondVote}
use Rattle.model.specs.declared.votes.SecondVote.TheVariants.{Waiting, Given, Shut}
use Rattle.model.specs.declared.statements.Offer.{Offer}
use Rattle.model.specs.declared.statements.OfferClaim.{OfferClaim}
use Rattle.model.specs.declared.statements.Voices.{Voices}
use Rattle.model.specs.declared.statements.Certificate.{Certificate}
use Rattle.model.specs.declared.states.Sent.TheVariants as sends
use Rattle.model.specs.declared.refusals.Refusal.{Refusal}
use Rattle.model.specs.Questions.{Question, Answered}
use Rattle.model.specs.Quorums.{stations, leader, quorum}
use Rattle.model.specs.Votes.{graded}
use Rattle.model.specs.Ledgers.{under}
use Rattle.model.specs.Broadcasts.{Meaning, Asking, Hearing, ledger, complete, offer_questions, voted, hear_questions}
use Rattle.model.specs.Books.{Book, of_view}
use Rattle.model.specs.Claims.{claimants, heights_below}
use Rattle.model.specs.Ranges.{station_fits, some_stations, view_fits, grade_fits, name_fits}
use Rattle.model.specs.Certifying.{taking}
use Rattle.model.specs.Stations.{Core, Desk, Post, passed, numbers, view, two_free, with_state, with_cast, with_core, posted, own_voice}

-- ---- Offer

-- p holds of the backbone block, where it is one
abbrev pub backbone_so : Option Block → (BackboneBlock → Bool) → Bool
backbone_so None p = false
backbone_so (Some (Side s)) p = false
backbone_so (Some (Backbone b)) p = p b

-- the claims are of the view before, so their heights are below it
abbrev pub offered_form : Core → Offer → List OfferClaim → List Question
offered_form c o claims =
    (2, station_fits (numbers c) o.station)
    ∷ (3, (view_fits o.view && (name_fits o.name && grade_fits o.grade)) && (nat_le (length claims) 28 && heights_below (o.view - 1) claims))
    ∷ (4, nat_le (view c) o.view)
    ∷ (5, nat_le o.view (view c))
    ∷ []

-- the sender leads the view and is the block's author
unfoldable pub from_leader : Core → Offer → Option Block → Bool
from_leader c o held = leader (numbers c) o.view == o.station && backbone_so held (λ b. nat_eq b.author o.station)

-- the parent is genesis, or the mask holds a quorum
unfoldable pub parent_certified : Core → Offer → Option Block → Bool
parent_certified c o held = backbone_so held (λ b. (b.parent.view == 0) || quorum (numbers c) o.mask)

-- the parent is of the view before, or a quorum claims to know no certificate above it
unfoldable pub skips_claimed : Core → Offer → List OfferClaim → Option Block → Bool
skips_claimed c o claims held =
    backbone_so held (λ b. nat_le o.view (b.parent.view + 1) || quorum (numbers c) (claimants (stations (numbers c)) b.parent.view claims))

abbrev pub offered_fit : Desk → Book → Offer → List OfferClaim → List Question
offered_fit d K o claims =
    (6, of_view o.view (K o.name))
    ∷ (9, from_leader d.core o (K o.name))
    ∷ (10, parent_certified d.core o (K o.name))
    ∷ (12, skips_claimed d.core o claims (K o.name))
    ∷ offer_questions d.core.cast ++ (16, two_free d) ∷ []

-- the form of the offer, then its block and the station's vote
unfoldable pub offered_questions : Desk → Book → Offer → List OfferClaim → List Question
offered_questions d K o claims = offered_form d.core o claims ++ offered_fit d K o claims

-- the first vote is cast, and stated as a voice of grade 1
abbrev pub offer_posts : Core → Offer → List Post
offer_posts c o = own_voice c 1 o.name ∷ []

abbrev pub OfferCall : Desk → Book → Offer → List OfferClaim → Desk → Result (Unit {0}) Refusal → Type 0
OfferCall d K o claims d' = Answered (offered_questions d K o claims) d d'
    (λ _. d' ≡ posted (offer_posts d.core o) (with_core (with_cast (voted d.core.cast o.name) d.core) d))

-- ---- Voices

-- the grade of a number in range
abbrev pub grade_at : ℕ → Grade
grade_at n = cond (n == 2) Two One

abbrev pub voices_form : Core → Voices → List Question
voices_form c o =
    (2, some_stations (numbers c) o.mask)
    ∷ (3, grade_fits o.grade && (view_fits o.view && name_fits o.name))
    ∷ (4, nat_le (view c) o.view)
    ∷ (5, nat_le o.view (view c))
    ∷ []

abbrev pub voices_fit : Asking → Asking → Desk → Book → Voices → List Question
voices_fit fits free d K o =
    (6, of_view o.view (K o.name))
    ∷ hear_questions fits free d.core.cast (grade_at o.grade) o.name o.mask ++ (16, two_free d) ∷ []

-- the form of the voices, then their block and the broadcast's own questions
unfoldable pub voices_questions : Asking → Asking → Desk → Book → Voices → List Question
voices_questions fits free d K o = voices_form d.core o ++ voices_fit fits free d K o

-- the second vote that was given between two moments
abbrev pub gave : SecondVote → SecondVote → Option Name
gave Waiting (Given x) = Some x
gave Waiting Waiting = None
gave Waiting Shut = None
gave (Given y) w = None
gave Shut w = None

-- the certificate of that grade for a name, with its ledger's mask
abbrev pub certified : Meaning → Grade → Name → Certificate
certified m g x = record { grade = graded g; view = m.view; name = x; mask = under x (ledger m g) }

abbrev pub certifying : Grade → Name → Core → Core
certifying g x c = with_state (taking (certified c.cast g x) c.state) c

-- a second vote that was given is certified in grade 1, and stated as a voice of grade 2
abbrev pub giving_posts : Core → Option Name → List Post
giving_posts c None = []
giving_posts c (Some y) = own_voice c 2 y ∷ []

abbrev pub giving : Option Name → Core → Core
giving None c = c
giving (Some y) c = certifying One y c

-- a view that is complete for the name is certified in grade 2
abbrev pub completing : Name → Core → Core
completing x c = cond (complete c.cast x) (certifying Two x c) c

-- a mask that a Hear handed over is passed on, under the grade and name heard
abbrev pub relay_posts : Core → Voices → Option ℕ → List Post
relay_posts c o None = []
relay_posts c o (Some k) = passed (sends.Voices (record { grade = o.grade; view = view c; name = o.name; mask = k })) ∷ []

-- All that an accepted Voices does, by the meaning after its Hear and the mask that this handed over:
-- the second vote's certificate is taken up, then that of a complete view; the vote is sent first, the mask last.
abbrev pub voices_posts : Core → Voices → Meaning → Option ℕ → List Post
voices_posts c o m send = giving_posts (with_cast m c) (gave c.cast.second m.second) ++ relay_posts (with_cast m c) o send

abbrev pub voicing : Core → Voices → Meaning → Core
voicing c o m = completing o.name (giving (gave c.cast.second m.second) (with_cast m c))

pub record Voiced (hears : Hearing) (d : Desk) (o : Voices) (d' : Desk) : Type 0 where
  pub send : Option ℕ
  pub heard : hears d.core.cast (grade_at o.grade) o.name o.mask send d'.core.cast
  pub after : d' ≡ posted (voices_posts d.core o d'.core.cast send) (with_core (voicing d.core o d'.core.cast) d)

abbrev pub VoicesCall : Asking → Asking → Hearing → Desk → Book → Voices → Desk → Result (Unit {0}) Refusal → Type 0
VoicesCall fits free hears d K o d' = Answered (voices_questions fits free d K o) d d' (λ _. Voiced hears d o d')
