-- The questions of Offer and of Voices, each a table in two parts.
use Rattle.std.proofs.Common.{◌≡◌, ℕ, true, List, ◌++◌, Some, None, Option, is_some, sym, refl, ◌∙◌}
use Rattle.model.specs.declared.statements.Offer.{Offer}
use Rattle.model.specs.declared.statements.OfferClaim.{OfferClaim}
use Rattle.model.specs.declared.statements.Voices.{Voices}
use Rattle.model.specs.Questions.{Question, first_no}
use Rattle.model.specs.Books.{Book}
use Rattle.model.specs.Broadcasts.{Asking}
use Rattle.model.specs.Stations.{Desk}
use Rattle.model.specs.Voting.{offered_form, offered_fit, offered_questions, voices_form, voices_fit, voices_questions}
use Rattle.model.proofs.Tables.{first_stands, first_yes}

stands : (a b : List Question) → is_some (first_no a) ≡ true → first_no (a ++ b) ≡ first_no a
stands a b = go (first_no a) refl
  where
    go : (m : Option ℕ) → first_no a ≡ m → is_some m ≡ true → first_no (a ++ b) ≡ first_no a
    go None e h = absurd cc
    go (Some n) e h = first_stands a b n e ∙ sym e

module _ (d : Desk) (K : Book) (o : Offer) (cs : List OfferClaim) where
  pub offer_form : is_some (first_no (offered_form d.core o cs)) ≡ true → first_no (offered_questions d K o cs) ≡ first_no (offered_form d.core o cs)
  unfolding offered_questions
  offer_form = stands (offered_form d.core o cs) (offered_fit d K o cs)

  pub offer_fit : first_no (offered_form d.core o cs) ≡ None → first_no (offered_questions d K o cs) ≡ first_no (offered_fit d K o cs)
  unfolding offered_questions
  offer_fit = first_yes (offered_form d.core o cs) (offered_fit d K o cs)

module _ (fits free : Asking) (d : Desk) (K : Book) (o : Voices) where
  pub voiced_form : is_some (first_no (voices_form d.core o)) ≡ true → first_no (voices_questions fits free d K o) ≡ first_no (voices_form d.core o)
  unfolding voices_questions
  voiced_form = stands (voices_form d.core o) (voices_fit fits free d K o)

  pub voiced_fit : first_no (voices_form d.core o) ≡ None → first_no (voices_questions fits free d K o) ≡ first_no (voices_fit fits free d K o)
  unfolding voices_questions
  voiced_fit = first_yes (voices_form d.core o) (voices_fit fits free d K o)

pub ruleset offer_parts = (offer_form, offer_fit)

pub ruleset voices_parts = (voiced_form, voiced_fit)
