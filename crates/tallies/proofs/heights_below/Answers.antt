use Rattle.std.proofs.Common.{◌≡◌, ℕ, ◌&&◌, ltb, List, [], ◌∷◌, refl, ap, ◌∙◌, rules, tests}
use Rattle.std.specs.List.{list_all}
use Rattle.std.proofs.lemmas.Iterator.{YieldsList-from_slice}
use Rattle.std.proofs.lemmas.Iterator.Search.{all_from_yields_List}
use Rattle.model.specs.declared.statements.OfferClaim.{OfferClaim}
use Rattle.model.specs.Claims.{heights_below}
use Rattle.tallies.proofs.heights_below.Goals as goal

below_all : (u : ℕ) (cs : List OfferClaim) → list_all (λ claim. ltb claim.height u) cs ≡ heights_below u cs
unfolding heights_below
below_all u [] = refl
below_all u (c ∷ cs) = ap (λ b. ltb c.height u && b) (below_all u cs)

pub returns : goal.returns
returns c =
    all_from_yields_List _ _ _ _ c.all.ensures.ran (YieldsList-from_slice c.args.claims.now cc) (λ claim b q k. search (rules, tests))
    ∙ below_all c.args.limit c.args.claims.now
