use Rattle.std.proofs.Common.{rules, ap, ◌∙◌}
use Rattle.std.specs.Option.{is_some, unwrap_or}
use Rattle.std.proofs.lemmas.Iterator.Search.{find_from_yields_List}
use Rattle.std.proofs.lemmas.Iterator.Adapters.{YieldsList-from_rev_slice}
use Rattle.model.specs.Books.{genesis}
use Rattle.book.specs.Places.{find}
use Rattle.listing.specs.Steps.{backbone_of}
use Rattle.listing.proofs.Walks.{last_found}
use Rattle.listing.proofs.chain.last_listed.Goals as goal

pub returns : goal.returns
returns c =
    let K = find c.args.shelf.blocks.now in
    let found = find_from_yields_List (λ n. is_some (backbone_of (K n))) _ _ c.find.result c.find.ensures.ran (YieldsList-from_rev_slice c.args.lines.now cc) (λ x b q k. search rules) in
    c.unwrap_or.ensures ∙ ap (λ o. unwrap_or o genesis) (c.copied.ensures ∙ found) ∙ last_found K c.args.lines.now genesis
