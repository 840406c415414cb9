use Rattle.std.proofs.Common.{sym, ◌∙◌, rules}
use Rattle.words.proofs.Wholes.{no_type}
use Rattle.words.proofs.reading.announced.Goals as goal

pub returns-in_err-kind : goal.returns-in_err-kind
returns-in_err-kind c =
    let e = no_type _ c.args.count c.try_from.result c.try_from.ensures (sym c.ok.ensures.value ∙ c.in_err-kind.was) in
    search rules
