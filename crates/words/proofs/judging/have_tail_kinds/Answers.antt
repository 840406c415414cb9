use Rattle.std.proofs.Common.{sym, ◌∙◌, rules}
use Rattle.words.proofs.RightKinds.{names_tail, no_tail}
use Rattle.words.proofs.judging.have_tail_kinds.Goals as goal

pub returns-in-Bind : goal.returns-in-Bind
returns-in-Bind c = c.are_name_parts.ensures ∙ sym (names_tail c.args.layout c.args.words.now (search rules) c.requires.0)

pub returns-in_default : goal.returns-in_default
returns-in_default c = sym (no_tail c.args.layout c.args.words.now (search rules) c.requires.0)
