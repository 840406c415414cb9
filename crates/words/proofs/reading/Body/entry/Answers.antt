use Rattle.std.proofs.Common.{rules}
use Rattle.words.proofs.Bodies.{bind_entry, release_entry}
use Rattle.words.proofs.reading.Body.entry.Goals as goal

pub returns-in-Bind-len8-up : goal.returns-in-Bind-len8-up
returns-in-Bind-len8-up c =
    let self = c.args.self in
    bind_entry self.layout self.words.now _ _ _ c.in-Bind-len8-up.is-0 self.counted self.judged
    c.value_of.ensures.0 c.value_of-in-Bind-len8-up.ensures.0 c.value_of-in-Bind-len8-up-2.ensures.0 (search rules) (search rules) (search rules)

pub returns-in-Release-len7-up : goal.returns-in-Release-len7-up
returns-in-Release-len7-up c =
    let self = c.args.self in
    release_entry self.layout self.words.now _ _ c.in-Release-len7-up.is-0 self.counted self.judged
    c.value_of-in-Release-len7-up.ensures.0 c.value_of-in-Release-len7-up-2.ensures.0 (search rules) (search rules)
