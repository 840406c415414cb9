use Rattle.std.specs.Iterator.Adapters.{enumerate_source, enumerate_count}
use Rattle.model.specs.Blocks.{referred, names_left}
use Rattle.words.proofs.NamesWords.{NamesLeft}
use Rattle.words.proofs.writing.put_names.Given as goal

abbrev pub invariant-loop-i : goal.invariant-loop-i
invariant-loop-i l =
    NamesLeft l.at (referred l.fn.references) l.initial.words l.words (enumerate_count l.i-iterator) (names_left (enumerate_source l.i-iterator))
