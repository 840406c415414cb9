-- The words that say why a line of a script cannot be read. Assumes nothing.
use Rattle.std.specs.Prelude.{ℕ, List, codes}
use Rattle.bench.specs.declared.faults.Fault.{Fault}
use Rattle.bench.specs.declared.faults.Fault.TheVariants.{UnknownCommand, NotANumber, NotAName, NotAClaim, NotAWord, TooManyReferences, TooManyClaims, TooManyWords, TooMuchSpace, NotAMessage, NoMemory}

abbrev pub reason : Fault → List ℕ
reason UnknownCommand = codes "there is no such command"
reason NotANumber = codes "a number is wanted, decimal or hexadecimal behind 0x, of at most 32 bits"
reason NotAName = codes "a name is wanted, HIGH:LOW, each half a number of at most 64 bits"
reason NotAClaim = codes "a claim is wanted, STATION:HEIGHT, each a number of at most 32 bits"
reason NotAWord = codes "a word is wanted, hexadecimal and of at most 32 bits"
reason TooManyReferences = codes "a block has at most four references"
reason TooManyClaims = codes "at most 60 claims can be written down"
reason TooManyWords = codes "at most 80 words can be read"
reason TooMuchSpace = codes "the space is a number of words, at most 80"
reason NotAMessage = codes "a message is wanted: side, back, offer, voices, certificate, claim, probe or leave, with its numbers"
reason NoMemory = codes "there is no memory for this line"
