use Rattle.model.proofs.Derived.{names, equal_names, before, references, entries, parents, sides, backbones, blocks, equal_blocks}
use Rattle.model.proofs.theorems.comparisons_stand.Goals as goal

pub returns : goal.returns
returns c = record {
  names = names;
  equal_names = equal_names;
  before = before;
  references = references;
  entries = entries;
  parents = parents;
  sides = sides;
  backbones = backbones;
  blocks = blocks;
  equal_blocks = equal_blocks;
}
