-- What a census tells of a block, with the block (own).
use Rattle.control_word.specs.declared.packed.counts.Counts.{Counts}
use Rattle.control_word.specs.declared.place.Block.{Block}
use Rattle.control_block.specs.Census.{CensusNow, owners_in, weaks_in}

abbrev pub told_of : CensusNow → Block → Block × Counts
told_of c b = (b, record { owners = owners_in c b.0; weaks = weaks_in c b.0 })
