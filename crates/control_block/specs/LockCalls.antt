-- What a lock's step found.
use Rattle.control_word.specs.Histories.{leads}
use Rattle.control_word.specs.State.{State}
use Rattle.control_block.specs.Desks.{DeskNow}
use Rattle.control_block.specs.LockStepKinds.{earlier}
use Rattle.control_block.specs.Rule.{opening_of}

module _ {V : Type 0} where
  -- the state just before the newest event that the desk has seen (own)
  abbrev pub state_before : DeskNow V → State
  state_before d = leads (opening_of d.shape) (earlier d.seen)
