use Rattle.std.proofs.Common.{refl}
use Rattle.scene_structures.proofs.Calls.{room_of}
use Rattle.scene_structures.proofs.stack.Stack.new.Goals as goal

pub returns-clause-stands : goal.returns-clause-stands
returns-clause-stands g c =
    (refl, record { cell = c.requires.cell; room = room_of c.args.domain.now c.in_ok-pile.pile c.in_ok-pile.ensures.carries })
