use Rattle.scene_structures.proofs.Calls.{room_of}
use Rattle.scene_tests.proofs.calls.kits.pile_in.Goals as goal

pub returns-in-Ok : goal.returns-in-Ok
returns-in-Ok c = record { none = c.in-Ok.ensures.empty; room = room_of c.args.domain.now c.in-Ok.pile c.in-Ok.ensures.carries }
