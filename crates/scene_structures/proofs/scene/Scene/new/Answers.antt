use Rattle.scene_structures.proofs.Calls.{room_of}
use Rattle.scene_structures.proofs.scene.Scene.new.Goals as goal

pub returns-clause-serves : goal.returns-clause-serves
returns-clause-serves g c =
    record { none = c.in_ok-pile.ensures.empty; room = room_of c.args.domain.now c.in_ok-pile.pile c.in_ok-pile.ensures.carries }
