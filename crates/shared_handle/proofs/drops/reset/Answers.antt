use Rattle.shared_handle.proofs.Prelude.{IsParting}
use Rattle.shared_handle.proofs.Goings.{does_none}
use Rattle.shared_handle.proofs.Piles.{elsewhere_none}
use Rattle.shared_handle.proofs.drops.reset.Goals as goal

pub returns-in-None-clause-parting : goal.returns-in-None-clause-parting
returns-in-None-clause-parting g c = does_none IsParting c.args.desk.now

pub returns-in-None-clause-elsewhere : goal.returns-in-None-clause-elsewhere
returns-in-None-clause-elsewhere g c = elsewhere_none c.args.desk.now c.args.pile.now.endings.items
