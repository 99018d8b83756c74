use Rattle.std.proofs.Common.{length}
use Rattle.shared_handle.proofs.pile.Pile.close.Given as goal

abbrev pub decreases-loop-ending : goal.decreases-loop-ending
decreases-loop-ending g l = length l.endings.items
