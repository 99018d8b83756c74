use Rattle.std.proofs.Common.{◌/◌, ℕ, ap}
use Rattle.shared_vec.proofs.Numbers.{eight}
use Rattle.shared_vec.proofs.index.nodes_before.Goals as goal

pub returns : goal.returns
returns c = ap (λ (x : ℕ). c.args.index / x) (eight c.args.level)
