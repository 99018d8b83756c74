use Rattle.std.proofs.Common.{[], reverse, length, sym, ap, append-nil, arith}
use Rattle.script_runner.proofs.workers.requirements.collect.Goals as goal

pub loop-worker-init : goal.loop-worker-init
loop-worker-init g c = (
  omega (arith, c.requires.shares.1, ap length c.requires.shares.0),
  omega (arith, c.requires.lines.1, ap length c.requires.lines.0),
  ([], sym (append-nil c.args.workers.now.items), ap reverse c.requires.shares.0, ap reverse c.requires.lines.0),
)
