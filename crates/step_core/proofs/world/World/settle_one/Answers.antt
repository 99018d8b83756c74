use Rattle.std.proofs.Common.{sym, ◌∙◌}
use Rattle.step_core.proofs.runs.Calls.{settled_none, settled_one}
use Rattle.step_core.proofs.world.World.settle_one.Goals as goal

pub returns-then-is_owing-clause-adds : goal.returns-then-is_owing-clause-adds
returns-then-is_owing-clause-adds c =
    settled_one c.args.number c.args.self.now c.finish_call.new.self c.args.steps.now.items c.finish_call.new.steps.items
    (sym c.is_owing.ensures ∙ c.if-is_owing.true) c.finish_call.ensures.adds

pub returns-else-is_owing-clause-adds : goal.returns-else-is_owing-clause-adds
returns-else-is_owing-clause-adds c =
    settled_none c.args.number c.args.self.now c.args.steps.now.items (sym c.is_owing.ensures ∙ c.if-is_owing.false)
