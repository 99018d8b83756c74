use Rattle.std.proofs.Common.{◌+◌, drop, sym, subst, arith}
use Rattle.script_runner.proofs.Prelude.{PlaysOn, slice_get_within, stance_after}
use Rattle.script_runner.proofs.Stepping as steps
use Rattle.script_runner.proofs.Suffixes.{suits_at}
use Rattle.script_runner.proofs.workers.log.Log.act_at.Goals as goal

pub act-requires-clause-suits : goal.act-requires-clause-suits
act-requires-clause-suits g c =
    let may = c.requires.going in
    record {
      stance = may.stance;
      arranged = may.arranged;
      suits = (suits_at c.args.kinds.now.items c.args.tasks.now.items may.stance c.args.at c.args.task c.requires.is may.suits).0;
    }

pub overflow_add-result : goal.overflow_add-result
overflow_add-result g c =
    let v = c.args.tasks.now in
    let low = slice_get_within v.items c.args.at c.args.task c.requires.is in
    let long = v.ok in
    let small = v.small in
    omega (arith, low, long, small)

pub returns-clause-goes : goal.returns-clause-goes
returns-clause-goes g c =
    let xs = c.args.tasks.now.items in
    subst (λ l. PlaysOn c.args.hand c.args.table.now l c.args.self.now c.act.new.table (drop (c.args.at + 1) xs) c.act.new.self)
    (sym (steps.drop_at xs c.args.at c.args.task c.requires.is)) (c.act.ensures.goes (drop (c.args.at + 1) xs))

pub returns-clause-going : goal.returns-clause-going
returns-clause-going g c =
    let may = c.requires.going in
    let ks = c.args.kinds.now.items in
    let suits = suits_at ks c.args.tasks.now.items may.stance c.args.at c.args.task c.requires.is may.suits in
    record {
      stance = stance_after ks may.stance c.args.task.act;
      arranged = c.act.ensures.arranged may.stance may.arranged suits.0;
      suits = suits.2;
      settled = c.act.ensures.over;
    }
