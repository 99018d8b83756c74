use Rattle.std.proofs.Common.{◌+◌, ◌*◌, refl, ◌∙◌, arith, rules}
use Rattle.scene_structures.proofs.Prelude.{same_both, same_desk}
use Rattle.scene_structures.proofs.RunsDown.{runs_none, runs_on, runs_over}
use Rattle.scene_structures.proofs.Others.{others_both, others_none, others_round}
use Rattle.scene_structures.proofs.tree.rounds.run_down.Goals as goal

pub loop-pile-init : goal.loop-pile-init
loop-pile-init g c =
    let r = c.requires in
    record {
      carries = r.carries;
      others = others_none c.args.desk.now c.args.pile.now.endings.items;
      bag = refl;
      held = refl;
      same = same_desk c.args.desk.now;
      vacant = r.vacant;
      room = r.room;
      few = r.few;
      few_rounds = omega arith;
      most = λ i. (c.members.ensures i + 1) * c.blocks-blocks.ensures i;
      blocks = search rules;
      runs = runs_none c.args.desk.now c.args.pile.now.endings.items c.args.ended.now.slots.items;
    }

pub loop-pile-preserved : goal.loop-pile-preserved
loop-pile-preserved g c =
    let i = c.loop-pile.invariant in let r = c.round-round.ensures in let t = c.take.ensures in
    let on = c.is_over.ensures.not (search rules) in
    let blocks = i.blocks in let more = t.few in let few = on.2 in let most = on.1 in
    record {
      carries = r.carries;
      others = others_both i.others
          (others_round c.loop-pile.desk c.round-round.new.desk _ _ c.round-round.result i.carries.ends r.elsewhere r.round);
      bag = r.bag ∙ i.bag;
      held = r.held ∙ i.held;
      same = same_both c.args.desk.now c.loop-pile.desk c.round-round.new.desk i.same r.desk;
      vacant = t.vacant;
      room = t.room _ i.room;
      few = omega arith;
      few_rounds = omega arith;
      most = i.most;
      blocks = i.blocks;
      runs = runs_on c.args.desk.now c.loop-pile.desk c.round-round.new.desk c.args.pile.now.endings.items c.loop-pile.pile.endings.items
          c.round-round.new.self.endings.items c.args.ended.now.slots.items c.loop-pile.ended.slots.items c.take.new.self.slots.items
          c.loop-pile.ended.vacant.items c.loop-pile.rounds c.round-round.result i.runs r.round t.steps i.vacant on.0;
    }

pub returns-clause-rounds : goal.returns-clause-rounds
returns-clause-rounds g c =
    let i = c.loop-pile.invariant in
    runs_over c.args.domain.now.shape c.blocks-blocks.result ((c.members.result + 1) * c.blocks-blocks.result) c.args.desk.now c.loop-pile.desk
    c.args.pile.now.endings.items
    c.loop-pile.pile.endings.items c.args.ended.now.slots.items c.loop-pile.ended.slots.items c.loop-pile.ended.vacant.items c.loop-pile.rounds i.blocks
    i.most i.runs i.few_rounds i.vacant (c.is_over.ensures.over c.loop-pile-test.false)

pub take-requires-clause-room : goal.take-requires-clause-room
take-requires-clause-room g c =
    let on = c.is_over.ensures.not (search rules) in let few = on.2 in let blocks = c.loop-pile.invariant.blocks in
    (c.args.domain.now.shape.blocks + 1, c.loop-pile.invariant.room, omega arith)
