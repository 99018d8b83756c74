use Rattle.std.proofs.Common.{◌-◌, [], refl, ◌∙◌}
use Rattle.script_runner.proofs.Prelude.{objects_asked, refuses}
use Rattle.script_runner.proofs.Allowances.{stays_dealt}
use Rattle.script_runner.proofs.Noted as noted
use Rattle.script_runner.proofs.Noting.{dealt_refuses}
use Rattle.script_runner.proofs.Played as played
use Rattle.script_runner.proofs.workers.log.Log.act.Goals as goal

pub returns-clause-goes : goal.returns-clause-goes
returns-clause-goes g c todo =
    let s = c.args.self.now in
    let t = c.args.table.now in
    let v = c.deal-went.new.table in
    let x = c.deal-went.result in
    let few = dealt_refuses c.args.hand t v s.taken c.args.task.act x c.deal-went.ensures.dealt in
    played.act_played c.args.hand c.args.task.statement t t v refl c.requires.settled c.settle.new.table c.args.task.act x s c.add_made.new.self
    c.note.new.self c.settle.new.self c.deal-went.ensures.dealt few
    (noted.noted_from _ s c.add_made.new.self (objects_asked c.args.task.act - refuses x.answer) [] c.add_made.ensures.notes refl refl refl refl)
    c.note.ensures.notes c.settle.ensures.settled (c.note.ensures.taken ∙ c.add_made.ensures.taken) c.settle.ensures.taken todo

pub returns-clause-limits : goal.returns-clause-limits
returns-clause-limits g c =
    let s = c.args.self.now in
    let stays = stays_dealt c.args.hand c.args.table.now s.taken c.args.task.act c.deal-went.result c.deal-went.new.table c.deal-went.ensures.dealt in
    let l = c.settle.ensures.limits in (l.0 ∙ stays.shape, l.1 ∙ stays.allowance)

pub add_made-requires : goal.add_made-requires
add_made-requires g c =
    dealt_refuses c.args.hand c.args.table.now c.deal-went.new.table c.args.self.now.taken c.args.task.act c.deal-went.result
    c.deal-went.ensures.dealt
