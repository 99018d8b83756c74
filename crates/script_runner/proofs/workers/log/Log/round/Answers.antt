use Rattle.std.proofs.Common.{ℕ, sym, subst}
use Rattle.script_runner.proofs.Prelude.{HasScriptMembers, IsVacant, SettlesPartly, TableNow}
use Rattle.script_runner.proofs.Allowances.{stays_round}
use Rattle.script_runner.proofs.Comparisons as comparisons
use Rattle.script_runner.proofs.Noted as noted
use Rattle.script_runner.proofs.workers.log.Log.round.Goals as goal

pub returns-in-None-clause-goes : goal.returns-in-None-clause-goes
returns-in-None-clause-goes g c =
    let s = c.args.self.now in
    subst (λ u. SettlesPartly c.args.hand c.args.statement c.args.table.now s u s) (sym c.in-None.ensures.same)
    (noted.none_settled c.args.hand c.args.statement c.args.table.now s)

pub returns-clause-goes : goal.returns-clause-goes
returns-clause-goes g c =
    let s = c.args.self.now in
    let x = c.note.new.self in
    let t = c.top_of.new.table in
    let u = c.round-round.new.self in
    let told = c.in-Some.ensures in
    let vacant : IsVacant t.slots c.args.hand =
    subst (λ (q : TableNow ℕ). IsVacant q.slots c.args.hand) (sym told.same)
    (comparisons.must_settle c.args.hand c.args.table.now c.in-Some.field-0 told.told c.requires.vacant) in
    let stands = c.assert_invariant.ensures in
    subst (λ q. SettlesPartly c.args.hand c.args.statement q s c.told_of-ended.new.table x) told.same
    (subst (λ q. SettlesPartly c.args.hand c.args.statement t s q x) (sym c.told_of-ended.ensures.same)
    (noted.round_noted c.args.hand c.args.statement t s u x
    (subst (λ (q : TableNow ℕ). HasScriptMembers q.desk.shape) (sym told.same) c.requires.vacant.members)
    (comparisons.hand_vacant c.args.hand t stands.fits stands.stands stands.ends vacant)
    c.round-round.ensures.slots c.round-round.result c.round-round.ensures.round c.told_of-ended.result c.told_of-ended.ensures.told
    c.note.ensures.notes))

pub returns-clause-limits : goal.returns-clause-limits
returns-clause-limits g c =
    let t = c.top_of.new.table in
    let u = c.round-round.new.self in
    comparisons.limits_over c.args.table.now t u c.told_of-ended.new.table c.in-Some.ensures.same c.told_of-ended.ensures.same
    (stays_round t.desk t.endings c.round-round.result u.desk u.endings c.round-round.ensures.round)
