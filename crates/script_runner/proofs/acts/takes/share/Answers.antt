use Rattle.std.proofs.Common.{sym, subst}
use Rattle.script_runner.proofs.Prelude.{IsHandleAt}
use Rattle.script_runner.specs.SlotCalls as calls
use Rattle.script_runner.proofs.Acting as law
use Rattle.script_runner.proofs.Granting as granting
use Rattle.script_runner.proofs.Refusals.{handle_there}
use Rattle.script_runner.proofs.acts.takes.share.Goals as goal

pub copy-requires-clause-from : goal.copy-requires-clause-from
copy-requires-clause-from g c =
    let t = c.args.table.now in subst (IsHandleAt t.slots) (sym c.from.ensures) (handle_there t.slots c.args.name c.requires.kind.0 c.requires.kind.1)

pub returns : goal.returns
returns g c =
    let t = c.args.table.now in let u = c.copy.new.self in
    let did : calls.Copies t c.args.name c.args.hand u = subst (λ j. calls.Copies t j c.args.hand u) c.from.ensures c.copy.ensures in
    record {
      acts = law.shared c.args.hand c.args.name t u c.requires.hand c.requires.name did;
      kinds = λ k has. granting.copied_kind c.args.name c.args.hand t u k has did;
    }
