use Rattle.std.proofs.Common.{sym, ap, ◌∙◌}
use Rattle.step_table.proofs.Prelude.{kind_in_state, model_state, Site}
use Rattle.step_table.proofs.tables.Members.{member_kind}
use Rattle.step_table.proofs.memory.table.Table.kind_in.Goals as goal

pub returns-in-Member : goal.returns-in-Member
returns-in-Member c =
    c.kind_of_member.ensures ∙ sym (member_kind c.args.self.now c.in-Member.member)
    ∙ ap (λ (x : Site). kind_in_state (model_state c.args.self.now) x) (sym c.in-Member.is)
