use Rattle.std.proofs.Common.{subst, sym, ap, ◌∙◌}
use Rattle.shared_handle.proofs.Prelude.{ClearsOf, Kind, kind_of_member, Shape}
use Rattle.shared_handle.proofs.Beside.{one_more}
use Rattle.shared_handle.proofs.endings.Ending.clear_next.Goals as goal

pub clear_owner-left-requires-clause-kind : goal.clear_owner-left-requires-clause-kind
clear_owner-left-requires-clause-kind g c =
    let x = c.args.self.now in ap (λ (z : Shape). kind_of_member z.owners x.cleared) c.requires.domain.shape ∙ sym c.in-Owner.ensures

pub clear_weak-left-requires-clause-kind : goal.clear_weak-left-requires-clause-kind
clear_weak-left-requires-clause-kind g c =
    let x = c.args.self.now in ap (λ (z : Shape). kind_of_member z.owners x.cleared) c.requires.domain.shape ∙ sym c.in-Weak.ensures

pub returns-in-Owner-clause-clears : goal.returns-in-Owner-clause-clears
returns-in-Owner-clause-clears g c =
    let x = c.args.self.now in let t = c.clear_owner-left in
    let kind = ap (λ (z : Shape). kind_of_member z.owners x.cleared) c.requires.domain.shape ∙ sym c.in-Owner.ensures in
    subst (λ (k : Kind). ClearsOf k c.args.desk.now x x.cleared t.result t.new.desk) (sym kind) (t.ensures.clears, t.ensures.stock)

pub returns-in-Owner-clause-ends : goal.returns-in-Owner-clause-ends
returns-in-Owner-clause-ends g c =
    let t = c.clear_owner-left in one_more t.new.desk c.args.self.now t.ensures.ends c.requires.some t.ensures.cleared

pub returns-in-Weak-clause-clears : goal.returns-in-Weak-clause-clears
returns-in-Weak-clause-clears g c =
    let x = c.args.self.now in let t = c.clear_weak-left in
    let kind = ap (λ (z : Shape). kind_of_member z.owners x.cleared) c.requires.domain.shape ∙ sym c.in-Weak.ensures in
    subst (λ (k : Kind). ClearsOf k c.args.desk.now x x.cleared t.result t.new.desk) (sym kind) t.ensures.clears

pub returns-in-Weak-clause-ends : goal.returns-in-Weak-clause-ends
returns-in-Weak-clause-ends g c =
    let t = c.clear_weak-left in one_more t.new.desk c.args.self.now t.ensures.ends c.requires.some t.ensures.cleared
