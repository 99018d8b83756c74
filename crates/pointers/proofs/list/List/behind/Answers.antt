use Rattle.std.proofs.Common.{IfErr, IfOk, Option, subst, sym}
use Rattle.pointers.proofs.Prelude.{Known}
use Rattle.pointers.specs.Lists.{Leads, WhyNotLed, behind}
use Rattle.pointers.specs.Sites.{Site}
use Rattle.pointers.proofs.list.List.behind.Goals as goal

pub returns-in-None-clause-led : goal.returns-in-None-clause-led
returns-in-None-clause-led g c =
    let o = g.D.Domain.opened in
    subst (λ (b : Option (Known g.row.D-Value.Denot)). IfOk c.load-in-None.result (Leads o (behind b c.args.self.now)))
    (sym c.in-None.is)
    (subst (λ (s : Site g.row.D-Value.Denot). IfOk c.load-in-None.result (Leads o s)) c.self.view_is
    c.load-in-None.ensures.loaded)

pub returns-in-None-clause-refused : goal.returns-in-None-clause-refused
returns-in-None-clause-refused g c =
    let o = g.D.Domain.opened in
    subst (λ (b : Option (Known g.row.D-Value.Denot)). IfErr c.load-in-None.result
    (WhyNotLed o (behind b c.args.self.now))) (sym c.in-None.is)
    (subst (λ (s : Site g.row.D-Value.Denot). IfErr c.load-in-None.result (WhyNotLed o s)) c.self.view_is
    c.load-in-None.ensures.refused)
