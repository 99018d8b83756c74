use Rattle.std.proofs.Common.{subst}
use Rattle.script_text.specs.declared.fault.Fault.{Fault}
use Rattle.script_stepper.specs.Ends.{IsRefused}
use Rattle.sptr.proofs.ShownOutcomes.{not_bad}
use Rattle.sptr.proofs.orders.parts.run_of.Goals as goal

pub unreachable-requires : goal.unreachable-requires
unreachable-requires c =
    let told = c.args.told in
    let bad = c.in-Err-BadTurn in
    not_bad c.args.script.now told.list.now told.text.now bad.field-0-0 c.requires
    (subst (λ (fault : Fault). IsRefused c.args.script.now told.list.now fault) bad.field-0-is bad.ensures.refused)
