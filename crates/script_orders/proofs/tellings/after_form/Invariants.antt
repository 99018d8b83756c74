use Rattle.std.proofs.Common.{◌≡◌, Some, drop}
use Rattle.script_orders.specs.Tellings.{after_form}
use Rattle.script_orders.proofs.tellings.after_form.Given as goal

abbrev pub invariant-loop-part : goal.invariant-loop-part
invariant-loop-part l = after_form l.form (Some l.text) ≡ after_form (drop l.part-index l.form) (Some l.rest)
