use Rattle.std.proofs.Common.{◌-◌, length, slice_get, sym, ap, ◌∙◌}
use Rattle.shared_handle.proofs.PiledEndings.{one_ends}
use Rattle.shared_handle.proofs.pile.Pile.top.Goals as goal

pub returns-clause-ends : goal.returns-clause-ends
returns-clause-ends g c =
    let xs = c.args.self.now.endings.items in
    λ domain d bears. one_ends d xs (length xs - 1) c.in_ok-top.top.now bears.ends
    (ap (λ l. slice_get l (length l - 1)) (sym c.deref.ensures.value) ∙ sym c.in_ok-top.ensures.value)
