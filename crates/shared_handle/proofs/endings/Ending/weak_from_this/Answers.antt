use Rattle.std.proofs.Common.{◌≡◌, true, OnOk, Ok, Err, Result, sym, ap, ◌∙◌, subst, inr}
use Rattle.shared_handle.proofs.Prelude.{DeskNow, IsEnding, object_in}
use Rattle.shared_handle.proofs.endings.Ending.weak_from_this.Goals as goal
use Rattle.control_word.specs.HandleWords.{HandleNow}

pub share_weak-requires-clause-may : goal.share_weak-requires-clause-may
share_weak-requires-clause-may g c =
    let b = c.args.self.now.block.0 in let x = c.args.self.now.value in let e = c.is_enabled.ensures in
    inr (
      x,
      subst (λ (u : DeskNow g.row.V.Denot). IsEnding u b x) (sym e.same) c.requires.ends.ends,
      subst (λ (u : DeskNow g.row.V.Denot). (object_in u b).enabled ≡ true) (sym e.same) (sym e.flag ∙ c.if-not-is_enabled.false),
      ap (λ (w : HandleNow). w.place) c.of.ensures,
    )

on_ok : {T E P : Type 0} (r : Result T E) → P → OnOk r P
on_ok (Ok x) p = p
on_ok (Err e) p = tt

pub returns-clause-may : goal.returns-clause-may
returns-clause-may g c =
    on_ok c.share_weak.result
    (λ full. c.if-held-allowance.false (c.held.ensures ∙ (full ∙ sym c.allowance.ensures)), sym c.is_enabled.ensures.flag ∙ c.if-not-is_enabled.false)

pub returns-then-not-is_enabled-clause-refused : goal.returns-then-not-is_enabled-clause-refused
returns-then-not-is_enabled-clause-refused g c = (
  (λ full. c.if-held-allowance.false (c.held.ensures ∙ (full ∙ sym c.allowance.ensures)), sym c.if-not-is_enabled.ensures.flag),
  c.is_enabled.ensures.same,
)
