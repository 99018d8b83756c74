use Rattle.std.proofs.Common.{◌≡◌, sym, ap, ◌∙◌, arith, le-ltb, lt-ltb}
use Rattle.step_table.proofs.Prelude.{cond-false, cond-true, Extent, GhostState, model_state}
use Rattle.step_table.proofs.Prelude.{Owner, Weak}
use Rattle.step_table.proofs.contained.Told.{shared_is}
use Rattle.step_table.proofs.memory.table.Table.kind_of_free.Goals as goal

pub returns-then-number-self : goal.returns-then-number-self
returns-then-number-self c =
    let x : c.self.inside.extent ≡ c.args.self.now.extent = ap (λ (s : GhostState). s.extent) c.self.view_is in
    let n : c.self.inside.extent.shape.shared_cells ≡ (model_state c.args.self.now).shared =
    ap (λ (e : Extent). e.shape.shared_cells) x ∙ sym (shared_is c.args.self.now) in
    let t = c.if-number-self.true in
    sym (cond-true _ Owner Weak (lt-ltb _ _ (omega (arith, n, t))))

pub returns-else-number-self : goal.returns-else-number-self
returns-else-number-self c =
    let x : c.self.inside.extent ≡ c.args.self.now.extent = ap (λ (s : GhostState). s.extent) c.self.view_is in
    let n : c.self.inside.extent.shape.shared_cells ≡ (model_state c.args.self.now).shared =
    ap (λ (e : Extent). e.shape.shared_cells) x ∙ sym (shared_is c.args.self.now) in
    let t = c.if-number-self.false in
    sym (cond-false _ Owner Weak (le-ltb _ _ (omega (arith, n, t))))
