use Rattle.std.proofs.Common.{◌≡◌, ℕ, ◌<◌, slice_index, sym, subst}
use Rattle.script_runner.proofs.TablePrelude.{DeskNow, object_in}
use Rattle.shared_handle.specs.Endings.{EndsInHand}
use Rattle.script_runner.specs.Ends.{IsToEnd}
use Rattle.script_runner.specs.declared.table.ends.Remains.TheVariants.{Fields, Null}
use Rattle.script_runner.proofs.table.WorkerTable.remains.Goals as goal

pub is_null-requires-clause-ends : goal.is_null-requires-clause-ends
is_null-requires-clause-ends g c =
    c.in_ok-top.ensures.ends c.self.inside.domain.now c.self.inside.desk c.self.invariant.bears.carries

pub fields-fields-requires-clause-ends : goal.fields-fields-requires-clause-ends
fields-fields-requires-clause-ends g c =
    subst (λ d. EndsInHand d c.in_ok-top.top.now) (sym c.is_null.ensures.same)
    (c.in_ok-top.ensures.ends c.self.inside.domain.now c.self.inside.desk c.self.invariant.bears.carries)

pub returns-then-is_null-clause-told : goal.returns-then-is_null-clause-told
returns-then-is_null-clause-told g c =
    subst (λ t. IsToEnd t Null) c.self.view_is
    record { top = c.in_ok-top.top.now; last = c.in_ok-top.ensures.some; made = sym c.if-is_null.ensures.null }

pub returns-clause-told : goal.returns-clause-told
returns-clause-told g c =
    subst (λ t. IsToEnd t (Fields c.fields-fields.result)) c.self.view_is
    record {
      top = c.in_ok-top.top.now;
      last = c.in_ok-top.ensures.some;
      made = (
        sym c.if-is_null.ensures.null,
        subst (λ (d : DeskNow g.row.V.Denot). (k : ℕ) → k < 4
            → slice_index c.fields-fields.result k ≡ slice_index (object_in d c.in_ok-top.top.now.block.0).fields k)
            c.is_null.ensures.same c.fields-fields.ensures.fields,
      );
    }
