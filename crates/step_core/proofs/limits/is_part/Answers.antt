use Rattle.std.proofs.Common.{◌<◌, List, [], length, get_or, refl, subst}
use Rattle.step_core.proofs.Prelude.{Call, HasFields, IsApartFromCell, IsWellNamed, Kind}
use Rattle.step_threads.specs.declared.programs.call.Call.TheVariants.{Make}
use Rattle.step_core.proofs.Programs.{held_by_more}
use Rattle.step_core.proofs.limits.is_part.Goals as goal

pub loop-call-preserved : goal.loop-call-preserved
loop-call-preserved c =
    let none = Make (record { 0 = 0 }) [] in
    let kinds = c.args.actor.now.kinds.items in
    let calls = c.args.actor.now.calls.items in
    let i = c.loop-call.call-index in
    let e = c.deref-call-items.ensures.value in
    let n : IsWellNamed c.as_slice.result.now (get_or c.deref-call-items.result.now i none) = c.if-not-is_well_named.ensures.named.0 refl in
    let a : IsApartFromCell (get_or c.deref-call-items.result.now i none) = c.if-not-is_apart.ensures.0 refl in
    let f : HasFields (get_or c.deref-call-items.result.now i none) = c.if-not-is_well_named.ensures.fields in
    let lt : i < length calls = subst (λ (l : List Call). i < length l) e c.loop-call-test.true in
    record {
      named =
          held_by_more (IsWellNamed kinds) calls i none c.loop-call.invariant.named lt
          (subst (λ (l : List Kind). IsWellNamed l (get_or calls i none)) c.as_slice.ensures.value
          (subst (λ (l : List Call). IsWellNamed c.as_slice.result.now (get_or l i none)) e n));
      apart = held_by_more IsApartFromCell calls i none c.loop-call.invariant.apart lt (subst (λ (l : List Call). IsApartFromCell (get_or l i none)) e a);
      fields = held_by_more HasFields calls i none c.loop-call.invariant.fields lt (subst (λ (l : List Call). HasFields (get_or l i none)) e f);
    }
