use Rattle.std.proofs.Common.{◌≡◌, ◌<◌, length, slice_get, Some, sym, subst}
use Rattle.script_runner.proofs.Prelude.{IsEmptied, IsHandleAt, SetsKind}
use Rattle.script_runner.specs.SlotCalls as calls
use Rattle.script_runner.proofs.Acting as law
use Rattle.script_runner.proofs.Granting as granting
use Rattle.script_runner.proofs.Refusals.{below_same, handle_there, same_kind}
use Rattle.script_runner.proofs.acts.takes.move_out.Goals as goal

pub returns : goal.returns
returns g c =
    let t = c.args.table.now in let v = c.move_to.new.self in let u = c.empty.new.table in let k = c.requires.kind.0 in
    let did : calls.MovesSlot t c.args.name c.args.hand v = subst (λ j. calls.MovesSlot t j c.args.hand v) c.from.ensures c.move_to.ensures in
    let sets : SetsKind c.args.name (Some k) v u =
    subst (λ j. SetsKind j (Some k) v u) c.from-2.ensures
    (c.empty.ensures.kinds k (subst (λ j. slice_get c.args.kinds.now.items j ≡ Some k) (sym c.from-2.ensures) c.requires.kind.1)) in
    record {
      acts = law.moved c.args.hand c.args.name t u c.requires.hand c.requires.name v did
          (subst (λ j. IsEmptied v j u) c.from-2.ensures c.empty.ensures.emptied);
      kinds = λ l has. subst (λ q. SetsKind c.args.hand (Some q) t u) (same_kind t.slots c.args.name k l c.requires.kind.2 has)
          (granting.moved_kind c.args.name c.args.hand t v u k c.requires.name c.requires.kind.2 did sets);
    }

pub empty-requires : goal.empty-requires
empty-requires g c =
    let t = c.args.table.now in let v = c.move_to.new.self in let k = c.requires.kind.0 in
    let did : calls.MovesSlot t c.args.name c.args.hand v = subst (λ j. calls.MovesSlot t j c.args.hand v) c.from.ensures c.move_to.ensures in
    record {
      below = below_same t v (granting.moved_desk c.args.name c.args.hand t v c.requires.name c.requires.hand.vacant did) c.requires.below;
      slot = subst (λ j. j < length v.slots) (sym c.from-2.ensures) (granting.moved_within c.args.name c.args.hand t v k c.requires.kind.2 did);
      kind = (k, subst (λ j. slice_get c.args.kinds.now.items j ≡ Some k) (sym c.from-2.ensures) c.requires.kind.1);
    }

pub move_to-requires-clause-from : goal.move_to-requires-clause-from
move_to-requires-clause-from g c =
    let t = c.args.table.now in subst (IsHandleAt t.slots) (sym c.from.ensures) (handle_there t.slots c.args.name c.requires.kind.0 c.requires.kind.2)
