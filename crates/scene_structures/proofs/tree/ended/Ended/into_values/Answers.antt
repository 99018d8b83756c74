use Rattle.std.proofs.Common.{[], ◌∷◌, ◌++◌, length, ap, ◌∙◌, arith, length-append}
use Rattle.scene_structures.proofs.Slots.{turned, turned_none}
use Rattle.scene_structures.proofs.tree.ended.Ended.into_values.Goals as goal

pub loop-slot-preserved-in-Some-slot : goal.loop-slot-preserved-in-Some-slot
loop-slot-preserved-in-Some-slot g c =
    let i = c.loop-slot.invariant in let e = c.in-Some.ensures.items in let p = c.push_reserved.ensures in
    let rest = c.pop.new.self.items in let vs = c.loop-slot.values.items in
    let are = e ∙ ap (λ x. rest ++ x ∷ []) c.in-Some-slot.is in
    record {
      all = turned _ c.loop-slot.slots.items rest vs c.push_reserved.new.self.items c.in-Some-slot.value are i.all p.items;
      room = let a = ap length e in let b = ap length p.items in let k = p.capacity in let r = i.room in
          omega (arith, a, b, k, r, length-append rest (c.in-Some.slot ∷ []), length-append vs (c.in-Some-slot.value ∷ []));
    }

pub loop-slot-preserved : goal.loop-slot-preserved
loop-slot-preserved g c =
    let i = c.loop-slot.invariant in let e = c.in-Some.ensures.items in
    let rest = c.pop.new.self.items in let vs = c.loop-slot.values.items in
    let are = e ∙ ap (λ x. rest ++ x ∷ []) c.in-None.is in
    record {
      all = turned_none _ c.loop-slot.slots.items rest vs are i.all;
      room = let a = ap length e in let r = i.room in omega (arith, a, r, length-append rest (c.in-Some.slot ∷ []));
    }
