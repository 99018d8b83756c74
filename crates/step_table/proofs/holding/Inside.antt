-- Owners that point into the object that they own.
use Rattle.std.proofs.Common.{◌≡◌, ℕ, ◌<◌, Bool, true, false, cond, length, set, ◌==◌, Some, None}
use Rattle.std.proofs.Common.{Option, refl, ap, subst, arith, eqb-true}
use Rattle.step_table.proofs.Prelude.{Full, ghost_after_step, GhostState, Handle, handle_in_block}
use Rattle.step_table.proofs.Prelude.{Has, held, HoldsBag, IsPointer, Kind, model_state, Owner}
use Rattle.step_table.proofs.Prelude.{owner_in, Place, same_Some, slot_pointer, Slots}
use Rattle.step_table.proofs.Prelude.{TableInvariant, this_as, Weak}
use Rattle.step_table.specs.AtomicSteps.{give}
use Rattle.step_table.specs.Registers.{inside, inside_as, into}
use Rattle.step_table.proofs.holding.Owning.{holds_more, slot_held}
use Rattle.step_table.proofs.tables.Places.{handle_busy, there}

-- what is known of such an owner
pub record Points (x : Handle) : Type 0 where
  pub kind : x.kind ≡ Owner
  pub place : Place
  pub points : x.place ≡ Some place
  pub inside : place.block.0 ≡ x.block.0

into_is : (y x : Handle) (p : Option Place) → y.kind ≡ Owner → y.place ≡ p → into y p ≡ Some x → (y ≡ x) × Points y
into_is y x None kind at e = cc
into_is y x (Some p) kind at e = go (p.block.0 == y.block.0) refl e
  where
    go : (b : Bool) → (p.block.0 == y.block.0) ≡ b → cond b (Some y) None ≡ Some x → (y ≡ x) × Points y
    go true t e = (same_Some y x e, record { kind = kind; place = p; points = at; inside = eqb-true _ _ t })
    go false t e = cc

pub inside_is : (o : Option Handle) (x : Handle) → inside o ≡ Some x → (o ≡ Some x) × Points x
inside_is None x e = cc
inside_is (Some y) x e = go y.kind refl e
  where
    go : (k : Kind) → y.kind ≡ k → inside_as k y ≡ Some x → (Some y ≡ Some x) × Points x
    go Owner is e = let t = into_is y x y.place is refl e in (ap (λ (z : Handle). Some z) t.0, subst Points t.0 t.1)
    go Weak is e = cc

module _ (d : ℕ) (slots : Slots) (v : GhostState) (i : ℕ) (x : Handle) (holds : HoldsBag d slots v) (e : inside (slot_pointer slots i) ≡ Some x) where
  pub inside_held : Has (held d (handle_in_block v x.kind x.block x.place)) (model_state v).hands
  inside_held = slot_held d slots v i x holds (inside_is (slot_pointer slots i) x e).0

  pub inside_owned : (p : Place) → x.place ≡ Some p → Has (held d (owner_in v x.block (Some p))) (model_state v).hands
  inside_owned p at =
      let t = (inside_is (slot_pointer slots i) x e).1 in
      subst (λ (q : Option Place). Has (held d (owner_in v x.block q)) (model_state v).hands) at
      (subst (λ (k : Kind). Has (held d (handle_in_block v k x.block x.place)) (model_state v).hands) t.kind inside_held)

-- a pointer that an object gives
pub holds_give : (d : ℕ) (slots : Slots) (v : GhostState) (i : ℕ) (k : Kind) (x : Handle) → TableInvariant v → HoldsBag d slots v
    → Has (held d (handle_in_block v x.kind x.block x.place)) (model_state v).hands → i < length slots → slot_pointer slots i ≡ None
    → HoldsBag d (set slots i (Full (this_as k x))) (ghost_after_step v d (give k x))
holds_give d slots v i k x kept holds has lt e = go k
  where
    fine : IsPointer (this_as k x).place
    fine =
        let t = (there v x.block kept (handle_busy v d x.kind x.block x.place kept has)).1 in
        let few = kept.proper.blocks in let low = t.0 in let high = t.1 in (low, omega (arith, high, few), omega arith)

    go : (q : Kind) → HoldsBag d (set slots i (Full (this_as q x))) (ghost_after_step v d (give q x))
    go Owner = holds_more d slots v (ghost_after_step v d (give Owner x)) i (this_as Owner x) holds refl refl fine lt e
    go Weak = holds_more d slots v (ghost_after_step v d (give Weak x)) i (this_as Weak x) holds refl refl fine lt e
