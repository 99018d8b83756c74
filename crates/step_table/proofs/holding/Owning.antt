-- What a share and a leave do to a desk's bag and to its slots.
use Rattle.std.proofs.Common.{◌≡◌, ℕ, suc, ◌<◌, ◌≤◌, Bool, true, false, cond, ◌≢◌, List, [], ◌∷◌}
use Rattle.std.proofs.Common.{length, set, ◌==◌, Some, None, Option, sym, refl, ap, ◌∙◌, subst}
use Rattle.std.proofs.Common.{⊎_elim, arith, length-set, get_or-set_other, get_or-set_same}
use Rattle.step_table.proofs.Prelude
use Prelude.{bag_one, bag_size, Block, cases_eq, Claim, Empty, Full, ghost_after_step, GhostState}
use Prelude.{Handle, handle, handle_in_block, Has, Held, held, held_self, held_true, HoldsBag}
use Prelude.{InShape, IsPointer, IsSlot, Kind, leave_as, model_state, num, num_cons, num_without}
use Prelude.{NumberedHandle, object_of_block, Opening, opening, origin, Owner, Place, plain}
use Prelude.{pointer_of, put_other, same_handle, same_held, same_Some, Slot, slot_has_object}
use Prelude.{slot_pointer, slot_value, Slots, sound, stored, TableInvariant, times_held, Weak}
use Prelude.{weak_in, without}
use Rattle.control_word.proofs.lists.Tallies.{handle_self, num_has, put_same}
use Rattle.control_word.specs.Handles.{owner}
use Rattle.step_table.specs.declared.memory.form.Form.{Form}
use Rattle.step_table.specs.AtomicSteps.{share, share_as}
use Rattle.step_table.specs.Registers.{is_it, owns, weak_as, weak_slot}
use Rattle.step_table.proofs.tables.Places.{handle_busy, there}
use Rattle.step_table.proofs.holding.Slots.{counted_has, full_is, full_less, has_slot, num_none}
use Rattle.step_table.proofs.holding.Slots.{num_set, num_some, one_held, one_slot, slot_inside}
use Rattle.step_table.proofs.tables.Start.{forty}
use Rattle.control_word.specs.Limits.{most_blocks}
use Rattle.step_table.specs.Openings.{world_blocks}

-- a pointer in a slot is a handle in the bag
pub slot_held : (d : ℕ) (slots : Slots) (v : GhostState) (i : ℕ) (x : Handle) → HoldsBag d slots v → slot_pointer slots i ≡ Some x
    → Has (held d (handle_in_block v x.kind x.block x.place)) (model_state v).hands
slot_held d slots v i x holds e =
    let h = handle_in_block v x.kind x.block x.place in
    let n = num_has (is_it v h) (Full x) slots (has_slot slots i x e) (handle_self h) in
    counted_has (held d h) (model_state v).hands (let o = holds.owned h in omega (arith, n, o))

pub slot_formed : (d : ℕ) (slots : Slots) (v : GhostState) (i : ℕ) (x : Handle) → HoldsBag d slots v → slot_pointer slots i ≡ Some x → IsPointer x.place
slot_formed d slots v i x holds e = subst IsSlot (full_is (slot_value slots i) x e) (holds.formed i)

-- where a slot is empty the desk may have one more handle
pub has_room : (d : ℕ) (slots : Slots) (v : GhostState) (i : ℕ) → TableInvariant v → d < v.extent.actors → HoldsBag d slots v → length slots < 35
    → i < length slots → slot_pointer slots i ≡ None → bag_size (model_state v) d < (model_state v).allowance d
has_room d slots v i kept lt holds few inside e =
    let a = full_less slots i inside e in
    let b = forty v.extent kept.proper d lt in
    let c = ap (λ (f : ℕ → ℕ). f d) kept.allowed in
    let s = holds.size in omega (arith, a, b, c, s)

formed_set : (slots : Slots) (i : ℕ) (x : Slot) → ((j : ℕ) → IsSlot (slot_value slots j)) → i < length slots → IsSlot x → (j : ℕ)
    → IsSlot (slot_value (set slots i x) j)
formed_set slots i x all lt fine j =
    ⊎_elim (λ (e : j ≡ i). subst (λ (k : ℕ). IsSlot (slot_value (set slots i x) k)) (sym e)
    (subst IsSlot (sym (get_or-set_same slots i x plain lt)) fine))
    (λ (n : j ≢ i). subst IsSlot (sym (get_or-set_other slots i j x plain n)) (all j)) (cases_eq j i)

same_is : (v w : GhostState) (h : NumberedHandle) (y : Slot) → ((p : Handle) → pointer_of y ≡ Some p → object_of_block w p.block ≡ object_of_block v p.block)
    → is_it w h y ≡ is_it v h y
same_is v w h (Empty q) f = refl
same_is v w h (Full p) f = ap (λ (o : ℕ). same_handle h (handle p.kind (Some o) p.place)) (f p refl)

pub same_owns : (v w : GhostState) (h : NumberedHandle) (slots : Slots)
    → ((i : ℕ) (p : Handle) → slot_pointer slots i ≡ Some p → object_of_block w p.block ≡ object_of_block v p.block)
    → owns w slots h ≡ owns v slots h
same_owns v w h [] f = refl
same_owns v w h (y ∷ ys) f =
    let i = same_owns v w h ys (λ j p e. f (suc j) p e) in
    let a = num_cons (is_it w h) y ys in
    let b = num_cons (is_it v h) y ys in
    let c : num (is_it w h) (y ∷ []) ≡ num (is_it v h) (y ∷ []) = one_slot (is_it w h) y
    ∙ ap (λ (t : Bool). cond t 1 0) (same_is v w h y (λ p e. f 0 p e)) ∙ sym (one_slot (is_it v h) y) in
    omega (arith, i, a, b, c)

-- a handle more, in a slot that was empty
pub holds_more : (d : ℕ) (slots : Slots) (v w : GhostState) (i : ℕ) (x : Handle) → HoldsBag d slots v
    → (model_state w).hands ≡ held d (handle_in_block v x.kind x.block x.place) ∷ (model_state v).hands
    → (model_state w).latest ≡ (model_state v).latest → IsPointer x.place
    → i < length slots → slot_pointer slots i ≡ None → HoldsBag d (set slots i (Full x)) w
holds_more d slots v w i x holds hands latest fine lt e =
    let y = handle_in_block v x.kind x.block x.place in
    let new = set slots i (Full x) in
    record {
      owned = λ h.
          let a = num_cons (same_held (held d h)) (held d y) (model_state v).hands in
          let b = one_held d h y in
          let s = num_set (is_it v h) slots i (Full x) lt in
          let z = num_none (is_it v h) (slot_value slots i) (λ q. refl) e in
          let t = one_slot (is_it v h) (Full x) in
          let o = holds.owned h in
          let m : times_held (model_state w) d h ≡ num (same_held (held d h)) (held d y ∷ (model_state v).hands) =
          ap (λ (l : List Held). num (same_held (held d h)) l) hands in
          let k = same_owns v w h new (λ j p q. ap (λ (f : ℕ → ℕ). f p.block.0) latest) in omega (arith, a, b, s, z, t, o, m, k);
      size =
          (let a = bag_one d y (model_state v).hands in
          let s = num_set slot_has_object slots i (Full x) lt in
          let z = num_none slot_has_object (slot_value slots i) (λ q. refl) e in
          let m : bag_size (model_state w) d ≡ num (λ (q : Held). q.desk == d) (held d y ∷ (model_state v).hands) =
          ap (λ (l : List Held). num (λ (q : Held). q.desk == d) l) hands in
          let o = holds.size in omega (arith, a, s, z, o, m));
      formed = formed_set slots i (Full x) holds.formed lt fine;
    }

-- a handle less, of a slot
pub holds_less : (d : ℕ) (slots : Slots) (v w : GhostState) (i : ℕ) (x : Handle) → HoldsBag d slots v → slot_pointer slots i ≡ Some x
    → (model_state w).hands ≡ without same_held (held d (handle_in_block v x.kind x.block x.place)) (model_state v).hands
    → (model_state w).latest ≡ (model_state v).latest → HoldsBag d (set slots i plain) w
holds_less d slots v w i x holds e hands latest =
    let y = handle_in_block v x.kind x.block x.place in
    let has = slot_held d slots v i x holds e in
    let lt = slot_inside slots i x e in
    let less = without same_held (held d y) (model_state v).hands in
    record {
      owned = λ h.
          let a = num_without same_held held_true held_self (same_held (held d h)) (held d y) (model_state v).hands has in
          let b = one_held d h y in
          let s = num_set (is_it v h) slots i plain lt in
          let z = num_some (is_it v h) (slot_value slots i) x e in
          let t = one_slot (is_it v h) (Full x) in
          let o = holds.owned h in
          let m : times_held (model_state w) d h ≡ num (same_held (held d h)) less = ap (λ (l : List Held). num (same_held (held d h)) l) hands in
          let k = same_owns v w h (set slots i plain) (λ j p q. ap (λ (f : ℕ → ℕ). f p.block.0) latest) in omega (arith, a, b, s, z, t, o, m, k);
      size =
          (let a = num_without same_held held_true held_self (λ (w : Held). w.desk == d) (held d y) (model_state v).hands has in
          let b = bag_one d y [] in
          let s = num_set slot_has_object slots i plain lt in
          let z = num_some slot_has_object (slot_value slots i) x e in
          let m : bag_size (model_state w) d ≡ num (λ (q : Held). q.desk == d) less = ap (λ (l : List Held). num (λ (q : Held). q.desk == d) l) hands in
          let o = holds.size in omega (arith, a, b, s, z, o, m));
      formed = formed_set slots i plain holds.formed lt tt;
    }

-- no handle comes or goes
pub holds_look : (d : ℕ) (slots : Slots) (v w : GhostState) → (model_state w).hands ≡ (model_state v).hands
    → (model_state w).latest ≡ (model_state v).latest → HoldsBag d slots v
    → HoldsBag d slots w
holds_look d slots v w hands latest holds =
    record {
      owned = λ h.
          ap (λ (l : List Held). num (same_held (held d h)) l) hands ∙ holds.owned h
          ∙ sym (same_owns v w h slots (λ j p q. ap (λ (f : ℕ → ℕ). f p.block.0) latest));
      size = ap (λ (l : List Held). num (λ (q : Held). q.desk == d) l) hands ∙ holds.size;
      formed = holds.formed;
    }

-- a weak pointer in a slot
pub weak_held : (d : ℕ) (slots : Slots) (v : GhostState) (i : ℕ) (x : Handle) → HoldsBag d slots v → weak_slot (slot_pointer slots i) ≡ Some x
    → Has (held d (weak_in v x.block x.place)) (model_state v).hands
weak_held d slots v i x holds e =
    let w = weak_is (slot_pointer slots i) x e in
    subst (λ (k : Kind). Has (held d (handle_in_block v k x.block x.place)) (model_state v).hands) w.1 (slot_held d slots v i x holds w.0)
  where
    weak_is : (o : Option Handle) (x : Handle) → weak_slot o ≡ Some x → (o ≡ Some x) × (x.kind ≡ Weak)
    weak_is None x e = cc
    weak_is (Some y) x e = go y.kind refl e
      where
        go : (k : Kind) → y.kind ≡ k → weak_as k y ≡ Some x → (Some y ≡ Some x) × (x.kind ≡ Weak)
        go Owner is e = cc
        go Weak is e = (e, ap (λ (p : Handle). p.kind) (sym (same_Some y x e)) ∙ is)

-- the place of a weak pointer in a slot is well formed
pub weak_formed : (d : ℕ) (slots : Slots) (v : GhostState) (i : ℕ) (x : Handle) → HoldsBag d slots v
    → weak_slot (slot_pointer slots i) ≡ Some x → IsPointer x.place
weak_formed d slots v i x holds e = go (slot_value slots i) (holds.formed i) e
  where
    go : (o : Slot) → IsSlot o → weak_slot (pointer_of o) ≡ Some x → IsPointer x.place
    go (Empty p) f e = cc
    go (Full y) f e = kinds y.kind e
      where
        kinds : (k : Kind) → weak_as k y ≡ Some x → IsPointer x.place
        kinds Owner e = cc
        kinds Weak e = subst (λ (p : Handle). IsPointer p.place) (same_Some y x e) f

-- a copy of a pointer
pub holds_share : (d : ℕ) (slots : Slots) (v : GhostState) (i : ℕ) (x : Handle) → HoldsBag d slots v → IsPointer x.place → i < length slots
    → slot_pointer slots i ≡ None → HoldsBag d (set slots i (Full x)) (ghost_after_step v d (share x))
holds_share d slots v i x holds fine lt e = go x.kind refl
  where
    go : (k : Kind) → x.kind ≡ k → HoldsBag d (set slots i (Full x)) (ghost_after_step v d (share_as k x))
    go Owner is = holds_more d slots v (ghost_after_step v d (share_as Owner x)) i x holds
        (ap (λ (k : Kind). held d (handle_in_block v k x.block x.place) ∷ (model_state v).hands) (sym is)) refl fine lt e
    go Weak is = holds_more d slots v (ghost_after_step v d (share_as Weak x)) i x holds
        (ap (λ (k : Kind). held d (handle_in_block v k x.block x.place) ∷ (model_state v).hands) (sym is)) refl fine lt e

-- a pointer leaves
pub holds_leave : (d : ℕ) (slots : Slots) (v : GhostState) (i : ℕ) (x : Handle) (last : Bool) → HoldsBag d slots v → slot_pointer slots i ≡ Some x
    → HoldsBag d (set slots i plain) (ghost_after_step v d (leave_as x.kind x last))
holds_leave d slots v i x last holds e = go x.kind refl
  where
    go : (k : Kind) → x.kind ≡ k → HoldsBag d (set slots i plain) (ghost_after_step v d (leave_as k x last))
    go Owner is = holds_less d slots v (ghost_after_step v d (leave_as Owner x last)) i x holds e
        (ap (λ (k : Kind). without same_held (held d (handle_in_block v k x.block x.place)) (model_state v).hands) (sym is)) refl
    go Weak is = holds_less d slots v (ghost_after_step v d (leave_as Weak x last)) i x holds e
        (ap (λ (k : Kind). without same_held (held d (handle_in_block v k x.block x.place)) (model_state v).hands) (sym is)) refl

-- a slot without an object gets a place
pub holds_empty : (d : ℕ) (slots : Slots) (v : GhostState) (i : ℕ) (p : Option Place) → HoldsBag d slots v → i < length slots
    → slot_pointer slots i ≡ None → IsPointer p
    → HoldsBag d (set slots i (Empty p)) v
holds_empty d slots v i p holds lt e fine =
    let same : (q : Slot → Bool) → ((r : Option Place) → q (Empty r) ≡ false) → num q (set slots i (Empty p)) ≡ num q slots =
    λ q none.
    let a = num_set q slots i (Empty p) lt in
    let z = num_none q (slot_value slots i) none e in
    let y = num_none q (Empty p) none refl in
    omega (arith, a, z, y) in
    record {
      owned = λ h. holds.owned h ∙ sym (same (is_it v h) (λ q. refl));
      size = holds.size ∙ sym (same slot_has_object (λ q. refl));
      formed = formed_set slots i (Empty p) holds.formed lt fine;
    }

-- a value goes from one slot to another
pub holds_move : (d : ℕ) (slots : Slots) (v : GhostState) (i j : ℕ) → HoldsBag d slots v → i < length slots → j < length slots → i ≢ j
    → slot_pointer slots j ≡ None
    → HoldsBag d (set (set slots j (slot_value slots i)) i plain) v
holds_move d slots v i j holds li lj n e =
    let mid = set slots j (slot_value slots i) in
    let lm : i < length mid = let t = length-set slots j (slot_value slots i) in omega (arith, t) in
    let at : slot_value mid i ≡ slot_value slots i = get_or-set_other slots j i (slot_value slots i) plain n in
    let moved : (p : Slot → Bool) → ((q : Option Place) → p (Empty q) ≡ false) → num p (set mid i plain) ≡ num p slots =
    λ p none.
    let a = num_set p mid i plain lm in
    let b = num_set p slots j (slot_value slots i) lj in
    let c = ap (λ (w : Slot). num p (w ∷ [])) at in
    let z = num_none p (slot_value slots j) none e in
    let y = num_none p plain none refl in
    omega (arith, a, b, c, z, y) in
    record {
      owned = λ h. holds.owned h ∙ sym (moved (is_it v h) (λ q. refl));
      size = holds.size ∙ sym (moved slot_has_object (λ q. refl));
      formed = formed_set mid i plain (formed_set slots j (slot_value slots i) holds.formed lj (holds.formed i)) lm tt;
    }

-- a block in a store is no block of a pointer
apart : (d : ℕ) (slots : Slots) (v : GhostState) (b : Block) (i : ℕ) (x : Handle) → TableInvariant v → HoldsBag d slots v
    → Has (stored d b.0) (model_state v).stores
    → slot_pointer slots i ≡ Some x
    → x.block.0 ≢ b.0
apart d slots v b i x kept holds has e same =
    let busy = handle_busy v d x.kind x.block x.place kept (slot_held d slots v i x holds e) in
    let t = there v x.block kept busy in
    let vacant = ((sound (opening v.extent) v.history kept.stands.legal).stores d b.0 has).0 in
    let z = vacant (object_of_block v x.block) (t.0 ∙ same) in omega (arith, busy, z)

claimed_is : (v : GhostState) (d : ℕ) (b : Block) (enabled null : Bool) (fields : List ℕ) (h : NumberedHandle) (y : Slot) → ((p : Handle)
    → pointer_of y ≡ Some p → p.block.0 ≢ b.0)
    → is_it (ghost_after_step v d (Claim b enabled null fields)) h y ≡ is_it v h y
claimed_is v d b enabled null fields h (Empty q) f = refl
claimed_is v d b enabled null fields h (Full p) f =
    ap (λ (o : ℕ). same_handle h (handle p.kind (Some o) p.place)) (put_other (model_state v).latest b.0 (suc (model_state v).made) p.block.0 (f p refl))

claimed_owns : (v : GhostState) (d : ℕ) (b : Block) (enabled null : Bool) (fields : List ℕ) (h : NumberedHandle) (slots : Slots)
    → ((i : ℕ) (p : Handle) → slot_pointer slots i ≡ Some p → p.block.0 ≢ b.0)
    → owns (ghost_after_step v d (Claim b enabled null fields)) slots h ≡ owns v slots h
claimed_owns v d b enabled null fields h [] f = refl
claimed_owns v d b enabled null fields h (y ∷ ys) f =
    let w = ghost_after_step v d (Claim b enabled null fields) in
    let i = claimed_owns v d b enabled null fields h ys (λ j p e. f (suc j) p e) in
    let m = num_cons (is_it w h) y ys in
    let n = num_cons (is_it v h) y ys in
    let c : num (is_it w h) (y ∷ []) ≡ num (is_it v h) (y ∷ []) =
    one_slot (is_it w h) y ∙ ap (λ (t : Bool). cond t 1 0) (claimed_is v d b enabled null fields h y (λ p e. f 0 p e))
    ∙ sym (one_slot (is_it v h) y) in
    omega (arith, i, m, n, c)

origin_formed : (z : Opening) (b : ℕ) (null : Bool) → InShape z b → z.blocks ≤ most_blocks → IsPointer (origin b null)
origin_formed z b true shape few = tt
origin_formed z b false shape few = let low = shape.0 in let high = shape.1 in (low, omega (arith, high, few), omega arith)

pub holds_claim : (d : ℕ) (slots : Slots) (v : GhostState) (i : ℕ) (b : Block) (form : Form) → TableInvariant v → HoldsBag d slots v
    → Has (stored d b.0) (model_state v).stores
    → InShape (opening v.extent) b.0 → v.extent.shape.blocks ≤ world_blocks → i < length slots → slot_pointer slots i ≡ None
    → HoldsBag d (set slots i (Full (record { kind = Owner; block = b; place = origin b.0 form.null })))
    (ghost_after_step v d (Claim b form.enabled form.null form.fields))
holds_claim d slots v i b form kept holds has shape few lt e =
    let x : Handle = record { kind = Owner; block = b; place = origin b.0 form.null } in
    let w = ghost_after_step v d (Claim b form.enabled form.null form.fields) in
    let y = owner (suc (model_state v).made) (origin b.0 form.null) in
    record {
      owned = λ h.
          let a = num_cons (same_held (held d h)) (held d y) (model_state v).hands in
          let m = one_held d h y in
          let s = num_set (is_it w h) slots i (Full x) lt in
          let z = num_none (is_it w h) (slot_value slots i) (λ q. refl) e in
          let t = one_slot (is_it w h) (Full x) in
          let u : is_it w h (Full x) ≡ same_handle h y = ap
          (λ (o : ℕ). same_handle h (owner o (origin b.0 form.null))) (put_same (model_state v).latest b.0 (suc (model_state v).made) b.0 refl) in
          let k : ◌≡◌ {A = ℕ} (cond (is_it w h (Full x)) 1 0) (cond (same_handle h y) 1 0) = ap (λ (q : Bool). cond q 1 0) u in
          let c = claimed_owns v d b form.enabled form.null form.fields h slots (λ j p q. apart d slots v b j p kept holds has q) in
          let o = holds.owned h in omega (arith, a, m, s, z, t, k, c, o);
      size =
          (let a = bag_one d y (model_state v).hands in
          let s = num_set slot_has_object slots i (Full x) lt in
          let z = num_none slot_has_object (slot_value slots i) (λ q. refl) e in
          let o = holds.size in omega (arith, a, s, z, o));
      formed = formed_set slots i (Full x) holds.formed lt (origin_formed (opening v.extent) b.0 form.null shape (omega (arith, few)));
    }
