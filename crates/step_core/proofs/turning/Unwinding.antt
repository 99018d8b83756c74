-- How endings come by themselves.
use Rattle.std.proofs.Common.{◌≡◌, ℕ, suc, ◌+◌, ◌-◌, ◌<◌, true, false, List, ◌∷◌, length, set}
use Rattle.std.proofs.Common.{is_some, ◌==◌, Some, None, Option, sym, refl, ap, ◌∙◌, arith}
use Rattle.std.proofs.Common.{length-set, get_or-set_same}
use Rattle.step_core.proofs.Prelude.{cond-false, cond-true, Ending, entry, hand, has_object}
use Rattle.step_core.proofs.Prelude.{History, is_full, leads, NumberedHandle, Opening, plain}
use Rattle.step_core.proofs.Prelude.{pointer_of, Slot, slot_of, slot_pointer, Slots, staged, State}
use Rattle.step_core.proofs.Prelude.{unwound, weak, Wound}
use Rattle.control_word.specs.declared.model.event.Event.TheVariants as event
use Rattle.step_table.specs.Contents.{slot_as}
use Rattle.step_threads.specs.Unwinding.{Stop, history_clears, unwinds_on, stops}

-- how the endings go on, by how far the first comes
abbrev goes : Opening → ℕ → Slots → Ending → List Ending → Stop → Wound
goes z d slots e es c = unwinds_on e es c.history slots (unwound z d slots es c.history) c.out

goes_staged : (e : Ending) (es : List Ending) (h : History) (slots : Slots) (others : Wound) (out : Option (ℕ × Slot))
    → unwinds_on (staged e) es h slots others out ≡ unwinds_on e es h slots others out
goes_staged e es h slots others None = refl
goes_staged e es h slots others (Some p) = refl

-- with no member left an object is finished
pub unwound_finish : (z : Opening) (d : ℕ) (slots : Slots) (e : Ending) (es : List Ending) (h : History) → e.stage ≡ 3
    → let o = (leads z h).latest e.block.0 in
    unwound z d slots es (entry d (event.Finish o (weak (leads z h) o == 0) tt) ∷ h) ≡ unwound z d slots (e ∷ es) h
unwound_finish z d slots e es h is =
    ap (λ (j : ℕ). goes z d slots e es (stops z d ((leads z h).latest e.block.0) (3 - j) h)) (sym is)

-- a member that holds no object is cleared by itself
pub unwound_empty : (z : Opening) (d : ℕ) (slots : Slots) (e : Ending) (es : List Ending) (h : History) → e.stage < 3
    → let o = (leads z h).latest e.block.0 in
    has_object (((leads z h).object o).member e.stage) ≡ false
    → unwound z d slots (staged e ∷ es) (history_clears z d o e.stage h) ≡ unwound z d slots (e ∷ es) h
unwound_empty z d slots e es h lt bare =
    let o = (leads z h).latest e.block.0 in
    let n = 2 - e.stage in
    let more : ◌≡◌ {A = ℕ} (3 - e.stage) (suc n) = omega (arith, lt) in
    let less : ◌≡◌ {A = ℕ} (3 - (e.stage + 1)) n = omega (arith, lt) in
    let same : ◌≡◌ {A = ℕ} (2 - n) e.stage = omega (arith, lt) in
    let c = stops z d o n (history_clears z d o e.stage h) in
    let b : has_object (((leads z h).object o).member (2 - n)) ≡ false = ap (λ (m : ℕ). has_object (((leads z h).object o).member m)) same ∙ bare in
    ap (λ (j : ℕ). goes z d slots (staged e) es (stops z d o j (history_clears z d o e.stage h))) less
    ∙ goes_staged e es c.history slots (unwound z d slots es c.history) c.out
    ∙ ap (λ (m : ℕ). goes z d slots e es (stops z d o n (history_clears z d o m h))) (sym same)
    ∙ ap (goes z d slots e es) (sym (cond-false (has_object (((leads z h).object o).member (2 - n))) _ _ b))
    ∙ ap (λ (j : ℕ). goes z d slots e es (stops z d o j h)) (sym more)

-- a member that holds an object comes into the hand
pub unwound_full : (z : Opening) (d : ℕ) (slots : Slots) (e : Ending) (es : List Ending) (h : History) → e.stage < 3
    → let s = leads z h in
    let o = s.latest e.block.0 in
    let x = (s.object o).member e.stage in
    has_object x ≡ true
    → unwound z d slots (e ∷ es) h ≡ record {
      history = history_clears z d o e.stage h;
      slots = set slots (hand slots) (slot_of s x);
      endings =
          staged e ∷ es;
    }
unwound_full z d slots e es h lt full =
    let s = leads z h in
    let o = s.latest e.block.0 in
    let n = 2 - e.stage in
    let more : ◌≡◌ {A = ℕ} (3 - e.stage) (suc n) = omega (arith, lt) in
    let same : ◌≡◌ {A = ℕ} (2 - n) e.stage = omega (arith, lt) in
    let next : ◌≡◌ {A = ℕ} (3 - n) (e.stage + 1) = omega (arith, lt) in
    let b : has_object ((s.object o).member (2 - n)) ≡ true = ap (λ (m : ℕ). has_object ((s.object o).member m)) same ∙ full in
    ap (λ (j : ℕ). goes z d slots e es (stops z d o j h)) more
    ∙ ap (goes z d slots e es) (cond-true (has_object ((s.object o).member (2 - n))) (record {
      history = history_clears z d o (2 - n) h;
      out = Some (n, slot_of s ((s.object o).member (2 - n)));
    }) _ b)
    ∙ ap (λ (m : ℕ). goes z d slots e es (record { history = history_clears z d o m h; out = Some (n, slot_of s ((s.object o).member m)) })) same
    ∙ ap (λ (j : ℕ). record {
      history = history_clears z d o e.stage h;
      slots = set slots (hand slots) (slot_of s ((s.object o).member e.stage));
      endings = record { block = e.block; stage = j; statement = e.statement } ∷ es;
    }) next

-- what comes out of a member is a pointer
out_full : (s : State) (h : NumberedHandle) (o : Option ℕ) → is_some o ≡ true → is_full (pointer_of (slot_as s h o)) ≡ true
out_full s h None e = e
out_full s h (Some o) e = refl

-- and then the hand is full
pub hand_out : (s : State) (slots : Slots) (h : NumberedHandle) → 0 < length slots → has_object h ≡ true
    → let l = set slots (hand slots) (slot_of s h) in is_full (slot_pointer l (hand l)) ≡ true
hand_out s slots h lt full =
    let l = set slots (hand slots) (slot_of s h) in
    let same : hand l ≡ hand slots = ap (λ (n : ℕ). n - 1) (length-set slots (hand slots) (slot_of s h)) in
    let inside : hand slots < length slots = omega (arith, lt) in
    ap (λ (i : ℕ). is_full (slot_pointer l i)) same
    ∙ ap (λ (y : Slot). is_full (pointer_of y)) (get_or-set_same slots (hand slots) (slot_of s h) plain inside)
    ∙ out_full s h h.object full
