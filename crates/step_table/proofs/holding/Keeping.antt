-- What other desks do changes nothing of what a desk holds.
use Rattle.std.proofs.Common.{◌≡◌, ℕ, suc, ◌<◌, ◌≤◌, Bool, true, cond, ◌≢◌, List, [], ◌∷◌, length}
use Rattle.std.proofs.Common.{◌==◌, Some, sym, refl, ap, ◌∙◌, subst, arith, get_or-set_other}
use Rattle.std.proofs.Common.{eq-eqb, eqb-true}
use Rattle.step_table.proofs.Prelude
use Prelude.{AtomicStep, Block, Claim, Clear, cond_both, Count, empty, ending, Expired, Finish}
use Prelude.{ghost_after_step, GhostState, Handle, handle_in_block, Has, has_same, Held, held}
use Prelude.{held_busy, HoldsBag, kind_of_member, Leave, Lock, Miss, model_state, moved_to}
use Prelude.{Nothing, num, num_cons, NumberedHandle, Object, object_of_block, OnCell, OnShelf}
use Prelude.{opening, owner_in, pending, Prepare, put_cases, put_other, Read, Same, same_after}
use Prelude.{same_held, Share, Shelve, slot_pointer, Slots, sound, State, still, TableInvariant}
use Prelude.{times_held, Unshelve, used_up, View, weak_in, WeakLeave, WeakShare, Write}
use Rattle.std.proofs.lemmas.Bool.{and_parts}
use Rattle.control_word.proofs.history.Kept.{block_after}
use Rattle.control_word.proofs.lists.Parts.{part}
use Rattle.control_word.specs.declared.model.event.Event.TheVariants as event
use Rattle.control_word.specs.Events.{new_object}
use Rattle.control_word.specs.State.{bag, weak_number}
use Rattle.step_table.proofs.tables.ShelfAtomicSteps.{shelf_framed}
use Rattle.step_table.proofs.holding.Owning.{same_owns, slot_held}
use Rattle.step_table.proofs.tables.CellAtomicSteps.{framed, same_cell}
use Rattle.step_table.proofs.tables.Places.{handle_busy, there}

-- what is counted of a desk's part
pub num_part : {A : Type 0} (who : A → ℕ) (d : ℕ) (p : A → Bool) (l : List A) → ((x : A) → p x ≡ true → who x ≡ d)
    → num p l ≡ num p (part who d l)
num_part who d p [] mine = refl
num_part who d p (x ∷ xs) mine =
    let i = num_part who d p xs mine in
    let a = num_cons p x xs in
    cond_both (who x == d) (x ∷ part who d xs) (part who d xs) (λ r. num p (x ∷ xs) ≡ num p r)
    (λ t. let b = num_cons p x (part who d xs) in omega (arith, i, a, b))
    (λ t. let n : num p (x ∷ []) ≡ 0 = cond_both (p x) (x ∷ []) [] (λ r. length r ≡ 0)
    (λ u. let e = eq-eqb (who x) d (mine x u) in cc) (λ u. refl) in omega (arith, i, a, n))

times_bag : (s : State) (d : ℕ) (h : NumberedHandle) → times_held s d h ≡ num (same_held (held d h)) (bag s d)
times_bag s d h = num_part (λ (x : Held). x.desk) d (same_held (held d h)) s.hands (λ x t. sym (eqb-true _ _ (and_parts _ _ t).0))

pub same_atomic_step : (v : GhostState) (e d : ℕ) (x : AtomicStep) → e ≢ d → Same (model_state v) (model_state (ghost_after_step v e x)) d
same_atomic_step v e d (Prepare b) n = still (model_state v) d
same_atomic_step v e d (Write b j m) n = still (model_state v) d
same_atomic_step v e d (Claim b enabled null fields) n = same_after {V = Nothing} (model_state v) d e (event.Make b enabled null fields tt) n (λ z. z)
same_atomic_step v e d (Share b p q) n = same_after {V = Nothing} (model_state v) d e (event.Share (owner_in v b p) q) n (λ z. z)
same_atomic_step v e d (Leave b p last) n = same_after {V = Nothing} (model_state v) d e (event.Leave (owner_in v b p) last) n (λ z. z)
same_atomic_step v e d (WeakShare b p) n = same_after {V = Nothing} (model_state v) d e (event.WeakShare (object_of_block v b) p) n (λ z. z)
same_atomic_step v e d (WeakLeave b p vacant) n = same_after {V = Nothing} (model_state v) d e (event.WeakLeave (weak_in v b p) vacant) n (λ z. z)
same_atomic_step v e d (Lock b p got) n = same_after {V = Nothing} (model_state v) d e (event.Lock (weak_in v b p) got) n (λ z. z)
same_atomic_step v e d (Count k b p m) n = still (model_state v) d
same_atomic_step v e d (Expired k b p x) n = still (model_state v) d
same_atomic_step v e d (Read b p m) n = still (model_state v) d
same_atomic_step v e d (Clear b m) n = same_after {V = Nothing} (model_state v) d e (event.ClearMember (object_of_block v b) m (empty (kind_of_member 2 m))) n
    (λ z. z)
same_atomic_step v e d (Finish b vacant) n = same_after {V = Nothing} (model_state v) d e (event.Finish (object_of_block v b) vacant tt) n (λ z. z)
same_atomic_step v e d (OnShelf b Shelve) n = same_after {V = Nothing} (model_state v) d e (event.Shelve b) n (λ z. z)
same_atomic_step v e d (OnShelf b Unshelve) n = same_after {V = Nothing} (model_state v) d e (event.Unshelve b) n (λ z. z)
same_atomic_step v e d (OnShelf b Miss) n = still (model_state v) d
same_atomic_step v e d (OnCell x) n = same_cell v e d x n

-- the block of an object that was made stays, whatever an atomic step does
block_stays : (v : GhostState) (e o : ℕ) (x : AtomicStep) → o ≤ (model_state v).made
    → ((model_state (ghost_after_step v e x)).object o).block ≡ ((model_state v).object o).block
block_stays v e o (Prepare b) le = refl
block_stays v e o (Write b j m) le = refl
block_stays v e o (Claim b enabled null fields) le = (block_after {V = Nothing} (model_state v) e o (event.Make b enabled null fields tt) le).0
block_stays v e o (Share b p q) le = refl
block_stays v e o (Leave b p last) le = (block_after {V = Nothing} (model_state v) e o (event.Leave (owner_in v b p) last) le).0
block_stays v e o (WeakShare b p) le = refl
block_stays v e o (WeakLeave b p vacant) le = refl
block_stays v e o (Lock b p got) le = refl
block_stays v e o (Count k b p m) le = refl
block_stays v e o (Expired k b p x) le = refl
block_stays v e o (Read b p m) le = refl
block_stays v e o (Clear b m) le = (block_after {V = Nothing} (model_state v) e o (event.ClearMember (object_of_block v b) m (empty (kind_of_member 2 m))) le).0
block_stays v e o (Finish b vacant) le = (block_after {V = Nothing} (model_state v) e o (event.Finish (object_of_block v b) vacant tt) le).0
block_stays v e o (OnShelf b x) le = ap (λ (s : State). (s.object o).block) (shelf_framed v e b x).2
block_stays v e o (OnCell x) le = (framed v e x).block o

-- so does whether it gives pointers to itself
pub enabled_stays : (v : GhostState) (e o : ℕ) (x : AtomicStep) → o ≤ (model_state v).made
    → ((model_state (ghost_after_step v e x)).object o).enabled ≡ ((model_state v).object o).enabled
enabled_stays v e o (Prepare b) le = refl
enabled_stays v e o (Write b j m) le = refl
enabled_stays v e o (Claim b enabled null fields) le =
    ap (λ (y : Object). y.enabled) (put_other (model_state v).object (suc (model_state v).made)
    (new_object (model_state v).owners b.0 enabled null fields) o (λ q. omega arith))
enabled_stays v e o (Share b p q) le = refl
enabled_stays v e o (Leave b p last) le =
    let i = object_of_block v b in
    let y = (model_state v).object i in
    put_cases (λ j (z : Object). z.enabled ≡ ((model_state v).object j).enabled) (model_state v).object i (cond last (moved_to (ending e) y) y) o
    (λ q. cond_both last (moved_to (ending e) y) y (λ (z : Object). z.enabled ≡ ((model_state v).object o).enabled)
    (λ t. ap (λ (k : ℕ). ((model_state v).object k).enabled) (sym q)) (λ t. ap (λ (k : ℕ). ((model_state v).object k).enabled) (sym q))) (λ q. refl)
enabled_stays v e o (WeakShare b p) le = refl
enabled_stays v e o (WeakLeave b p vacant) le = refl
enabled_stays v e o (Lock b p got) le = refl
enabled_stays v e o (Count k b p m) le = refl
enabled_stays v e o (Expired k b p x) le = refl
enabled_stays v e o (Read b p m) le = refl
enabled_stays v e o (Clear b m) le =
    put_cases (λ j (z : Object). z.enabled ≡ ((model_state v).object j).enabled) (model_state v).object (object_of_block v b) _ o
    (λ q. ap (λ (k : ℕ). ((model_state v).object k).enabled) (sym q)) (λ q. refl)
enabled_stays v e o (Finish b vacant) le =
    put_cases (λ j (z : Object). z.enabled ≡ ((model_state v).object j).enabled) (model_state v).object (object_of_block v b) _ o
    (λ q. ap (λ (k : ℕ). ((model_state v).object k).enabled) (sym q)) (λ q. refl)
enabled_stays v e o (OnShelf b x) le = ap (λ (s : State). (s.object o).enabled) (shelf_framed v e b x).2
enabled_stays v e o (OnCell x) le = (framed v e x).enabled o

-- the object in a block that a desk keeps is the same
pub kept_object : (v : GhostState) (e : ℕ) (b : Block) (x : AtomicStep) → TableInvariant v → TableInvariant (ghost_after_step v e x)
    → 0 < weak_number (model_state v) (object_of_block v b)
    → 0 < weak_number (model_state (ghost_after_step v e x)) (object_of_block v b) → object_of_block (ghost_after_step v e x) b ≡ object_of_block v b
kept_object v e b x kept kept' busy busy' =
    let o = object_of_block v b in
    let fine = sound (opening v.extent) v.history kept.stands.legal in
    let fine' = sound (opening v.extent) (ghost_after_step v e x).history kept'.stands.legal in
    let p = (fine'.placed o busy').0 in
    let c = block_stays v e o x (fine.latest_made b.0) ∙ (there v b kept busy).0 in
    subst (λ (k : ℕ). (model_state (ghost_after_step v e x)).latest k ≡ o) c p

still_held : (d : ℕ) (slots : Slots) (v : GhostState) (e : ℕ) (x : AtomicStep) (i : ℕ) (y : Handle) → e ≢ d → HoldsBag d slots v
    → slot_pointer slots i ≡ Some y
    → Has (held d (handle_in_block v y.kind y.block y.place)) (model_state (ghost_after_step v e x)).hands
still_held d slots v e x i y n holds at =
    has_same (model_state v) (model_state (ghost_after_step v e x)) d _ (same_atomic_step v e d x n) (slot_held d slots v i y holds at)

slot_object : (d : ℕ) (slots : Slots) (v : GhostState) (e : ℕ) (x : AtomicStep) (i : ℕ) (y : Handle) → e ≢ d → TableInvariant v
    → TableInvariant (ghost_after_step v e x) → HoldsBag d slots v
    → slot_pointer slots i ≡ Some y → object_of_block (ghost_after_step v e x) y.block ≡ object_of_block v y.block
slot_object d slots v e x i y n kept kept' holds at =
    kept_object v e y.block x kept kept' (handle_busy v d y.kind y.block y.place kept (slot_held d slots v i y holds at))
    (held_busy (opening v.extent) (model_state (ghost_after_step v e x)) d (object_of_block v y.block) y.kind y.place
    (sound (opening v.extent) (ghost_after_step v e x).history kept'.stands.legal) (still_held d slots v e x i y n holds at))

-- another desk's atomic step leaves what a desk holds
pub holds_others : (d : ℕ) (slots : Slots) (v : GhostState) (e : ℕ) (x : AtomicStep) → e ≢ d → TableInvariant v → TableInvariant (ghost_after_step v e x)
    → HoldsBag d slots v
    → HoldsBag d slots (ghost_after_step v e x)
holds_others d slots v e x n kept kept' holds =
    let same = same_atomic_step v e d x n in
    let w = ghost_after_step v e x in
    record {
      owned = λ h.
          times_bag (model_state w) d h ∙ ap (λ (l : List Held). num (same_held (held d h)) l) same.in_bag ∙ sym (times_bag (model_state v) d h)
          ∙ holds.owned h
          ∙ sym (same_owns v w h slots (λ i p at. slot_object d slots v e x i p n kept kept' holds at));
      size = ap (λ (l : List Held). length l) same.in_bag ∙ holds.size;
      formed = holds.formed;
    }

pub same_pending : (v : GhostState) (e d : ℕ) (x : AtomicStep) → e ≢ d → pending (ghost_after_step v e x) d ≡ pending v d
same_pending v e d x n = ap (λ (w : View Nothing). w.pending) (get_or-set_other v.views e d _ used_up (λ (q : d ≡ e). n (sym q)))
