-- What goes into a slot of a table or out of it, as acts of a thread.
use Rattle.std.proofs.Common.{◌≡◌, ℕ, zero, suc, ◌+◌, ◌-◌, ◌<◌, Bool, false, ◌≢◌, List, [], ◌∷◌}
use Rattle.std.proofs.Common.{length, slice_get, slice_set, Some, None, Option, sym, refl, ap, ◌∙◌}
use Rattle.std.proofs.Common.{subst, inl, inr, arith, length-set, get_or-set_other, set-set}
use Rattle.script_runner.proofs.Prelude
use Prelude.{Act, Acts, as_slot, Begun, Block, block_of_held, counting, DeskNow, Done, EmptiesSlot}
use Prelude.{EmptiesSlotWeakly, Ended, FitsSlots, Form, Gone, Held, is_full, IsAt, IsLeft, IsQuiet}
use Prelude.{IsSeated, Kind, kind_of_held, LeavesSlot, LeavesWeakly, Leaving, LetsGo, MovesSlot}
use Prelude.{Owner, piled, Place, place_of_held, placed, plain, pointer_of, row, set_comm}
use Prelude.{shown_slots, slot_by, slot_pointer, slot_value, Slots, TableNow, Weak}
use Rattle.control_word.specs.declared.model.handle.Kind.TheVariants as kind
use Rattle.script_runner.specs.SlotCalls.{Assigns, Resets}
use Rattle.script_runner.specs.Tables as table
use Rattle.script_runner.proofs.Leavings.{LeavesAs, slot_left}
use Rattle.script_runner.proofs.Seating.{has_pointer, no_pointer, quietly, same_some, shown_at}
use Rattle.script_runner.proofs.Seating.{shown_set, hand_at}
use Rattle.script_runner.specs.Calls as calls
use Rattle.shared_handle.specs.declared.endings.Ending.{Ending}
use Rattle.shared_handle.specs.declared.endings.Left.TheVariants as left
use Rattle.shared_handle.specs.declared.endings.Left.{Left}
use Rattle.step_threads.specs.Frames.{hand as hand_of}
use Rattle.step_threads.specs.Rows as rows
use Rattle.step_threads.specs.declared.programs.act.Act.TheVariants as act

pub slice_get-set_other : {A : Type 0} (l : List A) (i k : ℕ) (x : A) → k ≢ i → slice_get (slice_set l i x) k ≡ slice_get l k
slice_get-set_other [] i k x apart = refl
slice_get-set_other (y ∷ l) zero zero x apart = absurd (apart refl)
slice_get-set_other (y ∷ l) zero (suc k) x apart = refl
slice_get-set_other (y ∷ l) (suc i) zero x apart = refl
slice_get-set_other (y ∷ l) (suc i) (suc k) x apart = slice_get-set_other l i k x (λ e. apart (ap suc e))

pub slice_get-set_same : {A : Type 0} (l : List A) (i : ℕ) (x : A) → i < length l → slice_get (slice_set l i x) i ≡ Some x
slice_get-set_same [] i x lt = let no : ⊥ = omega (arith, lt) in absurd no
slice_get-set_same (y ∷ l) zero x lt = refl
slice_get-set_same (y ∷ l) (suc i) x lt = slice_get-set_same l i x (omega (arith, lt))

module _ {V : Type 0} (worth : Form → V) (m i : ℕ) (taken : Bool) (t u : TableNow V) (fits : FitsSlots t.desk t.slots) (lt : i < m) where
  -- what lay in the slot left, with so many handles counted meanwhile
  old_left : (n : ℕ) (a : Act) (old : table.Slot) (at : calls.IsLeaveOf a (shown_slots m t.slots) i) → slice_get t.slots i ≡ Some old
      → LeavesSlot (counting n t.desk) t.endings old u.desk u.endings
      → LeavesAs worth (counting n t.desk) u.desk (shown_slots m t.slots) a i t.endings u.endings at
  old_left n a old at was leaves =
      slot_left worth (counting n t.desk) u.desk (shown_slots m t.slots) a i t.endings u.endings at old
      (λ h b is e. counted (has_pointer m i t h b fits lt (was ∙ ap Some is) e))
      (λ h is e. no_pointer m i t h lt (was ∙ ap Some is) e)
      (λ is. ap pointer_of (shown_at m t.slots i old lt was ∙ ap as_slot is)) leaves
    where
      counted : {l : Slots} {k : Kind} {b : Block} {p : Option Place} → calls.HasPointer V t.desk l i k b p
          → calls.HasPointer V (counting n t.desk) l i k b p
      counted x = record { at = x.at; has = x.has }

  as_done : (n : ℕ) (a : Act) (last : Bool) (left : Option Ended) → Done worth (counting n t.desk) (shown_slots m t.slots) a (rows.Left last left) u.desk
      → Done worth t.desk (shown_slots m t.slots) a (rows.Left last left) u.desk
  as_done n a last left (inl x) = inl (record { shape = x.0.shape; name = x.0.name; seen = x.0.seen }, x.1)
  as_done n a last left (inr x) =
      inr (x.0, record { same = x.1.same; between = x.1.between; seen = x.1.seen; quiet = x.1.quiet; legal = x.1.legal }, x.2)

  -- an act that leaves a slot, by what became of the slots
  left_by : (n : ℕ) (a : Act) (at : calls.IsLeaveOf a (shown_slots m t.slots) i)
      → (x : LeavesAs worth (counting n t.desk) u.desk (shown_slots m t.slots) a i t.endings u.endings at)
      → shown_slots m u.slots ≡ (rows.row a (shown_slots m t.slots) taken (rows.Left x.last x.left)).slots
      → Begun t.endings (rows.row a (shown_slots m t.slots) taken (rows.Left x.last x.left)).ending u.endings
      → Leaving worth m t taken a u
  left_by n a at x slots ends =
      record { last = x.last; left = x.left; acts = record { done = as_done n a x.last x.left x.done; slots = slots; ends = ends }; told = x.told }

  -- an empty handle was assigned to the slot
  emptied : (n : ℕ) (h : Held) (a : Act) (at : calls.IsLeaveOf a (shown_slots m t.slots) i) → as_slot (Some h) ≡ plain
      → (c : Assigns (counting n t.desk) t.slots t.endings i h u.desk u.slots u.endings)
      → ((last : Bool) (left : Option Ended) → rows.row a (shown_slots m t.slots) taken (rows.Left last left)
      ≡ rows.leaving (slice_set (shown_slots m t.slots) i plain, taken) (slot_pointer (shown_slots m t.slots) i) last left)
      → Leaving worth m t taken a u
  emptied n h a at none c row =
      let x = old_left n a c.old at c.was c.leaves in
      left_by n a at x
      (ap (shown_slots m) c.slots ∙ (shown_set m t.slots i (Some h) ∙ (ap (λ s. slice_set (shown_slots m t.slots) i s) none
      ∙ sym (ap (λ (r : rows.Row). r.slots) (row x.last x.left)))))
      (subst (λ (r : rows.Row). Begun t.endings r.ending u.endings) (sym (row x.last x.left)) x.ends)

  pub empties : (a : Act) → calls.IsLeaveOf a (shown_slots m t.slots) i
      → ((last : Bool) (left : Option Ended) → rows.row a (shown_slots m t.slots) taken (rows.Left last left)
      ≡ rows.leaving (slice_set (shown_slots m t.slots) i plain, taken) (slot_pointer (shown_slots m t.slots) i) last left)
      → EmptiesSlot t i u → Leaving worth m t taken a u
  empties a at row c =
      let e = c.comes.event in
      emptied (t.desk.held + 1) c.handle a at
      (ap (λ x. as_slot (Some x)) c.comes.is ∙ (λ j. slot_by kind.Owner (e.0 j) (e.1 j)))
      (subst (λ d. Assigns d t.slots t.endings i c.handle u.desk u.slots u.endings) e.2 c.assigns) row

  pub empties_weakly : (a : Act) → calls.IsLeaveOf a (shown_slots m t.slots) i
      → ((last : Bool) (left : Option Ended) → rows.row a (shown_slots m t.slots) taken (rows.Left last left)
      ≡ rows.leaving (slice_set (shown_slots m t.slots) i plain, taken) (slot_pointer (shown_slots m t.slots) i) last left)
      → EmptiesSlotWeakly t i u → Leaving worth m t taken a u
  empties_weakly a at row c =
      let e = c.comes.event in
      emptied (t.desk.held + 1) c.handle a at
      (ap (λ x. as_slot (Some x)) c.comes.is ∙ (λ j. slot_by kind.Weak (e.0 j) (e.1 j)))
      (subst (λ d. Assigns d t.slots t.endings i c.handle u.desk u.slots u.endings) e.2 c.assigns) row

  -- a handle left its slot, which is vacant then
  pub resets : (a : Act) (gone : Gone) → calls.IsLeaveOf a (shown_slots m t.slots) i
      → ((last : Bool) (left : Option Ended) → rows.row a (shown_slots m t.slots) taken (rows.Left last left)
      ≡ rows.leaving (slice_set (shown_slots m t.slots) i plain, taken) (slot_pointer (shown_slots m t.slots) i) last left)
      → Resets t i gone u → Leaving worth m t taken a u
  resets a gone at row c =
      let x = old_left t.desk.held a (Some c.of) at c.was (gone, c.leaves) in
      left_by t.desk.held a at x
      (ap (shown_slots m) c.slots ∙ (shown_set m t.slots i None ∙ sym (ap (λ (r : rows.Row). r.slots) (row x.last x.left))))
      (subst (λ (r : rows.Row). Begun t.endings r.ending u.endings) (sym (row x.last x.left)) x.ends)

-- what was in hand is in another slot
pub put_slots : (l : Slots) (k h : ℕ) → hand_of l ≡ h → k ≢ h
    → slice_set (slice_set l h plain) k (slot_value l h) ≡ placed k (slice_set l k plain)
put_slots l k h is away =
    let l' = slice_set l k plain in
    let e : hand_of l' ≡ h = ap (λ n. n - 1) (length-set l k plain) ∙ is in
    let v : slot_value l' h ≡ slot_value l h = get_or-set_other l k h plain plain (λ q. away (sym q)) in
    sym (set_comm l k h (slot_value l h) plain away)
    ∙ (ap (λ q. slice_set q h plain) (sym (set-set l k plain (slot_value l h)))
    ∙ (ap (λ q. slice_set (slice_set l' k q) h plain) (sym v)
    ∙ ap (λ q. slice_set (slice_set l' k (slot_value l' q)) q plain) (sym e)))

pub idle_slots : (l : Slots) (k h : ℕ) → hand_of l ≡ h → k ≢ h → slice_set (slice_set l h plain) k (slot_value l h) ≡ placed k l
idle_slots l k h is away =
    sym (set_comm l k h (slot_value l h) plain away) ∙ ap (λ q. slice_set (slice_set l k (slot_value l q)) q plain) (sym is)

module _ {V : Type 0} where
  -- a handle without an object left
  pub quiet_left : (d e : DeskNow V) (xs ys : List (Ending V)) (h : Held) (gone : Gone) → block_of_held h ≡ None → LetsGo d xs h gone e ys
      → IsQuiet d e × (ys ≡ xs)
  quiet_left d e xs ys (Owner h) gone none drops = go drops.left drops.leaves drops.are
    where
      go : (y : Left V) → IsLeft d h.block h.place y e → ys ≡ piled xs y → IsQuiet d e × (ys ≡ xs)
      go left.Empty leaves are = (quietly d e _ leaves.1, are)
      go left.Others leaves are = let no = sym none ∙ leaves.1 in absurd cc
      go (left.Last x) leaves are = let no = sym none ∙ leaves.0 in absurd cc
  quiet_left d e xs ys (Weak w) gone none leaves =
      (quietly d e _ (subst (λ b. LeavesWeakly d b w.place leaves.2.0 e) none leaves.2.1).0, leaves.1)

  pub quiet_slot : (d e : DeskNow V) (xs ys : List (Ending V)) (m i : ℕ) (ss : List table.Slot) (s : table.Slot) → i < m → slice_get ss i ≡ Some s
      → is_full (slot_pointer (shown_slots m ss) i) ≡ false → LeavesSlot d xs s e ys → IsQuiet d e × (ys ≡ xs)
  quiet_slot d e xs ys m i ss None lt at free leaves = (quietly d e d.held leaves.0, leaves.1)
  quiet_slot d e xs ys m i ss (Some h) lt at free leaves = quiet_left d e xs ys h leaves.0 (go (block_of_held h) refl) leaves.1
    where
      go : (b : Option Block) → block_of_held h ≡ b → block_of_held h ≡ None
      go None is = is
      go (Some b) is =
          let full : slot_pointer (shown_slots m ss) i ≡ Some (calls.pointer (kind_of_held h) b (place_of_held h)) =
          ap pointer_of (shown_at m ss i (Some h) lt at ∙ ap (λ x. slot_by (kind_of_held h) x (place_of_held h)) is) in
          let no = sym (ap is_full full) ∙ free in absurd cc

module _ {V : Type 0} (m i hand : ℕ) (t u : TableNow V) (is : IsSeated m hand t) (lt : i < hand) where
  below : i < m
  below = let e = is.last in omega (arith, e, lt)

  apart : i ≢ hand
  apart e = omega (arith, e, lt)

  put_shown : (of : Held) → IsAt t hand of → u.slots ≡ slice_set (slice_set t.slots hand None) i (Some of)
      → shown_slots m u.slots ≡ slice_set (slice_set (shown_slots m t.slots) hand plain) i (slot_value (shown_slots m t.slots) hand)
  put_shown of at set =
      ap (shown_slots m) set
      ∙ (shown_set m (slice_set t.slots hand None) i (Some of)
      ∙ (ap (λ l. slice_set l i (as_slot (Some of))) (shown_set m t.slots hand None)
      ∙ ap (λ x. slice_set (slice_set (shown_slots m t.slots) hand plain) i x)
      (sym (shown_at m t.slots hand (Some of) (let e = is.last in omega (arith, e)) at))))

  was_there : (s : table.Slot) → slice_get (slice_set t.slots hand None) i ≡ Some s → slice_get t.slots i ≡ Some s
  was_there s was = sym (slice_get-set_other t.slots hand i None apart) ∙ was

  -- what was in hand was put into the slot, and what lay there had no object
  pub puts_idle : MovesSlot t hand i u → is_full (slot_pointer (shown_slots m t.slots) i) ≡ false
      → IsQuiet t.desk u.desk × (shown_slots m u.slots ≡ placed i (shown_slots m t.slots)) × (u.endings ≡ t.endings)
  puts_idle v free =
      let a = v.assigns in
      let l = shown_slots m t.slots in
      let h = hand_at m hand t.slots is.many is.last in
      let q = quiet_slot t.desk u.desk t.endings u.endings m i t.slots a.old below (was_there a.old a.was) free a.leaves in
      (q.0, put_shown v.of v.at a.slots ∙ idle_slots l i hand h apart, q.1)

module _ {V : Type 0} (worth : Form → V) (m i hand : ℕ) (t u : TableNow V) (is : IsSeated m hand t) (lt : i < hand) where
  -- what was in hand was put into the slot, and what lay there left
  pub puts : (taken : Bool) → MovesSlot t hand i u → Leaving worth m t taken (act.Put i) u
  puts taken v =
      let a = v.assigns in
      let l = shown_slots m t.slots in
      let h = hand_at m hand t.slots is.many is.last in
      let x = old_left worth m i taken t u is.fits (below m i hand t u is lt) t.desk.held (act.Put i) a.old refl
      (was_there m i hand t u is lt a.old a.was) a.leaves in
      left_by worth m i taken t u is.fits (below m i hand t u is lt) t.desk.held (act.Put i) refl x
      (put_shown m i hand t u is lt v.of v.at a.slots ∙ put_slots l i hand h (apart m i hand t u is lt)) x.ends

  -- what the slot had is in hand, and the slot has an empty handle
  moved : (between : TableNow V) (e : Held) (n : ℕ) → slice_get t.slots hand ≡ Some None → MovesSlot t i hand between → as_slot (Some e) ≡ plain
      → Assigns (counting n between.desk) between.slots between.endings i e u.desk u.slots u.endings
      → (taken : Bool) → Acts worth m t taken (act.Move i) rows.Plain u
  moved between e n none v empty c taken =
      let a = v.assigns in
      let l = shown_slots m t.slots in
      let free : a.old ≡ None =
      same_some a.old None (sym a.was ∙ (slice_get-set_other t.slots i hand None (λ q. apart m i hand t u is lt (sym q)) ∙ none)) in
      let f : LeavesSlot t.desk t.endings None between.desk between.endings =
      subst (λ s. LeavesSlot t.desk t.endings s between.desk between.endings) free a.leaves in
      let set = a.slots in
      let there : slice_get between.slots i ≡ Some None =
      ap (λ k. slice_get k i) set
      ∙ (slice_get-set_other (slice_set t.slots i None) hand i (Some v.of) (apart m i hand t u is lt)
      ∙ slice_get-set_same t.slots i None (let a = is.many in let b = is.last in omega (arith, a, b, lt))) in
      let old : c.old ≡ None = same_some c.old None (sym c.was ∙ there) in
      let g : LeavesSlot (counting n between.desk) between.endings None u.desk u.endings =
      subst (λ s. LeavesSlot (counting n between.desk) between.endings s u.desk u.endings) old c.leaves in
      let h = hand_at m hand t.slots is.many is.last in
      let now : shown_slots m u.slots ≡ slice_set (slice_set (slice_set l i plain) hand (slot_value l i)) i plain =
      ap (shown_slots m) c.slots
      ∙ (shown_set m between.slots i (Some e)
      ∙ (ap (λ k. slice_set (shown_slots m between.slots) i k) empty
      ∙ ap (λ k. slice_set k i plain) (ap (shown_slots m) set
      ∙ (shown_set m (slice_set t.slots i None) hand (Some v.of)
      ∙ (ap (λ k. slice_set k hand (as_slot (Some v.of))) (shown_set m t.slots i None)
      ∙ ap (λ k. slice_set (slice_set l i plain) hand k) (sym (shown_at m t.slots i (Some v.of) (below m i hand t u is lt) v.at))))))) in
      record {
        done = inl (quietly t.desk u.desk n (g.0 ∙ ap (counting n) f.0), refl);
        slots = now
            ∙ (ap (λ k. slice_set k i plain) (set_comm l i hand plain (slot_value l i) (apart m i hand t u is lt))
            ∙ (set-set (slice_set l hand (slot_value l i)) i plain plain
            ∙ ap (λ k. slice_set (slice_set l k (slot_value l i)) i plain) (sym h)));
        ends = g.1 ∙ f.1;
      }

  pub moves : (between : TableNow V) (taken : Bool) → slice_get t.slots hand ≡ Some None → MovesSlot t i hand between → EmptiesSlot between i u
      → Acts worth m t taken (act.Move i) rows.Plain u
  moves between taken none v c =
      let e = c.comes.event in
      moved between c.handle (between.desk.held + 1) none v (ap (λ x. as_slot (Some x)) c.comes.is ∙ (λ j. slot_by kind.Owner (e.0 j) (e.1 j)))
      (subst (λ d. Assigns d between.slots between.endings i c.handle u.desk u.slots u.endings) e.2 c.assigns) taken

  pub moves_weakly : (between : TableNow V) (taken : Bool) → slice_get t.slots hand ≡ Some None → MovesSlot t i hand between
      → EmptiesSlotWeakly between i u
      → Acts worth m t taken (act.Move i) rows.Plain u
  moves_weakly between taken none v c =
      let e = c.comes.event in
      moved between c.handle (between.desk.held + 1) none v (ap (λ x. as_slot (Some x)) c.comes.is ∙ (λ j. slot_by kind.Weak (e.0 j) (e.1 j)))
      (subst (λ d. Assigns d between.slots between.endings i c.handle u.desk u.slots u.endings) e.2 c.assigns) taken
