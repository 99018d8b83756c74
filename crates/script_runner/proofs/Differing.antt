-- A comparison of a table with a cell that differs, as acts of a thread.
use Rattle.std.proofs.Common.{◌≡◌, ℕ, ◌+◌, ◌-◌, ◌<◌, Bool, true, false, cond, not, ◌&&◌, ◌≢◌, List}
use Rattle.std.proofs.Common.{◌∷◌, ◌++◌, length, slice_get, slice_set, Some, None, Option, sym}
use Rattle.std.proofs.Common.{refl, ap, ◌∙◌, subst, inl, inr, arith, length-set, get_or-set_other}
use Rattle.std.proofs.Common.{get_or-set_same, set-set}
use Rattle.script_runner.proofs.Prelude
use Prelude.{Acts, AddsEvent, after, as_slot, Block, block_of_held, calls_keep_latest}
use Prelude.{cell_of_name, CellName, Compared, DeskNow, entry, Event, Form, handle, handle_in, Has}
use Prelude.{has_object, HasHandle, held, idle, is_full, is_of, IsLegal, IsQuiet, IsSeated, Kind}
use Prelude.{kind_at, kind_of_held, latest_of, leads, LeavesSlot, Leaving}
use Prelude.{legal_seen, MovesSlot, NumberedHandle, opening_of, Place, place_of_held, plain}
use Prelude.{pointer_of, same_kept, set_comm, shown_held, shown_slots, Slot, slot_by, slot_of}
use Prelude.{slot_pointer, slot_value, Slots, slots_idle, State, TableNow}
use Rattle.control_block.specs.CellCalls.{cell_of_site as desk_cell}
use Rattle.control_word.proofs.history.Kept.{has_same}
use Rattle.control_word.specs.State.{Held}
use Rattle.control_word.specs.declared.model.event.Cell.{Cell as Named}
use Rattle.control_word.specs.declared.model.event.Event.TheVariants as event
use Rattle.script_runner.specs.Compares as compares
use Rattle.script_runner.specs.Tables as table
use Rattle.script_runner.proofs.Celled.{IsFound, came_slot, is_found}
use Rattle.script_runner.proofs.Comparing.{got_handle, has_handle}
use Rattle.script_runner.proofs.Exchanging.{is_of_own, told_as}
use Rattle.script_runner.proofs.Leavings.{slot_left}
use Rattle.script_runner.proofs.Putting.{idle_slots, put_slots, quiet_slot, slice_get-set_other}
use Rattle.script_runner.proofs.Seating as seating
use Rattle.script_runner.specs.Calls as calls
use Rattle.script_runner.specs.CellCalls.{DiffersIn}
use Rattle.step_table.specs.CellAtomicSteps.{kind_in_state as kind_there}
use Rattle.step_table.specs.Contents as contents
use Rattle.step_threads.specs.Frames.{hand as hand_of, other as other_of}
use Rattle.step_threads.specs.declared.programs.act.Act.TheVariants as act

keeps_by : {A : Type 0} (b : Bool) (x y : A) (l : List A) → Has x l → Has x (cond b (y ∷ l) l)
keeps_by true x y l has = inr has
keeps_by false x y l has = has

module _ (V : Type 0) where
  differs_made : (c : Named) (expected new old : NumberedHandle) (s : State) (d : ℕ) (weak : Bool)
      → (after {V = V} s d (event.Compare c expected new old false weak)).made ≡ s.made
  differs_made c expected new old s d weak = refl

  differs_gets : (c : Named) (expected new : NumberedHandle) (k : Kind) (o : ℕ) (p : Option Place) (s : State) (d : ℕ) (weak : Bool)
      → Has (held d (handle k (Some o) p)) (after {V = V} s d (event.Compare c expected new (handle k (Some o) p) false weak)).hands
  differs_gets c expected new k o p s d weak = inl refl

  differs_keeps : (c : Named) (expected new old : NumberedHandle) (s : State) (d : ℕ) (weak : Bool) (x : Held) → Has x s.hands
      → Has x (after {V = V} s d (event.Compare c expected new old false weak)).hands
  differs_keeps c expected new old s d weak x has = keeps_by (has_object old) x (held d old) s.hands has

module _ {V : Type 0} where
  -- a handle that the desk had it has still
  kept_handle : (d e : DeskNow V) (v : Event V) (adds : AddsEvent d v e) (k : Kind) (p : Option Place) (b : Block) → HasHandle d k p b.0
      → ((s : State) (n : ℕ) (x : Held) → Has x s.hands → Has x (after s n v).hands) → HasHandle e k p b.0
  kept_handle d e v adds k p b has keeps =
      let z = opening_of d.shape in
      let h = adds.between ++ d.seen in
      let legal = subst (IsLegal z) adds.seen adds.legal in
      let old = legal_seen z adds.between d.seen legal.0 in
      let o = latest_of d b.0 in
      let mine = shown_held z d.seen d.name k p b.0 old has in
      let there = has_same (leads z d.seen) (leads z h) d.name (handle k (Some o) p) (same_kept z adds.between d.seen d.name adds.quiet) mine.0 in
      let now = keeps (leads z h) d.name (held d.name (handle k (Some o) p)) there in
      has_handle d e v adds k b p (subst (λ q. Has (held d.name (handle k (Some q) p)) (leads z (entry d.name v ∷ h)).hands)
      (sym (calls_keep_latest d v e adds k p b.0 has)) now)

module _ {V : Type 0} (worth : Form → V) (m k hand other : ℕ) (t after u : TableNow V) (c : CellName) (weak : Bool) (is : IsSeated m hand t)
    (two : other + 1 ≡ hand) (lt : k < other) (none : slice_get t.slots other ≡ Some None)
    (x : compares.ComparesSlots weak t c k hand false after) (v : MovesSlot after hand other u)
    (found : IsFound t (shown_slots m t.slots) c x.site) where
  abbrev l : Slots
  l = shown_slots m t.slots

  abbrev came : Slot
  came = as_slot (Some x.found)

  abbrev between : TableNow V
  between = record { desk = x.between; slots = slice_set (slice_set t.slots other (Some x.new)) hand (Some x.found); endings = t.endings }

  abbrev l1 : Slots
  l1 = shown_slots m between.slots

  hand_is : hand_of l ≡ hand
  hand_is = seating.hand_at m hand t.slots is.many is.last

  other_is : other_of l ≡ other
  other_is = let many = seating.shown_many m t.slots is.many in let last = is.last in omega (arith, many, last, two)

  apart : hand ≢ other
  apart e = let b : ⊥ = omega (arith, two, e) in b

  away : k ≢ hand
  away e = let b : ⊥ = omega (arith, two, lt, e) in b

  aside : k ≢ other
  aside e = let b : ⊥ = omega (arith, lt, e) in b

  below : k < m
  below = let e = is.last in omega (arith, e, two, lt)

  last : hand < m
  last = let e = is.last in omega (arith, e)

  new_is : as_slot (Some x.new) ≡ slot_value l hand
  new_is = sym (seating.shown_at m t.slots hand (Some x.new) last x.at.1)

  l1_is : l1 ≡ slice_set (slice_set l other (slot_value l hand)) hand came
  l1_is = seating.shown_set m (slice_set t.slots other (Some x.new)) hand (Some x.found)
      ∙ ap (λ q. slice_set q hand came) (seating.shown_set m t.slots other (Some x.new) ∙ ap (λ y. slice_set l other y) new_is)

  l1_many : length l1 ≡ length l
  l1_many = ap length l1_is ∙ (length-set (slice_set l other (slot_value l hand)) hand came ∙ length-set l other (slot_value l hand))

  hand_then : hand_of l1 ≡ hand
  hand_then = ap (λ n. n - 1) l1_many ∙ hand_is

  there : slot_value l1 hand ≡ came
  there =
      ap (λ q. slot_value q hand) l1_is
      ∙ get_or-set_same (slice_set l other (slot_value l hand)) hand came plain
      (let many = seating.shown_many m t.slots is.many in let n = length-set l other (slot_value l hand) in omega (arith, many, n, last))

  slot_k : slot_value l1 k ≡ slot_value l k
  slot_k = ap (λ q. slot_value q k) l1_is ∙ (get_or-set_other (slice_set l other (slot_value l hand)) hand k came plain away
      ∙ get_or-set_other l other k (slot_value l hand) plain aside)

  -- where all lies at the end
  of_is : v.of ≡ x.new
  of_is = seating.same_some v.of x.new (seating.same_some (Some v.of) (Some x.new)
      (sym v.at ∙ (ap (λ ss. slice_get ss hand) x.follows.slots ∙ (slice_get-set_other t.slots k hand (Some x.found) (λ e. away (sym e)) ∙ x.at.1))))

  moved : LeavesSlot after.desk after.endings None u.desk u.endings
  moved =
      let a = v.assigns in
      subst (λ s. LeavesSlot after.desk after.endings s u.desk u.endings)
      (seating.same_some a.old None (sym a.was ∙ (slice_get-set_other after.slots hand other None (λ e. apart (sym e))
      ∙ (ap (λ ss. slice_get ss other) x.follows.slots ∙ (slice_get-set_other t.slots k other (Some x.found) (λ e. aside (sym e)) ∙ none))))) a.leaves

  u_is : shown_slots m u.slots ≡ slice_set (slice_set l1 hand plain) k (slot_value l1 hand)
  u_is =
      let nv = slot_value l hand in
      ap (shown_slots m) v.assigns.slots
      ∙ (seating.shown_set m (slice_set after.slots hand None) other (Some v.of)
      ∙ ((λ j. slice_set ((seating.shown_set m after.slots hand None ∙ ap (λ q. slice_set q hand plain)
      (ap (shown_slots m) x.follows.slots ∙ seating.shown_set m t.slots k (Some x.found))) j) other ((ap (λ h. as_slot (Some h)) of_is ∙ new_is) j))
      ∙ (ap (λ q. slice_set q other nv) (set_comm l k hand came plain away)
      ∙ (set_comm (slice_set l hand plain) k other came nv aside
      ∙ (ap (λ q. slice_set q k came) (set_comm l hand other plain nv apart
      ∙ (sym (set-set (slice_set l other nv) hand came plain) ∙ ap (λ q. slice_set q hand plain) (sym l1_is)))
      ∙ ap (λ y. slice_set (slice_set l1 hand plain) k y) (sym there))))))

  compares_in : Acts worth m t true (act.Compare k c weak) (Compared false came) between
  compares_in =
      let q = kind_at c in
      let adds = x.compares in
      let s = calls.state_before_event V adds in
      let kinds : kind_there s (cell_of_name s l c) ≡ q = found.kinds _ x.between adds in
      let held : came ≡ slot_of s (handle_in x.between q (block_of_held x.found) (place_of_held x.found)) =
      ap (λ y. slot_by y (block_of_held x.found) (place_of_held x.found)) x.kinds.2
      ∙ came_slot t.desk x.between _ adds q (place_of_held x.found) (block_of_held x.found)
      (λ s d. differs_made V (desk_cell t.desk x.site) (handle_in t.desk q (block_of_held x.there) (place_of_held x.there))
      (handle_in t.desk q (block_of_held x.new) (place_of_held x.new)) (handle_in x.between q (block_of_held x.found) (place_of_held x.found)) s d weak) got in
      let one = ap (λ r. contents.named_handle s r (slot_value l k)) kinds ∙ told_as m k t x.between _ adds x.there q is.fits below x.at.0 x.kinds.0 in
      let two' = ap (λ r. contents.named_handle s r (slot_value l (hand_of l))) kinds ∙ (ap (λ n. contents.named_handle s q (slot_value l n)) hand_is
      ∙ told_as m hand t x.between _ adds x.new q is.fits last x.at.1 x.kinds.1) in
      record {
        done = inr (
          event.Compare (desk_cell t.desk x.site) (handle_in t.desk q (block_of_held x.there) (place_of_held x.there))
              (handle_in t.desk q (block_of_held x.new) (place_of_held x.new))
              (handle_in x.between q (block_of_held x.found) (place_of_held x.found)) false weak,
          adds,
          (
            handle_in x.between q (block_of_held x.found) (place_of_held x.found),
            (λ j. Some (event.Compare (sym (found.named _ x.between adds) j) (sym one j) (sym two' j)
                (handle_in x.between q (block_of_held x.found) (place_of_held x.found)) false weak)),
            held,
          ),
        );
        slots = l1_is ∙ (λ j. slice_set (slice_set l (sym other_is j) (slot_value l (sym hand_is j))) (sym hand_is j) came);
        ends = refl;
      }
    where
      got : (b : Block) → block_of_held x.found ≡ Some b → HasHandle x.between (kind_at c) (place_of_held x.found) b.0
      got b e =
          let q = kind_at c in
          let one = handle_in t.desk q (block_of_held x.there) (place_of_held x.there) in
          let new = handle_in t.desk q (block_of_held x.new) (place_of_held x.new) in
          let adds = subst (λ y. AddsEvent t.desk
          (event.Compare (desk_cell t.desk x.site) one new (handle_in x.between q y (place_of_held x.found)) false weak)
          x.between) e x.compares in
          got_handle t.desk x.between (event.Compare (desk_cell t.desk x.site) one new (handle_in x.between q (Some b) (place_of_held x.found)) false weak)
          adds q b (place_of_held x.found)
          (λ s n. differs_gets V (desk_cell t.desk x.site) one new q (latest_of x.between b.0) (place_of_held x.found) s n weak)

  old_leaves : LeavesSlot x.between t.endings x.follows.old u.desk u.endings
  old_leaves =
      subst (λ d. LeavesSlot x.between t.endings x.follows.old d u.endings) (sym moved.0)
      (subst (λ ys. LeavesSlot x.between t.endings x.follows.old after.desk ys) (sym moved.1) x.follows.leaves)

  old_at : (s : table.Slot) → x.follows.old ≡ s → slot_value l1 k ≡ as_slot s
  old_at s e = slot_k ∙ seating.shown_at m t.slots k s below (x.follows.was ∙ ap Some e)

  puts : Leaving worth m between true (act.Put k) u
  puts =
      let q = kind_at c in
      let one = handle_in t.desk q (block_of_held x.there) (place_of_held x.there) in
      let new = handle_in t.desk q (block_of_held x.new) (place_of_held x.new) in
      let y = slot_left worth x.between u.desk l1 (act.Put k) k t.endings u.endings refl x.follows.old
      (λ h b e f. record {
        at = ap pointer_of (old_at (Some h) e ∙ seating.as_parts h (kind_of_held h) (Some b) (place_of_held h) refl f refl);
        has = kept_handle t.desk x.between _ x.compares (kind_of_held h) (place_of_held h) b
            (seating.has_object t.desk t.slots k h b is.fits (x.follows.was ∙ ap Some e) f)
            (λ s n y. differs_keeps V (desk_cell t.desk x.site) one new (handle_in x.between q (block_of_held x.found) (place_of_held x.found)) s n weak y);
      })
      (λ h e f. ap pointer_of (old_at (Some h) e ∙ seating.as_parts h (kind_of_held h) None (place_of_held h) refl f refl))
      (λ e. ap pointer_of (old_at None e)) old_leaves in
      record {
        last = y.last;
        left = y.left;
        acts = record { done = y.done; slots = u_is ∙ put_slots l1 k hand hand_then away; ends = y.ends };
        told = y.told;
      }

  puts_none : idle (act.Put k) l1 true ≡ true
      → IsQuiet x.between u.desk × (shown_slots m u.slots ≡ slots_idle (act.Put k) l1 true) × (u.endings ≡ t.endings)
  puts_none free =
      let q = quiet_slot x.between u.desk t.endings u.endings m k t.slots x.follows.old below x.follows.was
      (as_false (is_full (slot_pointer l k)) (ap (λ y. not (true && is_full (pointer_of y))) (sym slot_k) ∙ free)) old_leaves in
      (q.0, u_is ∙ idle_slots l1 k hand hand_then away, q.1)
    where
      as_false : (b : Bool) → not (true && b) ≡ true → b ≡ false
      as_false false e = refl
      as_false true e = absurd cc

  busy : idle (act.Compare k c weak) l true ≡ false
  busy =
      let own = is_of_own x.new (kind_at c) (x.kinds.1) in
      let its = is_of_own x.there (kind_at c) (x.kinds.0) in
      let a : is_of (kind_at c) (slot_value l (hand_of l)) ≡ true =
      ap (λ n. is_of (kind_at c) (slot_value l n)) hand_is
      ∙ (ap (λ y. is_of (kind_at c) y) (seating.shown_at m t.slots hand (Some x.new) last x.at.1) ∙ own) in
      let b : is_of (kind_at c) (slot_value l k) ≡ true =
      ap (λ y. is_of (kind_at c) y) (seating.shown_at m t.slots k (Some x.there) below x.at.0) ∙ its in
      λ j. not (((true && found.there j) && a j) && b j)

module _ {V : Type 0} where
  pub compares_differ : DiffersIn V
  compares_differ worth m k hand other t after u c weak is two lt none in_shape of x v =
      let found = is_found m t is.fits is.stands.limits c x.site in_shape of x.is in (
        busy worth m k hand other t after u c weak is two lt none x v found,
        record {
          between = between worth m k hand other t after u c weak is two lt none x v found;
          held = as_slot (Some x.found);
          compares = compares_in worth m k hand other t after u c weak is two lt none x v found;
          puts = λ e. puts worth m k hand other t after u c weak is two lt none x v found;
          passes = λ e. puts_none worth m k hand other t after u c weak is two lt none x v found e;
        },
      )
