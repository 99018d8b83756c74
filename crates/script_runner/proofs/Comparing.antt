-- A comparison of a table with a cell that swaps, as acts of a thread.
use Rattle.std.proofs.Common.{◌≡◌, ℕ, ◌+◌, ◌-◌, ◌<◌, Bool, true, false, not, ◌&&◌, ◌≢◌, ◌∷◌, ◌++◌}
use Rattle.std.proofs.Common.{length, slice_get, slice_set, Some, None, Option, sym, refl, ap, ◌∙◌}
use Rattle.std.proofs.Common.{subst, inl, inr, arith, length-set, get_or-set_other}
use Rattle.std.proofs.Common.{get_or-set_same, set-set}
use Rattle.script_runner.proofs.Prelude
use Prelude.{Acts, AddsEvent, after, as_slot, bag, bag_of, Block, block_of_held}
use Prelude.{blocks_of, by_block, cell_of_name, CellName, Compared, DeskNow, entry, Event, Form}
use Prelude.{handle, handle_in, Has, has_map, has_part, HasHandle, held, idle, is_full, is_of}
use Prelude.{IsLegal, IsQuiet, IsSeated, Kind, kind_at, kind_of_held, latest_of}
use Prelude.{leads, Leaving, names_an_object, NumberedHandle, opening_of, Place, place_of_held}
use Prelude.{plain, pointer_of, set-get_or, set_comm, shown_slots, Slot, slot_by, slot_of}
use Prelude.{slot_pointer, slot_value, Slots, slots_idle, sound, State, state_of, TableNow}
use Rattle.control_block.specs.CellCalls.{cell_of_site as desk_cell}
use Rattle.control_word.specs.State.{Held}
use Rattle.control_word.specs.declared.model.event.Cell.TheVariants as named
use Rattle.control_word.specs.declared.model.event.Cell.{Cell as Named}
use Rattle.control_word.specs.declared.model.event.Event.TheVariants as event
use Rattle.script_runner.specs.Compares as compares
use Rattle.script_runner.proofs.Celled.{IsFound, came_slot, is_found}
use Rattle.script_runner.proofs.Exchanging.{is_of_own, told_as}
use Rattle.script_runner.proofs.Leavings.{handle_left}
use Rattle.script_runner.proofs.Putting.{quiet_left}
use Rattle.script_runner.proofs.Seating as seating
use Rattle.script_runner.specs.Calls as calls
use Rattle.script_runner.specs.CellCalls.{ComparesIn}
use Rattle.step_table.specs.CellAtomicSteps.{kind_in_state as kind_there}
use Rattle.step_table.specs.Contents as contents
use Rattle.step_threads.specs.Frames.{hand as hand_of, other as other_of}
use Rattle.step_threads.specs.declared.programs.act.Act.TheVariants as act

module _ (V : Type 0) where
  compare_made : (c : Named) (expected new old : NumberedHandle) (s : State) (d : ℕ) (weak : Bool)
      → (after {V = V} s d (event.Compare c expected new old true weak)).made ≡ s.made
  compare_made (named.Free n) expected new old s d weak = refl
  compare_made (named.Member o n) expected new old s d weak = refl

  compare_gets : (c : Named) (expected new : NumberedHandle) (k : Kind) (o : ℕ) (p : Option Place) (s : State) (d : ℕ) (weak : Bool)
      → Has (held d (handle k (Some o) p)) (after {V = V} s d (event.Compare c expected new (handle k (Some o) p) true weak)).hands
  compare_gets (named.Free n) expected new k o p s d weak = inl refl
  compare_gets (named.Member q n) expected new k o p s d weak = inl refl

module _ {V : Type 0} where
  -- what the desk has after its event
  pub has_handle : (d e : DeskNow V) (v : Event V) (adds : AddsEvent d v e) (k : Kind) (c : Block) (p : Option Place)
      → Has (held d.name (handle k (Some (latest_of e c.0)) p)) (leads (opening_of d.shape) (entry d.name v ∷ (adds.between ++ d.seen))).hands
      → HasHandle e k p c.0
  has_handle d e v adds k c p has =
      let z = opening_of d.shape in
      let h = entry d.name v ∷ (adds.between ++ d.seen) in
      let q = latest_of e c.0 in
      let se : leads z h ≡ state_of e = sym (ap (λ x. leads (opening_of x) e.seen) adds.same.1 ∙ ap (λ l. leads z l) adds.seen) in
      let legal : IsLegal (opening_of e.shape) e.seen = subst (λ x. IsLegal (opening_of x) e.seen) (sym adds.same.1) adds.legal in
      let mine : Has (held e.name (handle k (Some q) p)) (state_of e).hands =
      subst (λ (s : State). Has (held e.name (handle k (Some q) p)) s.hands) se
      (subst (λ n. Has (held n (handle k (Some q) p)) (leads z h).hands) (sym adds.same.2) has) in
      let named = names_an_object (opening_of e.shape) e.seen legal e.name k (handle k (Some q) p) (mine, refl, refl) in
      let some = named.0 in
      let block = (sound (opening_of e.shape) e.seen legal).latest_in c.0 (λ no. let bad : ⊥ = omega (arith, some, no) in bad) in
      subst (λ b. Has (handle k (Some b) p) (bag_of e)) block
      (has_map (λ (x : Held). by_block (blocks_of (state_of e)) x.handle) (held e.name (handle k (Some q) p)) (bag (state_of e) e.name)
      (has_part (λ (y : Held). y.desk) e.name (held e.name (handle k (Some q) p)) (state_of e).hands refl mine))

  -- and what it got by it
  pub got_handle : (d e : DeskNow V) (v : Event V) (adds : AddsEvent d v e) (k : Kind) (c : Block) (p : Option Place)
      → ((s : State) (n : ℕ) → Has (held n (handle k (Some (latest_of e c.0)) p)) (after s n v).hands)
      → HasHandle e k p c.0
  got_handle d e v adds k c p gets = has_handle d e v adds k c p (gets (leads (opening_of d.shape) (adds.between ++ d.seen)) d.name)

module _ {V : Type 0} (worth : Form → V) (m k hand other : ℕ) (t u : TableNow V) (c : CellName) (weak : Bool) (is : IsSeated m hand t)
    (two : other + 1 ≡ hand) (lt : k < other) (none : slice_get t.slots other ≡ Some None) (x : compares.ComparesSlots weak t c k hand true u)
    (found : IsFound t (shown_slots m t.slots) c x.site) where
  abbrev l : Slots
  l = shown_slots m t.slots

  abbrev came : Slot
  came = as_slot (Some x.found)

  -- the table as the comparison left it
  abbrev between : TableNow V
  between = record { desk = x.between; slots = slice_set (slice_set t.slots other (Some x.found)) hand None; endings = t.endings }

  abbrev l1 : Slots
  l1 = shown_slots m between.slots

  abbrev after_drop : TableNow V
  after_drop = record { desk = u.desk; slots = slice_set between.slots other None; endings = u.endings }

  hand_is : hand_of l ≡ hand
  hand_is = seating.hand_at m hand t.slots is.many is.last

  other_is : other_of l ≡ other
  other_is = let many = seating.shown_many m t.slots is.many in let last = is.last in omega (arith, many, last, two)

  apart : hand ≢ other
  apart e = let b : ⊥ = omega (arith, two, e) in b

  below : k < m
  below = let e = is.last in omega (arith, e, two, lt)

  last : hand < m
  last = let e = is.last in omega (arith, e)

  l1_is : l1 ≡ slice_set (slice_set l other came) hand plain
  l1_is = seating.shown_set m (slice_set t.slots other (Some x.found)) hand None
      ∙ ap (λ q. slice_set q hand plain) (seating.shown_set m t.slots other (Some x.found))

  l1_many : length l1 ≡ length l
  l1_many = ap length l1_is ∙ (length-set (slice_set l other came) hand plain ∙ length-set l other came)

  other_then : other_of l1 ≡ other
  other_then = ap (λ n. n - 2) l1_many ∙ other_is

  there : slot_value l1 other ≡ came
  there =
      ap (λ q. slot_value q other) l1_is
      ∙ (get_or-set_other (slice_set l other came) hand other plain plain (λ e. apart (sym e))
      ∙ get_or-set_same l other came plain (let many = seating.shown_many m t.slots is.many in let e = is.last in omega (arith, many, e, two)))

  same_slots : shown_slots m after_drop.slots ≡ shown_slots m u.slots
  same_slots =
      let f = x.follows in
      seating.shown_set m between.slots other None
      ∙ (ap (λ q. slice_set q other plain) l1_is
      ∙ (set_comm (slice_set l other came) hand other plain plain apart
      ∙ (ap (λ q. slice_set q hand plain) (set-set l other came plain
      ∙ (ap (λ q. slice_set l other q)
      (sym (seating.shown_at m t.slots other None (let e = is.last in omega (arith, e, two)) none)) ∙ set-get_or l other plain))
      ∙ sym (ap (shown_slots m) f.2 ∙ seating.shown_set m t.slots hand None))))

  got_named : (b : Block) → block_of_held x.found ≡ Some b → HasHandle x.between (kind_at c) (place_of_held x.found) b.0
  got_named b e =
      let q = kind_at c in
      let one = handle_in t.desk q (block_of_held x.there) (place_of_held x.there) in
      let two = handle_in t.desk q (block_of_held x.new) (place_of_held x.new) in
      let adds = subst (λ y. AddsEvent t.desk (event.Compare (desk_cell t.desk x.site) one two (handle_in x.between q y (place_of_held x.found)) true
      weak) x.between)
      e x.compares in
      got_handle t.desk x.between _ adds q b (place_of_held x.found)
      (λ s n. compare_gets V (desk_cell t.desk x.site) one two q (latest_of x.between b.0) (place_of_held x.found) s n weak)

  got_found : (b : Block) → block_of_held x.found ≡ Some b → HasHandle x.between (kind_of_held x.found) (place_of_held x.found) b.0
  got_found b e = subst (λ y. HasHandle x.between y (place_of_held x.found) b.0) (sym x.kinds.2) (got_named b e)

  compares_in : Acts worth m t true (act.Compare k c weak) (Compared true came) between
  compares_in =
      let q = kind_at c in
      let adds = x.compares in
      let s = calls.state_before_event V adds in
      let kinds : kind_there s (cell_of_name s l c) ≡ q = found.kinds _ x.between adds in
      let held : came ≡ slot_of s (handle_in x.between q (block_of_held x.found) (place_of_held x.found)) =
      ap (λ y. slot_by y (block_of_held x.found) (place_of_held x.found)) x.kinds.2
      ∙ came_slot t.desk x.between _ adds q (place_of_held x.found) (block_of_held x.found)
      (λ s d. compare_made V (desk_cell t.desk x.site) (handle_in t.desk q (block_of_held x.there) (place_of_held x.there))
      (handle_in t.desk q (block_of_held x.new) (place_of_held x.new)) (handle_in x.between q (block_of_held x.found) (place_of_held x.found)) s d
      weak) got_named in
      let one = ap (λ r. contents.named_handle s r (slot_value l k)) kinds ∙ told_as m k t x.between _ adds x.there q is.fits below x.at.0 x.kinds.0 in
      let two' = ap (λ r. contents.named_handle s r (slot_value l (hand_of l))) kinds ∙ (ap (λ n. contents.named_handle s q (slot_value l n)) hand_is
      ∙ told_as m hand t x.between _ adds x.new q is.fits last x.at.1 x.kinds.1) in
      record {
        done = inr (
          event.Compare (desk_cell t.desk x.site) (handle_in t.desk q (block_of_held x.there) (place_of_held x.there))
              (handle_in t.desk q (block_of_held x.new) (place_of_held x.new))
              (handle_in x.between q (block_of_held x.found) (place_of_held x.found)) true weak,
          adds,
          (
            handle_in x.between q (block_of_held x.found) (place_of_held x.found),
            (λ j. Some (event.Compare (sym (found.named _ x.between adds) j) (sym one j) (sym two' j)
                (handle_in x.between q (block_of_held x.found) (place_of_held x.found)) true weak)),
            held,
          ),
        );
        slots = l1_is ∙ (λ j. slice_set (slice_set l (sym other_is j) came) (sym hand_is j) plain);
        ends = refl;
      }

  slot_then : (b : Option Block) → block_of_held x.found ≡ b
      → slot_pointer l1 (other_of l1) ≡ pointer_of (slot_by (kind_of_held x.found) b (place_of_held x.found))
  slot_then b e = ap (λ n. slot_pointer l1 n) other_then ∙
      (ap pointer_of there ∙ ap (λ y. pointer_of (slot_by (kind_of_held x.found) y (place_of_held x.found))) e)

  drops : Leaving worth m between false act.Drop after_drop
  drops =
      let f = x.follows in
      let y = handle_left worth x.between u.desk l1 act.Drop (other_of l1) t.endings u.endings refl x.found f.0
      (λ b e. record { at = slot_then (Some b) e; has = got_found b e }) (λ e. slot_then None e) f.1 in
      record {
        last = y.last;
        left = y.left;
        acts = record {
          done = y.done;
          slots = seating.shown_set m between.slots other None ∙ ap (λ n. slice_set l1 n plain) (sym other_then);
          ends = y.ends;
        };
        told = y.told;
      }

  drops_none : idle act.Drop l1 false ≡ true
      → IsQuiet x.between u.desk × (shown_slots m after_drop.slots ≡ slots_idle act.Drop l1 false) × (u.endings ≡ t.endings)
  drops_none free =
      let f = x.follows in
      let q = quiet_left x.between u.desk t.endings u.endings x.found f.0 (no_object (block_of_held x.found) refl) f.1 in
      (q.0, seating.shown_set m between.slots other None ∙ ap (λ n. slice_set l1 n plain) (sym other_then), q.1)
    where
      no_object : (b : Option Block) → block_of_held x.found ≡ b → block_of_held x.found ≡ None
      no_object None e = e
      no_object (Some b) e = let bad = sym (ap (λ y. not (is_full y)) (slot_then (Some b) e)) ∙ free in absurd cc

  busy : idle (act.Compare k c weak) l true ≡ false
  busy =
      let own = is_of_own x.new (kind_at c) (x.kinds.1) in
      let its = is_of_own x.there (kind_at c) (x.kinds.0) in
      let a : is_of (kind_at c) (slot_value l (hand_of l)) ≡ true =
      ap (λ n. is_of (kind_at c) (slot_value l n)) hand_is
      ∙ (ap (λ y. is_of (kind_at c) y) (seating.shown_at m t.slots hand (Some x.new) last x.at.1) ∙ own) in
      let b : is_of (kind_at c) (slot_value l k) ≡ true =
      ap (λ y. is_of (kind_at c) y) (seating.shown_at m t.slots k (Some x.there) below x.at.0) ∙ its in
      λ j. not (((true && found.there j) && a j) && b j)

module _ {V : Type 0} where
  pub compares_swap : ComparesIn V
  compares_swap worth m k hand other t u c weak is two lt none in_shape of x =
      let found = is_found m t is.fits is.stands.limits c x.site in_shape of x.is in (
        busy worth m k hand other t u c weak is two lt none x found,
        record {
          between = between worth m k hand other t u c weak is two lt none x found;
          held = as_slot (Some x.found);
          compares = compares_in worth m k hand other t u c weak is two lt none x found;
          after = after_drop worth m k hand other t u c weak is two lt none x found;
          same = (refl, same_slots worth m k hand other t u c weak is two lt none x found, refl);
          drops = λ e. drops worth m k hand other t u c weak is two lt none x found;
          passes = λ e. drops_none worth m k hand other t u c weak is two lt none x found e;
        },
      )
