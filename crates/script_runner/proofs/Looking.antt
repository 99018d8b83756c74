-- Which calls of a table that tell something are which acts of a thread.
use Rattle.std.proofs.Common.{◌≡◌, ℕ, ◌<◌, Bool, true, false, cond, ◌≢◌, ◌⊎◌, ◌==◌, slice_get}
use Rattle.std.proofs.Common.{Some, None, Ok, Option, sym, refl, ap, ◌∙◌, subst, inl, inr}
use Rattle.std.proofs.Common.{eqb-true}
use Rattle.script_runner.proofs.Prelude
use Prelude.{Acts, Block, block_of_held, cond-false, copies, Done, Event, Form, Got, Handle}
use Prelude.{handle_of, Held, inside, is_enabled, is_full, IsAt, IsAway, IsSeated, Kind}
use Prelude.{kind_of_held, MarksAct, object_in, On, on_latest, outside, owned, Owner, owner, Place}
use Prelude.{place_at, place_in, place_of_held, Refusal, Shared, shown_slots, slot_by}
use Prelude.{slot_pointer, state_of, TableNow, Told, Weak, WhyNotThis}
use Rattle.control_block.specs.declared.handles.Weak as weak_handle
use Rattle.control_word.specs.declared.model.event.Event.TheVariants as event
use Rattle.control_word.specs.declared.model.handle.Kind.TheVariants as kind
use Rattle.control_word.specs.declared.refusal.Refusal.TheVariants as refusal
use Rattle.script_runner.specs.SlotCalls.{CountsSlot, CountsOf, Expires, ReadsSlot}
use Rattle.script_runner.proofs.Calling as law
use Rattle.script_runner.proofs.Seating.{has_pointer, no_pointer, shown_at}
use Rattle.script_runner.proofs.Takings.{stayed}
use Rattle.script_runner.specs.Calls as calls
use Rattle.shared_handle.specs.Calls as inner
use Rattle.shared_handle.specs.Endings.{IsOutside, IsNotEnabled}
use Rattle.step_table.specs.Registers as slots
use Rattle.step_threads.specs.declared.programs.act.Act.TheVariants as act
use Rattle.step_threads.specs.declared.said.Answer.TheVariants as answer

-- where a slot points
pub place_shown : {V : Type 0} (m i : ℕ) (t : TableNow V) (h : Held) → i < m → slice_get t.slots i ≡ Some (Some h)
    → place_in (shown_slots m t.slots) i ≡ place_of_held h
place_shown m i t h lt at = ap slots.place_of (shown_at m t.slots i (Some h) lt at) ∙ go (block_of_held h)
  where
    go : (b : Option Block) → slots.place_of (slot_by (kind_of_held h) b (place_of_held h)) ≡ place_of_held h
    go None = refl
    go (Some b) = refl

module _ {V : Type 0} (worth : Form → V) (m i hand : ℕ) (taken : Bool) (t u : TableNow V) (is : IsSeated m hand t) (lt : i < m) where
  counted_done : (h : Held) (n : ℕ) → IsAt t i h → (b : Option Block) → block_of_held h ≡ b
      → inner.IsUseCount t.desk (kind_of_held h) b (place_of_held h) n u.desk
      → Done worth t.desk (shown_slots m t.slots) (act.Count i) (Told n) u.desk
  counted_done h n at None e count =
      inl (
        stayed t.desk u.desk count.1,
        subst (λ (x : Option Handle). On (λ y. ◌≡◌ {A = Option (Event V)} None (Some (event.Count (handle_of (state_of t.desk) y) n)))
            ((n ≡ 0) × (◌≡◌ {A = Option (Event V)} None None)) x)
            (sym (no_pointer m i t h lt at e)) (count.0, refl),
      )
  counted_done h n at (Some b) e count =
      inr (
        event.Count (on_latest t.desk (kind_of_held h) (place_of_held h) b.0) n,
        count.0,
        law.counted worth t.desk.name t.desk u.desk (shown_slots m t.slots) i n (kind_of_held h) b (place_of_held h)
            (has_pointer m i t h b is.fits lt at e) count.0,
      )

  counts_parts : (h : Held) (n : ℕ) → CountsOf t.desk h n u.desk → inner.IsUseCount t.desk (kind_of_held h) (block_of_held h) (place_of_held h) n u.desk
  counts_parts (Owner h) n c = c
  counts_parts (Weak w) n c = c

  -- use_count
  pub counts : (n : ℕ) → CountsSlot t i n u → Acts worth m t taken (act.Count i) (Told n) u
  counts n c =
      record {
        done = counted_done c.of n c.was (block_of_held c.of) refl (counts_parts c.of n c.event);
        slots = ap (shown_slots m) c.rest.0;
        ends = c.rest.1;
      }

  expired_done : (w : weak_handle.Weak) (so : Bool) → IsAt t i (Weak w) → (b : Option Block) → w.block ≡ b
      → inner.IsExpiry t.desk b w.place so u.desk
      → Done worth t.desk (shown_slots m t.slots) (act.Expired i) (Got so) u.desk
  expired_done w so at None e x =
      inl (
        stayed t.desk u.desk x.1,
        subst (λ (y : Option Handle). On (λ z. ◌≡◌ {A = Option (Event V)} None (Some (event.Expired (handle_of (state_of t.desk) z) so)))
            ((so ≡ true) × (◌≡◌ {A = Option (Event V)} None None)) y)
            (sym (no_pointer m i t (Weak w) lt at e)) (x.0, refl),
      )
  expired_done w so at (Some b) e x =
      inr (
        event.Expired (on_latest t.desk kind.Weak w.place b.0) so,
        x,
        law.expired worth t.desk.name t.desk u.desk (shown_slots m t.slots) i so b w.place (has_pointer m i t (Weak w) b is.fits lt at e) x,
      )

  -- expired
  pub expires : (so : Bool) → Expires t i so u → Acts worth m t taken (act.Expired i) (Got so) u
  expires so c =
      record {
        done = expired_done c.of so c.was c.of.block refl c.event;
        slots = ap (shown_slots m) c.rest.0;
        ends = c.rest.1;
      }

  -- an owner that points into its object
  pub within : (h : Shared) (q : Place) → IsAt t i (Owner h) → h.block ≡ Some q.block → h.place ≡ Some q
      → calls.HasPointer V t.desk (shown_slots m t.slots) i kind.Owner q.block (Some q)
  within h q at b p =
      subst (λ x. calls.HasPointer V t.desk (shown_slots m t.slots) i kind.Owner q.block x) p (has_pointer m i t (Owner h) q.block is.fits lt at b)

  -- a field that was read
  pub reads : (field : ℕ) → ReadsSlot t i (Ok field) u → Acts worth m t taken (act.Read i) (Told field) u
  reads field c =
      let e = c.event in let q = e.0 in
      record {
        done = inr (
          event.Read (on_latest t.desk kind.Owner (Some q) q.block.0) field,
          e.3,
          law.read worth t.desk.name t.desk u.desk (shown_slots m t.slots) i field q (within c.of q c.was e.2 e.1) e.3,
        );
        slots = ap (shown_slots m) c.rest.0;
        ends = c.rest.1;
      }

abbrev block_of : Option Place → Option Block
block_of None = None
block_of (Some p) = Some p.block

-- an owner that doesn't point into what it owns
pub not_inside : {V : Type 0} (m i : ℕ) (t : TableNow V) (h : Shared) → i < m → slice_get t.slots i ≡ Some (Some (Owner h))
    → (h.place ≡ None) ⊎ IsOutside h.block h.place → inside (slot_pointer (shown_slots m t.slots) i) ≡ None
not_inside m i t h lt at away =
    ap (λ x. inside (slots.pointer_of x)) (shown_at m t.slots i (Some (Owner h)) lt at) ∙ go h.block h.place away
  where
    go : (b : Option Block) (p : Option Place) → (p ≡ None) ⊎ IsOutside b p → inside (slots.pointer_of (slot_by kind.Owner b p)) ≡ None
    go None p away = refl
    go (Some b) None away = refl
    go (Some b) (Some q) (inl e) = absurd cc
    go (Some b) (Some q) (inr out) =
        cond-false (q.block.0 == b.0) _ None (differs (q.block.0 == b.0) refl)
      where
        same : Some out.0 ≡ Some q → b ≡ q.block → ⊥
        same e f = out.2 (ap Some f ∙ ap (λ (x : Option Place). block_of x) (sym e))

        differs : (c : Bool) → (q.block.0 == b.0) ≡ c → c ≡ false
        differs false e = refl
        differs true e = absurd (same (sym out.1) (λ j. record { 0 = sym (eqb-true q.block.0 b.0 e) j }))

module _ {V : Type 0} (worth : Form → V) (m i hand : ℕ) (taken : Bool) (t : TableNow V) (is : IsSeated m hand t) (lt : i < m) where
  -- what the refusal says, as a thread says it
  pub outside_as : (h : Shared) (why : Refusal) → IsAt t i (Owner h) → IsAway h.block h.place why
      → outside (place_in (shown_slots m t.slots) i) ≡ answer.Refused why
  outside_as h refusal.Null at away = ap outside (place_shown m i t (Owner h) lt at ∙ away)
  outside_as h refusal.Outside at away = ap outside (place_shown m i t (Owner h) lt at ∙ away.1)
  outside_as h why at away = absurd away

  pub is_away : (h : Shared) (why : Refusal) → IsAt t i (Owner h) → IsAway h.block h.place why → inside (slot_pointer (shown_slots m t.slots) i) ≡ None
  is_away h refusal.Null at away = not_inside m i t h lt at (inl away)
  is_away h refusal.Outside at away = not_inside m i t h lt at (inr away)
  is_away h why at away = absurd away

  -- a field that isn't there
  pub reads_not : (h : Shared) (why : Refusal) → IsAt t i (Owner h) → IsAway h.block h.place why
      → MarksAct V worth m t taken (act.Read i) (Told 0) (answer.Refused why)
  reads_not h why at away =
      let none = is_away h why at away in
      record {
        acts = record {
          done = inl (
            stayed t.desk t.desk refl,
            subst (λ (x : Option Handle). On (λ y. ◌≡◌ {A = Option (Event V)} None (Some (event.Read (owner (owned (state_of t.desk) y) y.place) 0)))
                (◌≡◌ {A = Option (Event V)} None None) x)
                (sym none) refl,
          );
          slots = refl;
          ends = refl;
        };
        says = ap (λ x. Some (cond (is_full x) (answer.Read 0) (outside (place_in (shown_slots m t.slots) i)))) none ∙ ap Some (outside_as h why at away);
      }

  given_away : (h : Shared) (k : Kind) (why : Refusal) → IsAt t i (Owner h) → IsAway h.block h.place why
      → MarksAct V worth m t taken (act.FromThis i k) (Got false) (answer.Refused why)
  given_away h k why at away =
      let none = is_away h why at away in
      record {
        acts = record {
          done = inl (
            stayed t.desk t.desk refl,
            subst (λ (x : Option Handle). On (λ y. (false ≡ is_enabled (state_of t.desk) y)
                × (None ≡ cond false (Some (copies {V = V} (state_of t.desk) k (place_at y.block.0) y)) None))
                ((false ≡ false) × (◌≡◌ {A = Option (Event V)} None None)) x)
                (sym none) (refl, refl),
          );
          slots = refl;
          ends = refl;
        };
        says = ap (λ x. Some (cond (is_full x) (answer.Refused refusal.NotEnabled) (outside (place_in (shown_slots m t.slots) i)))) none
            ∙ ap Some (outside_as h why at away);
      }

  not_enabled : (h : Shared) (k : Kind) (q : Place) → IsAt t i (Owner h) → h.block ≡ Some q.block → h.place ≡ Some q
      → (object_in t.desk q.block.0).enabled ≡ false
      → MarksAct V worth m t taken (act.FromThis i k) (Got false) (answer.Refused refusal.NotEnabled)
  not_enabled h k q at b p off =
      let some = law.is_inside (shown_slots m t.slots) i q (within worth m i hand taken t t is lt h q at b p).at in
      record {
        acts = record {
          done = inl (
            stayed t.desk t.desk refl,
            subst (λ (x : Option Handle). On (λ y. (false ≡ is_enabled (state_of t.desk) y)
                × (None ≡ cond false (Some (copies {V = V} (state_of t.desk) k (place_at y.block.0) y)) None))
                ((false ≡ false) × (◌≡◌ {A = Option (Event V)} None None)) x)
                (sym some) (sym off, refl),
          );
          slots = refl;
          ends = refl;
        };
        says = ap (λ x. Some (cond (is_full x) (answer.Refused refusal.NotEnabled) (outside (place_in (shown_slots m t.slots) i)))) some;
      }

  -- an object that gives no pointer to itself, or none that the owner points into
  pub gives_not : (h : Shared) (k : Kind) (why : Refusal) → IsAt t i (Owner h) → WhyNotThis t.desk h.block h.place why → why ≢ refusal.Limit
      → MarksAct V worth m t taken (act.FromThis i k) (Got false) (answer.Refused why)
  gives_not h k refusal.Limit at because unlike = absurd (unlike refl)
  gives_not h k refusal.Null at because unlike = given_away h k refusal.Null at because.1
  gives_not h k refusal.Outside at because unlike = given_away h k refusal.Outside at because.1
  gives_not h k refusal.NotEnabled at because unlike = not_enabled h k because.1.0 at because.1.2 because.1.1
      (subst (λ b. IsNotEnabled t.desk b) because.1.2 because.2)
  gives_not h k why at because unlike = absurd because
