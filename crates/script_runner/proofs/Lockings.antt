-- Locks and makes of a table, as acts of a thread.
use Rattle.std.proofs.Common.{◌≡◌, ℕ, ◌<◌, Bool, true, false, cond, is_some, slice_set, Some}
use Rattle.std.proofs.Common.{None, Ok, Err, Option, option_map, sym, refl, ap, ◌∙◌, subst, inl}
use Rattle.std.proofs.Common.{inr, arith}
use Rattle.script_runner.proofs.Prelude
use Prelude.{Acts, as_owner, as_slot, BadWeak, Block, Comes, Done, Event, Form, Found, Got}
use Prelude.{Handle, IsAt, IsHand, IsOwner, null_form, On, on_latest, owned, plain}
use Prelude.{set-get_or, Shared, shown_slots, slot_by, slot_pointer, slot_value, state_of}
use Prelude.{TableNow, taking, Weak, weak_of, weak_slot}
use Rattle.control_block.specs.declared.handles.Weak as weak_handle
use Rattle.control_word.specs.declared.model.event.Event.TheVariants as event
use Rattle.control_word.specs.declared.model.handle.Kind.TheVariants as kind
use Rattle.script_runner.specs.Handles as handles
use Rattle.script_runner.proofs.Calling as law
use Rattle.script_runner.proofs.Seating.{Came, came_in, hand_is, has_pointer, in_hand, no_pointer}
use Rattle.script_runner.proofs.Seating.{quietly, shown_at}
use Rattle.script_runner.proofs.Takings.{below_last, stayed}
use Rattle.script_runner.specs.TableCalls.{LocksIn, MakesIn, MakesNot, MakesNullIn, UpgradesIn}
use Rattle.script_runner.specs.TableCalls.{UpgradesNot}
use Rattle.shared_handle.specs.Calls as inner
use Rattle.shared_handle.specs.Locks as locks
use Rattle.step_threads.specs.Frames.{hand as hand_of}
use Rattle.step_threads.specs.declared.programs.act.Act.TheVariants as act

module _ {V : Type 0} (worth : Form → V) (m i hand : ℕ) (taken : Bool) (t u : TableNow V) (is : IsHand m hand t) (lt : i < m) where
  -- a lock
  locked_done : (w : weak_handle.Weak) (must got : Bool) → IsAt t i (Weak w) → (b : Option Block) → w.block ≡ b
      → locks.LocksHandle t.desk b w.place got u.desk
      → Done worth t.desk (shown_slots m t.slots) (act.Lock i must) (Got got) u.desk
  locked_done w must got at None e locks =
      inl (
        quietly t.desk u.desk _ locks.1,
        subst (λ (x : Option Handle). On (λ y. ◌≡◌ {A = Option (Event V)} None (Some (event.Lock (weak_of (owned (state_of t.desk) y) y.place) got)))
            ((got ≡ false) × (◌≡◌ {A = Option (Event V)} None None)) (weak_slot x))
            (sym (no_pointer m i t (Weak w) lt at e)) (locks.0, refl),
      )
  locked_done w must got at (Some b) e locks =
      inr (
        event.Lock (on_latest t.desk kind.Weak w.place b.0) got,
        locks.0,
        law.locked worth t.desk.name t.desk u.desk (shown_slots m t.slots) i must got b w.place (has_pointer m i t (Weak w) b is.fits lt at e) locks.0,
      )

  -- what is vacant is empty
  hand_plain : slice_set (shown_slots m t.slots) (hand_of (shown_slots m t.slots)) plain ≡ shown_slots m t.slots
  hand_plain =
      let l = shown_slots m t.slots in
      let at : slot_value l hand ≡ plain = shown_at m t.slots hand None (let e = is.last in omega (arith, e)) is.vacant in
      ap (λ k. slice_set l k plain) (hand_is m hand t is) ∙ (ap (λ x. slice_set l hand x) (sym at) ∙ set-get_or l hand plain)

  locked_slot : (w : weak_handle.Weak) (k : Shared) (must got : Bool) → IsAt t i (Weak w) → (b : Option Block) → w.block ≡ b
      → locks.IsOwnerOf b w.place got k → (b ≡ None → got ≡ false)
      → slice_set (shown_slots m t.slots) (hand_of (shown_slots m t.slots)) (slot_by kind.Owner k.block k.place)
      ≡ (taking (shown_slots m t.slots) must (cond got (option_map as_owner (weak_slot (slot_pointer (shown_slots m t.slots) i))) None)).0
  locked_slot w k must false at b e of not_got =
      ap (λ x. slice_set (shown_slots m t.slots) (hand_of (shown_slots m t.slots)) x) (λ q. slot_by kind.Owner (of.0 q) (of.1 q)) ∙ hand_plain
  locked_slot w k must true at None e of not_got = let z = not_got refl in absurd cc
  locked_slot w k must true at (Some b) e of not_got =
      ap (λ x. slice_set (shown_slots m t.slots) (hand_of (shown_slots m t.slots)) x) (λ q. slot_by kind.Owner (of.0 q) (of.1 q))
      ∙ ap (λ x. (taking (shown_slots m t.slots) must (option_map as_owner (weak_slot x))).0) (sym (has_pointer m i t (Weak w) b is.fits lt at e).at)

  locks_got : (w : weak_handle.Weak) (got : Bool) → (b : Option Block) → locks.LocksHandle t.desk b w.place got u.desk → b ≡ None → got ≡ false
  locks_got w got None locks e = locks.0
  locks_got w got (Some b) locks e = absurd cc

  locks_in : (w : weak_handle.Weak) (must got : Bool) → IsAt t i (Weak w)
      → Came (IsOwner (λ d k e. (got ≡ is_some k.block) × locks.IsOwnerOf w.block w.place got k × locks.LocksHandle d w.block w.place got e)) t hand u
      → Acts worth m t taken (act.Lock i must) (Got got) u
  locks_in w must got at c =
      let k = c.comes.owner in
      let e = c.comes.event in
      record {
        done = locked_done w must got at w.block refl e.2;
        slots = in_hand m hand t u c.handle _ is c.slots (ap (λ x. as_slot (Some x)) c.comes.is)
            ∙ locked_slot w k must got at w.block refl e.1 (locks_got w got w.block e.2);
        ends = c.ends;
      }

  -- or an owner that there must be
  upgraded : (w : weak_handle.Weak) (k : Shared) (b : Option Block) → w.block ≡ b → locks.IsUpgrade t.desk b w.place (Ok k) u.desk
      → locks.IsOwnerOf w.block w.place true k × locks.LocksHandle t.desk w.block w.place true u.desk × (true ≡ is_some k.block)
  upgraded w k None e up = absurd up
  upgraded w k (Some b) e up = (
    (up.1 ∙ sym e, up.2),
    subst (λ x. locks.LocksHandle t.desk x w.place true u.desk) (sym e) up.0,
    sym (ap is_some up.1),
  )

  upgrades_in : (w : weak_handle.Weak) → IsAt t i (Weak w)
      → Came (IsOwner (λ d h e. locks.IsUpgrade d w.block w.place (Ok h) e)) t hand u
      → Acts worth m t taken (act.Lock i true) (Got true) u
  upgrades_in w at c =
      let k = upgraded w c.comes.owner w.block refl c.comes.event in
      locks_in w true true at
      record {
        handle = c.handle;
        comes = record { owner = c.comes.owner; is = c.comes.is; event = (k.2, k.0, k.1) };
        slots = c.slots;
        ends = c.ends;
      }

  refused_done : (w : weak_handle.Weak) → IsAt t i (Weak w) → (b : Option Block) → w.block ≡ b
      → locks.IsUpgrade t.desk b w.place (Err BadWeak) u.desk
      → Done worth t.desk (shown_slots m t.slots) (act.Lock i true) (Got false) u.desk
  refused_done w at None e up =
      inl (
        stayed t.desk u.desk up.1,
        subst (λ (x : Option Handle). On (λ y. ◌≡◌ {A = Option (Event V)} None (Some (event.Lock (weak_of (owned (state_of t.desk) y) y.place) false)))
            ((false ≡ false) × (◌≡◌ {A = Option (Event V)} None None)) (weak_slot x))
            (sym (no_pointer m i t (Weak w) lt at e)) (refl, refl),
      )
  refused_done w at (Some b) e up = locked_done w true false at (Some b) e up.1

  refuses_in : handles.GivesNoOwner t i u → Acts worth m t taken (act.Lock i true) (Got false) u
  refuses_in g =
      record { done = refused_done g.of g.at g.of.block refl g.event; slots = ap (shown_slots m) g.rest.0; ends = g.rest.1 }

  -- a new object's owner
  made_in : (form : Form) (x : V) → x ≡ worth form
      → (c : Came (IsOwner (λ d h e. inner.Makes d form.enabled form.null form.fields x h.block h.place e)) t hand u)
      → (b : Option Block) → c.comes.owner.block ≡ b
      → inner.Makes t.desk form.enabled form.null form.fields x b c.comes.owner.place u.desk
      → (q : ℕ) × Acts worth m t taken (act.Make form) (Found (Some q)) u
  made_in form x same c None e makes = absurd makes
  made_in form x same c (Some b) e makes = (
    b.0,
    record {
      done = inr (
        event.Make b form.enabled form.null form.fields x,
        makes.1,
        ap (λ y. Some (event.Make b form.enabled form.null form.fields y)) same,
      );
      slots = in_hand m hand t u c.handle _ is c.slots
          (ap (λ y. as_slot (Some y)) c.comes.is ∙ (λ j. slot_by kind.Owner (e j) (makes.0 j)));
      ends = c.ends;
    },
  )

module _ {V : Type 0} where
  pub locks_taken : LocksIn V
  locks_taken worth m i hand taken t u is lt got c =
      locks_in worth m i hand taken t u is lt c.of false got c.at (came_in _ t hand u is.vacant c.owner)

  pub upgrades : UpgradesIn V
  upgrades worth m i hand taken t u is lt c =
      upgrades_in worth m i hand taken t u is lt c.of c.at (came_in _ t hand u is.vacant c.owner)

  pub upgrades_not : UpgradesNot V
  upgrades_not worth m i hand taken t u is lt g = refuses_in worth m i hand taken t u is lt g

  pub makes : MakesIn V
  makes worth m hand taken t u is form x null same c =
      let n : Comes (IsOwner (λ d h e. inner.Makes d form.enabled form.null form.fields x h.block h.place e)) t hand u =
      subst (λ y. Comes (IsOwner (λ d h e. inner.Makes d form.enabled y form.fields x h.block h.place e)) t hand u) (sym null) c in
      let k = came_in _ t hand u is.vacant n in
      made_in worth m hand hand taken t u is (below_last m hand t is) form x same k k.comes.owner.block refl k.comes.event

  pub makes_null : MakesNullIn V
  makes_null worth m hand taken t u is x same c =
      let k = came_in _ t hand u is.vacant c in
      made_in worth m hand hand taken t u is (below_last m hand t is) null_form x same k k.comes.owner.block refl k.comes.event

  pub makes_not : MakesNot V
  makes_not worth m hand taken t form none =
      record { done = inl (stayed t.desk t.desk refl, (none, refl)); slots = refl; ends = refl }
