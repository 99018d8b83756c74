-- What acts make of the history is what the replies that they get in the state say.
use Rattle.std.proofs.Common.{◌≡◌, ℕ, true, false, cond, not, List, Some, None, Option, option_map}
use Rattle.std.proofs.Common.{refl, ap}
use Rattle.step_core.proofs.Prelude
use Prelude.{Act, Alias, alias, aliased, Ask, AtomicStep, cell_of_name, Clear, Compare, compare_of}
use Prelude.{copies, copy, Count, Downgrade, downgrade, Drop, Event, event_added, event_of}
use Prelude.{Exchange, Expired, field_of, Form, frame_after_act, FrameView, FromThis, give, hand}
use Prelude.{Handle, held_in, History, Holds, inside, is_expired, is_last, is_there, IsMakeEvent}
use Prelude.{leads, least, Leave, leave, Load, load_of, Lock, lock, Make, may_go, Move, no_worth}
use Prelude.{Nothing, Offer, offered, OnShelf, Opening, other, Owner, owner_slot, place_at}
use Prelude.{place_in, Put, put_on, Read, read_atomic_step, reply_in, row_in, Share, share, Shelve}
use Prelude.{slot_pointer, slot_value, State, Swap, Task, tell_count, tell_expired, Telling}
use Prelude.{Unshelve, Weak, weak_slot, went}
use Rattle.control_word.specs.declared.model.event.Event.TheVariants as event
use Rattle.step_core.proofs.Entries.{acted, does, giving, make_step}
use Rattle.step_threads.specs.Rows.{Found}
use Rattle.step_core.proofs.following.Parts.{counting, expiring, gives, leave_makes, leaving_event}
use Rattle.step_core.proofs.following.Parts.{left, locking, none_stored, on_pointer, read_makes}
use Rattle.step_core.proofs.following.Parts.{reading, shared, this_makes}
use Rattle.step_core.proofs.following.Histories.{load_history, load_makes, same_event}
use Rattle.step_core.proofs.following.Histories.{same_history, same_makes, shelve_history}
use Rattle.step_core.proofs.following.Histories.{shelving, swap_event, swap_history, swap_makes}
use Rattle.step_core.proofs.following.Histories.{unshelve_history}

-- where a thread goes doesn't depend on the number that a count is told
pub goes_told : (tell : Telling) (s : State) (d n : ℕ) (w : FrameView) (ts : List Task) (a : Act)
    → went s d w n ts a ≡ frame_after_act w n ts (row_in tell s d w.slots w.taken a)
goes_told tell s d n w ts (Count i) = refl
goes_told tell s d n w ts _ = refl

-- what an act makes by its reply
pub record Replied (tell : Telling) (z : Opening) (d : ℕ) (h : History) (w : FrameView) (a : Act) : Type 0 where
  pub event : Option (Event Nothing)
  pub makes : IsMakeEvent no_worth (leads z h) d w.slots a (reply_in tell (leads z h) d w.slots a) event
  pub history : acted tell z d w.slots h a ≡ put_on d event h

module _ (tell : Telling) (z : Opening) (d : ℕ) (h : History) (w : FrameView) where
  abbrev now : State
  now = leads z h

  pub trace_label : (f : Handle → AtomicStep) (g : Handle → Event Nothing) → ((x : Handle) → event_of now (f x) ≡ Some (g x)) → (o : Option Handle)
      → does z d h (option_map f o) ≡ put_on d (option_map g o) h
  trace_label f g same None = refl
  trace_label f g same (Some x) = ap (λ (e : Option (Event Nothing)). event_added d e h) (same x)

  -- a pointer leaves
  pub left_at : (o : Option Handle) → does z d h (option_map (leave now) o) ≡ put_on d (option_map (leaving_event now) o) h
  left_at o = trace_label (leave now) (leaving_event now) (λ x. left now x.kind (is_last now x) x) o

  abbrev made_of : Form → ℕ → Event Nothing
  made_of form b = event.Make (record { 0 = b }) form.enabled form.null form.fields tt

  pub make_history : (form : Form) (o : Option ℕ) → does z d h (option_map (make_step form) o) ≡ put_on d (option_map (made_of form) o) h
  make_history form None = refl
  make_history form (Some b) = refl

  pub make_makes : (form : Form) (o : Option ℕ) → least d now.stores ≡ o
      → IsMakeEvent no_worth now d w.slots (Make form) (Found o) (option_map (made_of form) o)
  make_makes form None e = (none_stored d now.stores e, refl)
  make_makes form (Some b) e = refl

  pub shelve_makes : (o : Option ℕ) → least d now.stores ≡ o
      → IsMakeEvent no_worth now d w.slots (OnShelf Shelve) (Found o) (option_map (shelving z d h w.slots) o)
  shelve_makes None e = (none_stored d now.stores e, refl)
  shelve_makes (Some b) e = refl

  -- each act
  unfoldable pub replied : (a : Act) → Replied tell z d h w a
  replied (Make form) =
      let o = least d now.stores in
      record {
        event = option_map (made_of form) o;
        makes = make_makes form o refl;
        history = make_history form o;
      }
  replied (Share i) =
      record {
        event = option_map (copy now) (slot_pointer w.slots i);
        makes = refl;
        history = trace_label share (copy now) (λ x. shared now x.kind x) (slot_pointer w.slots i);
      }
  replied (Put i) =
      let o = slot_pointer w.slots i in
      record {
        event = option_map (leaving_event now) o;
        makes = leave_makes now o;
        history = left_at o;
      }
  replied (Leave i) =
      let o = slot_pointer w.slots i in
      record {
        event = option_map (leaving_event now) o;
        makes = leave_makes now o;
        history = left_at o;
      }
  replied (Clear i) =
      let o = slot_pointer w.slots i in
      record {
        event = option_map (leaving_event now) o;
        makes = leave_makes now o;
        history = left_at o;
      }
  replied Drop =
      let i = other w.slots in
      let o = slot_pointer w.slots i in
      record {
        event = option_map (leaving_event now) o;
        makes = leave_makes now o;
        history = left_at o;
      }
  replied (OnShelf Shelve) =
      let o = least d now.stores in
      record {
        event = option_map (shelving z d h w.slots) o;
        makes = shelve_makes o refl;
        history = shelve_history z d h w.slots o;
      }
  replied (OnShelf (Unshelve b)) =
      let got = now.shelved b.0 in
      record {
        event = cond got (Some (event.Unshelve b)) None;
        makes = (refl, refl);
        history = unshelve_history z d h w.slots b got;
      }
  replied (Count i) =
      let o = slot_pointer w.slots i in
      record {
        event = option_map (λ (x : Handle). counting now x (tell now x)) o;
        makes = on_pointer now (tell now) 0 (counting now) o;
        history = trace_label (tell_count tell now) (λ x. counting now x (tell now x)) (λ x. refl) o;
      }
  replied (Downgrade i) =
      let o = slot_pointer w.slots i in
      let g = λ (x : Handle). copies {V = Nothing} now Weak x.place x in
      record {
        event = option_map g o;
        makes = refl;
        history = trace_label downgrade g (λ x. refl) o;
      }
  replied (Lock i must) =
      let o = weak_slot (slot_pointer w.slots i) in
      let got = λ (x : Handle). not (is_expired now x) in
      record {
        event = option_map (λ (x : Handle). locking now x (got x)) o;
        makes = on_pointer now got false (locking now) o;
        history = trace_label (lock now) (λ x. locking now x (got x)) (λ x. refl) o;
      }
  replied (Expired i) =
      let o = slot_pointer w.slots i in
      record {
        event = option_map (λ (x : Handle). expiring now x (is_expired now x)) o;
        makes = on_pointer now (is_expired now) true (expiring now) o;
        history = trace_label (tell_expired now) (λ x. expiring now x (is_expired now x)) (λ x. refl) o;
      }
  replied (Read i) =
      let o = inside (slot_pointer w.slots i) in
      let g : Handle → Event Nothing = λ x. reading now (field_of now x) x in
      record {
        event = option_map g o;
        makes = read_makes now o;
        history = trace_label (read_atomic_step now) g (λ x. refl) o;
      }
  replied (FromThis i q) =
      let o = inside (slot_pointer w.slots i) in
      let g = λ (x : Handle). copies {V = Nothing} now q (place_at x.block.0) x in
      record {
        event = option_map g (giving now o);
        makes = this_makes now q o;
        history = trace_label (give q) g (λ x. gives now q x) (giving now o);
      }
  replied (Alias i j field) =
      let o = owner_slot (slot_pointer w.slots i) in
      let p = aliased field (place_in w.slots j) in
      record {
        event = option_map (copies now Owner p) o;
        makes = refl;
        history = trace_label (alias p) (copies now Owner p) (λ x. refl) o;
      }
  replied (Move i) = record { event = None; makes = refl; history = refl }
  replied (Ask q) =
      record {
        event = None;
        makes = (refl, refl);
        history = refl;
      }
  replied (Offer i c) =
      let o = offered w.slots i c in
      record {
        event = option_map (copy now) o;
        makes = refl;
        history = trace_label share (copy now) (λ x. shared now x.kind x) o;
      }
  replied (Swap c) =
      let i = hand w.slots in
      let b = may_go w.slots c i in
      record {
        event = cond b (Some (swap_event z d h w.slots c i)) None;
        makes = swap_makes z d h w.slots c i b;
        history = swap_history z d h w.slots c i b;
      }
  replied (Exchange i c) =
      let b = may_go w.slots c i in
      record {
        event = cond b (Some (swap_event z d h w.slots c i)) None;
        makes = swap_makes z d h w.slots c i b;
        history = swap_history z d h w.slots c i b;
      }
  replied (Load c) =
      let b = is_there w.slots c in
      record {
        event = cond b (Some (load_of now (cell_of_name now w.slots c))) None;
        makes = load_makes z d h w.slots c b;
        history = load_history z d h w.slots c b;
      }
  replied (Compare i c weak) =
      let y = cell_of_name now w.slots c in
      record {
        event = Some (compare_of now y (slot_value w.slots i) (slot_value w.slots (hand w.slots)) weak);
        makes = (held_in now y, refl, refl);
        history = refl;
      }
  replied (Holds i c) =
      let b = may_go w.slots c i in
      record {
        event = cond b (Some (same_event z d h w.slots c i)) None;
        makes = same_makes z d h w.slots c i b;
        history = same_history z d h w.slots c i b;
      }
