-- Of two events that are right and chosen, and make the same of a reply, one is as the other.
use Rattle.std.proofs.Common.{◌≡◌, ℕ, Bool, true, false, cond, not, ◌&&◌, ◌==◌, slice_index, Some}
use Rattle.std.proofs.Common.{None, Option, sym, refl, ap, ◌∙◌, subst}
use Rattle.script_stepper.proofs.Prelude.{Always, Answer, Event, hand, Handle, Hands, is_full}
use Rattle.script_stepper.proofs.Prelude.{IsChosen, Kind, leaves_as, Nothing, NumberedHandle}
use Rattle.script_stepper.proofs.Prelude.{owned, Owner, Place, Slot, slot_of, slot_value, Slots}
use Rattle.script_stepper.proofs.Prelude.{State, Weak, weak}
use Rattle.control_word.specs.declared.model.event.Event.TheVariants as event
use Rattle.control_word.specs.Events.{Asks, cell_of, is_gone}
use Rattle.control_word.specs.Handles.{equivalent, object_of, owner, weak_of}
use Rattle.control_word.specs.State.{count}
use Rattle.step_table.specs.declared.memory.ended.Ended.{Ended}
use Rattle.step_table.specs.CellAtomicSteps.{cell_in, kind_in_state}
use Rattle.step_table.specs.Contents.{named_handle}
use Rattle.step_table.specs.AtomicSteps.{handle_of}
use Rattle.step_threads.specs.declared.programs.call.CellName.{CellName}
use Rattle.step_threads.specs.declared.said.Answer.TheVariants as answer
use Rattle.step_threads.specs.Frames.{cell_of_name}
use Rattle.step_threads.specs.TraceLabels.{IsLeaveEvent, IsLoadEvent, On, IsSwapEvent, IsSameEvent}
use Rattle.step_threads.specs.TraceLabels.{IsCompareEvent, Where}
use Rattle.step_threads.specs.Rows.{leaving}
use Rattle.step_threads.specs.AbstractStates.{remains_as}

abbrev pub Events : Type 0
Events = Option (Event Nothing)

module _ (s : State) (d : ℕ) where
  -- what was made may come
  abbrev pub Comes : Events → Type 0
  Comes None = Unit {0}
  Comes (Some e) = Asks s d e

  abbrev pub Chosen : Events → Type 0
  Chosen e = IsChosen Always s d e

  -- its reply is right
  abbrev pub Right : Events → Type 0
  Right None = Unit {0}
  Right (Some (event.Leave h last)) = last ≡ (count s (object_of h) == 1)
  Right (Some (event.WeakLeave h vacant)) = vacant ≡ (weak s (object_of h) == 1 && is_gone (s.object (object_of h)).phase)
  Right (Some (event.Lock h got)) = got ≡ not (count s (object_of h) == 0)
  Right (Some (event.Expired h expired)) = expired ≡ (count s (object_of h) == 0)
  Right (Some (event.Read h field)) = (p : Place) → h.place ≡ Some p → field ≡ slice_index (s.object (object_of h)).fields p.field
  Right (Some (event.Load c got)) = got ≡ cell_of s c
  Right (Some (event.Swap c new old)) = old ≡ cell_of s c
  Right (Some (event.Compare c expected new found swapped weak)) = found ≡ cell_of s c
  Right (Some (event.Same c h same)) = same ≡ equivalent (cell_of s c) h
  Right (Some _) = Unit {0}

  -- ---- a pointer leaves

  pub last_once : (x : Handle) (k : Kind) (b c : Bool) → Asks s d (leaves_as {V = Nothing} s k b x) → Right (Some (leaves_as s k c x)) → b ≡ c
  last_once x Owner b c p q = p.1 ∙ sym q
  last_once x Weak b c p q = p.1 ∙ sym q

  pub leaves_once : (o : Option Handle) (b c : Bool) (x y : Option Ended) (e f : Events) → IsLeaveEvent s o b x e → IsLeaveEvent s o c y f
      → Comes e → Right f → (b ≡ c) × (x ≡ y) × (e ≡ f)
  leaves_once None b c x y e f p q u v = (p.0 ∙ sym q.0, p.1 ∙ sym q.1, p.2 ∙ sym q.2)
  leaves_once (Some z) b c x y e f p q u v =
      let same = last_once z z.kind b c (subst Comes p.0 u) (subst Right q.0 v) in (
        same,
        p.1 ∙ ap (λ (t : Bool). cond t (remains_as z.kind (s.object (owned s z))) None) same ∙ sym q.1,
        p.0 ∙ ap (λ (t : Bool). Some (leaves_as s z.kind t z)) same ∙ sym q.0,
      )

  pub leaving_once : (h : Hands) (o : Option Handle) (b c : Bool) (x y : Option Ended) (e f : Events) → IsLeaveEvent s o b x e
      → IsLeaveEvent s o c y f → Comes e → Right f → (leaving h o b x ≡ leaving h o c y) × (e ≡ f)
  leaving_once h o b c x y e f p q u v =
      let r = leaves_once o b c x y e f p q u v in
      (ap (λ (t : Bool). leaving h o t x) r.0 ∙ ap (λ (t : Option Ended). leaving h o c t) r.1, r.2)

  -- ---- what is told of a pointer

  pub counts_once : (o : Option Handle) (n m : ℕ) (e f : Events) → On (λ x. e ≡ Some (event.Count (handle_of s x) n)) ((n ≡ 0) × (e ≡ None)) o
      → On (λ x. f ≡ Some (event.Count (handle_of s x) m)) ((m ≡ 0) × (f ≡ None)) o → Chosen e → Chosen f → (n ≡ m) × (e ≡ f)
  counts_once None n m e f p q u v = (p.0 ∙ sym q.0, p.1 ∙ sym q.1)
  counts_once (Some x) n m e f p q u v =
      let same : n ≡ m = subst Chosen p u tt ∙ sym (subst Chosen q v tt) in
      (same, p ∙ ap (λ (k : ℕ). Some (event.Count (handle_of s x) k)) same ∙ sym q)

  pub locks_once : (o : Option Handle) (b c : Bool) (e f : Events)
      → On (λ x. e ≡ Some (event.Lock (weak_of (owned s x) x.place) b)) ((b ≡ false) × (e ≡ None)) o
      → On (λ x. f ≡ Some (event.Lock (weak_of (owned s x) x.place) c)) ((c ≡ false) × (f ≡ None)) o → Comes e → Right f
      → (b ≡ c) × (e ≡ f)
  locks_once None b c e f p q u v = (p.0 ∙ sym q.0, p.1 ∙ sym q.1)
  locks_once (Some x) b c e f p q u v =
      let a = subst Comes p u in let k = subst Right q v in
      let same : b ≡ c = a.1 ∙ sym k in
      (same, p ∙ ap (λ (t : Bool). Some (event.Lock (weak_of (owned s x) x.place) t)) same ∙ sym q)

  pub expires_once : (o : Option Handle) (b c : Bool) (e f : Events)
      → On (λ x. e ≡ Some (event.Expired (handle_of s x) b)) ((b ≡ true) × (e ≡ None)) o
      → On (λ x. f ≡ Some (event.Expired (handle_of s x) c)) ((c ≡ true) × (f ≡ None)) o → Comes e → Right f → (b ≡ c) × (e ≡ f)
  expires_once None b c e f p q u v = (p.0 ∙ sym q.0, p.1 ∙ sym q.1)
  expires_once (Some x) b c e f p q u v =
      let a = subst Comes p u in let k = subst Right q v in
      let same : b ≡ c = a.1 ∙ sym k in
      (same, p ∙ ap (λ (t : Bool). Some (event.Expired (handle_of s x) t)) same ∙ sym q)

  pub reads_once : (o : Option Handle) (z : Answer) (n m : ℕ) (e f : Events)
      → On (λ x. e ≡ Some (event.Read (owner (owned s x) x.place) n)) (e ≡ None) o
      → On (λ x. f ≡ Some (event.Read (owner (owned s x) x.place) m)) (f ≡ None) o → Comes e → Right f
      → (cond (is_full o) (answer.Read n) z ≡ cond (is_full o) (answer.Read m) z) × (e ≡ f)
  reads_once None z n m e f p q u v = (refl, p ∙ sym q)
  reads_once (Some x) z n m e f p q u v =
      let a = (subst Comes p u).1 in
      let k = subst Right q v in
      let same : n ≡ m = a.3 ∙ sym (k a.0 a.1) in
      (ap answer.Read same, p ∙ ap (λ (k : ℕ). Some (event.Read (owner (owned s x) x.place) k)) same ∙ sym q)

  pub gives_once : (o : Option Handle) (g : Bool → Handle → Events) (t : Handle → Bool) (b c : Bool) (e f : Events)
      → On (λ x. (b ≡ t x) × (e ≡ g b x)) ((b ≡ false) × (e ≡ None)) o
      → On (λ x. (c ≡ t x) × (f ≡ g c x)) ((c ≡ false) × (f ≡ None)) o → (b ≡ c) × (e ≡ f)
  gives_once None g t b c e f p q = (p.0 ∙ sym q.0, p.1 ∙ sym q.1)
  gives_once (Some x) g t b c e f p q =
      let same : b ≡ c = p.0 ∙ sym q.0 in (same, p.1 ∙ ap (λ (k : Bool). g k x) same ∙ sym q.1)

  -- ---- cells

  module _ (l : Slots) (A : Type 0) (to : Slot → A) (from : A) where
    pub swaps_once : (b : Bool) (c : CellName) (i : ℕ) (x y : Slot) (e f : Events) → Where b (IsSwapEvent s l c i x e) (e ≡ None)
        → Where b (IsSwapEvent s l c i y f) (f ≡ None) → Comes e → Right f → (cond b (to x) from ≡ cond b (to y) from) × (e ≡ f)
    swaps_once false c i x y e f p q u v = (refl, p ∙ sym q)
    swaps_once true c i x y e f p q u v =
        let a = subst Comes p.1 u in
        let k = subst Right q.1 v in
        let same : p.0 ≡ q.0 = a.2 ∙ sym k in (
          ap to (p.2 ∙ ap (slot_of s) same ∙ sym q.2),
          p.1 ∙ ap (λ (h : NumberedHandle). Some
              (event.Swap (cell_in s (cell_of_name s l c)) (named_handle s (kind_in_state s (cell_of_name s l c)) (slot_value l i)) h)) same ∙ sym q.1,
        )

    pub loads_once : (b : Bool) (c : CellName) (x y : Slot) (e f : Events) → Where b (IsLoadEvent s l c x e) (e ≡ None)
        → Where b (IsLoadEvent s l c y f) (f ≡ None) → Comes e → Right f → (cond b (to x) from ≡ cond b (to y) from) × (e ≡ f)
    loads_once false c x y e f p q u v = (refl, p ∙ sym q)
    loads_once true c x y e f p q u v =
        let a = subst Comes p.1 u in
        let k = subst Right q.1 v in
        let same : p.0 ≡ q.0 = a.1 ∙ sym k in (
          ap to (p.2 ∙ ap (slot_of s) same ∙ sym q.2),
          p.1 ∙ ap (λ (h : NumberedHandle). Some (event.Load (cell_in s (cell_of_name s l c)) h)) same ∙ sym q.1,
        )

  pub compares_once : (l : Slots) (c : CellName) (k : ℕ) (weak b g : Bool) (x y : Slot) (e f : Events) → IsCompareEvent s l c k weak b x e
      → IsCompareEvent s l c k weak g y f → Comes e → Right f → Chosen e → Chosen f → (x ≡ y) × (b ≡ g) × (e ≡ f)
  compares_once l c k weak b g x y e f p q u v m n =
      let a = subst Comes p.1 u in
      let z = subst Right q.1 v in
      let at = cell_of_name s l c in
      let compared_event : NumberedHandle → Bool → Events = λ h t.
      Some (event.Compare (cell_in s at) (named_handle s (kind_in_state s at) (slot_value l k))
      (named_handle s (kind_in_state s at) (slot_value l (hand l))) h t weak) in
      let same : p.0 ≡ q.0 = a.3 ∙ sym z in
      let w = subst Chosen p.1 m in
      let r = subst Chosen q.1 n in
      let yes : b ≡ g = w ∙ ap (λ (h : NumberedHandle). equivalent h (named_handle s (kind_in_state s (cell_of_name s l c)) (slot_value l k))) same ∙ sym r in (
        p.2 ∙ ap (slot_of s) same ∙ sym q.2,
        yes,
        p.1 ∙ ap (λ (h : NumberedHandle). compared_event h b) same ∙ ap (compared_event q.0) yes ∙ sym q.1,
      )

  pub same_once : (l : Slots) (g : Bool) (c : CellName) (k : ℕ) (a b : Bool) (e f : Events)
      → Where g (IsSameEvent s l c k a e) ((a ≡ false) × (e ≡ None)) → Where g (IsSameEvent s l c k b f) ((b ≡ false) × (f ≡ None)) → Comes e → Right f
      → (a ≡ b) × (e ≡ f)
  same_once l false c k a b e f p q u v = (p.0 ∙ sym q.0, p.1 ∙ sym q.1)
  same_once l true c k a b e f p q u v =
      let at = cell_of_name s l c in
      let h = named_handle s (kind_in_state s at) (slot_value l k) in
      let x = subst Comes p u in
      let y = subst Right q v in
      let same : a ≡ b = x.2 ∙ sym y in
      (same, p ∙ ap (λ (t : Bool). Some (event.Same (cell_in s at) h t)) same ∙ sym q)
