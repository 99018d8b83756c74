-- What a desk has when a member of an object that ends in its hands was emptied.
use Rattle.std.proofs.Common.{◌≡◌, ℕ, ◌+◌, ◌<◌, ◌≤◌, min, cond, ◌≢◌, List, [], ◌∷◌, length, ◌==◌}
use Rattle.std.proofs.Common.{Some, None, sym, refl, ap, ◌∙◌, subst, inr, arith, eq-eqb, ne_eqb}
use Rattle.control_block.proofs.Prelude
use Prelude.{Added, AddsEvent, bag_of, bag_size, CameOut, CellWord, ClearMember, cond-false}
use Prelude.{cond-true, desk_now, empty, ending, Ends, entry, Event, handle_in, HasRoomFor, Idle}
use Prelude.{Inside, IsDesk, IsDeskWith, IsEnding, IsProper, IsSameDesk, Kind, kind_of_member}
use Prelude.{known, leads, many_ending, Member, member_in, NumberedHandle, Object, opening_of, put}
use Prelude.{put_same, SeatView, sound, State, StaysEnding, stock_of, value, with_handle}
use Rattle.control_word.proofs.history.Kept.{owners_led}
use Rattle.control_block.specs.Desks.{IsCleared}
use Rattle.control_block.proofs.Bags.{shown}
use Rattle.control_block.proofs.cells.CellDesks.{bag_is, event_is, formed_in, in_seat, one}
use Rattle.control_block.proofs.cells.CellDesks.{size_is}
use Rattle.control_block.proofs.cells.CellTrades.{clear_trades}
use Rattle.control_block.proofs.desks.DeskBags.{adds_of, before, ends_still, legal_now, same_desk}
use Rattle.control_block.proofs.desks.DeskSteps.{came, ending_same, quiet_desk, stock_left}
use Rattle.control_block.proofs.EndingCounts.{some_ending}
use Rattle.control_block.proofs.Endings.{still_ends}
use Rattle.control_block.proofs.desks.OwnEndings.{clear_spares, ending_before, ends_inside}
use Rattle.control_block.proofs.Passage.{quiet_clear}

pub room_out : {V : Type 0} (d : Inside V) (b : ℕ) → IsDesk d → Ends d.seat.me.0 ((known d.seat.me.0).latest b) b → HasRoomFor d.seat.me.0
room_out d b h ends =
    let v = d.seat.me.0 in let i = (ends_inside d b h ends).1 in let low = i.0 in let high = i.1 in
    let t = some_ending v.shape.blocks (known v) v.view.name b low high ends.1 in omega (arith, h.ended, h.holding, h.within, h.allowed)

module _ {V : Type 0} (d : Inside V) (h : IsDesk d) (b m : ℕ) (ends : Ends d.seat.me.0 ((known d.seat.me.0).latest b) b) (k : Kind) (t : Inside V)
    (x : CellWord) (c : CameOut (λ y. ClearMember ((known d.seat.me.0).latest b) m y) k d.seat.me.0 x t.seat.me.0)
    (table : t.seat.table_id ≡ d.seat.table_id) where
  abbrev pub v : SeatView V
  v = d.seat.me.0

  abbrev pub w : SeatView V
  w = t.seat.me.0

  abbrev pub o : ℕ
  o = (known v).latest b

  abbrev pub e : NumberedHandle → Event V
  e y = ClearMember o m y

  abbrev pub got : NumberedHandle
  got = in_seat w k x.owned x.place

  -- there is room for what comes out: while an object ends with the desk it keeps a place free
  pub one_ends : 0 < d.endings
  one_ends =
      let i = (ends_inside d b h ends).1 in let low = i.0 in let high = i.1 in
      let t' = some_ending v.shape.blocks (known v) v.view.name b low high ends.1 in let q = h.ended in omega arith

  pub event : Added v Idle None (e got) w
  event = event_is d h w e k x None None (clear_trades V o m k) c tt

  pub proper_out : IsProper k x.owned x.place
  proper_out = formed_in d w (Member o m) (e got) k x.owned x.place event (λ asks. (asks.1, asks.2))

  pub bag_out : shown (known w) w.view.name ≡ with_handle k x.owned x.place (bag_of (desk_now d))
  bag_out = bag_is d h w e k x None None (clear_trades V o m k) c tt

  pub size_out : bag_size (known w) w.view.name + 0 ≡ bag_size (known v) v.view.name + one x.owned
  size_out = size_is d h w e k x None None (clear_trades V o m k) c tt (inr refl)

  pub count_out : many_ending w.shape.blocks (known w) w.view.name ≡ many_ending v.shape.blocks (known v) v.view.name
  count_out = ending_same v w (e got) (came v w Idle None (e got) event) (quiet_clear o m got)

  pub desk_out : (n : ℕ) → t.seat.me.1 ≡ [] → t.store ≡ d.store → t.allowance ≡ d.allowance → t.endings ≡ d.endings
      → bag_size (known v) v.view.name + one x.owned ≤ t.held → t.held + min 1 d.endings ≤ n + d.allowance → IsDeskWith n t
  desk_out n none store allowance endings held within =
      let s = size_out in let q = ap (min 1) endings in
      quiet_desk d t (e got) h event table none (λ y i. refl) (λ y i. refl) store allowance (omega arith) (omega arith)
      (endings ∙ (h.ended ∙ sym count_out))

  pub adds_out : AddsEvent (desk_now d) (ClearMember o m (handle_in (desk_now t) k x.owned x.place)) (desk_now t)
  adds_out = adds_of d (desk_now d) w t.seat.table_id t.held (λ z. e got) refl table event

  pub same_out : IsSameDesk (desk_now d) (desk_now t)
  same_out = same_desk d w (e got) h event t.seat.table_id t.held (desk_now d) refl table (λ s i. refl)

  pub stock_out : length (stock_of (desk_now t)) ≡ length (stock_of (desk_now d))
  stock_out = ap length (stock_left v w (e got) (came v w Idle None (e got) event) (λ s i. refl))

  pub others_out : (a : ℕ) (y : V) → a ≢ b → IsEnding (desk_now d) a y → StaysEnding (desk_now d) (desk_now t) a y
  others_out a y apart was =
      let z = opening_of v.shape in let hist = before d w (e got) h event in let now = legal_now d w (e got) h event in
      ends_still d w (e got) h event t.seat.table_id t.held a y (desk_now d) refl
      (λ p. clear_spares z (leads z hist) _ v.view.name a (sound z hist now.0) p o m got b (ending_before d w (e got) h event b ends) apart) was

  -- the object itself: it ends with the desk still, with this member empty
  module _ (y : V) (was : IsEnding (desk_now d) b y) where
    abbrev hist : List (Rattle.control_word.specs.declared.model.event.Entry.Entry V)
    hist = before d w (e got) h event

    abbrev s : State
    s = leads (opening_of v.shape) hist

    still : Rattle.control_block.proofs.Endings.StillEnds (opening_of v.shape) event.between v.view.seen b v.view.name
    still = still_ends (opening_of v.shape) event.between v.view.seen b v.view.name (legal_now d w (e got) h event).0 event.quiet was.phase

    last : s.latest b ≡ o
    last = still.latest

    abbrev after : Object
    after = let u = s.object o in record u { member = put u.member m (empty (kind_of_member s.owners m)) }

    now_is : known w ≡ leads (opening_of v.shape) (entry v.view.name (e got) ∷ hist)
    now_is = λ i. leads (opening_of (ap (λ (u : SeatView V). u.shape) event.now i)) (ap (λ (u : SeatView V). u.view.seen) event.now i)

    object_is : (known w).object ((known w).latest b) ≡ after
    object_is =
        ap (λ (u : State). u.object (u.latest b)) now_is
        ∙ (ap (λ i. put s.object o after i) last ∙ put_same s.object o after o refl)

    pub ends_out : IsEnding (desk_now t) b y
    ends_out = record {
      phase = ap (λ (u : Object). u.phase) object_is
          ∙ (still.object.phase ∙ (was.phase ∙ ap ending (sym (ap (λ (u : SeatView V). u.view.name) event.now))));
      kept = subst (λ (u : SeatView V). value (opening_of u.shape) u.view.seen ((known u).latest b) ≡ Some y) (sym event.now)
          (ap (value (opening_of v.shape) hist) last ∙ (still.value ∙ was.kept));
    }

    pub members_out : (q : ℕ) → member_in (desk_now t) b q ≡ cond (q == m) (empty (kind_of_member s.owners m)) (member_in (desk_now d) b q)
    members_out q = ap (λ (u : Object). u.member q) object_is ∙ ap (λ r. cond (q == m) (empty (kind_of_member s.owners m)) r) (still.object.member q)

  pub cleared_out : (y : V) → IsEnding (desk_now d) b y → IsCleared (desk_now t) b m
  cleared_out y was =
      members_out y was m ∙ (cond-true (m == m) _ _ (eq-eqb m m refl)
      ∙ ap (λ n. empty (kind_of_member n m)) (owners_led (opening_of v.shape) (hist y was)
      ∙ ap (λ (u : SeatView V). u.shape.owners) (sym event.now)))

  pub kept_out : (y : V) → IsEnding (desk_now d) b y → (q : ℕ) → q ≢ m → member_in (desk_now t) b q ≡ member_in (desk_now d) b q
  kept_out y was q ne = members_out y was q ∙ cond-false (q == m) _ _ (ne_eqb q m ne)
