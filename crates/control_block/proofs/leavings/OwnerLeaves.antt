-- What a desk has when an owner has left.
use Rattle.std.proofs.Common.{◌≡◌, ℕ, ◌+◌, ◌≤◌, min, false, cond, [], ◌++◌, length, is_some}
use Rattle.std.proofs.Common.{IfSome, Some, None, vec_capacity, Option, refl, ap, ◌∙◌, arith}
use Rattle.control_block.proofs.Prelude
use Prelude.{Added, AddsEvent, bag_of, Block, bool_byte, desk_now, endings_of, Event, handle}
use Prelude.{HoldingInBlock, Idle, Inside, IsDesk, IsDeskWith, IsEnding, IsSameDesk, known, leads}
use Prelude.{Leave, NumberedHandle, on_latest, opening_of, Owner, owner, Place, same_handle}
use Prelude.{SeatView, sound, StaysEnding, stock_of, value, without}
use Rattle.control_block.proofs.desks.DeskBags.{adds_of, bag_loses, before, ends_still, legal_now}
use Rattle.control_block.proofs.desks.DeskBags.{same_desk}
use Rattle.control_block.proofs.desks.DeskSteps.{came, desk_after, one_fewer, stock_left}
use Rattle.control_block.proofs.desks.DeskStores.{put_back}
use Rattle.control_block.proofs.desks.OwnCounts.{grown, grown_count}
use Rattle.control_block.proofs.desks.OwnEndings.{ended_if, leave_spares}

module _ {V : Type 0} (t f : Inside V) (g : IsDeskWith 1 t) (c : Block) (p : Option Place) (r : Option V)
    (a : Added t.seat.me.0 Idle None (Leave (owner ((known t.seat.me.0).latest c.0) p) (is_some r)) f.seat.me.0)
    (holds : HoldingInBlock t.seat.me.0 Owner ((known t.seat.me.0).latest c.0) p c.0) (table : f.seat.table_id ≡ t.seat.table_id) where
  abbrev w : SeatView V
  w = t.seat.me.0

  abbrev u : SeatView V
  u = f.seat.me.0

  abbrev x : NumberedHandle
  x = owner ((known w).latest c.0) p

  abbrev ev : Event V
  ev = Leave x (is_some r)

  pub desk_left : f.seat.me.1 ≡ [] → f.store.items ≡ t.store.items ++ [] → vec_capacity f.store ≡ vec_capacity t.store → f.allowance ≡ t.allowance
      → (n : ℕ) → n ≡ bool_byte (is_some r) → f.endings ≡ t.endings + n → f.held + 1 ≡ t.held → f.held + min 1 f.endings ≤ f.allowance → IsDesk f
  desk_left none items capacity allowance n byte endings held within =
      let s = came w u Idle None ev a in let size = one_fewer w u ev s x s.asks.0.0 refl in let b = g.holding in
      desk_after t f ev g a table none (λ y i. refl) allowance (put_back t g s.state _ c false s.same items _ refl) capacity (omega arith) (omega arith)
      (endings ∙ grown t u x (is_some r) n g a byte)

  pub adds_left : AddsEvent (desk_now t) (Leave (on_latest (desk_now t) Owner p c.0) (is_some r)) (desk_now f)
  adds_left = adds_of t (desk_now t) u f.seat.table_id f.held (λ z. ev) refl table a

  pub bag_left : bag_of (desk_now f) ≡ without same_handle (handle Owner (Some c.0) p) (bag_of (desk_now t))
  bag_left = bag_loses t u ev g a Owner ((known w).latest c.0) p c.0 holds refl

  pub same_left : IsSameDesk (desk_now t) (desk_now f)
  same_left = same_desk t u ev g a f.seat.table_id f.held (desk_now t) refl table (λ s i. refl)

  pub stock_gone : length (stock_of (desk_now f)) ≡ length (stock_of (desk_now t))
  stock_gone = ap length (stock_left w u ev (came w u Idle None ev a) (λ s i. refl))

  pub still_left : (b : ℕ) (y : V) → IsEnding (desk_now t) b y → StaysEnding (desk_now t) (desk_now f) b y
  still_left b y was =
      let z = opening_of w.shape in let hist = before t u ev g a in let now = legal_now t u ev g a in
      ends_still t u ev g a f.seat.table_id f.held b y (desk_now t) refl
      (λ q. leave_spares z (leads z hist) _ w.view.name b (sound z hist now.0) q x (is_some r) now.1.asks) was

  pub ended_left : IfSome r (λ y. value (opening_of w.shape) u.view.seen ((known w).latest c.0) ≡ Some y) → IfSome r (IsEnding (desk_now f) c.0)
  ended_left is = ended_if t u ((known w).latest c.0) c.0 f.held f.seat.table_id p r g a holds is

  pub count_left : endings_of (desk_now f) ≡ endings_of (desk_now t) + cond (is_some r) 1 0
  count_left = grown_count t u x (is_some r) g a
