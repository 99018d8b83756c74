-- What a desk has when a weak handle has left.
use Rattle.std.proofs.Common.{◌≡◌, ℕ, ◌+◌, ◌<◌, min, Bool, true, cond, [], ◌∷◌, ◌++◌, length, Some}
use Rattle.std.proofs.Common.{None, vec_capacity, Option, sym, refl, ap, ◌∙◌, arith}
use Rattle.control_block.proofs.Prelude
use Prelude.{Added, AddsEvent, bag_of, Block, desk_now, endings_of, Event, handle, HoldingInBlock}
use Prelude.{Idle, Inside, IsDesk, IsDeskWith, IsEnding, IsSameDesk, known, leads, NumberedHandle}
use Prelude.{on_latest, opening_of, Place, same_handle, SeatView, sound, StaysEnding, stock_of}
use Prelude.{stored, Weak, weak_of, WeakLeave, without}
use Rattle.control_block.proofs.desks.DeskBags.{adds_of, bag_loses, before, calm, ends_still}
use Rattle.control_block.proofs.desks.DeskBags.{legal_now, quiet_spares, same_desk}
use Rattle.control_block.proofs.desks.DeskSteps.{Came, came, desk_after, ending_same, one_fewer}
use Rattle.control_block.proofs.desks.DeskStores.{put_back, room_back, stock_grows}
use Rattle.control_block.proofs.Passage.{plain}
use Rattle.control_block.proofs.desks.StoreBlocks.{weak_block}

module _ {V : Type 0} (t f : Inside V) (g : IsDeskWith 1 t) (c : Block) (p : Option Place) (vacant : Bool)
    (a : Added t.seat.me.0 Idle None (WeakLeave (weak_of ((known t.seat.me.0).latest c.0) p) vacant) f.seat.me.0)
    (holds : HoldingInBlock t.seat.me.0 Weak ((known t.seat.me.0).latest c.0) p c.0) (table : f.seat.table_id ≡ t.seat.table_id) where
  abbrev w : SeatView V
  w = t.seat.me.0

  abbrev u : SeatView V
  u = f.seat.me.0

  abbrev x : NumberedHandle
  x = weak_of ((known w).latest c.0) p

  abbrev ev : Event V
  ev = WeakLeave x vacant

  abbrev pub s : Came w ev u
  s = came w u Idle None ev a

  pub stores : cond vacant (stored w.view.name (s.state.object ((known w).latest c.0)).block ∷ s.state.stores) s.state.stores
      ≡ cond vacant (stored w.view.name c.0 ∷ s.state.stores) s.state.stores
  stores = ap (λ n. cond vacant (stored w.view.name n ∷ s.state.stores) s.state.stores) (weak_block t u ev s _ p c.0 g holds)

  pub room_left : vacant ≡ true → length t.store.items < vec_capacity t.store
  room_left is = let r = room_back t g u ev s c.0 vacant stores is in omega (arith, r)

  pub desk_left : f.seat.me.1 ≡ [] → f.store.items ≡ t.store.items ++ cond vacant (c ∷ []) [] → vec_capacity f.store ≡ vec_capacity t.store
      → f.allowance ≡ t.allowance → f.endings ≡ t.endings → f.held + 1 ≡ t.held → IsDesk f
  desk_left none items capacity allowance endings held =
      let size = one_fewer w u ev s x s.asks.0.0 refl in let b = g.holding in let l = g.within in let q = ap (min 1) endings in
      desk_after t f ev g a table none (λ y i. refl) allowance (put_back t g s.state _ c vacant s.same items _ stores) capacity (omega arith) (omega arith)
      (endings ∙ (g.ended ∙ sym (ending_same w u ev s (plain (λ y i. refl) (λ y i. refl) (λ y i. refl)))))

  pub adds_left : AddsEvent (desk_now t) (WeakLeave (on_latest (desk_now t) Weak p c.0) vacant) (desk_now f)
  adds_left = adds_of t (desk_now t) u f.seat.table_id f.held (λ z. ev) refl table a

  pub bag_left : bag_of (desk_now f) ≡ without same_handle (handle Weak (Some c.0) p) (bag_of (desk_now t))
  bag_left = bag_loses t u ev g a Weak ((known w).latest c.0) p c.0 holds refl

  pub same_left : IsSameDesk (desk_now t) (desk_now f)
  same_left = same_desk t u ev g a f.seat.table_id f.held (desk_now t) refl table (λ s i. refl)

  pub stock_gone : length (stock_of (desk_now f)) ≡ length (stock_of (desk_now t)) + cond vacant 1 0
  stock_gone = stock_grows t g u ev s c.0 vacant stores

  pub still_left : (b : ℕ) (y : V) → IsEnding (desk_now t) b y → StaysEnding (desk_now t) (desk_now f) b y
  still_left b y was =
      let z = opening_of w.shape in let hist = before t u ev g a in let now = legal_now t u ev g a in
      ends_still t u ev g a f.seat.table_id f.held b y (desk_now t) refl
      (λ q. quiet_spares z (leads z hist) _ w.view.name ev b (calm (λ y i. refl) (λ y i. refl) (λ y i. refl)) (sound z hist now.0) now.1.asks q) was

  pub count_left : endings_of (desk_now f) ≡ endings_of (desk_now t)
  count_left = ending_same w u ev s (plain (λ y i. refl) (λ y i. refl) (λ y i. refl))
