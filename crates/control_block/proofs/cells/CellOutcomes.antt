-- What a desk has after a call by which a handle comes out of a cell, and one may go in.
use Rattle.std.proofs.Common.{◌≡◌, ℕ, ◌+◌, ◌<◌, ◌≤◌, min, Bool, cond, ◌⊎◌, [], IfSome, None}
use Rattle.std.proofs.Common.{Option, sym, refl, ap, ◌∙◌, subst, inl, inr, arith}
use Rattle.control_block.proofs.Prelude
use Prelude.{AddsEvent, after, Asks, bag, bag_of, bag_size, Block, CameOut, Cell, cell_of}
use Prelude.{CellWord, Compare, desk_now, DeskNow, empty, Event, handle_in, HoldingInBlock}
use Prelude.{HoldsHandle, Inside, IsDesk, IsOpen, IsProper, Keeps, Kind, known, length-map, Load}
use Prelude.{NumberedHandle, Place, SeatView, State, Swap, TableId, with_handle, without_handle}
use Rattle.control_block.proofs.Bags.{seen_as, shown}
use Rattle.control_block.proofs.cells.CellChoices.{allowances_of, has_of, mine_of, stores_of}
use Rattle.control_block.proofs.cells.CellChoices.{swap_allowances, swap_stores, trades_of}
use Rattle.control_block.proofs.cells.CellDesks.{bag_is, event_is, formed_out, holds_after}
use Rattle.control_block.proofs.cells.CellDesks.{in_seat, lost_holding, lost_mine, one, size_is}
use Rattle.control_block.proofs.cells.CellTrades.{Trades, load_trades, swap_trades}
use Rattle.control_block.proofs.desks.DeskBags.{IsCalm, adds_of, calm, calm_compare, calm_swap}
use Rattle.control_block.proofs.desks.DeskBags.{keeps_quietly, now_of}
use Rattle.control_block.proofs.desks.DeskSteps.{came as came_at, ending_same, quiet_desk}

module _ {V : Type 0} where
  -- events on a cell by which nothing ends: each hands out what the cell holds, and takes this one in
  pub record IsTrade (c : Cell) (e : NumberedHandle → Event V) (lost : NumberedHandle) : Type 0 where
    pub trades : Trades e lost
    pub calm : (x : NumberedHandle) → IsCalm (e x)
    pub stores : (x : NumberedHandle) (s : State) (n : ℕ) → (after s n (e x)).stores ≡ s.stores
    pub allowances : (x : NumberedHandle) (s : State) (n : ℕ) → (after s n (e x)).allowance ≡ s.allowance
    pub asks : (x : NumberedHandle) (s : State) (n : ℕ) → Asks s n (e x) → IsOpen s n c × (x ≡ cell_of s c)

  pub load_trade : (c : Cell) (k : Kind) → IsTrade c (λ x. Load c x) (empty k)
  load_trade c k =
      record {
        trades = load_trades V c k;
        calm = λ x. calm (λ s n. refl) (λ s n. refl) (λ s f. refl);
        stores = λ x s n. refl;
        allowances = λ x s n. refl;
        asks = λ x s n asks. asks;
      }

  pub swap_trade : (c : Cell) (new : NumberedHandle) → IsTrade c (λ x. Swap c new x) new
  swap_trade c new =
      record {
        trades = swap_trades V c new;
        calm = calm_swap c new;
        stores = swap_stores V c new;
        allowances = swap_allowances V c new;
        asks = λ x s n asks. (asks.0, asks.2);
      }

  pub compare_trade : (v : SeatView V) (k : Kind) (b : Option Block) (p : Option Place) (c : Cell) (expected new : NumberedHandle) (weak : Bool)
      → new ≡ in_seat v k b p → (s : Bool)
      → IsTrade c (λ x. Compare c expected new x s weak) (in_seat v k (cond s b None) (cond s p None))
  compare_trade v k b p c expected new weak is s =
      record {
        trades = trades_of v k b p c expected new weak is s;
        calm = λ x. calm_compare c expected new x s weak;
        stores = λ x y n. stores_of V c expected new x weak s y n;
        allowances = λ x y n. allowances_of V c expected new x weak s y n;
        asks = λ x y n asks. (asks.0, asks.3);
      }

  -- what the word shows came out of the cell by such an event, and the desk's (b, p) went in
  pub record Came (d : Inside V) (w : SeatView V) (c : Cell) (e : NumberedHandle → Event V) (k : Kind) (x : CellWord) (b : Option Block)
      (p : Option Place) : Type 0 where
    pub trade : IsTrade c e (in_seat d.seat.me.0 k b p)
    pub out : CameOut e k d.seat.me.0 x w
    pub mine : IfSome b (λ a. HoldingInBlock d.seat.me.0 k ((known d.seat.me.0).latest a.0) p a.0)
    pub had : HoldsHandle (desk_now d) k b p ⊎ (b ≡ None)

  pub loaded : (d : Inside V) (w : SeatView V) (c : Cell) (k : Kind) (x : CellWord) → CameOut (λ y. Load c y) k d.seat.me.0 x w
      → Came d w c (λ y. Load c y) k x None None
  loaded d w c k x out = record { trade = load_trade c k; out = out; mine = tt; had = inr refl }

  pub has_here : (d : Inside V) (y : DeskNow V) (k : Kind) (b : Option Block) (p : Option Place) → desk_now d ≡ y → HoldsHandle y k b p
      → HoldsHandle (desk_now d) k b p
  has_here d y k b p is has = subst (λ (z : DeskNow V). HoldsHandle z k b p) (sym is) has

  -- a handle of the desk's goes in, by whichever name it has in a call
  module _ (d : Inside V) (h : IsDesk d) (w : SeatView V) (c : Cell) (new : NumberedHandle) (k : Kind) (x : CellWord) (b : Option Block)
      (p : Option Place) (y : DeskNow V) (is : desk_now d ≡ y) (new_is : new ≡ handle_in y k b p) (has : HoldsHandle y k b p) where
    new_seen : new ≡ in_seat d.seat.me.0 k b p
    new_seen = new_is ∙ ap (λ (z : DeskNow V). handle_in z k b p) (sym is)

    mine_here : IfSome b (λ a. HoldingInBlock d.seat.me.0 k ((known d.seat.me.0).latest a.0) p a.0)
    mine_here = lost_mine d.seat.me.0 k p b (lost_holding d y k p h is b has)

    pub swapped : CameOut (λ z. Swap c new z) k d.seat.me.0 x w → Came d w c (λ z. Swap c new z) k x b p
    swapped out =
        record {
          trade = subst (λ z. IsTrade c (λ q. Swap c new q) z) new_seen (swap_trade c new);
          out = out;
          mine = mine_here;
          had = inl (has_here d y k b p is has);
        }

    pub compared : (expected : NumberedHandle) (weak s : Bool) → CameOut (λ z. Compare c expected new z s weak) k d.seat.me.0 x w
        → Came d w c (λ z. Compare c expected new z s weak) k x (cond s b None) (cond s p None)
    compared expected weak s out =
        record {
          trade = compare_trade d.seat.me.0 k b p c expected new weak new_seen s;
          out = out;
          mine = mine_of d.seat.me.0 k b p s mine_here;
          had = has_of (desk_now d) k b p s (has_here d y k b p is has);
        }

  module _ {d : Inside V} {w : SeatView V} {c : Cell} {e : NumberedHandle → Event V} {k : Kind} {x : CellWord} {b : Option Block}
      {p : Option Place} (h : IsDesk d) (came : Came d w c e k x b p) where
    pub size_now : bag_size (known w) w.view.name + one b ≡ bag_size (known d.seat.me.0) d.seat.me.0.view.name + one x.owned
    size_now = size_is d h w e k x b p came.trade.trades came.out came.mine came.had

    pub bag_then : (y : DeskNow V) → desk_now d ≡ y
        → shown (known w) w.view.name ≡ with_handle k x.owned x.place (without_handle k b p (bag_of y))
    bag_then y is =
        bag_is d h w e k x b p came.trade.trades came.out came.mine
        ∙ ap (λ (z : DeskNow V). with_handle k x.owned x.place (without_handle k b p (bag_of z))) is

    -- the event, and that all else is kept, of a desk that holds so many handles then
    module _ (y : DeskNow V) (id : TableId) (held : ℕ) (is : desk_now d ≡ y) (table : id ≡ d.seat.table_id) where
      pub event_of : AddsEvent y (e (in_seat w k x.owned x.place)) (now_of id w held)
      event_of = adds_of d y w id held (λ z. e (in_seat w k x.owned x.place)) is table (event_is d h w e k x b p came.trade.trades came.out came.mine)

      pub keeps_else : Keeps y (now_of id w held)
      keeps_else =
          let a = in_seat w k x.owned x.place in
          keeps_quietly d w (e a) h (event_is d h w e k x b p came.trade.trades came.out came.mine) id held y is table
          (came.trade.calm a) (came.trade.stores a) (came.trade.allowances a)

    -- what came out is held, where there is room for it
    pub holds_it : (id : TableId) (held : ℕ) → (x.owned ≡ None → bag_size (known w) w.view.name < held)
        → HoldsHandle (now_of id w held) k x.owned x.place
    holds_it id held few =
        let n = length-map (bag (known w) w.view.name) (seen_as (known w)) in
        holds_after (now_of id w held) k x.owned x.place _ (bag_is d h w e k x b p came.trade.trades came.out came.mine)
        (λ none. let m = few none in omega (arith, n, m))

    pub is_proper : IsProper k x.owned x.place
    is_proper =
        let a = in_seat w k x.owned x.place in
        formed_out d w c (e a) k x.owned x.place (event_is d h w e k x b p came.trade.trades came.out came.mine) (λ asks. came.trade.asks a _ _ asks)

  -- and the desk is right again
  pub desk_then : {d : Inside V} {c : Cell} {e : NumberedHandle → Event V} {k : Kind} {x : CellWord} {b : Option Block} {p : Option Place}
      (f : Inside V) (h : IsDesk d) (came : Came d f.seat.me.0 c e k x b p) → f.seat.table_id ≡ d.seat.table_id → f.seat.me.1 ≡ []
      → f.store ≡ d.store → f.allowance ≡ d.allowance → f.endings ≡ d.endings
      → (bag_size (known f.seat.me.0) f.seat.me.0.view.name + one b ≡ bag_size (known d.seat.me.0) d.seat.me.0.view.name + one x.owned
      → bag_size (known f.seat.me.0) f.seat.me.0.view.name ≤ f.held)
      → f.held + min 1 f.endings ≤ f.allowance → IsDesk f
  desk_then {d = d} {e = e} {k = k} {x = x} {b = b} {p = p} f h came table none store allowance endings fits within =
      let w = f.seat.me.0 in let a = in_seat w k x.owned x.place in
      let event = event_is d h w e k x b p came.trade.trades came.out came.mine in
      quiet_desk d f (e a) h event table none (came.trade.stores a) (came.trade.allowances a) store allowance (fits (size_now h came)) (omega (arith, within))
      (endings ∙ (h.ended ∙ sym (ending_same d.seat.me.0 w (e a) (came_at d.seat.me.0 w _ _ _ event) (came.trade.calm a).quiet)))
