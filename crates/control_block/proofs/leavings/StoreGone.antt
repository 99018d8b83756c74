-- What a desk has when a handle was stored into a cell, and what the cell held has left, of either kind.
use Rattle.std.proofs.Common.{◌≡◌, ℕ, ◌+◌, ◌≤◌, List, [], length, IfSome, Some, None, Option, sym, refl}
use Rattle.std.proofs.Common.{ap, ◌∙◌, subst, inr, arith}
use Rattle.control_block.proofs.Prelude
use Prelude.{AddsEvent, bag_of, bag_size, Block, CameOut, Cell, CellWord, desk_now, DeskNow}
use Prelude.{endings_of, handle, handle_in, handle_self, Has, has_before, HoldingInBlock, HoldsHandle}
use Prelude.{Inside, IsDesk, IsDeskWith, IsProper, IsSameDesk, Keeps, KeepsEndings, Kind, known}
use Prelude.{latest_of, LetGo, Lets, NumberedHandle, Place, Released, same_handle, same_handle_true}
use Prelude.{SeatView, stock_of, Swap, with_handle, without_handle}
use Rattle.control_block.proofs.Latest.{calls_keep_latest}
use Rattle.control_block.proofs.cells.CellDesks.{fits, got_holding, in_seat, one, one_few}
use Rattle.control_block.proofs.cells.CellOutcomes.{Came, bag_then, desk_then, event_of, is_proper}
use Rattle.control_block.proofs.cells.CellOutcomes.{keeps_else, size_now, swapped}
use Rattle.control_block.proofs.leavings.GoneDesks.{Going, HasGone, front_out, on_its_way}
use Rattle.control_block.specs.Own.{KeepsHeld, KeepsLatest}

-- what is left of a bag was in it, and is in it with a handle more
has_all : (k : Kind) (b : Option Block) (p : Option Place) (x : NumberedHandle) (l : List NumberedHandle) → Has x (without_handle k b p l) → Has x l
has_all k None p x l has = has
has_all k (Some b) p x l has = has_before same_handle same_handle_true handle_self x (handle k (Some b.0) p) l has

has_over : (k : Kind) (b : Option Block) (p : Option Place) (x : NumberedHandle) (l : List NumberedHandle) → Has x l → Has x (with_handle k b p l)
has_over k None p x l has = has
has_over k (Some b) p x l has = inr has

module _ {V : Type 0} where
  -- what is so once the handle (b, p) is in the cell: s blocks more are vacant, and n objects more end with the desk
  pub record IsStored (k : Kind) (b : Option Block) (p : Option Place) (d : DeskNow V) (s n : ℕ) (e : DeskNow V) : Type 0 where
    pub bag : bag_of e ≡ without_handle k b p (bag_of d)
    pub endings : KeepsEndings d e
    pub desk : IsSameDesk d e
    pub stock : length (stock_of e) ≡ length (stock_of d) + s
    pub count : endings_of e ≡ endings_of d + n

  lets_latest : (k : Kind) (d : DeskNow V) (b : Option Block) (p : Option Place) (r : Released V) (e : DeskNow V) → Lets k d b p r e → KeepsLatest d e
  lets_latest k d None p r e lets = λ i q a has. ap (λ (u : DeskNow V). latest_of u a) lets.1
  lets_latest k d (Some c) p r e lets = calls_keep_latest d _ e lets.0

module _ {V : Type 0} (k : Kind) (d f : Inside V) (h : IsDesk d) (cell : Cell) (lost : NumberedHandle) (b : Option Block) (p : Option Place) (x : CellWord)
    (is : lost ≡ in_seat d.seat.me.0 k b p) (has : HoldsHandle (desk_now d) k b p)
    (between : SeatView V) (out : CameOut (λ y. Swap cell lost y) k d.seat.me.0 x between) (table : f.seat.table_id ≡ d.seat.table_id) where
  -- the desk between the two events
  abbrev pub t : Inside V
  t = record {
    seat = record f.seat { me = (between, []) };
    allowance = d.allowance;
    held = d.held;
    endings = d.endings;
    store = d.store;
    shelf_word = d.shelf_word;
  }

  came : Came d between cell (λ y. Swap cell lost y) k x b p
  came = swapped d h between cell lost k x b p (desk_now d) refl is has out

  pub room : bag_size (known between) between.view.name + 1 ≤ d.held + one x.owned
  room = let s = size_now h came in let u = fits d k p b h has in omega arith

  mid : IsDeskWith 1 t
  mid =
      let few = one_few x.owned in let more = room in
      on_its_way t (desk_then t h came table refl refl refl refl (λ size. omega (arith, more, few)) (omega (arith, h.within)))

  holds : IfSome x.owned (λ a. HoldingInBlock between k ((known between).latest a.0) x.place a.0)
  holds = got_holding d h between (λ y. Swap cell lost y) k x b p came.trade.trades came.out came.mine

  kept : Keeps (desk_now d) (desk_now t)
  kept = keeps_else h came (desk_now d) t.seat.table_id t.held refl table

  pub swaps : AddsEvent (desk_now d) (Swap cell lost (handle_in (desk_now t) k x.owned x.place)) (desk_now t)
  swaps = event_of h came (desk_now d) t.seat.table_id t.held refl table

  pub proper_is : IsProper k x.owned x.place
  proper_is = is_proper h came

  pub going : (r : Released V) → LetGo k between x.owned x.place r f.seat.me.0 → f.held + 1 ≡ d.held → Going k t f x.owned x.place r
  going r gone held = record { right = mid; gone = gone; holds = holds; table = refl; held = held }

  pub stored : {s n : ℕ} → HasGone k x.owned x.place s n (desk_now t) (desk_now f) → IsStored k b p (desk_now d) s n (desk_now f)
  stored {s} {n} gone =
      let a = kept in let c = gone.same in
      record {
        bag = gone.bag ∙ (ap (without_handle k x.owned x.place) (bag_then h came (desk_now d) refl)
            ∙ front_out k x.owned x.place (without_handle k b p (bag_of (desk_now d))));
        endings = λ i y was.
            let u = a.endings i y was in
            let w = gone.still i y u.ends in
            record { ends = w.ends; shape = w.shape ∙ u.shape; members = λ q. w.members q ∙ u.members q };
        desk = record { domain = c.domain ∙ a.domain; shape = c.shape ∙ a.shape; name = c.name ∙ a.name; allowance = c.allowance ∙ a.allowance };
        stock = gone.stock ∙ ap (λ z. z + s) a.stock;
        count = gone.count ∙ ap (λ z. z + n) a.count;
      }

  -- what the desk has still is on the object that it was on
  pub keeps_held : (r : Released V) → Lets k (desk_now t) x.owned x.place r (desk_now f)
      → bag_of (desk_now f) ≡ without_handle k b p (bag_of (desk_now d)) → KeepsHeld (desk_now d) (desk_now f)
  keeps_held r lets bag i q a has =
      let y = handle i (Some a) q in let left = subst (Has y) bag has in
      let there : Has y (bag_of (desk_now t)) =
      subst (Has y) (sym (bag_then h came (desk_now d) refl)) (has_over k x.owned x.place y (without_handle k b p (bag_of (desk_now d))) left) in
      lets_latest k (desk_now t) x.owned x.place r (desk_now f) lets i q a there
      ∙ calls_keep_latest (desk_now d) _ (desk_now t) swaps i q a (has_all k b p y (bag_of (desk_now d)) left)
