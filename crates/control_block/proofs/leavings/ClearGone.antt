-- What a desk has when a member of an object that ends in its hands was emptied, and what that held has left, of either kind.
use Rattle.std.proofs.Common.{◌≡◌, ℕ, ◌+◌, ◌≤◌, min, ◌≢◌, [], length, IfSome, refl, sym, ap, ◌∙◌, arith}
use Rattle.control_block.proofs.Prelude
use Prelude.{bag_of, bag_size, CameOut, CellWord, ClearMember, desk_now, DeskNow, empty}
use Prelude.{endings_of, Ends, HoldingInBlock, Inside, IsCleared, IsDesk, IsDeskWith, IsEnding}
use Prelude.{IsProper, IsSameDesk, Kind, known, LetGo, member_in, Released, SeatView, StaysEnding}
use Prelude.{stock_of, without_handle}
use Rattle.control_block.specs.Clearing.{TakesOut}
use Rattle.control_block.specs.Desks.{KeepsOtherEndings}
use Rattle.control_block.proofs.cells.CellDesks.{one, one_few}
use Rattle.control_block.proofs.cells.CellRetries.{came_holding}
use Rattle.control_block.proofs.cells.CellTrades.{clear_trades}
use Rattle.control_block.proofs.leavings.ClearDesks as clear
use Rattle.control_block.proofs.leavings.GoneDesks.{Going, HasGone, front_out}
use Rattle.control_word.specs.State.{kind_of_member}
use Rattle.control_word.specs.declared.shape.Shape.{Shape}

module _ {V : Type 0} where
  -- what is so once a member is empty: s blocks more are vacant, and n objects more end with the desk
  pub record IsEmptied (d : DeskNow V) (b m s n : ℕ) (e : DeskNow V) : Type 0 where
    pub bag : bag_of e ≡ bag_of d
    pub cleared : (y : V) → IsEnding d b y → IsCleared e b m
    pub kept : (y : V) → IsEnding d b y → (q : ℕ) → q ≢ m → member_in e b q ≡ member_in d b q
    pub ending : (y : V) → IsEnding d b y → IsEnding e b y
    pub endings : KeepsOtherEndings d b e
    pub desk : IsSameDesk d e
    pub stock : length (stock_of e) ≡ length (stock_of d) + s
    pub count : endings_of e ≡ endings_of d + n

module _ {V : Type 0} (k : Kind) (d f : Inside V) (h : IsDesk d) (b m : ℕ) (ends : Ends d.seat.me.0 ((known d.seat.me.0).latest b) b) (x : CellWord)
    (between : SeatView V) (out : CameOut (λ y. ClearMember ((known d.seat.me.0).latest b) m y) k d.seat.me.0 x between)
    (table : f.seat.table_id ≡ d.seat.table_id) where
  -- the desk between the two events
  abbrev pub t : Inside V
  t = record {
    seat = record f.seat { me = (between, []) };
    allowance = d.allowance;
    held = d.held + 1;
    endings = d.endings;
    store = d.store;
    shelf_word = d.shelf_word;
  }

  mid : IsDeskWith 1 t
  mid =
      let few = one_few x.owned in
      clear.desk_out d h b m ends k t x out table 1 refl refl refl refl (omega (arith, h.holding, few)) (omega (arith, h.within))

  holds : IfSome x.owned (λ a. HoldingInBlock between k ((known between).latest a.0) x.place a.0)
  holds = came_holding (λ y. ClearMember ((known d.seat.me.0).latest b) m y) k d.seat.me.0 between x (empty k)
      (clear_trades V ((known d.seat.me.0).latest b) m k) out

  pub takes : TakesOut (desk_now d) b m k x.owned x.place (desk_now t)
  takes = record { event = clear.adds_out d h b m ends k t x out table; held = refl }

  pub room : bag_size (known between) between.view.name + 1 ≤ t.held + one x.owned
  room = let s = clear.size_out d h b m ends k t x out table in let u = h.holding in omega arith

  pub within : f.held ≡ d.held → d.endings ≤ f.endings → f.allowance ≡ d.allowance → f.held + min 1 f.endings ≤ f.allowance
  within held more same = let w = h.within in let one' = clear.one_ends d h b m ends k t x out table in omega arith

  pub proper_is : IsProper k x.owned x.place
  proper_is = clear.proper_out d h b m ends k t x out table

  pub going : (r : Released V) → LetGo k between x.owned x.place r f.seat.me.0 → f.held ≡ d.held → Going k t f x.owned x.place r
  going r gone held = record { right = mid; gone = gone; holds = holds; table = refl; held = ap (λ z. z + 1) held }

  module _ {s n : ℕ} (gone : HasGone k x.owned x.place s n (desk_now t) (desk_now f)) where
    still : (y : V) → IsEnding (desk_now d) b y → StaysEnding (desk_now t) (desk_now f) b y
    still y was = gone.still b y (clear.ends_out d h b m ends k t x out table y was)

    pub emptied : IsEmptied (desk_now d) b m s n (desk_now f)
    emptied =
        let a = clear.same_out d h b m ends k t x out table in let c = gone.same in
        record {
          bag = gone.bag ∙ (ap (without_handle k x.owned x.place) (clear.bag_out d h b m ends k t x out table)
              ∙ front_out k x.owned x.place (bag_of (desk_now d)));
          cleared = λ y was. (still y was).members m ∙ (clear.cleared_out d h b m ends k t x out table y was
              ∙ ap (λ (z : Shape). empty (kind_of_member z.owners m)) (sym c.shape));
          kept = λ y was q ne. (still y was).members q ∙ clear.kept_out d h b m ends k t x out table y was q ne;
          ending = λ y was. (still y was).ends;
          endings = λ i y apart was.
              let u = clear.others_out d h b m ends k t x out table i y apart was in let w = gone.still i y u.ends in
              record { ends = w.ends; shape = w.shape ∙ u.shape; members = λ q. w.members q ∙ u.members q };
          desk = record { domain = c.domain ∙ a.domain; shape = c.shape ∙ a.shape; name = c.name ∙ a.name; allowance = c.allowance ∙ a.allowance };
          stock = gone.stock ∙ ap (λ z. z + s) (clear.stock_out d h b m ends k t x out table);
          count = gone.count ∙ ap (λ z. z + n) (clear.count_out d h b m ends k t x out table);
        }
