-- What a desk has when a handle has left: an empty one, or one of either kind.
use Rattle.std.proofs.Common.{◌≡◌, ℕ, ◌+◌, ◌-◌, ◌<◌, ◌≤◌, min, true, cond, List, [], ◌∷◌, ◌++◌}
use Rattle.std.proofs.Common.{length, is_some, IfSome, ◌==◌, Some, None, vec_len, vec_capacity}
use Rattle.std.proofs.Common.{Option, sym, refl, ap, ◌∙◌, subst, true≢false, append-nil, arith}
use Rattle.control_block.proofs.Prelude
use Prelude.{bag_of, bag_size, Block, bool_byte, cond-true, desk_now, DeskNow, ending, endings_of}
use Prelude.{filter, freed, handle, handle_self, HoldingInBlock, Inside, IsDesk, IsDeskWith}
use Prelude.{IsEnding, IsLegal, IsReleasedBy, IsSameDesk, IsSized, IsWithinLimits, KeepsEndings}
use Prelude.{Kind, known, LetGo, Lets, many_ending, NumberedHandle, opening_of, Owner, Place}
use Prelude.{Released, same_handle, same_stored, SeatView, StaysEnding, stock, stock_of, stored}
use Prelude.{TableId, value, Weak, with_handle, without, without_handle}
use Rattle.control_block.proofs.Bags.{shown}
use Rattle.control_block.proofs.cells.CellDesks.{one}
use Rattle.control_block.proofs.leavings.OwnerLeaves as leave
use Rattle.control_block.proofs.leavings.WeakLeaves as weak

-- what came last into a bag leaves it as it was
pub front_out : (k : Kind) (q : Option Block) (p : Option Place) (l : List NumberedHandle) → without_handle k q p (with_handle k q p l) ≡ l
front_out k None p l = refl
front_out k (Some b) p l = let x = handle k (Some b.0) p in cond-true (same_handle x x) l (x ∷ without same_handle x l) (handle_self x)

module _ {V : Type 0} where
  -- a handle that the desk had has left: s blocks more are vacant, and n objects more end with the desk
  pub record HasGone (k : Kind) (q : Option Block) (p : Option Place) (s n : ℕ) (t f : DeskNow V) : Type 0 where
    pub same : IsSameDesk t f
    pub still : KeepsEndings t f
    pub stock : length (stock_of f) ≡ length (stock_of t) + s
    pub count : endings_of f ≡ endings_of t + n
    pub bag : bag_of f ≡ without_handle k q p (bag_of t)

-- a desk at rest, with its handle on the way out
pub on_its_way : {V : Type 0} (d : Inside V) → IsDesk d → IsDeskWith 1 d
on_its_way d h =
    record {
      rests = h.rests;
      legal = h.legal;
      limits = h.limits;
      sized = h.sized;
      allowed = h.allowed;
      holding = h.holding;
      ended = h.ended;
      within = omega (arith, h.within);
      stored = h.stored;
      many = h.many;
      room = h.room;
    }

-- a desk that has seen no more has what it had
module _ {V : Type 0} (t f : Inside V) (e : f.seat.me.0 ≡ t.seat.me.0) (table : f.seat.table_id ≡ t.seat.table_id) where
  pub unseen_same : IsSameDesk (desk_now t) (desk_now f)
  unseen_same =
      record {
        domain = table;
        shape = ap (λ (u : SeatView V). u.shape) e;
        name = ap (λ (u : SeatView V). u.view.name) e;
        allowance = ap (λ (u : SeatView V). (known u).allowance u.view.name) e;
      }

  pub unseen_still : (b : ℕ) (y : V) → IsEnding (desk_now t) b y → StaysEnding (desk_now t) (desk_now f) b y
  unseen_still b y was =
      record {
        ends = record {
          phase = subst (λ (u : SeatView V). ((known u).object ((known u).latest b)).phase ≡ ending u.view.name) (sym e) was.phase;
          kept = subst (λ (u : SeatView V). value (opening_of u.shape) u.view.seen ((known u).latest b) ≡ Some y) (sym e) was.kept;
        };
        shape = ap (λ (u : SeatView V). u.shape) e;
        members = λ m. ap (λ (u : SeatView V). ((known u).object ((known u).latest b)).member m) e;
      }

  pub unseen_bag : shown (known f.seat.me.0) f.seat.me.0.view.name ≡ shown (known t.seat.me.0) t.seat.me.0.view.name
  unseen_bag = ap (λ (u : SeatView V). shown (known u) u.view.name) e

  pub unseen_stock : length (stock_of (desk_now f)) ≡ length (stock_of (desk_now t))
  unseen_stock = ap (λ (u : SeatView V). length (stock (known u) u.view.name)) e

  pub unseen_count : endings_of (desk_now f) ≡ endings_of (desk_now t)
  unseen_count = ap (λ (u : SeatView V). many_ending u.shape.blocks (known u) u.view.name) e

  pub unseen_desk : {n : ℕ} → IsDeskWith n t → f.seat.me.1 ≡ [] → f.store.items ≡ t.store.items → vec_capacity f.store ≡ vec_capacity t.store
      → f.allowance ≡ t.allowance → f.endings ≡ t.endings
      → bag_size (known t.seat.me.0) t.seat.me.0.view.name ≤ f.held → f.held + min 1 f.endings ≤ f.allowance → IsDesk f
  unseen_desk g none items capacity allowance endings holding within =
      record {
        rests = record {
          awake = ap (λ (u : SeatView V). u.view.spent) e ∙ g.rests.awake;
          idle = ap (λ (u : SeatView V). u.view.pending) e ∙ g.rests.idle;
          empty = ap (λ (u : SeatView V). u.hand) e ∙ g.rests.empty;
          none = none;
        };
        legal = subst (λ (u : SeatView V). IsLegal (opening_of u.shape) u.view.seen) (sym e) g.legal;
        limits = subst (λ (u : SeatView V). IsWithinLimits u.shape) (sym e) g.limits;
        sized = subst (λ (y : TableId × SeatView V). IsSized y.0 y.1.shape) (λ i. (sym table i, sym e i)) g.sized;
        allowed = allowance ∙ (g.allowed ∙ ap (λ (u : SeatView V). (known u).allowance u.view.name) (sym e));
        holding = let s = ap (λ (u : SeatView V). bag_size (known u) u.view.name) e in omega arith;
        ended = endings ∙ (g.ended ∙ sym unseen_count);
        within = omega arith;
        stored = λ b. ap (λ (l : List Block). length (filter (λ (c : Block). c.0 == b) l)) items
            ∙ (g.stored b ∙ ap (λ (u : SeatView V). length (filter (same_stored (stored u.view.name b)) (known u).stores)) (sym e));
        many = ap (λ (l : List Block). length l) items ∙ (g.many ∙ ap (λ (u : SeatView V). length (stock (known u) u.view.name)) (sym e));
        room = subst (λ (u : SeatView V). u.shape.blocks ≤ vec_capacity f.store) (sym e) (subst
            (λ n. t.seat.me.0.shape.blocks ≤ n) (sym capacity) g.room);
      }

module _ {V : Type 0} where
  -- a handle leaves: the desk t has it on its way, and the desk f has seen it go
  pub record Going (k : Kind) (t f : Inside V) (q : Option Block) (p : Option Place) (r : Released V) : Type 0 where
    pub right : IsDeskWith 1 t
    pub gone : LetGo k t.seat.me.0 q p r f.seat.me.0
    pub holds : IfSome q (λ c. HoldingInBlock t.seat.me.0 k ((known t.seat.me.0).latest c.0) p c.0)
    pub table : f.seat.table_id ≡ t.seat.table_id
    pub held : f.held + 1 ≡ t.held

module _ {V : Type 0} {k : Kind} {t f : Inside V} {q : Option Block} {p : Option Place} {r : Released V} (leaving : Going k t f q p r) where
  abbrev IsIt : Kind → Option Block → Type 0
  IsIt k q = LetGo k t.seat.me.0 q p r f.seat.me.0 × IfSome q (λ c. HoldingInBlock t.seat.me.0 k ((known t.seat.me.0).latest c.0) p c.0)

  -- a weak handle gives no value, so none of it
  no_value : (P : V → Type 0) → r.value ≡ None → IfSome r.value P
  no_value P none = subst (λ (y : Option V). IfSome y P) (sym none) tt

  pub only : IsReleasedBy k r
  only = go k q (leaving.gone, leaving.holds)
    where
      go : (k : Kind) (q : Option Block) → IsIt k q → IsReleasedBy k r
      go Owner None it = ap (λ (y : Released V). y.vacant) it.0.0
      go Weak None it = ap (λ (y : Released V). y.value) it.0.0
      go Owner (Some c) it = it.0.1
      go Weak (Some c) it = it.0.1

  pub lets_go : Lets k (desk_now t) q p r (desk_now f)
  lets_go = go k q (leaving.gone, leaving.holds)
    where
      go : (k : Kind) (q : Option Block) → IsIt k q → Lets k (desk_now t) q p r (desk_now f)
      go k None it =
          let e = it.0.1 in let more = leaving.held in let less : f.held ≡ t.held - 1 = omega arith in
          (it.0.0, λ i. record { domain = leaving.table i; shape = (e i).shape; name = (e i).view.name; seen = (e i).view.seen; held = less i })
      go Owner (Some c) it =
          let table = leaving.table in
          (leave.adds_left t f leaving.right c p r.value it.0.0 it.1 table, it.0.1, leave.ended_left t f leaving.right c p r.value it.0.0 it.1 table it.0.2)
      go Weak (Some c) it = (weak.adds_left t f leaving.right c p r.vacant it.0.0 it.1 leaving.table, it.0.1, no_value (IsEnding (desk_now f) c.0) it.0.1)

  pub has_gone : HasGone k q p (cond r.vacant 1 0) (cond (is_some r.value) 1 0) (desk_now t) (desk_now f)
  has_gone = go k q (leaving.gone, leaving.holds)
    where
      go : (k : Kind) (q : Option Block) → IsIt k q → HasGone k q p (cond r.vacant 1 0) (cond (is_some r.value) 1 0) (desk_now t) (desk_now f)
      go k None it =
          let one : ◌≡◌ {A = ℕ} (cond r.vacant 1 0) 0 = ap (λ (y : Released V). cond y.vacant 1 0) it.0.0 in
          let two : ◌≡◌ {A = ℕ} (cond (is_some r.value) 1 0) 0 = ap (λ (y : Released V). cond (is_some y.value) 1 0) it.0.0 in
          let stock = unseen_stock t f it.0.1 leaving.table in let count = unseen_count t f it.0.1 leaving.table in
          record {
            same = unseen_same t f it.0.1 leaving.table;
            still = unseen_still t f it.0.1 leaving.table;
            stock = omega arith;
            count = omega arith;
            bag = unseen_bag t f it.0.1 leaving.table;
          }
      go Owner (Some c) it =
          let none : ◌≡◌ {A = ℕ} (cond r.vacant 1 0) 0 = ap (λ y. cond y 1 0) it.0.1 in
          let stock = leave.stock_gone t f leaving.right c p r.value it.0.0 it.1 leaving.table in
          record {
            same = leave.same_left t f leaving.right c p r.value it.0.0 it.1 leaving.table;
            still = leave.still_left t f leaving.right c p r.value it.0.0 it.1 leaving.table;
            stock = omega arith;
            count = leave.count_left t f leaving.right c p r.value it.0.0 it.1 leaving.table;
            bag = leave.bag_left t f leaving.right c p r.value it.0.0 it.1 leaving.table;
          }
      go Weak (Some c) it =
          let none : ◌≡◌ {A = ℕ} (cond (is_some r.value) 1 0) 0 = ap (λ (y : Option V). cond (is_some y) 1 0) it.0.1 in
          let count = weak.count_left t f leaving.right c p r.vacant it.0.0 it.1 leaving.table in
          record {
            same = weak.same_left t f leaving.right c p r.vacant it.0.0 it.1 leaving.table;
            still = weak.still_left t f leaving.right c p r.vacant it.0.0 it.1 leaving.table;
            stock = weak.stock_gone t f leaving.right c p r.vacant it.0.0 it.1 leaving.table;
            count = omega arith;
            bag = weak.bag_left t f leaving.right c p r.vacant it.0.0 it.1 leaving.table;
          }

  -- a block that becomes vacant has room in the store
  pub room_gone : r.vacant ≡ true → IfSome q (λ _. vec_len t.store < vec_capacity t.store)
  room_gone is = go k q (leaving.gone, leaving.holds)
    where
      go : (k : Kind) (q : Option Block) → IsIt k q → IfSome q (λ _. vec_len t.store < vec_capacity t.store)
      go k None it = tt
      go Owner (Some c) it = absurd (true≢false (sym is ∙ it.0.1))
      go Weak (Some c) it = let s = weak.room_left t f leaving.right c p r.vacant it.0.0 it.1 leaving.table is in omega (arith, s, t.store.ok)

  pub desk_gone : f.seat.me.1 ≡ [] → f.store.items ≡ t.store.items ++ freed q r.vacant → vec_capacity f.store ≡ vec_capacity t.store
      → f.allowance ≡ t.allowance → (n : ℕ) → n ≡ bool_byte (is_some r.value) → f.endings ≡ t.endings + n
      → bag_size (known t.seat.me.0) t.seat.me.0.view.name + 1 ≤ t.held + one q → f.held + min 1 f.endings ≤ f.allowance → IsDesk f
  desk_gone none items capacity allowance n byte endings room within = go k q (leaving.gone, leaving.holds) items room
    where
      go : (k : Kind) (q : Option Block) → IsIt k q → f.store.items ≡ t.store.items ++ freed q r.vacant
          → bag_size (known t.seat.me.0) t.seat.me.0.view.name + 1 ≤ t.held + one q → IsDesk f
      go k None it items room =
          let no : n ≡ 0 = byte ∙ ap (λ (y : Released V). bool_byte (is_some y.value)) it.0.0 in
          let less = leaving.held in
          unseen_desk t f it.0.1 leaving.table leaving.right none (items ∙ append-nil t.store.items) capacity allowance (omega arith) (omega arith) within
      go Owner (Some c) it items room =
          leave.desk_left t f leaving.right c p r.value it.0.0 it.1 leaving.table none
          (subst (λ y. f.store.items ≡ t.store.items ++ cond y (c ∷ []) []) it.0.1 items)
          capacity allowance n byte endings leaving.held within
      go Weak (Some c) it items room =
          let no : n ≡ 0 = byte ∙ ap (λ (y : Option V). bool_byte (is_some y)) it.0.1 in
          weak.desk_left t f leaving.right c p r.vacant it.0.0 it.1 leaving.table none items capacity allowance (omega arith) leaving.held
