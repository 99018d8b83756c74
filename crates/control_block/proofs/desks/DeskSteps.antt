-- What a desk is after a call.
use Rattle.std.proofs.Common.{◌≡◌, ℕ, suc, ◌+◌, ◌<◌, ◌≤◌, min, Bool, true, false, ◌&&◌, ◌≢◌, List}
use Rattle.std.proofs.Common.{[], ◌∷◌, ◌++◌, length, ◌==◌, Some, None, vec_capacity, Option, sym}
use Rattle.std.proofs.Common.{refl, ap, ◌∙◌, subst, ⊎_elim, arith, length-append, eq-eqb, ne_eqb}
use Rattle.control_block.proofs.Prelude
use Prelude.{Added, after, Asks, bag_one, bag_size, Block, block_kept, cases_eq, cond-false}
use Prelude.{cond-true, entry, Event, filter, filter-append, handle, Has, Held, held, held_self}
use Prelude.{held_true, HoldingInBlock, Idle, InShape, Inside, IsDeskWith, IsLegal, IsSized, Kind}
use Prelude.{known, leads, many_ending, names_an_object, num_has, num_without, NumberedHandle}
use Prelude.{opening_of, Pending, Place, same_held, same_kept, same_stored, SeatView, Sound, sound}
use Prelude.{spot, State, stock, Stored, stored, TableId, without}
use Rattle.control_word.proofs.history.Kept.{Same}
use Rattle.control_block.proofs.EndingCounts.{quiet_count, same_count}
use Rattle.control_block.proofs.Passage.{IsQuiet}

-- how often a desk's store has a block, told by the desk's part
in_part : (d b : ℕ) (l : List Stored)
    → length (filter (same_stored (stored d b)) l) ≡ length (filter (λ (x : Stored). b == x.block) (filter (λ (x : Stored). x.desk == d) l))
in_part d b [] = refl
in_part d b (x ∷ l) =
    let i = in_part d b l in let rest = filter (λ (y : Stored). y.desk == d) l in
    ⊎_elim
    (λ (e : x.desk ≡ d).
    let p : filter (λ (y : Stored). y.desk == d) (x ∷ l) ≡ x ∷ rest = cond-true (x.desk == d) (x ∷ rest) rest (eq-eqb x.desk d e) in
    let s : same_stored (stored d b) x ≡ (b == x.block) = ap (λ c. c && (b == x.block)) (eq-eqb d x.desk (sym e)) in
    go (b == x.block) s refl i ∙ ap (λ r. length (filter (λ (y : Stored). b == y.block) r)) (sym p))
    (λ (n : x.desk ≢ d).
    let p : filter (λ (y : Stored). y.desk == d) (x ∷ l) ≡ rest = cond-false (x.desk == d) (x ∷ rest) rest (ne_eqb x.desk d n) in
    let s : same_stored (stored d b) x ≡ false = ap (λ c. c && (b == x.block)) (ne_eqb d x.desk (λ e. n (sym e))) in
    ap length (cond-false (same_stored (stored d b) x) (x ∷ filter (same_stored (stored d b)) l) (filter (same_stored (stored d b)) l) s)
    ∙ (i ∙ ap (λ r. length (filter (λ (y : Stored). b == y.block) r)) (sym p)))
    (cases_eq x.desk d)
  where
    go : (c : Bool) → same_stored (stored d b) x ≡ c → (b == x.block) ≡ c
        → length (filter (same_stored (stored d b)) l) ≡ length (filter (λ (y : Stored). b == y.block) (filter (λ (y : Stored). y.desk == d) l))
        → length (filter (same_stored (stored d b)) (x ∷ l)) ≡ length (filter (λ (y : Stored). b == y.block) (x ∷ filter
        (λ (y : Stored). y.desk == d) l))
    go true s e i =
        let r = filter (λ (y : Stored). b == y.block) (filter (λ (y : Stored). y.desk == d) l) in let q = filter (same_stored (stored d b)) l in
        ap length (cond-true (same_stored (stored d b) x) (x ∷ q) q s) ∙ (ap suc i ∙ sym (ap length (cond-true (b == x.block) (x ∷ r) r e)))
    go false s e i =
        let r = filter (λ (y : Stored). b == y.block) (filter (λ (y : Stored). y.desk == d) l) in let q = filter (same_stored (stored d b)) l in
        ap length (cond-false (same_stored (stored d b) x) (x ∷ q) q s) ∙ (i ∙ sym (ap length (cond-false (b == x.block) (x ∷ r) r e)))

pub same_tally : (d b : ℕ) (s t : State) → stock t d ≡ stock s d
    → length (filter (same_stored (stored d b)) t.stores) ≡ length (filter (same_stored (stored d b)) s.stores)
same_tally d b s t e = in_part d b t.stores ∙ (ap (λ r. length (filter (λ (y : Stored). b == y.block) r)) e ∙ sym (in_part d b s.stores))

module _ {V : Type 0} where
  -- the state at which the event came, in which the desk's own part was what it had seen
  pub record Came (v : SeatView V) (e : Event V) (w : SeatView V) : Type 0 where
    pub state : State
    pub fine : Sound (opening_of v.shape) state
    pub same : Same (known v) state v.view.name
    pub blocks : (o : ℕ) → o ≤ (known v).made → (state.object o).block ≡ ((known v).object o).block
    pub asks : Asks state v.view.name e
    pub now : known w ≡ after state v.view.name e
    pub name : w.view.name ≡ v.view.name
    pub shape : w.shape ≡ v.shape
    pub legal : IsLegal (opening_of w.shape) w.view.seen
    pub ending : many_ending v.shape.blocks state v.view.name ≡ many_ending v.shape.blocks (known v) v.view.name

  pub came : (v w : SeatView V) (p : Pending V) (c : Option Block) (e : Event V) → Added v p c e w → Came v e w
  came v w p c e a =
      let z = opening_of v.shape in let h = a.between ++ v.view.seen in let d = v.view.name in
      let seen : w.view.seen ≡ entry d e ∷ h = ap (λ (u : SeatView V). u.view.seen) a.now in
      let shape : w.shape ≡ v.shape = ap (λ (u : SeatView V). u.shape) a.now in
      let l : IsLegal z (entry d e ∷ h) = subst (IsLegal z) seen a.legal in
      record {
        state = leads z h;
        fine = sound z h l.0;
        same = same_kept z a.between v.view.seen d a.quiet;
        blocks = λ o made. (block_kept z a.between v.view.seen o made).0;
        asks = l.1.asks;
        now = λ i. leads (opening_of (shape i)) (seen i);
        name = ap (λ (u : SeatView V). u.view.name) a.now;
        shape = shape;
        legal = subst (λ y. IsLegal (opening_of y) w.view.seen) (sym shape) a.legal;
        ending = same_count z a.between v.view.seen d l.0 a.quiet;
      }

  -- how many objects end in its hands after the event
  pub ending_after : (v w : SeatView V) (e : Event V) (c : Came v e w)
      → many_ending w.shape.blocks (known w) w.view.name ≡ many_ending v.shape.blocks (after c.state v.view.name e) v.view.name
  ending_after v w e c = λ i. many_ending (c.shape i).blocks (c.now i) (c.name i)

  -- as many as before, where it moves no object
  pub ending_same : (v w : SeatView V) (e : Event V) (c : Came v e w) → IsQuiet e
      → many_ending w.shape.blocks (known w) w.view.name ≡ many_ending v.shape.blocks (known v) v.view.name
  ending_same v w e c quiet = ending_after v w e c ∙ (quiet_count v.shape.blocks c.state v.view.name v.view.name e quiet ∙ c.ending)

  -- a call that leaves the store and the allowance alone
  pub quiet_desk : {n m : ℕ} (d d' : Inside V) (e : Event V) → IsDeskWith n d → Added d.seat.me.0 Idle None e d'.seat.me.0
      → d'.seat.table_id ≡ d.seat.table_id → d'.seat.me.1 ≡ []
      → ((s : State) (x : ℕ) → (after s x e).stores ≡ s.stores) → ((s : State) (x : ℕ) → (after s x e).allowance ≡ s.allowance)
      → d'.store ≡ d.store → d'.allowance ≡ d.allowance → bag_size (known d'.seat.me.0) d'.seat.me.0.view.name ≤ d'.held
      → d'.held + min 1 d'.endings ≤ m + d'.allowance → d'.endings ≡ many_ending d'.seat.me.0.shape.blocks (known d'.seat.me.0) d'.seat.me.0.view.name
      → IsDeskWith m d'
  quiet_desk d d' e h a table none stores allowances store allowance held within ended =
      let v = d.seat.me.0 in let w = d'.seat.me.0 in let c = came v w Idle None e a in let n = v.view.name in
      let stores' : (known w).stores ≡ c.state.stores = ap (λ (s : State). s.stores) c.now ∙ stores c.state n in
      let allowance' : (known w).allowance w.view.name ≡ (known v).allowance n =
      (λ i. (c.now i).allowance (c.name i)) ∙ (ap (λ (f : ℕ → ℕ). f n) (allowances c.state n) ∙ c.same.may_hold) in
      record {
        rests = record {
          awake = ap (λ (u : SeatView V). u.view.spent) a.now ∙ h.rests.awake;
          idle = ap (λ (u : SeatView V). u.view.pending) a.now;
          empty = ap (λ (u : SeatView V). u.hand) a.now;
          none = none;
        };
        legal = c.legal;
        limits = subst (Rattle.control_word.specs.Layout.IsWithinLimits) (sym c.shape) h.limits;
        sized = subst (λ (y : Rattle.atomic_table.specs.Seated.TableId
            × Rattle.control_word.specs.declared.shape.Shape.Shape). IsSized y.0 y.1) (λ i. (sym table i, sym c.shape i)) h.sized;
        allowed = allowance ∙ (h.allowed ∙ sym allowance');
        holding = held;
        ended = ended;
        within = within;
        stored = λ b. ap (λ s. length (filter (λ (x : Block). x.0 == b) s.items)) store
            ∙ (h.stored b ∙ (sym (same_tally n b (known v) c.state c.same.in_stock)
            ∙ (λ i. length (filter (same_stored (stored (sym c.name i) b)) (sym stores' i)))));
        many = ap (λ s. length s.items) store ∙ (h.many ∙ (ap length (sym c.same.in_stock)
            ∙ (λ i. length (filter (λ (x : Stored). x.desk == sym c.name i) (sym stores' i)))));
        room = subst (λ (y : Rattle.control_word.specs.declared.shape.Shape.Shape). y.blocks ≤ vec_capacity d'.store) (sym c.shape) (subst
            (λ s. v.shape.blocks ≤ vec_capacity s) (sym store) h.room);
      }

  -- what such a call leaves
  module _ (v w : SeatView V) (e : Event V) (c : Came v e w) where
    pub allowance_left : ((s : State) (x : ℕ) → (after s x e).allowance ≡ s.allowance)
        → (known w).allowance w.view.name ≡ (known v).allowance v.view.name
    allowance_left allowances =
        (λ i. (c.now i).allowance (c.name i)) ∙ (ap (λ (f : ℕ → ℕ). f v.view.name) (allowances c.state v.view.name) ∙ c.same.may_hold)

    pub stock_left : ((s : State) (x : ℕ) → (after s x e).stores ≡ s.stores) → stock (known w) w.view.name ≡ stock (known v) v.view.name
    stock_left stores =
        (λ i. stock (c.now i) (c.name i))
        ∙ (ap (λ (l : List Stored). filter (λ (x : Stored). x.desk == v.view.name) l) (stores c.state v.view.name) ∙ c.same.in_stock)

  -- the handles after a call that gives one
  pub one_more : (v w : SeatView V) (e : Event V) (c : Came v e w) (x : NumberedHandle)
      → (after c.state v.view.name e).hands ≡ held v.view.name x ∷ c.state.hands
      → bag_size (known w) w.view.name ≡ suc (bag_size (known v) v.view.name)
  one_more v w e c x hands =
      (λ i. bag_size (c.now i) (c.name i))
      ∙ (ap (λ (l : List Held). length (filter (λ (y : Held). y.desk == v.view.name) l)) hands ∙ (bag_one v.view.name x c.state.hands
      ∙ ap suc (ap length c.same.in_bag)))

  -- and after one that takes one
  pub one_fewer : (v w : SeatView V) (e : Event V) (c : Came v e w) (x : NumberedHandle) → Has (held v.view.name x) c.state.hands
      → (after c.state v.view.name e).hands ≡ without same_held (held v.view.name x) c.state.hands
      → suc (bag_size (known w) w.view.name) ≡ bag_size (known v) v.view.name
  one_fewer v w e c x has hands =
      let a : bag_size (known w) w.view.name ≡ length (filter
      (λ (y : Held). y.desk == v.view.name) (without same_held (held v.view.name x) c.state.hands)) =
      (λ i. bag_size (c.now i) (c.name i)) ∙ ap (λ (l : List Held). length (filter (λ (y : Held). y.desk == v.view.name) l)) hands in
      let b = num_without same_held held_true held_self (λ (y : Held). y.desk == v.view.name) (held v.view.name x) c.state.hands has in
      let one = bag_one v.view.name x [] in let s = ap length c.same.in_bag in omega arith

  -- the block of a handle that a desk holds is the table's
  pub word_inside : {n : ℕ} (d : Inside V) (id : TableId) (k : Kind) (o : ℕ) (p : Option Place) (b j : ℕ) → IsDeskWith n d → d.seat.table_id ≡ id
      → HoldingInBlock d.seat.me.0 k o p b → j < 16
      → (0 < b) × (spot b j < id.words)
  word_inside d id k o p b j h table holds low =
      let v = d.seat.me.0 in let z = opening_of v.shape in
      let n = names_an_object z v.view.seen h.legal v.view.name k (handle k (Some o) p) (holds.has, refl, refl) in
      let inside = subst (InShape z) holds.there n.3 in
      let words = ap (λ y. y.words) (sym table) ∙ h.sized.words in
      let l0 = inside.0 in let l1 = inside.1 in (omega arith, omega arith)

  -- and after one that leaves them
  pub as_many : (v w : SeatView V) (e : Event V) (c : Came v e w) → (after c.state v.view.name e).hands ≡ c.state.hands
      → bag_size (known w) w.view.name ≡ bag_size (known v) v.view.name
  as_many v w e c hands =
      (λ i. bag_size (c.now i) (c.name i))
      ∙ (ap (λ (l : List Held). length (filter (λ (y : Held). y.desk == v.view.name) l)) hands ∙ ap length c.same.in_bag)

  pub slot_inside : {n : ℕ} (d : Inside V) (id : TableId) (k : Kind) (o : ℕ) (p : Option Place) (b : ℕ) → IsDeskWith n d → d.seat.table_id ≡ id
      → HoldingInBlock d.seat.me.0 k o p b → b ≤ id.slots
  slot_inside d id k o p b h table holds =
      let v = d.seat.me.0 in let z = opening_of v.shape in
      let n = names_an_object z v.view.seen h.legal v.view.name k (handle k (Some o) p) (holds.has, refl, refl) in
      let inside = subst (InShape z) holds.there n.3 in let slots = ap (λ y. y.slots) (sym table) ∙ h.sized.slots in
      let l1 = inside.1 in omega arith

  -- who holds a handle holds at least one
  pub holds_some : {n : ℕ} (d : Inside V) (k : Kind) (o : ℕ) (p : Option Place) (b : ℕ) → IsDeskWith n d
      → HoldingInBlock d.seat.me.0 k o p b → 0 < d.held
  holds_some d k o p b h holds =
      let v = d.seat.me.0 in
      let t = num_has (λ (y : Held). y.desk == v.view.name) (held v.view.name (handle k (Some o) p)) (known v).hands holds.has
      (eq-eqb v.view.name v.view.name refl) in
      let u = h.holding in omega arith

  -- a call that leaves the allowance alone, with a store that lists the stock after it
  pub desk_after : {n m : ℕ} (d d' : Inside V) (e : Event V) (h : IsDeskWith n d) (a : Added d.seat.me.0 Idle None e d'.seat.me.0)
      → d'.seat.table_id ≡ d.seat.table_id → d'.seat.me.1 ≡ []
      → ((s : State) (x : ℕ) → (after s x e).allowance ≡ s.allowance) → d'.allowance ≡ d.allowance
      → (let c = came d.seat.me.0 d'.seat.me.0 Idle None e a in let s = after c.state d.seat.me.0.view.name e in
      ((b : ℕ) → length (filter (λ (x : Block). x.0 == b) d'.store.items) ≡ length (filter (same_stored (stored d.seat.me.0.view.name b)) s.stores))
      × (length d'.store.items ≡ length (stock s d.seat.me.0.view.name)))
      → vec_capacity d'.store ≡ vec_capacity d.store
      → bag_size (known d'.seat.me.0) d'.seat.me.0.view.name ≤ d'.held → d'.held + min 1 d'.endings ≤ m + d'.allowance
      → d'.endings ≡ many_ending d'.seat.me.0.shape.blocks (known d'.seat.me.0) d'.seat.me.0.view.name → IsDeskWith m d'
  desk_after d d' e h a table none allowances allowance stores capacity held within ended =
      let v = d.seat.me.0 in let w = d'.seat.me.0 in let c = came v w Idle None e a in let n = v.view.name in
      record {
        rests = record {
          awake = ap (λ (u : SeatView V). u.view.spent) a.now ∙ h.rests.awake;
          idle = ap (λ (u : SeatView V). u.view.pending) a.now;
          empty = ap (λ (u : SeatView V). u.hand) a.now;
          none = none;
        };
        legal = c.legal;
        limits = subst (Rattle.control_word.specs.Layout.IsWithinLimits) (sym c.shape) h.limits;
        sized = subst (λ (y : TableId
            × Rattle.control_word.specs.declared.shape.Shape.Shape). IsSized y.0 y.1) (λ i. (sym table i, sym c.shape i)) h.sized;
        allowed = allowance ∙ (h.allowed ∙ sym (allowance_left v w e c allowances));
        holding = held;
        ended = ended;
        within = within;
        stored = λ b. stores.0 b ∙ (λ i. length (filter (same_stored (stored (sym c.name i) b)) (sym c.now i).stores));
        many = stores.1 ∙ (λ i. length (stock (sym c.now i) (sym c.name i)));
        room = subst (λ (y : Rattle.control_word.specs.declared.shape.Shape.Shape). y.blocks ≤ vec_capacity d'.store) (sym c.shape) (subst
            (λ y. v.shape.blocks ≤ y) (sym capacity) h.room);
      }

  -- a block that becomes vacant is pushed
  pub pushed : {n' : ℕ} (d : Inside V) (h : IsDeskWith n' d) (s : State) (items : List Block) (b : Block) → Same (known d.seat.me.0) s d.seat.me.0.view.name
      → items ≡ d.store.items ++ b ∷ []
      → (l : List Stored) → l ≡ stored d.seat.me.0.view.name b.0 ∷ s.stores
      → ((q : ℕ) → length (filter (λ (x : Block). x.0 == q) items) ≡ length (filter (same_stored (stored d.seat.me.0.view.name q)) l))
      × (length items ≡ length (filter (λ (x : Stored). x.desk == d.seat.me.0.view.name) l))
  pushed d h s items b same is l ls =
      let n = d.seat.me.0.view.name in (
        λ q.
            let p : Block → Bool = λ x. x.0 == q in
            let a = ap length (ap (filter p) is ∙ filter-append p d.store.items (b ∷ []))
            ∙ length-append (filter p d.store.items) (filter p (b ∷ [])) in
            let t = same_tally n q (known d.seat.me.0) s same.in_stock in let u = h.stored q in
            let e = ap (λ y. length (filter (same_stored (stored n q)) y)) ls in
            let rest = filter (same_stored (stored n q)) s.stores in
            ⊎_elim
            (λ (m : b.0 ≡ q).
            let x = ap length (cond-true (b.0 == q) (b ∷ []) [] (eq-eqb b.0 q m)) in
            let y = ap length (cond-true (same_stored (stored n q) (stored n b.0)) (stored n b.0 ∷ rest) rest
            ((λ i. eq-eqb n n refl i && eq-eqb q b.0 (sym m) i))) in omega arith)
            (λ (m : b.0 ≢ q).
            let x = ap length (cond-false (b.0 == q) (b ∷ []) [] (ne_eqb b.0 q m)) in
            let y = ap length (cond-false (same_stored (stored n q) (stored n b.0)) (stored n b.0 ∷ rest) rest
            ((λ i. eq-eqb n n refl i && ne_eqb q b.0 (λ z. m (sym z)) i))) in omega arith)
            (cases_eq b.0 q),
        let a = ap length is ∙ length-append d.store.items (b ∷ []) in let u = h.many in let t = ap length same.in_stock in
            let rest = filter (λ (x : Stored). x.desk == n) s.stores in
            let y = ap length (cond-true (n == n) (stored n b.0 ∷ rest) rest (eq-eqb n n refl)) in
            let e = ap (λ z. length (filter (λ (x : Stored). x.desk == n) z)) ls in omega arith,
      )
