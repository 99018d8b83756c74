-- What contracts see of a desk after a call: its bag, and what it keeps.
use Rattle.std.proofs.Common.{◌≡◌, ℕ, ◌+◌, ◌<◌, min, Bool, true, false, ◌≢◌, ◌⊎◌, ◌↔◌, List, ◌∷◌}
use Rattle.std.proofs.Common.{◌++◌, map, length, IsTrue, ◌==◌, Some, None, Option, sym, refl, ap}
use Rattle.std.proofs.Common.{◌∙◌, subst, ⊎_elim, true≢false, arith}
use Rattle.control_block.proofs.Prelude
use Prelude.{Added, AddsEvent, after, allowance_of, are_formed, Asks, bag, bag_of, block_kept}
use Prelude.{blocks_of, by_block, Cell, Compare, desk_now, DeskNow, ending, Entry, entry, Event}
use Prelude.{fills, filter, Free, handle, has_before, HasHandle, HasRoomFor, Held, held, held_made}
use Prelude.{held_of, held_self, held_true, HoldingInBlock, Idle, InShape, Inside, IsDesk}
use Prelude.{IsDeskWith, IsEnding, IsLegal, IsOpen, IsPointer, IsSameDesk, Keeps, Kind, known}
use Prelude.{leads, loses, Member, names_an_object, NumberedHandle, Object, Opening, opening_of}
use Prelude.{Owner, part_mine, Place, place_at, same_handle, same_held, same_kept, SeatView, Sound}
use Prelude.{sound, State, StaysEnding, Swap, TableId, value, valued, without}
use Rattle.control_block.specs.Desks.{MayPoint}
use Rattle.control_block.proofs.Bags.{alone_there, map_without, seen_as, shown, shown_held}
use Rattle.control_block.proofs.Bags.{shown_later}
use Rattle.control_block.proofs.desks.DeskSteps.{allowance_left, came, ending_same, stock_left}
use Rattle.control_block.proofs.Endings.{not_filled, still_ends}
use Rattle.control_block.proofs.partings.Parts.{part_without_mine}
use Rattle.control_block.proofs.Passage.{IsQuiet, plain, quiet_compare, quiet_swap}

-- what goes into a cell goes into no ending object's
filled : (c : Cell) (new : NumberedHandle) (z : Opening) (t : State) (n b : ℕ) → Sound z t → IsOpen t n c
    → (t.object (t.latest b)).phase ≡ ending n → (m : ℕ)
    → ((fills c new (loses n new t)).object (t.latest b)).member m ≡ (t.object (t.latest b)).member m
filled (Free c) new z t n b fine open' ends m = refl
filled (Member q c) new z t n b fine open' ends m = (not_filled z t b n fine ends n q c new open').member m

module _ {V : Type 0} where
  -- a desk at rest, by its seat
  abbrev pub now_of : TableId → SeatView V → ℕ → DeskNow V
  now_of id w m = record { domain = id; shape = w.shape; name = w.view.name; seen = w.view.seen; held = m }

  -- what a desk has in a block, by what its seat knows
  pub holding_in : {n' : ℕ} (d : Inside V) (e : DeskNow V) (k : Kind) (p : Option Place) (b : ℕ) → IsDeskWith n' d
      → desk_now d ≡ e → HasHandle e k p b
      → HoldingInBlock d.seat.me.0 k ((known d.seat.me.0).latest b) p b
  holding_in d e k p b h is has =
      let v = d.seat.me.0 in
      let t = shown_held (opening_of v.shape) v.view.seen v.view.name k p b h.legal (subst (λ (z : DeskNow V). HasHandle z k p b) (sym is) has) in
      record { has = t.0; there = t.1 }

  pub adds_of : (d : Inside V) (e : DeskNow V) (w : SeatView V) (id : TableId) (m : ℕ) (x : DeskNow V → Event V) → desk_now d ≡ e
      → id ≡ d.seat.table_id
      → Added d.seat.me.0 Idle None (x (desk_now d)) w → AddsEvent e (x e) (now_of id w m)
  adds_of d e w id m x is table a =
      subst (λ (z : DeskNow V). AddsEvent z (x z) (now_of id w m)) is
      record {
        same = (table, ap (λ (u : SeatView V). u.shape) a.now, ap (λ (u : SeatView V). u.view.name) a.now);
        between = a.between;
        seen = ap (λ (u : SeatView V). u.view.seen) a.now;
        quiet = a.quiet;
        legal = a.legal;
      }

  -- what one's own event does to an object that ends in one's hands
  pub record Spares (t : State) (f : ℕ → Option V) (n : ℕ) (e : Event V) (b : ℕ) : Type 0 where
    pub latest : (after t n e).latest b ≡ t.latest b
    pub phase : ((after t n e).object (t.latest b)).phase ≡ ending n
    pub value : valued t e f (t.latest b) ≡ f (t.latest b)
    pub members : (m : ℕ) → ((after t n e).object (t.latest b)).member m ≡ (t.object (t.latest b)).member m

  -- an event that moves no object, and leaves the members of those that end in its desk's hands
  pub record IsCalm (e : Event V) : Type 0 where
    pub quiet : IsQuiet e
    pub members : (z : Opening) (t : State) (n b : ℕ) → Sound z t → Asks t n e → (t.object (t.latest b)).phase ≡ ending n
        → (m : ℕ) → ((after t n e).object (t.latest b)).member m ≡ (t.object (t.latest b)).member m

  pub calm : {e : Event V} → ((s : State) (d : ℕ) → (after s d e).object ≡ s.object) → ((s : State) (d : ℕ) → (after s d e).latest ≡ s.latest)
      → ((s : State) (f : ℕ → Option V) → valued s e f ≡ f) → IsCalm e
  calm objects latest values =
      record {
        quiet = plain objects latest values;
        members = λ z t n b fine asks ends m. ap (λ (g : ℕ → Object). (g (t.latest b)).member m) (objects t n);
      }

  pub calm_swap : (c : Cell) (new old : NumberedHandle) → IsCalm (Swap c new old)
  calm_swap c new old = record { quiet = quiet_swap c new old; members = λ z t n b fine asks ends m. filled c new z t n b fine asks.0 ends m }

  pub calm_compare : (c : Cell) (expected new old : NumberedHandle) (swapped weak : Bool) → IsCalm (Compare c expected new old swapped weak)
  calm_compare c expected new old true weak =
      record { quiet = quiet_compare c expected new old true weak; members = λ z t n b fine asks ends m. filled c new z t n b fine asks.0 ends m }
  calm_compare c expected new old false weak = calm (λ s d. refl) (λ s d. refl) (λ s f. refl)

  pub quiet_spares : (z : Opening) (t : State) (f : ℕ → Option V) (n : ℕ) (e : Event V) (b : ℕ) → IsCalm e → Sound z t → Asks t n e
      → (t.object (t.latest b)).phase ≡ ending n → Spares t f n e b
  quiet_spares z t f n e b q fine asks ends =
      record {
        latest = ap (λ (g : ℕ → ℕ). g b) (q.quiet.latest t n);
        phase = q.quiet.phases t n (t.latest b) ∙ ends;
        value = ap (λ (g : ℕ → Option V). g (t.latest b)) (q.quiet.values t f);
        members = q.members z t n b fine asks ends;
      }

  module _ {n' : ℕ} (d : Inside V) (w : SeatView V) (e : Event V) (h : IsDeskWith n' d) (a : Added d.seat.me.0 Idle None e w) where
    -- the history before the event
    abbrev pub before : List (Entry V)
    before = a.between ++ d.seat.me.0.view.seen

    pub legal_now : IsLegal (opening_of d.seat.me.0.shape) (entry d.seat.me.0.view.name e ∷ before)
    legal_now = subst (IsLegal (opening_of d.seat.me.0.shape)) (ap (λ (u : SeatView V). u.view.seen) a.now) a.legal

    -- an object in a block of the desk's is there still
    pub block_still : (k : Kind) (o : ℕ) (p : Option Place) (b : ℕ) → HoldingInBlock d.seat.me.0 k o p b
        → blocks_of (leads (opening_of d.seat.me.0.shape) (entry d.seat.me.0.view.name e ∷ before)) o ≡ b
    block_still k o p b holds =
        let v = d.seat.me.0 in let z = opening_of v.shape in
        (block_kept z (entry v.view.name e ∷ a.between) v.view.seen o
        (held_made z (known v) v.view.name o k p (sound z v.view.seen h.legal) holds.has)).0 ∙ holds.there

    pub bag_stays : let t = leads (opening_of d.seat.me.0.shape) before in
        (after t d.seat.me.0.view.name e).hands ≡ t.hands → shown (known w) w.view.name ≡ bag_of (desk_now d)
    bag_stays hands =
        let v = d.seat.me.0 in let z = opening_of v.shape in let n = v.view.name in
        let s = same_kept z a.between v.view.seen n a.quiet in
        subst (λ (u : SeatView V). shown (known u) u.view.name ≡ shown (known v) n) (sym a.now)
        (ap (λ (l : List Held). map (seen_as (leads z (entry n e ∷ before))) (filter (λ (x : Held). x.desk == n) l)) hands
        ∙ (ap (map (seen_as (leads z (entry n e ∷ before)))) s.in_bag
        ∙ shown_later z (entry n e ∷ a.between) v.view.seen n h.legal (bag (known v) n) (λ x y. y)))

    pub bag_gets : (x y : NumberedHandle) → let t = leads (opening_of d.seat.me.0.shape) before in
        (after t d.seat.me.0.view.name e).hands ≡ held d.seat.me.0.view.name x ∷ t.hands
        → by_block (blocks_of (after t d.seat.me.0.view.name e)) x ≡ y → shown (known w) w.view.name ≡ y ∷ bag_of (desk_now d)
    bag_gets x y hands is =
        let v = d.seat.me.0 in let z = opening_of v.shape in let n = v.view.name in let f = seen_as (leads z (entry n e ∷ before)) in
        let s = same_kept z a.between v.view.seen n a.quiet in
        subst (λ (u : SeatView V). shown (known u) u.view.name ≡ y ∷ shown (known v) n) (sym a.now)
        (ap (λ (l : List Held). map f (filter (λ (q : Held). q.desk == n) l)) hands
        ∙ (ap (map f) (part_mine (λ (q : Held). q.desk) n (held n x) (leads z before).hands refl)
        ∙ (λ i. is i ∷ (ap (map f) s.in_bag
        ∙ shown_later z (entry n e ∷ a.between) v.view.seen n h.legal (bag (known v) n) (λ q r. r)) i)))

    pub bag_loses : (k : Kind) (o : ℕ) (p : Option Place) (b : ℕ) → HoldingInBlock d.seat.me.0 k o p b
        → let t = leads (opening_of d.seat.me.0.shape) before in
        (after t d.seat.me.0.view.name e).hands ≡ without same_held (held d.seat.me.0.view.name (handle k (Some o) p)) t.hands
        → shown (known w) w.view.name ≡ without same_handle (handle k (Some b) p) (bag_of (desk_now d))
    bag_loses k o p b holds hands =
        let v = d.seat.me.0 in let z = opening_of v.shape in let n = v.view.name in let f = seen_as (leads z (entry n e ∷ before)) in
        let x = held n (handle k (Some o) p) in
        let s = same_kept z a.between v.view.seen n a.quiet in
        subst (λ (u : SeatView V). shown (known u) u.view.name ≡ without same_handle (handle k (Some b) p) (shown (known v) n)) (sym a.now)
        (ap (λ (l : List Held). map f (filter (λ (q : Held). q.desk == n) l)) hands
        ∙ (ap (map f) (part_without_mine (λ (q : Held). q.desk) n same_held held_true x (leads z before).hands refl
        ∙ ap (without same_held x) s.in_bag)
        ∙ (shown_later z (entry n e ∷ a.between) v.view.seen n h.legal (without same_held x (bag (known v) n))
        (λ q r. has_before same_held held_true held_self q x (bag (known v) n) r)
        ∙ (map_without (seen_as (known v)) same_held same_handle x (bag (known v) n) (alone_there z v.view.seen n k o p h.legal holds.has)
        ∙ ap (λ (c : ℕ). without same_handle (handle k (Some c) p) (shown (known v) n)) holds.there))))

    module _ (id : TableId) (m : ℕ) where
      -- an object that ends in the desk's hands, which the event spares
      pub ends_still : (b : ℕ) (x : V) (y : DeskNow V) → desk_now d ≡ y
          → ((((leads (opening_of d.seat.me.0.shape) before).object ((leads (opening_of d.seat.me.0.shape) before).latest b)).phase
          ≡ ending d.seat.me.0.view.name)
          → Spares (leads (opening_of d.seat.me.0.shape) before) (value (opening_of d.seat.me.0.shape) before) d.seat.me.0.view.name e b)
          → IsEnding y b x → StaysEnding y (now_of id w m) b x
      ends_still b x y is own ends =
          let v = d.seat.me.0 in let z = opening_of v.shape in let n = v.view.name in
          let was = subst (λ (q : DeskNow V). IsEnding q b x) (sym is) ends in
          let t = still_ends z a.between v.view.seen b n legal_now.0 a.quiet was.phase in
          let p : ((leads z before).object ((leads z before).latest b)).phase ≡ ending n =
          ap (λ (o : ℕ). ((leads z before).object o).phase) t.latest ∙ (t.object.phase ∙ was.phase) in
          let r = own p in
          subst (λ (q : DeskNow V). StaysEnding q (now_of id w m) b x) is
          (subst (λ (u : SeatView V). StaysEnding (desk_now d) (now_of id u m) b x) (sym a.now)
          record {
            ends = record {
              phase = ap (λ (o : ℕ). ((leads z (entry n e ∷ before)).object o).phase) r.latest ∙ r.phase;
              kept = ap (value z (entry n e ∷ before)) r.latest ∙ (r.value ∙ (ap (value z before) t.latest ∙ (t.value ∙ was.kept)));
            };
            shape = refl;
            members = λ q. ap (λ (o : ℕ). ((leads z (entry n e ∷ before)).object o).member q) r.latest
                ∙ (r.members q ∙ (ap (λ (o : ℕ). ((leads z before).object o).member q) t.latest ∙ t.object.member q));
          })

      pub same_desk : (y : DeskNow V) → desk_now d ≡ y → id ≡ d.seat.table_id → ((s : State) (x : ℕ) → (after s x e).allowance ≡ s.allowance)
          → IsSameDesk y (now_of id w m)
      same_desk y is table allowances =
          let same : IsSameDesk (desk_now d) (now_of id w m) = record {
            domain = table;
            shape = ap (λ (u : SeatView V). u.shape) a.now;
            name = ap (λ (u : SeatView V). u.view.name) a.now;
            allowance = allowance_left d.seat.me.0 w e (came d.seat.me.0 w Idle None e a) allowances;
          } in
          subst (λ (q : DeskNow V). IsSameDesk q (now_of id w m)) is same

      -- what an event that changes no object and no store leaves
      pub keeps_quietly : (y : DeskNow V) → desk_now d ≡ y → id ≡ d.seat.table_id → IsCalm e →
          ((s : State) (x : ℕ) → (after s x e).stores ≡ s.stores)
          → ((s : State) (x : ℕ) → (after s x e).allowance ≡ s.allowance) → Keeps y (now_of id w m)
      keeps_quietly y is table quiet stores allowances =
          let v = d.seat.me.0 in let z = opening_of v.shape in let n = v.view.name in let c = came v w Idle None e a in
          let same = same_desk (desk_now d) refl table allowances in
          let keeps : Keeps (desk_now d) (now_of id w m) = record {
            domain = same.domain;
            shape = same.shape;
            name = same.name;
            allowance = same.allowance;
            stock = ap length (stock_left v w e c stores);
            count = ending_same v w e c quiet.quiet;
            endings = λ b x ends. ends_still b x (desk_now d) refl
                (λ p. quiet_spares z (leads z before) (value z before) n e b quiet (sound z before legal_now.0) legal_now.1.asks p) ends;
          } in
          subst (λ (q : DeskNow V). Keeps q (now_of id w m)) is keeps

  pub held_is : (d : Inside V) (y : DeskNow V) → IsDesk d → desk_now d ≡ y → held_of y ≡ d.held + min 1 d.endings
  held_is d y h is = ap (λ (u : DeskNow V). held_of u) (sym is) ∙ ap (λ n. d.held + min 1 n) (sym h.ended)

  -- a desk that says that it isn't at its allowance isn't
  pub not_full : (d : Inside V) (y : DeskNow V) (b : Bool) → IsDesk d → desk_now d ≡ y → (IsTrue b ↔ (held_of y ≡ allowance_of y)) → b ≡ false
      → d.held + min 1 d.endings ≢ d.allowance
  not_full d y b h is told low full =
      let e : held_of (desk_now d) ≡ allowance_of (desk_now d) = ap (λ n. d.held + min 1 n) (sym h.ended) ∙ (full ∙ h.allowed) in
      true≢false (sym (told.1 (subst (λ (u : DeskNow V). held_of u ≡ allowance_of u) is e)) ∙ low)

  -- and then it is not refused
  pub not_limit : (y : DeskNow V) (b : Bool) → (IsTrue b ↔ (held_of y ≡ allowance_of y)) → b ≡ false
      → (false ≡ true) ↔ (held_of y ≡ allowance_of y)
  not_limit y b told low = (λ e. absurd (true≢false (sym e)), λ full. absurd (true≢false (sym (told.1 full) ∙ low)))

  -- a desk that isn't at its allowance has room for a handle more
  pub room_left : (d : Inside V) → IsDesk d → d.held + min 1 d.endings ≢ d.allowance → HasRoomFor d.seat.me.0
  room_left d h ne = omega (arith, h.holding, h.within, h.allowed, ne)

  -- the place of an owner that a desk has is one of four fields
  pub field_low : (d : Inside V) (e : DeskNow V) (p : Place) → IsDesk d → desk_now d ≡ e → HasHandle e Owner (Some p) p.block.0 → p.field < 4
  field_low d e p h is has =
      let v = d.seat.me.0 in let t = holding_in d e Owner (Some p) p.block.0 h is has in
      ((are_formed (opening_of v.shape) v.view.seen h.legal).0 v.view.name (handle Owner (Some ((known v).latest p.block.0)) (Some p)) t.has).0.2

  -- the place that a new owner gets is a proper one
  pub points_well : (d : Inside V) (e : DeskNow V) (p q : Option Place) (b : ℕ) → IsDesk d → desk_now d ≡ e → HasHandle e Owner p b → MayPoint p b
      q → IsPointer q
  points_well d e p q b h is has may =
      let v = d.seat.me.0 in let z = opening_of v.shape in let o = (known v).latest b in let t = holding_in d e Owner p b h is has in
      ⊎_elim
      (λ (s : q ≡ p). subst IsPointer (sym s) ((are_formed z v.view.seen h.legal).0 v.view.name (handle Owner (Some o) p) t.has).0)
      (λ (s : (q ≡ place_at b) ⊎ IsPointer q). ⊎_elim (λ (u : q ≡ place_at b). subst IsPointer (sym u)
      (let inside = subst (InShape z) t.there (names_an_object z v.view.seen h.legal v.view.name Owner (handle Owner (Some o) p)
      (t.has, refl, refl)).3 in
      let most = h.limits.blocks in let low = inside.0 in let high = inside.1 in (omega arith, omega arith, omega arith))) (λ u. u) s) may
