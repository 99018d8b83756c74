-- The two desks of a split, as contracts see them.
use Rattle.std.proofs.Common.{◌≡◌, ℕ, ◌+◌, ◌-◌, ◌≤◌, min, true, List, [], ◌∷◌, ◌++◌, map, length}
use Rattle.std.proofs.Common.{Some, None, vec_capacity, sym, refl, ap, ◌∙◌, subst, arith}
use Rattle.control_block.proofs.Prelude
use Prelude.{bag, bag_of, bag_size, Block, blocks_of, by_block, comes, desk_now, ending, entry}
use Prelude.{filter, Has, Held, held, held_self, held_true, HoldsAll, in_history, Inside, IsDesk}
use Prelude.{IsEnding, IsLegal, IsSized, IsWithinLimits, known, length-map, listed, many_ending}
use Prelude.{num_has, NumberedHandle, opening_of, part_has, Parted, same_held, same_stored}
use Prelude.{SeatView, Shape, Split, SplitsOff, State, stock, Stored, stored, stored_self}
use Prelude.{stored_true, TableId, times, value, without_all}
use Rattle.control_block.specs.declared.handles.Held.{Held as HeldValue}
use Rattle.control_block.proofs.Endings.{StillEnds, still_ends}
use Rattle.control_block.proofs.partings.PartingDesks.{desk_of, shown_alike}
use Rattle.control_block.proofs.PartingLists.{each_back, length_less, less_all, less_has}
use Rattle.control_block.proofs.PartingLists.{map_itself, map_same, map_twice}
use Rattle.control_block.proofs.PartingSplit as part
use Rattle.control_block.proofs.PartingSplit.{few_listed}
use Rattle.control_block.proofs.partings.PartingStates.{stored_from, times_has}

module _ {V : Type 0} (d : Inside V) (h : IsDesk d) (hs : List HeldValue) (holds : HoldsAll (desk_now d) hs) (a : ℕ) (bs : List Block) (w u : SeatView V)
    (p : Parted d.seat.me.0 a (in_history (known d.seat.me.0) hs) bs w u) where
  abbrev v : SeatView V
  v = d.seat.me.0

  abbrev n : ℕ
  n = v.view.name

  shape : w.shape ≡ v.shape
  shape = part.shape d h hs holds a bs w u p

  name : w.view.name ≡ n
  name = part.name d h hs holds a bs w u p

  -- the desk that goes on
  pub old_desk : (e : Inside V) → e.seat.table_id ≡ d.seat.table_id → e.seat.me ≡ (w, []) → e.allowance ≡ d.allowance - a
      → e.held ≡ d.held - length hs → e.endings ≡ d.endings → e.held + min 1 e.endings ≤ e.allowance
      → ((b : ℕ) → times b bs + times b e.store.items ≡ times b d.store.items)
      → length e.store.items + length bs ≡ length d.store.items → vec_capacity e.store ≡ vec_capacity d.store → IsDesk e
  old_desk e table me allowance count endings within tallies many room =
      let own = h.allowed in let l = part.allowance_left d h hs holds a bs w u p in let b = ap length (part.bag_left d h hs holds a bs w u p) in
      let g = length_less same_held held_true held_self (part.back d h hs holds) (listed hs) (bag (known v) n) (part.gone d h hs holds).0 in
      let s = part.sizes d h hs holds in
      let t = ap length (part.stock_left d h hs holds a bs w u p) in
      let q = length_less same_stored stored_true stored_self (λ (b : Block). stored n b.0) bs (stock (known v) n)
      (part.blocks_there d h hs holds a bs w u p) in
      let m = h.many in
      desk_of e w me (
        ap (λ (y : SeatView V). y.view.spent) p.event.now ∙ h.rests.awake,
        ap (λ (y : SeatView V). y.view.pending) p.event.now,
        ap (λ (y : SeatView V). y.hand) p.event.now,
      )
      (subst (λ (k : Shape). IsLegal (opening_of k) w.view.seen) (sym shape) p.event.legal)
      (subst IsWithinLimits (sym shape) h.limits) (subst (λ (y : TableId × Shape). IsSized y.0 y.1) (λ i. (sym table i, sym shape i)) h.sized)
      (subst (λ j. e.allowance ≡ (known w).allowance j) (sym name) (omega arith))
      (subst (λ j. bag_size (known w) j ≤ e.held) (sym name) (omega arith)) within
      (λ b. subst (λ j. times b e.store.items ≡ length (filter (same_stored (stored j b)) (known w).stores)) (sym name)
      (let x = tallies b in let y = part.tally_left d h hs holds a bs w u p b in let z = h.stored b in omega arith))
      (subst (λ j. length e.store.items ≡ length (stock (known w) j)) (sym name) (omega arith))
      (subst (λ c. w.shape.blocks ≤ c) (sym room) (subst (λ (k : Shape). k.blocks ≤ vec_capacity d.store) (sym shape) h.room))
      (endings ∙ (part.ending_left d h hs holds a bs w u p ∙ ap (many_ending w.shape.blocks (known w)) (sym name)))

  -- the new desk
  pub new_desk : (e : Inside V) → e.seat.table_id ≡ d.seat.table_id → e.seat.me ≡ (u, []) → e.allowance ≡ a → e.held ≡ length hs
      → e.endings ≡ 0 → length hs ≤ a
      → e.store.items ≡ bs → v.shape.blocks ≤ vec_capacity e.store → IsDesk e
  new_desk e table me allowance count endings few items room =
      let l = part.allowance_given d h hs holds a bs w u p in let b = ap length (part.bag_given d h hs holds a bs w u p) in
      let f = few_listed hs in let m = part.many_handles d h hs holds in let c = length-map (in_history (known v) hs) (λ (x : NumberedHandle). held p.to x) in
      let t = ap length (part.stock_given d h hs holds a bs w u p) in
      let q = length-map bs (λ (b : Block). stored p.to b.0) in let is = ap length items in
      desk_of e record { shape = w.shape; view = comes w.view p.to; hand = None } (me ∙ (λ i. (p.other i, []))) (refl, refl, refl)
      (subst (λ (k : Shape). IsLegal (opening_of k) w.view.seen) (sym shape) p.event.legal)
      (subst IsWithinLimits (sym shape) h.limits) (subst (λ (y : TableId × Shape). IsSized y.0 y.1) (λ i. (sym table i, sym shape i)) h.sized)
      (omega arith) (omega arith) (omega arith) (λ b. ap (times b) items ∙ sym (part.tally_given d h hs holds a bs w u p b)) (omega arith)
      (subst (λ (k : Shape). k.blocks ≤ vec_capacity e.store) (sym shape) room)
      (endings ∙ sym (part.ending_given d h hs holds a bs w u p))

  -- what either holds is in the blocks that the old desk knew
  alike : (x : Held) → Has x (bag (known v) n) → by_block (blocks_of (known w)) x.handle ≡ by_block (blocks_of (known v)) x.handle
  alike x has =
      shown_alike v h.legal x has (known w)
      (λ o made. ap (λ (s : State). blocks_of s o) (part.now d h hs holds a bs w u p) ∙ (part.at d h hs holds a bs w u p).blocks o made)

  abbrev bag_at : SeatView V → ℕ → List NumberedHandle
  bag_at y j = map (λ (x : Held). by_block (blocks_of (known y)) x.handle) (bag (known y) j)

  bag_left : bag_at w n ≡ without_all (listed hs) (bag_of (desk_now d))
  bag_left =
      let rest = less_all same_held (part.back d h hs holds) (listed hs) (bag (known v) n) in
      ap (map (λ (x : Held). by_block (blocks_of (known w)) x.handle)) (part.bag_left d h hs holds a bs w u p)
      ∙ (map_same (λ (x : Held). by_block (blocks_of (known w)) x.handle) (part.shows d h hs holds) rest
      (λ x has. alike x (less_has same_held held_true held_self (part.back d h hs holds) x (listed hs) (bag (known v) n) has))
      ∙ (part.gone d h hs holds).1)

  bag_given : bag_at w p.to ≡ listed hs
  bag_given =
      let f = λ (x : Held). by_block (blocks_of (known w)) x.handle in let to = λ (x : NumberedHandle). held p.to x in let g = by_block (known v).latest in
      ap (map f) (part.bag_given d h hs holds a bs w u p)
      ∙ (map_twice to f (in_history (known v) hs)
      ∙ (map_twice g (λ x. f (to x)) (listed hs)
      ∙ map_itself (λ (x : NumberedHandle). f (to (g x))) (listed hs) (λ x has.
      let e = each_back same_held held_true held_self (part.shows d h hs holds) (part.back d h hs holds) x (listed hs) (bag (known v) n)
      (part.tells d h hs holds)
      holds.objects has in
      alike (part.back d h hs holds x) e.0 ∙ e.1)))

  -- what ends with the old desk ends there still
  module _ (b : ℕ) (x : V) (ends : IsEnding (desk_now d) b x) where
    still : StillEnds (opening_of v.shape) p.event.between v.view.seen b n
    still = still_ends (opening_of v.shape) p.event.between v.view.seen b n (part.legal d h hs holds a bs w u p).0 p.event.quiet ends.phase

    ending_left : ((known w).object ((known w).latest b)).phase ≡ ending n
    ending_left =
        ap (λ (s : State). (s.object (s.latest b)).phase) (part.now d h hs holds a bs w u p)
        ∙ (ap (λ o. ((part.then d h hs holds a bs w u p).object o).phase) still.latest ∙ (still.object.phase ∙ ends.phase))

    members_left : (m : ℕ) → ((known w).object ((known w).latest b)).member m ≡ ((known v).object ((known v).latest b)).member m
    members_left m =
        ap (λ (s : State). (s.object (s.latest b)).member m) (part.now d h hs holds a bs w u p)
        ∙ (ap (λ o. ((part.then d h hs holds a bs w u p).object o).member m) still.latest ∙ still.object.member m)

    value_left : value (opening_of w.shape) w.view.seen ((known w).latest b) ≡ Some x
    value_left =
        (λ i. value (opening_of (shape i)) (part.seen d h hs holds a bs w u p i) ((part.now d h hs holds a bs w u p i).latest b))
        ∙ (ap (value (opening_of v.shape) (part.before d h hs holds a bs w u p)) still.latest ∙ (still.value ∙ ends.kept))

-- what a split says of the desks
pub splits : {V : Type 0} (d e new : Inside V) (h : IsDesk d) (hs : List HeldValue) (holds : HoldsAll (desk_now d) hs) (a k : ℕ)
    → Parted d.seat.me.0 a (in_history (known d.seat.me.0) hs) new.store.items e.seat.me.0 new.seat.me.0
    → (e.seat.table_id ≡ d.seat.table_id) × (new.seat.table_id ≡ d.seat.table_id) → (e.held ≡ d.held - length hs) × (new.held ≡ length hs)
    → length new.store.items ≡ k → ((b : ℕ) → times b new.store.items + times b e.store.items ≡ times b d.store.items)
    → ((b c : Block) → Has b new.store.items → Has c e.store.items → b.0 ≤ c.0) → SplitsOff (desk_now d) a k hs (desk_now e) (desk_now new)
splits d e new h hs holds a k p tables counts many tallies least =
    let v = d.seat.me.0 in let w = e.seat.me.0 in let u = new.seat.me.0 in let n = v.view.name in let bs = new.store.items in
    let name = part.name d h hs holds a bs w u p in let shape = part.shape d h hs holds a bs w u p in
    let it : SeatView _ = record { shape = w.shape; view = comes w.view p.to; hand = None } in
    let to : u.view.name ≡ p.to = ap (λ (y : SeatView _). y.view.name) p.other in let s = part.sizes d h hs holds in
    let at = part.at d h hs holds a bs w u p in let asks = (part.legal d h hs holds a bs w u p).1.asks in
    let left = part.allowance_left d h hs holds a bs w u p in let same = at.same.may_hold in
    let sl = ap length (part.stock_left d h hs holds a bs w u p) in
    let sq = length_less same_stored stored_true stored_self (λ (b : Block). stored n b.0) bs (stock (known v) n)
    (part.blocks_there d h hs holds a bs w u p) in
    let sg = ap length (part.stock_given d h hs holds a bs w u p) in let sm = length-map bs (λ (b : Block). stored p.to b.0) in
    let nl : ◌≡◌ {A = ℕ} (length (stock (known w) w.view.name)) (length (stock (known w) n)) = ap (λ j. length (stock (known w) j)) name in
    let al : ◌≡◌ {A = ℕ} ((known w).allowance w.view.name) ((known w).allowance n) = ap (λ j. (known w).allowance j) name in
    record {
      blocks = bs;
      event = record {
        same = (tables.0, shape, name);
        between = p.event.between;
        seen = part.seen d h hs holds a bs w u p
            ∙ ap (λ j. entry n (Split j a (in_history (known v) hs) bs) ∷ (p.event.between ++ v.view.seen)) (sym to);
        quiet = p.event.quiet;
        legal = p.event.legal;
      };
      beside = (tables.1, ap (λ (y : SeatView _). y.shape) p.other ∙ shape, ap (λ (y : SeatView _). y.view.seen) p.other);
      named = subst (λ j. (known v).names ≤ j) (sym to) (part.named d h hs holds a bs w u p);
      allowance = (
        ap (λ (y : SeatView _). (known y).allowance y.view.name) p.other ∙ part.allowance_given d h hs holds a bs w u p,
        let x = asks.2 in omega arith,
      );
      held = (counts.1, let x = s.1 in let y = counts.0 in omega arith);
      bag = (
        ap (λ (y : SeatView _). map (λ (x : Held). by_block (blocks_of (known y)) x.handle) (bag (known y) y.view.name)) p.other
            ∙ bag_given d h hs holds a bs w u p,
        ap (λ j. bag_at d h hs holds a bs w u p w j) name ∙ bag_left d h hs holds a bs w u p,
      );
      stock = (
        ap (λ (y : SeatView _). length (stock (known y) y.view.name)) p.other ∙ (sg ∙ (sm ∙ many)),
        omega arith,
      );
      least = λ x y hx hy.
          let x' = subst (λ (y : SeatView _). Has x (stock (known y) y.view.name)) p.other hx in
          let x'' = stored_from p.to bs x (subst (Has x) (part.stock_given d h hs holds a bs w u p) x') in
          let t = part_has (λ (y : Stored). y.desk) w.view.name y (known w).stores hy in
          let more = num_has (same_stored (stored n y.block)) y (known w).stores t.0
          (subst (λ j. same_stored (stored j y.block) y ≡ true) (t.1 ∙ name) (stored_self y)) in
          let a1 = part.tally_left d h hs holds a bs w u p y.block in let a2 = h.stored y.block in let a3 = tallies y.block in
          least record { 0 = x.block } record { 0 = y.block } x'' (times_has y.block e.store.items (omega arith));
      count = (
        ap (many_ending w.shape.blocks (known w)) name ∙ (sym (part.ending_left d h hs holds a bs w u p) ∙ h.ended),
        ap (λ (y : SeatView _). many_ending y.shape.blocks (known y) y.view.name) p.other ∙ part.ending_given d h hs holds a bs w u p,
      );
      endings = λ b x ends. record {
        ends = record {
          phase = ending_left d h hs holds a bs w u p b x ends ∙ ap ending (sym name);
          kept = value_left d h hs holds a bs w u p b x ends;
        };
        shape = shape;
        members = members_left d h hs holds a bs w u p b x ends;
      };
    }
