-- What a desk has after a call on a cell.
use Rattle.std.proofs.Common.{◌≡◌, ℕ, suc, ◌+◌, ◌<◌, ◌≤◌, ◌⊎◌, List, [], ◌∷◌, ◌++◌, map, length}
use Rattle.std.proofs.Common.{IfSome, ◌==◌, Some, None, Option, sym, refl, ap, ◌∙◌, subst, inl}
use Rattle.std.proofs.Common.{inr, ⊎_elim, arith}
use Rattle.control_block.proofs.Prelude
use Prelude.{Added, after, are_formed, Asks, bag, bag_of, bag_size, Block, blocks_of, CameOut}
use Prelude.{Cell, cell_of, CellWord, cond_both, desk_now, DeskNow, entry, Event, filter, Free}
use Prelude.{gets, handle, handle_self, Has, has_before, HasRoomFor, Held, held, held_self}
use Prelude.{held_true, HoldingInBlock, HoldsHandle, Idle, InHand, InShape, Inside, IsCellWord}
use Prelude.{IsCounted, IsDesk, IsLegal, IsOpen, IsPointer, IsProper, IsWordOf, Kind, known, leads}
use Prelude.{length-map, loses, Member, names_an_object, NumberedHandle, object_by, object_of}
use Prelude.{opening_of, part_mine, Place, same_handle, same_held, same_kept, SeatView, seeing}
use Prelude.{TableId, with_handle, without, without_handle}
use Rattle.control_word.specs.Handles.{IsFormed}
use Rattle.control_word.specs.Packing.{IsPlace}
use Rattle.control_word.specs.Laws.{IsCell}
use Rattle.control_block.proofs.Bags.{alone_there, map_without, seen_as, shown, shown_later}
use Rattle.control_block.proofs.cells.CellRetries.{came_holding, came_object, no_block}
use Rattle.control_block.proofs.cells.CellTrades.{Trades, slot_low}
use Rattle.control_block.proofs.desks.DeskBags.{holding_in}
use Rattle.control_block.proofs.desks.DeskSteps.{holds_some, word_inside}
use Rattle.control_block.proofs.partings.Parts.{part_without_mine}

abbrev pub one : Option Block → ℕ
one None = 0
one (Some b) = 1

pub one_few : (b : Option Block) → one b ≤ 1
one_few None = omega arith
one_few (Some b) = omega arith

pub with_size : (k : Kind) (b : Option Block) (p : Option Place) (l : List NumberedHandle) → length (with_handle k b p l) ≡ length l + one b
with_size k None p l = omega arith
with_size k (Some b) p l = omega arith

length_without : (h : NumberedHandle) (l : List NumberedHandle) → Has h l → length (without same_handle h l) + 1 ≡ length l
length_without h [] has = absurd has
length_without h (x ∷ l) has =
    cond_both (same_handle h x) l (x ∷ without same_handle h l) (λ r. length r + 1 ≡ suc (length l)) (λ e. omega arith)
    (λ e. ⊎_elim (λ (q : h ≡ x). absurd (Rattle.std.proofs.Common.true≢false (sym (handle_self h) ∙ (ap (same_handle h) q ∙ e))))
    (λ t. let i = length_without h l t in omega arith) has)

pub without_size : (k : Kind) (b : Option Block) (p : Option Place) (l : List NumberedHandle) → IfSome b (λ c. Has (handle k (Some c.0) p) l)
    → length (without_handle k b p l) + one b ≡ length l
without_size k None p l has = omega arith
without_size k (Some b) p l has = length_without (handle k (Some b.0) p) l has

module _ {V : Type 0} where
  -- the handle of this kind, block and place, by what a seat knows
  abbrev pub in_seat : SeatView V → Kind → Option Block → Option Place → NumberedHandle
  in_seat v k b p = handle k (object_by (known v).latest b) p

  -- a handle that the desk has
  module _ (d : Inside V) (y : DeskNow V) (k : Kind) (p : Option Place) (h : IsDesk d) (is : desk_now d ≡ y) where
    pub lost_holding : (b : Option Block) → HoldsHandle y k b p
        → IfSome b (λ c. HoldingInBlock d.seat.me.0 k (object_of (in_seat d.seat.me.0 k b p)) p c.0)
    lost_holding None has = tt
    lost_holding (Some b) has = holding_in d y k p b.0 h is has

    pub lost_counted : (b : Option Block) (id : TableId) → d.seat.table_id ≡ id → HoldsHandle y k b p → IfSome b (λ c. IsCounted k c id)
    lost_counted None id table has = tt
    lost_counted (Some b) id table has = word_inside d id k _ p b.0 (Rattle.control_word.specs.Words.slot k) h table
        (holding_in d y k p b.0 h is has) (slot_low k)

    pub lost_hand : (b : Option Block) → HoldsHandle y k b p → IsProper k b p
        → InHand (known d.seat.me.0) d.seat.me.0.view.name k (in_seat d.seat.me.0 k b p)
    lost_hand None has proper = (refl, inl (refl, proper))
    lost_hand (Some b) has proper = (refl, inr ((holding_in d y k p b.0 h is has).has, refl, refl))

    pub lost_shows : (b : Option Block) → HoldsHandle y k b p → IsWordOf d.seat.me.0 (in_seat d.seat.me.0 k b p) record { owned = b; place = p; taken = 0 }
    lost_shows None has = refl
    lost_shows (Some b) has = λ i. record { owned = Some record { 0 = sym (holding_in d y k p b.0 h is has).there i }; place = p; taken = 0 }

    place_fits : (q : Option Place) → IsPointer q → IfSome q IsPlace
    place_fits None t = tt
    place_fits (Some q) t = ((omega arith, omega arith), omega arith)

    pub lost_word : (b : Option Block) → HoldsHandle y k b p → IsProper k b p → IsCellWord record { owned = b; place = p; taken = 0 }
    lost_word None has proper = record { owned = tt; place = place_fits p proper.0; taken = omega arith }
    lost_word (Some b) has proper =
        let v = d.seat.me.0 in let z = opening_of v.shape in let t = holding_in d y k p b.0 h is has in
        let x = handle k (Some ((known v).latest b.0)) p in
        let n = names_an_object z v.view.seen h.legal v.view.name k x (t.has, refl, refl) in
        let inside = subst (InShape z) t.there n.3 in let low = inside.0 in let high = inside.1 in let most = h.limits.blocks in
        let formed = (are_formed z v.view.seen h.legal).0 v.view.name x t.has in
        record { owned = (omega arith, omega arith); place = place_fits p formed.0; taken = omega arith }

    pub lost_room : (b : Option Block) → HoldsHandle y k b p → (in_seat d.seat.me.0 k b p).object ≡ None → HasRoomFor d.seat.me.0
    lost_room None has none =
        let v = d.seat.me.0 in let n = length-map (bag (known v) v.view.name) (seen_as (known v)) in
        let more : length (bag_of (desk_now d)) < d.held = subst (λ (u : DeskNow V). length (bag_of u) < u.held) (sym is) has in
        omega (arith, n, more, h.within, h.allowed)
    lost_room (Some b) has none = absurd (cc none)

  -- its object, and room for what comes out in its place
  pub lost_mine : (v : SeatView V) (k : Kind) (p : Option Place) (b : Option Block) → IfSome b (λ c. HoldingInBlock v k (object_of (in_seat v k b p)) p c.0)
      → IfSome b (λ c. HoldingInBlock v k ((known v).latest c.0) p c.0)
  lost_mine v k p None t = tt
  lost_mine v k p (Some b) t = t

  pub fits : (d : Inside V) (k : Kind) (p : Option Place) (b : Option Block) → IsDesk d → HoldsHandle (desk_now d) k b p
      → bag_size (known d.seat.me.0) d.seat.me.0.view.name + 1 ≤ d.held + one b
  fits d k p None h has =
      let v = d.seat.me.0 in let n = length-map (bag (known v) v.view.name) (seen_as (known v)) in omega (arith, n, has)
  fits d k p (Some b) h has = omega (arith, h.holding)

  -- who has a handle, an empty one too, holds at least one
  pub lost_some : (d : Inside V) (k : Kind) (p : Option Place) (b : Option Block) → IsDesk d → HoldsHandle (desk_now d) k b p → 0 < d.held
  lost_some d k p None h has = omega arith
  lost_some d k p (Some b) h has = holds_some d k _ p b.0 h (holding_in d (desk_now d) k p b.0 h refl has)

  -- the bag after an event that takes a handle in and hands one out
  module _ (d : Inside V) (h : IsDesk d) (e : Event V) (between : List (Rattle.control_word.specs.declared.model.event.Entry.Entry V))
      (quiet : Rattle.control_word.specs.Views.NoneBy d.seat.me.0.view.name between) (k : Kind) where
    abbrev then' : SeatView V
    then' = let v = d.seat.me.0 in seeing v Idle None (entry v.view.name e ∷ (between ++ v.view.seen))

    abbrev shown_by : Held → NumberedHandle
    shown_by = seen_as (known then')

    abbrev own : List Held → List NumberedHandle
    own l = map shown_by (filter (λ (x : Held). x.desk == d.seat.me.0.view.name) l)

    left : (b : Option Block) (p : Option Place) → IfSome b (λ c. HoldingInBlock d.seat.me.0 k ((known d.seat.me.0).latest c.0) p c.0)
        → own (loses d.seat.me.0.view.name (in_seat d.seat.me.0 k b p) (leads (opening_of d.seat.me.0.shape) (between ++ d.seat.me.0.view.seen))).hands
        ≡ without_handle k b p (bag_of (desk_now d))
    left None p has =
        let v = d.seat.me.0 in let z = opening_of v.shape in let n = v.view.name in let s = same_kept z between v.view.seen n quiet in
        ap (map shown_by) s.in_bag ∙ shown_later z (entry n e ∷ between) v.view.seen n h.legal (bag (known v) n) (λ x y. y)
    left (Some b) p has =
        let v = d.seat.me.0 in let z = opening_of v.shape in let n = v.view.name in let s = same_kept z between v.view.seen n quiet in
        let o = (known v).latest b.0 in let x = held n (handle k (Some o) p) in
        ap (map shown_by) (part_without_mine (λ (q : Held). q.desk) n same_held held_true x (leads z (between ++ v.view.seen)).hands refl
        ∙ ap (without same_held x) s.in_bag)
        ∙ (shown_later z (entry n e ∷ between) v.view.seen n h.legal (without same_held x (bag (known v) n))
        (λ q r. has_before same_held held_true held_self q x (bag (known v) n) r)
        ∙ (map_without (seen_as (known v)) same_held same_handle x (bag (known v) n) (alone_there z v.view.seen n k o p h.legal has.has)
        ∙ ap (λ (c : ℕ). without same_handle (handle k (Some c) p) (shown (known v) n)) has.there))

    got_too : (b : Option Block) (p : Option Place) (l : List Held) (m : List NumberedHandle) → own l ≡ m
        → IfSome b (λ c. blocks_of (known then') ((known then').latest c.0) ≡ c.0)
        → own (gets d.seat.me.0.view.name (in_seat then' k b p) record (known d.seat.me.0) { hands = l }).hands ≡ with_handle k b p m
    got_too None p l m is there = is
    got_too (Some b) p l m is there =
        let n = d.seat.me.0.view.name in let x = held n (in_seat then' k (Some b) p) in
        ap (map shown_by) (part_mine (λ (q : Held). q.desk) n x l refl)
        ∙ (λ i. handle k (Some (there i)) p ∷ is i)

    bag_then : (b c : Option Block) (p q : Option Place) → IfSome b (λ a. HoldingInBlock d.seat.me.0 k ((known d.seat.me.0).latest a.0) p a.0)
        → IfSome c (λ a. blocks_of (known then') ((known then').latest a.0) ≡ a.0)
        → (let t = leads (opening_of d.seat.me.0.shape) (between ++ d.seat.me.0.view.seen) in let n = d.seat.me.0.view.name in
        (after t n e).hands ≡ (gets n (in_seat then' k c q) (loses n (in_seat d.seat.me.0 k b p) t)).hands)
        → shown (known then') then'.view.name ≡ with_handle k c q (without_handle k b p (bag_of (desk_now d)))
    bag_then b c p q has there hands =
        let v = d.seat.me.0 in let t = leads (opening_of v.shape) (between ++ v.view.seen) in
        ap own hands ∙ got_too c q (loses v.view.name (in_seat v k b p) t).hands _ (left b p has) there

  -- what a call on a cell leaves, where a handle came out of it
  module _ (d : Inside V) (h : IsDesk d) (w : SeatView V) (e : NumberedHandle → Event V) (k : Kind) (x : CellWord) (b : Option Block) (p : Option Place)
      (trades : Trades e (in_seat d.seat.me.0 k b p)) (c : CameOut e k d.seat.me.0 x w)
      (mine : IfSome b (λ a. HoldingInBlock d.seat.me.0 k ((known d.seat.me.0).latest a.0) p a.0)) where
    got_is : c.handle ≡ in_seat w k x.owned x.place
    got_is = let o = object x.owned refl in λ i. record { kind = c.kind i; object = o i; place = sym (ap (λ y. y.place) c.shows) i }
      where
        object : (q : Option Block) → x.owned ≡ q → c.handle.object ≡ object_by (known w).latest q
        object None is = no_block _ c.handle.object (sym (ap (λ y. y.owned) c.shows) ∙ is)
        object (Some a) is = (came_object e k d.seat.me.0 w x (in_seat d.seat.me.0 k b p) a trades c is).0

    pub event_is : Added d.seat.me.0 Idle None (e (in_seat w k x.owned x.place)) w
    event_is = subst (λ (y : NumberedHandle). Added d.seat.me.0 Idle None (e y) w) got_is c.event

    pub got_holding : IfSome x.owned (λ a. HoldingInBlock w k ((known w).latest a.0) x.place a.0)
    got_holding = came_holding e k d.seat.me.0 w x (in_seat d.seat.me.0 k b p) trades c

    pub bag_is : shown (known w) w.view.name ≡ with_handle k x.owned x.place (without_handle k b p (bag_of (desk_now d)))
    bag_is =
        let a = c.event in let v = d.seat.me.0 in let t = leads (opening_of v.shape) (a.between ++ v.view.seen) in let n = v.view.name in
        let got = subst (λ (u : SeatView V). c.handle ≡ in_seat u k x.owned x.place) a.now got_is in
        let there = subst (λ (u : SeatView V). IfSome x.owned (λ y. HoldingInBlock u k ((known u).latest y.0) x.place y.0)) a.now got_holding in
        subst (λ (u : SeatView V). shown (known u) u.view.name ≡ with_handle k x.owned x.place (without_handle k b p (bag_of (desk_now d)))) (sym a.now)
        (bag_then d h (e c.handle) a.between a.quiet k b x.owned p x.place mine (just_there _ x.owned there)
        (trades t n c.handle ∙ ap (λ (y : NumberedHandle). (gets n y (loses n (in_seat v k b p) t)).hands) got))
      where
        just_there : (u : SeatView V) (q : Option Block) → IfSome q (λ y. HoldingInBlock u k ((known u).latest y.0) x.place y.0)
            → IfSome q (λ y. blocks_of (known u) ((known u).latest y.0) ≡ y.0)
        just_there u None t = tt
        just_there u (Some y) t = t.there

    pub size_is : HoldsHandle (desk_now d) k b p ⊎ (b ≡ None)
        → bag_size (known w) w.view.name + one b ≡ bag_size (known d.seat.me.0) d.seat.me.0.view.name + one x.owned
    size_is has = size b has bag_is
      where
        size : (q : Option Block) → HoldsHandle (desk_now d) k q p ⊎ (q ≡ None)
            → shown (known w) w.view.name ≡ with_handle k x.owned x.place (without_handle k q p (bag_of (desk_now d)))
            → bag_size (known w) w.view.name + one q ≡ bag_size (known d.seat.me.0) d.seat.me.0.view.name + one x.owned
        size q has is =
            let v = d.seat.me.0 in let l = bag_of (desk_now d) in
            let a = length-map (bag (known w) w.view.name) (seen_as (known w)) in let m = length-map (bag (known v) v.view.name) (seen_as (known v)) in
            let s = with_size k x.owned x.place (without_handle k q p l) in let t = without_size k q p l (there q has) in let f = ap length is in
            omega arith
          where
            there : (r : Option Block) → HoldsHandle (desk_now d) k r p ⊎ (r ≡ None)
                → IfSome r (λ y. Has (handle k (Some y.0) p) (bag_of (desk_now d)))
            there None t = tt
            there (Some y) (inl t) = t
            there (Some y) (inr t) = absurd (cc t)

  pub holds_after : (y : DeskNow V) (k : Kind) (b : Option Block) (p : Option Place) (m : List NumberedHandle) → bag_of y ≡ with_handle k b p m
      → (b ≡ None → length (bag_of y) < y.held) → HoldsHandle y k b p
  holds_after y k None p m is few = few refl
  holds_after y k (Some b) p m is few = subst (Has (handle k (Some b.0) p)) (sym is) (inl refl)

  -- what a cell held is well formed
  pub formed_in : (d : Inside V) (w : SeatView V) (c : Cell) (e : Event V) (k : Kind) (b : Option Block) (p : Option Place)
      (a : Added d.seat.me.0 Idle None e w) → (let t = leads (opening_of d.seat.me.0.shape) (a.between ++ d.seat.me.0.view.seen) in
      Asks t d.seat.me.0.view.name e → IsCell t c × (in_seat w k b p ≡ cell_of t c)) → IsProper k b p
  formed_in d w c e k b p a asks =
      let v = d.seat.me.0 in let z = opening_of v.shape in let hist = a.between ++ v.view.seen in
      let legal = subst (IsLegal z) (ap (λ (u : SeatView V). u.view.seen) a.now) a.legal in let t = asks legal.1.asks in
      proper b (subst IsFormed (sym t.1) ((are_formed z hist legal.0).1 c t.0).0)
    where
      proper : (q : Option Block) → IsFormed (in_seat w k q p) → IsProper k q p
      proper None f = f
      proper (Some q) f = tt

  pub formed_out : (d : Inside V) (w : SeatView V) (c : Cell) (e : Event V) (k : Kind) (b : Option Block) (p : Option Place)
      (a : Added d.seat.me.0 Idle None e w) → (let t = leads (opening_of d.seat.me.0.shape) (a.between ++ d.seat.me.0.view.seen) in
      Asks t d.seat.me.0.view.name e → IsOpen t d.seat.me.0.view.name c × (in_seat w k b p ≡ cell_of t c)) → IsProper k b p
  formed_out d w c e k b p a asks = formed_in d w c e k b p a (λ is. let t = asks is in (counted c t.0, t.1))
    where
      counted : (c : Cell) → (let t = leads (opening_of d.seat.me.0.shape) (a.between ++ d.seat.me.0.view.seen) in
          IsOpen t d.seat.me.0.view.name c → IsCell t c)
      counted (Free n) open' = open'
      counted (Member o m) open' = open'.0
