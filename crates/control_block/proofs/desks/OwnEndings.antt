-- What a desk's own events leave of the objects that end in its hands.
use Rattle.std.proofs.Common.{◌≡◌, ℕ, suc, ◌<◌, Bool, true, cond, ◌≢◌, List, ◌∷◌, is_some, IfSome}
use Rattle.std.proofs.Common.{◌==◌, Some, None, Option, sym, refl, ap, ◌∙◌, subst, arith, ne_eqb}
use Rattle.control_block.proofs.Prelude
use Prelude.{Added, Asks, Block, block_kept, blocks_of, ClearMember, cond-false, desk_now, DeskNow}
use Prelude.{empty, ending, Ends, entry, Event, Finish, gone, held_made, HoldingInBlock, Idle}
use Prelude.{InShape, Inside, IsClear, IsCleared, IsDeskWith, IsEnding, Kind, kind_of_member}
use Prelude.{known, leads, Leave, Make, moved_to, names_an_object, new_object, NumberedHandle}
use Prelude.{Object, object_of, Opening, opening_of, Owner, owner, Place, put, put_other, put_same}
use Prelude.{SeatView, Sound, sound, State, TableId, value, Visit}
use Rattle.control_block.proofs.desks.DeskBags.{Spares, before, legal_now, now_of}
use Rattle.control_block.proofs.Endings.{ends_busy, ends_here, not_live}
use Rattle.control_block.specs.Rule.{members_of}

module _ {V : Type 0} where
  module _ (z : Opening) (t : State) (f : ℕ → Option V) (n b : ℕ) (fine : Sound z t) (ends : (t.object (t.latest b)).phase ≡ ending n) where
    pub leave_spares : (h : NumberedHandle) (last : Bool) → Asks {V = V} t n (Leave h last) → Spares t f n (Leave h last) b
    leave_spares h last asks =
        record {
          latest = refl;
          phase = ap (λ (x : Object). x.phase) (put_other t.object (object_of h)
              (cond last (moved_to (ending n) (t.object (object_of h))) (t.object (object_of h)))
              (t.latest b) (not_live z t b n fine ends h n asks.0)) ∙ ends;
          value = refl;
          members = λ m. ap (λ (x : Object). x.member m) (put_other t.object (object_of h)
              (cond last (moved_to (ending n) (t.object (object_of h))) (t.object (object_of h)))
              (t.latest b) (not_live z t b n fine ends h n asks.0));
        }

    pub visit_spares : (h : NumberedHandle) (was becomes : V) → Asks t n (Visit h was becomes) → Spares t f n (Visit h was becomes) b
    visit_spares h was becomes asks =
        record {
          latest = refl;
          phase = ends;
          value = put_other f (object_of h) (Some becomes) (t.latest b) (not_live z t b n fine ends h n asks);
          members = λ m. refl;
        }

    pub make_spares : (c : Block) (enabled null : Bool) (fields : List ℕ) (x : V) → Asks t n (Make c enabled null fields x)
        → Spares t f n (Make c enabled null fields x) b
    make_spares c enabled null fields x asks =
        let apart : b ≢ c.0 = λ q. let v = (fine.stores n c.0 asks.0).0 (t.latest b) (ends_here z t b n fine ends ∙ q) in
        let w = ends_busy z t b n fine ends in omega arith in
        let new : t.latest b ≢ suc t.made = λ q. let m = fine.latest_made b in omega arith in
        record {
          latest = put_other t.latest c.0 (suc t.made) b apart;
          phase = ap (λ (y : Object). y.phase) (put_other t.object (suc t.made) (new_object t.owners c.0 enabled null fields) (t.latest b) new) ∙ ends;
          value = cond-false (t.latest b == suc t.made) (Some x) (f (t.latest b)) (ne_eqb (t.latest b) (suc t.made) new);
          members = λ m. ap (λ (y : Object). y.member m) (put_other t.object (suc t.made) (new_object t.owners c.0 enabled null fields) (t.latest b) new);
        }

    pub finish_spares : (o c : ℕ) (vacant : Bool) (x : V) → (t.object o).block ≡ c → b ≢ c → Spares t f n (Finish o vacant x) b
    finish_spares o c vacant x there apart =
        record {
          latest = refl;
          phase = ap (λ (y : Object). y.phase) (put_other t.object o (moved_to gone (t.object o)) (t.latest b)
              (λ q. apart (sym (ends_here z t b n fine ends) ∙ (ap (λ y. (t.object y).block) q ∙ there)))) ∙ ends;
          value = refl;
          members = λ m. ap (λ (y : Object). y.member m) (put_other t.object o (moved_to gone (t.object o)) (t.latest b)
              (λ q. apart (sym (ends_here z t b n fine ends) ∙ (ap (λ y. (t.object y).block) q ∙ there))));
        }

    pub clear_spares : (o m : ℕ) (h : NumberedHandle) (c : ℕ) → (t.object o).block ≡ c → b ≢ c → Spares t f n (ClearMember o m h) b
    clear_spares o m h c there apart =
        let x = t.object o in
        let other = put_other t.object o (record x { member = put x.member m (empty (kind_of_member t.owners m)) }) (t.latest b)
        (λ q. apart (sym (ends_here z t b n fine ends) ∙ (ap (λ y. (t.object y).block) q ∙ there))) in
        record {
          latest = refl;
          phase = ap (λ (y : Object). y.phase) other ∙ ends;
          value = refl;
          members = λ k. ap (λ (y : Object). y.member k) other;
        }

  -- an ending, by what the seat knows
  pub ends_in : (d : Inside V) (y : DeskNow V) (b : ℕ) (x : V) → desk_now d ≡ y → IsEnding y b x → Ends d.seat.me.0 ((known d.seat.me.0).latest b) b
  ends_in d y b x is ends = (refl, (subst (λ (q : DeskNow V). IsEnding q b x) (sym is) ends).phase)

  pub ends_value : (d : Inside V) (y : DeskNow V) (b : ℕ) (x : V) → desk_now d ≡ y → IsEnding y b x
      → value (opening_of d.seat.me.0.shape) d.seat.me.0.view.seen ((known d.seat.me.0).latest b) ≡ Some x
  ends_value d y b x is ends = (subst (λ (q : DeskNow V). IsEnding q b x) (sym is) ends).kept

  pub clear_in : (d : Inside V) (y : DeskNow V) (b : ℕ) → desk_now d ≡ y → ((m : ℕ) → m < members_of y.shape → IsCleared y b m)
      → IsClear d.seat.me.0 ((known d.seat.me.0).latest b)
  clear_in d y b is clear m lt =
      subst (λ (q : DeskNow V). IsCleared q b m) (sym is)
      (clear m (subst (λ (q : DeskNow V). m < members_of q.shape) is lt))

  -- its block is one of the shape's
  pub ends_inside : {n' : ℕ} (d : Inside V) (b : ℕ) → IsDeskWith n' d → Ends d.seat.me.0 ((known d.seat.me.0).latest b) b
      → (((known d.seat.me.0).object ((known d.seat.me.0).latest b)).block ≡ b) × InShape (opening_of d.seat.me.0.shape) b
  ends_inside d b h ends =
      let v = d.seat.me.0 in let z = opening_of v.shape in let fine = sound z v.view.seen h.legal in
      let here = ends_here z (known v) b v.view.name fine ends.1 in
      (here, subst (InShape z) here (fine.placed ((known v).latest b) (ends_busy z (known v) b v.view.name fine ends.1)).1)

  module _ {n' : ℕ} (d : Inside V) (w : SeatView V) (e : Event V) (h : IsDeskWith n' d) (a : Added d.seat.me.0 Idle None e w) where
    -- at the event an object that the desk has, or that ends in its hands, is in its block
    pub block_before : (k : Kind) (o : ℕ) (p : Option Place) (b : ℕ) → HoldingInBlock d.seat.me.0 k o p b
        → blocks_of (leads (opening_of d.seat.me.0.shape) (before d w e h a)) o ≡ b
    block_before k o p b holds =
        let v = d.seat.me.0 in let z = opening_of v.shape in
        (block_kept z a.between v.view.seen o (held_made z (known v) v.view.name o k p (sound z v.view.seen h.legal) holds.has)).0 ∙ holds.there

    pub ending_before : (b : ℕ) → Ends d.seat.me.0 ((known d.seat.me.0).latest b) b
        → blocks_of (leads (opening_of d.seat.me.0.shape) (before d w e h a)) ((known d.seat.me.0).latest b) ≡ b
    ending_before b ends =
        let v = d.seat.me.0 in let z = opening_of v.shape in
        (block_kept z a.between v.view.seen ((known v).latest b) ((sound z v.view.seen h.legal).latest_made b)).0 ∙ (ends_inside d b h ends).0

    pub ending_after : (b : ℕ) → Ends d.seat.me.0 ((known d.seat.me.0).latest b) b
        → blocks_of (leads (opening_of d.seat.me.0.shape) (entry d.seat.me.0.view.name e ∷ before d w e h a)) ((known d.seat.me.0).latest b) ≡ b
    ending_after b ends =
        let v = d.seat.me.0 in let z = opening_of v.shape in
        (block_kept z (entry v.view.name e ∷ a.between) v.view.seen ((known v).latest b) ((sound z v.view.seen h.legal).latest_made b)).0
        ∙ (ends_inside d b h ends).0

  -- after the last owner's leave
  pub ends_by_leave : {n' : ℕ} (d : Inside V) (w : SeatView V) (o b m : ℕ) (id : TableId) (p : Option Place) (x : V) (h : IsDeskWith n' d)
      → Added d.seat.me.0 Idle None (Leave (owner o p) true) w → HoldingInBlock d.seat.me.0 Owner o p b
      → value (opening_of d.seat.me.0.shape) w.view.seen o ≡ Some x → IsEnding (now_of id w m) b x
  ends_by_leave d w o b m id p x h a holds is =
      let v = d.seat.me.0 in let z = opening_of v.shape in let n = v.view.name in let ev : Event V = Leave (owner o p) true in
      let now = legal_now d w ev h a in let hist = before d w ev h a in let t = leads z hist in
      let last : t.latest b ≡ o = ap t.latest (sym (block_before d w ev h a Owner o p b holds)) ∙
      (names_an_object z hist now.0 n Owner (owner o p) now.1.asks.0).2 in
      let seen : w.view.seen ≡ entry n ev ∷ hist = ap (λ (u : SeatView V). u.view.seen) a.now in
      subst (λ (u : SeatView V). IsEnding (now_of id u m) b x) (sym a.now)
      record {
        phase = ap (λ (q : ℕ). ((leads z (entry n ev ∷ hist)).object q).phase) last
            ∙ ap (λ (y : Object). y.phase) (put_same t.object o (moved_to (ending n) (t.object o)) o refl);
        kept = ap (value z (entry n ev ∷ hist)) last ∙ (ap (λ l. value z l o) (sym seen) ∙ is);
      }

  pub ended_if : {n' : ℕ} (d : Inside V) (w : SeatView V) (o b m : ℕ) (id : TableId) (p : Option Place) (r : Option V) → IsDeskWith n' d
      → Added d.seat.me.0 Idle None (Leave (owner o p) (is_some r)) w → HoldingInBlock d.seat.me.0 Owner o p b
      → IfSome r (λ x. value (opening_of d.seat.me.0.shape) w.view.seen o ≡ Some x) → IfSome r (IsEnding (now_of id w m) b)
  ended_if d w o b m id p None h a holds is = is
  ended_if d w o b m id p (Some x) h a holds is = ends_by_leave d w o b m id p x h a holds is

-- where a new object is
pub made_block : (t : State) (b : Block) (enabled null : Bool) (fields : List ℕ)
    → (put t.object (suc t.made) (new_object t.owners b.0 enabled null fields) (suc t.made)).block ≡ b.0
made_block t b enabled null fields = ap (λ (x : Object). x.block)
    (put_same t.object (suc t.made) (new_object t.owners b.0 enabled null fields) (suc t.made) refl)
