-- What a seat has after the steps of one call.
use Rattle.std.proofs.Common.{◌≡◌, ℕ, zero, suc, ◌+◌, ◌-◌, ◌*◌, ◌<◌, Bool, true, false, List, []}
use Rattle.std.proofs.Common.{◌∷◌, ◌++◌, ◌==◌, length, set, slice_index, slice_set, Some, None, Option}
use Rattle.std.proofs.Common.{sym, refl, ap, ◌∙◌, subst, append_assoc, arith, length-set}
use Rattle.control_block.proofs.Prelude
use Prelude.{Added, At, bag_size, began, Block, bool_byte, Entry, entry, Event, Finish, flags_of, grown}
use Prelude.{HasRoomFor, Idle, IsLegal, IsPrepared, Join, joined, JoinsUp, known, Knows, leads}
use Prelude.{longer, Making, Merging, Moved, NoneBy, opening_of, Pending, prepared, rest}
use Prelude.{Rests, same_kept, SeatView, seeing, tells, value, wrote}
use Rattle.atomic_table.specs.Table.{Step}
use Rattle.control_block.specs.StepKinds.{finished}

module _ {V : Type 0} where
  pub some_same : (x y : V) → Some x ≡ Some y → x ≡ y
  some_same x y e = cc

  abbrev pub first_slot : List (ℕ × Option V) → Option V
  first_slot [] = None
  first_slot (x ∷ xs) = x.1

  pub none_by : (d : ℕ) (xs ys : List (Entry V)) → NoneBy d xs → NoneBy d ys → NoneBy d (xs ++ ys)
  none_by d [] ys n m = m
  none_by d (x ∷ xs) ys n m = (n.0, n.1, none_by d xs ys n.2 m)

  -- the seat is looked at again, with another half-done call and another slot in hand
  pub added_as : (v w u : SeatView V) (p q : Pending V) (a c : Option Block) (e : Event V) → Added v p a e w → u ≡ seeing w q c w.view.seen
      → Added v q c e u
  added_as v w u p q a c e t is =
      let seen : u.view.seen ≡ w.view.seen = ap (λ z. z.view.seen) is in
      record {
        between = t.between;
        now = is ∙ ap (λ z. seeing z q c z.view.seen) t.now;
        quiet = t.quiet;
        legal = subst (IsLegal (opening_of v.shape)) (sym seen) t.legal;
      }

  -- and at a look with a slot in hand, before the event
  pub added_at : (v w : SeatView V) (c : Option Block) (e : Event V) → Added (seeing v Idle c v.view.seen) Idle None e w → Added v Idle None e w
  added_at v w c e a = record { between = a.between; now = a.now; quiet = a.quiet; legal = a.legal }

  -- a make that has begun
  pub begun_prepared : (b c : Block) (me new : At V) (n : ℕ) (st : Step (Option V)) → c ≡ b → Rests me → began c st me n new
      → (l : List ℕ) × IsPrepared me.0 b new l None
  begun_prepared b c me new n st is rests t = (
    t.0,
    record {
      moved = subst (λ (x : Block). Moved me.0 (Making x t.0) (Some x) new.0) is t.2;
      sized = t.1;
      carried = t.3 ∙ (λ i. ((is i).0 - 1, None) ∷ rests.none i);
    },
  )

  -- an ending that is over, of which the value that came out before is told
  pub finished_told : (b : Block) (v : SeatView V) (me new : At V) (o n : ℕ) (st : Step (Option V)) → me.0 ≡ seeing v Idle (Some b) v.view.seen
      → finished o st me n new → (x : V) → value (opening_of v.shape) v.view.seen o ≡ Some x → tells (Finish o (n == 1) x) v new.0
  finished_told b v me new o n st now t x is =
      let same = some_same t.0 x (sym t.1 ∙ (ap (λ (u : SeatView V). value (opening_of u.shape) u.view.seen o) now ∙ is)) in
      subst (λ y. tells (Finish o (n == 1) y) v new.0) same
      (added_at v new.0 (Some b) (Finish o (n == 1) t.0) (subst (λ u. Added u Idle None (Finish o (n == 1) t.0) new.0) now t.2))

  -- one part of a call after another
  pub moved_both : (v w u : SeatView V) (p q : Pending V) (a c : Option Block) → Moved v p a w → Moved w q c u → Moved v q c u
  moved_both v w u p q a c s t =
      let name : w.view.name ≡ v.view.name = ap (λ z. z.view.name) s.now in let shape : w.shape ≡ v.shape = ap (λ z. z.shape) s.now in
      record {
        between = t.between ++ s.between;
        now = t.now ∙ (ap (λ z. seeing z q c (t.between ++ z.view.seen)) s.now
            ∙ ap (λ l. seeing v q c l) (sym (append_assoc t.between s.between v.view.seen)));
        quiet = none_by v.view.name t.between s.between (subst (λ d. NoneBy d t.between) name t.quiet) s.quiet;
        legal = subst (λ z. IsLegal (opening_of z) u.view.seen) shape t.legal;
      }

  pub moved_added : (v w u : SeatView V) (p q : Pending V) (a c : Option Block) (e : Event V) → Moved v p a w → Added w q c e u → Added v q c e u
  moved_added v w u p q a c e s t =
      let name : w.view.name ≡ v.view.name = ap (λ z. z.view.name) s.now in let shape : w.shape ≡ v.shape = ap (λ z. z.shape) s.now in
      record {
        between = t.between ++ s.between;
        now = t.now ∙ (ap (λ z. seeing z q c (entry z.view.name e ∷ (t.between ++ z.view.seen))) s.now
            ∙ ap (λ l. seeing v q c (entry v.view.name e ∷ l)) (sym (append_assoc t.between s.between v.view.seen)));
        quiet = none_by v.view.name t.between s.between (subst (λ d. NoneBy d t.between) name t.quiet) s.quiet;
        legal = subst (λ z. IsLegal (opening_of z) u.view.seen) shape t.legal;
      }

  -- the value that a leave found is the one that was exchanged
  pub same_value : (m : At V) (b : ℕ) (x y : V) (r : Option V) (l : List (ℕ × Option V)) → m.1 ≡ (b, Some x) ∷ l → m.1 ≡ (b, r) ∷ rest m.1
      → r ≡ Some y → x ≡ y
  same_value m b x y r l has got is = some_same x y (ap first_slot (sym has ∙ got) ∙ is)

  pub in_hand : (l : List (ℕ × Option V)) (b : ℕ) (y : Option V) (m : List (ℕ × Option V)) → l ≡ (b, y) ∷ m → l ≡ (b, y) ∷ rest l
  in_hand l b y m e = e ∙ sym (ap (λ z. (b, y) ∷ rest z) e)

  -- a desk's room is its own
  pub room_moved : (v w : SeatView V) (p : Pending V) (c : Option Block) → Moved v p c w → HasRoomFor v → HasRoomFor w
  room_moved v w p c m more =
      let z = opening_of v.shape in let d = v.view.name in
      let same = same_kept z m.between v.view.seen d m.quiet in
      let a = ap length same.in_bag in let b = same.may_hold in
      let r : bag_size (leads z (m.between ++ v.view.seen)) d < (leads z (m.between ++ v.view.seen)).allowance d = omega arith in
      subst (λ (u : SeatView V). bag_size (known u) u.view.name < (known u).allowance u.view.name) (sym m.now) r

  -- what is so of a seat that prepares a block
  module _ (v : SeatView V) (b : Block) (me : At V) (l : List ℕ) (x : Option V) (t : IsPrepared v b me l x) where
    pub makes : me.0.view.pending ≡ Making b l
    makes = ap (λ w. w.view.pending) t.moved.now

    pub has_hand : me.0.hand ≡ Some b
    has_hand = ap (λ w. w.hand) t.moved.now

    pub stays_awake : v.view.spent ≡ false → me.0.view.spent ≡ false
    stays_awake e = ap (λ w. w.view.spent) t.moved.now ∙ e

    -- one word more is written
    pub prepares : (me' : At V) (j n : ℕ) → Moved me.0 (Making b (slice_set (prepared me.0.view.pending) j n)) (Some b) me'.0 → me'.1 ≡ me.1
        → IsPrepared v b me' (slice_set l j n) x
    prepares me' j n m e =
        let now = subst (λ p. Moved me.0 (Making b (slice_set (prepared p) j n)) (Some b) me'.0) makes m in
        record {
          moved = moved_both v me.0 me'.0 (Making b l) (Making b (slice_set l j n)) (Some b) (Some b) t.moved now;
          sized = length-set l j n ∙ t.sized;
          carried = e ∙ t.carried;
        }

    -- the same by what a step tells
    pub told_written : (st : Step (Option V)) (me' : At V) (c : Block) (i j n : ℕ) → c ≡ b → i ≡ j → wrote c i st me n me'
        → IsPrepared v b me' (slice_set l j n) x
    told_written st me' c i j n eb ej w =
        prepares me' j n
        (subst (λ (y : Block × ℕ). Moved me.0 (Making y.0 (slice_set (prepared me.0.view.pending) y.1 n)) (Some y.0) me'.0)
        (λ k. (eb k, ej k)) w.0) w.1

    pub fills : (me' : At V) (y : Option V) → me' ≡ (me.0, (b.0 - 1, y) ∷ []) → IsPrepared v b me' l y
    fills me' y e =
        record { moved = subst (λ w. Moved v (Making b l) (Some b) w) (sym (ap (λ m. m.0) e)) t.moved; sized = t.sized; carried = ap (λ m. m.1) e }

pub set_twice : {A : Type 0} (l : List A) (j : ℕ) (x y : A) → set (set l j x) j y ≡ set l j y
set_twice [] j x y = refl
set_twice (a ∷ l) zero x y = refl
set_twice (a ∷ l) (suc j) x y = ap (λ t. a ∷ t) (set_twice l j x y)

-- five writes give the five words, whatever was there
pub all_written : (l : List ℕ) (a b c d e : ℕ) → length l ≡ 5 → set (set (set (set (set l 0 a) 1 b) 2 c) 3 d) 4 e ≡ a ∷ b ∷ c ∷ d ∷ e ∷ []
all_written [] a b c d e n = absurd (omega arith)
all_written (p ∷ []) a b c d e n = absurd (omega arith)
all_written (p ∷ q ∷ []) a b c d e n = absurd (omega arith)
all_written (p ∷ q ∷ r ∷ []) a b c d e n = absurd (omega arith)
all_written (p ∷ q ∷ r ∷ s ∷ []) a b c d e n = absurd (omega arith)
all_written (p ∷ q ∷ r ∷ s ∷ t ∷ []) a b c d e n = refl
all_written (p ∷ q ∷ r ∷ s ∷ t ∷ u ∷ l) a b c d e n = absurd (omega arith)

pub four : (l : List ℕ) → length l ≡ 4 → slice_index l 0 ∷ slice_index l 1 ∷ slice_index l 2 ∷ slice_index l 3 ∷ [] ≡ l
four [] n = absurd (omega arith)
four (a ∷ []) n = absurd (omega arith)
four (a ∷ b ∷ []) n = absurd (omega arith)
four (a ∷ b ∷ c ∷ []) n = absurd (omega arith)
four (a ∷ b ∷ c ∷ d ∷ []) n = refl
four (a ∷ b ∷ c ∷ d ∷ e ∷ l) n = absurd (omega arith)

pub flag_bits : (e n : Bool) (x y : ℕ) → x ≡ bool_byte e → y ≡ bool_byte n → x * 1 + y * 2 ≡ flags_of e n
flag_bits true true x y p q = omega arith
flag_bits true false x y p q = omega arith
flag_bits false true x y p q = omega arith
flag_bits false false x y p q = omega arith

module _ {V : Type 0} where
  -- what a join tells of the two that it joined
  pub joins_up : (v w u : SeatView V) (st : Step (Option V)) (n : ℕ) (l k : List (ℕ × Option V)) → joined st (grown v w, l) n (u, k) → JoinsUp v w u
  joins_up v w u st n l k j =
      let other : j.0 ≡ w.view.name = merging_other w.view.name j.0 v.view.seen j.1 w.view.seen j.2 j.3 in
      let mine : j.1 ≡ v.view.seen = merging_mine w.view.name j.0 v.view.seen j.1 w.view.seen j.2 j.3 in
      let others : j.2 ≡ w.view.seen = merging_others w.view.name j.0 v.view.seen j.1 w.view.seen j.2 j.3 in
      let front = longer v.view.seen w.view.seen in let a = j.4 in
      record {
        front = front;
        mine = subst (Knows v.view.name front) mine j.6;
        others = subst (λ (y : ℕ × List (Entry V)). Knows y.0 front y.1) (λ i. (other i, others i)) j.7;
        between = a.between;
        now = a.now ∙ ap (λ x. seeing v Idle None (entry v.view.name (Join x) ∷ (a.between ++ front))) other;
        quiet = (a.quiet, subst (λ x. NoneBy x a.between) other j.5);
        legal = a.legal;
      }
    where
      merging_other : (a b : ℕ) (p q r s : List (Entry V)) → ◌≡◌ {A = Pending V} (Merging a p r) (Merging b q s) → b ≡ a
      merging_other a b p q r s e = cc

      merging_mine : (a b : ℕ) (p q r s : List (Entry V)) → ◌≡◌ {A = Pending V} (Merging a p r) (Merging b q s) → q ≡ p
      merging_mine a b p q r s e = cc

      merging_others : (a b : ℕ) (p q r s : List (Entry V)) → ◌≡◌ {A = Pending V} (Merging a p r) (Merging b q s) → s ≡ r
      merging_others a b p q r s e = cc
