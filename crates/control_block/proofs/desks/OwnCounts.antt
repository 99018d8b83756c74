-- How a desk's own events change the number of objects that end in its hands.
use Rattle.std.proofs.Common.{◌≡◌, ℕ, ◌+◌, ◌≤◌, Bool, true, false, cond, List, ◌==◌, None, refl}
use Rattle.std.proofs.Common.{ap, ◌∙◌, arith, eq-eqb}
use Rattle.control_block.proofs.Prelude.{Added, Block, bool_byte, cond-true, Finish, Idle, Inside}
use Rattle.control_block.proofs.Prelude.{IsDeskWith, known, Leave, Make, many_ending}
use Rattle.control_block.proofs.Prelude.{NumberedHandle, opening_of, SeatView}
use Rattle.control_block.proofs.desks.DeskSteps.{came, ending_after}
use Rattle.control_block.proofs.EndingCounts.{finish_count, leave_count, make_count}

-- one more where it was the last
pub one_if : (last : Bool) → bool_byte last ≡ cond last 1 0
one_if true = refl
one_if false = refl

pub byte_few : (b : Bool) → bool_byte b ≤ 1
byte_few true = omega arith
byte_few false = omega arith

own_one : (n : ℕ) (last : Bool) → ◌≡◌ {A = ℕ} (cond last (cond (n == n) 1 0) 0) (cond last 1 0)
own_one n last = ap (λ x. cond last x 0) (cond-true (n == n) 1 0 (eq-eqb n n refl))

module _ {V : Type 0} where
  module _ (d : Inside V) (w : SeatView V) where
    -- after a leave
    pub grown_count : {n' : ℕ} (x : NumberedHandle) (last : Bool) → IsDeskWith n' d → Added d.seat.me.0 Idle None (Leave x last) w
        → many_ending w.shape.blocks (known w) w.view.name ≡ many_ending d.seat.me.0.shape.blocks (known d.seat.me.0) d.seat.me.0.view.name + cond last 1 0
    grown_count x last h a =
        let v = d.seat.me.0 in let n = v.view.name in let t = came v w Idle None (Leave x last) a in
        let u = leave_count (opening_of v.shape) t.state n t.fine n x last t.asks.0 in
        let b = ending_after v w (Leave x last) t in let e = t.ending in let one = own_one n last in omega arith

    pub grown : {n' : ℕ} (x : NumberedHandle) (last : Bool) (m : ℕ) → IsDeskWith n' d → Added d.seat.me.0 Idle None (Leave x last) w → m ≡ bool_byte last
        → d.endings + m ≡ many_ending w.shape.blocks (known w) w.view.name
    grown x last m h a is = let t = grown_count x last h a in let e = h.ended in let b = one_if last in omega arith

    -- after a finish
    pub shrunk_count : (o : ℕ) (vacant : Bool) (x : V) → Added d.seat.me.0 Idle None (Finish o vacant x) w
        → many_ending w.shape.blocks (known w) w.view.name + 1 ≡ many_ending d.seat.me.0.shape.blocks (known d.seat.me.0) d.seat.me.0.view.name
    shrunk_count o vacant x a =
        let v = d.seat.me.0 in let n = v.view.name in let t = came v w Idle None (Finish o vacant x) a in
        let u = finish_count (opening_of v.shape) t.state n n t.fine o vacant x t.asks in
        let b = ending_after v w (Finish o vacant x) t in let e = t.ending in
        let one : ◌≡◌ {A = ℕ} (cond (n == n) 1 0) 1 = cond-true (n == n) 1 0 (eq-eqb n n refl) in omega arith

    -- after a make
    pub made_count : (b : Block) (enabled null : Bool) (fields : List ℕ) (x : V) → Added d.seat.me.0 Idle None (Make b enabled null fields x) w
        → many_ending w.shape.blocks (known w) w.view.name ≡ many_ending d.seat.me.0.shape.blocks (known d.seat.me.0) d.seat.me.0.view.name
    made_count b enabled null fields x a =
        let v = d.seat.me.0 in let n = v.view.name in let t = came v w Idle None (Make b enabled null fields x) a in
        ending_after v w (Make b enabled null fields x) t ∙ (make_count (opening_of v.shape) t.state n n t.fine b enabled null fields x t.asks ∙ t.ending)
