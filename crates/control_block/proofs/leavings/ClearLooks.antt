-- What a desk has when a member of an object that ends in its hands was looked at, and cleared by the look or left as it was.
use Rattle.std.proofs.Common.{◌≡◌, ℕ, ◌+◌, ◌≤◌, min, true, false, ◌≢◌, Bool, length, None, vec_capacity, refl, ap, ◌∙◌, sym, subst, arith}
use Rattle.control_block.proofs.Prelude
use Prelude.{At, bag_of, CameOut, CellWord, ClearMember, desk_now, DeskNow}
use Prelude.{endings_of, Ends, Inside, IsDesk, IsEnding}
use Prelude.{IsSameDesk, Kind, known, member_in, stock_of, with_handle}
use Rattle.control_block.specs.Desks.{KeepsOtherEndings}
use Rattle.control_block.proofs.cells.CellDesks.{one}
use Rattle.control_block.proofs.leavings.ClearDesks as clear
use Rattle.control_block.proofs.leavings.GoneDesks.{unseen_desk}

module _ {V : Type 0} where
  -- what the desk had it has, but for what member m of the object in block b held
  pub record IsLookedAt (d : DeskNow V) (b m : ℕ) (e : DeskNow V) : Type 0 where
    pub bag : bag_of e ≡ bag_of d
    pub held : e.held ≡ d.held
    pub kept : (y : V) → IsEnding d b y → (q : ℕ) → q ≢ m → member_in e b q ≡ member_in d b q
    pub ending : (y : V) → IsEnding d b y → IsEnding e b y
    pub endings : KeepsOtherEndings d b e
    pub desk : IsSameDesk d e
    pub stock : length (stock_of e) ≡ length (stock_of d)
    pub count : endings_of e ≡ endings_of d

  pub left_alone : (d : DeskNow V) (b m : ℕ) → IsLookedAt d b m d
  left_alone d b m =
      record {
        bag = refl;
        held = refl;
        kept = λ y was q ne. refl;
        ending = λ y was. was;
        endings = λ a y apart was. record { ends = was; shape = refl; members = λ q. refl };
        desk = record { domain = refl; shape = refl; name = refl; allowance = refl };
        stock = refl;
        count = refl;
      }

  -- either way
  pub looked_at : (d e : DeskNow V) (b m : ℕ) (found : Bool) → (found ≡ true → IsLookedAt d b m e) → (found ≡ false → e ≡ d) → IsLookedAt d b m e
  looked_at d e b m true cleared same = cleared refl
  looked_at d e b m false cleared same = subst (IsLookedAt d b m) (sym (same refl)) (left_alone d b m)

module _ {V : Type 0} (k : Kind) (d f : Inside V) (h : IsDesk d) (b m : ℕ) (ends : Ends d.seat.me.0 ((known d.seat.me.0).latest b) b) (x : CellWord)
    (out : CameOut (λ y. ClearMember ((known d.seat.me.0).latest b) m y) k d.seat.me.0 x f.seat.me.0)
    (bare : x.owned ≡ None)
    (table : f.seat.table_id ≡ d.seat.table_id) where
  pub looked : f.held ≡ d.held → IsLookedAt (desk_now d) b m (desk_now f)
  looked held =
      record {
        bag = clear.bag_out d h b m ends k f x out table
            ∙ ap (λ o. with_handle k o x.place (bag_of (desk_now d))) bare;
        held = held;
        kept = clear.kept_out d h b m ends k f x out table;
        ending = clear.ends_out d h b m ends k f x out table;
        endings = clear.others_out d h b m ends k f x out table;
        desk = clear.same_out d h b m ends k f x out table;
        stock = clear.stock_out d h b m ends k f x out table;
        count = clear.count_out d h b m ends k f x out table;
      }

-- the desk stands, cleared by the look or not
pub looked_desk : {V : Type 0} (k : Kind) (d f : Inside V) (h : IsDesk d) (b m : ℕ) (ends : Ends d.seat.me.0 ((known d.seat.me.0).latest b) b) (x : CellWord)
    (found : Bool) → (found ≡ true → CameOut (λ y. ClearMember ((known d.seat.me.0).latest b) m y) k d.seat.me.0 x f.seat.me.0)
    → x.owned ≡ None → f.seat.table_id ≡ d.seat.table_id → (found ≡ true → f.seat.me.1 ≡ d.seat.me.1) → (found ≡ false → f.seat.me ≡ d.seat.me)
    → f.store ≡ d.store → f.store.items ≡ d.store.items → vec_capacity f.store ≡ vec_capacity d.store → f.allowance ≡ d.allowance → f.endings ≡ d.endings
    → f.held ≡ d.held → IsDesk f
looked_desk k d f h b m ends x true out bare table none same store items capacity allowance endings held =
    let size = ap one bare in
    clear.desk_out d h b m ends k f x (out refl) table 0 (none refl ∙ h.rests.none) store allowance endings
    (omega (arith, h.holding, held, size)) (omega (arith, h.within, held))
looked_desk {V} k d f h b m ends x false out bare table none same store items capacity allowance endings held =
    let me = same refl in
    unseen_desk d f (ap (λ (y : At V). y.0) me) table h (ap (λ (y : At V). y.1) me ∙ h.rests.none)
    items capacity allowance endings
    (omega (arith, h.holding, held)) (let w = ap (λ n. min 1 n) endings in omega (arith, h.within, held, allowance, w))
