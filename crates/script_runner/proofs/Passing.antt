-- What a worker does where the cell that what is in hand should go into isn't there: it is to be dropped.
use Rattle.std.proofs.Common.{◌≡◌, ℕ, ◌+◌, Bool, true, false, not, ◌&&◌, slice_get, Some, None}
use Rattle.std.proofs.Common.{sym, refl, ap, ◌∙◌, arith}
use Rattle.script_runner.proofs.Prelude
use Prelude.{CellName, is_full, is_of, is_there, IsOfName, IsPassedOver, IsQuiet}
use Prelude.{IsSeated, IsThird, kind_at, MovesSlot, nothing, placed, pointer_of, Refusal}
use Prelude.{slot_pointer, slot_value, Slots, TableNow, thread_slots, WhyNoCell}
use Rattle.script_runner.proofs.Offering.{absent}
use Rattle.script_runner.proofs.Seating.{shown_at, shown_many}
use Rattle.script_runner.proofs.TableLaws.{puts_idle}
use Rattle.step_threads.specs.Frames.{hand as hand_of, other as other_of}
use Rattle.step_threads.specs.declared.programs.act.Act.TheVariants as act

module _ (hand other : ℕ) (t u : TableNow ℕ) (c : CellName) (of : IsOfName hand c) (third : IsThird c) (at : other + 1 ≡ hand)
    (is : IsSeated (hand + 1) hand t) (r : Refusal) (why : WhyNoCell t.slots c r)
    (vacant : slice_get t.slots other ≡ Some None) (moves : MovesSlot t hand other u) where
  abbrev l : Slots
  l = thread_slots hand t

  there : is_there l c ≡ false
  there = absent hand t u c of third true is r why

  others : other_of l ≡ other
  others = let many = shown_many (hand + 1) t.slots is.many in omega (arith, many, at)

  free : is_full (slot_pointer l other) ≡ false
  free = ap (λ s. is_full (pointer_of s)) (shown_at (hand + 1) t.slots other None (omega (arith, at)) vacant)

  moved : IsQuiet t.desk u.desk × (thread_slots hand u ≡ placed other l) × (u.endings ≡ t.endings)
  moved = puts_idle (hand + 1) other hand t u is (omega (arith, at)) moves free

  placed_there : thread_slots hand u ≡ placed (other_of l) l
  placed_there = moved.1 ∙ ap (λ k. placed k l) (sym others)

  pub swap_passed : IsPassedOver hand t true (act.Swap c) nothing u
  swap_passed =
      record {
        free = ap (λ b. not ((true && b) && is_of (kind_at c) (slot_value l (hand_of l)))) there;
        quiet = moved.0;
        slots = placed_there;
        endings = moved.2;
        takes = refl;
        silent = (refl, refl);
      }

  pub compare_passed : (i : ℕ) (weak : Bool) → IsPassedOver hand t true (act.Compare i c weak) nothing u
  compare_passed i weak =
      record {
        free = ap (λ b. not (((true && b) && is_of (kind_at c) (slot_value l (hand_of l))) && is_of (kind_at c) (slot_value l i))) there;
        quiet = moved.0;
        slots = placed_there;
        endings = moved.2;
        takes = refl;
        silent = (refl, refl);
      }
