-- What was in hand goes into a cell, and what that held is to be dropped.
use Rattle.std.proofs.Common.{◌≡◌, ℕ, ◌+◌, ◌<◌, true, false, cond, not, ◌&&◌, ◌≢◌, length}
use Rattle.std.proofs.Common.{slice_get, slice_set, Some, None, sym, refl, ap, ◌∙◌, subst, inl}
use Rattle.std.proofs.Common.{inr, arith, get_or-set_same, set-set}
use Rattle.script_runner.proofs.Prelude
use Prelude.{Acts, as_slot, Came, CellName, Done, field_0, idle, is_of, IsDealt, IsOfName}
use Prelude.{IsQuiet, IsSeated, IsThird, kind_at, LeavesSlot, may_go, plain, set_comm, shown_slots}
use Prelude.{Slot, slot_value, Slots, TableNow, thread_slots}
use Rattle.script_runner.specs.SlotCalls as calls
use Rattle.script_runner.specs.Cells as cells
use Rattle.script_runner.proofs.Acting.{acted_as, went}
use Rattle.script_runner.proofs.Celled.{IsFound, is_found}
use Rattle.script_runner.proofs.Exchanging.{exchanges_in, is_of_own}
use Rattle.script_runner.proofs.Offering.{in_shape, named_below}
use Rattle.script_runner.proofs.Putting.{slice_get-set_other}
use Rattle.script_runner.proofs.Seating as seating
use Rattle.step_table.specs.Contents as contents
use Rattle.step_threads.specs.Frames.{hand as hand_of, other as other_of}
use Rattle.step_threads.specs.declared.programs.act.Act.TheVariants as act

stays : (t : TableNow ℕ) → IsQuiet t.desk t.desk
stays t = record { shape = refl; name = refl; seen = refl }

-- with nothing in hand there is nothing to swap, and nothing to compare
pub swap_none : (hand : ℕ) (t : TableNow ℕ) (c : CellName) → IsDealt hand t false (act.Swap c) (went false None) t
swap_none hand t c =
    inr (record { free = refl; quiet = stays t; slots = refl; endings = refl; takes = refl; silent = (refl, refl) })

module _ (hand other : ℕ) (t v u : TableNow ℕ) (c : CellName) (of : IsOfName hand c) (third : IsThird c) (at : other + 1 ≡ hand)
    (is : IsSeated (hand + 1) hand t) (then : IsSeated (hand + 1) hand v) (x : cells.ExchangesSlot t hand c v)
    (vacant : slice_get v.slots other ≡ Some None) (moves : calls.MovesSlot v hand other u) where
  abbrev l : Slots
  l = thread_slots hand t

  found : IsFound t l c x.swaps.site
  found =
      is_found (hand + 1) t is.fits is.stands.limits c x.swaps.site (in_shape t.desk.shape t.slots c x.swaps.site x.swaps.is third)
      (named_below hand c of) x.swaps.is

  many : length l ≡ hand + 1
  many = seating.shown_many (hand + 1) t.slots is.many

  seat : hand_of l ≡ hand
  seat = let a = many in omega (arith, a)

  others : other_of l ≡ other
  others = let a = many in omega (arith, a, at)

  apart : hand ≢ other
  apart e = let no : ⊥ = omega (arith, at, e) in no

  last : hand < hand + 1
  last = omega arith

  own : is_of (kind_at c) (slot_value l (hand_of l)) ≡ true
  own =
      ap (λ n. is_of (kind_at c) (slot_value l n)) seat
      ∙ (ap (λ y. is_of (kind_at c) y) (seating.shown_at (hand + 1) t.slots hand (Some x.swaps.of) last x.swaps.at)
      ∙ is_of_own x.swaps.of (kind_at c) (x.swaps.kinds.0))

  may : may_go l c (hand_of l) ≡ true
  may = λ j. found.there j && own j

  came : (y : Slot) × Acts field_0 (hand + 1) t true (act.Exchange hand c) (Came y) v
  came = exchanges_in field_0 (hand + 1) hand hand true t v c is then last x found

  between : thread_slots hand v ≡ slice_set l hand came.0
  between = came.1.slots ∙ ap (λ b. cond b (slice_set l hand came.0) l) (ap (λ k. may_go l c k) (sym seat) ∙ may)

  -- the slot of what is to be dropped was vacant
  moved : LeavesSlot v.desk v.endings None u.desk u.endings
  moved =
      let a = moves.assigns in
      subst (λ s. LeavesSlot v.desk v.endings s u.desk u.endings)
      (seating.same_some a.old None (sym a.was ∙ (slice_get-set_other v.slots hand other None (λ e. apart (sym e)) ∙ vacant))) a.leaves

  there : as_slot (Some moves.of) ≡ came.0
  there =
      sym (seating.shown_at (hand + 1) v.slots hand (Some moves.of) last moves.at)
      ∙ (ap (λ q. slot_value q hand) between ∙ get_or-set_same l hand came.0 plain (let a = many in omega (arith, a)))

  slots : thread_slots hand u ≡ contents.slots_swapped hand other l came.0
  slots =
      ap (shown_slots (hand + 1)) moves.assigns.slots
      ∙ (seating.shown_set (hand + 1) (slice_set v.slots hand None) other (Some moves.of)
      ∙ ((λ j. slice_set (seating.shown_set (hand + 1) v.slots hand None j) other (there j))
      ∙ (ap (λ q. slice_set (slice_set q hand plain) other came.0) between
      ∙ (ap (λ q. slice_set q other came.0) (set-set l hand came.0 plain) ∙ set_comm l hand other plain came.0 apart))))

  acts : Acts field_0 (hand + 1) t true (act.Swap c) (Came came.0) u
  acts =
      record {
        done = subst (λ d. Done field_0 t.desk l (act.Swap c) (Came came.0) d) (sym moved.0)
            (subst (λ k. Done field_0 t.desk l (act.Exchange k c) (Came came.0) v.desk) (sym seat) came.1.done);
        slots = slots
            ∙ ((λ j. contents.slots_swapped (sym seat j) (sym others j) l came.0)
            ∙ ap (λ b. cond b (contents.slots_swapped (hand_of l) (other_of l) l came.0) l) (sym may));
        ends = moved.1 ∙ came.1.ends;
      }

  busy : idle (act.Swap c) l true ≡ false
  busy = λ j. not ((true && found.there j) && own j)

  pub swaps : IsDealt hand t true (act.Swap c) (went false None) u
  swaps = inl (acted_as hand t u true (act.Swap c) (Came came.0) (went false None) busy acts refl refl refl)
