-- Cells that aren't there, as acts of a thread.
use Rattle.std.proofs.Common.{◌≡◌, ℕ, Bool, true, false, cond, ◌&&◌, slice_set}
use Rattle.std.proofs.Common.{Some, None, Option, option_map, sym, refl, ap, ◌∙◌, subst, inl}
use Rattle.script_runner.proofs.Prelude
use Prelude.{CellName, copy, Event, fitting, Form, Hands, is_full, is_of, is_there}
use Prelude.{IsLoadEvent, IsOfName, IsSameEvent, IsSeated, IsSwapEvent, kind_at, may_go}
use Prelude.{outside, place_in, plain, pointer_of, Refusal, refusal, RefusesCell}
use Prelude.{shown_slots, slot_value, Slots, state_of, TableNow, unless, Where}
use Rattle.script_runner.specs.Cells as cells
use Rattle.script_runner.proofs.Looking.{is_away, outside_as}
use Rattle.script_runner.proofs.Takings.{stayed}
use Rattle.script_runner.specs.CellCalls.{CellsNot}
use Rattle.step_threads.specs.Frames.{hand as hand_of}
use Rattle.step_threads.specs.declared.programs.call.CellName.TheVariants as cell
use Rattle.step_threads.specs.declared.said.Answer.TheVariants as answer

module _ {V : Type 0} (worth : Form → V) (m hand : ℕ) (taken : Bool) (t : TableNow V) (is : IsSeated m hand t) where
  abbrev l : Slots
  l = shown_slots m t.slots

  -- the marks of a cell that isn't there
  marked : (c : CellName) (r : Refusal) → is_there l c ≡ false → refusal l c ≡ Some (answer.Refused r) → RefusesCell V worth m t taken c r
  marked c r there says =
      let s = state_of t.desk in
      let may : (i : ℕ) → may_go l c i ≡ false = λ i. ap (λ b. b && is_of (kind_at c) (slot_value l i)) there in
      record {
        offer = λ i. record {
          acts = record {
            done = inl (
              stayed t.desk t.desk refl,
              ap (λ b. option_map (copy {V = V} s) (cond b (pointer_of (fitting (kind_at c) (slot_value l i))) None)) (sym there),
            );
            slots = ap (λ b. (cond {A = Hands} b (slice_set l (hand_of l) (fitting (kind_at c) (slot_value l i)), true) (l, taken)).0) (sym there);
            ends = refl;
          };
          says = says;
        };
        exchange = λ i. record {
          acts = record {
            done = inl (
              stayed t.desk t.desk refl,
              subst (λ b. Where b (IsSwapEvent {V = V} s l c i plain None) (◌≡◌ {A = Option (Event V)} None None)) (sym (may i)) refl,
            );
            slots = ap (λ b. cond b (slice_set l i plain) l) (sym (may i));
            ends = refl;
          };
          says = says;
        };
        load = record {
          acts = record {
            done = inl (
              stayed t.desk t.desk refl,
              subst (λ b. Where b (IsLoadEvent {V = V} s l c plain None) (◌≡◌ {A = Option (Event V)} None None)) (sym there) refl,
            );
            slots = ap (λ b. (cond {A = Hands} b (slice_set l (hand_of l) plain, true) (l, taken)).0) (sym there);
            ends = refl;
          };
          says = says;
        };
        holds = λ i. record {
          acts = record {
            done = inl (
              stayed t.desk t.desk refl,
              subst (λ b. Where b (IsSameEvent {V = V} s l c i false None) ((false ≡ false) × (◌≡◌ {A = Option (Event V)} None None))) (sym (may i))
                  (refl, refl),
            );
            slots = refl;
            ends = refl;
          };
          says = ap (λ x. unless x (answer.Holds false)) says;
        };
      }

  refused : (c : CellName) (r : Refusal) → IsOfName m c → cells.WhyNoCell t.slots c r → RefusesCell V worth m t taken c r
  refused (cell.Shared n) r of x = absurd x
  refused (cell.Weak n) r of x = absurd x
  refused (cell.Member name n) r lt (h, at, away) =
      let none = is_away worth m name.0 hand taken t is lt h r at away in
      let there : is_there l (cell.Member name n) ≡ false = ap is_full none in
      marked (cell.Member name n) r there
      (ap (λ b. cond b None (Some (outside (place_in l name.0)))) there ∙ ap Some (outside_as worth m name.0 hand taken t is lt h r at away))

module _ {V : Type 0} where
  pub cells_not : CellsNot V
  cells_not worth m hand taken t c r is of x = refused worth m hand taken t is c r of x
