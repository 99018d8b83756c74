-- Acts that only tell something, as a worker does them.
use Rattle.std.proofs.Common.{◌≡◌, ℕ, ◌+◌, ◌<◌, Bool, true, false, Some, None, Ok}
use Rattle.std.proofs.Common.{Err, Option, sym, refl, ap, subst}
use Rattle.script_runner.proofs.Prelude.{Act, Answer, AreInOrder, cond-true}
use Rattle.script_runner.proofs.Prelude.{field_0, Got, idle, inside, is_full, IsActed}
use Rattle.script_runner.proofs.Prelude.{IsAway, IsSeated, Kind, MarksAct, outside}
use Rattle.script_runner.proofs.Prelude.{Place, place_in, PointAlike, Refusal, Reply, row, Shared}
use Rattle.script_runner.proofs.Prelude.{slot_pointer, TableNow, thread_slots, Told}
use Rattle.control_word.specs.declared.refusal.Refusal.TheVariants as refusal
use Rattle.script_runner.specs.SlotCalls as calls
use Rattle.script_runner.specs.This as this
use Rattle.script_runner.proofs.Acting.{acted, acted_as, below, went}
use Rattle.script_runner.proofs.Calling.{is_inside}
use Rattle.script_runner.proofs.Looking.{within}
use Rattle.script_runner.proofs.TableLaws as law
use Rattle.shared_handle.specs.Endings.{IsRead}
use Rattle.step_threads.specs.declared.programs.act.Act.TheVariants as act
use Rattle.step_threads.specs.declared.programs.act.Question.TheVariants as question
use Rattle.step_threads.specs.declared.said.Answer.TheVariants as answer

-- a mark, with its answer
pub marked : (hand : ℕ) (t : TableNow ℕ) (taken : Bool) (a : Act) (r : Reply) (says : Answer) (x : Bool) → idle a (thread_slots hand t) taken ≡ false
    → MarksAct ℕ field_0 (hand + 1) t taken a r says
    → x ≡ (row a (thread_slots hand t) taken r).taken → None ≡ (row a (thread_slots hand t) taken r).ended
    → IsActed hand t taken a (went x (Some says)) t
marked hand t taken a r says x busy m takes tells = acted_as hand t t taken a r (went x (Some says)) busy m.acts takes (sym m.says) tells

module _ (hand i : ℕ) (taken : Bool) (t u : TableNow ℕ) (is : IsSeated (hand + 1) hand t) (lt : i < hand) where
  pub counted : (n : ℕ) → calls.CountsSlot t i n u → IsActed hand t taken (act.Count i) (went taken (Some (answer.Count n))) u
  counted n c =
      acted hand t u taken (act.Count i) (Told n) refl (law.counts field_0 (hand + 1) i hand taken t u is (below hand i lt) n c)

  pub expires : (so : Bool) → calls.Expires t i so u → IsActed hand t taken (act.Expired i) (went taken (Some (answer.Expired so))) u
  expires so c =
      acted hand t u taken (act.Expired i) (Got so) refl (law.expires field_0 (hand + 1) i hand taken t u is (below hand i lt) so c)

  pub read : (n : ℕ) → calls.ReadsSlot t i (Ok n) u → IsActed hand t taken (act.Read i) (went taken (Some (answer.Read n))) u
  read n c =
      let q = c.event.0 in
      let has = within field_0 (hand + 1) i hand taken t u is (below hand i lt) c.of q c.was c.event.2 c.event.1 in
      let there : is_full (inside (slot_pointer (thread_slots hand t) i)) ≡ true = ap is_full (is_inside (thread_slots hand t) i q has.at) in
      acted_as hand t u taken (act.Read i) (Told n) (went taken (Some (answer.Read n))) refl
      (law.reads field_0 (hand + 1) i hand taken t u is (below hand i lt) n c) refl
      (ap Some (sym (cond-true (is_full (inside (slot_pointer (thread_slots hand t) i))) (answer.Read n) (outside (place_in (thread_slots hand t) i)) there)))
      refl

  away : (h : Shared) (r : Refusal) → IsRead t.desk h.block h.place (Err r) u.desk → IsAway h.block h.place r × (u.desk ≡ t.desk)
  away h refusal.Null x = x
  away h refusal.Outside x = x
  away h r x = absurd x

  pub read_not : (r : Refusal) → calls.ReadsSlot t i (Err r) u → IsActed hand t taken (act.Read i) (went taken (Some (answer.Refused r))) u
  read_not r c =
      let x = away c.of r c.event in
      let same : u ≡ t = λ j. record { desk = x.1 j; slots = c.rest.0 j; endings = c.rest.1 j } in
      subst (λ v. IsActed hand t taken (act.Read i) (went taken (Some (answer.Refused r))) v) (sym same)
      (marked hand t taken (act.Read i) (Told 0) (answer.Refused r) taken refl
      (law.reads_not field_0 (hand + 1) i hand taken t t is (below hand i lt) c.of r c.was x.0) refl refl)

  pub place_told : (p : Option Place) → calls.PointsTo t i p
      → IsActed hand t taken (act.Ask (question.Place i)) (went taken (Some (answer.Place p))) t
  place_told p c =
      marked hand t taken (act.Ask (question.Place i)) (Got true) (answer.Place p) taken refl
      (law.places field_0 (hand + 1) i hand taken t t is (below hand i lt) p c) refl refl

  pub same_told : (j : ℕ) (so : Bool) → j < hand → PointAlike t i j so
      → IsActed hand t taken (act.Ask (question.Same i j)) (went taken (Some (answer.Same so))) t
  same_told j so less c =
      marked hand t taken (act.Ask (question.Same i j)) (Got true) (answer.Same so) taken refl
      (law.alike field_0 (hand + 1) i hand taken t t is (below hand i lt) j so (below hand j less) c) refl refl

  pub before_told : (j : ℕ) (so : Bool) → j < hand → AreInOrder t i j so
      → IsActed hand t taken (act.Ask (question.Before i j)) (went taken (Some (answer.Before so))) t
  before_told j so less c =
      marked hand t taken (act.Ask (question.Before i j)) (Got so) (answer.Before so) taken refl
      (law.in_order field_0 (hand + 1) i hand taken t t is (below hand i lt) j so (below hand j less) c) refl refl

-- an object that gives no pointer to itself
module _ (hand i : ℕ) (t : TableNow ℕ) (is : IsSeated (hand + 1) hand t) where
  pub gives_none : (k : Kind) (why : Refusal) → i < hand → this.IsNoThis t i why → (why ≡ refusal.Limit → ⊥)
      → IsActed hand t false (act.FromThis i k) (went false (Some (answer.Refused why))) t
  gives_none k why lt c unlike =
      marked hand t false (act.FromThis i k) (Got false) (answer.Refused why) false refl
      (law.gives_not field_0 (hand + 1) i hand false t t is (below hand i lt) k why c unlike) refl refl
