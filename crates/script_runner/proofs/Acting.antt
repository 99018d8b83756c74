-- Acts that take something into the hand, as a worker does them.
use Rattle.std.proofs.Common.{◌≡◌, ℕ, ◌+◌, ◌<◌, Bool, true, false, [], Some, None, Option}
use Rattle.std.proofs.Common.{option_map, sym, refl, ◌∙◌, inl, inr, arith}
use Rattle.script_runner.proofs.Prelude
use Prelude.{Act, ActResult, Acts, aliased, Answer, as_owner, BadWeak, Done, Field}
use Prelude.{field_0, Form, Found, Full, Got, Handle, idle, inside, IsActed, IsEmptied, IsHand}
use Prelude.{stock_of, Kind, null_form, On, Owner, Place, place_in, Plain, Reply, row, slot_pointer, Slots}
use Prelude.{TableNow, this_as, thread_slots, weak_slot}
use Rattle.control_word.specs.declared.model.handle.Kind.TheVariants as kind
use Rattle.script_runner.specs.SlotCalls as calls
use Rattle.script_runner.specs.Handles as handles
use Rattle.script_runner.specs.This as this
use Rattle.script_runner.proofs.Looking.{place_shown}
use Rattle.script_runner.proofs.Lockings as locking
use Rattle.script_runner.proofs.TableLaws as law
use Rattle.script_runner.proofs.Takings as taking
use Rattle.step_threads.specs.Rows as rows
use Rattle.step_threads.specs.declared.programs.act.Act.TheVariants as act
use Rattle.step_threads.specs.declared.said.Answer.TheVariants as answer

abbrev pub went : Bool → Option Answer → ActResult
went taken says = record { taken = taken; answer = says; ended = None }

abbrev pub took : ActResult
took = went true None

pub below : (hand i : ℕ) → i < hand → i < hand + 1
below hand i lt = omega (arith, lt)

-- an act, with what its row says
pub acted : (hand : ℕ) (t u : TableNow ℕ) (taken : Bool) (a : Act) (r : Reply) → idle a (thread_slots hand t) taken ≡ false
    → Acts field_0 (hand + 1) t taken a r u
    → IsActed hand t taken a
    (record {
      taken = (row a (thread_slots hand t) taken r).taken;
      answer = (row a (thread_slots hand t) taken r).answer;
      ended =
          (row a (thread_slots hand t) taken r).ended;
    }) u
acted hand t u taken a r busy acts = record { busy = busy; reply = r; acts = acts; takes = refl; says = refl; tells = refl }

-- the same, with what it says written out
pub acted_as : (hand : ℕ) (t u : TableNow ℕ) (taken : Bool) (a : Act) (r : Reply) (x : ActResult) → idle a (thread_slots hand t) taken ≡ false
    → Acts field_0 (hand + 1) t taken a r u
    → x.taken ≡ (row a (thread_slots hand t) taken r).taken → x.answer ≡ (row a (thread_slots hand t) taken r).answer
    → x.ended ≡ (row a (thread_slots hand t) taken r).ended
    → IsActed hand t taken a x u
acted_as hand t u taken a r x busy acts takes says tells = record { busy = busy; reply = r; acts = acts; takes = takes; says = says; tells = tells }

-- a lock that needn't succeed takes something
taking_any : (l : Slots) (x : Option Handle) → (rows.taking l false x).1 ≡ true
taking_any l None = refl
taking_any l (Some x) = refl

-- what came was there
came_with : (f : Handle → Handle) (l : Slots) (g : Handle → Type 0) (n : Type 0) (w : Option Handle) → On g ((true ≡ false) × n) w
    → (rows.taking l true (option_map f w)).1 ≡ true
came_with f l g n None on = absurd cc
came_with f l g n (Some x) on = refl

module _ (hand i : ℕ) (t u : TableNow ℕ) (is : IsHand (hand + 1) hand t) (lt : i < hand) where
  pub shared : calls.Copies t i hand u → IsActed hand t false (act.Share i) took u
  shared c = acted hand t u false (act.Share i) Plain refl (taking.copies_taken field_0 (hand + 1) i hand false t u is (below hand i lt) c)

  pub downgraded : calls.Downgrades t i hand u → IsActed hand t false (act.Downgrade i) took u
  downgraded c = acted hand t u false (act.Downgrade i) Plain refl (taking.downgrades field_0 (hand + 1) i hand false t u is (below hand i lt) c)

  pub moved : (between : TableNow ℕ) → calls.MovesSlot t i hand between → IsEmptied between i u → IsActed hand t false (act.Move i) took u
  moved between c e = acted hand t u false (act.Move i) Plain refl (law.moves field_0 (hand + 1) i hand false t between u is lt c e)

  pub aliases : (j : ℕ) (field : Option Field) → this.Aliases t i (aliased field (place_in (thread_slots hand t) j)) hand u
      → IsActed hand t false (act.Alias i j field) took u
  aliases j field c =
      acted hand t u false (act.Alias i j field) Plain refl (taking.aliases field_0 (hand + 1) i hand false t u is (below hand i lt) j field c)

  pub locked : (got : Bool) → calls.LocksSlot t i hand got u → IsActed hand t false (act.Lock i false) (went true (Some (answer.Locked got))) u
  locked got c =
      acted_as hand t u false (act.Lock i false) (Got got) (went true (Some (answer.Locked got))) refl
      (locking.locks_taken field_0 (hand + 1) i hand false t u is (below hand i lt) got c)
      (sym (taking_any (thread_slots hand t) _)) refl refl

  got_one : Done field_0 t.desk (thread_slots hand t) (act.Lock i true) (Got true) u.desk
      → (rows.taking (thread_slots hand t) true (option_map as_owner (weak_slot (slot_pointer (thread_slots hand t) i)))).1 ≡ true
  got_one (inl x) = came_with as_owner (thread_slots hand t) _ _ (weak_slot (slot_pointer (thread_slots hand t) i)) x.1
  got_one (inr x) = came_with as_owner (thread_slots hand t) _ _ (weak_slot (slot_pointer (thread_slots hand t) i)) x.2

  pub upgraded : handles.Upgrades t i hand u → IsActed hand t false (act.Lock i true) (went true (Some answer.Upgraded)) u
  upgraded c =
      let acts = locking.upgrades field_0 (hand + 1) i hand false t u is (below hand i lt) c in
      acted_as hand t u false (act.Lock i true) (Got true) (went true (Some answer.Upgraded)) refl acts (sym (got_one acts.done)) refl refl

  pub upgraded_not : handles.GivesNoOwner t i u
      → IsActed hand t false (act.Lock i true) (went false (Some (answer.Refused BadWeak))) u
  upgraded_not c =
      acted hand t u false (act.Lock i true) (Got false) refl
      (locking.upgrades_not field_0 (hand + 1) i hand false t u is (below hand i lt) c)

  got_this : (k : Kind) → Done field_0 t.desk (thread_slots hand t) (act.FromThis i k) (Got true) u.desk
      → (rows.taking (thread_slots hand t) true (option_map (this_as k) (inside (slot_pointer (thread_slots hand t) i)))).1 ≡ true
  got_this k (inl x) = came_with (this_as k) (thread_slots hand t) _ _ (inside (slot_pointer (thread_slots hand t) i)) x.1
  got_this k (inr x) = came_with (this_as k) (thread_slots hand t) _ _ (inside (slot_pointer (thread_slots hand t) i)) x.2

  pub gives : this.SharesThis t i hand u → IsActed hand t false (act.FromThis i kind.Owner) took u
  gives c =
      let acts = law.shares_this field_0 (hand + 1) i hand false t u is (below hand i lt) c in
      acted_as hand t u false (act.FromThis i kind.Owner) (Got true) took refl acts (sym (got_this kind.Owner acts.done)) refl refl

  pub gives_weakly : this.SharesThisWeakly t i hand u → IsActed hand t false (act.FromThis i kind.Weak) took u
  gives_weakly c =
      let acts = law.shares_this_weakly field_0 (hand + 1) i hand false t u is (below hand i lt) c in
      acted_as hand t u false (act.FromThis i kind.Weak) (Got true) took refl acts (sym (got_this kind.Weak acts.done)) refl refl

module _ (hand : ℕ) (t u : TableNow ℕ) (is : IsHand (hand + 1) hand t) where
  pub made : (form : Form) (x : ℕ) → form.null ≡ false → x ≡ field_0 form → calls.MakesIntoSlot t hand form.enabled form.fields x u
      → IsActed hand t false (act.Make form) took u
  made form x null same c =
      let y = locking.makes field_0 (hand + 1) hand false t u is form x null same c in
      acted hand t u false (act.Make form) (Found (Some y.0)) refl y.1

  pub made_null : (x : ℕ) → x ≡ field_0 null_form → calls.MakesNull t hand x u → IsActed hand t false (act.Make null_form) took u
  made_null x same c =
      let y = locking.makes_null field_0 (hand + 1) hand false t u is x same c in
      acted hand t u false (act.Make null_form) (Found (Some y.0)) refl y.1

-- where an owner points, as its slot shows it
pub alias_told : (hand j : ℕ) (t : TableNow ℕ) (p : Option Place) → j < hand → calls.PointsTo t j p → p ≡ place_in (thread_slots hand t) j
alias_told hand j t p lt at = at.2 ∙ sym (place_shown (hand + 1) j t (Owner at.0) (below hand j lt) at.1)

-- there is no block for a new object
pub no_room : (hand : ℕ) (t : TableNow ℕ) (form : Form) → stock_of t.desk ≡ []
    → IsActed hand t false (act.Make form) (went false (Some (answer.Refused Full))) t
no_room hand t form none =
    acted hand t t false (act.Make form) (Found None) refl (locking.makes_not field_0 (hand + 1) hand false t form none)
