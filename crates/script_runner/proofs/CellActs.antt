-- Acts on cells that a worker reaches: what comes of them, and how they change the kinds of what its slots have.
use Rattle.std.proofs.Common.{◌≡◌, ℕ, ◌+◌, ◌-◌, ◌<◌, Bool, true, false, Some, None, sym, ap, subst}
use Rattle.std.proofs.Common.{inr, arith}
use Rattle.script_runner.proofs.Prelude
use Prelude.{ActResult, CellName, ComparesSlots, Copies, ExchangesSlot}
use Prelude.{FitsSlots, HasKind, IsActed, IsCompared, IsDealt, IsHand, IsOfName}
use Prelude.{IsPassedOver, IsReachable, IsSeated, IsVacant, KeepsKinds, Kind, kind_at}
use Prelude.{LoadsIntoSlot, MovesSlot, NamesCell, nothing, Refusal, SetsKind, slot_kinds, Standing}
use Prelude.{TableNow, TakesKind, TellsSlotHeld, WhyNoCell}
use Rattle.script_runner.proofs.Acting.{went}
use Rattle.script_runner.proofs.CellKinds.{copied_kind, differed_kinds, exchanged_kinds}
use Rattle.script_runner.proofs.CellKinds.{kept_vacant, loaded_kind, seated_kept, seated_set}
use Rattle.script_runner.proofs.CellKinds.{swapped_kind}
use Rattle.script_runner.proofs.Offering as law
use Rattle.script_runner.proofs.Passing.{compare_passed, swap_passed}
use Rattle.script_runner.proofs.Reaching.{third}
use Rattle.script_runner.proofs.Refusals.{kind_of_slot, vacant_slot}
use Rattle.script_runner.proofs.Swapping as swapping
use Rattle.script_runner.proofs.TableLaws.{as_seated}
use Rattle.step_threads.specs.declared.programs.act.Act.TheVariants as act
use Rattle.step_threads.specs.declared.said.Answer.TheVariants as answer

abbrev refuses : Bool → Refusal → ActResult
refuses taken r = went taken (Some (answer.Refused r))

-- nothing was taken, and nothing changed
pub refused_kinds : (hand : ℕ) (k : Kind) (t u : TableNow ℕ) (x : ActResult) (r : Refusal) → x ≡ refuses false r → u ≡ t → TakesKind hand k x.taken t u
refused_kinds hand k t u x r says same =
    subst (λ b. TakesKind hand k b t u) (sym (ap (λ (y : ActResult). y.taken) says)) (ap (λ (v : TableNow ℕ). slot_kinds v.slots) same)

module _ (hand : ℕ) (t : TableNow ℕ) (c : CellName) (of : IsOfName hand c) (reach : IsReachable t c) where
  -- a copy that is to go into the cell
  pub offer_refused : (i : ℕ) (r : Refusal) (x : ActResult) → IsHand (hand + 1) hand t → WhyNoCell t.slots c r → x ≡ refuses false r
      → IsActed hand t false (act.Offer i c) x t
  offer_refused i r x is why says =
      subst (λ y. IsActed hand t false (act.Offer i c) y t) (sym says)
      (law.offer_not hand t t c of (third t c reach) false (as_seated (hand + 1) hand t is) r why i)

  pub offer_taken : (i j : ℕ) (u : TableNow ℕ) → IsHand (hand + 1) hand t → i < hand → HasKind t.slots i (kind_at c) → NamesCell t c → j ≡ i
      → Copies t j hand u → IsActed hand t false (act.Offer i c) (went true None) u × SetsKind hand (Some (kind_at c)) t u
  offer_taken i j u is lt has there same x =
      let copies = subst (λ n. Copies t n hand u) same x in (
        law.offered hand t u c of (third t c reach) i copies.of is lt there copies.at
            (kind_of_slot t.slots i copies.of (kind_at c) copies.at has) copies,
        copied_kind t u i hand (kind_at c) has copies,
      )

  -- a copy of what the cell holds
  pub load_refused : (r : Refusal) (x : ActResult) (u : TableNow ℕ) → IsHand (hand + 1) hand t → WhyNoCell t.slots c r × (u ≡ t)
      → x ≡ refuses false r → IsActed hand t false (act.Load c) x u
  load_refused r x u is why says =
      subst (λ v. IsActed hand t false (act.Load c) x v) (sym why.1)
      (subst (λ y. IsActed hand t false (act.Load c) y t) (sym says)
      (law.load_not hand t t c of (third t c reach) false (as_seated (hand + 1) hand t is) r why.0))

  pub load_taken : (u : TableNow ℕ) → IsHand (hand + 1) hand t → LoadsIntoSlot t c hand u → FitsSlots u.desk u.slots → Standing u.desk
      → IsActed hand t false (act.Load c) (went true None) u
  load_taken u is x fits stands =
      law.loaded hand t u c of (third t c reach) is
      (seated_set t u hand (as_seated (hand + 1) hand t is) fits stands hand (Some (kind_at c)) (loaded_kind t u c hand x)) x

  -- what a slot has goes into the cell
  module _ (is : IsSeated (hand + 1) hand t) (i : ℕ) (has : HasKind t.slots i (kind_at c)) where
    pub exchange_refused : (taken : Bool) (r : Refusal) (u : TableNow ℕ) → WhyNoCell t.slots c r × (u ≡ t)
        → IsActed hand t taken (act.Exchange i c) (refuses taken r) u
    exchange_refused taken r u why =
        subst (λ v. IsActed hand t taken (act.Exchange i c) (refuses taken r) v) (sym why.1)
        (law.exchange_not hand t t c of (third t c reach) taken is r why.0 i)

    pub ask_refused : (taken : Bool) (r : Refusal) (u : TableNow ℕ) → WhyNoCell t.slots c r × (u ≡ t)
        → IsActed hand t taken (act.Holds i c) (refuses taken r) u
    ask_refused taken r u why =
        subst (λ v. IsActed hand t taken (act.Holds i c) (refuses taken r) v) (sym why.1)
        (law.holds_not hand t t c of (third t c reach) taken is r why.0 i)

    pub ask_answered : (taken same : Bool) (u : TableNow ℕ) → i < hand → TellsSlotHeld t c i same u
        → IsActed hand t taken (act.Holds i c) (went taken (Some (answer.Holds same))) u
    ask_answered taken same u lt x = law.asked hand t u c of (third t c reach) i taken same is lt x

    module _ (u : TableNow ℕ) (x : ExchangesSlot t i c u) where
      pub exchange_kinds : KeepsKinds t u
      exchange_kinds = exchanged_kinds t u c i has x

      module _ (fits : FitsSlots u.desk u.slots) (stands : Standing u.desk) where
        then : IsSeated (hand + 1) hand u
        then = seated_kept t u hand is fits stands exchange_kinds

        pub exchange_taken : (taken : Bool) → i < hand → IsActed hand t taken (act.Exchange i c) (went taken None) u
        exchange_taken taken lt = law.exchanged hand t u c of (third t c reach) i taken is then lt x

-- what is in hand goes into a cell or is to be dropped; the slot for that is vacant
module _ (hand : ℕ) (t : TableNow ℕ) (c : CellName) (of : IsOfName hand c) (reach : IsReachable t c) (is : IsSeated (hand + 1) hand t)
    (some : 0 < hand) (has : HasKind t.slots hand (kind_at c)) (none : IsVacant t.slots (hand - 1)) where
  at : (hand - 1) + 1 ≡ hand
  at = omega (arith, some)

  pub swap_swapped : (v u : TableNow ℕ) → ExchangesSlot t hand c v → FitsSlots v.desk v.slots → Standing v.desk → MovesSlot v hand (hand - 1) u
      → IsDealt hand t true (act.Swap c) nothing u
  swap_swapped v u x fits stands moves =
      let kept = exchange_kinds hand t c of reach is hand has v x in
      swapping.swaps hand (hand - 1) t v u c of (third t c reach) at is (seated_kept t v hand is fits stands kept) x
      (vacant_slot v.slots (hand - 1) (kept_vacant t v (hand - 1) kept none)) moves

  pub swap_missed : (r : Refusal) (v u : TableNow ℕ) → WhyNoCell t.slots c r × (v ≡ t) → MovesSlot v hand (hand - 1) u
      → IsDealt hand t true (act.Swap c) nothing u
  swap_missed r v u why moves =
      inr (swap_passed hand (hand - 1) t u c of (third t c reach) at is r why.0
      (vacant_slot t.slots (hand - 1) none) (subst (λ q. MovesSlot q hand (hand - 1) u) why.1 moves))

  module _ (i j : ℕ) (same : j ≡ i) (lt : i + 1 < hand) (there : HasKind t.slots i (kind_at c)) (weak : Bool) where
    before : i < hand - 1
    before = omega (arith, lt)

    -- a comparison with what a name has
    module _ (v : TableNow ℕ) (s : Bool) (x : ComparesSlots weak t c j hand s v) where
      compares : ComparesSlots weak t c i hand s v
      compares = subst (λ n. ComparesSlots weak t c n hand s v) same x

      pub compare_kind : s ≡ true → SetsKind hand None t v
      compare_kind so = swapped_kind t v c weak i hand (subst (λ b. ComparesSlots weak t c i hand b v) so compares)

      pub compare_swapped : s ≡ true → IsCompared hand t i c weak true v
      compare_swapped so =
          law.compared hand t v c of (third t c reach) i (hand - 1) weak is at before (vacant_slot t.slots (hand - 1) none)
          (subst (λ b. ComparesSlots weak t c i hand b v) so compares)

      pub compare_kinds : s ≡ false → KeepsKinds t v
      compare_kinds so = differed_kinds t v c weak i hand there (subst (λ b. ComparesSlots weak t c i hand b v) so compares)

      pub compare_differed : (u : TableNow ℕ) → s ≡ false → MovesSlot v hand (hand - 1) u → IsCompared hand t i c weak false u
      compare_differed u so moves =
          law.differed hand t u c of (third t c reach) i (hand - 1) weak v is at before (vacant_slot t.slots (hand - 1) none)
          (subst (λ b. ComparesSlots weak t c i hand b v) so compares) moves

    pub compare_missed : (r : Refusal) (v u : TableNow ℕ) → WhyNoCell t.slots c r × (v ≡ t) → MovesSlot v hand (hand - 1) u
        → IsPassedOver hand t true (act.Compare i c weak) nothing u
    compare_missed r v u why moves =
        compare_passed hand (hand - 1) t u c of (third t c reach) at is r why.0
        (vacant_slot t.slots (hand - 1) none) (subst (λ q. MovesSlot q hand (hand - 1) u) why.1 moves) i weak
