-- Acts on cells, as a worker does them.
use Rattle.std.proofs.Common.{◌≡◌, ℕ, ◌+◌, ◌<◌, Bool, true, false, cond, List, slice_get, Some}
use Rattle.std.proofs.Common.{None, sym, refl, ap}
use Rattle.script_runner.proofs.Prelude
use Prelude.{Answer, Came, CellName, field_0, Got, Hands, Held, is_there, IsActed}
use Prelude.{IsAt, IsCellAtSite, IsCompared, IsHand, IsIn, IsOfName, IsSeated, IsThird, kind_at}
use Prelude.{kind_of_held, NamesCell, outside, place_in, Plain, plain, Refusal, refusal}
use Prelude.{RefusesCell, Shape, Site, Slots, TableNow, thread_slots, unless, WhyNoCell}
use Rattle.script_runner.specs.SlotCalls as calls
use Rattle.script_runner.specs.Cells as cells
use Rattle.script_runner.specs.Compares as compares
use Rattle.script_runner.specs.Tables as table
use Rattle.script_runner.proofs.Acting.{acted_as, below, took, went}
use Rattle.script_runner.proofs.Celled.{loads, is_found}
use Rattle.script_runner.proofs.Comparing.{compares_swap}
use Rattle.script_runner.proofs.Differing.{compares_differ}
use Rattle.script_runner.proofs.Exchanging.{exchanges, holds, offers}
use Rattle.script_runner.proofs.Inquiring.{marked}
use Rattle.script_runner.proofs.TableLaws.{as_seated}
use Rattle.script_runner.proofs.Uncelled.{cells_not}
use Rattle.step_threads.specs.declared.programs.act.Act.TheVariants as act
use Rattle.step_threads.specs.declared.programs.call.CellName.TheVariants as cell
use Rattle.step_threads.specs.declared.said.Answer.TheVariants as answer

-- a cell that a table has is one of its domain's
pub in_shape : (z : Shape) (ss : List table.Slot) (c : CellName) (at : Site) → IsCellAtSite z ss c at → IsThird c → IsIn z c
in_shape z ss (cell.Shared n) at is third = is.0
in_shape z ss (cell.Weak n) at is third = is.0
in_shape z ss (cell.Member k m) at is third = third

pub named_below : (hand : ℕ) (c : CellName) → IsOfName hand c → IsOfName (hand + 1) c
named_below hand (cell.Shared n) of = tt
named_below hand (cell.Weak n) of = tt
named_below hand (cell.Member k m) of = below hand k.0 of

no_refusal : (l : Slots) (c : CellName) → is_there l c ≡ true → refusal l c ≡ None
no_refusal l (cell.Shared n) there = refl
no_refusal l (cell.Weak n) there = refl
no_refusal l (cell.Member k m) there = ap (λ b. cond b None (Some (outside (place_in l k.0)))) there

not_there : (l : Slots) (c : CellName) (x : Answer) → refusal l c ≡ Some x → is_there l c ≡ false
not_there l (cell.Shared n) x says = absurd cc
not_there l (cell.Weak n) x says = absurd cc
not_there l (cell.Member k m) x says = go (is_there l (cell.Member k m)) says
  where
    go : (b : Bool) → cond b None (Some (outside (place_in l k.0))) ≡ Some x → b ≡ false
    go true e = absurd cc
    go false e = refl

hands_by : (b d : Bool) (x y : Slots × Bool) → b ≡ d → (cond {A = Hands} b x y).1 ≡ (cond {A = Hands} d x y).1
hands_by b d x y e = ap (λ q. (cond {A = Hands} q x y).1) e

module _ (hand : ℕ) (t u : TableNow ℕ) (c : CellName) (of : IsOfName hand c) (third : IsThird c) where
  there_is : IsSeated (hand + 1) hand t → (at : Site) → IsCellAtSite t.desk.shape t.slots c at → is_there (thread_slots hand t) c ≡ true
  there_is is at cell =
      (is_found (hand + 1) t is.fits is.stands.limits c at (in_shape t.desk.shape t.slots c at cell third) (named_below hand c of) cell).there

  pub offered : (i : ℕ) (h : Held) → IsHand (hand + 1) hand t → i < hand → NamesCell t c → IsAt t i h → kind_of_held h ≡ kind_at c
      → calls.Copies t i hand u → IsActed hand t false (act.Offer i c) took u
  offered i h is lt there at same copies =
      let y = there_is (as_seated (hand + 1) hand t is) there.0 there.1 in
      acted_as hand t u false (act.Offer i c) Plain took refl
      (offers field_0 (hand + 1) i hand false t u c is (below hand i lt) (in_shape t.desk.shape t.slots c there.0 there.1 third) (named_below hand c of)
      there h at same copies)
      (sym (hands_by (is_there (thread_slots hand t) c) true _ _ y)) (sym (no_refusal (thread_slots hand t) c y)) refl

  pub loaded : IsHand (hand + 1) hand t → IsSeated (hand + 1) hand u → cells.LoadsIntoSlot t c hand u → IsActed hand t false (act.Load c) took u
  loaded is then x =
      let y = there_is (as_seated (hand + 1) hand t is) x.site x.is in
      let a = loads field_0 (hand + 1) hand false t u c is then (in_shape t.desk.shape t.slots c x.site x.is third) (named_below hand c of) x in
      acted_as hand t u false (act.Load c) (Came a.0) took refl a.1
      (sym (hands_by (is_there (thread_slots hand t) c) true _ _ y)) (sym (no_refusal (thread_slots hand t) c y)) refl

  pub exchanged : (i : ℕ) (taken : Bool) → IsSeated (hand + 1) hand t → IsSeated (hand + 1) hand u → i < hand → cells.ExchangesSlot t i c u
      → IsActed hand t taken (act.Exchange i c) (went taken None) u
  exchanged i taken is then lt x =
      let y = there_is is x.swaps.site x.swaps.is in
      let a = exchanges field_0 (hand + 1) i hand taken t u c is then lt (in_shape t.desk.shape t.slots c x.swaps.site x.swaps.is third)
      (named_below hand c of) x in
      acted_as hand t u taken (act.Exchange i c) (Came a.0) (went taken None) refl a.1 refl (sym (no_refusal (thread_slots hand t) c y)) refl

  pub asked : (i : ℕ) (taken same : Bool) → IsSeated (hand + 1) hand t → i < hand → cells.TellsSlotHeld t c i same u
      → IsActed hand t taken (act.Holds i c) (went taken (Some (answer.Holds same))) u
  asked i taken same is lt x =
      let y = there_is is x.site x.is in
      acted_as hand t u taken (act.Holds i c) (Got same) (went taken (Some (answer.Holds same))) refl
      (holds field_0 (hand + 1) i hand taken t u c same is (below hand i lt) (in_shape t.desk.shape t.slots c x.site x.is third) (named_below hand c of) x)
      refl (sym (ap (λ o. unless o (answer.Holds same)) (no_refusal (thread_slots hand t) c y))) refl

  module _ (taken : Bool) (is : IsSeated (hand + 1) hand t) (r : Refusal) (why : WhyNoCell t.slots c r) where
    refused : RefusesCell ℕ field_0 (hand + 1) t taken c r
    refused = cells_not field_0 (hand + 1) hand taken t c r is (named_below hand c of) why

    pub absent : is_there (thread_slots hand t) c ≡ false
    absent = not_there (thread_slots hand t) c (answer.Refused r) refused.load.says

    pub offer_not : (i : ℕ) → IsActed hand t taken (act.Offer i c) (went taken (Some (answer.Refused r))) t
    offer_not i =
        marked hand t taken (act.Offer i c) Plain (answer.Refused r) taken refl (refused.offer i)
        (sym (hands_by (is_there (thread_slots hand t) c) false _ _ absent)) refl

    pub load_not : IsActed hand t taken (act.Load c) (went taken (Some (answer.Refused r))) t
    load_not =
        marked hand t taken (act.Load c) (Came plain) (answer.Refused r) taken refl refused.load
        (sym (hands_by (is_there (thread_slots hand t) c) false _ _ absent)) refl

    pub exchange_not : (i : ℕ) → IsActed hand t taken (act.Exchange i c) (went taken (Some (answer.Refused r))) t
    exchange_not i =
        marked hand t taken (act.Exchange i c) (Came plain) (answer.Refused r) taken refl (refused.exchange i) refl refl

    pub holds_not : (i : ℕ) → IsActed hand t taken (act.Holds i c) (went taken (Some (answer.Refused r))) t
    holds_not i = marked hand t taken (act.Holds i c) (Got false) (answer.Refused r) taken refl (refused.holds i) refl refl

  pub compared : (i other : ℕ) (weak : Bool) → IsSeated (hand + 1) hand t → other + 1 ≡ hand → i < other → slice_get t.slots other ≡ Some None
      → compares.ComparesSlots weak t c i hand true u → IsCompared hand t i c weak true u
  compared i other weak is at lt vacant x =
      compares_swap field_0 (hand + 1) i hand other t u c weak is at lt vacant (in_shape t.desk.shape t.slots c x.site x.is third) (named_below hand c of) x

  pub differed : (i other : ℕ) (weak : Bool) (v : TableNow ℕ) → IsSeated (hand + 1) hand t → other + 1 ≡ hand → i < other
      → slice_get t.slots other ≡ Some None
      → compares.ComparesSlots weak t c i hand false v → calls.MovesSlot v hand other u → IsCompared hand t i c weak false u
  differed i other weak v is at lt vacant x moves =
      compares_differ field_0 (hand + 1) i hand other t v u c weak is at lt vacant (in_shape t.desk.shape t.slots c x.site x.is third)
      (named_below hand c of) x moves
