-- What other desks do leaves a desk's call on a cell.
use Rattle.std.proofs.Common.{◌≡◌, ℕ, ◌<◌, ◌≢◌, Some, None, Option, sym, refl, ap, ◌∙◌, subst}
use Rattle.std.proofs.Common.{arith}
use Rattle.step_table.proofs.Prelude
use Prelude.{AtomicStep, Block, cells_led, CellWord, Checking, Empty, Event, event_of, Failing}
use Prelude.{Fits, Full, ghost_after_step, GhostState, handle, handle_in_block, Has, has_same}
use Prelude.{held, held_busy, HoldsBag, IsBusy, IsOpenTo, Kind, kind_in_state, Lacking, leads, me}
use Prelude.{Member, model_state, Nothing, object_of, object_of_block, opening, owing_for}
use Prelude.{owing_funds, Owner, Paying, Pending, pending, Place, RefillFits, Refilling, Site}
use Prelude.{Slot, slot, Slots, sound, spot, State, TableInvariant, Turning, value, view_in}
use Rattle.control_word.proofs.history.Legal.{written}
use Rattle.control_word.specs.declared.site.Site.TheVariants.{Free}
use Rattle.step_table.specs.declared.cell_steps.refill.Stage.{Stage}
use Rattle.step_table.specs.Refills.{StageFits}
use Rattle.step_table.specs.GhostStates.{event_added}
use Rattle.step_table.proofs.contained.Told.{kind_stays}
use Rattle.step_table.proofs.holding.Keeping.{kept_object, same_atomic_step, same_pending}
use Rattle.step_table.proofs.holding.Owning.{holds_look}
use Rattle.step_table.proofs.tables.Members.{three_members}
use Rattle.step_table.proofs.tables.Places.{handle_busy, named}
use Rattle.step_table.proofs.tables.Standing.{point, ready}

-- a step that is no event leaves what any desk holds
pub holds_quiet : (d e : ℕ) (slots : Slots) (v : GhostState) (x : AtomicStep) → event_of (model_state v) x ≡ None → HoldsBag d slots v
    → HoldsBag d slots (ghost_after_step v e x)
holds_quiet d e slots v x none holds =
    let same : model_state (ghost_after_step v e x) ≡ model_state v =
    ap (λ (o : Option (Event Nothing)). leads (opening v.extent) (event_added e o v.history)) none in
    holds_look d slots v (ghost_after_step v e x) (ap (λ (s : State). s.hands) same) (ap (λ (s : State). s.latest) same) holds

-- the desk has a handle of the object on whose count its funds are out
payer : (v : GhostState) (d : ℕ) (k : Kind) (b : Block) (p : Option Place) (funds loads : ℕ) → TableInvariant v → d < v.extent.actors
    → pending v d ≡ owing_funds (model_state v) k (Some b) p funds loads → Has (held d (handle_in_block v k b p)) (model_state v).hands
payer v d k b p funds loads kept lt is =
    let owes : Pending Nothing = owing_funds (model_state v) k (Some b) p funds loads in
    let r = ready v d owes kept lt is in
    let f : Fits v.words (model_state v) (value (opening v.extent) v.history) (me (point v d)) owes =
    subst (λ (q : Pending Nothing). Fits v.words (model_state v) (value (opening v.extent) v.history) (me (point v d)) q) is
    (kept.stands.team.seated d (view_in v.views d) r.seated r.awake).fits in
    subst (λ (n : ℕ). Has (held n (handle_in_block v k b p)) (model_state v).hands) (named v d kept lt) f.0

module _ (d e : ℕ) (v : GhostState) (x : AtomicStep) (n : e ≢ d) (kept : TableInvariant v) (kept' : TableInvariant (ghost_after_step v e x)) where
  -- the object in a block stays there while the desk has a handle of it
  stays : (k : Kind) (b : Block) (p : Option Place) → Has (held d (handle_in_block v k b p)) (model_state v).hands
      → object_of_block (ghost_after_step v e x) b ≡ object_of_block v b
  stays k b p has =
      kept_object v e b x kept kept' (handle_busy v d k b p kept has)
      (held_busy (opening v.extent) (model_state (ghost_after_step v e x)) d (object_of_block v b) k p
      (sound (opening v.extent) (ghost_after_step v e x).history kept'.stands.legal)
      (has_same (model_state v) (model_state (ghost_after_step v e x)) d _ (same_atomic_step v e d x n) has))

  still_has : (k : Kind) (b : Block) (p : Option Place) → Has (held d (handle_in_block v k b p)) (model_state v).hands
      → Has (held d (handle_in_block (ghost_after_step v e x) k b p)) (model_state (ghost_after_step v e x)).hands
  still_has k b p has =
      subst (λ (o : ℕ). Has (held d (handle k (Some o) p)) (model_state (ghost_after_step v e x)).hands) (sym (stays k b p has))
      (has_same (model_state v) (model_state (ghost_after_step v e x)) d _ (same_atomic_step v e d x n) has)

  pub funds_others : (k : Kind) (b : Option Block) (p : Option Place) (funds loads : ℕ) → d < v.extent.actors
      → pending v d ≡ owing_funds (model_state v) k b p funds loads
      → pending (ghost_after_step v e x) d ≡ owing_funds (model_state (ghost_after_step v e x)) k b p funds loads
  funds_others k None p funds loads lt is = same_pending v e d x n ∙ is
  funds_others k (Some b) p funds loads lt is =
      same_pending v e d x n ∙ is
      ∙ ap (λ (o : ℕ). Paying k o p (spot b.0 (slot k)) funds loads) (sym (stays k b p (payer v d k b p funds loads kept lt is)))

  pub brought_others : (a : Slot) (funds : ℕ) → d < v.extent.actors → pending v d ≡ owing_for (model_state v) a funds
      → pending (ghost_after_step v e x) d ≡ owing_for (model_state (ghost_after_step v e x)) a funds
  brought_others (Empty p) funds lt is = same_pending v e d x n ∙ is
  brought_others (Full y) funds lt is = funds_others y.kind (Some y.block) y.place funds 0 lt is

  pub open_others : (c : Site) → IsOpenTo v d c → IsOpenTo (ghost_after_step v e x) d c
  open_others (Free m) way =
      let a = cells_led (opening v.extent) v.history in let b = cells_led (opening v.extent) (ghost_after_step v e x).history in omega (arith, a, b, way)
  open_others (Member b m) way =
      let h = way.1.0 in
      let hold = way.1.1 in
      let here = way.1.2 in
      let s = model_state v in
      let t = model_state (ghost_after_step v e x) in
      let same = same_atomic_step v e d x n in
      let has = written s.hands d Owner h hold.0 hold.1 hold.2 in
      let busy = held_busy (opening v.extent) s d (object_of h) Owner h.place (sound (opening v.extent) v.history kept.stands.legal) has in
      let busy' = held_busy (opening v.extent) t d (object_of h) Owner h.place (sound (opening v.extent) (ghost_after_step v e x).history kept'.stands.legal)
      (has_same s t d _ same has) in
      let o = kept_object v e b x kept kept' (subst (IsBusy s) here busy) (subst (IsBusy t) here busy') in
      let few : m < t.members =
      (let a = (three_members v).0 in let b = (three_members (ghost_after_step v e x)).0 in let lt = way.0 in omega (arith, a, b, lt)) in
      (few, (h, (has_same s t d h same hold.0, hold.1, hold.2), here ∙ sym o))

  stage_others : (stage : Stage) (k : Kind) (b : Block) (y : CellWord) → d < v.extent.actors → StageFits d stage k b y v
      → StageFits d stage k b y (ghost_after_step v e x)
  stage_others Turning k b y lt is = funds_others k (Some b) y.place 1 1 lt is
  stage_others Checking k b y lt is = same_pending v e d x n ∙ is
  stage_others Lacking k b y lt is = same_pending v e d x n ∙ is
  stage_others Refilling k b y lt is = funds_others k (Some b) y.place y.taken 0 lt is
  stage_others Failing k b y lt is = funds_others k (Some b) y.place y.taken 0 lt is

  pub refill_others : (stage : Stage) (c : Site) (y : CellWord) → d < v.extent.actors → RefillFits d stage c y v
      → RefillFits d stage c y (ghost_after_step v e x)
  refill_others stage c y lt fits =
      let k = sym (kind_stays v (ghost_after_step v e x) c refl) in
      record {
        valid = fits.valid;
        few = fits.few;
        block = fits.block;
        owned = fits.owned;
        opens = open_others c fits.opens;
        has = subst (λ (q : Kind). Has (held d (handle_in_block (ghost_after_step v e x) q fits.block y.place)) (model_state (ghost_after_step v e x)).hands) k
            (still_has (kind_in_state (model_state v) c) fits.block y.place fits.has);
        pays = subst (λ (q : Kind). StageFits d stage q fits.block y (ghost_after_step v e x)) k
            (stage_others stage (kind_in_state (model_state v) c) fits.block y lt fits.pays);
      }
