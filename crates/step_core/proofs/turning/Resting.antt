-- The rest of an act, step by step: funds are given back, and objects end.
use Rattle.std.proofs.Common.{◌≡◌, ℕ, Bool, true, false, not, ◌&&◌, ◌||◌, List, [], ◌∷◌, length}
use Rattle.std.proofs.Common.{set, is_some, Some, Option, option_map, sym, refl, ap, ◌∙◌, subst}
use Rattle.std.proofs.Common.{inl, inr, ⊎_elim, arith, set-set}
use Rattle.step_core.proofs.Prelude
use Prelude.{abstraction, AbstractState, Advances, All-head, at_rest, Block, Brought, CellWord}
use Prelude.{Clearing, cond-false, emptied, empties, Ending, ends_on, EndsAll, false≢true}
use Prelude.{first_of, frame_of, FrameView, FundsAreHeld, ghost_after, GhostState, Giving, GoesTo}
use Prelude.{hand, has_rest, HasBegun, is_clearing, is_ending, is_full, is_refilling, is_returning}
use Prelude.{IsAlone, IsClearingMember, IsEndingAtStage, IsOver, IsTried, Kind, Locking, Making}
use Prelude.{Matched, pending_call_of, PendingCall, Refill, RefillFits, refills_on, Rest, rested}
use Prelude.{returned, Returning, returns, Saw, Site, slot_pointer, Stage, Step, step_at, step_of}
use Prelude.{Stepped, Steps, world_state_by, WorldState}
use Rattle.step_core.proofs.turning.Refilling.{Pays, refills_so, returns_so}
use Rattle.step_core.proofs.turning.Chains.{more_steps, one_step}
use Rattle.step_core.proofs.turning.Ending.{IsRested, Same, end_step, pending_call_after}
use Rattle.step_core.proofs.turning.Ending.{pending_calls_after, same_frames, take_step}

-- how far the rest of an act has come
pub record IsOn (d : ℕ) (u u' : WorldState) : Type 0 where
  pub abstraction : rested d (abstraction u') ≡ rested d (abstraction u)
  pub pending_call : returned (pending_call_of u' d) ≡ returned (pending_call_of u d)
  pub pending_calls : u'.pending_calls ≡ set u.pending_calls d (pending_call_of u' d)
  pub actors : length u'.frame_views ≡ length u.frame_views
  pub goes : GoesTo d u u'

-- a thread whose objects end is within no act
pub within_none : (h : PendingCall) (e : Ending) (es : List Ending) → IsAlone h (e ∷ es) → is_returning h ≡ false → is_refilling h ≡ false
    → is_clearing h ≡ false → h ≡ Rest
within_none Rest e es alone n m c = refl
within_none (Making b i differs) e es alone n m c = cc
within_none (Locking word) e es alone n m c = cc
within_none (Giving i kind x) e es alone n m c = cc
within_none Brought e es alone n m c = cc
within_none (Saw wd) e es alone n m c = cc
within_none (Matched wd) e es alone n m c = cc
within_none (Refill stage cell wd line) e es alone n m c = absurd (false≢true (sym m))
within_none (Returning kind b funds k) e es alone n m c = absurd (false≢true (sym n))
within_none Clearing e es alone n m c = absurd (false≢true (sym c))

pub first_ends : (d : ℕ) (v : GhostState) (e : Ending) (es : List Ending) → EndsAll d (e ∷ es) v → IsEndingAtStage d e v
first_ends d v e es ends = All-head (λ (x : Ending). IsEndingAtStage d x v) e es ends.each

abbrev Onward : ℕ → WorldState → WorldState → Type 0
Onward d u v =
    (rested d (abstraction v) ≡ rested d (abstraction u)) × (returned (pending_call_of v d) ≡ returned (pending_call_of u d)) ×
    (v.pending_calls ≡ set u.pending_calls d (pending_call_of v d))

-- an abstract state whose thread stays where it is, after a step that is no event
pub abstraction_stays : (u : WorldState) (v : GhostState) (l : List FrameView) → v.extent ≡ u.ghost_state.extent → v.history ≡ u.ghost_state.history → l ≡
    u.frame_views
    → ◌≡◌ {A = AbstractState} (record { extent = v.extent; history = v.history; frame_views = l }) (abstraction u)
abstraction_stays u v l e h w = cc

-- a step that leads to the same abstract state
stepped_same : (d : ℕ) (u : WorldState) (y : Step) → HasBegun d u → step_of d u ≡ Some y → returned (pending_call_of u d) ≡ Rest
    → Same d u y → Onward d u (world_state_by d u (step_of d u))
stepped_same d u y begun s rest same =
    let pending_call : pending_call_of (world_state_by d u (Some y)) d ≡ y.pending_call = pending_call_after d u (Some y) begun.within in
    subst (λ (o : Option Step). Onward d u (world_state_by d u o)) (sym s)
    (same.0, ap returned pending_call ∙ same.1 ∙ sym rest, pending_calls_after d u (Some y) begun.within)

-- funds are on their way
stepped_pay : (d : ℕ) (u : WorldState) (h : PendingCall) (y : Step) → pending_call_of u d ≡ h → returned h ≡ Rest → step_of d u ≡ Some y
    → Pays d u.ghost_state (frame_of (abstraction u) d) y → HasBegun d u → Onward d u (world_state_by d u (step_of d u))
stepped_pay d u h y e rest s pays begun =
    let v = ghost_after u.ghost_state d y.atomic_step in
    let same : abstraction (world_state_by d u (Some y)) ≡ abstraction u =
    abstraction_stays u v (set u.frame_views d y.frame_view) pays.extent pays.history (ap (set u.frame_views d) pays.frame_view ∙ same_frames d u) in
    stepped_same d u y begun s (ap returned e ∙ rest) (ap (rested d) same, pays.pending_call)

-- funds are given back
stepped_back : (d : ℕ) (u : WorldState) (kind : Kind) (b : Block) (f k : ℕ) → pending_call_of u d ≡ Returning kind b f k → HasBegun d u
    → Onward d u (world_state_by d u (step_of d u))
stepped_back d u kind b f k e begun =
    let w = frame_of (abstraction u) d in
    stepped_pay d u (Returning kind b f k) (returns w kind b f k) e refl (ap (λ (h : PendingCall). step_at u.ghost_state d h w) e)
    (returns_so d u.ghost_state w kind b f k) begun

-- a fund is turned, and others are put back
stepped_refill : (d : ℕ) (u : WorldState) (stage : Stage) (c : Site) (x : CellWord) (k : ℕ) → pending_call_of u d ≡ Refill stage c x k → HasBegun d u
    → Onward d u (world_state_by d u (step_of d u))
stepped_refill d u stage c x k e begun =
    let w = frame_of (abstraction u) d in
    let fits : RefillFits d stage c x u.ghost_state = subst (λ (h : PendingCall). FundsAreHeld d u.ghost_state h) e begun.out in
    let y = refills_on u.ghost_state w stage c x k fits.block in
    let s : step_of d u ≡ Some y = ap (λ (h : PendingCall). step_at u.ghost_state d h w) e ∙ ap (option_map (refills_on u.ghost_state w stage c x k)) fits.owned
    in
    stepped_pay d u (Refill stage c x k) y e refl s (refills_so d u.ghost_state w stage c x k fits.block) begun

none_full : (b : Bool) → (true && not b) ≡ true → b ≡ false
none_full true is = absurd (false≢true is)
none_full false is = refl

-- an object ends
stepped_end : (d : ℕ) (u : WorldState) (l : List Ending) → (frame_of (abstraction u) d).endings ≡ l → HasBegun d u
    → let w = frame_of (abstraction u) d in (is_some (first_of l) && not (is_full (slot_pointer w.slots (hand w.slots)))) ≡ true
    → is_returning (pending_call_of u d) ≡ false → is_refilling (pending_call_of u d) ≡ false → is_clearing (pending_call_of u d) ≡ false
    → Onward d u (world_state_by d u (step_of d u))
stepped_end d u [] e begun is back fill clear = absurd (false≢true is)
stepped_end d u (x ∷ es) e begun is back fill clear =
    let w = frame_of (abstraction u) d in
    let free = none_full (is_full (slot_pointer w.slots (hand w.slots))) is in
    let rest : pending_call_of u d ≡ Rest =
    within_none (pending_call_of u d) x es (subst (λ (l : List Ending). IsAlone (pending_call_of u d) l) e begun.alone) back fill clear in
    let ends = first_ends d u.ghost_state x es (subst (λ (l : List Ending). EndsAll d l u.ghost_state) e begun.ends) in
    let y = ends_on u.ghost_state w x es in
    let s : step_of d u ≡ Some y = ap (λ (h : PendingCall). step_at u.ghost_state d h w) rest ∙ ap (λ (l : List Ending). at_rest u.ghost_state d w l) e
    ∙ ap (λ (k : Step). Some k) (cond-false (is_full (slot_pointer w.slots (hand w.slots))) _ _ free) in
    stepped_same d u y begun s (ap returned rest)
    (end_step d u x es begun.frame_views e free begun.kept begun.seat ends)

-- a member is taken out
stepped_clear : (d : ℕ) (u : WorldState) (l : List Ending) → (frame_of (abstraction u) d).endings ≡ l → pending_call_of u d ≡ Clearing → HasBegun d u
    → IsClearingMember (frame_of (abstraction u) d).slots l → Onward d u (world_state_by d u (step_of d u))
stepped_clear d u [] e pending_call begun is = absurd is
stepped_clear d u (x ∷ es) e pending_call begun is =
    let w = frame_of (abstraction u) d in
    let ends = first_ends d u.ghost_state x es (subst (λ (l : List Ending). EndsAll d l u.ghost_state) e begun.ends) in
    let y = empties u.ghost_state w x es in
    let s : step_of d u ≡ Some y = ap (λ (h : PendingCall). step_at u.ghost_state d h w) pending_call ∙ ap (emptied u.ghost_state w) e in
    stepped_same d u y begun s (ap returned pending_call)
    (take_step d u x es begun.frame_views e is.1 is.0 begun.kept begun.seat ends (let n = begun.some in omega (arith, n)))

-- a step of the rest of an act
stepped_rest : (d : ℕ) (u : WorldState) (h : PendingCall) → pending_call_of u d ≡ h → HasBegun d u
    → (is_returning h || is_refilling h || is_clearing h || is_ending u d) ≡ true → Onward d u (world_state_by d u (step_of d u))
stepped_rest d u (Returning kind b f k) e begun is = stepped_back d u kind b f k e begun
stepped_rest d u (Refill stage c x k) e begun is = stepped_refill d u stage c x k e begun
stepped_rest d u Clearing e begun is =
    let w = frame_of (abstraction u) d in
    stepped_clear d u w.endings refl e begun (subst (λ (h : PendingCall). IsTried h w) e begun.tried)
stepped_rest d u Rest e begun is =
    stepped_end d u (frame_of (abstraction u) d).endings refl begun is (ap is_returning e) (ap is_refilling e) (ap is_clearing e)
stepped_rest d u (Making b i f) e begun is =
    stepped_end d u (frame_of (abstraction u) d).endings refl begun is (ap is_returning e) (ap is_refilling e) (ap is_clearing e)
stepped_rest d u (Locking word) e begun is =
    stepped_end d u (frame_of (abstraction u) d).endings refl begun is (ap is_returning e) (ap is_refilling e) (ap is_clearing e)
stepped_rest d u (Giving i kind x) e begun is =
    stepped_end d u (frame_of (abstraction u) d).endings refl begun is (ap is_returning e) (ap is_refilling e) (ap is_clearing e)
stepped_rest d u Brought e begun is =
    stepped_end d u (frame_of (abstraction u) d).endings refl begun is (ap is_returning e) (ap is_refilling e) (ap is_clearing e)
stepped_rest d u (Saw x) e begun is =
    stepped_end d u (frame_of (abstraction u) d).endings refl begun is (ap is_returning e) (ap is_refilling e) (ap is_clearing e)
stepped_rest d u (Matched x) e begun is =
    stepped_end d u (frame_of (abstraction u) d).endings refl begun is (ap is_returning e) (ap is_refilling e) (ap is_clearing e)

pub on_step : (d : ℕ) (u v v' : WorldState) (r : Stepped) → IsOn d u v → HasBegun d v → has_rest v d ≡ true → Steps d v r v'
    → length v'.frame_views ≡ length v.frame_views → Advances d v r v' → IsOn d u v'
on_step d u v v' r on begun is steps actors advances =
    let all : GoesTo d u v' = more_steps d u v v' on.goes (one_step d v v' r advances) in
    let s = stepped_rest d v (pending_call_of v d) refl begun is in
    let h = pending_call_of (world_state_by d v (step_of d v)) d in
    subst (λ (w : WorldState). length w.frame_views ≡ length v.frame_views → GoesTo d u w → IsOn d u w) (sym steps.1)
    (λ same goes. record {
      abstraction = s.0 ∙ on.abstraction;
      pending_call = s.1 ∙ on.pending_call;
      pending_calls = s.2 ∙ ap (λ (l : List PendingCall). set l d h) on.pending_calls ∙ set-set u.pending_calls d (pending_call_of v d) h;
      actors = same ∙ on.actors;
      goes = goes;
    }) actors all

-- a thread with a rest isn't at its end
pub rest_first : (d : ℕ) (u : WorldState) → has_rest u d ≡ true → IsOver d u → ⊥
rest_first d u is over =
    let w = frame_of (abstraction u) d in
    false≢true
    (sym (ap (λ (h : PendingCall). is_returning h || is_refilling h || is_clearing h || is_ending u d) over.pending_call
    ∙ ap (λ (es : List Ending). is_some (first_of es) && not (is_full (slot_pointer w.slots (hand w.slots)))) over.endings) ∙ is)

rested_by : (w : FrameView) (l : List Ending) → w.endings ≡ l
    → (is_some (first_of l) && not (is_full (slot_pointer w.slots (hand w.slots)))) ≡ false → IsRested w
rested_by w [] e is = inl e
rested_by w (x ∷ es) e is = inr (some_full (is_full (slot_pointer w.slots (hand w.slots))) is)
  where
    some_full : (b : Bool) → (true && not b) ≡ false → b ≡ true
    some_full true is = refl
    some_full false is = absurd (false≢true (sym is))

-- no object ends, or what came out of a member is in hand
pub ended : (d : ℕ) (v : WorldState) → is_ending v d ≡ false → IsRested (frame_of (abstraction v) d)
ended d v is = let w = frame_of (abstraction v) d in rested_by w w.endings refl is

pub carried : (d : ℕ) (v : WorldState) (e : Ending) (es : List Ending) → is_ending v d ≡ false → (frame_of (abstraction v) d).endings ≡ e ∷ es
    → let w = frame_of (abstraction v) d in is_full (slot_pointer w.slots (hand w.slots)) ≡ true
carried d v e es is at =
    let w = frame_of (abstraction v) d in
    ⊎_elim (λ (none : w.endings ≡ []). absurd (some_none (sym at ∙ none)))
    (λ (full : is_full (slot_pointer w.slots (hand w.slots)) ≡ true). full) (ended d v is)
  where
    some_none : (e ∷ es) ≡ [] → ⊥
    some_none q = cc

or_none : (a b : Bool) → (a || b) ≡ false → (a ≡ false) × (b ≡ false)
or_none true b e = absurd (false≢true (sym e))
or_none false b e = (refl, e)

-- nothing is left: no funds to give back or to put back, no member to take out, and no ending that goes on
pub none_left : (d : ℕ) (u : WorldState) → has_rest u d ≡ false
    → (is_returning (pending_call_of u d) ≡ false) × (is_refilling (pending_call_of u d) ≡ false) × (is_clearing (pending_call_of u d) ≡ false) ×
    (is_ending u d ≡ false)
none_left d u is =
    let h = pending_call_of u d in
    let p = or_none (is_returning h || is_refilling h || is_clearing h) (is_ending u d) is in
    let q = or_none (is_returning h || is_refilling h) (is_clearing h) p.0 in
    let r = or_none (is_returning h) (is_refilling h) q.0 in (r.0, r.1, q.1, p.1)
