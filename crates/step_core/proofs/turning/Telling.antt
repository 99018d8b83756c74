-- How counts are told in a turn.
use Rattle.std.proofs.Common.{◌≡◌, ℕ, Bool, true, false, ◌≢◌, ◌⊎◌, List, [], ◌∷◌, get_or, set}
use Rattle.std.proofs.Common.{Some, None, Option, sym, refl, ap, ◌∙◌, subst, inl, inr, ⊎_elim}
use Rattle.std.proofs.Common.{get_or-set_other}
use Rattle.step_core.proofs.Prelude
use Prelude.{abstraction, Act, AtomicStep, by_word, cond-false, cond-true, Count, CountsAll, exact}
use Prelude.{frame_of, ghost_after, ghost_by, GhostState, GoesTo, Handle, handle_of, HasBegun}
use Prelude.{Idle, is_loading, IsProperPendingCall, model_state, Nothing, NumberedHandle, owes}
use Prelude.{owned, Pending, pending, pending_call_of, PendingCall, reply_in, Rest, slot_pointer}
use Prelude.{Slots, spot, State, Step, step_of, Stepped, stepped, Steps, StepsBy, Telling, Waited}
use Prelude.{waits, WorldState}
use Rattle.step_table.proofs.holding.Counting.{tells}
use Rattle.step_table.proofs.holding.Keeping.{same_pending}
use Rattle.step_core.specs.Worlds.{NoneLoads, NoneLoadsIt}

-- a count is told by the word, and no other act tells any
abbrev pub tell_of : GhostState → Act → Telling
tell_of v (Count i) = by_word v
tell_of v _ = exact

-- so a step is replied as the act is
pub told_reply : (v : GhostState) (s : State) (d : ℕ) (slots : Slots) (a : Act) → reply_in (by_word v) s d slots a ≡ reply_in (tell_of v a) s d slots a
told_reply v s d slots (Count k) = refl
told_reply v s d slots _ = refl

count_or : (v : GhostState) (a : Act) → ((i : ℕ) × (a ≡ Count i)) ⊎ (tell_of v a ≡ exact)
count_or v (Count k) = inl (k, refl)
count_or v _ = inr refl

-- counts of what thread d has in its slots are told so, and leave no owner out where they are not to
abbrev pub TellsCounts : ℕ → WorldState → Telling → Type 0
TellsCounts d u tell =
    let s = model_state u.ghost_state in
    (i : ℕ) (x : Handle) → slot_pointer (frame_of (abstraction u) d).slots i ≡ Some x → CountsAll d u s (handle_of s x) → tell s x ≡ exact s x

pub exact_told : (d : ℕ) (u : WorldState) → TellsCounts d u exact
exact_told d u = λ i x e all. refl

-- at rest words tell counts
words_told : (d : ℕ) (u : WorldState) → HasBegun d u → pending_call_of u d ≡ Rest → TellsCounts d u (by_word u.ghost_state)
words_told d u begun rest =
    let w = frame_of (abstraction u) d in
    let idle : pending u.ghost_state d ≡ Idle = subst (λ (h : PendingCall). IsProperPendingCall d u.ghost_state h) rest begun.proper in
    λ i x e all.
    (tells d i w.slots x u.ghost_state begun.kept begun.seat idle begun.holds e).exactly
    (⊎_elim (λ (none : NoneLoads d u). λ (k : ℕ) (ne : k ≢ d). begun.others k ne (none k ne) (spot x.block.0 0))
    (λ (none : NoneLoadsIt d u (model_state u.ghost_state) (owned (model_state u.ghost_state) x)). none x.block.0 refl) all)

pub tells_rest : (d : ℕ) (u : WorldState) (a : Act) → HasBegun d u → pending_call_of u d ≡ Rest → TellsCounts d u (tell_of u.ghost_state a)
tells_rest d u a begun rest =
    ⊎_elim
    (λ (p : (i : ℕ) × (a ≡ Count i)). subst (λ (b : Act). TellsCounts d u (tell_of u.ghost_state b)) (sym p.1) (words_told d u begun rest))
    (λ (e : tell_of u.ghost_state a ≡ exact). subst (TellsCounts d u) (sym e) (exact_told d u))
    (count_or u.ghost_state a)

-- an act that is no count, as this tells
pub tells_unless : (d : ℕ) (u : WorldState) (P : Act → Type 0) (a : Act) → ((i : ℕ) → P (Count i) → ⊥) → P a
    → TellsCounts d u (tell_of u.ghost_state a)
tells_unless d u P a never is =
    ⊎_elim
    (λ (p : (i : ℕ) × (a ≡ Count i)). absurd (never p.0 (subst P p.1 is)))
    (λ (e : tell_of u.ghost_state a ≡ exact). subst (TellsCounts d u) (sym e) (exact_told d u))
    (count_or u.ghost_state a)

-- what others have half done stays through steps of a thread
abbrev OthersStay : ℕ → WorldState → WorldState → Type 0
OthersStay d u v = (e : ℕ) → e ≢ d → pending v.ghost_state e ≡ pending u.ghost_state e

atomic_step_stays : (d : ℕ) (v : GhostState) (x : Option AtomicStep) (e : ℕ) → e ≢ d → pending (ghost_after v d x) e ≡ pending v e
atomic_step_stays d v None e ne = refl
atomic_step_stays d v (Some x) e ne = same_pending v d e x (λ q. ne (sym q))

pub step_stays : (d : ℕ) (v : GhostState) (x : Option Step) (e : ℕ) → e ≢ d → pending (ghost_by v d x) e ≡ pending v e
step_stays d v None e ne = refl
step_stays d v (Some x) e ne = atomic_step_stays d v x.atomic_step e ne

goes_stays : (d : ℕ) (u v : WorldState) → GoesTo d u v → OthersStay d u v
goes_stays d u v goes = go goes.0 u goes.1
  where
    go : (rs : List Stepped) (a : WorldState) → StepsBy d a rs v → OthersStay d a v
    go [] a e = subst (λ (x : WorldState). OthersStay d a x) (sym e) (λ k ne. refl)
    go (r ∷ rs) a by =
        λ k ne. go rs by.0 by.2 k ne ∙ ap (λ (x : WorldState). pending x.ghost_state k) by.1.steps.1 ∙ step_stays d a.ghost_state (step_of d a) k ne

-- a count that is to be exact before steps of the thread's own is to be so after them
pub counts_on : (d : ℕ) (u v : WorldState) (h : PendingCall) → GoesTo d u v → v.pending_calls ≡ set u.pending_calls d h → (s : State) (x : NumberedHandle)
    → CountsAll d u s x → CountsAll d v s x
counts_on d u v h goes pending_calls s x (inl none) =
    inl (λ k ne. ap (λ (l : List PendingCall). is_loading (get_or l k Rest)) pending_calls
    ∙ ap is_loading (get_or-set_other u.pending_calls d k h Rest ne) ∙ none k ne)
counts_on d u v h goes pending_calls s x (inr none) =
    inr (λ b e k ne. ap (λ (p : Pending Nothing). owes p (spot b 0)) (goes_stays d u v goes k ne) ∙ none b e k ne)

-- a step that doesn't wait
pub awake : (d : ℕ) (u v : WorldState) (r : Stepped) → Steps d u r v → r ≢ Waited
    → (waits u.ghost_state (pending_call_of u d) (frame_of (abstraction u) d) ≡ false) × (r ≡ stepped u.ghost_state (step_of d u))
awake d u v r steps never = go (waits u.ghost_state (pending_call_of u d) (frame_of (abstraction u) d)) refl
  where
    go : (b : Bool) → waits u.ghost_state (pending_call_of u d) (frame_of (abstraction u) d) ≡ b
        → (waits u.ghost_state (pending_call_of u d) (frame_of (abstraction u) d) ≡ false) × (r ≡ stepped u.ghost_state (step_of d u))
    go true e = absurd (never
        (steps.0 ∙ cond-true (waits u.ghost_state (pending_call_of u d) (frame_of (abstraction u) d)) Waited (stepped u.ghost_state (step_of d u)) e))
    go false e = (
      e,
      steps.0 ∙ cond-false (waits u.ghost_state (pending_call_of u d) (frame_of (abstraction u) d)) Waited (stepped u.ghost_state (step_of d u))
          e,
    )
