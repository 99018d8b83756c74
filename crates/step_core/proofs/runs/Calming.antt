-- Once each thread has finished the call that owed funds, nobody owes any.
use Rattle.std.proofs.Common.{◌≡◌, ℕ, zero, suc, ◌<◌, ◌≤◌, Bool, true, false, ◌≢◌, ◌⊎◌, List, []}
use Rattle.std.proofs.Common.{◌∷◌, length, sym, refl, ap, ◌∙◌, subst, inl, inr, ⊎_elim, arith}
use Rattle.step_core.proofs.Prelude.{abstraction, AllRestIdle, call_under_way, CallsOn, cases_eq}
use Rattle.step_core.proofs.Prelude.{cases_lt, frame_of, get_or_past, is_owing, is_paying}
use Rattle.step_core.proofs.Prelude.{NonePays, pending_call_of, Rest, SettleInOrder, Settles}
use Rattle.step_core.proofs.Prelude.{step_of, TraceStep, WorldState}
use Rattle.step_core.proofs.runs.Calls.{rests}
use Rattle.step_core.proofs.turning.Telling.{step_stays}

-- thread e has begun nothing, or its desk's half-done call owes nothing
abbrev IsCalm : WorldState → ℕ → Type 0
IsCalm u e = (pending_call_of u e ≡ Rest) ⊎ (is_owing u e ≡ false)

-- no thread has a call that owes anything
abbrev pub AllCalm : ℕ → WorldState → Type 0
AllCalm n u = (e : ℕ) → e < n → IsCalm u e

pub none_pays : (u : WorldState) → AllRestIdle u → AllCalm (length u.pending_calls) u → NonePays u
none_pays u idle calm e =
    ⊎_elim (λ (rests : pending_call_of u e ≡ Rest). ap is_paying (idle e rests)) (λ (f : is_owing u e ≡ false). f)
    (⊎_elim (λ (lt : e < length u.pending_calls). calm e lt)
    (λ (le : length u.pending_calls ≤ e). inl (get_or_past u.pending_calls e Rest le)) (cases_lt e (length u.pending_calls)))

-- what thread e has begun, and what its desk owes, is as it was
abbrev Stays : ℕ → WorldState → WorldState → Type 0
Stays e u u' = (pending_call_of u' e ≡ pending_call_of u e) × (is_owing u' e ≡ is_owing u e)

-- a thread that goes on with its call leaves the others as they were
calls_stay : (k d e : ℕ) (u u' : WorldState) (xs : List TraceStep) → e ≢ d → CallsOn k d u xs u' → Stays e u u'
calls_stay k d e u u' [] ne on = (ap (λ (w : WorldState). pending_call_of w e) on, ap (λ (w : WorldState). is_owing w e) on)
calls_stay k d e u u' (x ∷ xs) ne on =
    let after = calls_stay k d e on.2 u' xs ne on.4 in
    let same = ap (λ (w : WorldState). is_owing w e) on.3.steps.1 ∙ ap is_paying (step_stays d u.ghost_state (step_of d u) e ne) in
    (after.0 ∙ on.3.takes.pending_calls e ne, after.1 ∙ same)

-- a thread whose call is done, or that owed nothing
settled_calm : (d : ℕ) (u u' : WorldState) (xs : List TraceStep) → Settles d u xs u' → IsCalm u' d
settled_calm d u u' xs settles = go (is_owing u d) refl
  where
    go : (b : Bool) → is_owing u d ≡ b → IsCalm u' d
    go true is = inl (rests (call_under_way d u) (pending_call_of u' d) (frame_of (abstraction u') d) (settles.owing is).done)
    go false is = inr (ap (λ (w : WorldState). is_owing w d) (settles.none is).1 ∙ is)

settled_stay : (d e : ℕ) (u u' : WorldState) (xs : List TraceStep) → e ≢ d → Settles d u xs u' → Stays e u u'
settled_stay d e u u' xs ne settles = go (is_owing u d) refl
  where
    go : (b : Bool) → is_owing u d ≡ b → Stays e u u'
    go true is = calls_stay (call_under_way d u) d e u u' xs ne (settles.owing is).calls
    go false is = (ap (λ (w : WorldState). pending_call_of w e) (settles.none is).1, ap (λ (w : WorldState). is_owing w e) (settles.none is).1)

calm_stays : (e : ℕ) (u u' : WorldState) → Stays e u u' → IsCalm u e → IsCalm u' e
calm_stays e u u' same (inl rests) = inl (same.0 ∙ rests)
calm_stays e u u' same (inr none) = inr (same.1 ∙ none)

pub all_calm : (n : ℕ) (u u' : WorldState) (xs : List TraceStep) → SettleInOrder n u xs u' → AllCalm n u'
all_calm zero u u' xs runs e lt = absurd (omega (arith, lt))
all_calm (suc n) u u' xs runs e lt =
    let mine = runs.5 in
    ⊎_elim (λ (is : e ≡ n). subst (IsCalm u') (sym is) (settled_calm n runs.2 u' runs.1 mine))
    (λ (ne : e ≢ n). calm_stays e runs.2 u' (settled_stay n e runs.2 u' runs.1 ne mine)
    (all_calm n u runs.2 runs.0 runs.4 e (omega (arith, lt, ne)))) (cases_eq e n)
