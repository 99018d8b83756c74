-- What has come to its end stays there.
use Rattle.std.proofs.Common.{◌≡◌, ℕ, zero, suc, ◌+◌, ◌-◌, ◌<◌, ◌≢◌, List, [], ◌∷◌, length, None}
use Rattle.std.proofs.Common.{All, sym, ap, ◌∙◌, subst, ⊎_elim, arith, get_or-set_other}
use Rattle.step_core.proofs.Prelude.{abstraction, All-head, All-tail, cases_eq, frame_by, frame_of}
use Rattle.step_core.proofs.Prelude.{FrameView, IsAtEnd, IsOver, IsRun, IsStepOf, nowhere, other}
use Rattle.step_core.proofs.Prelude.{pending_call_by, pending_call_of, PendingCall, Rest}
use Rattle.step_core.proofs.Prelude.{RunInOrder, slot_pointer, step_of, Stepped, Steps, TraceStep}
use Rattle.step_core.proofs.Prelude.{WorldState}
use Rattle.std.proofs.lemmas.List.Elements.{All-from_get_or}

-- a step of another thread
still_over : (d e : ℕ) (u u' : WorldState) (r : Stepped) → e ≢ d → Steps d u r u' → IsOver e u → IsOver e u'
still_over d e u u' r ne steps over =
    let x = step_of d u in
    subst (λ (w : WorldState). IsOver e w) (sym steps.1) (record {
      frame_view = ap (λ (w : FrameView). w.todo) (get_or-set_other u.frame_views d e (frame_by (frame_of (abstraction u) d) x) nowhere ne) ∙ over.frame_view;
      endings = ap (λ (w : FrameView). w.endings) (get_or-set_other u.frame_views d e (frame_by (frame_of (abstraction u) d) x) nowhere ne) ∙ over.endings;
      pending_call = get_or-set_other u.pending_calls d e (pending_call_by (pending_call_of u d) x) Rest ne ∙ over.pending_call;
      names = subst (λ (w : FrameView). (i : ℕ) → i < other w.slots → slot_pointer w.slots i ≡ None)
          (sym (get_or-set_other u.frame_views d e (frame_by (frame_of (abstraction u) d) x) nowhere ne)) over.names;
    })

same_number : (d n : ℕ) → n ≡ d + 1 → n - 1 ≡ d
same_number d n e = omega (arith, e)

-- steps of another thread
all_still : (d e : ℕ) (u u' : WorldState) (xs : List TraceStep) → e ≢ d → IsRun u xs u' → All (IsStepOf d) xs → IsOver e u → IsOver e u'
all_still d e u u' [] ne run all over = subst (λ (w : WorldState). IsOver e w) (sym run) over
all_still d e u u' (x ∷ xs) ne run all over =
    let a = All-head (IsStepOf d) x xs all in
    let s = subst (λ (n : ℕ). Steps n u x.stepped run.0) (same_number d x.actor a.0) run.1.steps in
    all_still d e run.0 u' xs ne run.2 (All-tail (IsStepOf d) x xs all) (still_over d e u run.0 x.stepped ne s over)

-- after the runs of the first n threads these are at their ends
pub all_over : (n : ℕ) (u u' : WorldState) (xs : List TraceStep) → RunInOrder n u xs u' → (e : ℕ) → e < n → IsOver e u'
all_over zero u u' xs runs e lt = absurd (omega (arith, lt))
all_over (suc n) u u' xs runs e lt =
    let mine = runs.5 in
    ⊎_elim (λ (is : e ≡ n). subst (λ (i : ℕ). IsOver i u') (sym is) mine.over)
    (λ (ne : e ≢ n). all_still n e runs.2 u' runs.1 ne mine.run mine.alone (all_over n u runs.2 runs.0 runs.4 e (omega (arith, lt, ne)))) (cases_eq e n)

pub at_end : (n : ℕ) (u u' : WorldState) (xs : List TraceStep) → RunInOrder n u xs u' → length u'.frame_views ≡ n → length u'.pending_calls ≡ n → IsAtEnd u'
at_end n u u' xs runs frame_views pending_calls =
    record {
      frame_views = All-from_get_or (λ (w : FrameView). w.todo ≡ []) u'.frame_views nowhere
          (λ i lt. (all_over n u u' xs runs i (omega (arith, lt, frame_views))).frame_view);
      endings =
          All-from_get_or (λ (w : FrameView). w.endings ≡ []) u'.frame_views nowhere
          (λ i lt. (all_over n u u' xs runs i (omega (arith, lt, frame_views))).endings);
      pending_calls = All-from_get_or (λ (h : PendingCall). h ≡ Rest) u'.pending_calls Rest
          (λ i lt. (all_over n u u' xs runs i (omega (arith, lt, pending_calls))).pending_call);
    }
