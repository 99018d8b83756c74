-- What the steps of a make add to the totals, and what they take from the tasks that are left.
use Rattle.std.proofs.Common.{◌≡◌, ℕ, suc, ◌+◌, Bool, true, false, cond, List, [], ◌∷◌, get_or}
use Rattle.std.proofs.Common.{◌==◌, Some, ap, arith}
use Rattle.step_core.proofs.Prelude.{Block, claims, cond_both, Ending, Form, form_of}
use Rattle.step_core.proofs.Prelude.{frame_settled, frame_steps, FrameView, GhostState, holding}
use Rattle.step_core.proofs.Prelude.{IsUnderWay, known_words, made_in, made_on, Make, Making}
use Rattle.step_core.proofs.Prelude.{pending, prepares, Step, Task, wanted, weight}
use Rattle.step_core.proofs.telling.Walking.{settled_alone, frame_alone}
use Rattle.step_core.proofs.telling.AtomicSteps.{IsCounted, plus_none}

made_one : (v : GhostState) (d i k : ℕ) (w : FrameView) (t : Task) (ts : List Task) (b : Block) (f : Bool) (form : Form) → (i == 5) ≡ true
    → t.act ≡ Make form → w.endings ≡ [] → w.todo ≡ t ∷ ts → IsCounted v d (Making b i f) w (Some (claims w k ts b form))
made_one v d i k w t ts b f form e same none is =
    let c : ◌≡◌ {A = ℕ} (cond (i == 5) 1 0) 1 = ap (λ (z : Bool). cond z 1 0) e in
    let m : suc (made_in v.history) ≡ made_in v.history + cond (i == 5) 1 0 = omega (arith, c) in
    let x = holding w.slots form.null (Some b.0) in
    let l = settled_alone x.0 x.1 ts in
    let n : frame_steps (frame_settled x.0 x.1 w.endings ts) ≡ frame_steps (frame_settled x.0 x.1 [] ts) =
    ap (λ (es : List Ending). frame_steps (frame_settled x.0 x.1 es ts)) none in
    let a = frame_alone w t ts none is in
    let g : weight t.act ≡ 28 = ap weight same in
    record { made = m; ended = plus_none _; few = omega (arith, c, l, n, a, g) }

prepared_one : (v : GhostState) (d k found want i : ℕ) (w : FrameView) (b : Block) (f : Bool)
    → IsCounted v d (Making b i f) w (Some (prepares found want w k b i f))
prepared_one v d k found want i w b true = record { made = plus_none _; ended = plus_none _; few = omega arith }
prepared_one v d k found want i w b false = record { made = plus_none _; ended = plus_none _; few = omega arith }

pub counted_make : (v : GhostState) (d i : ℕ) (w : FrameView) (b : Block) (f : Bool) (ts : List Task) → w.todo ≡ ts → w.endings ≡ []
    → IsUnderWay d v (Making b i f) ts → IsCounted v d (Making b i f) w (made_on v d w b i f ts)
counted_make v d i w b f [] is none way = absurd way
counted_make v d i w b f (t ∷ ts) is none way =
    let found = get_or (known_words (pending v d)) i 0 in let want = get_or (wanted (form_of t.act)) i 0 in
    cond_both (i == 5) (claims w t.statement ts b (form_of t.act)) (prepares found want w t.statement b i f)
    (λ (x : Step). IsCounted v d (Making b i f) w (Some x)) (λ e. made_one v d i t.statement w t ts b f (form_of t.act) e way.2 none is)
    (λ e. prepared_one v d t.statement found want i w b f)
