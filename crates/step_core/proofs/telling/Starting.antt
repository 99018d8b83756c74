-- What a world keeps, at its start.
use Rattle.std.proofs.Common.{◌≡◌, ℕ, zero, suc, ◌+◌, ◌*◌, ◌≤◌, false, List, [], ◌∷◌, ◌++◌, map}
use Rattle.std.proofs.Common.{length, get_or, replicate, slice_index, All, sym, refl, ap, ◌∙◌}
use Rattle.std.proofs.Common.{subst, arith}
use Rattle.step_core.proofs.Prelude.{Act, acts, All-head, All-tail, Call, call_count, clearing}
use Rattle.step_core.proofs.Prelude.{ending, Extent, first_frame, first_ghost, frame_steps}
use Rattle.step_core.proofs.Prelude.{FrameView, HasFields, IsPart, IsTidy, left_to_do, length-map}
use Rattle.step_core.proofs.Prelude.{no_slots, nowhere, numbered_tasks, Part, sum_by-cons, Task}
use Rattle.step_core.proofs.Prelude.{task_steps, tasks_from, Thread, thread_frame, thread_pending}
use Rattle.step_core.proofs.Prelude.{TotalsAreTold, unmade, weight, world_state}
use Rattle.control_word.specs.Layout.{table_size}
use Rattle.step_threads.specs.declared.programs.act.Act.TheVariants as act
use Rattle.step_threads.specs.declared.programs.act.ShelfAct.TheVariants as shelf
use Rattle.step_threads.specs.declared.programs.call.Call.TheVariants as call
use Rattle.step_threads.specs.Programs.{IsProgram}
use Rattle.step_core.specs.Starts.{AllHaveFields}
use Rattle.step_core.proofs.watching.Worlds.{watched_start}
use Rattle.step_core.proofs.telling.Firsts.{tidy_first}
use Rattle.step_core.proofs.telling.Walking.{settled_alone}

clearing_steps : (n : ℕ) → task_steps (clearing n) ≡ 2 * n
clearing_steps zero = refl
clearing_steps (suc n) =
    let i = clearing_steps n in
    let a = sum_by-cons (λ (t : Task). weight t.act) (record { statement = 0; act = act.Clear n }) (clearing n) in
    omega (arith, i, a)

-- a statement is a few acts, of which one may be a make
abbrev act_steps : List Act → ℕ
act_steps [] = 0
act_steps (a ∷ rest) = weight a + act_steps rest

numbered_steps : (k : ℕ) (l : List Act) (ts : List Task) → task_steps (numbered_tasks k l ++ ts) ≡ act_steps l + task_steps ts
numbered_steps k [] ts = omega arith
numbered_steps k (a ∷ rest) ts =
    let i = numbered_steps k rest ts in
    let b = sum_by-cons (λ (t : Task). weight t.act) (record { statement = k; act = a }) (numbered_tasks k rest ++ ts) in
    omega (arith, i, b)

many_steps : (n : ℕ) → act_steps (replicate n (act.OnShelf shelf.Shelve)) ≡ 2 * n
many_steps zero = refl
many_steps (suc n) = let i = many_steps n in omega (arith, i)

call_steps : (c : Call) → HasFields c → act_steps (acts c) ≤ 131070
call_steps (call.Make t f) few = omega arith
call_steps (call.Empty t) few = omega arith
call_steps (call.Reset t) few = omega arith
call_steps (call.Copy t s) few = omega arith
call_steps (call.Count t) few = omega arith
call_steps (call.Weak t s) few = omega arith
call_steps (call.WeakCopy t s) few = omega arith
call_steps (call.WeakEmpty t) few = omega arith
call_steps (call.WeakReset t) few = omega arith
call_steps (call.Lock t s) few = omega arith
call_steps (call.Upgrade t s) few = omega arith
call_steps (call.WeakCount t) few = omega arith
call_steps (call.Expired t) few = omega arith
call_steps (call.MakeThis t f) few = omega arith
call_steps (call.Null t) few = omega arith
call_steps (call.Move t s) few = omega arith
call_steps (call.Alias t s o f) few = omega arith
call_steps (call.AliasNull t s) few = omega arith
call_steps (call.This t s) few = omega arith
call_steps (call.WeakThis t s) few = omega arith
call_steps (call.Read t) few = omega arith
call_steps (call.Place t) few = omega arith
call_steps (call.Same t s) few = omega arith
call_steps (call.Before t s) few = omega arith
call_steps (call.Store c s) few = omega arith
call_steps (call.Exchange c n) few = omega arith
call_steps (call.Holds c n) few = omega arith
call_steps (call.Load t c) few = omega arith
call_steps (call.Compare c x y b) few = omega arith
call_steps (call.Shelve n) few = let m = many_steps n in omega (arith, m, few)
call_steps (call.Unshelve b) few = omega arith

all_steps : (k : ℕ) (calls : List Call) (n : ℕ) → All HasFields calls → task_steps (tasks_from k calls n) ≤ 131070 * length calls + 2 * n
all_steps k [] n all = let i = clearing_steps n in omega (arith, i)
all_steps k (c ∷ cs) n all =
    let i = all_steps (k + 1) cs n (All-tail HasFields c cs all) in
    let a = numbered_steps k (acts c) (tasks_from (k + 1) cs n) in
    let b = call_steps c (All-head HasFields c cs all) in
    omega (arith, i, a, b)

first_left : (part : Part) → IsPart part → All HasFields part.calls → frame_steps (first_frame part) ≤ 131070 * length part.calls + 64
first_left part fine fields =
    let s = settled_alone (no_slots (length part.kinds)) false (tasks_from 1 part.calls (length part.kinds)) in
    let t = all_steps 1 part.calls (length part.kinds) fields in
    let f = fine.few in
    omega (arith, s, t, f)

all_left : (parts : List Part) → All IsPart parts → AllHaveFields parts
    → left_to_do (map first_frame parts) ≤ 131070 * call_count parts + 64 * length parts
all_left [] all fields = omega arith
all_left (p ∷ ps) all fields =
    let f = first_left p (All-head IsPart p ps all) (All-head (λ (part : Part). All HasFields part.calls) p ps fields) in
    let i = all_left ps (All-tail IsPart p ps all) (All-tail (λ (part : Part). All HasFields part.calls) p ps fields) in
    let a = sum_by-cons frame_steps (first_frame p) (map first_frame ps) in
    let b = sum_by-cons (λ (q : Part). length q.calls) p ps in
    omega (arith, f, i, a, b)

not_ending : (e : ℕ) → unmade ≡ ending e → ⊥
not_ending e p = cc

-- no fund of a cell is taken
zero_at : (n i : ℕ) → slice_index (replicate n 0) i ≡ 0
zero_at zero i = refl
zero_at (suc n) zero = refl
zero_at (suc n) (suc i) = zero_at n i

pub told_start : (x : Extent) (parts : List Part) (threads : List Thread) → x.actors ≡ length parts → IsProgram parts → AllHaveFields parts
    → map thread_frame threads ≡ map first_frame parts → TotalsAreTold (world_state (first_ghost x) threads) 0 0
told_start x parts threads size fine fields frame_views =
    let l = length-map threads thread_frame in
    let k = length-map threads thread_pending in
    let n : length (map thread_frame threads) ≡ length parts = ap (λ (ws : List FrameView). length ws) frame_views ∙ length-map parts first_frame in
    let a = all_left parts fine.each fields in
    let calls = fine.calls in
    let actors = fine.actors in
    let same : left_to_do (map thread_frame threads) ≡ left_to_do (map first_frame parts) = ap left_to_do frame_views in
    record {
      threads = n ∙ sym size;
      pending_calls = k ∙ sym l;
      made = refl;
      ended = refl;
      order = omega arith;
      few = omega (arith, same, a, calls, actors);
      endings = λ o e p. absurd (not_ending e p);
      watched = watched_start (first_ghost x) (map thread_pending threads) (zero_at (table_size x.shape));
      tidy = λ d. subst (λ (ws : List FrameView). IsTidy (get_or ws d nowhere)) (sym frame_views) (tidy_first parts d);
    }
