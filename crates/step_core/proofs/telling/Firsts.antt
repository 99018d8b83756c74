-- What a thread's names hold at its start is left by its tasks.
use Rattle.std.proofs.Common.{◌≡◌, ℕ, zero, suc, ◌+◌, ◌<◌, ◌≢◌, List, [], ◌∷◌, ◌++◌, map, length}
use Rattle.std.proofs.Common.{get_or, replicate, sym, refl, ap, subst, inl, inr, ⊎_elim, arith}
use Rattle.step_core.proofs.Prelude.{Act, Call, cases_eq, Clear, clearing, first_frame, IsTidy}
use Rattle.step_core.proofs.Prelude.{LeavesAll, LeavesName, no_slots, nowhere, numbered_tasks}
use Rattle.step_core.proofs.Prelude.{Part, plain, pointer_of, Task, tasks_from}
use Rattle.step_threads.specs.Acts.{acts as acts_of}
use Rattle.step_core.proofs.telling.Tidying.{fresh_tidy}

leaves_clearing : (n i : ℕ) → i < n → LeavesName i (clearing n)
leaves_clearing zero i lt = absurd (omega (arith, lt))
leaves_clearing (suc n) i lt =
    ⊎_elim (λ (e : i ≡ n). inl (ap Clear (sym e))) (λ (ne : i ≢ n). inr (leaves_clearing n i (omega (arith, lt, ne))))
    (cases_eq i n)

clearing_all : (m n : ℕ) → LeavesAll m (clearing n)
clearing_all m zero = tt
clearing_all m (suc n) = (inl (n, refl), clearing_all m n)

numbered_leaves : (k : ℕ) (l : List Act) (ts : List Task) (i : ℕ) → LeavesName i ts → LeavesName i (numbered_tasks k l ++ ts)
numbered_leaves k [] ts i left = left
numbered_leaves k (a ∷ rest) ts i left = inr (numbered_leaves k rest ts i left)

numbered_all : (m k : ℕ) (l : List Act) (ts : List Task) → ((i : ℕ) → i < m → LeavesName i ts) → LeavesAll m ts
    → LeavesAll m (numbered_tasks k l ++ ts)
numbered_all m k [] ts left all = all
numbered_all m k (a ∷ rest) ts left all =
    (inr (λ i lt. numbered_leaves k rest ts i (left i lt)), numbered_all m k rest ts left all)

tasks_leave : (k : ℕ) (calls : List Call) (n i : ℕ) → i < n → LeavesName i (tasks_from k calls n)
tasks_leave k [] n i lt = leaves_clearing n i lt
tasks_leave k (c ∷ cs) n i lt =
    numbered_leaves k (acts_of c) (tasks_from (k + 1) cs n) i (tasks_leave (k + 1) cs n i lt)

tasks_all : (k : ℕ) (calls : List Call) (n : ℕ) → LeavesAll n (tasks_from k calls n)
tasks_all k [] n = clearing_all n n
tasks_all k (c ∷ cs) n =
    numbered_all n k (acts_of c) (tasks_from (k + 1) cs n) (λ i lt. tasks_leave (k + 1) cs n i lt)
    (tasks_all (k + 1) cs n)

plain_at : (m i : ℕ) → get_or (replicate m plain) i plain ≡ plain
plain_at zero i = refl
plain_at (suc m) zero = refl
plain_at (suc m) (suc i) = plain_at m i

plain_size : (m : ℕ) → length (replicate m plain) ≡ m
plain_size zero = refl
plain_size (suc m) = let i = plain_size m in omega (arith, i)

first_tidy : (part : Part) → IsTidy (first_frame part)
first_tidy part =
    let n = length part.kinds in
    let size = plain_size (n + 2) in
    fresh_tidy (no_slots n) (tasks_from 1 part.calls n) (λ i. ap pointer_of (plain_at (n + 2) i))
    (subst (λ (m : ℕ). LeavesAll m (tasks_from 1 part.calls n)) (omega (arith, size)) (tasks_all 1 part.calls n))

-- each thread of a program
pub tidy_first : (parts : List Part) (d : ℕ) → IsTidy (get_or (map first_frame parts) d nowhere)
tidy_first [] d = record { names = λ i lt full. absurd (omega (arith, lt)); all = tt }
tidy_first (p ∷ ps) zero = first_tidy p
tidy_first (p ∷ ps) (suc d) = tidy_first ps d
