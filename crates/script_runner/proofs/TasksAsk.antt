-- How many objects a script asks for: no more than it has calls.
use Rattle.std.proofs.Common.{◌≡◌, ℕ, zero, suc, ◌+◌, ◌<◌, ◌≤◌, List, [], ◌∷◌, ◌++◌, map, length}
use Rattle.std.proofs.Common.{get_or, take, replicate, sym, refl, ap, ◌∙◌, arith, length-take-le}
use Rattle.script_runner.proofs.Prelude.{Act, Actor, acts, asked_by_all, asked_by_calls, asked_in}
use Rattle.script_runner.proofs.Prelude.{call_count, clearing, map_more, Name, numbered_tasks}
use Rattle.script_runner.proofs.Prelude.{Part, part_of, sum_by-cons, take_more, Task, tasks_from}
use Rattle.std.proofs.lemmas.List.{take-map}
use Rattle.std.proofs.lemmas.List.Sums.{sum_by-take-le}
use Rattle.script_runner.specs.Assignments.{asked_by}
use Rattle.step_threads.specs.declared.programs.act.Act.TheVariants as act
use Rattle.step_threads.specs.declared.programs.act.ShelfAct.TheVariants as shelf
use Rattle.step_threads.specs.declared.programs.call.Call.{Call}
use Rattle.step_threads.specs.declared.programs.call.Call.TheVariants as call

-- the tasks of a thread ask for what its calls ask for
numbered_ask : (k : ℕ) (xs : List Act) (ts : List Task) → asked_in (numbered_tasks k xs ++ ts) ≡ asked_by xs + asked_in ts
numbered_ask k [] ts = omega arith
numbered_ask k (a ∷ rest) ts = let ih = numbered_ask k rest ts in omega (arith, ih)

clearing_asks : (n : ℕ) → asked_in (clearing n) ≡ 0
clearing_asks zero = refl
clearing_asks (suc n) = let ih = clearing_asks n in omega (arith, ih)

pub tasks_ask : (k : ℕ) (calls : List Call) (n : ℕ) → asked_in (tasks_from k calls n) ≡ asked_by_calls calls
tasks_ask k [] n = clearing_asks n
tasks_ask k (c ∷ calls) n =
    let here = numbered_ask k (acts c) (tasks_from (k + 1) calls n) in let ih = tasks_ask (k + 1) calls n in omega (arith, here, ih)

-- a call asks for one at most
pub shelves_ask : (n : ℕ) → asked_by (replicate n (act.OnShelf shelf.Shelve)) ≡ 0
shelves_ask zero = refl
shelves_ask (suc n) = let ih = shelves_ask n in omega (arith, ih)

pub call_asks : (c : Call) → asked_by (acts c) ≤ 1
call_asks (call.Shelve n) = let none = shelves_ask n in omega (arith, none)
call_asks _ = omega arith

-- and none if it makes none
pub none_asked : (c : Call) → ((x : Name) (l : List ℕ) → c ≡ call.Make x l → ⊥) → ((x : Name) (l : List ℕ) → c ≡ call.MakeThis x l → ⊥)
    → ((x : Name) → c ≡ call.Null x → ⊥) → 0 ≡ asked_by (acts c)
none_asked (call.Make x l) f g h = absurd (f x l refl)
none_asked (call.MakeThis x l) f g h = absurd (g x l refl)
none_asked (call.Null x) f g h = absurd (h x refl)
none_asked (call.Shelve n) f g h = sym (shelves_ask n)
none_asked _ f g h = refl

pub calls_ask : (calls : List Call) → asked_by_calls calls ≤ length calls
calls_ask [] = omega arith
calls_ask (c ∷ calls) = let here = call_asks c in let ih = calls_ask calls in omega (arith, here, ih)

pub all_ask : (ps : List Part) → asked_by_all ps ≤ call_count ps
all_ask [] = omega arith
all_ask (p ∷ ps) =
    let here = calls_ask p.calls in
    let ih = all_ask ps in
    let both = sum_by-cons (λ (q : Part). length q.calls) p ps in omega (arith, here, ih, both)

-- one more of the calls, and of the threads
calls_append : (xs ys : List Call) → asked_by_calls (xs ++ ys) ≡ asked_by_calls xs + asked_by_calls ys
calls_append [] ys = omega arith
calls_append (x ∷ xs) ys = let ih = calls_append xs ys in omega (arith, ih)

all_append : (xs ys : List Part) → asked_by_all (xs ++ ys) ≡ asked_by_all xs + asked_by_all ys
all_append [] ys = omega arith
all_append (x ∷ xs) ys = let ih = all_append xs ys in omega (arith, ih)

module _ (calls : List Call) (i n : ℕ) (all : n ≡ asked_by_calls (take i calls)) where
  -- no more than there are calls
  pub calls_few : i ≤ length calls → n ≤ i
  calls_few le = let a = calls_ask (take i calls) in let b = length-take-le i calls le in let c = all in omega (arith, a, b, c)

  pub calls_then : (r : ℕ) (d : Call) → i < length calls → r ≡ asked_by (acts (get_or calls i d))
      → n + r ≡ asked_by_calls (take (i + 1) calls)
  calls_then r d lt is =
      let next = ap asked_by_calls (take_more calls i d lt) ∙ calls_append (take i calls) (get_or calls i d ∷ []) in
      let c = all in omega (arith, next, is, c)

module _ (actors : List Actor) where
  -- of some of the threads they are as few as of all
  pub some_ask : (i n : ℕ) → call_count (map part_of actors) ≤ 65536 → n ≡ asked_by_all (map part_of (take i actors)) → n ≤ 65536
  some_ask i n few is =
      let a = all_ask (map part_of (take i actors)) in
      let b = sum_by-take-le (λ (q : Part). length q.calls) (map part_of actors) i in
      let c : call_count (take i (map part_of actors)) ≡ call_count (map part_of (take i actors)) = ap call_count (take-map part_of i actors) in
      omega (arith, a, b, c, few, is)

  pub actors_then : (i n r : ℕ) (d : Actor) (calls : List Call) → i < length actors → n ≡ asked_by_all (map part_of (take i actors))
      → r ≡ asked_by_calls calls → calls ≡ (get_or actors i d).calls.items → n + r ≡ asked_by_all (map part_of (take (i + 1) actors))
  actors_then i n r d calls lt all is at =
      let next = ap asked_by_all (map_more part_of actors i d lt) ∙ all_append (map part_of (take i actors)) (part_of (get_or actors i d) ∷ []) in
      let here : asked_by_calls calls ≡ asked_by_calls (get_or actors i d).calls.items = ap asked_by_calls at in
      omega (arith, next, here, is, all)
