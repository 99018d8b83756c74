-- A thread at its start fits the table.
use Rattle.std.proofs.Common.{◌≡◌, ℕ, zero, suc, ◌+◌, ◌<◌, ◌≤◌, false, List, [], ◌∷◌, ◌++◌, length}
use Rattle.std.proofs.Common.{get_or, replicate, slice_get, Some, None, All, Option, sym, refl, ap}
use Rattle.std.proofs.Common.{◌∙◌, subst, inl, arith}
use Rattle.step_core.proofs.Prelude
use Prelude.{acts, All-append, All-cons, All-head, All-nil, All-tail, Asked, Call, CellName}
use Prelude.{clearing, Ending, Extent, first_ghost, full, GhostState, hand, HasCell, HasCells}
use Prelude.{HasFields, HoldsBag, Idle, IsDeclared, IsIn, IsPart, IsReady, IsWellNamed, Kind}
use Prelude.{names_of, Nothing, numbered_tasks, NumberedHandle, other, Part, pending, plain, Shape}
use Prelude.{Slot, slot_value, Slots, Task, tasks_from, TasksMayCome, View}
use Rattle.step_threads.specs.declared.programs.act.Act.TheVariants as act
use Rattle.step_threads.specs.declared.programs.act.ShelfAct.TheVariants as shelf
use Rattle.std.proofs.lemmas.List.{length-replicate}
use Rattle.step_threads.specs.declared.programs.call.Call.TheVariants as call
use Rattle.step_threads.specs.declared.programs.call.CellName.TheVariants as cell
use Rattle.step_threads.specs.declared.programs.call.Name.{Name}
use Rattle.step_threads.specs.Frames.{IsNamed}
use Rattle.step_table.specs.Registers.{IsSlot, owns}
use Rattle.step_threads.specs.Programs.{IsNameFound, as_in, either, owner_asked, through}
use Rattle.step_threads.specs.Programs.{weak_asked}
use Rattle.step_table.proofs.tables.Start.{fresh_at}

-- empty slots
slot_none : (n i : ℕ) → slot_value (replicate n plain) i ≡ plain
slot_none zero i = refl
slot_none (suc n) zero = refl
slot_none (suc n) (suc i) = slot_none n i

none_owned : (v : GhostState) (h : NumberedHandle) (n : ℕ) → owns v (replicate n plain) h ≡ 0
none_owned v h zero = refl
none_owned v h (suc n) = none_owned v h n

none_full : (n : ℕ) → full (replicate n plain) ≡ 0
none_full zero = refl
none_full (suc n) = none_full n

pub holds_start : (d n : ℕ) (x : Extent) → HoldsBag d (replicate n plain) (first_ghost x)
holds_start d n x =
    record {
      owned = λ h. sym (none_owned (first_ghost x) h n);
      size = sym (none_full n);
      formed = λ i. subst IsSlot (sym (slot_none n i)) tt;
    }

pub idle_start : (d : ℕ) (x : Extent) → d < x.actors → pending (first_ghost x) d ≡ Idle
idle_start d x lt = ap (λ (v : View Nothing). v.pending) (fresh_at 0 x.actors d lt)

-- a call's names are below the number of names
within : (kinds : List Kind) (i : ℕ) (k : Option Kind) → IsNameFound k (slice_get kinds i) → i < length kinds
within [] i None e = absurd cc
within [] i (Some k) e = absurd cc
within (x ∷ xs) zero k e = omega arith
within (x ∷ xs) (suc i) k e = let r = within xs i k e in omega (arith, r)

clearing_ready : (n k : ℕ) → k ≤ n → TasksMayCome n false (clearing k)
clearing_ready n zero le = refl
clearing_ready n (suc k) le = ((omega arith, refl), tt, clearing_ready n k (omega arith))

-- the i-th name of a call
name_within : (kinds : List Kind) (c : Call) (i : ℕ) (x : Asked) → i < length (names_of c) → x ≡ get_or (names_of c) i x → IsWellNamed kinds c
    → x.0.0 < length kinds
name_within kinds c i x lt e named = within kinds x.0.0 x.1 (subst (IsDeclared kinds) (sym e) (named i x lt))

-- the name of a value for a cell, and the name before the dot
in_within : (kinds : List Kind) (c : CellName) (t : Name) → IsDeclared kinds (as_in c t) → t.0 < length kinds
in_within kinds c t h = within kinds t.0 (as_in c t).1 h

cell_within : (kinds : List Kind) (c : CellName) → All (IsDeclared kinds) (through c) → IsNamed (length kinds) c
cell_within kinds (cell.Shared n) all = tt
cell_within kinds (cell.Weak n) all = tt
cell_within kinds (cell.Member k m) all = within kinds k.0 (owner_asked k).1 (All-head (IsDeclared kinds) (owner_asked k) [] all)

many_ready : (n k m : ℕ) (ts : List Task) → TasksMayCome n false ts
    → TasksMayCome n false (numbered_tasks k (replicate m (act.OnShelf shelf.Shelve)) ++ ts)
many_ready n k zero ts r = r
many_ready n k (suc m) ts r = (tt, tt, many_ready n k m ts r)

call_ready : (kinds : List Kind) (k : ℕ) (c : Call) (ts : List Task) → IsWellNamed kinds c → HasFields c → TasksMayCome (length kinds) false ts
    → TasksMayCome (length kinds) false (numbered_tasks k (acts c) ++ ts)
call_ready kinds k (call.Make t f) ts named four r = ((refl, four), tt, (name_within kinds (call.Make t f) 0 (owner_asked t) (omega arith) refl named, tt, r))
call_ready kinds k (call.Empty t) ts named four r = ((name_within kinds (call.Empty t) 0 (owner_asked t) (omega arith) refl named, refl), tt, r)
call_ready kinds k (call.Reset t) ts named four r = ((name_within kinds (call.Reset t) 0 (owner_asked t) (omega arith) refl named, refl), tt, r)
call_ready kinds k (call.Count t) ts named four r = (name_within kinds (call.Count t) 0 (owner_asked t) (omega arith) refl named, tt, r)
call_ready kinds k (call.WeakEmpty t) ts named four r = ((name_within kinds (call.WeakEmpty t) 0 (weak_asked t) (omega arith) refl named, refl), tt, r)
call_ready kinds k (call.WeakReset t) ts named four r = ((name_within kinds (call.WeakReset t) 0 (weak_asked t) (omega arith) refl named, refl), tt, r)
call_ready kinds k (call.WeakCount t) ts named four r = (name_within kinds (call.WeakCount t) 0 (weak_asked t) (omega arith) refl named, tt, r)
call_ready kinds k (call.Expired t) ts named four r = (name_within kinds (call.Expired t) 0 (weak_asked t) (omega arith) refl named, tt, r)
call_ready kinds k (call.MakeThis t f) ts named four r =
    ((refl, four), tt, (name_within kinds (call.MakeThis t f) 0 (owner_asked t) (omega arith) refl named, tt, r))
call_ready kinds k (call.Null t) ts named four r = ((refl, refl), tt, (name_within kinds (call.Null t) 0 (owner_asked t) (omega arith) refl named, tt, r))
call_ready kinds k (call.Move t s) ts named four r = (
  (name_within kinds (call.Move t s) 1 (owner_asked s) (omega arith) refl named, refl),
  tt,
  (name_within kinds (call.Move t s) 0 (owner_asked t) (omega arith) refl named, tt, r),
)
call_ready kinds k (call.Alias t s o f) ts named four r = (
  (
    name_within kinds (call.Alias t s o f) 1 (owner_asked s) (omega arith) refl named,
    name_within kinds (call.Alias t s o f) 2 (owner_asked o) (omega arith) refl named,
    refl,
  ),
  tt,
  (name_within kinds (call.Alias t s o f) 0 (owner_asked t) (omega arith) refl named, tt, r),
)
call_ready kinds k (call.AliasNull t s) ts named four r = (
  (
    name_within kinds (call.AliasNull t s) 1 (owner_asked s) (omega arith) refl named,
    name_within kinds (call.AliasNull t s) 1 (owner_asked s) (omega arith) refl named,
    refl,
  ),
  tt,
  (name_within kinds (call.AliasNull t s) 0 (owner_asked t) (omega arith) refl named, tt, r),
)
call_ready kinds k (call.This t s) ts named four r = (
  (name_within kinds (call.This t s) 1 (owner_asked s) (omega arith) refl named, refl),
  tt,
  (name_within kinds (call.This t s) 0 (owner_asked t) (omega arith) refl named, tt, r),
)
call_ready kinds k (call.WeakThis t s) ts named four r = (
  (name_within kinds (call.WeakThis t s) 1 (owner_asked s) (omega arith) refl named, refl),
  tt,
  (name_within kinds (call.WeakThis t s) 0 (weak_asked t) (omega arith) refl named, tt, r),
)
call_ready kinds k (call.Read t) ts named four r = (name_within kinds (call.Read t) 0 (owner_asked t) (omega arith) refl named, tt, r)
call_ready kinds k (call.Place t) ts named four r = (name_within kinds (call.Place t) 0 (owner_asked t) (omega arith) refl named, tt, r)
call_ready kinds k (call.Same t s) ts named four r = (
  (
    name_within kinds (call.Same t s) 0 (owner_asked t) (omega arith) refl named,
    name_within kinds (call.Same t s) 1 (owner_asked s) (omega arith) refl
        named,
  ),
  tt,
  r,
)
call_ready kinds k (call.Before t s) ts named four r = (
  (
    name_within kinds (call.Before t s) 0 (either t) (omega arith) refl named,
    name_within kinds (call.Before t s) 1 (either s) (omega arith) refl named,
  ),
  tt,
  r,
)
call_ready kinds k (call.Copy t s) ts named four r = (
  (name_within kinds (call.Copy t s) 1 (owner_asked s) (omega arith) refl named, refl),
  tt,
  (name_within kinds (call.Copy t s) 0 (owner_asked t) (omega arith) refl named, tt, r),
)
call_ready kinds k (call.Weak t s) ts named four r = (
  (name_within kinds (call.Weak t s) 1 (owner_asked s) (omega arith) refl named, refl),
  tt,
  (name_within kinds (call.Weak t s) 0 (weak_asked t) (omega arith) refl named, tt, r),
)
call_ready kinds k (call.WeakCopy t s) ts named four r = (
  (name_within kinds (call.WeakCopy t s) 1 (weak_asked s) (omega arith) refl named, refl),
  tt,
  (name_within kinds (call.WeakCopy t s) 0 (weak_asked t) (omega arith) refl named, tt, r),
)
call_ready kinds k (call.Lock t s) ts named four r = (
  (name_within kinds (call.Lock t s) 1 (weak_asked s) (omega arith) refl named, refl),
  tt,
  (name_within kinds (call.Lock t s) 0 (owner_asked t) (omega arith) refl named, tt, r),
)
call_ready kinds k (call.Upgrade t s) ts named four r = (
  (name_within kinds (call.Upgrade t s) 1 (weak_asked s) (omega arith) refl named, refl),
  tt,
  (name_within kinds (call.Upgrade t s) 0 (owner_asked t) (omega arith) refl named, tt, r),
)
call_ready kinds k (call.Store c t) ts named four r =
    let n = cell_within kinds c (All-tail (IsDeclared kinds) (as_in c t) (through c) named) in
    ((in_within kinds c t (All-head (IsDeclared kinds) (as_in c t) (through c) named), n, refl), tt, (n, tt, (refl, tt, r)))
call_ready kinds k (call.Exchange c t) ts named four r =
    let n = cell_within kinds c (All-tail (IsDeclared kinds) (as_in c t) (through c) named) in
    ((in_within kinds c t (All-head (IsDeclared kinds) (as_in c t) (through c) named), n, refl), tt, r)
call_ready kinds k (call.Load t c) ts named four r =
    let n = cell_within kinds c (All-tail (IsDeclared kinds) (as_in c t) (through c) named) in
    ((n, refl), tt, (in_within kinds c t (All-head (IsDeclared kinds) (as_in c t) (through c) named), tt, r))
call_ready kinds k (call.Compare c x y b) ts named four r =
    let more = All-tail (IsDeclared kinds) (as_in c x) (as_in c y ∷ through c) named in
    let i = in_within kinds c x (All-head (IsDeclared kinds) (as_in c x) (as_in c y ∷ through c) named) in
    let j = in_within kinds c y (All-head (IsDeclared kinds) (as_in c y) (through c) more) in
    let n = cell_within kinds c (All-tail (IsDeclared kinds) (as_in c y) (through c) more) in
    ((j, n, refl), tt, ((i, n), tt, (i, tt, (refl, tt, r))))
call_ready kinds k (call.Holds c t) ts named four r =
    let n = cell_within kinds c (All-tail (IsDeclared kinds) (as_in c t) (through c) named) in
    ((in_within kinds c t (All-head (IsDeclared kinds) (as_in c t) (through c) named), n), tt, r)
call_ready kinds k (call.Shelve n) ts named four r = many_ready (length kinds) k n ts r
call_ready kinds k (call.Unshelve b) ts named four r = (tt, tt, r)

tasks_ready : (kinds : List Kind) (k : ℕ) (calls : List Call) → All (IsWellNamed kinds) calls → All HasFields calls
    → TasksMayCome (length kinds) false (tasks_from k calls (length kinds))
tasks_ready kinds k [] named four = clearing_ready (length kinds) (length kinds) (omega arith)
tasks_ready kinds k (c ∷ cs) named four =
    call_ready kinds k c (tasks_from (k + 1) cs (length kinds)) (All-head (IsWellNamed kinds) c cs named) (All-head HasFields c cs four)
    (tasks_ready kinds (k + 1) cs (All-tail (IsWellNamed kinds) c cs named) (All-tail HasFields c cs four))

pub ready_start : (part : Part) (tasks : List Task) (slots : Slots) (es : List Ending) → IsPart part → All HasFields part.calls
    → tasks ≡ tasks_from 1 part.calls (length part.kinds) → slots ≡ replicate (length part.kinds + 2) plain → IsReady slots false es tasks
ready_start part tasks slots es fine four is empty =
    let l = length-replicate {A = Slot} (length part.kinds + 2) plain in
    let s : length slots ≡ length part.kinds + 2 = ap (λ (z : Slots). length z) empty ∙ l in
    let h : other slots ≡ length part.kinds = omega (arith, s) in
    record {
      some = omega (arith, s);
      free = λ t. inl (ap (λ (z : Slots). slot_value z (hand slots)) empty ∙ slot_none (length part.kinds + 2) (hand slots));
      owes = inl (ap (λ (z : Slots). slot_value z (other slots)) empty ∙ slot_none (length part.kinds + 2) (other slots));
      ready = subst (λ (n : ℕ). TasksMayCome n false tasks) (sym h) (subst (λ (z : List Task). TasksMayCome (length part.kinds) false z) (sym is)
          (tasks_ready part.kinds 1 part.calls fine.named four));
    }

-- the shape has the cell of a task's act
abbrev HasTask : Shape → Task → Type 0
HasTask z t = HasCell z t.act

-- the shape has the cells of all tasks of calls whose cells it has
clearing_cells : (z : Shape) (n : ℕ) → All (HasTask z) (clearing n)
clearing_cells z zero = All-nil (HasTask z)
clearing_cells z (suc n) = All-cons (HasTask z) _ (clearing n) tt (clearing_cells z n)

one : (z : Shape) (t : Task) → HasCell z t.act → All (HasTask z) (t ∷ [])
one z t h = All-cons (HasTask z) t [] h (All-nil (HasTask z))

two : (z : Shape) (t u : Task) → HasCell z t.act → HasCell z u.act → All (HasTask z) (t ∷ u ∷ [])
two z t u h i = All-cons (HasTask z) t (u ∷ []) h (one z u i)

three : (z : Shape) (t u w : Task) → HasCell z t.act → HasCell z u.act → HasCell z w.act → All (HasTask z) (t ∷ u ∷ w ∷ [])
three z t u w h i j = All-cons (HasTask z) t (u ∷ w ∷ []) h (two z u w i j)

four : (z : Shape) (t u w x : Task) → HasCell z t.act → HasCell z u.act → HasCell z w.act → HasCell z x.act
    → All (HasTask z) (t ∷ u ∷ w ∷ x ∷ [])
four z t u w x h i j k = All-cons (HasTask z) t (u ∷ w ∷ x ∷ []) h (three z u w x i j k)

first_cell : (z : Shape) (c : CellName) → All (IsIn z) (c ∷ []) → IsIn z c
first_cell z c h = All-head (IsIn z) c [] h

many_cells : (z : Shape) (k n : ℕ) → All (HasTask z) (numbered_tasks k (replicate n (act.OnShelf shelf.Shelve)))
many_cells z k zero = All-nil (HasTask z)
many_cells z k (suc n) =
    All-cons (HasTask z) (record { statement = k; act = act.OnShelf shelf.Shelve }) (numbered_tasks k (replicate n (act.OnShelf shelf.Shelve))) tt
    (many_cells z k n)

call_cells : (z : Shape) (k : ℕ) (c : Call) → HasCells z c → All (HasTask z) (numbered_tasks k (acts c))
call_cells z k (call.Make t f) h = two z _ _ tt tt
call_cells z k (call.MakeThis t f) h = two z _ _ tt tt
call_cells z k (call.Null t) h = two z _ _ tt tt
call_cells z k (call.Empty t) h = one z _ tt
call_cells z k (call.Reset t) h = one z _ tt
call_cells z k (call.Copy t s) h = two z _ _ tt tt
call_cells z k (call.Move t s) h = two z _ _ tt tt
call_cells z k (call.Alias t s o f) h = two z _ _ tt tt
call_cells z k (call.AliasNull t s) h = two z _ _ tt tt
call_cells z k (call.Count t) h = one z _ tt
call_cells z k (call.Weak t s) h = two z _ _ tt tt
call_cells z k (call.WeakCopy t s) h = two z _ _ tt tt
call_cells z k (call.WeakEmpty t) h = one z _ tt
call_cells z k (call.WeakReset t) h = one z _ tt
call_cells z k (call.Lock t s) h = two z _ _ tt tt
call_cells z k (call.Upgrade t s) h = two z _ _ tt tt
call_cells z k (call.WeakCount t) h = one z _ tt
call_cells z k (call.Expired t) h = one z _ tt
call_cells z k (call.This t s) h = two z _ _ tt tt
call_cells z k (call.WeakThis t s) h = two z _ _ tt tt
call_cells z k (call.Read t) h = one z _ tt
call_cells z k (call.Place t) h = one z _ tt
call_cells z k (call.Same t s) h = one z _ tt
call_cells z k (call.Before t s) h = one z _ tt
call_cells z k (call.Store c t) h = three z _ _ _ (first_cell z c h) (first_cell z c h) tt
call_cells z k (call.Exchange c t) h = one z _ (first_cell z c h)
call_cells z k (call.Load t c) h = two z _ _ (first_cell z c h) tt
call_cells z k (call.Compare c x y b) h = four z _ _ _ _ (first_cell z c h) (first_cell z c h) tt tt
call_cells z k (call.Holds c t) h = one z _ (first_cell z c h)
call_cells z k (call.Shelve n) h = many_cells z k n
call_cells z k (call.Unshelve b) h = one z _ tt

pub tasks_cells : (z : Shape) (k n : ℕ) (calls : List Call) → All (HasCells z) calls → All (HasTask z) (tasks_from k calls n)
tasks_cells z k n [] h = clearing_cells z n
tasks_cells z k n (c ∷ cs) h =
    All-append (HasTask z) (numbered_tasks k (acts c)) (tasks_from (k + 1) cs n) (call_cells z k c (All-head (HasCells z) c cs h))
    (tasks_cells z (k + 1) n cs (All-tail (HasCells z) c cs h))
