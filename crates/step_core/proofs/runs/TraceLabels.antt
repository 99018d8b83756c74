-- What an act's event, answer and end are by its reply: those of a lock, of a leave, or neither.
use Rattle.std.proofs.Common.{◌≡◌, ℕ, Bool, true, false, cond, ◌||◌, ◌⊎◌, List, [], ◌∷◌, length}
use Rattle.std.proofs.Common.{is_some, Some, None, Option, option_map, sym, refl, ap, ◌∙◌, inl}
use Rattle.std.proofs.Common.{inr, arith}
use Rattle.step_core.proofs.Prelude
use Prelude.{Act, Ahead, ahead_of, Alias, aliased, AnAct, AnEnd, Answer, answer_by, Ask, CellName}
use Prelude.{Clear, Compare, cond_both, copies, copy, Count, Downgrade, Drop, Ended, Ending, Entry}
use Prelude.{entry, Event, Exchange, Expired, FromThis, Got, hand, Handle, Holds, inside, is_full}
use Prelude.{is_last_leave, is_there, IsLeaveEvent, IsMakeEvent, Kind, Leave, Load, Lock, Make}
use Prelude.{may_go, Move, no_worth, Nothing, Offer, offered, On, OnShelf, other, Over, owned}
use Prelude.{Owner, owner_slot, Place, place_at, place_in, Put, put_on, Read, Reply, row, Said}
use Prelude.{said_by, same_Some, Share, Shelve, slot_pointer, Slots, spoken_by, State}
use Prelude.{statement_by, step_ended, Stepped, Swap, Task, Unshelve, Weak, weak_of, weak_slot}
use Prelude.{Where}
use Rattle.control_word.specs.declared.model.event.Event.TheVariants as event
use Rattle.control_word.specs.declared.refusal.Refusal.TheVariants.{BadWeak, NotEnabled}
use Rattle.step_threads.specs.declared.programs.act.Question.{Question}
use Rattle.step_threads.specs.declared.programs.act.Question.TheVariants as question
use Rattle.step_threads.specs.declared.programs.call.CellName.TheVariants as cell
use Rattle.step_threads.specs.declared.said.Answer.TheVariants as answer
use Rattle.step_threads.specs.declared.said.Stepped.TheVariants as stepped
use Rattle.step_threads.specs.Rows.{Plain, Found, Told, Came, Compared, Left, outside, refusal}
use Rattle.step_threads.specs.Rows.{unless}

abbrev pub Events : Type 0
Events = Option (Event Nothing)

-- an event is a lock, an owner's leave, or neither
pub data Sort : Type 0 where
  ALock ALeave Another : Sort

abbrev pub sort_of : Events → Sort
sort_of None = Another
sort_of (Some (event.Lock w got)) = ALock
sort_of (Some (event.Leave h last)) = ALeave
sort_of (Some _) = Another

-- an event is a last owner's leave
abbrev pub is_last_in : Events → Bool
is_last_in None = false
is_last_in (Some e) = is_last_leave e

-- an answer is such as a lock gives
abbrev pub is_of_lock : Option Answer → Bool
is_of_lock (Some (answer.Locked got)) = true
is_of_lock (Some answer.Upgraded) = true
is_of_lock (Some (answer.Refused BadWeak)) = true
is_of_lock _ = false

-- an act is neither a lock nor a leave, and answers and tells so
pub record IsOther (e : Events) (a : Option Answer) (left : Option Ended) : Type 0 where
  pub sort : sort_of e ≡ Another
  pub answer : is_of_lock a ≡ false
  pub ended : left ≡ None

-- an act by its reply, with these slots: a lock, a leave of what was in a slot, or neither
pub data IsDone (s : State) (l : Slots) (taken : Bool) (a : Act) (y : Reply) (e : Events) : Type 0 where
  Locks : (i : ℕ) (must got : Bool) → a ≡ Lock i must → y ≡ Got got → is_last_in e ≡ false → (row a l taken y).ended ≡ None
      → IsDone s l taken a y e
  Leaves : (o : Option Handle) (last : Bool) (left : Option Ended) → IsLeaveEvent s o last left e → (row a l taken y).answer ≡ None
      → (row a l taken y).ended ≡ left → IsDone s l taken a y e
  Other : IsOther e (row a l taken y).answer (row a l taken y).ended → IsDone s l taken a y e

module _ (s : State) (d : ℕ) (l : Slots) (taken : Bool) where
  -- an event of a pointer, or none
  mapped : (f : Handle → Event Nothing) → ((x : Handle) → sort_of (Some (f x)) ≡ Another) → (e : Events) (o : Option Handle)
      → e ≡ option_map f o → sort_of e ≡ Another
  mapped f other e None is = ap sort_of is
  mapped f other e (Some x) is = ap sort_of is ∙ other x

  on_pointer : {p : Handle → Type 0} {q : Type 0} (e : Events) (o : Option Handle) → On p q o
      → ((x : Handle) → p x → sort_of e ≡ Another) → (q → sort_of e ≡ Another) → sort_of e ≡ Another
  on_pointer e None is each none = none is
  on_pointer e (Some x) is each none = each x is

  chosen : {p q : Type 0} (e : Events) (b : Bool) → Where b p q → (p → sort_of e ≡ Another) → (q → sort_of e ≡ Another)
      → sort_of e ≡ Another
  chosen e true is f g = f is
  chosen e false is f g = g is

  given_by : (e : Events) (b : Bool) (f : Event Nothing) → sort_of (Some f) ≡ Another → e ≡ cond b (Some f) None → sort_of e ≡ Another
  given_by e true f other is = ap sort_of is ∙ other
  given_by e false f other is = ap sort_of is

  copied : (k : Kind) (p : Option Place) (x : Handle) → sort_of (Some (copies s k p x)) ≡ Another
  copied Owner p x = refl
  copied Weak p x = refl

  -- the answers that hang on what the slots hold
  plainly : (p : Option Place) → is_of_lock (Some (outside p)) ≡ false
  plainly None = refl
  plainly (Some p) = refl

  refused : (c : CellName) → is_of_lock (refusal l c) ≡ false
  refused (cell.Shared n) = refl
  refused (cell.Weak n) = refl
  refused (cell.Member k m) =
      cond_both (is_there l (cell.Member k m)) None (Some (outside (place_in l k.0))) (λ (a : Option Answer). is_of_lock a ≡ false)
      (λ e. refl) (λ e. plainly (place_in l k.0))

  answers : (c : CellName) (b : Bool) → is_of_lock (unless (refusal l c) (answer.Holds b)) ≡ false
  answers (cell.Shared n) b = refl
  answers (cell.Weak n) b = refl
  answers (cell.Member k m) b =
      cond_both (is_there l (cell.Member k m)) None (Some (outside (place_in l k.0)))
      (λ (a : Option Answer). is_of_lock (unless a (answer.Holds b)) ≡ false) (λ e. refl) (λ e. plainly (place_in l k.0))

  reads : (k n : ℕ) → is_of_lock (row (Read k) l taken (Told n)).answer ≡ false
  reads k n =
      cond_both (is_full (inside (slot_pointer l k))) (answer.Read n) (outside (place_in l k)) (λ (a : Answer). is_of_lock (Some a) ≡ false)
      (λ e. refl) (λ e. plainly (place_in l k))

  gives : (k : ℕ) (q : Kind) (got : Bool) → is_of_lock (row (FromThis k q) l taken (Got got)).answer ≡ false
  gives k q true = refl
  gives k q false =
      cond_both (is_full (inside (slot_pointer l k))) (answer.Refused NotEnabled) (outside (place_in l k))
      (λ (a : Answer). is_of_lock (Some a) ≡ false) (λ e. refl) (λ e. plainly (place_in l k))

  asks : (q : Question) (b : Bool) → is_of_lock (row (Ask q) l taken (Got b)).answer ≡ false
  asks (question.Place k) b = refl
  asks (question.Same i j) b = refl
  asks (question.Before i j) b = refl

  lock_leaves : (e : Events) (o : Option Handle) (got : Bool)
      → On (λ (x : Handle). e ≡ Some (event.Lock (weak_of (owned s x) x.place) got)) ((got ≡ false) × (e ≡ None)) o → is_last_in e ≡ false
  lock_leaves e None got is = ap is_last_in is.1
  lock_leaves e (Some x) got is = ap is_last_in is

  none : (a : Act) (y : Reply) (e : Events) → sort_of e ≡ Another → is_of_lock (row a l taken y).answer ≡ false
      → (row a l taken y).ended ≡ None → IsDone s l taken a y e
  none a y e sort silent ended = Other (record { sort = sort; answer = silent; ended = ended })

  pub each : (a : Act) (y : Reply) (e : Events) → IsMakeEvent no_worth s d l a y e → IsDone s l taken a y e
  each (Make form) (Found None) e is = none (Make form) (Found None) e (ap sort_of is.1) refl refl
  each (Make form) (Found (Some b)) e is = none (Make form) (Found (Some b)) e (ap sort_of is) refl refl
  each (Share k) Plain e is = none (Share k) Plain e (mapped (copy s) (λ x. copied x.kind x.place x) e (slot_pointer l k) is) refl refl
  each (Put k) (Left last left) e is = Leaves (slot_pointer l k) last left is refl refl
  each (Leave k) (Left last left) e is = Leaves (slot_pointer l k) last left is refl refl
  each (Clear k) (Left last left) e is = Leaves (slot_pointer l k) last left is refl refl
  each Drop (Left last left) e is = Leaves (slot_pointer l (other l)) last left is refl refl
  each (Count k) (Told n) e is =
      none (Count k) (Told n) e (on_pointer e (slot_pointer l k) is (λ x q. ap sort_of q) (λ q. ap sort_of q.1)) refl refl
  each (Downgrade k) Plain e is =
      none (Downgrade k) Plain e (mapped (λ (x : Handle). copies s Weak x.place x) (λ x. refl) e (slot_pointer l k) is) refl refl
  each (Lock k must) (Got got) e is = Locks k must got refl refl (lock_leaves e (weak_slot (slot_pointer l k)) got is) refl
  each (Expired k) (Got b) e is =
      none (Expired k) (Got b) e (on_pointer e (slot_pointer l k) is (λ x q. ap sort_of q) (λ q. ap sort_of q.1)) refl refl
  each (Read k) (Told n) e is =
      none (Read k) (Told n) e (on_pointer e (inside (slot_pointer l k)) is (λ x q. ap sort_of q) (λ q. ap sort_of q)) (reads k n) refl
  each (FromThis k q) (Got got) e is =
      none (FromThis k q) (Got got) e
      (on_pointer e (inside (slot_pointer l k)) is
      (λ x p. given_by e got (copies s q (place_at x.block.0) x) (copied q (place_at x.block.0) x) p.1) (λ p. ap sort_of p.1)) (gives k q got) refl
  each (Alias k j field) Plain e is =
      let p = aliased field (place_in l j) in
      none (Alias k j field) Plain e (mapped (copies s Owner p) (λ x. copied Owner p x) e (owner_slot (slot_pointer l k)) is) refl refl
  each (Move k) Plain e is = none (Move k) Plain e (ap sort_of is) refl refl
  each (Ask q) (Got b) e is = none (Ask q) (Got b) e (ap sort_of is.1) (asks q b) refl
  each (Offer k c) Plain e is =
      none (Offer k c) Plain e (mapped (copy s) (λ x. copied x.kind x.place x) e (offered l k c) is) (refused c) refl
  each (Swap c) (Came x) e is =
      none (Swap c) (Came x) e (chosen e (may_go l c (hand l)) is (λ q. ap sort_of q.1) (λ q. ap sort_of q)) refl refl
  each (Exchange k c) (Came x) e is =
      none (Exchange k c) (Came x) e (chosen e (may_go l c k) is (λ q. ap sort_of q.1) (λ q. ap sort_of q)) (refused c) refl
  each (Load c) (Came x) e is =
      none (Load c) (Came x) e (chosen e (is_there l c) is (λ q. ap sort_of q.1) (λ q. ap sort_of q)) (refused c) refl
  each (Compare k c weak) (Compared swaps x) e is = none (Compare k c weak) (Compared swaps x) e (ap sort_of is.1) refl refl
  each (Holds k c) (Got b) e is =
      none (Holds k c) (Got b) e (chosen e (may_go l c k) is (λ q. ap sort_of q) (λ q. ap sort_of q.1)) (answers c b) refl
  each (OnShelf Shelve) (Found None) e is = none (OnShelf Shelve) (Found None) e (ap sort_of is.1) refl refl
  each (OnShelf Shelve) (Found (Some b)) e is = none (OnShelf Shelve) (Found (Some b)) e (ap sort_of is) refl refl
  each (OnShelf (Unshelve b)) (Got got) e is =
      none (OnShelf (Unshelve b)) (Got got) e (given_by e got (event.Unshelve b) refl is.1) refl refl
  each _ _ e is = absurd is

-- an event that came onto a history
abbrev newest : List (Entry Nothing) → Events
newest [] = None
newest (e ∷ h) = Some e.event

pub put : (d : ℕ) (e : Events) (f : Event Nothing) (h : List (Entry Nothing)) → put_on d e h ≡ entry d f ∷ h → e ≡ Some f
put d None f h is = absurd (let n = ap (λ (l : List (Entry Nothing)). length l) is in omega (arith, n))
put d (Some e) f h is = ap newest is

pub no_more : (d : ℕ) (e : Event Nothing) (h : List (Entry Nothing)) → h ≡ entry d e ∷ h → ⊥
no_more d e h is = let n = ap (λ (l : List (Entry Nothing)). length l) is in omega (arith, n)

abbrev tasks_in : Ahead → List Task
tasks_in Over = []
tasks_in (AnAct t ts) = t ∷ ts
tasks_in (AnEnd e es) = []

abbrev act_in : Act → Ahead → Act
act_in a Over = a
act_in a (AnAct t ts) = t.act
act_in a (AnEnd e es) = a

-- the act ahead is the next task, or the leave of what came out of a member
pub ahead_task : (l : Slots) (es : List Ending) (todo : List Task) (t : Task) (ts : List Task) → ahead_of l es todo ≡ AnAct t ts
    → (todo ≡ t ∷ ts) ⊎ (t.act ≡ Leave (hand l))
ahead_task l [] [] t ts is = inl (ap tasks_in is)
ahead_task l [] (x ∷ xs) t ts is = inl (ap tasks_in is)
ahead_task l (e ∷ es) todo t ts is = go (is_full (slot_pointer l (hand l))) is
  where
    go : (b : Bool) → cond b (AnAct (record { statement = e.statement; act = Leave (hand l) }) todo) (AnEnd e es) ≡ AnAct t ts
        → (todo ≡ t ∷ ts) ⊎ (t.act ≡ Leave (hand l))
    go true q = inr (sym (ap (act_in (Leave (hand l))) q))
    go false q = inr (sym (ap (act_in (Leave (hand l))) q))

-- what a step says that is an act
pub record IsSaid (r : Stepped) (said : Said) : Type 0 where
  pub answer : answer_by r ≡ said.answer
  pub statement : statement_by r ≡ Some said.statement
  pub ended : step_ended r ≡ said.ended

pub is_said : (r : Stepped) (said : Said) → said_by r ≡ Some said → IsSaid r said
is_said (stepped.Event a) said is =
    let e = same_Some _ _ is in
    record { answer = ap (λ (y : Said). y.answer) e; statement = ap (λ (y : Said). Some y.statement) e; ended = ap (λ (y : Said). y.ended) e }
is_said (stepped.Quiet a) said is =
    let e = same_Some _ _ is in
    record { answer = ap (λ (y : Said). y.answer) e; statement = ap (λ (y : Said). Some y.statement) e; ended = ap (λ (y : Said). y.ended) e }
is_said stepped.Waited said is = absurd cc
is_said stepped.Done said is = absurd cc

nothing_said : (d : ℕ) (x : Said) (o : Option Answer) (p : Option Ended)
    → cond {A = List (ℕ × Said)} (is_some o || is_some p) ((d, x) ∷ []) [] ≡ [] → (o ≡ None) × (p ≡ None)
nothing_said d x None None q = (refl, refl)
nothing_said d x None (Some y) q = absurd cc
nothing_said d x (Some y) p q = absurd cc

-- a step that says nothing answers nothing, and tells of no end
pub says_none : (d : ℕ) (r : Stepped) → spoken_by d (said_by r) ≡ [] → (answer_by r ≡ None) × (step_ended r ≡ None)
says_none d (stepped.Event x) is = nothing_said d x x.answer x.ended is
says_none d (stepped.Quiet x) is = nothing_said d x x.answer x.ended is
says_none d stepped.Waited is = (refl, refl)
says_none d stepped.Done is = (refl, refl)
