-- What a step adds to the totals, and what it takes from the tasks that are left.
use Rattle.std.proofs.Common.{◌≡◌, ℕ, ◌≤◌, Bool, true, false, cond, List, [], ◌∷◌, is_some, ◌==◌}
use Rattle.std.proofs.Common.{Some, None, Option, option_map, refl, ap, arith}
use Rattle.step_core.proofs.Prelude
use Prelude.{Act, Alias, aliased, Answer, Ask, asks, at_rest, begins, begun, brings, Brought}
use Prelude.{cell_of_name, Clear, Clearing, Compare, compared_in, comparing, cond_both, Count}
use Prelude.{Downgrade, Drop, emptied, empties, Ended, Ending, ends_on, Exchange, Expired, first}
use Prelude.{frame_settled, frame_steps, FrameView, FromThis, GhostState, give, given_step, Giving}
use Prelude.{Going, going, hand, Handle, Holds, inside, is_enabled, is_full, is_prepared, IsAlone}
use Prelude.{IsClearingMember, IsTried, IsUnderWay, Kind, least, Leave, Load, Lock, lock}
use Prelude.{locked_pointer, Locking, looks, Make, Making, Matched, may_go, Member, model_state}
use Prelude.{Move, object_of_block, Offer, offered, on, on_going, OnShelf, other, Owner}
use Prelude.{owner_slot, owner_word, PendingCall, place_in, Put, Read, Refill, Rest, Returning}
use Prelude.{Saw, seen, sends, sent, Share, shelf_block, silent, slot_pointer, staged, Step}
use Prelude.{step_at, step_of_act, step_of_swap, Swap, Task, tried, tries, trying, Weak, weak}
use Prelude.{went, with_endings, within, word_of_cell}
use Rattle.step_table.specs.declared.memory.ghost_history.AtomicStep.TheVariants as atomic_step
use Rattle.step_core.proofs.telling.Walking.{IsFree, carried_leaves, carried_most, over_less}
use Rattle.step_core.proofs.telling.Walking.{settled_alone, staged_most, taken_out, frame_alone}
use Rattle.step_core.proofs.telling.Walking.{went_less, went_plain}
use Rattle.step_core.proofs.telling.Leaves.{ends_by, leaves_by, none_ends}
use Rattle.step_core.proofs.telling.Swapping.{swapping, went_swap}
use Rattle.step_core.proofs.telling.Looking.{compares_one, counted_match, counted_refill}
use Rattle.step_core.proofs.telling.Looking.{counted_saw, load_one}
use Rattle.step_core.proofs.telling.AtomicSteps.{IsCounted, aliased_by, downgraded, expired, left}
use Rattle.step_core.proofs.telling.AtomicSteps.{locked_by, plus_none, quiet, read_one, shared}
use Rattle.step_core.proofs.telling.AtomicSteps.{told, held_one, moved_one}
use Rattle.step_core.proofs.telling.Making.{counted_make}

begun_in : (v : GhostState) (d k : ℕ) (w : FrameView) (t : Task) (ts : List Task) (o : Option ℕ) → w.endings ≡ [] → w.todo ≡ t ∷ ts
    → IsCounted v d Rest w (Some (begins w k ts o))
begun_in v d k w t ts None none is =
    let l = settled_alone w.slots false ts in
    let n : frame_steps (frame_settled w.slots false w.endings ts) ≡ frame_steps (frame_settled w.slots false [] ts) =
    ap (λ (es : List Ending). frame_steps (frame_settled w.slots false es ts)) none in
    let a = frame_alone w t ts none is in
    record { made = plus_none _; ended = plus_none _; few = omega (arith, l, n, a) }
begun_in v d k w t ts (Some b) none is = record { made = plus_none _; ended = plus_none _; few = omega arith }

-- an act by which nothing leaves
plain : (v : GhostState) (d k : ℕ) (w : FrameView) (t : Task) (ts : List Task) (a : Act) → w.endings ≡ [] → w.todo ≡ t ∷ ts → leaves_by w.slots a ≡ None
    → frame_steps (went (model_state v) d w k ts a) ≤ frame_steps w
plain v d k w t ts a none is stays = let l = went_plain (model_state v) d k w t ts a none is stays in omega (arith, l)

-- an object is asked for a pointer, or gives one
asked_one : (v : GhostState) (d k : ℕ) (w : FrameView) (t : Task) (ts : List Task) (i : ℕ) (q : Kind) (o : Option Handle) → w.endings ≡ []
    → w.todo ≡ t ∷ ts → IsCounted v d Rest w (Some (on (asks v d w k ts i q) (step_of_act v d w k ts (FromThis i q) None Rest) o))
asked_one v d k w t ts i q None none is =
    quiet v d k Rest Rest w (went (model_state v) d w k ts (FromThis i q)) _
    (plain v d k w t ts (FromThis i q) none is refl)
asked_one v d k w t ts i q (Some y) none is =
    cond_both (is_enabled (model_state v) y) (record { atomic_step = None; pending_call = Giving i q y; frame_view = w; said = silent k })
    (step_of_act v d w k ts (FromThis i q) None Rest) (λ (x : Step). IsCounted v d Rest w (Some x))
    (λ b. quiet v d k Rest (Giving i q y) w w None (omega arith))
    (λ b. quiet v d k Rest Rest w (went (model_state v) d w k ts (FromThis i q)) _
    (plain v d k w t ts (FromThis i q) none is refl))

given_one : (v : GhostState) (d i k : ℕ) (q r : Kind) (y : Handle) (w x : FrameView) (a : Option Answer) → frame_steps x ≤ frame_steps w
    → IsCounted v d (Giving i q y) w (Some (record {
      atomic_step = Some (give r y);
      pending_call = Rest;
      frame_view = x;
      said = record { statement = k; answer = a; ended = None };
    }))
given_one v d i k q Owner y w x a le = record { made = plus_none _; ended = plus_none _; few = omega (arith, le) }
given_one v d i k q Weak y w x a le = record { made = plus_none _; ended = plus_none _; few = omega (arith, le) }

counted_give : (v : GhostState) (d i : ℕ) (q : Kind) (y : Handle) (w : FrameView) (ts : List Task) → w.todo ≡ ts → w.endings ≡ []
    → IsCounted v d (Giving i q y) w (given_step v d w i q y ts)
counted_give v d i q y w [] is none = record { made = plus_none _; ended = plus_none _; few = omega arith }
counted_give v d i q y w (t ∷ ts) is none =
    given_one v d i t.statement q q y w (went (model_state v) d w t.statement ts (FromThis i q))
    _
    (plain v d t.statement w t ts (FromThis i q) none is refl)

-- a lock is tried, or done
tried_or : (v : GhostState) (d k : ℕ) (h : PendingCall) (w : FrameView) (t : Task) (ts : List Task) (word i : ℕ) (must : Bool) (y : Handle) (b : Bool)
    → is_prepared h ≡ false → w.endings ≡ [] → w.todo ≡ t ∷ ts
    → IsCounted v d h w (Some (cond b (step_of_act v d w k ts (Lock i must) (Some (lock (model_state v) y)) Rest) (trying w k word)))
tried_or v d k h w t ts word i must y true e none is =
    locked_by v d k h w (went (model_state v) d w k ts (Lock i must)) _ y e
    (plain v d k w t ts (Lock i must) none is refl)
tried_or v d k h w t ts word i must y false e none is = quiet v d k h (cond (word == 0) Rest (Locking word)) w w None (omega arith)

looked : (v : GhostState) (d k : ℕ) (w : FrameView) (t : Task) (ts : List Task) (i : ℕ) (must : Bool) (o : Option Handle) → w.endings ≡ []
    → w.todo ≡ t ∷ ts → IsCounted v d Rest w (Some (on (looks v d w k ts (Lock i must)) (step_of_act v d w k ts (Lock i must) None Rest) o))
looked v d k w t ts i must None none is =
    quiet v d k Rest Rest w (went (model_state v) d w k ts (Lock i must)) _
    (plain v d k w t ts (Lock i must) none is refl)
looked v d k w t ts i must (Some y) none is = tried_or v d k Rest w t ts (owner_word v y) i must y (owner_word v y == 0) refl none is

-- a value goes into a cell
swapped : (v : GhostState) (d k : ℕ) (h : PendingCall) (w : FrameView) (t : Task) (ts : List Task) (a : Act) (x : Going) → is_prepared h ≡ false
    → w.endings ≡ [] → w.todo ≡ t ∷ ts → t.act ≡ a → going w.slots a ≡ Some x → IsCounted v d h w (Some (step_of_swap v d w k ts a x.0 x.1))
swapped v d k h w t ts a x e none is same goes =
    let z : ◌≡◌ {A = ℕ} (cond (is_prepared h) 1 0) 0 = ap (λ (b : Bool). cond b 1 0) e in
    let y = swapping w.slots a x goes in
    let n : ◌≡◌ {A = ℕ} (cond (is_some (ends_by v d w a)) 1 0) 0 = ap (λ (o : Option Ended). cond (is_some o) 1 0) (none_ends v d w a y.stays) in
    let l = went_swap (model_state v) d k w t ts a x none is same goes in
    record { made = omega (arith, z); ended = omega (arith, n); few = omega (arith, l, z, n) }

-- the funds of what goes in are brought first, where it has an object
brought : (v : GhostState) (d k : ℕ) (w : FrameView) (t : Task) (ts : List Task) (a : Act) (x : Going) → w.endings ≡ [] → w.todo ≡ t ∷ ts
    → t.act ≡ a → going w.slots a ≡ Some x → (o : Option Handle)
    → IsCounted v d Rest w (Some (on (brings w k) (step_of_swap v d w k ts a x.0 x.1) o))
brought v d k w t ts a x none is same goes None = swapped v d k Rest w t ts a x refl none is same goes
brought v d k w t ts a x none is same goes (Some y) = record { made = plus_none _; ended = plus_none _; few = omega arith }

going_in : (v : GhostState) (d k : ℕ) (w : FrameView) (t : Task) (ts : List Task) (a : Act) (o : Option Going) → w.endings ≡ [] → w.todo ≡ t ∷ ts
    → t.act ≡ a → going w.slots a ≡ o → IsCounted v d Rest w (Some (step_of_act v d w k ts a None Rest))
    → IsCounted v d Rest w (Some (on_going (sends v d w k ts a) (step_of_act v d w k ts a None Rest) o))
going_in v d k w t ts a None none is same goes idle = idle
going_in v d k w t ts a (Some x) none is same goes idle = brought v d k w t ts a x none is same goes (slot_pointer w.slots x.1)

counted_send : (v : GhostState) (d : ℕ) (w : FrameView) (ts : List Task) → w.endings ≡ [] → w.todo ≡ ts → IsCounted v d Brought w (sent v d w ts)
counted_send v d w [] none is = record { made = plus_none _; ended = plus_none _; few = omega arith }
counted_send v d w (t ∷ ts) none is = go (going w.slots t.act) refl
  where
    go : (o : Option Going) → going w.slots t.act ≡ o
        → IsCounted v d Brought w (option_map (λ (x : Going). step_of_swap v d w t.statement ts t.act x.0 x.1) o)
    go None goes = record { made = plus_none _; ended = plus_none _; few = omega arith }
    go (Some x) goes = swapped v d t.statement Brought w t ts t.act x refl none is refl goes

counted_act : (v : GhostState) (d k : ℕ) (w : FrameView) (t : Task) (ts : List Task) (a : Act) → w.endings ≡ [] → w.todo ≡ t ∷ ts → t.act ≡ a
    → IsCounted v d Rest w (Some (first v d w k ts a))
counted_act v d k w t ts (Make form) none is same = begun_in v d k w t ts (least d (model_state v).stores) none is
counted_act v d k w t ts (Share i) none is same =
    shared v d k w (went (model_state v) d w k ts (Share i)) None (plain v d k w t ts (Share i) none is refl) (slot_pointer w.slots i)
counted_act v d k w t ts (Put i) none is same =
    left v d k w (went (model_state v) d w k ts (Put i)) (slot_pointer w.slots i) (went_less (model_state v) d k w t ts (Put i) none is)
counted_act v d k w t ts (Leave i) none is same =
    left v d k w (went (model_state v) d w k ts (Leave i)) (slot_pointer w.slots i) (went_less (model_state v) d k w t ts (Leave i) none is)
counted_act v d k w t ts (Clear i) none is same =
    left v d k w (went (model_state v) d w k ts (Clear i)) (slot_pointer w.slots i) (went_less (model_state v) d k w t ts (Clear i) none is)
counted_act v d k w t ts (Count i) none is same =
    told v d k w (went (model_state v) d w k ts (Count i)) _
    (plain v d k w t ts (Count i) none is refl)
    (slot_pointer w.slots i)
counted_act v d k w t ts (Downgrade i) none is same =
    downgraded v d k w (went (model_state v) d w k ts (Downgrade i)) (plain v d k w t ts (Downgrade i) none is refl) (slot_pointer w.slots i)
counted_act v d k w t ts (Lock i must) none is same = looked v d k w t ts i must (locked_pointer w.slots (Lock i must)) none is
counted_act v d k w t ts (Alias i j field) none is same =
    aliased_by v d k w (went (model_state v) d w k ts (Alias i j field)) (aliased field (place_in w.slots j))
    (plain v d k w t ts (Alias i j field) none is refl) (owner_slot (slot_pointer w.slots i))
counted_act v d k w t ts (Move i) none is same =
    quiet v d k Rest Rest w (went (model_state v) d w k ts (Move i)) None (plain v d k w t ts (Move i) none is refl)
counted_act v d k w t ts (Ask q) none is same =
    quiet v d k Rest Rest w (went (model_state v) d w k ts (Ask q)) _
    (plain v d k w t ts (Ask q) none is refl)
counted_act v d k w t ts (Expired i) none is same =
    expired v d k w (went (model_state v) d w k ts (Expired i)) _
    (plain v d k w t ts (Expired i) none is refl) (slot_pointer w.slots i)
counted_act v d k w t ts (Read i) none is same =
    read_one v d k w (went (model_state v) d w k ts (Read i)) _
    (plain v d k w t ts (Read i) none is refl)
    (inside (slot_pointer w.slots i))
counted_act v d k w t ts (FromThis i kind) none is same = asked_one v d k w t ts i kind (inside (slot_pointer w.slots i)) none is
counted_act v d k w t ts (Offer i c) none is same =
    shared v d k w (went (model_state v) d w k ts (Offer i c)) _
    (plain v d k w t ts (Offer i c) none is refl) (offered w.slots i c)
counted_act v d k w t ts (Swap c) none is same =
    going_in v d k w t ts (Swap c) (going w.slots (Swap c)) none is same refl
    (quiet v d k Rest Rest w (went (model_state v) d w k ts (Swap c)) None (plain v d k w t ts (Swap c) none is refl))
counted_act v d k w t ts (Exchange i c) none is same =
    going_in v d k w t ts (Exchange i c) (going w.slots (Exchange i c)) none is same refl
    (quiet v d k Rest Rest w (went (model_state v) d w k ts (Exchange i c)) _
    (plain v d k w t ts (Exchange i c) none is refl))
counted_act v d k w t ts (Load c) none is same = load_one v d k w t ts c none is
counted_act v d k w t ts (Compare i c weak) none is same =
    compares_one v d k w t ts (Compare i c weak) (cell_of_name (model_state v) w.slots c) (compared_in w.slots (comparing w.slots i weak))
    (seen v (cell_of_name (model_state v) w.slots c))
    none is refl
counted_act v d k w t ts (Holds i c) none is same =
    held_one v d k w (went (model_state v) d w k ts (Holds i c)) _ (plain v d k w t ts (Holds i c) none is refl) (may_go w.slots c i) _ _ _
counted_act v d k w t ts Drop none is same =
    left v d k w (went (model_state v) d w k ts Drop) (slot_pointer w.slots (other w.slots)) (went_less (model_state v) d k w t ts Drop none is)
counted_act v d k w t ts (OnShelf x) none is same =
    moved_one v d k w (went (model_state v) d w k ts (OnShelf x)) x (plain v d k w t ts (OnShelf x) none is refl) (shelf_block (model_state v) d x)

counted_task : (v : GhostState) (d : ℕ) (w : FrameView) (ts : List Task) → w.endings ≡ [] → w.todo ≡ ts → IsCounted v d Rest w (begun v d w ts)
counted_task v d w [] none is = record { made = plus_none _; ended = plus_none _; few = omega arith }
counted_task v d w (t ∷ ts) none is = counted_act v d t.statement w t ts t.act none is refl

counted_end : (v : GhostState) (d : ℕ) (w : FrameView) (e : Ending) (es : List Ending) → w.endings ≡ e ∷ es → IsFree w.slots
    → IsCounted v d Rest w (Some (ends_on v w e es))
counted_end v d w e es is free =
    let a = over_less w e es is free in
    let b = staged_most w e es is free in
    let finished : Step = record {
      atomic_step = Some (atomic_step.Finish e.block (weak (model_state v) (object_of_block v e.block) == 0));
      pending_call = Rest;
      frame_view = with_endings w es;
      said = silent e.statement;
    } in
    let cleared = within (with_endings w (staged e ∷ es)) e.statement (Some (atomic_step.Clear e.block e.stage)) Rest in
    let looked = within w e.statement None Clearing in
    let P : Step → Type 0 = λ x. IsCounted v d Rest w (Some x) in
    cond_both (e.stage == 3) finished (cond (word_of_cell v (Member e.block e.stage) == 0) cleared looked) P
    (λ _. record { made = plus_none _; ended = plus_none _; few = omega (arith, a) })
    (λ _. cond_both (word_of_cell v (Member e.block e.stage) == 0) cleared looked P
    (λ _. record { made = plus_none _; ended = plus_none _; few = omega (arith, b) })
    (λ _. record { made = plus_none _; ended = plus_none _; few = omega arith }))

-- what a member holds comes out
counted_out : (v : GhostState) (d : ℕ) (w : FrameView) (es : List Ending) → w.endings ≡ es → IsClearingMember w.slots es
    → IsCounted v d Clearing w (emptied v w es)
counted_out v d w [] is held = record { made = plus_none _; ended = plus_none _; few = omega arith }
counted_out v d w (e ∷ es) is held =
    let x = empties v w e es in
    let a = taken_out w x.frame_view.slots e es is held.0 in
    let b = carried_most (staged e ∷ es) x.frame_view.slots in
    record { made = plus_none _; ended = plus_none _; few = omega (arith, a, b) }

counted_rest : (v : GhostState) (d : ℕ) (w : FrameView) (es : List Ending) → w.endings ≡ es → IsCounted v d Rest w (at_rest v d w es)
counted_rest v d w [] is = counted_task v d w w.todo is refl
counted_rest v d w (e ∷ es) is =
    cond_both (is_full (slot_pointer w.slots (hand w.slots))) (first v d w e.statement w.todo (Leave (hand w.slots))) (ends_on v w e es)
    (λ (x : Step). IsCounted v d Rest w (Some x))
    (λ full. left v d e.statement w (went (model_state v) d w e.statement w.todo (Leave (hand w.slots))) (slot_pointer w.slots (hand w.slots))
    (carried_leaves (model_state v) d e.statement w e es is full)) (λ free. counted_end v d w e es is free)

counted_try : (v : GhostState) (d word : ℕ) (w : FrameView) (t : Task) (ts : List Task) (a : Act) (o : Option Handle) → w.endings ≡ [] → w.todo ≡ t ∷ ts
    → locked_pointer w.slots a ≡ o → IsCounted v d (Locking word) w (option_map (tries v d w t.statement ts a word) o)
counted_try v d word w t ts a None none is e = record { made = plus_none _; ended = plus_none _; few = omega arith }
counted_try v d word w t ts (Lock i must) (Some y) none is e =
    tried_or v d t.statement (Locking word) w t ts (owner_word v y) i must y (owner_word v y == word) refl none is
counted_try v d word w t ts (Make form) (Some y) none is e = cc
counted_try v d word w t ts (Share i) (Some y) none is e = cc
counted_try v d word w t ts (Downgrade i) (Some y) none is e = cc
counted_try v d word w t ts (Put i) (Some y) none is e = cc
counted_try v d word w t ts (Leave i) (Some y) none is e = cc
counted_try v d word w t ts (Clear i) (Some y) none is e = cc
counted_try v d word w t ts (Count i) (Some y) none is e = cc
counted_try v d word w t ts (Expired i) (Some y) none is e = cc
counted_try v d word w t ts (Read i) (Some y) none is e = cc
counted_try v d word w t ts (FromThis i kind) (Some y) none is e = cc
counted_try v d word w t ts (Alias i j field) (Some y) none is e = cc
counted_try v d word w t ts (Move i) (Some y) none is e = cc
counted_try v d word w t ts (Ask q) (Some y) none is e = cc
counted_try v d word w t ts (Offer i c) (Some y) none is e = cc
counted_try v d word w t ts (Swap c) (Some y) none is e = cc
counted_try v d word w t ts (Exchange i c) (Some y) none is e = cc
counted_try v d word w t ts (Holds i c) (Some y) none is e = cc
counted_try v d word w t ts (Load c) (Some y) none is e = cc
counted_try v d word w t ts (Compare i c weak) (Some y) none is e = cc
counted_try v d word w t ts Drop (Some y) none is e = cc
counted_try v d word w t ts (OnShelf x) (Some y) none is e = cc

counted_lock : (v : GhostState) (d word : ℕ) (w : FrameView) (ts : List Task) → w.endings ≡ [] → w.todo ≡ ts
    → IsCounted v d (Locking word) w (tried v d w word ts)
counted_lock v d word w [] none is = record { made = plus_none _; ended = plus_none _; few = omega arith }
counted_lock v d word w (t ∷ ts) none is = counted_try v d word w t ts t.act (locked_pointer w.slots t.act) none is refl

-- each step is counted
pub counted : (v : GhostState) (d : ℕ) (h : PendingCall) (w : FrameView) → IsUnderWay d v h w.todo → IsTried h w → IsAlone h w.endings
    → IsCounted v d h w (step_at v d h w)
counted v d Rest w way held alone = counted_rest v d w w.endings refl
counted v d (Making b i f) w way held alone = counted_make v d i w b f w.todo refl alone way
counted v d (Locking word) w way held alone = counted_lock v d word w w.todo alone refl
counted v d (Giving i kind x) w way held alone = counted_give v d i kind x w w.todo refl alone
counted v d Brought w way held alone = counted_send v d w w.todo alone refl
counted v d (Saw x) w way held alone = counted_saw v d w x w.todo alone refl
counted v d (Matched x) w way held alone = counted_match v d w x w.todo alone refl
counted v d (Refill stage c x k) w way held alone = counted_refill v d stage c x k w
counted v d (Returning kind b funds k) w way held alone = record { made = plus_none _; ended = plus_none _; few = omega arith }
counted v d Clearing w way held alone = counted_out v d w w.endings refl held
