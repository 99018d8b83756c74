-- How many steps a thread has left, step by step.
use Rattle.std.proofs.Common.{◌≡◌, ℕ, ◌+◌, ◌<◌, ◌≤◌, Bool, true, false, cond, List, [], ◌∷◌}
use Rattle.std.proofs.Common.{get_or, is_some, ◌==◌, Some, None, Option, option_map, sym, refl, ap}
use Rattle.std.proofs.Common.{◌∙◌, arith}
use Rattle.step_core.proofs.Prelude
use Prelude.{Act, Alias, alias, aliased, All-head, alone, Ask, asks, at_rest, begins, begun, Block}
use Prelude.{brings, Brought, cell_of_name, claims, Clear, Clearing, Compare, cond_both, Count}
use Prelude.{Downgrade, downgrade, Drop, Ending, ends_on, EndsAll, eqb-false, Exchange, Expired}
use Prelude.{false≢true, first, Form, form_of, frame_settled, frame_steps, FrameView, FromThis}
use Prelude.{FundsAreHeld, ghost_after, GhostState, give, given_step, Giving, Going, going, hand}
use Prelude.{Handle, HasCell, holding, Holds, holds_step, HoldsBag, idle, inside, is_enabled}
use Prelude.{is_full, is_prepared, IsAlone, IsEndingAtStage, IsInShape, IsStill, IsSwap, IsTried}
use Prelude.{IsUnderWay, Kind, kind_at, known_words, least, Leave, Load, Lock, lock, lock_word}
use Prelude.{locked_pointer, Locking, looks, made_on, Make, Making, Matched, model_state, Move}
use Prelude.{NextActLocks, Offer, offered, on, on_going, OnShelf, other, owner_slot, owner_word}
use Prelude.{pending, PendingCall, place_in, prepares, Put, Read, read_atomic_step, Refill, Rest}
use Prelude.{Returning, Saw, seen, sends, sent, Share, share, shelf_block, shelf_step, silent}
use Prelude.{slot_pointer, spare, Step, step_at, step_of_act, step_of_swap, Swap, TableInvariant}
use Prelude.{Task, tell, tell_expired, tried, tries, trying, waits, waits_at, waits_on, wanted}
use Prelude.{weight, went}
use Rattle.step_threads.specs.NextSteps.{stepped as stepped_by}
use Rattle.step_core.proofs.runs.Clearing.{end_less, out_less}
use Rattle.step_core.proofs.runs.Trying.{alone_back}
use Rattle.step_core.proofs.telling.Leaves.{leaves_by}
use Rattle.step_core.proofs.telling.Walking.{carried_leaves, settled_alone, frame_alone}
use Rattle.step_core.proofs.telling.Walking.{weight_two, went_less}
use Rattle.step_core.proofs.telling.Swapping.{went_swap}
use Rattle.step_core.proofs.runs.Alone.{IsLess, Lessens, alone_of_lock, alone_other, alone_same}
use Rattle.step_core.proofs.runs.Alone.{left_less, none_made, one_made, plain_less}
use Rattle.step_core.proofs.runs.Looking.{compare_less, load_less, refill_less, seen_less}
use Rattle.step_core.proofs.runs.Looking.{swapping_less}

begun_less : (v : GhostState) (d k : ℕ) (w : FrameView) (t : Task) (ts : List Task) (o : Option ℕ) → w.endings ≡ [] → w.todo ≡ t ∷ ts
    → IsLess v d Rest w (Some (begins w k ts o))
begun_less v d k w t ts None none is =
    let l = settled_alone w.slots false ts in
    let n = ap (λ (es : List Ending). frame_steps (frame_settled w.slots false es ts)) none in
    let a = frame_alone w t ts none is in
    let b = weight_two t.act in
    record { own = omega (arith, l, n, a, b); most = omega (arith, l, n, a, b) }
begun_less v d k w t ts (Some b) none is = record { own = omega arith; most = omega arith }

-- a lock that isn't done leaves all tasks: it is tried again with the word that it found, or begins again
trying_less : (v : GhostState) (d k : ℕ) (h : PendingCall) (w : FrameView) (word : ℕ) → lock_word v w.slots w.todo ≡ word → 15 ≤ spare h
    → ((word == 0) ≡ true → 15 < alone v w h) → 14 < alone v w h → IsLess v d h w (Some (trying w k word))
trying_less v d k h w word is most none more =
    cond_both (word == 0) Rest (Locking word) (λ (x : PendingCall). Lessens v v h x w w 0 0)
    (λ e. let z = none e in record { own = omega (arith, z); most = omega (arith, most) })
    (λ e. let a = alone_same v w word is in record { own = omega (arith, more, a); most = omega (arith, most) })

word_is : (v : GhostState) (w : FrameView) (t : Task) (ts : List Task) (x : Handle) → w.todo ≡ t ∷ ts → locked_pointer w.slots t.act ≡ Some x
    → lock_word v w.slots w.todo ≡ owner_word v x
word_is v w t ts x is e = ap (lock_word v w.slots) is ∙ ap (on (owner_word v) 0) e

looked_less : (v : GhostState) (d k : ℕ) (w : FrameView) (t : Task) (ts : List Task) (i : ℕ) (must : Bool) (o : Option Handle) → w.endings ≡ []
    → w.todo ≡ t ∷ ts → t.act ≡ Lock i must → locked_pointer w.slots (Lock i must) ≡ o
    → IsLess v d Rest w (Some (on (looks v d w k ts (Lock i must)) (step_of_act v d w k ts (Lock i must) None Rest) o))
looked_less v d k w t ts i must None none is a e = plain_less v d k Rest w t ts (Lock i must) None refl refl none is (omega arith) (omega arith)
looked_less v d k w t ts i must (Some x) none is a e =
    cond_both (owner_word v x == 0) (step_of_act v d w k ts (Lock i must) (Some (lock (model_state v) x)) Rest) (trying w k (owner_word v x))
    (λ (y : Step). IsLess v d Rest w (Some y))
    (λ _. plain_less v d k Rest w t ts (Lock i must) (Some (lock (model_state v) x)) refl refl none is (omega arith) (omega arith))
    (λ ne. trying_less v d k Rest w (owner_word v x) (word_is v w t ts x is (ap (locked_pointer w.slots) a ∙ e)) (omega arith)
    (λ z. absurd (false≢true (sym ne ∙ z))) (omega arith))

-- an object that is asked has one step more: it gives a pointer then
asked_less : (v : GhostState) (d k : ℕ) (w : FrameView) (t : Task) (ts : List Task) (i : ℕ) (q : Kind) (o : Option Handle)
    → w.endings ≡ [] → w.todo ≡ t ∷ ts
    → IsLess v d Rest w (Some (on (asks v d w k ts i q) (step_of_act v d w k ts (FromThis i q) None Rest) o))
asked_less v d k w t ts i q None none is = plain_less v d k Rest w t ts (FromThis i q) None refl refl none is (omega arith) (omega arith)
asked_less v d k w t ts i q (Some x) none is =
    cond_both (is_enabled (model_state v) x) (record { atomic_step = None; pending_call = Giving i q x; frame_view = w; said = silent k })
    (step_of_act v d w k ts (FromThis i q) None Rest) (λ (y : Step). IsLess v d Rest w (Some y))
    (λ b. record { own = omega arith; most = omega arith })
    (λ b. plain_less v d k Rest w t ts (FromThis i q) None refl refl none is (omega arith) (omega arith))

give_less : (v : GhostState) (d i : ℕ) (q : Kind) (x : Handle) (w : FrameView) (ts : List Task) → w.endings ≡ [] → w.todo ≡ ts
    → IsUnderWay d v (Giving i q x) ts → IsLess v d (Giving i q x) w (given_step v d w i q x ts)
give_less v d i q x w [] none is way = absurd way
give_less v d i q x w (t ∷ ts) none is way =
    plain_less v d t.statement (Giving i q x) w t ts (FromThis i q) (Some (give q x)) refl refl none is (omega arith) (omega arith)

-- a value goes into a cell
swapped_less : (v : GhostState) (d k : ℕ) (h : PendingCall) (w : FrameView) (t : Task) (ts : List Task) (a : Act) (x : Going) → is_prepared h ≡ false
    → w.endings ≡ [] → w.todo ≡ t ∷ ts → t.act ≡ a → going w.slots a ≡ Some x → 14 ≤ alone v w h → 15 ≤ spare h
    → IsLess v d h w (Some (step_of_swap v d w k ts a x.0 x.1))
swapped_less v d k h w t ts a x unmade none is same goes own most =
    let y = step_of_swap v d w k ts a x.0 x.1 in
    let found = seen v (cell_of_name (model_state v) w.slots x.0) in
    let l = went_swap (model_state v) d k w t ts a x none is same goes in
    let m = none_made h (stepped_by v (Some y)) unmade in
    let r = alone_back (ghost_after v d y.atomic_step) y.frame_view (kind_at x.0) k found found.owned in
    let b = r.0 in
    let s = r.1 in
    record { own = omega (arith, l, m, own, b); most = omega (arith, l, m, most, s) }

-- its funds are brought first, where it has an object
brought_less : (v : GhostState) (d k : ℕ) (w : FrameView) (t : Task) (ts : List Task) (a : Act) (x : Going) → w.endings ≡ [] → w.todo ≡ t ∷ ts
    → t.act ≡ a → going w.slots a ≡ Some x → (o : Option Handle)
    → IsLess v d Rest w (Some (on (brings w k) (step_of_swap v d w k ts a x.0 x.1) o))
brought_less v d k w t ts a x none is same goes None = swapped_less v d k Rest w t ts a x refl none is same goes (omega arith) (omega arith)
brought_less v d k w t ts a x none is same goes (Some y) = record { own = omega arith; most = omega arith }

going_less : (v : GhostState) (d k : ℕ) (w : FrameView) (t : Task) (ts : List Task) (a : Act) (o : Option Going) → w.endings ≡ [] → w.todo ≡ t ∷ ts
    → t.act ≡ a → going w.slots a ≡ o → leaves_by w.slots a ≡ None
    → IsLess v d Rest w (Some (on_going (sends v d w k ts a) (step_of_act v d w k ts a None Rest) o))
going_less v d k w t ts a None none is same goes stays = plain_less v d k Rest w t ts a None refl stays none is (omega arith) (omega arith)
going_less v d k w t ts a (Some x) none is same goes stays = brought_less v d k w t ts a x none is same goes (slot_pointer w.slots x.1)

sent_less : (v : GhostState) (d : ℕ) (w : FrameView) (ts : List Task) → w.endings ≡ [] → w.todo ≡ ts → IsSwap w.slots ts
    → IsLess v d Brought w (sent v d w ts)
sent_less v d w [] none is held = absurd held
sent_less v d w (t ∷ ts) none is held = go (going w.slots t.act) refl held
  where
    go : (o : Option Going) → going w.slots t.act ≡ o → is_some o ≡ true
        → IsLess v d Brought w (option_map (λ (x : Going). step_of_swap v d w t.statement ts t.act x.0 x.1) o)
    go None goes some = absurd (false≢true some)
    go (Some x) goes some = swapped_less v d t.statement Brought w t ts t.act x refl none is refl goes (omega arith) (omega arith)

first_less : (v : GhostState) (d k : ℕ) (w : FrameView) (t : Task) (ts : List Task) (a : Act) → TableInvariant v → d < v.extent.actors → HoldsBag d w.slots v
    → w.endings ≡ [] → w.todo ≡ t ∷ ts → t.act ≡ a → HasCell v.extent.shape a → idle a w.slots w.taken ≡ false → waits_on v w a ≡ false
    → IsLess v d Rest w (Some (first v d w k ts a))
first_less v d k w t ts (Make form) kept seat holds none is same has still calm = begun_less v d k w t ts (least d (model_state v).stores) none is
first_less v d k w t ts (Put i) kept seat holds none is same has still calm =
    left_less v d k w (went (model_state v) d w k ts (Put i)) (slot_pointer w.slots i) (went_less (model_state v) d k w t ts (Put i) none is)
first_less v d k w t ts (Leave i) kept seat holds none is same has still calm =
    left_less v d k w (went (model_state v) d w k ts (Leave i)) (slot_pointer w.slots i) (went_less (model_state v) d k w t ts (Leave i) none is)
first_less v d k w t ts (Clear i) kept seat holds none is same has still calm =
    left_less v d k w (went (model_state v) d w k ts (Clear i)) (slot_pointer w.slots i) (went_less (model_state v) d k w t ts (Clear i) none is)
first_less v d k w t ts (Lock i must) kept seat holds none is same has still calm =
    looked_less v d k w t ts i must (locked_pointer w.slots (Lock i must)) none is same refl
first_less v d k w t ts (FromThis i kind) kept seat holds none is same has still calm = asked_less v d k w t ts i kind (inside (slot_pointer w.slots i)) none is
first_less v d k w t ts (Share i) kept seat holds none is same has still calm =
    plain_less v d k Rest w t ts (Share i) (option_map share (slot_pointer w.slots i)) refl refl none is (omega arith) (omega arith)
first_less v d k w t ts (Downgrade i) kept seat holds none is same has still calm =
    plain_less v d k Rest w t ts (Downgrade i) (option_map downgrade (slot_pointer w.slots i)) refl refl none is (omega arith) (omega arith)
first_less v d k w t ts (Count i) kept seat holds none is same has still calm =
    plain_less v d k Rest w t ts (Count i) (option_map (tell v) (slot_pointer w.slots i)) refl refl none is (omega arith) (omega arith)
first_less v d k w t ts (Expired i) kept seat holds none is same has still calm =
    plain_less v d k Rest w t ts (Expired i) (option_map (tell_expired (model_state v)) (slot_pointer w.slots i)) refl refl none is (omega arith) (omega arith)
first_less v d k w t ts (Read i) kept seat holds none is same has still calm =
    plain_less v d k Rest w t ts (Read i) (option_map (read_atomic_step (model_state v)) (inside (slot_pointer w.slots i))) refl refl none is
    (omega arith) (omega arith)
first_less v d k w t ts (Alias i j field) kept seat holds none is same has still calm =
    plain_less v d k Rest w t ts (Alias i j field) (option_map (alias (aliased field (place_in w.slots j))) (owner_slot (slot_pointer w.slots i)))
    refl refl none is
    (omega arith) (omega arith)
first_less v d k w t ts (Move i) kept seat holds none is same has still calm =
    plain_less v d k Rest w t ts (Move i) None refl refl none is (omega arith) (omega arith)
first_less v d k w t ts (Ask q) kept seat holds none is same has still calm =
    plain_less v d k Rest w t ts (Ask q) None refl refl none is (omega arith) (omega arith)
first_less v d k w t ts (Offer i c) kept seat holds none is same has still calm =
    plain_less v d k Rest w t ts (Offer i c) (option_map share (offered w.slots i c)) refl refl none is (omega arith) (omega arith)
first_less v d k w t ts (Swap c) kept seat holds none is same has still calm = going_less v d k w t ts (Swap c) (going w.slots (Swap c)) none is same refl refl
first_less v d k w t ts (Exchange i c) kept seat holds none is same has still calm =
    going_less v d k w t ts (Exchange i c) (going w.slots (Exchange i c)) none is same refl refl
first_less v d k w t ts (Load c) kept seat holds none is same has still calm = load_less v d w kept seat holds k t ts c none is same has calm
first_less v d k w t ts (Compare i c weak) kept seat holds none is same has still calm =
    compare_less v d w kept seat holds k t ts i c weak none is same has still calm
first_less v d k w t ts (Holds i c) kept seat holds none is same has still calm =
    plain_less v d k Rest w t ts (Holds i c) (holds_step (model_state v) w.slots i c) refl refl none is (omega arith) (omega arith)
first_less v d k w t ts Drop kept seat holds none is same has still calm =
    left_less v d k w (went (model_state v) d w k ts Drop) (slot_pointer w.slots (other w.slots)) (went_less (model_state v) d k w t ts Drop none is)
first_less v d k w t ts (OnShelf x) kept seat holds none is same has still calm =
    plain_less v d k Rest w t ts (OnShelf x) (shelf_step x (shelf_block (model_state v) d x)) refl refl none is (omega arith) (omega arith)

task_less : (v : GhostState) (d : ℕ) (w : FrameView) (ts : List Task) → TableInvariant v → d < v.extent.actors → HoldsBag d w.slots v → w.endings ≡ [] → w.todo
    ≡ ts
    → IsInShape v.extent.shape ts → IsStill w ts → waits_at v w [] ts ≡ false → IsLess v d Rest w (begun v d w ts)
task_less v d w [] kept seat holds none is has still calm = (is, none, refl)
task_less v d w (t ∷ ts) kept seat holds none is has still calm =
    first_less v d t.statement w t ts t.act kept seat holds none is refl has still calm

rest_less : (v : GhostState) (d : ℕ) (w : FrameView) (es : List Ending) → TableInvariant v → d < v.extent.actors → HoldsBag d w.slots v → w.endings ≡ es
    → EndsAll d es v → IsInShape v.extent.shape w.todo → IsStill w w.todo → waits_at v w es w.todo ≡ false → IsLess v d Rest w (at_rest v d w es)
rest_less v d w [] kept seat holds is ends has still calm = task_less v d w w.todo kept seat holds is refl has still calm
rest_less v d w (e ∷ es) kept seat holds is ends has still calm =
    cond_both (is_full (slot_pointer w.slots (hand w.slots))) (first v d w e.statement w.todo (Leave (hand w.slots))) (ends_on v w e es)
    (λ (x : Step). IsLess v d Rest w (Some x))
    (λ full. left_less v d e.statement w (went (model_state v) d w e.statement w.todo (Leave (hand w.slots))) (slot_pointer w.slots (hand w.slots))
    (carried_leaves (model_state v) d e.statement w e es is full))
    (λ free. end_less v d w e es is free (All-head (λ (x : Ending). IsEndingAtStage d x v) e es ends.each).within)

prepared_less : (v : GhostState) (d found want k i : ℕ) (w : FrameView) (b : Block) (f : Bool) → i ≤ 5 → (i ≡ 5 → ⊥)
    → IsLess v d (Making b i f) w (Some (prepares found want w k b i f))
prepared_less v d found want k i w b true le ne = record { own = omega (arith, le, ne); most = omega (arith, le, ne) }
prepared_less v d found want k i w b false le ne =
    cond_both (found == want) (Making b (i + 1) false) (Making b i true) (λ (h : PendingCall). Lessens v v (Making b i false) h w w 0 0)
    (λ e. record { own = omega (arith, le, ne); most = omega (arith, le, ne) })
    (λ e. record { own = omega (arith, le, ne); most = omega (arith, le, ne) })

flag_one : (f : Bool) → 1 ≤ cond f 1 2
flag_one true = omega arith
flag_one false = omega arith

claimed_less : (v : GhostState) (d k i : ℕ) (w : FrameView) (t : Task) (ts : List Task) (b : Block) (f : Bool) (form : Form) → t.act ≡ Make form
    → w.endings ≡ [] → w.todo ≡ t ∷ ts → IsLess v d (Making b i f) w (Some (claims w k ts b form))
claimed_less v d k i w t ts b f form same none is =
    let x = holding w.slots form.null (Some b.0) in
    let l = settled_alone x.0 x.1 ts in
    let n = ap (λ (es : List Ending). frame_steps (frame_settled x.0 x.1 es ts)) none in
    let a = frame_alone w t ts none is in
    let g : weight t.act ≡ 28 = ap weight same in
    let m = one_made (Making b i f) (stepped_by v (Some (claims w k ts b form))) in
    let p = flag_one f in
    record { own = omega (arith, l, n, a, g, m, p); most = omega (arith, l, n, a, g, m, p) }

make_less : (v : GhostState) (d i : ℕ) (w : FrameView) (b : Block) (f : Bool) (ts : List Task) → w.endings ≡ [] → w.todo ≡ ts
    → IsUnderWay d v (Making b i f) ts → IsLess v d (Making b i f) w (made_on v d w b i f ts)
make_less v d i w b f [] none is way = absurd way
make_less v d i w b f (t ∷ ts) none is way =
    let found = get_or (known_words (pending v d)) i 0 in
    let want = get_or (wanted (form_of t.act)) i 0 in
    cond_both (i == 5) (claims w t.statement ts b (form_of t.act)) (prepares found want w t.statement b i f)
    (λ (x : Step). IsLess v d (Making b i f) w (Some x)) (λ e. claimed_less v d t.statement i w t ts b f (form_of t.act) way.2 none is)
    (λ e. prepared_less v d found want t.statement i w b f way.0 (eqb-false i 5 e))

tried_less : (v : GhostState) (d word : ℕ) (w : FrameView) (t : Task) (ts : List Task) (a : Act) (o : Option Handle) → w.endings ≡ [] → w.todo ≡ t ∷ ts
    → t.act ≡ a → locked_pointer w.slots a ≡ o → is_full o ≡ true → IsLess v d (Locking word) w (option_map (tries v d w t.statement ts a word) o)
tried_less v d word w t ts a None none is same e full = absurd (false≢true full)
tried_less v d word w t ts (Lock i must) (Some x) none is same e full =
    let k = t.statement in
    let found_word = word_is v w t ts x is (ap (locked_pointer w.slots) same ∙ e) in
    let low = (alone_of_lock v w word).0 in
    cond_both (owner_word v x == word) (step_of_act v d w k ts (Lock i must) (Some (lock (model_state v) x)) Rest) (trying w k (owner_word v x))
    (λ (y : Step). IsLess v d (Locking word) w (Some y))
    (λ _. plain_less v d k (Locking word) w t ts (Lock i must) (Some (lock (model_state v) x)) refl refl none is low (omega arith))
    (λ ne. let other = alone_other v w word (ap (λ (z : ℕ). z == word) found_word ∙ ne) in
    trying_less v d k (Locking word) w (owner_word v x) found_word (omega arith) (λ _. omega (arith, other)) (omega (arith, other)))
tried_less v d word w t ts (Make form) (Some x) none is same e full = cc
tried_less v d word w t ts (Share i) (Some x) none is same e full = cc
tried_less v d word w t ts (Downgrade i) (Some x) none is same e full = cc
tried_less v d word w t ts (Put i) (Some x) none is same e full = cc
tried_less v d word w t ts (Leave i) (Some x) none is same e full = cc
tried_less v d word w t ts (Clear i) (Some x) none is same e full = cc
tried_less v d word w t ts (Count i) (Some x) none is same e full = cc
tried_less v d word w t ts (Expired i) (Some x) none is same e full = cc
tried_less v d word w t ts (Read i) (Some x) none is same e full = cc
tried_less v d word w t ts (FromThis i kind) (Some x) none is same e full = cc
tried_less v d word w t ts (Alias i j field) (Some x) none is same e full = cc
tried_less v d word w t ts (Move i) (Some x) none is same e full = cc
tried_less v d word w t ts (Ask q) (Some x) none is same e full = cc
tried_less v d word w t ts (Offer i c) (Some x) none is same e full = cc
tried_less v d word w t ts (Swap c) (Some x) none is same e full = cc
tried_less v d word w t ts (Exchange i c) (Some x) none is same e full = cc
tried_less v d word w t ts (Holds i c) (Some x) none is same e full = cc
tried_less v d word w t ts (Load c) (Some x) none is same e full = cc
tried_less v d word w t ts (Compare i c weak) (Some x) none is same e full = cc
tried_less v d word w t ts Drop (Some x) none is same e full = cc
tried_less v d word w t ts (OnShelf y) (Some x) none is same e full = cc

lock_less : (v : GhostState) (d word : ℕ) (w : FrameView) (ts : List Task) → w.endings ≡ [] → w.todo ≡ ts → NextActLocks w.slots ts
    → IsLess v d (Locking word) w (tried v d w word ts)
lock_less v d word w [] none is full = absurd full
lock_less v d word w (t ∷ ts) none is full = tried_less v d word w t ts t.act (locked_pointer w.slots t.act) none is refl refl full

-- each step that isn't the last is one less, where the thread hasn't to wait
module _ (v : GhostState) (d : ℕ) (w : FrameView) (kept : TableInvariant v) (seat : d < v.extent.actors) (holds : HoldsBag d w.slots v) where
  pub less : (h : PendingCall) → IsUnderWay d v h w.todo → IsTried h w → IsAlone h w.endings → EndsAll d w.endings v
      → IsInShape v.extent.shape w.todo → IsStill w w.todo → FundsAreHeld d v h → waits v h w ≡ false → IsLess v d h w (step_at v d h w)
  less Rest way held none ends has still out calm = rest_less v d w w.endings kept seat holds refl ends has still calm
  less (Making b i f) way held none ends has still out calm = make_less v d i w b f w.todo none refl way
  less (Locking word) way held none ends has still out calm = lock_less v d word w w.todo none refl held
  less (Giving i kind x) way held none ends has still out calm = give_less v d i kind x w w.todo none refl way
  less Brought way held none ends has still out calm = sent_less v d w w.todo none refl held
  less (Saw x) way held none ends has still out calm = seen_less v d w kept seat holds x w.todo none refl has still held
  less (Matched x) way held none ends has still out calm = swapping_less v d w kept seat holds x w.todo none refl held
  less (Refill s c x k) way held none ends has still out calm = refill_less v d w kept seat holds s c x k x.owned refl out
  less (Returning kind b funds k) way held none ends has still out calm = record { own = omega arith; most = omega arith }
  less Clearing way held none ends has still out calm = out_less v d w w.endings refl held
