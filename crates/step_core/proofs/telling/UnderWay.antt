-- What calls under way owe the numbers of a block, and what they have added to them: the threads' loads and makes.
use Rattle.std.proofs.Common.{◌≡◌, ℕ, suc, ◌<◌, ◌≤◌, Bool, true, false, cond, ◌&&◌, ◌≢◌, List, []}
use Rattle.std.proofs.Common.{◌∷◌, map, length, get_or, ◌==◌, Some, sum_by, Option, sym, refl, ap}
use Rattle.std.proofs.Common.{◌∙◌, subst, ⊎_elim, arith, eq-eqb, ne_eqb}
use Rattle.step_core.proofs.Prelude
use Prelude.{Act, added, AllFit, Block, Brought, cases_eq, CellWord, Checking, Clearing}
use Prelude.{cond-false, Empty, Failing, Full, GhostState, Giving, handle_busy, Idle, is_load_on}
use Prelude.{is_loading, is_make_in, IsBusy, Kind, kind_in_state, Lacking, length-map, loads_on}
use Prelude.{Locking, makes_in, Making, Matched, model_state, new_of, Nothing, owed, owes}
use Prelude.{owing_for, owing_funds, Owner, Pending, pending, PendingCall, PendingCallFits, Place}
use Prelude.{Refill, RefillFits, Refilling, Rest, Returning, Saw, Site, Slot, slot, Slots, spot}
use Prelude.{Stage, State, sum_by-cons, TableInvariant, task_at, there, Thread, thread_pending}
use Prelude.{Turning, used_up, View, Weak}
use Rattle.control_word.proofs.words.Frames.{spot_apart, total_none}
use Rattle.control_word.specs.Handles.{same_kind}
use Rattle.control_word.specs.Views.{adds, total}
use Rattle.step_core.specs.Showing.{is_on_block}
use Rattle.step_core.proofs.Worlds.{pending_call_owes}
use Rattle.step_core.proofs.telling.CallCounts.{few_calls}
use Rattle.step_core.proofs.telling.Census.{at_thread, at_view, pending_call_at}
use Rattle.step_core.proofs.watching.Blocks.{least_there}

-- ---- what one desk's half-done call owes and has added

slot_least : (k : Kind) → slot k < 2
slot_least Owner = omega arith
slot_least Weak = omega arith

same_slot : (k m : Kind) → slot k ≡ slot m → same_kind m k ≡ true
same_slot Owner Owner e = refl
same_slot Owner Weak e = absurd (omega arith)
same_slot Weak Owner e = absurd (omega arith)
same_slot Weak Weak e = refl

other_slot : (k m : Kind) → slot k ≢ slot m → same_kind m k ≡ false
other_slot Owner Owner n = absurd (n refl)
other_slot Owner Weak n = refl
other_slot Weak Owner n = refl
other_slot Weak Weak n = absurd (n refl)

-- two words that count handles are one just where block and kind are
same_word : (b c : ℕ) (k m : Kind) → 0 < b → 0 < c → (spot b (slot k) == spot c (slot m)) ≡ ((c == b) && same_kind m k)
same_word b c k m some some' =
    let l = slot_least k in
    let l' = slot_least m in
    ⊎_elim
    (λ (e : c ≡ b).
    ⊎_elim
    (λ (q : slot k ≡ slot m).
    eq-eqb (spot b (slot k)) (spot c (slot m)) (omega (arith, e, q))
    ∙ sym (ap (λ (x : Bool). x && same_kind m k) (eq-eqb c b e) ∙ same_slot k m q))
    (λ (n : slot k ≢ slot m).
    ne_eqb (spot b (slot k)) (spot c (slot m)) (λ q. n (omega (arith, e, q)))
    ∙ sym (ap (λ (x : Bool). x && same_kind m k) (eq-eqb c b e) ∙ other_slot k m n))
    (cases_eq (slot k) (slot m)))
    (λ (n : c ≢ b).
    ne_eqb (spot b (slot k)) (spot c (slot m))
    (λ q. n (sym (spot_apart b (slot k) c (slot m) some some' (omega (arith, l)) (omega (arith, l')) q).0))
    ∙ sym (ap (λ (x : Bool). x && same_kind m k) (ne_eqb c b n)))
    (cases_eq c b)

-- only a load that is under way is one
no_load : (s : State) (b : ℕ) (k : Kind) (h : PendingCall) → is_loading h ≡ false → is_load_on s b k h ≡ false
no_load s b k Rest e = refl
no_load s b k (Making c j f) e = refl
no_load s b k (Locking word) e = refl
no_load s b k (Giving j m x) e = refl
no_load s b k Brought e = refl
no_load s b k (Saw x) e = refl
no_load s b k (Matched x) e = refl
no_load s b k (Refill Turning c x n) e = cc
no_load s b k (Refill Checking c x n) e = refl
no_load s b k (Refill Lacking c x n) e = refl
no_load s b k (Refill Refilling c x n) e = refl
no_load s b k (Refill Failing c x n) e = refl
no_load s b k (Returning m c funds n) e = refl
no_load s b k Clearing e = refl

module _ (v : GhostState) (d b : ℕ) (kept : TableInvariant v) (some : 0 < b) where
  -- a load owes its handle to the word that counts such handles
  load_owes : (k : Kind) (c : Site) (x : CellWord) (n : ℕ) → RefillFits d Turning c x v
      → owes (pending v d) (spot b (slot k)) ≡ cond (is_load_on (model_state v) b k (Refill Turning c x n)) 1 0
  load_owes k c x n fits =
      let m = kind_in_state (model_state v) c in
      let inside = (there v fits.block kept (handle_busy v d m fits.block x.place kept fits.has)).1 in
      ap (λ (p : Pending Nothing). owes p (spot b (slot k))) fits.pays
      ∙ ap (λ (t : Bool). cond {A = ℕ} t 1 0)
      (same_word b fits.block.0 k m some inside.0
      ∙ ap (λ (o : Option Block). is_on_block b (record x { owned = o }) && same_kind m k) (sym fits.owned))

  quiet_owes : (k : Kind) (h : PendingCall) (slots : Slots) (a : Act) → PendingCallFits d h slots a v → is_loading h ≡ false
      → owes (pending v d) (spot b (slot k)) ≡ cond (is_load_on (model_state v) b k h) 1 0
  quiet_owes k h slots a fits quiet =
      pending_call_owes d h slots a v (spot b (slot k)) fits quiet
      ∙ sym (cond-false (is_load_on (model_state v) b k h) 1 0 (no_load (model_state v) b k h quiet))

  pub owes_loads : (k : Kind) (h : PendingCall) (slots : Slots) (a : Act) → PendingCallFits d h slots a v
      → owes (pending v d) (spot b (slot k)) ≡ cond (is_load_on (model_state v) b k h) 1 0
  owes_loads k Rest slots a fits = quiet_owes k Rest slots a fits refl
  owes_loads k (Making c j f) slots a fits = quiet_owes k (Making c j f) slots a fits refl
  owes_loads k (Locking word) slots a fits = quiet_owes k (Locking word) slots a fits refl
  owes_loads k (Giving j m x) slots a fits = quiet_owes k (Giving j m x) slots a fits refl
  owes_loads k Brought slots a fits = quiet_owes k Brought slots a fits refl
  owes_loads k (Saw x) slots a fits = quiet_owes k (Saw x) slots a fits refl
  owes_loads k (Matched x) slots a fits = quiet_owes k (Matched x) slots a fits refl
  owes_loads k (Refill Turning c x n) slots a fits = load_owes k c x n fits
  owes_loads k (Refill Checking c x n) slots a fits = quiet_owes k (Refill Checking c x n) slots a fits refl
  owes_loads k (Refill Lacking c x n) slots a fits = quiet_owes k (Refill Lacking c x n) slots a fits refl
  owes_loads k (Refill Refilling c x n) slots a fits = quiet_owes k (Refill Refilling c x n) slots a fits refl
  owes_loads k (Refill Failing c x n) slots a fits = quiet_owes k (Refill Failing c x n) slots a fits refl
  owes_loads k (Returning m c funds n) slots a fits = quiet_owes k (Returning m c funds n) slots a fits refl
  owes_loads k Clearing slots a fits = quiet_owes k Clearing slots a fits refl

  -- funds, and what isn't begun, add nothing
  idle_adds : (i : ℕ) → pending v d ≡ Idle → adds (pending v d) i ≡ 0
  idle_adds i idle = ap (λ (p : Pending Nothing). adds p i) idle

  paying_adds : (i : ℕ) (k : Kind) (c : Block) (p : Option Place) (n l : ℕ) → pending v d ≡ owing_funds (model_state v) k (Some c) p n l
      → adds (pending v d) i ≡ 0
  paying_adds i k c p n l is = ap (λ (q : Pending Nothing). adds q i) is

  brought_adds : (i : ℕ) (a : Slot) → pending v d ≡ owing_for (model_state v) a 256 → adds (pending v d) i ≡ 0
  brought_adds i (Empty p) is = idle_adds i is
  brought_adds i (Full x) is = paying_adds i x.kind x.block x.place 256 0 is

  -- what is added to a word by all but a make
  stage_adds : (i : ℕ) (stage : Stage) (c : Site) (x : CellWord) → RefillFits d stage c x v → adds (pending v d) i ≡ 0
  stage_adds i Turning c x fits = paying_adds i (kind_in_state (model_state v) c) fits.block x.place 1 1 fits.pays
  stage_adds i Checking c x fits = idle_adds i fits.pays
  stage_adds i Lacking c x fits = idle_adds i fits.pays
  stage_adds i Refilling c x fits = paying_adds i (kind_in_state (model_state v) c) fits.block x.place x.taken 0 fits.pays
  stage_adds i Failing c x fits = paying_adds i (kind_in_state (model_state v) c) fits.block x.place x.taken 0 fits.pays

  -- a make has added 1 to its block's weak word
  make_adds : (c : Block) → 0 < c.0 → (spot b 1 == spot c.0 1) ≡ (c.0 == b)
  make_adds c some' =
      ⊎_elim (λ (e : c.0 ≡ b). eq-eqb (spot b 1) (spot c.0 1) (omega (arith, e)) ∙ sym (eq-eqb c.0 b e))
      (λ (n : c.0 ≢ b). ne_eqb (spot b 1) (spot c.0 1) (λ q. n (omega (arith, q, some, some'))) ∙ sym (ne_eqb c.0 b n))
      (cases_eq c.0 b)

  pub adds_makes : (h : PendingCall) (slots : Slots) (a : Act) → PendingCallFits d h slots a v
      → adds (pending v d) (spot b 1) ≡ cond (is_make_in b h) 1 0
  adds_makes Rest slots a fits = idle_adds (spot b 1) fits
  adds_makes (Making c j f) slots a fits =
      ap (λ (p : Pending Nothing). adds p (spot b 1)) fits.making.making
      ∙ ap (λ (t : Bool). cond {A = ℕ} t 1 0) (make_adds c (least_there v d c kept fits.least).0)
  adds_makes (Locking word) slots a fits = idle_adds (spot b 1) fits.0
  adds_makes (Giving j m x) slots a fits = idle_adds (spot b 1) fits.idle
  adds_makes Brought slots a fits = brought_adds (spot b 1) (new_of slots a) fits
  adds_makes (Saw x) slots a fits = idle_adds (spot b 1) fits.0
  adds_makes (Matched x) slots a fits = brought_adds (spot b 1) (new_of slots a) fits.0
  adds_makes (Refill stage c x n) slots a fits = stage_adds (spot b 1) stage c x fits
  adds_makes (Returning m c funds n) slots a fits = paying_adds (spot b 1) m c fits.0 funds 0 fits.1
  adds_makes Clearing slots a fits = idle_adds (spot b 1) fits

  -- nobody adds to the owners
  pub adds_none : (h : PendingCall) (slots : Slots) (a : Act) → PendingCallFits d h slots a v → adds (pending v d) (spot b 0) ≡ 0
  adds_none Rest slots a fits = idle_adds (spot b 0) fits
  adds_none (Making c j f) slots a fits =
      ap (λ (p : Pending Nothing). adds p (spot b 0)) fits.making.making
      ∙ cond-false (spot b 0 == spot c.0 1) 1 0 (ne_eqb (spot b 0) (spot c.0 1) (λ q. omega (arith, q)))
  adds_none (Locking word) slots a fits = idle_adds (spot b 0) fits.0
  adds_none (Giving j m x) slots a fits = idle_adds (spot b 0) fits.idle
  adds_none Brought slots a fits = brought_adds (spot b 0) (new_of slots a) fits
  adds_none (Saw x) slots a fits = idle_adds (spot b 0) fits.0
  adds_none (Matched x) slots a fits = brought_adds (spot b 0) (new_of slots a) fits.0
  adds_none (Refill stage c x n) slots a fits = stage_adds (spot b 0) stage c x fits
  adds_none (Returning m c funds n) slots a fits = paying_adds (spot b 0) m c fits.0 funds 0 fits.1
  adds_none Clearing slots a fits = idle_adds (spot b 0) fits

-- a load under way is of an object that has a handle, so its block isn't vacant
rest_load : (v : GhostState) (d b : ℕ) → TableInvariant v → (k : Kind) → (IsBusy (model_state v) ((model_state v).latest b) → ⊥) → (h : PendingCall)
    (slots : Slots) (a : Act) → PendingCallFits d h slots a v → is_load_on (model_state v) b k h ≡ false
rest_load v d b kept k rest Rest slots a fits = refl
rest_load v d b kept k rest (Making c j f) slots a fits = refl
rest_load v d b kept k rest (Locking word) slots a fits = refl
rest_load v d b kept k rest (Giving j m x) slots a fits = refl
rest_load v d b kept k rest Brought slots a fits = refl
rest_load v d b kept k rest (Saw x) slots a fits = refl
rest_load v d b kept k rest (Matched x) slots a fits = refl
rest_load v d b kept k rest (Refill Checking c x n) slots a fits = refl
rest_load v d b kept k rest (Refill Lacking c x n) slots a fits = refl
rest_load v d b kept k rest (Refill Refilling c x n) slots a fits = refl
rest_load v d b kept k rest (Refill Failing c x n) slots a fits = refl
rest_load v d b kept k rest (Returning m c funds n) slots a fits = refl
rest_load v d b kept k rest Clearing slots a fits = refl
rest_load v d b kept k rest (Refill Turning c x n) slots a fits =
    let m = kind_in_state (model_state v) c in
    let busy = handle_busy v d m fits.block x.place kept fits.has in
    let other : (fits.block.0 == b) ≡ false =
    ne_eqb fits.block.0 b (λ e. rest (subst (λ (i : ℕ). IsBusy (model_state v) ((model_state v).latest i)) e busy)) in
    ap (λ (o : Option Block). is_on_block b (record x { owned = o }) && same_kind m k) fits.owned
    ∙ ap (λ (t : Bool). t && same_kind m k) other

-- ---- what all desks' calls owe and have added

total_sum : (f : Pending Nothing → ℕ) (g : PendingCall → ℕ) (views : List (View Nothing)) (hs : List PendingCall) → length views ≡ length hs
    → ((d : ℕ) → d < length hs → f (get_or views d used_up).pending ≡ g (get_or hs d Rest)) → total (λ (w : View Nothing). f w.pending) views ≡ sum_by g hs
total_sum f g [] [] size each = refl
total_sum f g [] (h ∷ hs) size each = absurd (omega (arith, size))
total_sum f g (w ∷ ws) [] size each = absurd (omega (arith, size))
total_sum f g (w ∷ ws) (h ∷ hs) size each =
    let t = total_sum f g ws hs (omega (arith, size)) (λ d lt. each (suc d) (omega (arith, lt))) in
    let first = each 0 (omega arith) in
    let c = sum_by-cons g h hs in omega (arith, t, first, c)

module _ (v : GhostState) (threads : List Thread) (b : ℕ) (fit : AllFit v threads) (kept : TableInvariant v)
    (size : length threads ≡ v.extent.actors) (some : 0 < b) where
  in_threads : (f : Pending Nothing → ℕ) (g : PendingCall → ℕ)
      → ((d : ℕ) (t : Thread) → PendingCallFits d t.pending_call t.frame.registers.slots.items (task_at t.frame).act v → f (pending v d) ≡ g t.pending_call)
      → total (λ (w : View Nothing). f w.pending) v.views ≡ sum_by g (map thread_pending threads)
  in_threads f g each =
      let many = length-map threads thread_pending in
      let seats = kept.seats.size in
      total_sum f g v.views (map thread_pending threads) (omega (arith, many, seats, size))
      (λ d lt.
      let t = at_thread threads d (omega (arith, lt, many)) in
      each d t.0 (fit.each d t.0 t.1).pending_call ∙ ap g (sym (pending_call_at threads d t.0 t.1)))

  pub owed_loads : (k : Kind) → owed v.views (spot b (slot k)) ≡ loads_on (model_state v) b k (map thread_pending threads)
  owed_loads k =
      in_threads (λ (p : Pending Nothing). owes p (spot b (slot k))) (λ (h : PendingCall). cond (is_load_on (model_state v) b k h) 1 0)
      (λ d t fits. owes_loads v d b kept some k t.pending_call t.frame.registers.slots.items (task_at t.frame).act fits)

  pub added_makes : added v.views (spot b 1) ≡ makes_in b (map thread_pending threads)
  added_makes =
      in_threads (λ (p : Pending Nothing). adds p (spot b 1)) (λ (h : PendingCall). cond (is_make_in b h) 1 0)
      (λ d t fits. adds_makes v d b kept some t.pending_call t.frame.registers.slots.items (task_at t.frame).act fits)

  -- there is none of it
  none_in : (f : Pending Nothing → ℕ)
      → ((d : ℕ) (t : Thread) → PendingCallFits d t.pending_call t.frame.registers.slots.items (task_at t.frame).act v → f (pending v d) ≡ 0)
      → total (λ (w : View Nothing). f w.pending) v.views ≡ 0
  none_in f each =
      total_none (λ (w : View Nothing). f w.pending) v.views (λ i w at.
      let seats = kept.seats.size in
      let r = at_view v.views i w at in
      let l = r.0 in
      let t = at_thread threads i (omega (arith, l, seats, size)) in
      ap (λ (x : View Nothing). f x.pending) (sym r.1) ∙ each i t.0 (fit.each i t.0 t.1).pending_call)

  pub added_none : added v.views (spot b 0) ≡ 0
  added_none =
      none_in (λ (p : Pending Nothing). adds p (spot b 0))
      (λ d t fits. adds_none v d b kept some t.pending_call t.frame.registers.slots.items (task_at t.frame).act fits)

  -- on a block that no handle is on, no load is under way
  pub owed_none : (k : Kind) → (IsBusy (model_state v) ((model_state v).latest b) → ⊥) → owed v.views (spot b (slot k)) ≡ 0
  owed_none k rest =
      none_in (λ (p : Pending Nothing). owes p (spot b (slot k)))
      (λ d t fits.
      owes_loads v d b kept some k t.pending_call t.frame.registers.slots.items (task_at t.frame).act fits
      ∙ cond-false (is_load_on (model_state v) b k t.pending_call) 1 0
      (rest_load v d b kept k rest t.pending_call t.frame.registers.slots.items (task_at t.frame).act fits))

  pub added_few : added v.views (spot b 1) ≤ 64
  added_few =
      let few = few_calls (is_make_in b) (map thread_pending threads) in
      let made = added_makes in
      let many = length-map threads thread_pending in
      let most = kept.proper.few in omega (arith, few, made, many, most, size)
