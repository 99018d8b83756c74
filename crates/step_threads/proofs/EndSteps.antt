-- The steps of an object's end keep a thread fitting the table.
use Rattle.std.proofs.Common.{◌≡◌, ℕ, ◌<◌, ◌≤◌, Bool, true, false, cond, ◌≢◌, ◌⊎◌, List, [], ◌∷◌}
use Rattle.std.proofs.Common.{◌==◌, sym, refl, ap, ◌∙◌, subst, inl, inr, ⊎_elim, arith}
use Rattle.step_threads.proofs.Prelude
use Prelude.{All-cons, All-tail, Block, cases_eq, empty, Ending, ending, ending_busy, EndsAll}
use Prelude.{EndsFit, false≢true, Finish, FitsThread, Frame, FrameReady, ghost_after_step}
use Prelude.{GhostState, hand, Idle, is_full, IsCarried, IsEndingAtStage, IsPermutation, IsReady}
use Prelude.{kind_of_member, model_state, Nothing, NumberedHandle, Object, object_of_block}
use Prelude.{pending, PendingCall, PendingCallFits, plain, put_cases, Rest, slot_pointer}
use Prelude.{slot_value, Stack, staged, staged_first, StoreView, sum_by_pushed, TableInvariant}
use Prelude.{task_at, there, Thread, todo, View}
use Rattle.control_word.specs.declared.model.event.Event.TheVariants.{ClearMember}
use Rattle.control_word.specs.Histories.{entry}
use Rattle.step_table.specs.declared.memory.ghost_history.AtomicStep.TheVariants.{Clear}
use Rattle.step_table.proofs.tables.Members.{member_kind}
use Rattle.step_threads.proofs.Endings.{finished_store}
use Rattle.step_threads.proofs.Threads.{own_pending, resting}
use Rattle.step_threads.proofs.holding.Ends.{each_end, once_first, once_rest, once_staged}
use Rattle.step_threads.proofs.holding.Ends.{others_end}

pub idle_here : (d : ℕ) (t : Thread) (v : GhostState) → FitsThread d t v → t.pending_call ≡ Rest → pending v d ≡ Idle
idle_here d t v fits e = subst (λ (h : PendingCall). PendingCallFits d h t.frame.registers.slots.items (task_at t.frame).act v) e fits.pending_call

-- the other endings, once one object is finished
finished_others : (d : ℕ) (v : GhostState) (e : Ending) (es : List Ending) (vacant : Bool) → TableInvariant v → EndsAll d (e ∷ es) v → IsEndingAtStage d e v
    → EndsAll d es (ghost_after_step v d (Finish e.block vacant))
finished_others d v e es vacant kept ends is =
    let o = object_of_block v e.block in
    let at = (there v e.block kept (ending_busy v d e.block is.ending)).0 in
    record {
      each = others_end d v (ghost_after_step v d (Finish e.block vacant)) e.block.0 es
          (λ y n i. record {
            ending = put_cases (λ j (z : Object). z.phase ≡ ending d) (model_state v).object o _ (object_of_block v y.block)
                (λ q. absurd (n (sym (there v y.block kept (ending_busy v d y.block i.ending)).0 ∙ ap
                (λ (k : ℕ). ((model_state v).object k).block) q ∙ at)))
                (λ q. i.ending);
            within = i.within;
            cleared = λ m lt.
                put_cases (λ j (z : Object). z.member m ≡ empty (kind_of_member 2 m)) (model_state v).object o _ (object_of_block v y.block)
                (λ q. ap (λ (k : ℕ). ((model_state v).object k).member m) (sym q) ∙ i.cleared m lt) (λ q. i.cleared m lt);
          }) (once_first d v e es ends) (All-tail (λ y. IsEndingAtStage d y v) e es ends.each);
      once = λ b. once_rest d v e es b ends;
    }

finished_ends : (d : ℕ) (t : Thread) (v : GhostState) (e : Ending) (r : Stack) (vacant : Bool) → TableInvariant v → FitsThread d t v
    → t.frame.endings.list ≡ e ∷ r.list
    → r.room ≡ t.frame.endings.room → IsEndingAtStage d e v
    → EndsFit d (record t.frame { endings = r }) (ghost_after_step v d (Finish e.block vacant))
finished_ends d t v e r vacant kept fits list room is =
    record {
      all = finished_others d v e r.list vacant kept (subst (λ (es : List Ending). EndsAll d es v) list fits.endings.all) is;
      roomy = (let q = fits.endings.roomy in omega (arith, q, room));
      empty = ⊎_elim (λ (n : t.frame.endings.list ≡ []). absurd cc) (λ (n : t.frame.taken ≡ false). inr n) fits.endings.empty;
    }

-- with nothing in hand the endings may change
pub ready_bare : (c : Frame) (es : List Ending) → FrameReady c → is_full (slot_pointer c.registers.slots.items (hand c.registers.slots.items)) ≡ false
    → IsReady c.registers.slots.items c.taken es (todo c)
ready_bare c es ready bare =
    record {
      some = ready.some;
      free = λ t. inl (⊎_elim (λ (p : slot_value c.registers.slots.items (hand c.registers.slots.items) ≡ plain). p)
          (λ (k : IsCarried c.registers.slots.items c.endings.list). absurd (go c.endings.list k)) (ready.free t));
      owes = ready.owes;
      ready = ready.ready;
    }
  where
    go : (l : List Ending) → IsCarried c.registers.slots.items l → ⊥
    go [] k = k
    go (e ∷ l) k = false≢true (sym bare ∙ k)

pub fits_finish : (d : ℕ) (t : Thread) (v : GhostState) (e : Ending) (r : Stack) (s : StoreView) → TableInvariant v → FitsThread d t v → t.pending_call ≡ Rest
    → t.frame.endings.list ≡ e ∷ r.list → r.room ≡ t.frame.endings.room → IsEndingAtStage d e v
    → is_full (slot_pointer t.frame.registers.slots.items (hand t.frame.registers.slots.items)) ≡ false
    → IsPermutation (e.block.0 ∷ t.stock.blocks) s.blocks → t.stock.room ≤ s.room
    → FitsThread d (record { frame = record t.frame { endings = r }; stock = s; pending_call = t.pending_call }) (ghost_after_step v d (Finish e.block true))
fits_finish d t v e r s kept fits rests list same is bare p room =
    let b = e.block in
    let at = (there v b kept (ending_busy v d b is.ending)).0 in
    let x = resting d t v fits rests in
    subst (λ (h : PendingCall). FitsThread d (record {
      frame = record t.frame { endings = r };
      stock = s;
      pending_call =
          h;
    }) (ghost_after_step v d (Finish b true))) (sym rests)
    (record {
      seat = fits.seat;
      holds = record { owned = fits.holds.owned; size = fits.holds.size; formed = fits.holds.formed };
      within = fits.within;
      ready = ready_bare t.frame r.list fits.ready bare;
      still = fits.still;
      pending_call = own_pending v d (Finish b true) kept fits.seat;
      next = tt;
      stocks =
          record {
            stocked = λ c.
                let g = finished_store d v b c at in
                let a = sum_by_pushed (λ (y : ℕ). cond (y == c) 1 0) b.0 t.stock.blocks s.blocks p in
                let o = x.stocked c in omega (arith, g, a, o);
            roomy = (let q = x.roomy in omega (arith, q, room));
          };
      cells = fits.cells;
      endings = finished_ends d t v e r true kept fits list same is;
    })

pub fits_finish_not : (d : ℕ) (t : Thread) (v : GhostState) (e : Ending) (r : Stack) → TableInvariant v → FitsThread d t v → t.pending_call ≡ Rest
    → t.frame.endings.list ≡ e ∷ r.list → r.room ≡ t.frame.endings.room → IsEndingAtStage d e v
    → is_full (slot_pointer t.frame.registers.slots.items (hand t.frame.registers.slots.items)) ≡ false
    → FitsThread d (record { frame = record t.frame { endings = r }; stock = t.stock; pending_call = t.pending_call })
    (ghost_after_step v d (Finish e.block false))
fits_finish_not d t v e r kept fits rests list same is bare =
    let b = e.block in
    let x = resting d t v fits rests in
    subst (λ (h : PendingCall). FitsThread d (record {
      frame = record t.frame { endings = r };
      stock = t.stock;
      pending_call =
          h;
    }) (ghost_after_step v d (Finish b false))) (sym rests)
    (record {
      seat = fits.seat;
      holds = record { owned = fits.holds.owned; size = fits.holds.size; formed = fits.holds.formed };
      within = fits.within;
      ready = ready_bare t.frame r.list fits.ready bare;
      still = fits.still;
      pending_call = own_pending v d (Finish b false) kept fits.seat;
      next = tt;
      stocks = record { stocked = x.stocked; roomy = x.roomy };
      cells = fits.cells;
      endings = finished_ends d t v e r false kept fits list same is;
    })

-- a member of an ending object is empty: the ghost state after that, whatever its words and views are
abbrev pub cleared_ghost : GhostState → ℕ → Block → ℕ → NumberedHandle → List ℕ → List (View Nothing) → GhostState
cleared_ghost v d b i h words views =
    record { extent = v.extent; words = words; views = views; history = entry d (ClearMember (object_of_block v b) i h) ∷ v.history }

module _ (d : ℕ) (v : GhostState) (b : Block) (i : ℕ) (h : NumberedHandle) (words : List ℕ) (views : List (View Nothing)) where
  is_cleared : (j m : ℕ) → (((model_state v).object j).member m ≡ empty (kind_of_member 2 m)) ⊎ ((j ≡ object_of_block v b) × (m ≡ i))
      → ((model_state (cleared_ghost v d b i h words views)).object j).member m ≡ empty (kind_of_member 2 m)
  is_cleared j m was =
      put_cases (λ k (z : Object). k ≡ j → z.member m ≡ empty (kind_of_member 2 m)) (model_state v).object (object_of_block v b) _ j
      (λ q r. put_cases (λ k (y : NumberedHandle). k ≡ m → y ≡ empty (kind_of_member 2 m)) ((model_state v).object (object_of_block v b)).member i _ m
      (λ a e. ap (λ (k : ℕ). empty (kind_of_member (model_state v).owners k)) (sym a) ∙ ap empty (member_kind v m))
      (λ a e. ⊎_elim (λ (f : ((model_state v).object j).member m ≡ empty (kind_of_member 2 m)). ap
      (λ (k : ℕ). ((model_state v).object k).member m) (sym q) ∙ f)
      (λ (f : (j ≡ object_of_block v b) × (m ≡ i)). absurd (a f.1)) was) refl)
      (λ q r. ⊎_elim (λ (f : ((model_state v).object j).member m ≡ empty (kind_of_member 2 m)). f)
      (λ (f : (j ≡ object_of_block v b) × (m ≡ i)). absurd (q f.0)) was) refl

  still_ends : (j : ℕ) → ((model_state v).object j).phase ≡ ending d → ((model_state (cleared_ghost v d b i h words views)).object j).phase ≡ ending d
  still_ends j end =
      put_cases (λ k (z : Object). z.phase ≡ ending d) (model_state v).object (object_of_block v b) _ j
      (λ q. ap (λ (k : ℕ). ((model_state v).object k).phase) (sym q) ∙ end) (λ q. end)

  cleared_each : (y : Ending) → IsEndingAtStage d y v → IsEndingAtStage d y (cleared_ghost v d b i h words views)
  cleared_each y is =
      record {
        ending = still_ends (object_of_block v y.block) is.ending;
        within = is.within;
        cleared = λ m lt. is_cleared (object_of_block v y.block) m (inl (is.cleared m lt));
      }

pub cleared_ends : (d : ℕ) (v : GhostState) (e : Ending) (es : List Ending) (h : NumberedHandle) (words : List ℕ) (views : List (View Nothing))
    → EndsAll d (e ∷ es) v → IsEndingAtStage d e v → e.stage < 3
    → EndsAll d (staged e ∷ es) (cleared_ghost v d e.block e.stage h words views)
cleared_ends d v e es h words views ends is lt =
    let w = cleared_ghost v d e.block e.stage h words views in
    record {
      each = All-cons (λ y. IsEndingAtStage d y w) (staged e) es
          (record {
            ending = still_ends d v e.block e.stage h words views (object_of_block v e.block) is.ending;
            within = omega arith;
            cleared = λ m few.
                is_cleared d v e.block e.stage h words views (object_of_block v e.block) m
                (⊎_elim (λ (q : m ≡ e.stage). inr (refl, q)) (λ (q : m ≢ e.stage). inl (is.cleared m (omega (arith, few, q)))) (cases_eq m e.stage));
          })
          (each_end d v w es (λ y i. cleared_each d v e.block e.stage h words views y i) (All-tail (λ y. IsEndingAtStage d y v) e es ends.each));
      once = λ b. once_staged d v e (staged e) es b refl ends;
    }

-- a member was cleared
pub fits_clear : (d : ℕ) (t : Thread) (v : GhostState) (e : Ending) (r : Stack) (es : List Ending) → TableInvariant v → FitsThread d t v → t.pending_call ≡ Rest
    → t.frame.endings.list ≡ e ∷ es → r.list ≡ staged_first t.frame.endings.list → t.frame.endings.room ≤ r.room
    → IsEndingAtStage d e v → e.stage < 3
    → is_full (slot_pointer t.frame.registers.slots.items (hand t.frame.registers.slots.items)) ≡ false
    → FitsThread d (record { frame = record t.frame { endings = r }; stock = t.stock; pending_call = t.pending_call })
    (ghost_after_step v d (Clear e.block e.stage))
fits_clear d t v e r es kept fits rests list new room is lt bare =
    let w = ghost_after_step v d (Clear e.block e.stage) in
    let x = resting d t v fits rests in
    subst (λ (h : PendingCall). FitsThread d (record { frame = record t.frame { endings = r }; stock = t.stock; pending_call = h }) w) (sym rests)
    (record {
      seat = fits.seat;
      holds = record { owned = fits.holds.owned; size = fits.holds.size; formed = fits.holds.formed };
      within = fits.within;
      ready = ready_bare t.frame r.list fits.ready bare;
      still = fits.still;
      pending_call = own_pending v d (Clear e.block e.stage) kept fits.seat;
      next = tt;
      stocks = record { stocked = x.stocked; roomy = x.roomy };
      endings =
          record {
            all = subst (λ (l : List Ending). EndsAll d l w) (sym (new ∙ ap staged_first list))
                (cleared_ends d v e es (empty (kind_of_member 2 e.stage)) w.words w.views
                (subst (λ (l : List Ending). EndsAll d l v) list fits.endings.all) is lt);
            roomy = (let q = fits.endings.roomy in omega (arith, q, room));
            empty = ⊎_elim (λ (n : t.frame.endings.list ≡ []). absurd cc) (λ (n : t.frame.taken ≡ false). inr n) fits.endings.empty;
          };
      cells = fits.cells;
    })
