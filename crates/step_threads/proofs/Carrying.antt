-- What came out of a member of an ending object leaves.
use Rattle.std.proofs.Common.{◌≡◌, ℕ, suc, ◌<◌, ◌≤◌, Bool, true, false, cond, ◌≢◌, List, [], ◌∷◌}
use Rattle.std.proofs.Common.{length, set, ◌==◌, Some, None, All, sym, refl, ap, ◌∙◌, subst, inl}
use Rattle.std.proofs.Common.{inr, ⊎_elim, arith, eq-eqb, ne_eqb}
use Rattle.step_threads.proofs.Prelude
use Prelude.{All-cons, All-head, All-tail, Block, cases_eq, cond-false, cond-true, cond_both}
use Prelude.{counted_live, empty, Ending, ending, ending_as, endings_in_block, EndsAll, EndsFit}
use Prelude.{FitsThread, Frame, ghost_after_step, GhostState, hand, Handle, HoldsBag, is_last}
use Prelude.{IsEndingAtStage, IsReady, IsStocked, IsStockedBy, Kind, kind_of_member, leave}
use Prelude.{leave_as, live, model_state, moved_to, Object, object_of_block, opening, Owner}
use Prelude.{owner_counted, PendingCall, plain, put_cases, Registers, Rest, Slots, sound, Stack}
use Prelude.{StoreView, TableInvariant, Thread, todo, Weak, with_end}
use Rattle.step_threads.proofs.Endings.{idle_left, left_ending, stocks_left}
use Rattle.step_threads.proofs.Hands.{hand_ready, still_hand}
use Rattle.step_threads.proofs.holding.Ends.{each_end, one_more}
use Rattle.step_threads.proofs.holding.Few.{ends_few}

-- while an object ends nothing was taken
pub none_taken : (d : ℕ) (c : Frame) (v : GhostState) (e : Ending) (es : List Ending) → EndsFit d c v → c.endings.list ≡ e ∷ es → c.taken ≡ false
none_taken d c v e es fit is = ⊎_elim (λ (n : c.endings.list ≡ []). absurd cc) (λ (n : c.taken ≡ false). n) fit.empty

-- a pointer's leave leaves the endings
left_each : (d : ℕ) (v : GhostState) (x : Handle) (k : Kind) (b : Bool) (y : Ending) → IsEndingAtStage d y v
    → IsEndingAtStage d y (ghost_after_step v d (leave_as k x b))
left_each d v x Weak b y is = record { ending = is.ending; within = is.within; cleared = is.cleared }
left_each d v x Owner b y is =
    let o = object_of_block v x.block in
    let z = (model_state v).object o in
    record {
      ending =
          put_cases (λ j (u : Object). u.phase ≡ ending d) (model_state v).object o (cond b (moved_to (ending d) z) z) (object_of_block v y.block)
          (λ q. cond_both b (moved_to (ending d) z) z (λ (u : Object). u.phase ≡ ending d) (λ t. refl)
          (λ t. ap (λ (j : ℕ). ((model_state v).object j).phase) (sym q) ∙ is.ending)) (λ q. is.ending);
      within = is.within;
      cleared = λ m lt.
          put_cases (λ j (u : Object). u.member m ≡ empty (kind_of_member 2 m)) (model_state v).object o (cond b (moved_to (ending d) z) z)
          (object_of_block v y.block)
          (λ q. cond_both b (moved_to (ending d) z) z (λ (u : Object). u.member m ≡ empty (kind_of_member 2 m))
          (λ t. ap (λ (j : ℕ). ((model_state v).object j).member m) (sym q) ∙ is.cleared m lt)
          (λ t. ap (λ (j : ℕ). ((model_state v).object j).member m) (sym q) ∙ is.cleared m lt)) (λ q. is.cleared m lt);
    }

-- an object that is live is in no ending
live_apart : (d : ℕ) (v : GhostState) (b : Block) (es : List Ending) → ((model_state v).object (object_of_block v b)).phase ≡ live
    → All (λ (e : Ending). IsEndingAtStage d e v) es
    → endings_in_block b.0 es ≡ 0
live_apart d v b [] alive all = refl
live_apart d v b (y ∷ ys) alive all =
    let i = live_apart d v b ys alive (All-tail (λ (e : Ending). IsEndingAtStage d e v) y ys all) in
    let is = All-head (λ (e : Ending). IsEndingAtStage d e v) y ys all in
    let o = one_more b.0 y ys in
    let z = cond-false {A = ℕ} (y.block.0 == b.0) 1 0 (ne_eqb y.block.0 b.0 (λ q.
    let k : ending d ≡ live = sym is.ending ∙ ap (λ (n : ℕ). ((model_state v).object ((model_state v).latest n)).phase) q ∙ alive in cc)) in
    omega (arith, i, o, z)

-- what leaves has a live object, if it is an owner
owner_live : (d : ℕ) (v : GhostState) (x : Handle) (b : Bool) → TableInvariant v → TableInvariant (ghost_after_step v d (leave_as Owner x b))
    → ((model_state v).object (object_of_block v x.block)).phase ≡ live
owner_live d v x b kept kept' =
    let fine = sound (opening v.extent) v.history kept.stands.legal in
    counted_live (opening v.extent) (model_state v) (object_of_block v x.block) fine
    (owner_counted (model_state v) d (object_of_block v x.block) x.place kept'.stands.legal.1.asks.0.0)

-- the endings after it: the last owner's object is in one more
pub ends_leaving : (d : ℕ) (v : GhostState) (x : Handle) (k : Kind) (b : Bool) (n : ℕ) (es : List Ending) → TableInvariant v
    → TableInvariant (ghost_after_step v d (leave_as k x b)) → EndsAll d es v
    → EndsAll d (with_end n (cond b (ending_as k x) None) es) (ghost_after_step v d (leave_as k x b))
ends_leaving d v x Owner true n es kept kept' ends =
    let w = ghost_after_step v d (leave_as Owner x true) in
    let e : Ending = record { block = x.block; stage = 0; statement = n } in
    let none = live_apart d v x.block es (owner_live d v x true kept kept') ends.each in
    record {
      each = All-cons (λ (y : Ending). IsEndingAtStage d y w) e es
          (record { ending = left_ending v d x true refl; within = omega arith; cleared = λ m lt. absurd (omega arith) })
          (each_end d v w es (λ y is. left_each d v x Owner true y is) ends.each);
      once = λ c.
          let o = one_more c e es in
          let u = ends.once c in
          ⊎_elim (λ (q : x.block.0 ≡ c). let z : endings_in_block c es ≡ 0 = subst (λ (i : ℕ). endings_in_block i es ≡ 0) q none in
          let a = cond-true {A = ℕ} (x.block.0 == c) 1 0 (eq-eqb x.block.0 c q) in omega (arith, o, z, a))
          (λ (q : x.block.0 ≢ c). let a = cond-false {A = ℕ} (x.block.0 == c) 1 0 (ne_eqb x.block.0 c q) in omega (arith, o, u, a))
          (cases_eq x.block.0 c);
    }
ends_leaving d v x Owner false n es kept kept' ends =
    record { each = each_end d v (ghost_after_step v d (leave_as Owner x false)) es (λ y is. left_each d v x Owner false y is) ends.each; once = ends.once }
ends_leaving d v x Weak true n es kept kept' ends =
    record { each = each_end d v (ghost_after_step v d (leave_as Weak x true)) es (λ y is. left_each d v x Weak true y is) ends.each; once = ends.once }
ends_leaving d v x Weak false n es kept kept' ends =
    record { each = each_end d v (ghost_after_step v d (leave_as Weak x false)) es (λ y is. left_each d v x Weak false y is) ends.each; once = ends.once }

-- there is room for one more
pub carried_room : (d : ℕ) (c : Frame) (v w : GhostState) (x : Handle) (last : Bool) → TableInvariant v → TableInvariant w → EndsFit d c v
    → w ≡ ghost_after_step v d (leave (model_state v) x)
    → last ≡ is_last (model_state v) x → x.kind ≡ Owner → last ≡ true → length c.endings.list < c.endings.room
carried_room d c v w x last kept kept' fit is said at ended =
    go x.kind at (is_last (model_state v) x) (sym said ∙ ended) (subst TableInvariant is kept')
  where
    go : (k : Kind) → k ≡ Owner → (b : Bool) → b ≡ true → TableInvariant (ghost_after_step v d (leave_as k x b)) → length c.endings.list < c.endings.room
    go Weak e b q kept' = cc
    go Owner e false q kept' = cc
    go Owner e true q kept' =
        let f : suc (length c.endings.list) ≤ v.extent.shape.blocks =
        ends_few d (ghost_after_step v d (leave_as Owner x true)) (with_end 0 (ending_as Owner x) c.endings.list) kept'
        (ends_leaving d v x Owner true 0 c.endings.list kept kept' fit.all) in
        let r = fit.roomy in omega (arith, f, r)

carried_on : (d : ℕ) (t : Thread) (v : GhostState) (h : Registers) (r : Stack) (s : StoreView) (n : ℕ) (x : Handle) (k : Kind) (b : Bool)
    (e : Ending) (es : List Ending)
    → TableInvariant v → FitsThread d t v → t.pending_call ≡ Rest → t.frame.endings.list ≡ e ∷ es → TableInvariant (ghost_after_step v d (leave_as k x b))
    → HoldsBag d h.slots.items (ghost_after_step v d (leave_as k x b))
    → h.slots.items ≡ set t.frame.registers.slots.items (hand t.frame.registers.slots.items) plain
    → r.list ≡ with_end n (cond b (ending_as k x) None) t.frame.endings.list → t.frame.endings.room ≤ r.room
    → IsStocked k x.block.0 b t.stock s
    → FitsThread d (record { frame = record t.frame { registers = h; endings = r }; stock = s; pending_call = Rest }) (ghost_after_step v d (leave_as k x b))
carried_on d t v h r s n x k b e es kept fits rests is kept' holds slots list room stock =
    let w = ghost_after_step v d (leave_as k x b) in
    let c = t.frame in
    let none = none_taken d c v e es fits.endings is in
    record {
      seat = fits.seat;
      holds = holds;
      within = fits.within;
      ready = subst (λ (z : Slots). IsReady z c.taken r.list (todo c)) (sym slots)
          (hand_ready c.registers.slots.items plain c.taken c.endings.list r.list (todo c) fits.ready (λ q. inl refl));
      still = still_hand c (record c { registers = h; endings = r }) plain fits.ready fits.still none slots refl refl refl;
      pending_call = idle_left d t v x k b kept fits;
      next = tt;
      stocks = stocks_left d t v x s k b kept fits rests kept' stock;
      endings =
          record {
            all = subst (λ (l : List Ending). EndsAll d l w) (sym list) (ends_leaving d v x k b n c.endings.list kept kept' fits.endings.all);
            roomy = (let q = fits.endings.roomy in omega (arith, q, room));
            empty = inr none;
          };
      cells = fits.cells;
    }

-- a thread after what it had in hand left
pub fits_carried : (d : ℕ) (t t' : Thread) (v w : GhostState) (h : Registers) (n : ℕ) (x : Handle) (last : Bool) (e : Ending) (es : List Ending)
    → TableInvariant v → TableInvariant w → FitsThread d t v → t.pending_call ≡ Rest → t.frame.endings.list ≡ e ∷ es
    → w ≡ ghost_after_step v d (leave (model_state v) x)
    → last ≡ is_last (model_state v) x
    → HoldsBag d h.slots.items w → h.slots.items ≡ set t.frame.registers.slots.items (hand t.frame.registers.slots.items) plain
    → t'.frame ≡ record t.frame { registers = h; endings = t'.frame.endings }
    → t'.frame.endings.list ≡ with_end n (cond last (ending_as x.kind x) None) t.frame.endings.list
    → t.frame.endings.room ≤ t'.frame.endings.room → t'.pending_call ≡ t.pending_call → IsStockedBy (Some x) last t.stock t'.stock → FitsThread d t' w
fits_carried d t t' v w h n x last e es kept kept' fits rests is ghost_state said holds slots same list room pending_call stock =
    let r = t'.frame.endings in
    let b = is_last (model_state v) x in
    subst (λ (k : Frame). FitsThread d (record { frame = k; stock = t'.stock; pending_call = t'.pending_call }) w) (sym same)
    (subst (λ (q : PendingCall). FitsThread d (record { frame = record t.frame { registers = h; endings = r }; stock = t'.stock; pending_call = q }) w)
    (sym (pending_call ∙ rests))
    (subst (λ (u : GhostState). FitsThread d (record { frame = record t.frame { registers = h; endings = r }; stock = t'.stock; pending_call = Rest }) u)
    (sym ghost_state)
    (carried_on d t v h r t'.stock n x x.kind b e es kept fits rests is (subst TableInvariant ghost_state kept')
    (subst (λ (u : GhostState). HoldsBag d h.slots.items u) ghost_state holds) slots
    (list ∙ ap (λ (q : Bool). with_end n (cond q (ending_as x.kind x) None) t.frame.endings.list) said) room
    (subst (λ (q : Bool). IsStocked x.kind x.block.0 q t.stock t'.stock) said stock))))
