-- A swap of a cell.
use Rattle.std.proofs.Common.{◌≡◌, ℕ, ◌<◌, Bool, true, false, ◌&&◌, List, set, is_some, Some, None}
use Rattle.std.proofs.Common.{Option, sym, refl, ap, ◌∙◌, subst}
use Rattle.step_core.proofs.Prelude
use Prelude.{abstraction, Act, Alias, and_parts, as_word, Ask, Block, brings, cell_of_name}
use Prelude.{cell_open, CellName, CellWord, Clear, Compare, cond-false, cond-true, Count}
use Prelude.{Downgrade, Drop, Event, event_added, Exchange, Expired, false≢true, frame_of}
use Prelude.{FromThis, GhostState, gives_back, goes_in, Going, going, hand, Handle, HasCell}
use Prelude.{History, Holds, HoldsBag, is_acting, is_of, is_there, IsIn, Kind, kind_at, Leave}
use Prelude.{Load, Lock, Make, model_state, Move, Nothing, Offer, on, on_going, OnShelf, Opening}
use Prelude.{opening, Put, Read, Reply, Rest, row, said_by_row, same_Some, seen, seen_found, sends}
use Prelude.{Shape, Share, slot_pointer, slot_value, Slots, step_of_act, step_of_swap, Swap}
use Prelude.{TableInvariant, Task, Telling, went, world_state_by, WorldState}
use Rattle.step_table.specs.declared.cell_steps.cell_step.CellStep.TheVariants as cell_step
use Rattle.step_table.specs.declared.memory.ghost_history.AtomicStep.TheVariants as atomic_step
use Rattle.step_threads.specs.Frames.{going_from}
use Rattle.step_core.proofs.Entries.{acted, history_swaps as swaps_in}
use Rattle.step_table.specs.GhostStates.{history_after}
use Rattle.step_table.proofs.contained.Telling.{swap_tells}
use Rattle.step_core.proofs.turning.Ending.{same_frames, abstraction_as}
use Rattle.step_core.proofs.turning.Saying.{Acts}
use Rattle.step_core.proofs.turning.Telling.{tell_of, told_reply}

-- the cell is there, and the value may go into it
abbrev Goes : Shape → Slots → CellName → ℕ → Type 0
Goes z slots c i = IsIn z c × (is_there slots c ≡ true) × (is_of (kind_at c) (slot_value slots i) ≡ true)

-- the event of a swap tells what goes in and what comes out
swap_told : (v : GhostState) (d : ℕ) (slots : Slots) (c : CellName) (i : ℕ) → TableInvariant v → d < v.extent.actors → HoldsBag d slots v
    → Goes v.extent.shape slots c i
    → let x = cell_of_name (model_state v) slots c in
    history_after v d (atomic_step.OnCell (cell_step.Swap x (as_word (slot_value slots i)) (seen v x))) ≡ swaps_in (opening v.extent) d slots v.history c i
swap_told v d slots c i kept lt holds goes =
    let s = model_state v in
    let x = cell_of_name s slots c in
    let found = seen_found v d x kept lt (cell_open v d slots c goes.0 holds goes.1) in
    ap (λ (o : Option (Event Nothing)). event_added d o v.history)
    (swap_tells v x (seen v x) found (slot_value slots i) (goes_in v slots c (slot_value slots i) goes.0 goes.2))

goes_from : (z : Shape) (slots : Slots) (x : CellName) (k : ℕ) (c : CellName) (i : ℕ) → going_from slots x k ≡ Some (c, i)
    → IsIn z x → Goes z slots c i
goes_from z slots x k c i e is = go (is_there slots x && is_of (kind_at x) (slot_value slots k)) refl
  where
    go : (b : Bool) → (is_there slots x && is_of (kind_at x) (slot_value slots k)) ≡ b → Goes z slots c i
    go true q =
        let p = and_parts (is_there slots x) (is_of (kind_at x) (slot_value slots k)) q in
        let f : ◌≡◌ {A = Option Going} (Some (x, k)) (Some (c, i)) =
        sym (cond-true (is_there slots x && is_of (kind_at x) (slot_value slots k)) (Some (x, k)) None q) ∙ e in
        subst (λ (g : Going). Goes z slots g.0 g.1) (same_Some _ _ f) (is, p.0, p.1)
    go false q =
        let f : ◌≡◌ {A = Option Going} None (Some (c, i)) =
        sym (cond-false (is_there slots x && is_of (kind_at x) (slot_value slots k)) (Some (x, k)) None q) ∙ e in cc

-- an act that puts a value into a cell
abbrev Puts : Telling → Opening → ℕ → Slots → History → Shape → Act → CellName → ℕ → Type 0
Puts tell o d slots h z a c i = (acted tell o d slots h a ≡ swaps_in o d slots h c i) × Goes z slots c i

puts_as : (tell : Telling) (o : Opening) (d : ℕ) (slots : Slots) (h : History) (z : Shape) (a : Act) (c : CellName) (i : ℕ)
    → going slots a ≡ Some (c, i) → HasCell z a
    → Puts tell o d slots h z a c i
puts_as tell o d slots h z (Swap x) c i e is =
    (ap (on_going (swaps_in o d slots h) h) e, goes_from z slots x (hand slots) c i e is)
puts_as tell o d slots h z (Exchange k x) c i e is = (ap (on_going (swaps_in o d slots h) h) e, goes_from z slots x k c i e is)
puts_as tell o d slots h z (Make form) c i e is = cc
puts_as tell o d slots h z (Share k) c i e is = cc
puts_as tell o d slots h z (Downgrade k) c i e is = cc
puts_as tell o d slots h z (Lock k must) c i e is = cc
puts_as tell o d slots h z (Put k) c i e is = cc
puts_as tell o d slots h z (Leave k) c i e is = cc
puts_as tell o d slots h z (Clear k) c i e is = cc
puts_as tell o d slots h z (Count k) c i e is = cc
puts_as tell o d slots h z (Expired k) c i e is = cc
puts_as tell o d slots h z (Read k) c i e is = cc
puts_as tell o d slots h z (FromThis k kind) c i e is = cc
puts_as tell o d slots h z (Alias k j field) c i e is = cc
puts_as tell o d slots h z (Move k) c i e is = cc
puts_as tell o d slots h z (Ask q) c i e is = cc
puts_as tell o d slots h z (Offer k x) c i e is = cc
puts_as tell o d slots h z (Load cell) c i e is = cc
puts_as tell o d slots h z (Holds k x) c i e is = cc
puts_as tell o d slots h z (Compare name cell weak) c i e is = cc
puts_as tell o d slots h z Drop c i e is = cc
puts_as tell o d slots h z (OnShelf y) c i e is = cc

-- after the swap no act is under way
pub no_more : (q : Kind) (k : ℕ) (x : CellWord) (o : Option Block) → is_acting (gives_back q k x o) ≡ false
no_more q k x None = refl
no_more q k x (Some b) = refl

pub swap_over : (d : ℕ) (u : WorldState) (k : ℕ) (ts : List Task) (a : Act) (c : CellName) (i : ℕ)
    → is_acting (step_of_swap u.ghost_state d (frame_of (abstraction u) d) k ts a c i).pending_call ≡ false
swap_over d u k ts a c i = let found = seen u.ghost_state (cell_of_name (model_state u.ghost_state) (frame_of (abstraction u) d).slots c) in
    no_more (kind_at c) k found found.owned

-- the thread's desk is there and has what its slots tell, and the shape has the cell of its act
abbrev pub CanPut : ℕ → WorldState → Act → Type 0
CanPut d u a = (d < u.ghost_state.extent.actors) × TableInvariant u.ghost_state × HasCell u.ghost_state.extent.shape a
    × HoldsBag d (frame_of (abstraction u) d).slots
    u.ghost_state

pub swaps_so : (d : ℕ) (u : WorldState) (k : ℕ) (ts : List Task) (a : Act) (c : CellName) (i : ℕ) → CanPut d u a
    → going (frame_of (abstraction u) d).slots a ≡ Some (c, i) → Acts d u k ts a (step_of_swap u.ghost_state d (frame_of (abstraction u) d) k ts a c i)
swaps_so d u k ts a c i can e =
    let w = frame_of (abstraction u) d in
    let v = u.ghost_state in
    let p = puts_as (tell_of v a) (opening v.extent) d w.slots v.history v.extent.shape a c i e can.2 in (
      ap (λ (r : Reply). said_by_row k (row a w.slots w.taken r)) (told_reply v (model_state v) d w.slots a),
      ap (λ (h : History). record { extent = v.extent; history = h; frame_views = set u.frame_views d (went (model_state v) d w k ts a) })
          (swap_told v d w.slots c i can.1 can.0 can.3 p.1 ∙ sym p.0),
    )

-- the funds are brought first, where the value has an object
sends_so : (d : ℕ) (u : WorldState) (k : ℕ) (ts : List Task) (a : Act) (c : CellName) (i : ℕ) (o : Option Handle) → CanPut d u a
    → going (frame_of (abstraction u) d).slots a ≡ Some (c, i)
    → let w = frame_of (abstraction u) d in
    let x = on (brings w k) (step_of_swap u.ghost_state d w k ts a c i) o in is_acting x.pending_call ≡ false → Acts d u k ts a x
sends_so d u k ts a c i None can e is = swaps_so d u k ts a c i can e
sends_so d u k ts a c i (Some p) can e is = absurd (false≢true (sym is))

pub goes_so : (d : ℕ) (u : WorldState) (k : ℕ) (ts : List Task) (a : Act) (g : Option Going) → CanPut d u a → going (frame_of (abstraction u) d).slots a ≡ g
    → acted (tell_of u.ghost_state a) (opening u.ghost_state.extent) d (frame_of (abstraction u) d).slots u.ghost_state.history a
    ≡ on_going (swaps_in (opening u.ghost_state.extent) d (frame_of (abstraction u) d).slots u.ghost_state.history) u.ghost_state.history
    (going (frame_of (abstraction u) d).slots a)
    → let w = frame_of (abstraction u) d in
    let x = on_going (sends u.ghost_state d w k ts a) (step_of_act u.ghost_state d w k ts a None Rest) g in is_acting x.pending_call ≡ false → Acts d u k ts a x
goes_so d u k ts a None can e by is =
    let w = frame_of (abstraction u) d in
    let v = u.ghost_state in (
      ap (λ (r : Reply). said_by_row k (row a w.slots w.taken r)) (told_reply v (model_state v) d w.slots a),
      ap (λ (h : History). record { extent = v.extent; history = h; frame_views = set u.frame_views d (went (model_state v) d w k ts a) })
          (sym (by ∙ ap (on_going (swaps_in (opening v.extent) d w.slots v.history) v.history) e)),
    )
goes_so d u k ts a (Some g) can e by is = sends_so d u k ts a g.0 g.1 (slot_pointer (frame_of (abstraction u) d).slots g.1) can e is

-- funds that were just brought
sends_same : (d : ℕ) (u : WorldState) (k : ℕ) (ts : List Task) (a : Act) (c : CellName) (i : ℕ) (o : Option Handle)
    → let w = frame_of (abstraction u) d in
    let x = on (brings w k) (step_of_swap u.ghost_state d w k ts a c i) o in is_acting x.pending_call ≡ true → abstraction (world_state_by d u (Some x)) ≡
    abstraction u
sends_same d u k ts a c i None is = absurd (false≢true (sym (swap_over d u k ts a c i) ∙ is))
sends_same d u k ts a c i (Some p) is = abstraction_as u _ _ _ _ refl (same_frames d u)

pub goes_same : (d : ℕ) (u : WorldState) (k : ℕ) (ts : List Task) (a : Act) (g : Option Going)
    → let w = frame_of (abstraction u) d in
    let x = on_going (sends u.ghost_state d w k ts a) (step_of_act u.ghost_state d w k ts a None Rest) g in
    is_acting x.pending_call ≡ true → abstraction (world_state_by d u (Some x)) ≡ abstraction u
goes_same d u k ts a None is = absurd (false≢true is)
goes_same d u k ts a (Some g) is = sends_same d u k ts a g.0 g.1 (slot_pointer (frame_of (abstraction u) d).slots g.1) is

pub some_of : (o : Option Going) → is_some o ≡ true → (g : Going) × (o ≡ Some g)
some_of None e = absurd (false≢true e)
some_of (Some g) e = (g, refl)
