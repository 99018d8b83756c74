-- How a thread goes on while objects end.
use Rattle.std.proofs.Common.{◌≡◌, ℕ, ◌-◌, ◌<◌, ◌≤◌, Bool, cond, ◌≢◌, List, [], ◌∷◌, ◌++◌, length}
use Rattle.std.proofs.Common.{slice_set, Some, None, Option, sym, refl, ap, ◌∙◌, subst, inl, inr}
use Rattle.std.proofs.Common.{append-nil, arith, length-set, get_or-set_same, set-set}
use Rattle.script_runner.proofs.Prelude
use Prelude.{AddsEvent, Ahead, AnAct, AnEnd, bag, bag_of, Block, block_kept, blocks_of, by_block}
use Prelude.{cond-false, cond-true, DeskNow, DoesAhead, DoesNext, Ended, Ending, ending, entry}
use Prelude.{Event, first_frame, Form, frame_after_act, frame_settled, FrameView, GoesThrough}
use Prelude.{hand, handle, handle_in, Has, has_map, has_object, has_part, HasHandle, held, is_full}
use Prelude.{IsEnding, IsLegal, IsMakeEvent, IsQuiet, Kind, latest_of, leads, Leave, Left}
use Prelude.{legal_seen, names_an_object, NumberedHandle, opening_of, Place, plain, pointer_of}
use Prelude.{row, Said, said_by_row, set-get_or, silent, slot_of, slot_pointer, slot_value, Slots}
use Prelude.{sound, staged, State, state_of, stays_the_latest, TakesThread, Task, TellsThread}
use Prelude.{told_line, trace_label, unmade, with_end}
use Rattle.control_word.specs.State.{Held}
use Rattle.control_word.specs.declared.model.event.Event.TheVariants as event
use Rattle.script_runner.proofs.Logging.{goes_on_by_call, goes_on_by_mark}
use Rattle.script_runner.proofs.Settling.{settled_again, settled_empty, with_endings}
use Rattle.script_runner.specs.Calls as calls
use Rattle.step_table.specs.declared.slots.slot.Slot.TheVariants.{Full}
use Rattle.step_threads.specs.TraceLabels.{ClearsNext, FinishesEnding, MakesAct}
use Rattle.step_threads.specs.Rows.{ending_by}

module _ {V : Type 0} where
  -- an object that ends in the desk's hands was made
  pub not_none : (d : DeskNow V) (b : ℕ) (x : V) → IsLegal (opening_of d.shape) d.seen → IsEnding d b x → latest_of d b ≢ 0
  not_none d b x legal ends e =
      clash (sym (sound (opening_of d.shape) d.seen legal).none ∙ (ap (λ o. ((state_of d).object o).phase) (sym e) ∙ ends.phase))
    where
      clash : unmade ≡ ending d.name → ⊥
      clash e = absurd cc

  -- and is in its block
  pub ended_in : (d : DeskNow V) (b : ℕ) (x : V) → IsLegal (opening_of d.shape) d.seen → IsEnding d b x
      → ((state_of d).object (latest_of d b)).block ≡ b
  ended_in d b x legal ends = (sound (opening_of d.shape) d.seen legal).latest_in b (not_none d b x legal ends)

  -- and is the latest there when the desk's event comes
  pub ended_latest : (d e : DeskNow V) (v : Event V) (adds : AddsEvent d v e) (b : ℕ) (x : V) → IsEnding d b x
      → (calls.state_before_event V adds).latest b ≡ latest_of d b
  ended_latest d e v adds b x ends =
      let z = opening_of d.shape in
      let legal = (subst (IsLegal z) adds.seen adds.legal).0 in
      let old = legal_seen z adds.between d.seen legal in
      let o = latest_of d b in
      let block = ended_in d b x old ends in
      ap (calls.state_before_event V adds).latest (sym block)
      ∙ (stays_the_latest z adds.between d.seen legal d.name adds.quiet o (inr ends.phase)).1

  -- what came out of a member is a handle of the desk's
  pub came_out : (d e : DeskNow V) (o j : ℕ) (k : Kind) (c : Block) (p : Option Place)
      → AddsEvent d (event.ClearMember o j (handle_in e k (Some c) p)) e
      → HasHandle e k p c.0 × (((state_of e).object (latest_of e c.0)).block ≡ c.0)
  came_out d e o j k c p adds =
      let z = opening_of d.shape in
      let h = entry d.name (event.ClearMember o j (handle_in e k (Some c) p)) ∷ (adds.between ++ d.seen) in
      let q = latest_of e c.0 in
      let se : leads z h ≡ state_of e = sym (ap (λ x. leads (opening_of x) e.seen) adds.same.1 ∙ ap (λ l. leads z l) adds.seen) in
      let legal : IsLegal (opening_of e.shape) e.seen = subst (λ x. IsLegal (opening_of x) e.seen) (sym adds.same.1) adds.legal in
      let mine : Has (held e.name (handle k (Some q) p)) (state_of e).hands =
      subst (λ (s : State). Has (held e.name (handle k (Some q) p)) s.hands) se
      (inl (ap (λ n. held n (handle k (Some q) p)) adds.same.2)) in
      let named = names_an_object (opening_of e.shape) e.seen legal e.name k (handle k (Some q) p) (mine, refl, refl) in
      let some = named.0 in
      let block = (sound (opening_of e.shape) e.seen legal).latest_in c.0 (λ no. let bad : ⊥ = omega (arith, some, no) in bad) in (
        subst (λ b. Has (handle k (Some b) p) (bag_of e)) block
            (has_map (λ (x : Held). by_block (blocks_of (state_of e)) x.handle) (held e.name (handle k (Some q) p)) (bag (state_of e) e.name)
            (has_part (λ (y : Held). y.desk) e.name (held e.name (handle k (Some q) p)) (state_of e).hands refl mine)),
        block,
      )

  -- which the event did not move
  pub block_before : (d e : DeskNow V) (o j : ℕ) (k : Kind) (c : Block) (p : Option Place)
      → (adds : AddsEvent d (event.ClearMember o j (handle_in e k (Some c) p)) e)
      → ((calls.state_before_event V adds).object (latest_of e c.0)).block ≡ c.0
  block_before d e o j k c p adds =
      let z = opening_of d.shape in
      let x = event.ClearMember o j (handle_in e k (Some c) p) in
      let h = adds.between ++ d.seen in
      let q = latest_of e c.0 in
      let se : state_of e ≡ leads z (entry d.name x ∷ h) = ap (λ y. leads (opening_of y) e.seen) adds.same.1 ∙ ap (λ l. leads z l) adds.seen in
      let legal : IsLegal (opening_of e.shape) e.seen = subst (λ y. IsLegal (opening_of y) e.seen) (sym adds.same.1) adds.legal in
      let out = came_out d e o j k c p adds in
      let made : q ≤ (leads z h).made = subst (λ (s : State). q ≤ s.made) se ((sound (opening_of e.shape) e.seen legal).latest_made c.0) in
      let kept = (block_kept z (entry d.name x ∷ []) h q made).0 in
      sym kept ∙ (ap (λ (s : State). (s.object q).block) (sym se) ∙ out.1)

module _ {V : Type 0} (worth : Form → V) where
  pub by_event : (d e : DeskNow V) (v : Event V) (adds : AddsEvent d v e) (w u : FrameView) (log : List Said) (x : Said)
      → DoesNext worth (calls.state_before_event V adds) w (trace_label d.name (Some v) x) u → TakesThread worth d w log e u (log ++ told_line x)
  by_event d e v adds w u log x does part n tells =
      goes_on_by_call worth part n d e v w u log x tells adds
      (subst (λ q. DoesNext worth (calls.state_before_event V adds) w (trace_label q (Some v) x) u) tells.name does)

  pub by_quiet : (d e : DeskNow V) → IsQuiet d e → (w : FrameView) (log : List Said) → TakesThread worth d w log e w log
  by_quiet d e quiet w log part n t =
      record {
        name = quiet.name ∙ t.name;
        trace_labels = t.trace_labels;
        events = t.events ∙ sym quiet.seen;
        goes = subst (λ k. GoesThrough worth (opening_of k) [] n (first_frame part) t.trace_labels w) (sym quiet.shape) t.goes;
        says = t.says;
      }

  pub by_mark : (d e : DeskNow V) → IsQuiet d e → (w u : FrameView) (log : List Said) (x : Said)
      → DoesNext worth (state_of d) w (trace_label d.name None x) u → TakesThread worth d w log e u (log ++ told_line x)
  by_mark d e quiet w u log x does part n tells =
      by_quiet d e quiet u (log ++ told_line x) part n
      (goes_on_by_mark worth part n d w u log x tells (subst (λ q. DoesNext worth (state_of d) w (trace_label q None x) u) tells.name does))

  module _ (l : Slots) (taken : Bool) (todo : List Task) (free : slot_value l (hand l) ≡ plain) (few : hand l < length l) where
    abbrev pub frame_at : List Ending → FrameView
    frame_at es = frame_settled l taken es todo

    abbrev pub rest : FrameView
    rest = frame_settled l taken [] todo

    empty_hand : slot_value rest.slots (hand rest.slots) ≡ plain
    empty_hand =
        let x = settled_empty l taken [] todo free in
        ap (λ n. slot_value rest.slots (n - 1)) x.many ∙ x.hand

    within_hand : hand rest.slots < length rest.slots
    within_hand = let x = (settled_empty l taken [] todo free).many in omega (arith, x, few)

    pub frame_is : (es : List Ending) → frame_at es ≡ record rest { endings = es }
    frame_is es = with_endings l taken es todo

    -- the next member is cleared
    pub clears : (d e : DeskNow V) (b j : ℕ) (held : NumberedHandle) (adds : AddsEvent d (event.ClearMember (latest_of d b) j held) e) (x : V) → IsEnding d b x
        → (f : Ending) (es : List Ending) → f.block.0 ≡ b → f.stage ≡ j → j < 3 → (log : List Said)
        → TakesThread worth d (frame_at (f ∷ es)) log e
        (record {
          slots = cond (has_object held) (slice_set rest.slots (hand rest.slots) (slot_of (calls.state_before_event V adds) held)) rest.slots;
          taken = rest.taken;
          endings = staged f ∷ es;
          todo = rest.todo;
        }) log
    clears d e b j held adds x ends f es block stage low log part n tells =
        let s = calls.state_before_event V adds in
        let v = event.ClearMember (latest_of d b) j held in
        let u : FrameView = record {
          slots = cond (has_object held) (slice_set rest.slots (hand rest.slots) (slot_of s held)) rest.slots;
          taken = rest.taken;
          endings = staged f ∷ es;
          todo = rest.todo;
        } in
        let next : ClearsNext s (record rest { endings = f ∷ es }) f es (trace_label d.name (Some v) (silent f.statement)) u = record {
          held = held;
          some = omega (arith, stage, low);
          makes = ap (λ q. Some (event.ClearMember q j held)) (sym (ap (λ q. s.latest q) block ∙ ended_latest d e v adds b x ends))
              ∙ ap (λ q. Some (event.ClearMember (s.latest f.block.0) q held)) (sym stage);
          says = refl;
          goes = refl;
        } in
        let does : DoesNext worth s (record rest { endings = f ∷ es }) (trace_label d.name (Some v) (silent f.statement)) u =
        subst (λ (a : Ahead). DoesAhead worth s (record rest { endings = f ∷ es }) (trace_label d.name (Some v) (silent f.statement)) u a)
        (sym (cond-false (is_full (slot_pointer rest.slots (hand rest.slots))) _ _ (ap (λ y. is_full (pointer_of y)) empty_hand))) (inl next) in
        subst (λ l. TellsThread worth part n e u l) (append-nil log)
        (by_event d e v adds (record rest { endings = f ∷ es }) u log (silent f.statement) does part n
        (subst (λ w. TellsThread worth part n d w log) (frame_is (f ∷ es)) tells))

    -- what it held leaves
    pub hand_leaves : (d e : DeskNow V) (v : Event V) (adds : AddsEvent d v e) (k : Kind) (c : Block) (p : Option Place) (last : Bool) (left : Option Ended)
        → let filled = slice_set rest.slots (hand rest.slots) (Full (calls.pointer k c p)) in
        (calls.HasPointer V d filled (hand filled) k c p
        → IsMakeEvent worth (calls.state_before_event V adds) d.name filled (Leave (hand filled)) (Left last left) (Some v))
        → HasHandle d k p c.0 → (f : Ending) (es : List Ending) (log : List Said)
        → TakesThread worth d (record { slots = filled; taken = rest.taken; endings = f ∷ es; todo = rest.todo }) log e
        (frame_at (with_end f.statement (ending_by last (Some (calls.pointer k c p))) (f ∷ es)))
        (log ++ told_line record { statement = f.statement; answer = None; ended = left })
    hand_leaves d e v adds k c p last left makes has f es log part n tells =
        let ptr = calls.pointer k c p in
        let filled = slice_set rest.slots (hand rest.slots) (Full ptr) in
        let same : hand filled ≡ hand rest.slots = ap (λ q. q - 1) (length-set rest.slots (hand rest.slots) (Full ptr)) in
        let at : slot_pointer filled (hand filled) ≡ Some ptr =
        ap (λ q. slot_pointer filled q) same ∙ ap pointer_of (get_or-set_same rest.slots (hand rest.slots) (Full ptr) plain within_hand) in
        let s = calls.state_before_event V adds in
        let w : FrameView = record { slots = filled; taken = rest.taken; endings = f ∷ es; todo = rest.todo } in
        let y = row (Leave (hand filled)) filled rest.taken (Left last left) in
        let fs = with_end f.statement (ending_by last (Some ptr)) (f ∷ es) in
        let task : Task = record { statement = f.statement; act = Leave (hand filled) } in
        let made : MakesAct worth s w task rest.todo (trace_label d.name (Some v) (said_by_row f.statement y)) (frame_after_act w f.statement rest.todo y) =
        record { reply = Left last left; makes = makes (record { at = at; has = has }); says = refl; goes = refl } in
        let does : DoesNext worth s w (trace_label d.name (Some v) (said_by_row f.statement y)) (frame_after_act w f.statement rest.todo y) =
        subst (λ (a : Ahead). DoesAhead worth s w (trace_label d.name (Some v) (said_by_row f.statement y)) (frame_after_act w f.statement rest.todo y) a)
        (sym (cond-true (is_full (slot_pointer filled (hand filled))) (AnAct task rest.todo) (AnEnd f es) (ap is_full at))) made in
        let slots : slice_set filled (hand filled) plain ≡ rest.slots =
        ap (λ q. slice_set filled q plain) same
        ∙ (set-set rest.slots (hand rest.slots) (Full ptr) plain
        ∙ (ap (λ q. slice_set rest.slots (hand rest.slots) q) (sym empty_hand) ∙ set-get_or rest.slots (hand rest.slots) plain)) in
        let goes : frame_after_act w f.statement rest.todo y ≡ frame_at fs =
        ap (λ q. frame_settled q rest.taken (with_end f.statement (ending_by last (slot_pointer filled (hand filled))) (f ∷ es)) rest.todo) slots
        ∙ (ap (λ q. frame_settled rest.slots rest.taken (with_end f.statement (ending_by last q) (f ∷ es)) rest.todo) at
        ∙ (settled_again l taken [] fs todo ∙ sym (frame_is fs))) in
        subst (λ q. TellsThread worth part n e q (log ++ told_line record { statement = f.statement; answer = None; ended = left })) goes
        (by_event d e v adds w (frame_after_act w f.statement rest.todo y) log (said_by_row f.statement y) does part n tells)

    -- an object without a member left is finished
    pub finishes : (d e : DeskNow V) (b : ℕ) (vacant : Bool) (y : V) (adds : AddsEvent d (event.Finish (latest_of d b) vacant y) e) (x : V) → IsEnding d b x
        → (f : Ending) (es : List Ending) → f.block.0 ≡ b → f.stage ≡ 3 → (log : List Said)
        → TakesThread worth d (frame_at (f ∷ es)) log e (frame_at es) log
    finishes d e b vacant y adds x ends f es block stage log part n tells =
        let s = calls.state_before_event V adds in
        let v = event.Finish (latest_of d b) vacant y in
        let u : FrameView = record rest { endings = es } in
        let next : FinishesEnding s (record rest { endings = f ∷ es }) f es (trace_label d.name (Some v) (silent f.statement)) u = record {
          vacant = vacant;
          value = y;
          none = omega (arith, stage);
          makes = ap (λ q. Some (event.Finish q vacant y)) (sym (ap (λ q. s.latest q) block ∙ ended_latest d e v adds b x ends));
          says = refl;
          goes = refl;
        } in
        let does : DoesNext worth s (record rest { endings = f ∷ es }) (trace_label d.name (Some v) (silent f.statement)) u =
        subst (λ (a : Ahead). DoesAhead worth s (record rest { endings = f ∷ es }) (trace_label d.name (Some v) (silent f.statement)) u a)
        (sym (cond-false (is_full (slot_pointer rest.slots (hand rest.slots))) _ _ (ap (λ q. is_full (pointer_of q)) empty_hand))) (inr next) in
        subst (λ w. TellsThread worth part n e w log) (sym (frame_is es))
        (subst (λ l. TellsThread worth part n e u l) (append-nil log)
        (by_event d e v adds (record rest { endings = f ∷ es }) u log (silent f.statement) does part n
        (subst (λ w. TellsThread worth part n d w log) (frame_is (f ∷ es)) tells)))
