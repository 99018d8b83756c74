-- Turns follow the statements of all threads.
use Rattle.std.proofs.Common.{◌≡◌, ℕ, zero, suc, ◌+◌, ◌-◌, ◌<◌, Bool, false, cond, List, [], ◌∷◌}
use Rattle.std.proofs.Common.{◌++◌, length, get_or, set, ◌==◌, Some, None, Option, sym, refl, ap}
use Rattle.std.proofs.Common.{◌∙◌, subst, inl, inr, append_assoc, append-nil, arith}
use Rattle.std.proofs.Common.{get_or-set_other, get_or-set_same}
use Rattle.script_stepper.proofs.Prelude
use Prelude.{AbstractState, acted, ahead, AnEnd, cases_eq, cases_lt, cond_both, DoesNext, Ending}
use Prelude.{entry, Event, exact, flat_map, flat_map-append, frame_of, FrameView, get_or_past}
use Prelude.{GoesThrough, hand, has_object, heard, History, history_clears, in_order, is_full}
use Prelude.{IsTrace, Item, leads, next, no_worth, Nothing, nowhere, onto, Opening, opening}
use Prelude.{program_in, put_on, reply_in, rest_of, rested_frame, row_in, Said, said_by_row}
use Prelude.{script_abstraction, script_shape, script_world_state, ScriptView, set-get_or, Slot}
use Prelude.{slot_of, slot_pointer, Slots, state_in, stops, Task, TraceLabel, unwinds_on, unwound}
use Prelude.{Waits, weak, went, Wound}
use Rattle.std.proofs.lemmas.Bool.{cond-false}
use Rattle.control_word.specs.declared.model.event.Event.TheVariants as event
use Rattle.step_threads.specs.TraceLabels.{Ahead, DoesAhead, lines, spoken}
use Rattle.step_threads.specs.Endings.{staged}
use Rattle.step_threads.specs.Unwinding.{Stop}
use Rattle.step_threads.specs.Steps.{silent}
use Rattle.step_core.proofs.following.Replies.{replied}
use Rattle.script_stepper.specs.Followed.{TurnsFollow, spoken_of}
use Rattle.script_stepper.proofs.Plays.{items_told, play, play_from, plays, said, said_from}
use Rattle.script_stepper.proofs.LineLemmas.{flat_map-one}
use Rattle.script_stepper.proofs.OneTurn.{play_waits}
use Rattle.script_stepper.proofs.StepLemmas.{first_rests}
use Rattle.script_stepper.proofs.TraceLemmas.{over_of, play_done, play_size, plays_extent}
use Rattle.script_stepper.proofs.TraceLemmas.{said_done, there}
use Rattle.script_stepper.proofs.Takings.{turns_are}
use Rattle.script_stepper.proofs.Unwinding.{ahead_next, still}

-- how far threads have come from where they were: the history, where each is, and what they said
pub record Far (z : Opening) (b : AbstractState) (h : History) (ws : List FrameView) (out : List (ℕ × Said)) : Type 0 where
  pub trace_labels : List (TraceLabel Nothing)
  pub history : h ≡ onto b.history trace_labels
  pub each : (d : ℕ) → GoesThrough no_worth z b.history d (frame_of b d) trace_labels (get_or ws d nowhere)
  pub says : lines trace_labels ≡ out

abbrev done_by : ℕ → Option (Event Nothing) → Said → TraceLabel Nothing
done_by d e x = record { desk = d; event = e; said = x }

module _ (z : Opening) (b : AbstractState) (d : ℕ) (ws : List FrameView) (lt : d < length ws) where
  -- thread d is here, and the others where they were
  abbrev At : History → FrameView → List (ℕ × Said) → Type 0
  At h u out = Far z b h (set ws d u) out

  -- one more doing
  more : (h : History) (u u' : FrameView) (out : List (ℕ × Said)) (e : Option (Event Nothing)) (x : Said) → At h u out
      → DoesNext no_worth (leads z h) u (done_by d e x) u' → At (put_on d e h) u' (out ++ spoken d x)
  more h u u' out e x f does =
      let y = done_by d e x in
      let was = get_or-set_same ws d u nowhere lt in
      let is = get_or-set_same ws d u' nowhere lt in
      let own : DoesNext no_worth (leads z (onto b.history f.trace_labels)) (get_or (set ws d u) d nowhere) y (get_or (set ws d u') d nowhere) =
      subst (λ (q : History). DoesNext no_worth (leads z q) (get_or (set ws d u) d nowhere) y (get_or (set ws d u') d nowhere)) f.history
      (subst (λ (w : FrameView). DoesNext no_worth (leads z h) w y (get_or (set ws d u') d nowhere)) (sym was)
      (subst (λ (w : FrameView). DoesNext no_worth (leads z h) u y w) (sym is) does)) in
      let mine : GoesThrough no_worth z b.history d (frame_of b d) (y ∷ f.trace_labels) (get_or (set ws d u') d nowhere) =
      inr (refl, (get_or (set ws d u) d nowhere, f.each d, own)) in
      record {
        trace_labels = y ∷ f.trace_labels;
        history = ap (put_on d e) f.history;
        each = λ k. elim (cases_eq k d) [
          | inl same ↦ subst (λ (i : ℕ). GoesThrough no_worth z b.history i (frame_of b i) (y ∷ f.trace_labels) (get_or (set ws d u') i nowhere))
              (sym same) mine
          | inr ne ↦ inl (
            λ q. ne (sym q),
            subst (λ (w : FrameView). GoesThrough no_worth z b.history k (frame_of b k) f.trace_labels w)
                (get_or-set_other ws d k u nowhere ne ∙ sym (get_or-set_other ws d k u' nowhere ne)) (f.each k),
          )
        ];
        says = ap (λ (l : List (ℕ × Said)). l ++ spoken d x) f.says;
      }

  -- one that says nothing
  quietly : (h : History) (u u' : FrameView) (out : List (ℕ × Said)) (e : Option (Event Nothing)) (k : ℕ) → At h u out
      → DoesNext no_worth (leads z h) u (done_by d e (silent k)) u' → At (put_on d e h) u' out
  quietly h u u' out e k f does =
      subst (λ (l : List (ℕ × Said)). At (put_on d e h) u' l) (append-nil out) (more h u u' out e (silent k) f does)

  module _ (taken : Bool) (todo : List Task) (slots : Slots) (out : List (ℕ × Said))
      (free : is_full (slot_pointer slots (hand slots)) ≡ false) where
    abbrev here : Slots → List Ending → FrameView
    here l es = record { slots = l; taken = taken; endings = es; todo = todo }

    abbrev Wounds : Wound → Type 0
    Wounds x = At x.history (here x.slots x.endings) out

    next_end : (e : Ending) (es : List Ending) → ahead (here slots (e ∷ es)) ≡ AnEnd e es
    next_end e es = cond-false (is_full (slot_pointer slots (hand slots))) _ _ free

    -- an object without a member left is finished
    finished : (h : History) (e : Ending) (es : List Ending) (o : ℕ) → 3 - e.stage ≡ 0 → (leads z h).latest e.block.0 ≡ o
        → At h (here slots (e ∷ es)) out → At (entry d (event.Finish o (weak (leads z h) o == 0) tt) ∷ h) (here slots es) out
    finished h e es o none is at =
        let v = weak (leads z h) o == 0 in
        let y = done_by d (Some (event.Finish o v tt)) (silent e.statement) in
        quietly h (here slots (e ∷ es)) (here slots es) out (Some (event.Finish o v tt)) e.statement at
        (subst (λ (a : Ahead). DoesAhead no_worth (leads z h) (here slots (e ∷ es)) y (here slots es) a) (sym (next_end e es))
        (inr (record {
          vacant = v;
          value = tt;
          none = omega (arith, none);
          makes = ap (λ (n : ℕ). Some (event.Finish n v tt)) (sym is);
          says = refl;
          goes = refl;
        })))

    -- a member is cleared
    cleared : (h : History) (e : Ending) (es : List Ending) (o k : ℕ) → 3 - e.stage ≡ suc k → (leads z h).latest e.block.0 ≡ o
        → At h (here slots (e ∷ es)) out
        → let s = leads z h in
        let x = (s.object o).member (2 - k) in
        At (history_clears z d o (2 - k) h) (here (cond (has_object x) (set slots (hand slots) (slot_of s x)) slots) (staged e ∷ es)) out
    cleared h e es o k left is at =
        let s = leads z h in
        let x = (s.object o).member (2 - k) in
        let u = here (cond (has_object x) (set slots (hand slots) (slot_of s x)) slots) (staged e ∷ es) in
        let m : 2 - k ≡ e.stage = omega (arith, left) in
        let y = done_by d (Some (event.ClearMember o (2 - k) x)) (silent e.statement) in
        quietly h (here slots (e ∷ es)) u out (Some (event.ClearMember o (2 - k) x)) e.statement at
        (subst (λ (a : Ahead). DoesAhead no_worth s (here slots (e ∷ es)) y u a) (sym (next_end e es))
        (inl (record {
          held = x;
          some = omega (arith, left);
          makes = ap (λ (n : ℕ). Some (event.ClearMember n (2 - k) x)) (sym is) ∙ ap (λ (n : ℕ). Some (event.ClearMember (s.latest e.block.0) n x)) m;
          says = refl;
          goes = refl;
        })))

    goes_same : (e : Ending) (es : List Ending) (h : History) (x : Wound) (o : Option (ℕ × Slot))
        → unwinds_on (staged e) es h slots x o ≡ unwinds_on e es h slots x o
    goes_same e es h x None = refl
    goes_same e es h x (Some p) = refl

    -- an object ends, as far as it does by itself
    ended : (es : List Ending) → ((h : History) → At h (here slots es) out → Wounds (unwound z d slots es h))
        → (k : ℕ) (e : Ending) (h : History) (o : ℕ) → 3 - e.stage ≡ k → (leads z h).latest e.block.0 ≡ o
        → At h (here slots (e ∷ es)) out
        → let c = stops z d o k h in Wounds (unwinds_on e es c.history slots (unwound z d slots es c.history) c.out)
    ended es rest zero e h o left is at =
        rest (entry d (event.Finish o (weak (leads z h) o == 0) tt) ∷ h) (finished h e es o left is at)
    ended es rest (suc k) e h o left is at =
        let s = leads z h in
        let x = (s.object o).member (2 - k) in
        let h' = history_clears z d o (2 - k) h in
        let now = cleared h e es o k left is at in
        cond_both (has_object x) (record { history = h'; out = Some (k, slot_of s x) }) (stops z d o k h')
        (λ (c : Stop). Wounds (unwinds_on e es c.history slots (unwound z d slots es c.history) c.out))
        (λ t. let n : e.stage + 1 ≡ 3 - k = omega (arith, left) in
        subst (λ (i : ℕ). At h' (here (set slots (hand slots) (slot_of s x)) (record { block = e.block; stage = i; statement = e.statement } ∷ es)) out) n
        (subst (λ (q : Bool). At h' (here (cond q (set slots (hand slots) (slot_of s x)) slots) (staged e ∷ es)) out) t now))
        (λ f. let c = stops z d o k h' in
        subst Wounds (goes_same e es c.history (unwound z d slots es c.history) c.out)
        (ended es rest k (staged e) h' o (omega (arith, left)) is
        (subst (λ (q : Bool). At h' (here (cond q (set slots (hand slots) (slot_of s x)) slots) (staged e ∷ es)) out) f now)))

    all_ended : (es : List Ending) (h : History) → At h (here slots es) out → Wounds (unwound z d slots es h)
    all_ended [] h at = at
    all_ended (e ∷ es) h at = ended es (all_ended es) (3 - e.stage) e h ((leads z h).latest e.block.0) refl refl at

  -- the endings go on by themselves
  wound : (h : History) (w : FrameView) (out : List (ℕ × Said)) → At h w out
      → let x = rested_frame z d h w in At x.history (record { slots = x.slots; taken = w.taken; endings = x.endings; todo = w.todo }) out
  wound h w out at =
      cond_both (is_full (slot_pointer w.slots (hand w.slots))) (still h w) (unwound z d w.slots w.endings h)
      (λ (x : Wound). At x.history (record { slots = x.slots; taken = w.taken; endings = x.endings; todo = w.todo }) out)
      (λ t. at) (λ f. all_ended w.taken w.todo w.slots out f w.endings h at)

-- a turn of thread d that has this to do next
act_on : (b c : AbstractState) (d : ℕ) (out : List (ℕ × Said)) (t : Task) → d < length c.frame_views → Waits (frame_of c d) → next (frame_of c d) ≡ Some t
    → Far (opening c.extent) b c.history c.frame_views out
    → let p = play_from c d (frame_of c d) (Some t) in
    let w = frame_of c d in
    Far (opening c.extent) b p.history p.frame_views (out ++ spoken d (said_by_row t.statement (row_in exact (state_in c) d w.slots w.taken t.act)))
act_on b c d out t lt waits is far =
    let w = frame_of c d in
    let z = opening c.extent in
    let ts = rest_of w.endings w.todo in
    let q = replied exact z d c.history w t.act in
    let x = said_by_row t.statement (row_in exact (state_in c) d w.slots w.taken t.act) in
    let u = went (state_in c) d w t.statement ts t.act in
    let begun : Far z b c.history (set c.frame_views d w) out =
    subst (λ (l : List FrameView). Far z b c.history l out) (sym (set-get_or c.frame_views d nowhere)) far in
    let does : DoesNext no_worth (leads z c.history) w (done_by d q.event x) u =
    subst (λ (a : Ahead). DoesAhead no_worth (leads z c.history) w (done_by d q.event x) u a)
    (sym (ahead_next w.slots w.endings w.todo t waits.endings is))
    (record { reply = reply_in exact (state_in c) d w.slots t.act; makes = q.makes; says = refl; goes = refl }) in
    let h = acted exact z d w.slots c.history t.act in
    let made : Far z b h (set c.frame_views d u) (out ++ spoken d x) =
    subst (λ (k : History). Far z b k (set c.frame_views d u) (out ++ spoken d x)) (sym q.history)
    (more z b d c.frame_views lt c.history w u out q.event x begun does) in
    wound z b d c.frame_views lt h u (out ++ spoken d x) made

abbrev AllWait : AbstractState → Type 0
AllWait c = (i : ℕ) → i < length c.frame_views → Waits (frame_of c i)

-- a turn
turn_on : (b c : AbstractState) (thread : ℕ) (out : List (ℕ × Said)) → AllWait c → Far (opening c.extent) b c.history c.frame_views out
    → let p = play (thread - 1) c in
    Far (opening c.extent) b p.history p.frame_views (out ++ flat_map spoken_of (heard thread (said (thread - 1) c)))
turn_on b c thread out waits far = go (next (frame_of c (thread - 1))) refl
  where
    go : (o : Option Task) → next (frame_of c (thread - 1)) ≡ o
        → let p = play (thread - 1) c in
        Far (opening c.extent) b p.history p.frame_views (out ++ flat_map spoken_of (heard thread (said (thread - 1) c)))
    go None e =
        let d = thread - 1 in
        subst (λ (s : Option Said). Far (opening c.extent) b (play d c).history (play d c).frame_views (out ++ flat_map spoken_of (heard thread s)))
        (sym (said_done d c e))
        (subst (λ (p : AbstractState). Far (opening c.extent) b p.history p.frame_views (out ++ [])) (sym (play_done d c e))
        (subst (λ (l : List (ℕ × Said)). Far (opening c.extent) b c.history c.frame_views l) (sym (append-nil out)) far))
    go (Some t) e =
        let d = thread - 1 in
        let w = frame_of c d in
        let lt = there c d t e in
        let x = said_by_row t.statement (row_in exact (state_in c) d w.slots w.taken t.act) in
        let goes = act_on b c d out t lt (waits d lt) e far in
        let one : spoken d x ≡ flat_map spoken_of (heard thread (said d c)) =
        sym (flat_map-one spoken_of (thread, x))
        ∙ ap (λ (o : Option Task). flat_map spoken_of (heard thread (said_from c d w o))) (sym e) in
        subst (λ (o : Option Task). let p = play_from c d w o in
        Far (opening c.extent) b p.history p.frame_views (out ++ flat_map spoken_of (heard thread (said d c)))) (sym e)
        (let p = play_from c d w (Some t) in
        subst (λ (l : List (ℕ × Said)). Far (opening c.extent) b p.history p.frame_views (out ++ l)) one goes)

waits_on : (c : AbstractState) (d : ℕ) → AllWait c → AllWait (play d c)
waits_on c d waits = λ i here.
    let n = play_size d c in
    elim (cases_lt d (length c.frame_views)) [
      | inl lt ↦ play_waits c d i lt (omega (arith, n, here)) waits
      | inr le ↦ subst (λ (p : AbstractState). Waits (frame_of p i)) (sym (play_done d c (ap next (get_or_past c.frame_views d nowhere le))))
          (waits i (omega (arith, n, here)))
    ]

-- turns, one after another
turns_on : (b c : AbstractState) (turns : List ℕ) (out : List (ℕ × Said)) → opening c.extent ≡ opening b.extent → AllWait c
    → Far (opening b.extent) b c.history c.frame_views out
    → let p = plays turns c in Far (opening b.extent) b p.history p.frame_views (out ++ flat_map spoken_of (items_told turns c))
turns_on b c [] out same waits far =
    subst (λ (l : List (ℕ × Said)). Far (opening b.extent) b c.history c.frame_views l) (sym (append-nil out)) far
turns_on b c (thread ∷ turns) out same waits far =
    let d = thread - 1 in
    let p = play d c in
    let says = heard thread (said d c) in
    let extent = ap opening (plays_extent (thread ∷ []) c) in
    let now : Far (opening b.extent) b p.history p.frame_views (out ++ flat_map spoken_of says) =
    subst (λ (z : Opening). Far z b p.history p.frame_views (out ++ flat_map spoken_of says)) same
    (turn_on b c thread out waits (subst (λ (z : Opening). Far z b c.history c.frame_views out) (sym same) far)) in
    let q = plays turns p in
    subst (λ (l : List (ℕ × Said)). Far (opening b.extent) b q.history q.frame_views l)
    (append_assoc out (flat_map spoken_of says) (flat_map spoken_of (items_told turns p))
    ∙ ap (λ (l : List (ℕ × Said)). out ++ l) (sym (flat_map-append spoken_of says (items_told turns p))))
    (turns_on b p turns (out ++ flat_map spoken_of says) (extent ∙ same) (waits_on c d waits) now)

-- a whole run of a script
pub turns_follow : (script : ScriptView) (turns : List ℕ) (items : List Item) (last : AbstractState) → IsTrace turns (script_abstraction script) items last
    → TurnsFollow (script_abstraction script) items last
turns_follow script turns items last trace =
    let c = script_abstraction script in
    let all = turns ++ in_order 1 trace.more in
    let rests = first_rests (script_shape script) (program_in script.threads) (script_world_state script) refl in
    let are = turns_are all c items last trace.takes in
    let far = turns_on c c all [] refl rests.frame_views
    (record { trace_labels = []; history = refl; each = λ d. refl; says = refl }) in
    record {
      trace_labels = far.trace_labels;
      history = ap (λ (s : AbstractState). s.history) are.1 ∙ far.history;
      each = λ d. subst (λ (s : AbstractState). GoesThrough no_worth (opening c.extent) c.history d (frame_of c d) far.trace_labels (frame_of s d)) (sym are.1)
          (far.each d);
      over = λ d. let w = frame_of last d in over_of w.slots w.endings w.todo (trace.over d);
      says = far.says ∙ ap (λ (l : List Item). flat_map spoken_of l) (sym are.0);
    }
