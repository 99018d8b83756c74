-- What locks answer, and what answers so.
use Rattle.std.proofs.Common.{◌≡◌, ℕ, ◌-◌, Bool, true, false, ◌⊎◌, List, ◌∷◌, Some, None, Option}
use Rattle.std.proofs.Common.{sym, refl, ap, ◌∙◌, subst, inl, inr, ⊎_elim}
use Rattle.step_core.proofs.Prelude
use Prelude.{abstraction, AbstractState, Act, ActsNext, Ahead, ahead, AnAct, AnEnd, Answer}
use Prelude.{answer_by, DoesAhead, Ended, false≢true, frame_of, FrameView, Got, hand, Handle}
use Prelude.{IsLeaveEvent, IsMakeEvent, Kind, Leave, leaves_as, Lock, model_state, no_worth}
use Prelude.{Nothing, NumberedHandle, On, Over, owned, Owner, PassesQuietly, Performs, put_on}
use Prelude.{Reply, row, Said, same_Some, slot_pointer, State, statement_by, Task, TraceLabel}
use Prelude.{TraceStep, Was, Weak, weak_of, weak_slot, WorldState}
use Rattle.control_word.specs.declared.model.event.Event.TheVariants as event
use Rattle.step_threads.specs.TraceLabels.{MakesAct}
use Rattle.step_threads.specs.Rows.{lock_answer}
use Rattle.step_core.specs.Headline.{LocksNext, LocksNone, TellsLocks}
use Rattle.step_core.proofs.runs.TraceLabels.{Events, IsDone, Locks, Leaves, Other, IsOther}
use Rattle.step_core.proofs.runs.TraceLabels.{ahead_task, each, is_of_lock, is_said, no_more, put}
use Rattle.step_core.proofs.runs.TraceLabels.{says_none, sort_of}

-- what an event gave that is a lock
abbrev gave_by : Events → Option Bool
gave_by None = None
gave_by (Some (event.Lock w got)) = Some got
gave_by (Some _) = None

none_some : {A : Type 0} (a : A) → ◌≡◌ {A = Option A} None (Some a) → ⊥
none_some a q = cc

of_lock : (must gave : Bool) → is_of_lock (Some (lock_answer must gave)) ≡ true
of_lock false gave = refl
of_lock true true = refl
of_lock true false = refl

same_lock : (must gave m g : Bool) → lock_answer must gave ≡ lock_answer m g → (must ≡ m) × (gave ≡ g)
same_lock false false false false e = (refl, refl)
same_lock false true false true e = (refl, refl)
same_lock true false true false e = (refl, refl)
same_lock true true true true e = (refl, refl)
same_lock false false false true e = absurd cc
same_lock false true false false e = absurd cc
same_lock false gave true true e = absurd cc
same_lock false gave true false e = absurd cc
same_lock true true false g e = absurd cc
same_lock true false false g e = absurd cc
same_lock true true true false e = absurd cc
same_lock true false true true e = absurd cc

-- what is neither a lock nor a leave, and what leaves, is no lock
other_no_lock : (e : Events) (a : Option Answer) (left : Option Ended) (w : NumberedHandle) (g : Bool) → IsOther e a left → e ≡ Some (event.Lock w g) → ⊥
other_no_lock e a left w g other was = absurd (let sort = sym other.sort ∙ ap sort_of was in cc)

module _ (s : State) where
  abbrev IsLock : Option Handle → Bool → Events → Type 0
  IsLock o got e = On (λ (x : Handle). e ≡ Some (event.Lock (weak_of (owned s x) x.place) got)) ((got ≡ false) × (e ≡ None)) o

  leave_no_lock : (o : Option Handle) (last : Bool) (left : Option Ended) (e : Events) (w : NumberedHandle) (g : Bool) → IsLeaveEvent s o last left e
      → e ≡ Some (event.Lock w g) → ⊥
  leave_no_lock None last left e w g is was = none_some (event.Lock w g) (sym is.2 ∙ was)
  leave_no_lock (Some x) last left e w g is was = go x.kind (ap gave_by (sym is.0 ∙ was))
    where
      go : (q : Kind) → gave_by (Some (leaves_as s q last x)) ≡ Some g → ⊥
      go Owner m = none_some g m
      go Weak m = none_some g m

  gave : (o : Option Handle) (got : Bool) (e : Events) (w : NumberedHandle) (g : Bool) → IsLock o got e → e ≡ Some (event.Lock w g) → got ≡ g
  gave None got e w g is was = absurd (none_some (event.Lock w g) (sym is.1 ∙ was))
  gave (Some x) got e w g is was = same_Some _ _ (ap gave_by (sym is ∙ was))

  -- a lock is an event, or its name has no weak pointer
  locked : (o : Option Handle) (got : Bool) (e : Events) → IsLock o got e
      → ((h : NumberedHandle) × (e ≡ Some (event.Lock h got))) ⊎ ((got ≡ false) × (o ≡ None))
  locked None got e is = inr (is.0, refl)
  locked (Some x) got e is = inl (weak_of (owned s x) x.place, is)

module _ (u : WorldState) (x : TraceStep) (u' : WorldState) where
  abbrev d : ℕ
  d = x.actor - 1

  abbrev w : FrameView
  w = frame_of (abstraction u) d

  abbrev s : State
  s = model_state u.ghost_state

  -- the next task is this lock
  lock_ahead : (t : Task) (ts : List Task) (i : ℕ) (must : Bool) → ahead w ≡ AnAct t ts → t.act ≡ Lock i must → w.todo ≡ t ∷ ts
  lock_ahead t ts i must is lock =
      ⊎_elim (λ (q : w.todo ≡ t ∷ ts). q) (λ (q : t.act ≡ Leave (hand w.slots)). absurd (let clash = sym lock ∙ q in cc))
      (ahead_task w.slots w.endings w.todo t ts is)

  abbrev Answers : Bool → Type 0
  Answers g =
      (k : ℕ) × (must : Bool) × LocksNext k must w.todo × (statement_by x.stepped ≡ Some k) × (answer_by x.stepped ≡ Some (lock_answer must g))

  abbrev Happens : Bool → Bool → Type 0
  Happens must g = ((h : NumberedHandle) × Was (event.Lock h g) u x u') ⊎ ((g ≡ false) × LocksNone must w.slots w.todo)

  quietly_happens : (must g : Bool) → PassesQuietly d u x.stepped u' → answer_by x.stepped ≡ Some (lock_answer must g) → Happens must g
  quietly_happens must g p told = absurd (none_some (lock_answer must g) (sym (says_none d x.stepped p.silent).0 ∙ told))

  module _ (p : ActsNext d u x.stepped u') where
    abbrev y : TraceLabel Nothing
    y = p.trace_label

    -- a lock that is made, with its reply
    lock_row : (a : Act) (r : Reply) (i : ℕ) (must got : Bool) → a ≡ Lock i must → r ≡ Got got
        → (row a w.slots w.taken r).answer ≡ Some (lock_answer must got)
    lock_row a r i must got e f =
        ap (λ (b : Act). (row b w.slots w.taken r).answer) e ∙ ap (λ (q : Reply). (row (Lock i must) w.slots w.taken q).answer) f

    lock_made : (a : Act) (r : Reply) (i : ℕ) (must got : Bool) → a ≡ Lock i must → r ≡ Got got
        → IsMakeEvent no_worth s y.desk w.slots a r y.event → IsLock s (weak_slot (slot_pointer w.slots i)) got y.event
    lock_made a r i must got e f m =
        subst (λ (q : Reply). IsMakeEvent no_worth s y.desk w.slots (Lock i must) q y.event) f
        (subst (λ (b : Act). IsMakeEvent no_worth s y.desk w.slots b r y.event) e m)

    abbrev Made : Task → List Task → Type 0
    Made t ts = MakesAct no_worth s w t ts y (frame_of (abstraction u') d)

    act_answers : (t : Task) (ts : List Task) (m : Made t ts) → answer_by x.stepped ≡ (row t.act w.slots w.taken m.reply).answer
    act_answers t ts m = (is_said x.stepped y.said p.says).answer ∙ ap (λ (a : Said). a.answer) m.says

    act_states : (t : Task) (ts : List Task) (m : Made t ts) → statement_by x.stepped ≡ Some t.statement
    act_states t ts m = (is_said x.stepped y.said p.says).statement ∙ ap (λ (a : Said). Some a.statement) m.says

    made_answers : (h : NumberedHandle) (g : Bool) (t : Task) (ts : List Task) (m : Made t ts) → y.event ≡ Some (event.Lock h g) → ahead w ≡ AnAct t ts
        → IsDone s w.slots w.taken t.act m.reply y.event → Answers g
    made_answers h g t ts m was is (Other other) = absurd (other_no_lock y.event _ _ h g other was)
    made_answers h g t ts m was is (Leaves o last left leave silent ended) = absurd (leave_no_lock s o last left y.event h g leave was)
    made_answers h g t ts m was is (Locks i must got e f leaves ended) =
        let same = gave s (weak_slot (slot_pointer w.slots i)) got y.event h g (lock_made t.act m.reply i must got e f m.makes) was in (
          t.statement,
          must,
          subst (LocksNext t.statement must) (sym (lock_ahead t ts i must is e)) (refl, (i, e)),
          act_states t ts m,
          act_answers t ts m ∙ lock_row t.act m.reply i must got e f ∙ ap (λ (b : Bool). Some (lock_answer must b)) same,
        )

    made_happens : (must g : Bool) (t : Task) (ts : List Task) (m : Made t ts) → answer_by x.stepped ≡ Some (lock_answer must g)
        → ahead w ≡ AnAct t ts → IsDone s w.slots w.taken t.act m.reply y.event → Happens must g
    made_happens must g t ts m told is (Other other) =
        absurd (false≢true (sym other.answer ∙ ap is_of_lock (sym (act_answers t ts m) ∙ told) ∙ of_lock must g))
    made_happens must g t ts m told is (Leaves o last left leave silent ended) =
        absurd (none_some (lock_answer must g) (sym silent ∙ sym (act_answers t ts m) ∙ told))
    made_happens must g t ts m told is (Locks i n got e f leaves ended) =
        let so = same_lock n got must g (same_Some _ _ (sym (lock_row t.act m.reply i n got e f) ∙ sym (act_answers t ts m) ∙ told)) in
        ⊎_elim
        (λ (r : (h : NumberedHandle) × (y.event ≡ Some (event.Lock h got))).
        inl (r.0, p.history ∙ ap (λ (q : Events). put_on d q u.ghost_state.history) (r.1 ∙ ap (λ (b : Bool). Some (event.Lock r.0 b)) so.1)))
        (λ (r : (got ≡ false) × (weak_slot (slot_pointer w.slots i) ≡ None)).
        inr (sym so.1 ∙ r.0, subst (LocksNone must w.slots) (sym (lock_ahead t ts i n is e)) (i, e ∙ ap (Lock i) so.0, r.1)))
        (locked s (weak_slot (slot_pointer w.slots i)) got y.event (lock_made t.act m.reply i n got e f m.makes))

    answers_by : (h : NumberedHandle) (g : Bool) → y.event ≡ Some (event.Lock h g) → (a : Ahead) → ahead w ≡ a
        → DoesAhead no_worth s w y (frame_of (abstraction u') d) a → Answers g
    answers_by h g was Over is does = absurd does
    answers_by h g was (AnEnd e es) is (inl clears) = absurd (none_some g (ap gave_by (sym clears.makes ∙ was)))
    answers_by h g was (AnEnd e es) is (inr ends) = absurd (none_some g (ap gave_by (sym ends.makes ∙ was)))
    answers_by h g was (AnAct t ts) is m = made_answers h g t ts m was is (each s y.desk w.slots w.taken t.act m.reply y.event m.makes)

    happens_by : (must g : Bool) → answer_by x.stepped ≡ Some (lock_answer must g) → (a : Ahead) → ahead w ≡ a
        → DoesAhead no_worth s w y (frame_of (abstraction u') d) a → Happens must g
    happens_by must g told Over is does = absurd does
    happens_by must g told (AnEnd e es) is (inl clears) =
        absurd (none_some (lock_answer must g) (sym ((is_said x.stepped y.said p.says).answer ∙ ap (λ (a : Said). a.answer) clears.says) ∙ told))
    happens_by must g told (AnEnd e es) is (inr ends) =
        absurd (none_some (lock_answer must g) (sym ((is_said x.stepped y.said p.says).answer ∙ ap (λ (a : Said). a.answer) ends.says) ∙ told))
    happens_by must g told (AnAct t ts) is m = made_happens must g t ts m told is (each s y.desk w.slots w.taken t.act m.reply y.event m.makes)

  pub tells_locks : Performs d u x.stepped u' → TellsLocks u x u'
  tells_locks performs =
      record {
        answers = λ h g was. ⊎_elim
            (λ (p : PassesQuietly d u x.stepped u').
            absurd (no_more d (event.Lock h g) u.ghost_state.history (sym (ap (λ (c : AbstractState). c.history) p.stays) ∙ was)))
            (λ (p : ActsNext d u x.stepped u').
            answers_by p h g (put d p.trace_label.event (event.Lock h g) u.ghost_state.history (sym p.history ∙ was)) (ahead w) refl p.does) performs;
        events = λ must g told. ⊎_elim (λ (p : PassesQuietly d u x.stepped u'). quietly_happens must g p told)
            (λ (p : ActsNext d u x.stepped u'). happens_by p must g told (ahead w) refl p.does) performs;
      }
