-- Steps of a run, which are recorded one after the other.
use Rattle.std.proofs.Common.{◌≡◌, ℕ, zero, suc, ◌+◌, ◌<◌, ◌≤◌, Bool, true, false, List, [], ◌∷◌}
use Rattle.std.proofs.Common.{◌-◌, ◌++◌, append_assoc, length, get_or, refl, sym, ◌∙◌, ap, subst, arith, take, drop}
use Rattle.std.specs.Prelude.{All, Option, Some, None, map}
use Rattle.std.proofs.lemmas.List.{append-nil, drop_more, take_all, take_more}
use Rattle.std.proofs.Math.ListN.{drop_of_length-le}
use Rattle.std.proofs.lemmas.List.Elements.{All-append, All-cons, All-head, All-nil, All-tail}
use Rattle.step_core.specs.declared.trace.TraceStep.{TraceStep}
use Rattle.step_core.specs.Following.{said_by}
use Rattle.step_core.specs.Runs.{CallsOn, InOrder, IsRun, IsScheduled, IsStepOf, NamesActor, RunsToEnd}
use Rattle.step_core.specs.Runs.{Settles, call_under_way, is_owing}
use Rattle.step_core.specs.Worlds.{Advances, Steps, WorldState, abstraction}
use Rattle.step_threads.specs.declared.said.Said.{Said}
use Rattle.step_threads.specs.declared.said.Stepped.{Stepped}
use Rattle.script_stepper.specs.Running.{heard}
use Rattle.script_text.specs.Beginnings.{script_world_state}
use Rattle.script_text.specs.Drafts.{ScriptView}
use Rattle.script_stepper.specs.StepRuns.{IsStepRun}
use Rattle.script_picture.specs.declared.part.Part.{Part}
use Rattle.script_picture.specs.declared.recording.Rows.{Rows}
use Rattle.script_picture.specs.Pictures.{IsRunRecorded}
use Rattle.script_picture.specs.Acts.{Seen, seen_in}
use Rattle.script_picture.specs.Recording.{Adds, IsRecorded, RowsAre, SeesSteps, step_seen}
use Rattle.script_picture.proofs.Recordings.{adds_none, adds_then}

-- some steps of a run were made, and what they said came: the rest of the run is left
pub record HasSeen (u : WorldState) (steps : List TraceStep) (i : ℕ) (last m : WorldState) (r s : Rows)
    : Type 0 where
  pub seen : List Seen
  pub sees : SeesSteps u (take i steps) seen m
  pub rest : IsRun m (drop i steps) last
  pub adds : Adds seen r s

pub seen_none : (u : WorldState) (steps : List TraceStep) (last : WorldState) (r : Rows) → IsRun u steps last
    → HasSeen u steps 0 last u r r
seen_none u steps last r run =
    record { seen = []; sees = (refl, refl); rest = run; adds = adds_none r }

-- one step behind others
sees_step : (u v w : WorldState) (xs : List TraceStep) (x : TraceStep) (seen : List Seen)
    → SeesSteps u xs seen v → Advances (x.actor - 1) v x.stepped w
    → SeesSteps u (xs ++ x ∷ []) (seen ++ step_seen x w) w
sees_step u v w [] x seen p a =
    let at : Advances (x.actor - 1) u x.stepped w =
    subst (λ (b : WorldState). Advances (x.actor - 1) b x.stepped w) p.1 a in
    ([], w, at, (refl, refl), ap (λ (l : List Seen). l ++ step_seen x w) p.0 ∙ sym (append-nil (step_seen x w)))
sees_step u v w (y ∷ xs) x seen p a = (
  p.0 ++ step_seen x w,
  p.1,
  p.2,
  sees_step p.1 v w xs x p.0 p.3 a,
  ap (λ (l : List Seen). l ++ step_seen x w) p.4 ∙ append_assoc (step_seen y p.1) p.0 (step_seen x w),
)

-- one step more
pub seen_more : (u : WorldState) (steps : List TraceStep) (i : ℕ) (x : TraceStep) (last v w : WorldState)
    (r m s : Rows) → i < length steps → HasSeen u steps i last v r m
    → ((b : WorldState) → Advances ((get_or steps i x).actor - 1) v (get_or steps i x).stepped b
    → (w ≡ b) × Adds (step_seen (get_or steps i x) b) m s)
    → HasSeen u steps (i + 1) last w r s
seen_more u steps i x last v w r m s lt p step =
    let y = get_or steps i x in
    let run = subst (λ (l : List TraceStep). IsRun v l last) (drop_more steps i x lt) p.rest in
    let n = step run.0 run.1 in
    let back : run.0 ≡ w = sym n.0 in
    let adv : Advances (y.actor - 1) v y.stepped w =
    subst (λ (b : WorldState). Advances (y.actor - 1) v y.stepped b) back run.1 in
    record {
      seen = p.seen ++ step_seen y w;
      sees =
          subst (λ (l : List TraceStep). SeesSteps u l (p.seen ++ step_seen y w) w)
          (sym (take_more steps i x lt)) (sees_step u v w (take i steps) y p.seen p.sees adv);
      rest = subst (λ (b : WorldState). IsRun b (drop (i + 1) steps) last) back run.2;
      adds =
          adds_then p.seen (step_seen y w) r m s p.adds
          (subst (λ (b : WorldState). Adds (step_seen y b) m s) back n.1);
    }

-- all of them
pub seen_all : (u : WorldState) (steps : List TraceStep) (i : ℕ) (last m : WorldState) (r s : Rows)
    → length steps ≤ i → HasSeen u steps i last m r s
    → (seen : List Seen) × SeesSteps u steps seen last × Adds seen r s
seen_all u steps i last m r s le p =
    let done : last ≡ m =
    subst (λ (l : List TraceStep). IsRun m l last) (drop_of_length-le steps le) p.rest in (
      p.seen,
      subst (λ (b : WorldState). SeesSteps u steps p.seen b) (sym done)
          (subst (λ (l : List TraceStep). SeesSteps u l p.seen m) (take_all i steps le) p.sees),
      p.adds,
    )

-- a step that a run made is that which the world makes again
pub same_step : (d : ℕ) (u v w : WorldState) (r r' : Stepped) → Steps d u r v → Advances d u r' w → v ≡ w
same_step d u v w r r' p q = p.1 ∙ sym q.steps.1

pub heard_again : (x : TraceStep) (said : Said) (u v : WorldState) (r s : Rows) → u ≡ v → said_by x.stepped ≡ Some said
    → Adds (seen_in (abstraction u) (x.actor, said) ∷ []) r s → Adds (step_seen x v) r s
heard_again x said u v r s same is adds =
    subst (λ (o : Option Said). Adds (map (seen_in (abstraction v)) (heard x.actor o)) r s) (sym is)
    (subst (λ (b : WorldState). Adds (seen_in (abstraction b) (x.actor, said) ∷ []) r s) same adds)

pub none_heard : (x : TraceStep) (v : WorldState) (r : Rows) → said_by x.stepped ≡ None → Adds (step_seen x v) r r
none_heard x v r is =
    subst (λ (o : Option Said). Adds (map (seen_in (abstraction v)) (heard x.actor o)) r r) (sym is)
    (adds_none r)

-- ---- each step is one of a thread of the world

abbrev IsNamed : ℕ → TraceStep → Type 0
IsNamed n x = NamesActor n x.actor

by_numbers : (n : ℕ) (xs : List TraceStep)
    → All (NamesActor n) (map (λ (x : TraceStep). x.actor) xs) → All (IsNamed n) xs
by_numbers n [] all = All-nil (IsNamed n)
by_numbers n (x ∷ xs) all =
    All-cons (IsNamed n) x xs (All-head (NamesActor n) x.actor (map (λ (x : TraceStep). x.actor) xs)
    all)
    (by_numbers n xs (All-tail (NamesActor n) x.actor (map (λ (x : TraceStep). x.actor) xs) all))

one_named : (n d : ℕ) (x : TraceStep) → d < n → x.actor ≡ d + 1 → IsNamed n x
one_named n d x lt is = (omega (arith, is), omega (arith, is, lt))

calls_named : (n k d : ℕ) (u : WorldState) (xs : List TraceStep) (u' : WorldState) → d < n
    → CallsOn k d u xs u' → All (IsNamed n) xs
calls_named n k d u [] u' lt calls = All-nil (IsNamed n)
calls_named n k d u (x ∷ xs) u' lt calls =
    All-cons (IsNamed n) x xs (one_named n d x lt calls.1)
    (calls_named n k d calls.2 xs u' lt calls.4)

settles_named : (n d : ℕ) (u : WorldState) (xs : List TraceStep) (u' : WorldState) → d < n → Settles d u xs u'
    → All (IsNamed n) xs
settles_named n d u xs u' lt s = go (is_owing u d) refl
  where
    go : (b : Bool) → is_owing u d ≡ b → All (IsNamed n) xs
    go true e = calls_named n (call_under_way d u) d u xs u' lt (s.owing e).calls
    go false e =
        subst (λ (ys : List TraceStep). All (IsNamed n) ys) (sym (s.none e).0) (All-nil (IsNamed n))

alone_named : (n d : ℕ) (xs : List TraceStep) → d < n → All (IsStepOf d) xs → All (IsNamed n) xs
alone_named n d [] lt all = All-nil (IsNamed n)
alone_named n d (x ∷ xs) lt all =
    All-cons (IsNamed n) x xs (one_named n d x lt (All-head (IsStepOf d) x xs all).0)
    (alone_named n d xs lt (All-tail (IsStepOf d) x xs all))

order_named : (n : ℕ) (R : ℕ → WorldState → List TraceStep → WorldState → Type 0)
    → ((d : ℕ) (u : WorldState) (xs : List TraceStep) (u' : WorldState) → d < n → R d u xs u'
    → All (IsNamed n) xs)
    → (k : ℕ) (u : WorldState) (xs : List TraceStep) (u' : WorldState) → k ≤ n → InOrder R k u xs u'
    → All (IsNamed n) xs
order_named n R each zero u xs u' le run =
    subst (λ (ys : List TraceStep). All (IsNamed n) ys) (sym run.0) (All-nil (IsNamed n))
order_named n R each (suc k) u xs u' le run =
    subst (λ (ys : List TraceStep). All (IsNamed n) ys) (sym run.3)
    (All-append (IsNamed n) run.0 run.1 (order_named n R each k u run.0 run.2 (omega (arith, le))
    run.4)
    (each k run.2 run.1 u' (omega (arith, le)) run.5))

pub steps_named : (turns : List ℕ) (u : WorldState) (xs : List TraceStep) (u' : WorldState)
    → IsScheduled turns u xs u'
    → All (NamesActor (length u.frame_views)) turns → All (IsNamed (length u.frame_views)) xs
steps_named turns u xs u' s named =
    let n = length u.frame_views in
    subst (λ (ys : List TraceStep). All (IsNamed n) ys) (sym s.parts)
    (All-append (IsNamed n) (s.first ++ s.settled) s.alone
    (All-append (IsNamed n) s.first s.settled
    (by_numbers n s.first (subst (λ (ts : List ℕ). All (NamesActor n) ts) (sym s.numbers) named))
    (order_named n Settles (settles_named n) n s.middle s.settled s.calm (omega arith) s.settles))
    (order_named n RunsToEnd (λ d v ys v' lt r. alone_named n d ys lt r.alone) n s.calm s.alone u'
    (omega arith) s.ends))

-- the rows of a script's run by single steps
pub steps_recorded : (script : ScriptView) (turns : List ℕ) (part : Part) (u v : WorldState)
    (steps : List TraceStep) (m : Rows) → u ≡ script_world_state script
    → IsStepRun turns u steps v
    → ((last : WorldState) → IsRun (script_world_state script) steps last
    → (seen : List Seen) × SeesSteps (script_world_state script) steps seen last × RowsAre m seen)
    → m.part ≡ part → IsRunRecorded true script turns part m.acts m.list.items
steps_recorded script turns part u v steps m is run rows part_is =
    let here : IsStepRun turns (script_world_state script) steps v =
    subst (λ (w : WorldState). IsStepRun turns w steps v) is run in
    let r = rows v here.run in
    record {
      seen = r.0;
      says = record { steps = steps; last = v; run = here; sees = r.1 };
      recorded = subst (λ (p : Part). IsRecorded p m.acts m.list.items r.0) part_is r.2;
    }
