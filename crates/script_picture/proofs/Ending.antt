-- Each thread to its end, in number order, with its acts recorded.
use Rattle.std.proofs.Common.{◌≡◌, ℕ, ◌+◌, ◌-◌, ◌<◌, ◌≤◌, List, [], ◌∷◌, ◌++◌, replicate, inl, inr, length, refl, sym}
use Rattle.std.proofs.Common.{◌∙◌, ap, subst}
use Rattle.std.proofs.Common.{arith, append_assoc, length-append}
use Rattle.std.specs.Prelude.{None, false}
use Rattle.std.proofs.lemmas.Bool.{cases_eq}
use Rattle.std.proofs.lemmas.List.{append-nil}
use Rattle.step_threads.specs.AbstractStates.{AbstractState, next, frame_of}
use Rattle.step_core.specs.Worlds.{WorldState, abstraction}
use Rattle.script_text.specs.Beginnings.{script_world_state}
use Rattle.script_text.specs.Drafts.{ScriptView}
use Rattle.script_text.specs.Traces.{in_order}
use Rattle.script_stepper.specs.Running.{AllOver}
use Rattle.script_stepper.proofs.EndLemmas.{all_over, in_order-more}
use Rattle.script_stepper.proofs.RunLemmas.{run_plays}
use Rattle.script_stepper.proofs.TraceLemmas.{plays_over}
use Rattle.script_picture.specs.declared.part.Part.{Part}
use Rattle.script_picture.specs.declared.recording.Rows.{Rows}
use Rattle.script_picture.specs.Pictures.{IsRunRecorded, IsTurnRun}
use Rattle.script_picture.specs.Recording.{HasTaken, IsRecorded, RowsAre, TakesAlone, TakesOut}
use Rattle.script_picture.proofs.Taking.{taken_same, taken_then}

-- the threads before this one are at their ends, by these turns and some more of each
pub record Ended (turns : List ℕ) (i : ℕ) (u v : WorldState) (r m : Rows) : Type 0 where
  pub more : List ℕ
  pub each : length more ≡ i
  pub taken : HasTaken (turns ++ in_order 1 more) u v r m
  pub over : (d : ℕ) → d < i → next (frame_of (abstraction v) d) ≡ None

pub none_ended : (turns : List ℕ) (u v : WorldState) (r m : Rows) → HasTaken turns u v r m → Ended turns 0 u v r m
none_ended turns u v r m h =
    record { more = []; each = refl; taken = taken_same _ _ u v r m (sym (append-nil turns)) h; over = λ d lt. absurd (omega (arith, lt)) }

over_then : (i : ℕ) (v w : WorldState) (m s : Rows) → ((d : ℕ) → d < i → next (frame_of (abstraction v) d) ≡ None)
    → TakesAlone (i + 1) v w m s → next (frame_of (abstraction w) (i + 1 - 1)) ≡ None → (d : ℕ) → d < i + 1 → next (frame_of (abstraction w) d) ≡ None
over_then i v w m s h alone over d lt =
    elim (cases_eq d i) [
      | inl same ↦ (let s : i + 1 - 1 ≡ d = omega (arith, same) in subst (λ (z : ℕ). next (frame_of (abstraction w) z) ≡ None) s over)
      | inr ne ↦ subst (λ (c : AbstractState). next (frame_of c d) ≡ None) (sym (run_plays (replicate alone.0 (i + 1)) v w [] alone.1.text alone.1.run))
          (plays_over (replicate alone.0 (i + 1)) d (abstraction v) (h d (omega (arith, lt, ne))))
    ]

-- one thread more at its end
pub ended_then : (turns : List ℕ) (i : ℕ) (u v w : WorldState) (r m s : Rows) → Ended turns i u v r m → TakesAlone (i + 1) v w m s
    → next (frame_of (abstraction w) (i + 1 - 1)) ≡ None → Ended turns (i + 1) u w r s
ended_then turns i u v w r m s p alone over =
    let here : 1 + length p.more ≡ i + 1 = (let n = p.each in omega (arith, n)) in
    let all : (turns ++ in_order 1 p.more) ++ replicate alone.0 (i + 1) ≡ turns ++ in_order 1 (p.more ++ alone.0 ∷ []) =
    append_assoc turns (in_order 1 p.more) (replicate alone.0 (i + 1))
    ∙ ap (λ (l : List ℕ). turns ++ l)
    (ap (λ (k : ℕ). in_order 1 p.more ++ replicate alone.0 k) (sym here) ∙ sym (in_order-more p.more alone.0 1)) in
    record {
      more = p.more ++ alone.0 ∷ [];
      each = (let n = p.each in let m = length-append p.more (alone.0 ∷ []) in omega (arith, n, m));
      taken = taken_same _ _ u w r s all (taken_then (turns ++ in_order 1 p.more) (replicate alone.0 (i + 1)) u v w r m s p.taken alone.1);
      over = over_then i v w m s p.over alone over;
    }

pub all_ended : (turns : List ℕ) (i : ℕ) (u v : WorldState) (r m : Rows) → length u.frame_views ≤ i → Ended turns i u v r m → AllOver v
all_ended turns i u v r m le h =
    all_over (turns ++ in_order 1 h.more) i u v [] h.taken.text le h.taken.run h.over

-- a run to the end, whose acts were recorded
pub turn_run_of : (turns : List ℕ) (u v : WorldState) (r m : Rows) (h : TakesOut turns u v r m) → AllOver v
    → IsTurnRun turns (abstraction u) h.taken.seen (abstraction v)
turn_run_of turns u v r m h over = record { more = h.more; each = h.each; sees = h.taken.sees; over = over }

-- the rows of a script's run by turns
pub turns_recorded : (script : ScriptView) (turns : List ℕ) (part : Part) (u v : WorldState) (r m : Rows) → u ≡ script_world_state script
    → TakesOut turns u v r m → AllOver v → RowsAre r [] → r.part ≡ part → IsRunRecorded false script turns part m.acts m.list.items
turns_recorded script turns part u v r m is h over none part_is =
    let seen = h.taken.seen in
    record {
      seen = seen;
      says = (
        abstraction v,
        subst (λ (w : WorldState). IsTurnRun turns (abstraction w) seen (abstraction v)) is (turn_run_of turns u v r m h over),
      );
      recorded =
          subst (λ (p : Part). IsRecorded p m.acts m.list.items seen)
          (h.taken.adds.part ∙ part_is)
          (h.taken.adds.adds [] none);
    }
