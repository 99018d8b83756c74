-- The text of a whole run.
use Rattle.std.proofs.Common.{◌≡◌, ℕ, zero, suc, ◌+◌, ◌<◌, false, List, [], ◌∷◌, ◌++◌, map, length}
use Rattle.std.proofs.Common.{get_or, sym, refl, ap, ◌∙◌, subst, inl, arith}
use Rattle.script_stepper.proofs.Prelude
use Prelude.{abstraction, AbstractState, AllOver, AllRest, closing_lines, ended, ended-append}
use Prelude.{first_frame, flat_map, HasRun, IsTrace, IsTurnText, item_lines, nowhere, Part}
use Prelude.{PendingCall, plain, program_in, Rest, script_shape, script_world_state, ScriptView}
use Prelude.{Shape, shape_for, Waits, WorldState}
use Rattle.std.proofs.lemmas.List.{length-replicate}
use Rattle.step_threads.specs.Acts.{tasks_from}
use Rattle.step_core.specs.Starts.{first_world_state, no_slots}
use Rattle.step_table.specs.declared.memory.extent.Extent.{Extent}
use Rattle.script_text.specs.Versions.{blocks_in}
use Rattle.script_stepper.specs.Running.{RunsOut}
use Rattle.step_core.proofs.telling.Leaves.{settled_endings}
use Rattle.script_stepper.proofs.Acting.{settled_size}
use Rattle.script_stepper.proofs.RunLemmas.{run_plays}
use Rattle.script_stepper.proofs.TraceLemmas.{plays_extent}

-- a run leaves the table as large as it was
pub same_shape : (turns : List ℕ) (u v : WorldState) (a b : List ℕ) → HasRun turns u v a b → v.ghost_state.extent.shape ≡ u.ghost_state.extent.shape
same_shape turns u v a b h =
    ap (λ (c : AbstractState). c.extent.shape) (run_plays turns u v a b h) ∙ ap (λ (x : Extent). x.shape) (plays_extent turns (abstraction u))

pub same_blocks : (turns : List ℕ) (u v : WorldState) (a b : List ℕ) → HasRun turns u v a b → v.ghost_state.extent.shape.blocks ≡
    u.ghost_state.extent.shape.blocks
same_blocks turns u v a b h = ap (λ (x : Shape). x.blocks) (same_shape turns u v a b h)

-- a run to the end is a trace
pub traced : (turns : List ℕ) (u v : WorldState) (a b : List ℕ) (h : RunsOut turns u v a b) → AllOver v
    → IsTrace turns (abstraction u) h.run.items (abstraction v)
traced turns u v a b h over = record { more = h.more; each = h.each; takes = h.run.takes; over = over }

pub shown_text : (turns : List ℕ) (u v : WorldState) (a b c : List ℕ) → a ≡ [] → RunsOut turns u v a b → AllOver v
    → c ≡ b ++ ended (closing_lines (abstraction v)) → IsTurnText turns (abstraction u) c
shown_text turns u v a b c none h over close =
    let lines = flat_map item_lines h.run.items in
    record {
      items = h.run.items;
      last = abstraction v;
      trace = traced turns u v a b h over;
      says =
          close
          ∙ ap (λ (t : List ℕ). t ++ ended (closing_lines (abstraction v))) (h.run.text_is ∙ ap (λ (t : List ℕ). t ++ ended lines) none)
          ∙ sym (ended-append lines (closing_lines (abstraction v)));
    }

all_rest : (parts : List Part) (d : ℕ) → get_or (map {B = PendingCall} (λ (part : Part). Rest) parts) d Rest ≡ Rest
all_rest [] d = refl
all_rest (part ∷ parts) zero = refl
all_rest (part ∷ parts) (suc d) = all_rest parts d

first_waits : (parts : List Part) (d : ℕ) → d < length (map first_frame parts) → Waits (get_or (map first_frame parts) d nowhere)
first_waits [] d lt = absurd (omega (arith, lt))
first_waits (part ∷ parts) zero lt =
    let n = settled_size (tasks_from 1 part.calls (length part.kinds)) (no_slots (length part.kinds)) false [] in
    let m : length (no_slots (length part.kinds)) ≡ length part.kinds + 2 = length-replicate (length part.kinds + 2) plain in
    record {
      some = omega (arith, n, m);
      endings = inl (settled_endings (no_slots (length part.kinds)) false [] (tasks_from 1 part.calls (length part.kinds)));
    }
first_waits (part ∷ parts) (suc d) lt = first_waits parts d (omega (arith, lt))

-- a world begins at rest
pub first_rests : (shape : Shape) (parts : List Part) (u : WorldState) → u ≡ first_world_state shape parts → AllRest u
first_rests shape parts u e =
    subst AllRest (sym e) (record { pending_calls = all_rest parts; frame_views = first_waits parts })

pub world_state_is : (script : ScriptView) (blocks threads : ℕ) (shape : Shape) (u : WorldState) → blocks ≡ blocks_in script.version
    → threads ≡ length script.threads → shape ≡ shape_for blocks threads → u ≡ first_world_state shape (program_in script.threads)
    → u ≡ script_world_state script
world_state_is script blocks threads shape u b n s e =
    let same : shape ≡ script_shape script =
    s ∙ ap (λ (k : ℕ). shape_for k threads) b ∙ ap (shape_for (blocks_in script.version)) n in
    e ∙ ap (λ (x : Shape). first_world_state x (program_in script.threads)) same
