-- What the step does by which an object gives a pointer to itself.
use Rattle.std.proofs.Common.{◌≡◌, ℕ, true, List, ◌∷◌, set, Some, None, Option, option_map, sym}
use Rattle.std.proofs.Common.{refl, ap, ◌∙◌, subst, inl}
use Rattle.step_core.proofs.Prelude.{abstraction, Act, cond-true, frame_of, FromThis, give}
use Rattle.step_core.proofs.Prelude.{given_step, Giving, Handle, inside, is_enabled, IsUnderWay}
use Rattle.step_core.proofs.Prelude.{Kind, model_state, opening, Owner, Rest, slot_pointer}
use Rattle.step_core.proofs.Prelude.{step_of_act, Task, Weak, went, WorldState}
use Rattle.step_core.proofs.Entries.{does, giving}
use Rattle.step_threads.specs.NextSteps.{atomic_step_is_event as is_done}
use Rattle.step_core.proofs.turning.Saying.{Acts}
use Rattle.step_core.proofs.turning.Trials.{Next, Outcome}

give_so : (d : ℕ) (u : WorldState) (k : ℕ) (ts : List Task) (i : ℕ) (q : Kind) (x : Handle)
    → inside (slot_pointer (frame_of (abstraction u) d).slots i) ≡ Some x
    → is_enabled (model_state u.ghost_state) x ≡ true
    → Acts d u k ts (FromThis i q) (step_of_act u.ghost_state d (frame_of (abstraction u) d) k ts (FromThis i q) (Some (give q x)) Rest)
give_so d u k ts i q x e is =
    let w = frame_of (abstraction u) d in
    let g : giving (model_state u.ghost_state) (inside (slot_pointer w.slots i)) ≡ Some x = ap (giving (model_state u.ghost_state)) e ∙ cond-true
    (is_enabled (model_state u.ghost_state) x) (Some x) None is in (
      refl,
      ap (λ (o : Option Handle). record {
        extent = u.ghost_state.extent;
        history = does (opening u.ghost_state.extent) d u.ghost_state.history (option_map (give q) o);
        frame_views = set u.frame_views d (went (model_state u.ghost_state) d w k ts (FromThis i q));
      }) (sym g),
    )

pub giving_out : (d : ℕ) (u : WorldState) (i : ℕ) (q : Kind) (x : Handle) (t : Task) (ts : List Task)
    → IsUnderWay d u.ghost_state (Giving i q x) (t ∷ ts)
    → inside (slot_pointer (frame_of (abstraction u) d).slots i) ≡ Some x
    → Next d u t.statement ts t.act (given_step u.ghost_state d (frame_of (abstraction u) d) i q x (t ∷ ts))
giving_out d u i q x t ts way at =
    let y = step_of_act u.ghost_state d (frame_of (abstraction u) d) t.statement ts (FromThis i q) (Some (give q x)) Rest in (
      y,
      refl,
      subst (λ (a : Act). Outcome d u t.statement ts a y) (sym way.0)
          (inl (record { event = is_given q; so = give_so d u t.statement ts i q x at way.1; over = refl })),
      λ j e. (let is = way.0 in cc),
    )
  where
    is_given : (p : Kind) → is_done u.ghost_state (Some (give p x)) ≡ true
    is_given Owner = refl
    is_given Weak = refl
