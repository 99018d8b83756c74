-- What a step of a make does.
use Rattle.std.proofs.Common.{◌≡◌, ℕ, ◌+◌, Bool, true, false, cond, List, ◌∷◌, get_or, set, ◌==◌}
use Rattle.std.proofs.Common.{Some, None, Option, option_map, sym, refl, ap, ◌∙◌, inl, inr}
use Rattle.step_core.proofs.Prelude.{abstraction, Act, Block, claims, cond_both, form_of, frame_of}
use Rattle.step_core.proofs.Prelude.{frame_settled, full_answer, holding, IsUnderWay, known_words}
use Rattle.step_core.proofs.Prelude.{least, made_on, Make, Making, model_state, opening, pending}
use Rattle.step_core.proofs.Prelude.{PendingCall, prepares, Task, wanted, WorldState}
use Rattle.step_core.proofs.Entries.{does, make_step}
use Rattle.step_core.proofs.turning.Saying.{Acts, acted_said, acted_abstraction}
use Rattle.step_core.proofs.turning.Trials.{Next, Outcome, Tried, is_on}

-- a claim is what the make says and makes
claims_so : (d : ℕ) (u : WorldState) (k : ℕ) (ts : List Task) (b : Block) (a : Act) → a ≡ Make (form_of a)
    → least d (model_state u.ghost_state).stores ≡ Some b.0
    → Acts d u k ts a (claims (frame_of (abstraction u) d) k ts b (form_of a))
claims_so d u k ts b a is low =
    let w = frame_of (abstraction u) d in
    let f = form_of a in (
      ap (λ (q : Option ℕ). record { statement = k; answer = full_answer q; ended = None }) (sym low) ∙
          ap (acted_said d u k) (sym is),
      ap (λ (q : Option ℕ). record {
        extent = u.ghost_state.extent;
        history = does (opening u.ghost_state.extent) d u.ghost_state.history (option_map (make_step f) q);
        frame_views = set u.frame_views d (let y = holding w.slots f.null q in frame_settled y.0 y.1 w.endings ts);
      }) (sym low)
          ∙ ap (acted_abstraction d u k ts) (sym is),
    )

-- a word of the block is looked at, or written
prepared : (d : ℕ) (u : WorldState) (k : ℕ) (a : Act) (b : Block) (i f n : ℕ) (g : Bool)
    → let w = frame_of (abstraction u) d in Tried d u.ghost_state w a (prepares f n w k b i g)
prepared d u k a b i f n true = record { quiet = refl; said = refl; frame_view = refl; history = refl; extent = refl; pending_call = refl }
prepared d u k a b i f n false =
    let slots = (frame_of (abstraction u) d).slots in
    let p = cond_both (f == n) (Making b (i + 1) false) (Making b i true) (λ (h : PendingCall). is_on slots a h ≡ true) (λ t. refl) (λ t. refl) in
    record { quiet = refl; said = refl; frame_view = refl; history = refl; extent = refl; pending_call = p }

pub making_out : (d : ℕ) (u : WorldState) (b : Block) (i : ℕ) (g : Bool) (t : Task) (ts : List Task)
    → IsUnderWay d u.ghost_state (Making b i g) (t ∷ ts)
    → Next d u t.statement ts t.act (made_on u.ghost_state d (frame_of (abstraction u) d) b i g (t ∷ ts))
making_out d u b i g t ts way =
    let w = frame_of (abstraction u) d in
    let f = get_or (known_words (pending u.ghost_state d)) i 0 in
    let n = get_or (wanted (form_of t.act)) i 0 in
    let x = claims w t.statement ts b (form_of t.act) in
    let y = prepares f n w t.statement b i g in (
      cond (i == 5) x y,
      refl,
      cond_both (i == 5) x y (Outcome d u t.statement ts t.act)
          (λ e. inl (record { event = refl; so = claims_so d u t.statement ts b t.act way.2 way.1; over = refl }))
          (λ e. inr (prepared d u t.statement t.act b i f n g)),
      λ j e. (let is = way.2 in cc),
    )
