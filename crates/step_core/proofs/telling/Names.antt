-- Names that hold something are left by a task to come, after each step.
use Rattle.std.proofs.Common.{◌≡◌, ℕ, ◌<◌, Bool, true, false, cond, ◌≢◌, ◌⊎◌, List, [], ◌∷◌}
use Rattle.std.proofs.Common.{length, get_or, is_some, ◌==◌, slice_set, Some, None, Option}
use Rattle.std.proofs.Common.{option_map, sym, refl, subst, inl, inr, ⊎_elim, length-set}
use Rattle.std.proofs.Common.{get_or-set_other, get_or-set_same}
use Rattle.step_core.proofs.Prelude
use Prelude.{abstraction, Act, asks, at_rest, begins, begun, Block, brings, Brought, cases_eq}
use Prelude.{cell_of_name, CellWord, claims, Clear, Clearing, Compare, compared_in, comparing}
use Prelude.{cond_both, emptied, Ending, ends_on, Exchange, first, Form, form_of, frame_by}
use Prelude.{frame_of, frame_settled, FrameView, FromThis, GhostState, given_step, Giving, Going}
use Prelude.{going, hand, Handle, held_in, holding, inside, is_enabled, is_full, IsTidy}
use Prelude.{IsUnderWay, Kind, known_words, least, Leave, LeavesAll, LeavesName, Load, Lock, lock}
use Prelude.{locked_pointer, Locking, looks, made_on, Make, Making, Matched, matched, matched_on}
use Prelude.{Member, model_state, nowhere, object_of_block, on, on_going, other, owner_word}
use Prelude.{pending, pending_call_of, PendingCall, prepares, Refill, Rest, Returning, Saw, saw}
use Prelude.{saw_on, seen, sends, sent, silent, Site, slot_of, slot_pointer, Slots, staged, Step}
use Prelude.{step_at, step_of, step_of_act, step_of_swap, Swap, Task, tried, tries, trying, wanted}
use Prelude.{weak, went, with_endings, within, word_of_cell, world_state_by, WorldState}
use Rattle.step_table.specs.declared.memory.ghost_history.AtomicStep.TheVariants as atomic_step
use Rattle.step_core.proofs.telling.Cases.{IsEach, IsEachAct, each_compares, each_load}
use Rattle.step_core.proofs.telling.Cases.{each_matched, each_refill, each_saw}
use Rattle.step_core.proofs.telling.Tidying.{any_tidy, hand_tidy, left_tidy, make_tidy, went_tidy}

-- the first step of an act leaves the frame as it is, is the act, or is refused
module _ (v : GhostState) (d k : ℕ) (w : FrameView) (ts : List Task) (P : FrameView → Type 0) (same : P w) where
  each_cell : (a : Act) (c : Site) → P (went (model_state v) d w k ts a) → IsEach v d w k ts a c (λ (x : Step). P x.frame_view)
  each_cell a c done =
      record {
        quiet = λ h. same;
        look = λ x y. done;
        take = λ x y h. done;
        swap = λ x y h. done;
        bring = λ x p.
            same;
      }

  going_by : (a : Act) (o : Option Going) → P (went (model_state v) d w k ts a)
      → P (on_going (sends v d w k ts a) (step_of_act v d w k ts a None Rest) o).frame_view
  going_by a None done = done
  going_by a (Some g) done = go (slot_pointer w.slots g.1)
    where
      go : (o : Option Handle) → P (on (brings w k) (step_of_swap v d w k ts a g.0 g.1) o).frame_view
      go None = done
      go (Some p) = same

  looks_by : (a : Act) (o : Option Handle) → P (went (model_state v) d w k ts a)
      → P (on (looks v d w k ts a) (step_of_act v d w k ts a None Rest) o).frame_view
  looks_by a None done = done
  looks_by a (Some x) done =
      cond_both (owner_word v x == 0) (step_of_act v d w k ts a (Some (lock (model_state v) x)) Rest) (trying w k (owner_word v x))
      (λ (s : Step). P s.frame_view)
      (λ e. done) (λ e. same)

  begins_by : (o : Option ℕ) → P (frame_settled w.slots false w.endings ts) → P (begins w k ts o).frame_view
  begins_by None made = made
  begins_by (Some b) made = same

  first_by : (a : Act) → P (went (model_state v) d w k ts a)
      → ((form : Form) → a ≡ Make form → P (frame_settled w.slots false w.endings ts))
      → P (first v d w k ts a).frame_view
  first_by (Make form) done made = begins_by (least d (model_state v).stores) (made form refl)
  first_by (Lock i must) done made = looks_by (Lock i must) (locked_pointer w.slots (Lock i must)) done
  first_by (FromThis i kind) done made = go (inside (slot_pointer w.slots i))
    where
      go : (o : Option Handle) → P (on (asks v d w k ts i kind) (step_of_act v d w k ts (FromThis i kind) None Rest) o).frame_view
      go None = done
      go (Some x) =
          cond_both (is_enabled (model_state v) x) (record { atomic_step = None; pending_call = Giving i kind x; frame_view = w; said = silent k })
          (step_of_act v d w k ts (FromThis i kind) None Rest) (λ (s : Step). P s.frame_view) (λ e. same) (λ e. done)
  first_by (Swap c) done made = going_by (Swap c) (going w.slots (Swap c)) done
  first_by (Exchange i c) done made = going_by (Exchange i c) (going w.slots (Exchange i c)) done
  first_by (Load c) done made =
      each_load v d w k ts c (λ (x : Step). P x.frame_view) (each_cell (Load c) (cell_of_name (model_state v) w.slots c) done) done
  first_by (Compare i c weak) done made =
      each_compares v d w k ts (Compare i c weak) (cell_of_name (model_state v) w.slots c) (λ (x : Step). P x.frame_view)
      (each_cell (Compare i c weak) (cell_of_name (model_state v) w.slots c) done)
      (compared_in w.slots (comparing w.slots i weak)) (seen v (cell_of_name (model_state v) w.slots c))
  first_by _ done made = done

-- the thread is tidy after its step
module _ (v : GhostState) (d : ℕ) (w : FrameView) (tidy : IsTidy w) where
  abbrev Tidy : Option Step → Type 0
  Tidy o = IsTidy (frame_by w o)

  task_tidy : (ts : List Task) → w.todo ≡ ts → Tidy (begun v d w ts)
  task_tidy [] is = tidy
  task_tidy (t ∷ ts) is =
      first_by v d t.statement w ts IsTidy tidy t.act (went_tidy (model_state v) d t.statement w t ts is tidy)
      (λ form e. make_tidy w t ts form w.slots false is e refl tidy)

  with_tidy : (es : List Ending) → IsTidy (with_endings w es)
  with_tidy es = record { names = tidy.names; all = tidy.all }

  end_tidy : (e : Ending) (es : List Ending) → IsTidy (ends_on v w e es).frame_view
  end_tidy e es =
      let finished : Step = record {
        atomic_step = Some (atomic_step.Finish e.block (weak (model_state v) (object_of_block v e.block) == 0));
        pending_call = Rest;
        frame_view = with_endings w es;
        said = silent e.statement;
      } in
      let cleared = within (with_endings w (staged e ∷ es)) e.statement (Some (atomic_step.Clear e.block e.stage)) Rest in
      let looked = within w e.statement None Clearing in
      cond_both (e.stage == 3) finished (cond (word_of_cell v (Member e.block e.stage) == 0) cleared looked)
      (λ (x : Step). IsTidy x.frame_view)
      (λ c. with_tidy es)
      (λ c. cond_both (word_of_cell v (Member e.block e.stage) == 0) cleared looked (λ (x : Step). IsTidy x.frame_view)
      (λ b. with_tidy (staged e ∷ es)) (λ b. tidy))

  rest_tidy : (es : List Ending) → Tidy (at_rest v d w es)
  rest_tidy [] = task_tidy w.todo refl
  rest_tidy (e ∷ es) =
      cond_both (is_full (slot_pointer w.slots (hand w.slots))) (first v d w e.statement w.todo (Leave (hand w.slots)))
      (ends_on v w e es)
      (λ (x : Step). IsTidy x.frame_view) (λ c. left_tidy (model_state v) d e.statement w tidy) (λ c. end_tidy e es)

  prepared_tidy : (found want k i : ℕ) (b : Block) (f : Bool) → IsTidy (prepares found want w k b i f).frame_view
  prepared_tidy found want k i b true = tidy
  prepared_tidy found want k i b false = tidy

  making_tidy : (b : Block) (i : ℕ) (f : Bool) (ts : List Task) → w.todo ≡ ts → IsUnderWay d v (Making b i f) ts
      → Tidy (made_on v d w b i f ts)
  making_tidy b i f [] is way = tidy
  making_tidy b i f (t ∷ ts) is way =
      let found = get_or (known_words (pending v d)) i 0 in
      let want = get_or (wanted (form_of t.act)) i 0 in
      let x = holding w.slots (form_of t.act).null (Some b.0) in
      cond_both (i == 5) (claims w t.statement ts b (form_of t.act)) (prepares found want w t.statement b i f)
      (λ (s : Step). IsTidy s.frame_view)
      (λ e. make_tidy w t ts (form_of t.act) x.0 x.1 is way.2 (length-set w.slots (hand w.slots) _) tidy)
      (λ e. prepared_tidy found want t.statement i b f)

  locking_tidy : (word : ℕ) (ts : List Task) → w.todo ≡ ts → Tidy (tried v d w word ts)
  locking_tidy word [] is = tidy
  locking_tidy word (t ∷ ts) is = go (locked_pointer w.slots t.act)
    where
      go : (o : Option Handle) → Tidy (option_map (tries v d w t.statement ts t.act word) o)
      go None = tidy
      go (Some x) =
          cond_both (owner_word v x == word) (step_of_act v d w t.statement ts t.act (Some (lock (model_state v) x)) Rest)
          (trying w t.statement (owner_word v x))
          (λ (s : Step). IsTidy s.frame_view) (λ e. went_tidy (model_state v) d t.statement w t ts is tidy) (λ e. tidy)

  giving_tidy : (i : ℕ) (kind : Kind) (x : Handle) (ts : List Task) → w.todo ≡ ts → IsUnderWay d v (Giving i kind x) ts
      → Tidy (given_step v d w i kind x ts)
  giving_tidy i kind x [] is way = tidy
  giving_tidy i kind x (t ∷ ts) is way =
      subst (λ (a : Act). IsTidy (went (model_state v) d w t.statement ts a)) way.0
      (went_tidy (model_state v) d t.statement w t ts is tidy)

  brought_tidy : (ts : List Task) → w.todo ≡ ts → Tidy (sent v d w ts)
  brought_tidy [] is = tidy
  brought_tidy (t ∷ ts) is = go (going w.slots t.act)
    where
      go : (o : Option Going) → Tidy (option_map (λ (x : Going). step_of_swap v d w t.statement ts t.act x.0 x.1) o)
      go None = tidy
      go (Some x) = went_tidy (model_state v) d t.statement w t ts is tidy

  -- all names are left behind the first task
  abbrev AllLeft : List Task → Type 0
  AllLeft [] = Unit {0}
  AllLeft (t ∷ ts) = ((i : ℕ) → i < other w.slots → LeavesName i ts) × LeavesAll (other w.slots) ts

  each_tidy : (t : Task) (ts : List Task) → AllLeft (t ∷ ts) → IsEachAct v d w t.statement ts Tidy
  each_tidy t ts left =
      record {
        none = tidy;
        load = λ c. each_cell v d t.statement w ts IsTidy tidy (Load c) (cell_of_name (model_state v) w.slots c)
            (any_tidy (model_state v) d t.statement w ts (Load c) left.0 left.1);
        compare =
            λ i c weak. each_cell v d t.statement w ts IsTidy tidy (Compare i c weak) (cell_of_name (model_state v) w.slots c)
            (any_tidy (model_state v) d t.statement w ts (Compare i c weak) left.0 left.1);
      }

  -- the tasks of a thread that leaves a name, or leaves all behind its next
  abbrev Heads : Task → List Task → Type 0
  Heads t ts = ((j : ℕ) × (t.act ≡ Clear j)) ⊎ ((i : ℕ) → i < other w.slots → LeavesName i ts)

  heads : (t : Task) (ts : List Task) → w.todo ≡ t ∷ ts → Heads t ts × LeavesAll (other w.slots) ts
  heads t ts is = subst (LeavesAll (other w.slots)) is tidy.all

  saw_tidy : (x : CellWord) (ts : List Task) → w.todo ≡ ts → Tidy (saw v d w x ts)
  saw_tidy x [] is = tidy
  saw_tidy x (t ∷ ts) is = go (heads t ts is).0
    where
      go : Heads t ts → Tidy (saw_on v d w t.statement ts x t.act)
      go (inl p) = subst (λ (a : Act). Tidy (saw_on v d w t.statement ts x a)) (sym p.1) tidy
      go (inr f) =
          each_saw v d w Tidy x (t ∷ ts) tidy (λ u us e. each_tidy u us (subst AllLeft e (f, (heads t ts is).1)))

  matched_tidy : (x : CellWord) (ts : List Task) → w.todo ≡ ts → Tidy (matched v d w x ts)
  matched_tidy x [] is = tidy
  matched_tidy x (t ∷ ts) is = go (heads t ts is).0
    where
      go : Heads t ts → Tidy (matched_on v d w t.statement ts x t.act)
      go (inl p) = subst (λ (a : Act). Tidy (matched_on v d w t.statement ts x a)) (sym p.1) tidy
      go (inr f) =
          each_matched v d w Tidy x (t ∷ ts) tidy (λ u us e. each_tidy u us (subst AllLeft e (f, (heads t ts is).1)))

  out_tidy : (es : List Ending) → Tidy (emptied v w es)
  out_tidy [] = tidy
  out_tidy (e ∷ es) =
      let c = Member e.block e.stage in
      let x = seen v c in
      cond_both (is_some x.owned) (slice_set w.slots (hand w.slots) (slot_of (model_state v) (held_in (model_state v) c))) w.slots
      (λ (l : Slots). IsTidy (record { slots = l; taken = w.taken; endings = staged e ∷ es; todo = w.todo }))
      (λ _. hand_tidy w (slot_of (model_state v) (held_in (model_state v) c)) (staged e ∷ es) tidy) (λ _. with_tidy (staged e ∷ es))

  pub step_tidy : (h : PendingCall) → IsUnderWay d v h w.todo → Tidy (step_at v d h w)
  step_tidy Rest way = rest_tidy w.endings
  step_tidy (Making b i f) way = making_tidy b i f w.todo refl way
  step_tidy (Locking word) way = locking_tidy word w.todo refl
  step_tidy (Giving i kind x) way = giving_tidy i kind x w.todo refl way
  step_tidy Brought way = brought_tidy w.todo refl
  step_tidy (Saw x) way = saw_tidy x w.todo refl
  step_tidy (Matched x) way = matched_tidy x w.todo refl
  step_tidy (Refill stage c x k) way =
      each_refill v w k Tidy tidy
      (record {
        quiet = λ h. tidy;
        turn = λ q b h. tidy;
        bring = λ q b p n h. tidy;
        back = λ q b n h. tidy;
        refill =
            λ c n h. tidy;
      })
      stage c x x.owned
  step_tidy (Returning kind b funds k) way = tidy
  step_tidy Clearing way = out_tidy w.endings

-- all threads are, after a step of one
pub tidy_after : (d : ℕ) (u : WorldState) → IsUnderWay d u.ghost_state (pending_call_of u d) (frame_of (abstraction u) d).todo
    → d < length u.frame_views
    → ((e : ℕ) → IsTidy (frame_of (abstraction u) e)) → (e : ℕ) → IsTidy (frame_of (abstraction (world_state_by d u (step_of d u))) e)
tidy_after d u way lt all e =
    let w = frame_by (frame_of (abstraction u) d) (step_of d u) in
    ⊎_elim
    (λ (same : e ≡ d). subst (λ (n : ℕ). IsTidy (frame_of (abstraction (world_state_by d u (step_of d u))) n)) (sym same)
    (subst IsTidy (sym (get_or-set_same u.frame_views d w nowhere lt))
    (step_tidy u.ghost_state d (frame_of (abstraction u) d) (all d) (pending_call_of u d) way)))
    (λ (ne : e ≢ d). subst IsTidy (sym (get_or-set_other u.frame_views d e w nowhere ne)) (all e))
    (cases_eq e d)
