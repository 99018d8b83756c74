-- The next step of a thread, by what it has begun, and the funds that are taken of cells.
use Rattle.std.proofs.Common.{◌≡◌, ℕ, ◌+◌, ◌<◌, Bool, true, false, cond, List, [], ◌∷◌, get_or}
use Rattle.std.proofs.Common.{◌==◌, Some, None, Option, option_map, refl, subst, inl, inr, arith}
use Rattle.step_core.proofs.Prelude
use Prelude.{Act, Alias, Ask, at_rest, begun, Block, Brought, cell_of_name, CellWord, claims}
use Prelude.{Clear, Clearing, Compare, cond_both, Count, Downgrade, Drop, emptied, Ending, ends_on}
use Prelude.{eqb-false, Exchange, Expired, first, form_of, FrameView, FromThis, FundsAreHeld}
use Prelude.{ghost_after, ghost_by, GhostState, give, given_step, gives_back, Giving, going, hand}
use Prelude.{Handle, handle_busy, Holds, HoldsBag, inside, is_full, IsCellWord}
use Prelude.{IsProperPendingCall, IsTried, IsUnderWay, Kind, kind_of_member, known_words, Leave}
use Prelude.{Load, Lock, locked_pointer, Locking, made_on, Make, Making, Matched, matched}
use Prelude.{matched_on, Member, model_state, Move, Nothing, object_of_block, Offer, OnShelf}
use Prelude.{opening, owing_funds, Pending, pending, PendingCall, Place, prepares, Put, Read}
use Prelude.{Refill, refills_on, Rest, Returning, Saw, saw, saw_on, seen, sent, Share, silent}
use Prelude.{Site, slot_pointer, Stage, staged, Step, step_at, Swap, TableInvariant, Task, there}
use Prelude.{tried, wanted, weak, with_endings, within, word_of_cell}
use Rattle.control_word.specs.Histories.{value as value_of}
use Rattle.control_word.specs.Steps.{me}
use Rattle.control_word.specs.Views.{Fits}
use Rattle.step_table.specs.declared.cell_steps.cell_step.CellStep.TheVariants as cell_step
use Rattle.step_table.specs.declared.memory.ghost_history.AtomicStep.TheVariants as atomic_step
use Rattle.step_table.specs.GhostStates.{view_in}
use Rattle.step_table.proofs.tables.Places.{ending_busy}
use Rattle.step_table.proofs.tables.Standing.{point, ready}
use Rattle.step_core.proofs.watching.Blocks.{IsThere, claim_off, finish_off, give_back_off}
use Rattle.step_core.proofs.watching.Blocks.{give_off, inside_there, least_there, write_off}
use Rattle.step_core.proofs.watching.Cells.{changed, refilled, still}
use Rattle.step_core.proofs.watching.Steps.{IsWatch, first_watch, matches_watch, sent_watch}
use Rattle.step_core.proofs.watching.Steps.{settles_watch, takes_watch, tries_watch}

module _ (v : GhostState) (d : ℕ) (w : FrameView) (kept : TableInvariant v) (seat : d < v.extent.actors) (holds : HoldsBag d w.slots v) where
  tried_watch : (word : ℕ) (ts : List Task) → IsWatch v d (Locking word) (tried v d w word ts)
  tried_watch word [] = tt
  tried_watch word (t ∷ ts) = tries_watch v d w kept seat holds t.statement word ts t.act (locked_pointer w.slots t.act) refl

  given_watch : (i : ℕ) (q : Kind) (x : Handle) (ts : List Task) → inside (slot_pointer w.slots i) ≡ Some x
      → IsWatch v d (Giving i q x) (given_step v d w i q x ts)
  given_watch i q x [] e = tt
  given_watch i q x (t ∷ ts) e =
      still v d (Giving i q x) (Some (give q x)) Rest (λ p a. refl) (give_off v d q x (inside_there v d w.slots kept holds i x e))

  put_watch : (ts : List Task) → IsWatch v d Brought (sent v d w ts)
  put_watch [] = tt
  put_watch (t ∷ ts) = sent_watch v d w kept seat holds t.statement ts t.act (going w.slots t.act)

  prepares_watch : (found want k : ℕ) (b : Block) (i : ℕ) (f : Bool) → i < 5 → IsThere v b
      → IsWatch v d (Making b i f) (Some (prepares found want w k b i f))
  prepares_watch found want k b i true lt is = still v d (Making b i true) (Some (atomic_step.Write b i want)) (Making b (i + 1) false) (λ p a. refl)
      (write_off v d b i want lt is)
  prepares_watch found want k b i false lt is =
      still v d (Making b i false) None (cond (found == want) (Making b (i + 1) false) (Making b i true)) (λ p a. refl) (λ n valid. refl)

  made_watch : (b : Block) (i : ℕ) (f : Bool) (ts : List Task) → IsUnderWay d v (Making b i f) ts → IsWatch v d (Making b i f) (made_on v d w b i f ts)
  made_watch b i f [] way = tt
  made_watch b i f (t ∷ ts) way =
      let form = form_of t.act in
      let found = get_or (known_words (pending v d)) i 0 in
      let want = get_or (wanted form) i 0 in
      let is = least_there v d b kept way.1 in
      cond_both (i == 5) (claims w t.statement ts b form) (prepares found want w t.statement b i f) (λ (y : Step). IsWatch v d (Making b i f) (Some y))
      (λ t. still v d (Making b i f) (Some (atomic_step.Claim b form.enabled form.null form.fields)) Rest (λ p a. refl)
      (claim_off v d b form.enabled form.null form.fields is))
      (λ ne. prepares_watch found want t.statement b i f (let l = way.0 in let n = eqb-false i 5 ne in omega (arith, l, n)) is)

  saw_watch : (k : ℕ) (ts : List Task) (x : CellWord) (a : Act) → IsCellWord x → IsWatch v d (Saw x) (saw_on v d w k ts x a)
  saw_watch k ts x (Load c) valid = takes_watch v d w kept seat holds k ts (Load c) (cell_of_name (model_state v) w.slots c) None x valid
  saw_watch k ts x (Compare i c weak) valid =
      settles_watch v d w kept seat holds k ts (Compare i c weak) (cell_of_name (model_state v) w.slots c) i weak x valid
  saw_watch k ts x (Make form) valid = tt
  saw_watch k ts x (Share i) valid = tt
  saw_watch k ts x (Downgrade i) valid = tt
  saw_watch k ts x (Lock i must) valid = tt
  saw_watch k ts x (Put i) valid = tt
  saw_watch k ts x (Leave i) valid = tt
  saw_watch k ts x (Clear i) valid = tt
  saw_watch k ts x (Count i) valid = tt
  saw_watch k ts x (Expired i) valid = tt
  saw_watch k ts x (Read i) valid = tt
  saw_watch k ts x (FromThis i kind) valid = tt
  saw_watch k ts x (Alias i j field) valid = tt
  saw_watch k ts x (Move i) valid = tt
  saw_watch k ts x (Ask q) valid = tt
  saw_watch k ts x (Offer i c) valid = tt
  saw_watch k ts x (Swap c) valid = tt
  saw_watch k ts x (Exchange i c) valid = tt
  saw_watch k ts x (Holds i c) valid = tt
  saw_watch k ts x Drop valid = tt
  saw_watch k ts x (OnShelf y) valid = tt

  matched_watch : (k : ℕ) (ts : List Task) (x : CellWord) (a : Act) → IsWatch v d (Matched x) (matched_on v d w k ts x a)
  matched_watch k ts x (Compare i c weak) =
      matches_watch v d w kept seat holds (Matched x) k ts (Compare i c weak) (cell_of_name (model_state v) w.slots c) i weak x (λ p q. refl)
  matched_watch k ts x (Load c) = tt
  matched_watch k ts x (Make form) = tt
  matched_watch k ts x (Share i) = tt
  matched_watch k ts x (Downgrade i) = tt
  matched_watch k ts x (Lock i must) = tt
  matched_watch k ts x (Put i) = tt
  matched_watch k ts x (Leave i) = tt
  matched_watch k ts x (Clear i) = tt
  matched_watch k ts x (Count i) = tt
  matched_watch k ts x (Expired i) = tt
  matched_watch k ts x (Read i) = tt
  matched_watch k ts x (FromThis i kind) = tt
  matched_watch k ts x (Alias i j field) = tt
  matched_watch k ts x (Move i) = tt
  matched_watch k ts x (Ask q) = tt
  matched_watch k ts x (Offer i c) = tt
  matched_watch k ts x (Swap c) = tt
  matched_watch k ts x (Exchange i c) = tt
  matched_watch k ts x (Holds i c) = tt
  matched_watch k ts x Drop = tt
  matched_watch k ts x (OnShelf y) = tt

  seen_watch : (x : CellWord) (ts : List Task) → IsCellWord x → IsWatch v d (Saw x) (saw v d w x ts)
  seen_watch x [] valid = tt
  seen_watch x (t ∷ ts) valid = saw_watch t.statement ts x t.act valid

  tried_on_watch : (x : CellWord) (ts : List Task) → IsWatch v d (Matched x) (matched v d w x ts)
  tried_on_watch x [] = tt
  tried_on_watch x (t ∷ ts) = matched_watch t.statement ts x t.act

  -- funds are out for an object that the desk has a handle of
  paid_there : (kind : Kind) (b : Block) (p : Option Place) (f : ℕ) → pending v d ≡ owing_funds (model_state v) kind (Some b) p f 0 → IsThere v b
  paid_there kind b p f is =
      let r = ready v d (owing_funds (model_state v) kind (Some b) p f 0) kept seat is in
      let fine : Fits v.words (model_state v) (value_of (opening v.extent) v.history) (me (point v d)) (owing_funds (model_state v) kind (Some b) p f 0) =
      subst (λ (q : Pending Nothing). Fits v.words (model_state v) (value_of (opening v.extent) v.history) (me (point v d)) q) is
      (kept.stands.team.seated d (view_in v.views d) r.seated r.awake).fits in
      (there v b kept (handle_busy v (me (point v d)) kind b p kept fine.0)).1

  refill_watch : (s : Stage) (c : Site) (x : CellWord) (k : ℕ) (o : Option Block) → x.owned ≡ o → FundsAreHeld d v (Refill s c x k)
      → IsWatch v d (Refill s c x k) (option_map (refills_on v w s c x k) o)
  refill_watch s c x k None e out = tt
  refill_watch s c x k (Some b) e out = refilled v d c x k w kept seat s out b e

  -- an object that ends is one of the table
  ends_watch : (e : Ending) (es : List Ending) → TableInvariant (ghost_after v d (ends_on v w e es).atomic_step) → IsWatch v d Rest (Some (ends_on v w e es))
  ends_watch e es =
      let finish = atomic_step.Finish e.block (weak (model_state v) (object_of_block v e.block) == 0) in
      let cleared = within (with_endings w (staged e ∷ es)) e.statement (Some (atomic_step.Clear e.block e.stage)) Rest in
      let looked = within w e.statement None Clearing in
      let P : Step → Type 0 = λ s. TableInvariant (ghost_after v d s.atomic_step) → IsWatch v d Rest (Some s) in
      cond_both (e.stage == 3) (record { atomic_step = Some finish; pending_call = Rest; frame_view = with_endings w es; said = silent e.statement })
      (cond (word_of_cell v (Member e.block e.stage) == 0) cleared looked) P
      (λ t after. still v d Rest (Some finish) Rest (λ p a. refl)
      (finish_off v d e.block (weak (model_state v) (object_of_block v e.block) == 0)
      (there v e.block kept (ending_busy v d e.block after.stands.legal.1.asks.0)).1))
      (λ t. cond_both (word_of_cell v (Member e.block e.stage) == 0) cleared looked P
      (λ z after. still v d Rest (Some (atomic_step.Clear e.block e.stage)) Rest (λ p a. refl) (λ n valid. refl))
      (λ z after. still v d Rest None Clearing (λ p a. refl) (λ n valid. refl)))

  -- what a member of it holds comes out: no fund of the empty member is taken
  emptied_watch : (es : List Ending) → IsWatch v d Clearing (emptied v w es)
  emptied_watch [] = tt
  emptied_watch (e ∷ es) =
      let c = Member e.block e.stage in
      let x = seen v c in
      changed v c 0 Clearing (gives_back (kind_of_member 2 e.stage) e.statement x x.owned) kept (inr (inl (omega arith))) (λ p a ne. refl)

  begun_watch : (ts : List Task) → IsWatch v d Rest (begun v d w ts)
  begun_watch [] = tt
  begun_watch (t ∷ ts) = first_watch v d w kept seat holds t.statement ts t.act

  rest_watch : (es : List Ending) → TableInvariant (ghost_by v d (at_rest v d w es)) → IsWatch v d Rest (at_rest v d w es)
  rest_watch [] after = begun_watch w.todo
  rest_watch (e ∷ es) after =
      cond_both (is_full (slot_pointer w.slots (hand w.slots))) (first v d w e.statement w.todo (Leave (hand w.slots))) (ends_on v w e es)
      (λ (s : Step). TableInvariant (ghost_after v d s.atomic_step) → IsWatch v d Rest (Some s))
      (λ t a. first_watch v d w kept seat holds e.statement w.todo (Leave (hand w.slots))) (λ t a. ends_watch e es a) after

  pub each_watch : (h : PendingCall) → IsUnderWay d v h w.todo → IsTried h w → IsProperPendingCall d v h → FundsAreHeld d v h
      → TableInvariant (ghost_by v d (step_at v d h w))
      → IsWatch v d h (step_at v d h w)
  each_watch Rest way held proper out after = rest_watch w.endings after
  each_watch (Making b i f) way held proper out after = made_watch b i f w.todo way
  each_watch (Locking word) way held proper out after = tried_watch word w.todo
  each_watch (Giving i q x) way held proper out after = given_watch i q x w.todo held
  each_watch Brought way held proper out after = put_watch w.todo
  each_watch (Saw x) way held proper out after = seen_watch x w.todo proper
  each_watch (Matched x) way held proper out after = tried_on_watch x w.todo
  each_watch (Refill s c x k) way held proper out after = refill_watch s c x k x.owned refl out
  each_watch (Returning q b f k) way held proper out after =
      still v d (Returning q b f k) (Some (atomic_step.OnCell (cell_step.GiveBack q b f))) Rest (λ p a. refl)
      (give_back_off v d q b f (paid_there q b out.0 f out.1))
  each_watch Clearing way held proper out after = emptied_watch w.endings
