-- Steps by which no object begins to end, or comes to its end.
use Rattle.std.proofs.Common.{◌≡◌, ℕ, ◌<◌, Bool, true, false, cond, ◌≢◌, List, [], ◌∷◌, ◌==◌, Some}
use Rattle.std.proofs.Common.{None, Option, option_map, sym, refl, ap, ◌∙◌, subst, ⊎_elim}
use Rattle.step_core.proofs.Prelude
use Prelude.{Act, Alias, AllEndInThreads, as_word, Ask, asks, AtomicStep, brings, Brought}
use Prelude.{cases_eq, cell_in, cell_of_name, CellWord, Clear, Compare, cond_both, Count}
use Prelude.{Downgrade, Drop, Ending, ending, endings_in_block, Exchange, Expired, frame_by}
use Prelude.{FrameView, FromThis, ghost_after, ghost_by, GhostState, give, given_step, gives_back}
use Prelude.{Giving, Going, going, Handle, handle_told, Holds, is_enabled, Kind, kind_at, Leave}
use Prelude.{Load, Lock, lock, locked_pointer, Locking, looks, Make, model_state, Move}
use Prelude.{NumberedHandle, Object, Offer, on, on_going, OnShelf, Owner, owner_word, PendingCall}
use Prelude.{Put, put, Read, Rest, seen, sends, sent, Share, share_as, shelf_step, ShelfAct}
use Prelude.{Shelve, silent, Site, slot_pointer, slot_value, State, Step, step_of_act}
use Prelude.{step_of_swap, Swap, TableInvariant, Task, tried, tries, trying, Unshelve, Weak, went}
use Rattle.control_word.proofs.lists.Tallies.{put_cases}
use Rattle.control_word.specs.declared.model.event.Cell.{Cell as Named}
use Rattle.control_word.specs.declared.model.event.Cell.TheVariants.{Free, Member}
use Rattle.control_word.specs.Events.{swaps as event_swaps}
use Rattle.step_table.specs.declared.memory.ghost_history.AtomicStep.TheVariants as atomic_step
use Rattle.step_table.specs.declared.cell_steps.cell_step.CellStep.TheVariants as cell_step
use Rattle.step_core.proofs.telling.Leaves.{act_endings, begun_by, leaves_by}
use Rattle.step_core.proofs.telling.Swapping.{swapping}

abbrev pub Lists : Type 0
Lists = ℕ → List Ending

-- what ends in other threads' hands is as it was
abbrev pub IsElse : ℕ → Lists → Lists → Type 0
IsElse d f g = (e : ℕ) → e ≢ d → g e ≡ f e

-- an ending for an object that had one
abbrev pub Follows : List Ending → List Ending → Type 0
Follows old new = (b : ℕ) → 0 < endings_in_block b old → 0 < endings_in_block b new

follows_same : (old new : List Ending) → new ≡ old → Follows old new
follows_same old new is b has = subst (λ (l : List Ending). 0 < endings_in_block b l) (sym is) has

pub passes : (d : ℕ) (f g : Lists) (old new : List Ending) → f d ≡ old → g d ≡ new → IsElse d f g → Follows old new
    → (b e : ℕ) → 0 < endings_in_block b (f e) → 0 < endings_in_block b (g e)
passes d f g old new was now else own b e has =
    ⊎_elim
    (λ (q : e ≡ d).
    let h : 0 < endings_in_block b old = subst (λ (l : List Ending). 0 < endings_in_block b l) (ap f q ∙ was) has in
    subst (λ (l : List Ending). 0 < endings_in_block b l) (sym (ap g q ∙ now)) (own b h))
    (λ (n : e ≢ d). subst (λ (l : List Ending). 0 < endings_in_block b l) (sym (else e n)) has) (cases_eq e d)

-- one object is another
pub end_put : (s t : State) (g : Lists) (o : ℕ) (x : Object) → t.object ≡ put s.object o x
    → ((e : ℕ) → x.phase ≡ ending e → 0 < endings_in_block x.block (g e))
    → ((p e : ℕ) → p ≢ o → (s.object p).phase ≡ ending e → 0 < endings_in_block (s.object p).block (g e)) → AllEndInThreads t g
end_put s t g o x is here else p e =
    let P : Object → Type 0 = λ y. y.phase ≡ ending e → 0 < endings_in_block y.block (g e) in
    subst P (sym (ap (λ (k : ℕ → Object). k p) is)) (put_cases (λ k y. P y) s.object o x p (λ q. here e) (λ n. else p e n))

-- after the step all is as it should be
pub record Right (v : GhostState) (d : ℕ) (w : FrameView) (f : Lists) (x : Option Step) : Type 0 where
  pub right : (g : Lists) → TableInvariant (ghost_by v d x) → g d ≡ (frame_by w x).endings → IsElse d f g → AllEndInThreads (model_state (ghost_by v d x)) g

-- each object is in the block that it was in, and ends in whose hands it did
abbrev pub IsAlike : (ℕ → Object) → (ℕ → Object) → Type 0
IsAlike f g = (o : ℕ) → ((g o).phase ≡ (f o).phase) × ((g o).block ≡ (f o).block)

-- another member alone
pub put_alike : (f : ℕ → Object) (p m : ℕ) (h : NumberedHandle) → IsAlike f (put f p (record (f p) { member = put (f p).member m h }))
put_alike f p m h o =
    put_cases (λ k y. (y.phase ≡ (f k).phase) × (y.block ≡ (f k).block)) f p (record (f p) { member = put (f p).member m h }) o
    (λ q. (ap (λ k. (f k).phase) (sym q), ap (λ k. (f k).block) (sym q))) (λ n. (refl, refl))

-- a cell is a member of an object or of none
pub fills_alike : (s : State) (d : ℕ) (c : Named) (new old : NumberedHandle) → IsAlike s.object (event_swaps d c new old s).object
fills_alike s d (Free n) new old o = (refl, refl)
fills_alike s d (Member p m) new old o = put_alike s.object p m new o

-- where no object begins to end or comes to its end
pub alike : (v : GhostState) (d : ℕ) (w : FrameView) (f : Lists) (x : Option Step) → IsAlike (model_state v).object (model_state (ghost_by v d x)).object
    → Follows w.endings (frame_by w x).endings → f d ≡ w.endings → AllEndInThreads (model_state v) f → Right v d w f x
alike v d w f x is own at all = record {
  right = λ g kept now else o e p.
      let i = is o in
      subst (λ (b : ℕ). 0 < endings_in_block b (g e)) (sym i.1)
      (passes d f g w.endings (frame_by w x).endings at now else own ((model_state v).object o).block e (all o e (sym i.0 ∙ p)));
}

-- where no object changes
same_alike : (f g : ℕ → Object) → g ≡ f → IsAlike f g
same_alike f g is o = (ap (λ (k : ℕ → Object). (k o).phase) is, ap (λ (k : ℕ → Object). (k o).block) is)

pub same : (v : GhostState) (d : ℕ) (w : FrameView) (f : Lists) (x : Option Step) → (model_state (ghost_by v d x)).object ≡ (model_state v).object
    → (frame_by w x).endings ≡ w.endings → f d ≡ w.endings → AllEndInThreads (model_state v) f → Right v d w f x
same v d w f x is own at all =
    alike v d w f x (same_alike (model_state v).object (model_state (ghost_by v d x)).object is) (follows_same w.endings (frame_by w x).endings own) at all

-- an act on what a slot holds
pub done_on : (v : GhostState) (d : ℕ) (f : Handle → AtomicStep) (o : Option Handle)
    → ((x : Handle) → (model_state (ghost_after v d (Some (f x)))).object ≡ (model_state v).object)
    → (model_state (ghost_after v d (option_map f o))).object ≡ (model_state v).object
done_on v d f None still = refl
done_on v d f (Some x) still = still x

-- a block goes to the shelf or comes from it, if there is one
pub done_shelf : (v : GhostState) (d : ℕ) (x : ShelfAct) (o : Option ℕ)
    → (model_state (ghost_after v d (shelf_step x o))).object ≡ (model_state v).object
done_shelf v d Shelve None = refl
done_shelf v d Shelve (Some b) = refl
done_shelf v d (Unshelve c) None = refl
done_shelf v d (Unshelve c) (Some b) = refl

-- a cell is asked, or not
pub done_asking : (v : GhostState) (d : ℕ) (b : Bool) (c : Site) (y : CellWord) (so : Bool)
    → (model_state (ghost_after v d (cond b (Some (atomic_step.OnCell (cell_step.Holds c y so))) None))).object ≡ (model_state v).object
done_asking v d true c y so = refl
done_asking v d false c y so = refl

pub shared : (v : GhostState) (d : ℕ) (q : Kind) (x : Handle) → (model_state (ghost_after v d (Some (share_as q x)))).object ≡ (model_state v).object
shared v d Owner x = refl
shared v d Weak x = refl

gave : (v : GhostState) (d : ℕ) (q : Kind) (x : Handle) → (model_state (ghost_after v d (Some (give q x)))).object ≡ (model_state v).object
gave v d Owner x = refl
gave v d Weak x = refl

-- an act by which nothing leaves
pub plain_alike : (v : GhostState) (d k : ℕ) (w : FrameView) (ts : List Task) (a : Act) (x : Option AtomicStep) (h : PendingCall) (f : Lists) → leaves_by
    w.slots a ≡ None
    → IsAlike (model_state v).object (model_state (ghost_after v d x)).object → f d ≡ w.endings → AllEndInThreads (model_state v) f
    → Right v d w f (Some (step_of_act v d w k ts a x h))
plain_alike v d k w ts a x h f stays is at all =
    let e = act_endings (model_state v) d k w ts a ∙ ap (begun_by (model_state v) k w.endings) stays in
    alike v d w f (Some (step_of_act v d w k ts a x h)) is (follows_same w.endings (went (model_state v) d w k ts a).endings e) at all

pub plain : (v : GhostState) (d k : ℕ) (w : FrameView) (ts : List Task) (a : Act) (x : Option AtomicStep) (h : PendingCall) (f : Lists) → leaves_by w.slots a ≡
    None
    → (model_state (ghost_after v d x)).object ≡ (model_state v).object → f d ≡ w.endings → AllEndInThreads (model_state v) f
    → Right v d w f (Some (step_of_act v d w k ts a x h))
plain v d k w ts a x h f stays is at all =
    plain_alike v d k w ts a x h f stays (same_alike (model_state v).object (model_state (ghost_after v d x)).object is) at all

-- a step within an act
pub within : (v : GhostState) (d k : ℕ) (w : FrameView) (x : Option AtomicStep) (h : PendingCall) (f : Lists) → (model_state (ghost_after v d x)).object ≡
    (model_state v).object
    → f d ≡ w.endings → AllEndInThreads (model_state v) f → Right v d w f (Some (record { atomic_step = x; pending_call = h; frame_view = w; said = silent k }))
within v d k w x h f is at all = same v d w f _ is refl at all

-- an object is asked for a pointer, or gives one
pub asked : (v : GhostState) (d k : ℕ) (w : FrameView) (ts : List Task) (i : ℕ) (q : Kind) (f : Lists) → f d ≡ w.endings → AllEndInThreads (model_state v) f
    → (o : Option Handle)
    → Right v d w f (Some (on (asks v d w k ts i q) (step_of_act v d w k ts (FromThis i q) None Rest) o))
asked v d k w ts i q f at all None = plain v d k w ts (FromThis i q) None Rest f refl refl at all
asked v d k w ts i q f at all (Some y) =
    cond_both (is_enabled (model_state v) y) (record { atomic_step = None; pending_call = Giving i q y; frame_view = w; said = silent k })
    (step_of_act v d w k ts (FromThis i q) None Rest) (λ (x : Step). Right v d w f (Some x))
    (λ e. within v d k w None (Giving i q y) f refl at all) (λ e. plain v d k w ts (FromThis i q) None Rest f refl refl at all)

pub given_on : (v : GhostState) (d i : ℕ) (q : Kind) (y : Handle) (w : FrameView) (f : Lists) → f d ≡ w.endings → AllEndInThreads (model_state v) f
    → (ts : List Task)
    → Right v d w f (given_step v d w i q y ts)
given_on v d i q y w f at all [] = same v d w f None refl refl at all
given_on v d i q y w f at all (t ∷ ts) = plain v d t.statement w ts (FromThis i q) (Some (give q y)) Rest f refl (gave v d q y) at all

-- a lock is tried, or done
tried_or : (v : GhostState) (d k word : ℕ) (w : FrameView) (ts : List Task) (i : ℕ) (must : Bool) (f : Lists) → f d ≡ w.endings
    → AllEndInThreads (model_state v) f
    → (y : Handle) (c : Bool)
    → Right v d w f (Some (cond c (step_of_act v d w k ts (Lock i must) (Some (lock (model_state v) y)) Rest) (trying w k word)))
tried_or v d k word w ts i must f at all y true = plain v d k w ts (Lock i must) (Some (lock (model_state v) y)) Rest f refl refl at all
tried_or v d k word w ts i must f at all y false = within v d k w None (cond (word == 0) Rest (Locking word)) f refl at all

pub looked : (v : GhostState) (d k : ℕ) (w : FrameView) (ts : List Task) (i : ℕ) (must : Bool) (f : Lists) → f d ≡ w.endings → AllEndInThreads (model_state v) f
    → (o : Option Handle)
    → Right v d w f (Some (on (looks v d w k ts (Lock i must)) (step_of_act v d w k ts (Lock i must) None Rest) o))
looked v d k w ts i must f at all None = plain v d k w ts (Lock i must) None Rest f refl refl at all
looked v d k w ts i must f at all (Some y) = tried_or v d k (owner_word v y) w ts i must f at all y (owner_word v y == 0)

tried_by : (v : GhostState) (d word k : ℕ) (w : FrameView) (ts : List Task) (a : Act) (f : Lists) → f d ≡ w.endings → AllEndInThreads (model_state v) f
    → (o : Option Handle) → locked_pointer w.slots a ≡ o → Right v d w f (option_map (tries v d w k ts a word) o)
tried_by v d word k w ts a f at all None e = same v d w f None refl refl at all
tried_by v d word k w ts (Lock i must) f at all (Some y) e = tried_or v d k (owner_word v y) w ts i must f at all y (owner_word v y == word)
tried_by v d word k w ts (Make form) f at all (Some y) e = cc
tried_by v d word k w ts (Share i) f at all (Some y) e = cc
tried_by v d word k w ts (Downgrade i) f at all (Some y) e = cc
tried_by v d word k w ts (Put i) f at all (Some y) e = cc
tried_by v d word k w ts (Leave i) f at all (Some y) e = cc
tried_by v d word k w ts (Clear i) f at all (Some y) e = cc
tried_by v d word k w ts (Count i) f at all (Some y) e = cc
tried_by v d word k w ts (Expired i) f at all (Some y) e = cc
tried_by v d word k w ts (Read i) f at all (Some y) e = cc
tried_by v d word k w ts (FromThis i kind) f at all (Some y) e = cc
tried_by v d word k w ts (Alias i j field) f at all (Some y) e = cc
tried_by v d word k w ts (Move i) f at all (Some y) e = cc
tried_by v d word k w ts (Ask q) f at all (Some y) e = cc
tried_by v d word k w ts (Offer i c) f at all (Some y) e = cc
tried_by v d word k w ts (Swap c) f at all (Some y) e = cc
tried_by v d word k w ts (Exchange i c) f at all (Some y) e = cc
tried_by v d word k w ts (Holds i c) f at all (Some y) e = cc
tried_by v d word k w ts (Load c) f at all (Some y) e = cc
tried_by v d word k w ts (Compare i c weak) f at all (Some y) e = cc
tried_by v d word k w ts Drop f at all (Some y) e = cc
tried_by v d word k w ts (OnShelf x) f at all (Some y) e = cc

pub tried_on : (v : GhostState) (d word : ℕ) (w : FrameView) (f : Lists) → f d ≡ w.endings → AllEndInThreads (model_state v) f → (ts : List Task)
    → Right v d w f (tried v d w word ts)
tried_on v d word w f at all [] = same v d w f None refl refl at all
tried_on v d word w f at all (t ∷ ts) = tried_by v d word t.statement w ts t.act f at all (locked_pointer w.slots t.act) refl

-- a value goes into a cell
swapped : (v : GhostState) (d k : ℕ) (w : FrameView) (ts : List Task) (a : Act) (x : Going) (f : Lists) → f d ≡ w.endings → AllEndInThreads (model_state v) f
    → going w.slots a ≡ Some x → Right v d w f (Some (step_of_swap v d w k ts a x.0 x.1))
swapped v d k w ts a x f at all goes =
    let c = cell_of_name (model_state v) w.slots x.0 in
    let found = seen v c in
    let new = as_word (slot_value w.slots x.1) in
    plain_alike v d k w ts a (Some (atomic_step.OnCell (cell_step.Swap c new found))) (gives_back (kind_at x.0) k found found.owned) f
    (swapping w.slots a x goes).stays
    (fills_alike (model_state v) d (cell_in (model_state v) c) (handle_told (model_state v) c new) (handle_told (model_state v) c found)) at all

-- its funds are brought first, where it has an object
brought : (v : GhostState) (d k : ℕ) (w : FrameView) (ts : List Task) (a : Act) (x : Going) (f : Lists) → f d ≡ w.endings → AllEndInThreads (model_state v) f
    → going w.slots a ≡ Some x → (o : Option Handle) → Right v d w f (Some (on (brings w k) (step_of_swap v d w k ts a x.0 x.1) o))
brought v d k w ts a x f at all goes None = swapped v d k w ts a x f at all goes
brought v d k w ts a x f at all goes (Some y) =
    within v d k w (Some (atomic_step.OnCell (cell_step.Bring y.kind y.block y.place 256))) Brought f refl at all

pub going_in : (v : GhostState) (d k : ℕ) (w : FrameView) (ts : List Task) (a : Act) (o : Option Going) (f : Lists) → f d ≡ w.endings
    → AllEndInThreads (model_state v) f
    → going w.slots a ≡ o → leaves_by w.slots a ≡ None
    → Right v d w f (Some (on_going (sends v d w k ts a) (step_of_act v d w k ts a None Rest) o))
going_in v d k w ts a None f at all goes stays = plain v d k w ts a None Rest f stays refl at all
going_in v d k w ts a (Some x) f at all goes stays = brought v d k w ts a x f at all goes (slot_pointer w.slots x.1)

pub sent_on : (v : GhostState) (d : ℕ) (w : FrameView) (f : Lists) → f d ≡ w.endings → AllEndInThreads (model_state v) f → (ts : List Task)
    → Right v d w f (sent v d w ts)
sent_on v d w f at all [] = same v d w f None refl refl at all
sent_on v d w f at all (t ∷ ts) = go (going w.slots t.act) refl
  where
    go : (o : Option Going) → going w.slots t.act ≡ o
        → Right v d w f (option_map (λ (x : Going). step_of_swap v d w t.statement ts t.act x.0 x.1) o)
    go None goes = same v d w f None refl refl at all
    go (Some x) goes = swapped v d t.statement w ts t.act x f at all goes
