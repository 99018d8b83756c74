-- Which objects end in whose hands, after a step.
use Rattle.std.proofs.Common.{◌≡◌, ℕ, suc, ◌+◌, ◌<◌, Bool, true, false, cond, ◌≢◌, List, [], ◌∷◌}
use Rattle.std.proofs.Common.{get_or, ◌==◌, Some, None, Option, option_map, sym, refl, ap, ◌∙◌}
use Rattle.std.proofs.Common.{subst, ⊎_elim, arith, eq-eqb, ne_eqb}
use Rattle.step_core.proofs.Prelude
use Prelude.{Act, Alias, alias, aliased, AllEndInThreads, Ask, at_rest, AtomicStep, begins, begun}
use Prelude.{Block, Brought, cases_eq, cell_of_name, claims, Clear, Clearing, common, Compare}
use Prelude.{compared_in, comparing, cond_both, Count, Downgrade, downgrade, Drop, emptied}
use Prelude.{empties, empty, Ending, ending, ending_as, endings_in_block, ends_on, Exchange}
use Prelude.{Expired, first, Form, form_of, FrameView, FromThis, ghost_after_step, ghost_by}
use Prelude.{GhostState, Giving, going, gone, hand, Handle, holding, Holds, inside, is_full}
use Prelude.{is_last, Kind, kind_of_member, known_words, least, Leave, leave, leave_as, live, Load}
use Prelude.{Lock, locked_pointer, Locking, made_on, Make, Making, Matched, may_go, Member}
use Prelude.{model_state, Move, NumberedHandle, Object, object_of_block, Offer, offered, OnShelf}
use Prelude.{opening, other, Owner, owner_slot, pending, PendingCall, place_in, prepares, Put, put}
use Prelude.{Read, read_atomic_step, Refill, Rest, Returning, Said, Saw, seen, Share, share}
use Prelude.{shelf_block, silent, slot_pointer, sound, staged, Step, step_at, sum_by-cons, Swap}
use Prelude.{TableInvariant, Task, tell, tell_expired, there, wanted, Weak, weak, went, with_end}
use Prelude.{with_endings, within, word_of_cell}
use Rattle.step_core.proofs.telling.Still.{done_asking, done_shelf, IsAlike, Lists, Right, alike}
use Rattle.step_core.proofs.telling.Still.{asked, done_on, end_put, given_on, going_in, looked}
use Rattle.step_core.proofs.telling.Still.{passes, plain, put_alike, same, sent_on, shared}
use Rattle.step_core.proofs.telling.Still.{tried_on, within as on_the_way}
use Rattle.step_table.specs.declared.memory.ghost_history.AtomicStep.TheVariants as atomic_step
use Rattle.step_table.specs.declared.cell_steps.cell_step.CellStep.TheVariants as cell_step
use Rattle.step_table.proofs.tables.Places.{owner_busy}
use Rattle.step_core.proofs.telling.Trying.{compares_on, load_on, matched_on, refill_on, saw_on}
use Rattle.step_core.proofs.telling.Leaves.{act_endings, begun_by, settled_endings}

-- an owner leaves
left_by : (v : GhostState) (d k : ℕ) (w x : FrameView) (a : Said) (f : Lists) → f d ≡ w.endings → AllEndInThreads (model_state v) f → TableInvariant v
    → (y : Handle) (last : Bool)
    → x.endings ≡ with_end k (cond last (ending_as Owner y) None) w.endings
    → Right v d w f (Some (record { atomic_step = Some (atomic_step.Leave y.block y.place last); pending_call = Rest; frame_view = x; said = a }))
left_by v d k w x a f at all kept y true is = record {
  right = λ g after now else.
      let s = model_state v in
      let o = object_of_block v y.block in
      let has = after.stands.legal.1.asks.0.0 in
      let here = (there v y.block kept (owner_busy v d y.block y.place kept has)).0 in
      let new : Ending = record { block = y.block; stage = 0; statement = k } in
      let more : (b : ℕ) → endings_in_block b (new ∷ w.endings) ≡ cond (y.block.0 == b) 1 0 + endings_in_block b w.endings =
      λ b. sum_by-cons (λ (e : Ending). cond (e.block.0 == b) 1 0) new w.endings in
      let one : ◌≡◌ {A = ℕ} (cond (y.block.0 == (s.object o).block) 1 0) 1 =
      ap (λ (b : Bool). cond b 1 0) (eq-eqb y.block.0 (s.object o).block (sym here)) in
      end_put s (model_state
      (ghost_by v d (Some (record { atomic_step = Some (atomic_step.Leave y.block y.place true); pending_call = Rest; frame_view = x; said = a })))) g o
      (record (s.object o) { phase = ending d }) refl
      (λ e p. let q : d ≡ e = cc in
      subst (λ (j : ℕ). 0 < endings_in_block (s.object o).block (g j)) q
      (subst (λ (l : List Ending). 0 < endings_in_block (s.object o).block l) (sym (now ∙ is)) (let m = more (s.object o).block in omega (arith, m, one))))
      (λ r e n p.
      passes d f g w.endings (new ∷ w.endings) at (now ∙ is) else (λ b t. let m = more b in omega (arith, m, t)) (s.object r).block e (all r e p));
}
left_by v d k w x a f at all kept y false is = record {
  right = λ g after now else.
      let s = model_state v in
      let o = object_of_block v y.block in
      let keep = passes d f g w.endings w.endings at (now ∙ is) else (λ b t. t) in
      end_put s (model_state
      (ghost_by v d (Some (record { atomic_step = Some (atomic_step.Leave y.block y.place false); pending_call = Rest; frame_view = x; said = a })))) g o
      (s.object o) refl (λ e p. keep (s.object o).block e (all o e p)) (λ r e n p. keep (s.object r).block e (all r e p));
}

left_as : (v : GhostState) (d k : ℕ) (w x : FrameView) (a : Said) (f : Lists) → f d ≡ w.endings → AllEndInThreads (model_state v) f → TableInvariant v
    → (y : Handle) (q : Kind) (last : Bool)
    → x.endings ≡ with_end k (cond last (ending_as q y) None) w.endings
    → Right v d w f (Some (record { atomic_step = Some (leave_as q y last); pending_call = Rest; frame_view = x; said = a }))
left_as v d k w x a f at all kept y Owner last is = left_by v d k w x a f at all kept y last is
left_as v d k w x a f at all kept y Weak true is = same v d w f _ refl is at all
left_as v d k w x a f at all kept y Weak false is = same v d w f _ refl is at all

left : (v : GhostState) (d k : ℕ) (w x : FrameView) (a : Said) (f : Lists) → f d ≡ w.endings → AllEndInThreads (model_state v) f → TableInvariant v
    → (y : Option Handle)
    → x.endings ≡ begun_by (model_state v) k w.endings y
    → Right v d w f (Some (record { atomic_step = option_map (leave (model_state v)) y; pending_call = Rest; frame_view = x; said = a }))
left v d k w x a f at all kept None is = same v d w f _ refl is at all
left v d k w x a f at all kept (Some y) is = left_as v d k w x a f at all kept y y.kind (is_last (model_state v) y) is

begun_in : (v : GhostState) (d k : ℕ) (w : FrameView) (ts : List Task) (f : Lists) → f d ≡ w.endings → AllEndInThreads (model_state v) f → (o : Option ℕ)
    → Right v d w f (Some (begins w k ts o))
begun_in v d k w ts f at all None = same v d w f _ refl (settled_endings w.slots false w.endings ts) at all
begun_in v d k w ts f at all (Some b) = same v d w f _ refl refl at all

acted : (v : GhostState) (d k : ℕ) (w : FrameView) (ts : List Task) (f : Lists) → f d ≡ w.endings → AllEndInThreads (model_state v) f → TableInvariant v
    → (a : Act)
    → Right v d w f (Some (first v d w k ts a))
acted v d k w ts f at all kept (Make form) = begun_in v d k w ts f at all (least d (model_state v).stores)
acted v d k w ts f at all kept (Share i) =
    plain v d k w ts (Share i) _ Rest f refl (done_on v d share (slot_pointer w.slots i) (λ x. shared v d x.kind x)) at all
acted v d k w ts f at all kept (Put i) =
    left v d k w (went (model_state v) d w k ts (Put i)) _ f at all kept (slot_pointer w.slots i) (act_endings (model_state v) d k w ts (Put i))
acted v d k w ts f at all kept (Leave i) =
    left v d k w (went (model_state v) d w k ts (Leave i)) _ f at all kept (slot_pointer w.slots i) (act_endings (model_state v) d k w ts (Leave i))
acted v d k w ts f at all kept (Clear i) =
    left v d k w (went (model_state v) d w k ts (Clear i)) _ f at all kept (slot_pointer w.slots i) (act_endings (model_state v) d k w ts (Clear i))
acted v d k w ts f at all kept (Count i) =
    plain v d k w ts (Count i) _ Rest f refl (done_on v d (tell v) (slot_pointer w.slots i) (λ x. refl)) at all
acted v d k w ts f at all kept (Downgrade i) =
    plain v d k w ts (Downgrade i) _ Rest f refl (done_on v d downgrade (slot_pointer w.slots i) (λ x. refl)) at all
acted v d k w ts f at all kept (Lock i must) = looked v d k w ts i must f at all (locked_pointer w.slots (Lock i must))
acted v d k w ts f at all kept (Expired i) =
    plain v d k w ts (Expired i) _ Rest f refl (done_on v d (tell_expired (model_state v)) (slot_pointer w.slots i) (λ x. refl)) at all
acted v d k w ts f at all kept (Read i) =
    plain v d k w ts (Read i) _ Rest f refl (done_on v d (read_atomic_step (model_state v)) (inside (slot_pointer w.slots i)) (λ x. refl)) at all
acted v d k w ts f at all kept (FromThis i kind) = asked v d k w ts i kind f at all (inside (slot_pointer w.slots i))
acted v d k w ts f at all kept (Alias i j field) =
    plain v d k w ts (Alias i j field) _ Rest f refl
    (done_on v d (alias (aliased field (place_in w.slots j))) (owner_slot (slot_pointer w.slots i)) (λ x. refl)) at all
acted v d k w ts f at all kept (Move i) = plain v d k w ts (Move i) None Rest f refl refl at all
acted v d k w ts f at all kept (Ask q) = plain v d k w ts (Ask q) None Rest f refl refl at all
acted v d k w ts f at all kept (Offer i c) =
    plain v d k w ts (Offer i c) _ Rest f refl (done_on v d share (offered w.slots i c) (λ x. shared v d x.kind x)) at all
acted v d k w ts f at all kept (Swap c) = going_in v d k w ts (Swap c) (going w.slots (Swap c)) f at all refl refl
acted v d k w ts f at all kept (Exchange i c) = going_in v d k w ts (Exchange i c) (going w.slots (Exchange i c)) f at all refl refl
acted v d k w ts f at all kept (Load c) = load_on v d k w ts c f at all
acted v d k w ts f at all kept (Compare i c weak) =
    compares_on v d k w ts (Compare i c weak) c (compared_in w.slots (comparing w.slots i weak)) (seen v (cell_of_name (model_state v) w.slots c)) f refl at all
acted v d k w ts f at all kept (Holds i c) =
    plain v d k w ts (Holds i c) _ Rest f refl (done_asking v d (may_go w.slots c i) _ _ _) at all
acted v d k w ts f at all kept Drop =
    left v d k w (went (model_state v) d w k ts Drop) _ f at all kept (slot_pointer w.slots (other w.slots)) (act_endings (model_state v) d k w ts Drop)
acted v d k w ts f at all kept (OnShelf x) =
    plain v d k w ts (OnShelf x) _ Rest f refl (done_shelf v d x (shelf_block (model_state v) d x)) at all

begun_task : (v : GhostState) (d : ℕ) (w : FrameView) (f : Lists) → f d ≡ w.endings → AllEndInThreads (model_state v) f → TableInvariant v → (ts : List Task)
    → Right v d w f (begun v d w ts)
begun_task v d w f at all kept [] = same v d w f None refl refl at all
begun_task v d w f at all kept (t ∷ ts) = acted v d t.statement w ts f at all kept t.act

-- a member is cleared, or what it held is out
staged_right : (v : GhostState) (d m : ℕ) (w x : FrameView) (e : Ending) (es : List Ending) (a : AtomicStep) (h : PendingCall) (c : NumberedHandle) (f : Lists)
    →
    w.endings ≡ e ∷ es
    → x.endings ≡ staged e ∷ es → (let o = (model_state v).object in let p = object_of_block v e.block in
    (model_state (ghost_after_step v d a)).object ≡ put o p (record (o p) { member = put (o p).member m c })) → f d ≡ w.endings
    → AllEndInThreads (model_state v) f
    → Right v d w f (Some (within x e.statement (Some a) h))
staged_right v d m w x e es a h c f was becomes is at all =
    let o = (model_state v).object in
    let p = object_of_block v e.block in
    alike v d w f (Some (within x e.statement (Some a) h))
    (subst (λ (g : ℕ → Object). IsAlike o g) (sym is) (put_alike o p m c))
    (λ b has.
    let n = sum_by-cons (λ (y : Ending). cond (y.block.0 == b) 1 0) e es in
    let q = sum_by-cons (λ (y : Ending). cond (y.block.0 == b) 1 0) (staged e) es in
    let old = ap (endings_in_block b) was in
    let new = ap (endings_in_block b) becomes in
    omega (arith, n, q, old, new, has)) at all

-- the object is gone: no other ends in its block
finished : (v : GhostState) (d : ℕ) (w : FrameView) (e : Ending) (es : List Ending) (vacant : Bool) (f : Lists) → f d ≡ e ∷ es
    → AllEndInThreads (model_state v) f → TableInvariant v
    → Right v d w f (Some
    (record { atomic_step = Some (atomic_step.Finish e.block vacant); pending_call = Rest; frame_view = with_endings w es; said = silent e.statement }))
finished v d w e es vacant f at all kept = record {
  right = λ g after now else.
      let s = model_state v in
      let o = object_of_block v e.block in
      end_put s
      (model_state (ghost_by v d (Some (record {
        atomic_step = Some (atomic_step.Finish e.block vacant);
        pending_call = Rest;
        frame_view = with_endings w es;
        said =
            silent e.statement;
      })))) g o
      _ refl (λ i p. absurd (gone_ends i p))
      (λ r i n p.
      ⊎_elim
      (λ (q : i ≡ d).
      let h : 0 < endings_in_block (s.object r).block (e ∷ es) =
      subst (λ (l : List Ending). 0 < endings_in_block (s.object r).block l) (ap f q ∙ at) (all r i p) in
      let c : common (s.object r).phase ≡ 1 = ap common p in
      let l = ((sound (opening v.extent) v.history kept.stands.legal).placed r (omega (arith, c))).0 in
      let m = sum_by-cons (λ (x : Ending). cond (x.block.0 == (s.object r).block) 1 0) e es in
      let other : e.block.0 ≢ (s.object r).block = λ t. n (sym l ∙ ap s.latest (sym t)) in
      let z : ◌≡◌ {A = ℕ} (cond (e.block.0 == (s.object r).block) 1 0) 0 =
      ap (λ (b : Bool). cond b 1 0) (ne_eqb e.block.0 (s.object r).block other) in
      subst (λ (x : List Ending). 0 < endings_in_block (s.object r).block x) (sym (ap g q ∙ now)) (omega (arith, h, m, z)))
      (λ (k : i ≢ d). subst (λ (x : List Ending). 0 < endings_in_block (s.object r).block x) (sym (else i k)) (all r i p)) (cases_eq i d));
}
  where
    gone_ends : (i : ℕ) → gone ≡ ending i → ⊥
    gone_ends i p = cc

ended : (v : GhostState) (d : ℕ) (w : FrameView) (e : Ending) (es : List Ending) (f : Lists) → f d ≡ w.endings → w.endings ≡ e ∷ es
    → AllEndInThreads (model_state v) f
    → TableInvariant v → Right v d w f (Some (ends_on v w e es))
ended v d w e es f at was all kept =
    let vacant = weak (model_state v) (object_of_block v e.block) == 0 in
    let done : Step = record
    { atomic_step = Some (atomic_step.Finish e.block vacant); pending_call = Rest; frame_view = with_endings w es; said = silent e.statement } in
    let cleared = within (with_endings w (staged e ∷ es)) e.statement (Some (atomic_step.Clear e.block e.stage)) Rest in
    let looked = within w e.statement None Clearing in
    let P : Step → Type 0 = λ x. Right v d w f (Some x) in
    cond_both (e.stage == 3) done (cond (word_of_cell v (Member e.block e.stage) == 0) cleared looked) P
    (λ c. finished v d w e es vacant f (at ∙ was) all kept)
    (λ c. cond_both (word_of_cell v (Member e.block e.stage) == 0) cleared looked P
    (λ z. staged_right v d e.stage w (with_endings w (staged e ∷ es)) e es (atomic_step.Clear e.block e.stage) Rest
    (empty (kind_of_member (model_state v).owners e.stage)) f was refl refl at
    all)
    (λ z. on_the_way v d e.statement w None Clearing f refl at all))

emptying : (v : GhostState) (d : ℕ) (w : FrameView) (f : Lists) → f d ≡ w.endings → AllEndInThreads (model_state v) f → (es : List Ending) → w.endings ≡ es
    → Right v d w f (emptied v w es)
emptying v d w f at all [] was = same v d w f None refl refl at all
emptying v d w f at all (e ∷ es) was =
    let x = empties v w e es in
    let found = seen v (Member e.block e.stage) in
    staged_right v d e.stage w x.frame_view e es (atomic_step.OnCell (cell_step.TakeOut e.block e.stage found)) x.pending_call
    (empty (kind_of_member (model_state v).owners e.stage)) f was refl refl at all

rested : (v : GhostState) (d : ℕ) (w : FrameView) (f : Lists) → f d ≡ w.endings → AllEndInThreads (model_state v) f → TableInvariant v → (es : List Ending)
    → w.endings ≡ es
    → Right v d w f (at_rest v d w es)
rested v d w f at all kept [] is = begun_task v d w f at all kept w.todo
rested v d w f at all kept (e ∷ es) is =
    cond_both (is_full (slot_pointer w.slots (hand w.slots))) (first v d w e.statement w.todo (Leave (hand w.slots))) (ends_on v w e es)
    (λ (x : Step). Right v d w f (Some x)) (λ c. acted v d e.statement w w.todo f at all kept (Leave (hand w.slots)))
    (λ c. ended v d w e es f at is all kept)

-- an object is made
claimed : (v : GhostState) (d k : ℕ) (w : FrameView) (ts : List Task) (b : Block) (form : Form) (f : Lists) → f d ≡ w.endings → AllEndInThreads (model_state v)
    f
    → Right v d w f (Some (claims w k ts b form))
claimed v d k w ts b form f at all = record {
  right = λ g after now else.
      let s = model_state v in
      let x = holding w.slots form.null (Some b.0) in
      let keep = passes d f g w.endings w.endings at (now ∙ settled_endings x.0 x.1 w.endings ts) else (λ j t. t) in
      end_put s (model_state (ghost_by v d (Some (claims w k ts b form)))) g (suc s.made) _ refl (λ e p. absurd (live_ends e p))
      (λ r e n p. keep (s.object r).block e (all r e p));
}
  where
    live_ends : (e : ℕ) → live ≡ ending e → ⊥
    live_ends e p = cc

prepared : (v : GhostState) (d k found want i : ℕ) (w : FrameView) (b : Block) (c : Bool) (f : Lists) → f d ≡ w.endings → AllEndInThreads (model_state v) f
    → Right v d w f (Some (prepares found want w k b i c))
prepared v d k found want i w b true f at all = same v d w f _ refl refl at all
prepared v d k found want i w b false f at all = same v d w f _ refl refl at all

making : (v : GhostState) (d i : ℕ) (w : FrameView) (b : Block) (c : Bool) (f : Lists) → f d ≡ w.endings → AllEndInThreads (model_state v) f → (ts : List Task)
    → Right v d w f (made_on v d w b i c ts)
making v d i w b c f at all [] = same v d w f None refl refl at all
making v d i w b c f at all (t ∷ ts) =
    let found = get_or (known_words (pending v d)) i 0 in
    let want = get_or (wanted (form_of t.act)) i 0 in
    cond_both (i == 5) (claims w t.statement ts b (form_of t.act)) (prepares found want w t.statement b i c)
    (λ (x : Step). Right v d w f (Some x))
    (λ e. claimed v d t.statement w ts b (form_of t.act) f at all) (λ e. prepared v d t.statement found want i w b c f at all)

-- after each step
pub ends_right : (v : GhostState) (d : ℕ) (h : PendingCall) (w : FrameView) (f : Lists) → f d ≡ w.endings → AllEndInThreads (model_state v) f → TableInvariant v
    → Right v d w f (step_at v d h w)
ends_right v d Rest w f at all kept = rested v d w f at all kept w.endings refl
ends_right v d (Making b i c) w f at all kept = making v d i w b c f at all w.todo
ends_right v d (Locking word) w f at all kept = tried_on v d word w f at all w.todo
ends_right v d (Giving i kind x) w f at all kept = given_on v d i kind x w f at all w.todo
ends_right v d Brought w f at all kept = sent_on v d w f at all w.todo
ends_right v d (Saw x) w f at all kept = saw_on v d x w f at all w.todo
ends_right v d (Matched x) w f at all kept = matched_on v d x w f at all w.todo
ends_right v d (Refill stage c x k) w f at all kept = refill_on v d stage c x k w f at all
ends_right v d (Returning kind b funds k) w f at all kept =
    on_the_way v d k w (Some (atomic_step.OnCell (cell_step.GiveBack kind b funds))) Rest f refl at all
ends_right v d Clearing w f at all kept = emptying v d w f at all w.endings refl
