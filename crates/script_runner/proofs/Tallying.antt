-- What a thread's acts make, end and say, as numbers; and none of them is a split or a join.
use Rattle.std.proofs.Common.{◌≡◌, ℕ, ◌+◌, Bool, true, false, cond, is_some, IfSome, Some, None}
use Rattle.std.proofs.Common.{Option, option_map, sym, refl, subst, arith}
use Rattle.script_runner.proofs.Prelude
use Prelude.{Act, aliased, Answer, Block, Came, CellName, Compared, copies, copy, Ended, ends}
use Prelude.{Event, Form, Found, Full, Got, hand, Handle, inside, is_enabled, is_full, is_there}
use Prelude.{IsLeaveEvent, IsLoadEvent, IsMakeEvent, IsSameEvent, IsSwapEvent, KeepsDesks, Kind}
use Prelude.{Left, makes, may_go, objects_asked, offered, On, other, outside, owned, owner_slot}
use Prelude.{Place, place_at, place_in, Plain, Question, refusal, refuses, Reply, row}
use Prelude.{slot_pointer, Slots, State, Told, unless, weak_slot, Where}
use Rattle.step_threads.specs.declared.programs.act.ShelfAct.TheVariants.{Shelve, Unshelve}
use Rattle.control_word.specs.declared.model.event.Event.TheVariants as event
use Rattle.control_word.specs.declared.model.handle.Kind.TheVariants.{Owner, Weak}
use Rattle.control_word.specs.declared.refusal.Refusal.TheVariants.{NotEnabled}
use Rattle.step_threads.specs.TraceLabels.{leaves_as}
use Rattle.step_threads.specs.Rows.{asked, not_given, lock_answer}
use Rattle.step_threads.specs.AbstractStates.{remains_as}
use Rattle.step_threads.specs.declared.programs.act.Act.TheVariants as act
use Rattle.step_threads.specs.declared.programs.act.Question.TheVariants as question
use Rattle.step_threads.specs.declared.programs.call.CellName.TheVariants as cell
use Rattle.step_threads.specs.declared.said.Answer.TheVariants as answer

-- which answers say that there was no block
no_refusal : (p : Option Place) → refuses (Some (outside p)) ≡ 0
no_refusal None = refl
no_refusal (Some p) = refl

no_refusal_at : (l : Slots) (c : CellName) → refuses (refusal l c) ≡ 0
no_refusal_at l (cell.Shared n) = refl
no_refusal_at l (cell.Weak n) = refl
no_refusal_at l (cell.Member k m) = go (is_there l (cell.Member k m))
  where
    go : (b : Bool) → refuses (cond b None (Some (outside (place_in l k.0)))) ≡ 0
    go true = refl
    go false = no_refusal (place_in l k.0)

no_held_refusal : (l : Slots) (c : CellName) (b : Bool) → refuses (unless (refusal l c) (answer.Holds b)) ≡ 0
no_held_refusal l (cell.Shared n) b = refl
no_held_refusal l (cell.Weak n) b = refl
no_held_refusal l (cell.Member k m) b = go (is_there l (cell.Member k m))
  where
    go : (there : Bool) → refuses (unless (cond there None (Some (outside (place_in l k.0)))) (answer.Holds b)) ≡ 0
    go true = refl
    go false = no_refusal (place_in l k.0)

no_lock_refusal : (must got : Bool) → refuses (Some (lock_answer must got)) ≡ 0
no_lock_refusal false got = refl
no_lock_refusal true true = refl
no_lock_refusal true false = refl

no_read_refusal : (b : Bool) (n : ℕ) (p : Option Place) → refuses (Some (cond b (answer.Read n) (outside p))) ≡ 0
no_read_refusal true n p = refl
no_read_refusal false n p = no_refusal p

no_asked_refusal : (l : Slots) (q : Question) (b : Bool) → refuses (Some (asked l q b)) ≡ 0
no_asked_refusal l (question.Place k) b = refl
no_asked_refusal l (question.Same i j) b = refl
no_asked_refusal l (question.Before i j) b = refl

no_this_refusal : (l : Slots) (k : ℕ) (b : Bool) → refuses (cond b None (Some (not_given l k))) ≡ 0
no_this_refusal l k true = refl
no_this_refusal l k false = go (is_full (inside (slot_pointer l k)))
  where
    go : (b : Bool) → refuses (Some (cond b (answer.Refused NotEnabled) (outside (place_in l k)))) ≡ 0
    go true = refl
    go false = no_refusal (place_in l k)

abbrev pub tells : Option Ended → ℕ
tells x = cond (is_some x) 1 0

module _ {V : Type 0} where
  abbrev pub makes_of : Option (Event V) → ℕ
  makes_of None = 0
  makes_of (Some v) = makes v

  abbrev pub ends_of : Option (Event V) → ℕ
  ends_of None = 0
  ends_of (Some v) = ends v

  -- an event that makes nothing, is no last owner's leave, and no split or join
  pub record IsMild (e : Option (Event V)) : Type 0 where
    pub makes : makes_of e ≡ 0
    pub ends : ends_of e ≡ 0
    pub keeps : IfSome e KeepsDesks

  mild_none : (e : Option (Event V)) → e ≡ None → IsMild e
  mild_none e is = subst IsMild (sym is) (record { makes = refl; ends = refl; keeps = tt })

  pub mild_some : (e : Option (Event V)) (v : Event V) → e ≡ Some v → makes v ≡ 0 → ends v ≡ 0 → KeepsDesks v → IsMild e
  mild_some e v is m n k = subst IsMild (sym is) (record { makes = m; ends = n; keeps = k })

  mild_map : (f : Handle → Event V) (o : Option Handle) → ((x : Handle) → IsMild (Some (f x))) → IsMild (option_map f o)
  mild_map f None mild = record { makes = refl; ends = refl; keeps = tt }
  mild_map f (Some x) mild = mild x

  mild_by_map : (e : Option (Event V)) (f : Handle → Event V) (o : Option Handle) → e ≡ option_map f o
      → ((x : Handle) → IsMild (Some (f x))) → IsMild e
  mild_by_map e f o is mild = subst IsMild (sym is) (mild_map f o mild)

  mild_unshelve : (b : Block) (got : Bool) → IsMild (cond got (Some (event.Unshelve b)) None)
  mild_unshelve b true = record { makes = refl; ends = refl; keeps = tt }
  mild_unshelve b false = record { makes = refl; ends = refl; keeps = tt }

  mild_copy : (s : State) (k : Kind) (p : Option Place) (x : Handle) → IsMild (Some (copies {V = V} s k p x))
  mild_copy s Owner p x = record { makes = refl; ends = refl; keeps = tt }
  mild_copy s Weak p x = record { makes = refl; ends = refl; keeps = tt }

  -- what an act makes, ends and says
  pub record Counts (a : Act) (e : Option (Event V)) (says : Option Answer) (left : Option Ended) : Type 0 where
    pub makes : makes_of e + refuses says ≡ objects_asked a
    pub ends : ends_of e ≡ tells left
    pub keeps : IfSome e KeepsDesks

  -- an act that makes no object and ends none
  mild_counts : (a : Act) (e : Option (Event V)) (says : Option Answer) → objects_asked a ≡ 0 → IsMild e → refuses says ≡ 0 → Counts a e says None
  mild_counts a e says none m silent =
      let x = m.makes in
      record { makes = omega (arith, x, silent, none); ends = m.ends; keeps = m.keeps }

  leaves_counts : (s : State) (a : Act) (o : Option Handle) (last : Bool) (left : Option Ended) (e : Option (Event V)) → objects_asked a ≡ 0
      → IsLeaveEvent s o last left e → Counts a e None left
  leaves_counts s a None last left e none l =
      subst (λ x. Counts a x None left) (sym l.2)
      (subst (λ x. Counts a None None x) (sym l.1) (record { makes = sym none; ends = refl; keeps = tt }))
  leaves_counts s a (Some x) last left e none l =
      subst (λ y. Counts a y None left) (sym l.0)
      (subst (λ y. Counts a (Some (leaves_as s x.kind last x)) None y) (sym l.1) (go x.kind last))
    where
      go : (k : Kind) (b : Bool) → Counts a (Some (leaves_as s k b x)) None (cond b (remains_as k (s.object (owned s x))) None)
      go Owner true = record { makes = sym none; ends = refl; keeps = tt }
      go Owner false = record { makes = sym none; ends = refl; keeps = tt }
      go Weak true = record { makes = sym none; ends = refl; keeps = tt }
      go Weak false = record { makes = sym none; ends = refl; keeps = tt }

  mild_on : (e : Option (Event V)) (f : Handle → Event V) (none : Type 0) (o : Option Handle) → (none → e ≡ None)
      → On (λ x. e ≡ Some (f x)) none o → ((x : Handle) → IsMild (Some (f x))) → IsMild e
  mild_on e f none None rest on mild = mild_none e (rest on)
  mild_on e f none (Some x) rest on mild = subst IsMild (sym on) (mild x)

  mild_given : (s : State) (e : Option (Event V)) (got : Bool) (k : Kind) (o : Option Handle)
      → On (λ x. (got ≡ is_enabled s x) × (e ≡ cond got (Some (copies s k (place_at x.block.0) x)) None))
      ((got ≡ false) × (e ≡ None)) o → IsMild e
  mild_given s e got k None on = mild_none e on.1
  mild_given s e got k (Some x) on = subst IsMild (sym on.1) (go got)
    where
      go : (b : Bool) → IsMild (cond b (Some (copies s k (place_at x.block.0) x)) None)
      go true = mild_copy s k (place_at x.block.0) x
      go false = record { makes = refl; ends = refl; keeps = tt }

  module _ (worth : Form → V) (s : State) (d : ℕ) (l : Slots) (taken : Bool) where
    abbrev pub Counted : Act → Reply → Option (Event V) → Type 0
    Counted a r e = Counts a e (row a l taken r).answer (row a l taken r).ended

    swap_mild : (b : Bool) (c : CellName) (i : ℕ) (x : _) (e : Option (Event V)) → Where b (IsSwapEvent s l c i x e) (e ≡ None) → IsMild e
    swap_mild true c i x e w = mild_some e _ w.1 refl refl tt
    swap_mild false c i x e w = mild_none e w

    load_mild : (b : Bool) (c : CellName) (x : _) (e : Option (Event V)) → Where b (IsLoadEvent s l c x e) (e ≡ None) → IsMild e
    load_mild true c x e w = mild_some e _ w.1 refl refl tt
    load_mild false c x e w = mild_none e w

    same_mild : (b : Bool) (c : CellName) (i : ℕ) (so : Bool) (e : Option (Event V)) → Where b (IsSameEvent s l c i so e) ((so ≡ false) × (e ≡ None))
        → IsMild e
    same_mild true c i so e w = mild_some e _ w refl refl tt
    same_mild false c i so e w = mild_none e w.1

    pub act_counts : (a : Act) (r : Reply) (e : Option (Event V)) → IsMakeEvent worth s d l a r e → Counted a r e
    act_counts (act.Make form) (Found None) e m =
        subst (λ x. Counts (act.Make form) x (Some (answer.Refused Full)) None) (sym m.1) (record { makes = refl; ends = refl; keeps = tt })
    act_counts (act.Make form) (Found (Some b)) e m =
        subst (λ x. Counts (act.Make form) x None None) (sym m) (record { makes = refl; ends = refl; keeps = tt })
    act_counts (act.Make form) _ e m = absurd m
    act_counts (act.Share k) Plain e m =
        mild_counts (act.Share k) e None refl (mild_by_map e (copy s) (slot_pointer l k) m (λ x. mild_copy s x.kind x.place x)) refl
    act_counts (act.Share k) _ e m = absurd m
    act_counts (act.Put k) (Left last left) e m = leaves_counts s (act.Put k) (slot_pointer l k) last left e refl m
    act_counts (act.Put k) _ e m = absurd m
    act_counts (act.Leave k) (Left last left) e m = leaves_counts s (act.Leave k) (slot_pointer l k) last left e refl m
    act_counts (act.Leave k) _ e m = absurd m
    act_counts (act.Clear k) (Left last left) e m = leaves_counts s (act.Clear k) (slot_pointer l k) last left e refl m
    act_counts (act.Clear k) _ e m = absurd m
    act_counts act.Drop (Left last left) e m = leaves_counts s act.Drop (slot_pointer l (other l)) last left e refl m
    act_counts act.Drop _ e m = absurd m
    act_counts (act.Count k) (Told n) e m =
        mild_counts (act.Count k) e (Some (answer.Count n)) refl
        (mild_on e _ _ (slot_pointer l k) (λ x. x.1) m (λ x. record { makes = refl; ends = refl; keeps = tt })) refl
    act_counts (act.Count k) _ e m = absurd m
    act_counts (act.Downgrade k) Plain e m =
        mild_counts (act.Downgrade k) e None refl (mild_by_map e _ (slot_pointer l k) m (λ x. mild_copy s Weak x.place x)) refl
    act_counts (act.Downgrade k) _ e m = absurd m
    act_counts (act.Lock k must) (Got got) e m =
        mild_counts (act.Lock k must) e (Some (lock_answer must got)) refl
        (mild_on e _ _ (weak_slot (slot_pointer l k)) (λ x. x.1) m (λ x. record { makes = refl; ends = refl; keeps = tt })) (no_lock_refusal must got)
    act_counts (act.Lock k must) _ e m = absurd m
    act_counts (act.Expired k) (Got b) e m =
        mild_counts (act.Expired k) e (Some (answer.Expired b)) refl
        (mild_on e _ _ (slot_pointer l k) (λ x. x.1) m (λ x. record { makes = refl; ends = refl; keeps = tt })) refl
    act_counts (act.Expired k) _ e m = absurd m
    act_counts (act.Read k) (Told n) e m =
        mild_counts (act.Read k) e (row (act.Read k) l taken (Told n)).answer refl
        (mild_on e _ _ (inside (slot_pointer l k)) (λ x. x) m (λ x. record { makes = refl; ends = refl; keeps = tt }))
        (no_read_refusal (is_full (inside (slot_pointer l k))) n (place_in l k))
    act_counts (act.Read k) _ e m = absurd m
    act_counts (act.FromThis k kind) (Got got) e m =
        mild_counts (act.FromThis k kind) e (row (act.FromThis k kind) l taken (Got got)).answer refl
        (mild_given s e got kind (inside (slot_pointer l k)) m) (no_this_refusal l k got)
    act_counts (act.FromThis k kind) _ e m = absurd m
    act_counts (act.Alias k j field) Plain e m =
        mild_counts (act.Alias k j field) e None refl
        (mild_by_map e _ (owner_slot (slot_pointer l k)) m (λ x. mild_copy s Owner (aliased field (place_in l j)) x)) refl
    act_counts (act.Alias k j field) _ e m = absurd m
    act_counts (act.Move k) Plain e m = mild_counts (act.Move k) e None refl (mild_none e m) refl
    act_counts (act.Move k) _ e m = absurd m
    act_counts (act.Ask q) (Got b) e m =
        mild_counts (act.Ask q) e (Some (asked l q b)) refl (mild_none e m.1) (no_asked_refusal l q b)
    act_counts (act.Ask q) _ e m = absurd m
    act_counts (act.Offer k c) Plain e m =
        mild_counts (act.Offer k c) e (refusal l c) refl (mild_by_map e (copy s) (offered l k c) m (λ x. mild_copy s x.kind x.place x))
        (no_refusal_at l c)
    act_counts (act.Offer k c) _ e m = absurd m
    act_counts (act.Swap c) (Came x) e m =
        mild_counts (act.Swap c) e None refl (swap_mild (may_go l c (hand l)) c (hand l) x e m) refl
    act_counts (act.Swap c) _ e m = absurd m
    act_counts (act.Exchange k c) (Came x) e m =
        mild_counts (act.Exchange k c) e (refusal l c) refl (swap_mild (may_go l c k) c k x e m) (no_refusal_at l c)
    act_counts (act.Exchange k c) _ e m = absurd m
    act_counts (act.Load c) (Came x) e m =
        mild_counts (act.Load c) e (refusal l c) refl (load_mild (is_there l c) c x e m) (no_refusal_at l c)
    act_counts (act.Load c) _ e m = absurd m
    act_counts (act.Compare k c weak) (Compared b x) e m =
        mild_counts (act.Compare k c weak) e (Some (answer.Compared b)) refl (mild_some e _ m.1 refl refl tt) refl
    act_counts (act.Compare k c weak) _ e m = absurd m
    act_counts (act.Holds k c) (Got b) e m =
        mild_counts (act.Holds k c) e (unless (refusal l c) (answer.Holds b)) refl (same_mild (may_go l c k) c k b e m) (no_held_refusal l c b)
    act_counts (act.Holds k c) _ e m = absurd m
    act_counts (act.OnShelf Shelve) (Found None) e m =
        mild_counts (act.OnShelf Shelve) e None refl (subst IsMild (sym m.1) (record { makes = refl; ends = refl; keeps = tt })) refl
    act_counts (act.OnShelf Shelve) (Found (Some b)) e m = mild_counts (act.OnShelf Shelve) e None refl (mild_some e _ m refl refl tt) refl
    act_counts (act.OnShelf Shelve) _ e m = absurd m
    act_counts (act.OnShelf (Unshelve b)) (Got got) e m =
        mild_counts (act.OnShelf (Unshelve b)) e None refl (subst IsMild (sym m.1) (mild_unshelve b got)) refl
    act_counts (act.OnShelf (Unshelve b)) _ e m = absurd m
