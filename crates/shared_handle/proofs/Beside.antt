-- Objects that end beside each other in a desk's hands, one out of the other's member.
use Rattle.std.proofs.Common.{◌≡◌, ℕ, ◌<◌, ◌≤◌, true, cond, ◌≢◌, ◌++◌, is_some, IfSome, Some, None, Option}
use Rattle.std.proofs.Common.{sym, refl, ap, ◌∙◌, subst, arith, below_more}
use Rattle.shared_handle.proofs.Prelude
use Prelude.{AddsEvent, Block, ClearMember, ClearsWeakly, DeskNow, Empty, empty, Ending, ending}
use Prelude.{EndsInHand, Event, IsBeside, IsEnding, IsLeft, IsLegal, IsOfShape, IsSameDesk, KeepsOtherEndings}
use Prelude.{kind_of_member, Last, latest_of, leads, Leave, LeavesWeakly, Left, more_ending}
use Prelude.{NumberedHandle, Object, object_in, on_latest, opening_of, Others, Owner, Place, put}
use Prelude.{put_cases, with_clear, Shape, sound, State, state_of, still_ends, Weak}
use Rattle.control_word.specs.Events.{after, loses}
use Rattle.control_word.specs.declared.model.event.Cell.{Cell}
use Rattle.control_word.specs.declared.model.event.Event.TheVariants.{Swap}
use Rattle.control_block.proofs.Endings.{fills_latest, fills_phase, not_live}
use Rattle.control_block.specs.Clearing.{Empties, Lets}
use Rattle.control_block.specs.Desks.{IsCleared, member_in}
use Rattle.control_block.specs.Leaving.{IsReleasedBy}
use Rattle.control_block.specs.declared.released.Released.{Released}
use Rattle.shared_handle.specs.Endings.{IsApart, IsGone, IsLeftOf, IsUncleared}
use Rattle.shared_handle.proofs.Callers.{ends_still}

module _ {V : Type 0} where
  -- an owner that was the last had a live object, which isn't one that ended before
  pub apart : (d e : DeskNow V) (b c : ℕ) (p : Option Place) → (object_in d b).phase ≡ ending d.name
      → AddsEvent d (Leave (on_latest d Owner p c) true) e → b ≢ c
  apart d e b c p ends adds same =
      let z = opening_of d.shape in let h = on_latest d Owner p c in
      let legal = subst (IsLegal z) adds.seen adds.legal in
      let hist = adds.between ++ d.seen in
      let still = still_ends z adds.between d.seen b d.name legal.0 adds.quiet ends in
      let now : ((leads z hist).object ((leads z hist).latest b)).phase ≡ ending d.name =
      ap (λ o. ((leads z hist).object o).phase) still.latest ∙ (still.object.phase ∙ ends) in
      not_live z (leads z hist) b d.name (sound z hist legal.0) now h d.name legal.1.asks.0
      (still.latest ∙ ap (latest_of d) same)

  -- an object ends still after a call on which its block and its phase hang nowhere
  through : (d e : DeskNow V) (b : ℕ) (x : Event V) → ((s : State) → (after s d.name x).latest b ≡ s.latest b)
      → ((s : State) (o : ℕ) → ((after s d.name x).object o).phase ≡ (s.object o).phase)
      → (object_in d b).phase ≡ ending d.name → AddsEvent d x e → (object_in e b).phase ≡ ending e.name
  through d e b x block phase ends adds =
      let z = opening_of d.shape in
      let legal = subst (IsLegal z) adds.seen adds.legal in
      let s = leads z (adds.between ++ d.seen) in
      let still = still_ends z adds.between d.seen b d.name legal.0 adds.quiet ends in
      let now : state_of e ≡ after s d.name x = (λ i. leads (opening_of (adds.same.1 i)) (adds.seen i)) in
      ap (λ (u : State). (u.object (u.latest b)).phase) now
      ∙ (ap (λ o. ((after s d.name x).object o).phase) (block s ∙ still.latest)
      ∙ (phase s (latest_of d b) ∙ (still.object.phase ∙ (ends ∙ ap ending (sym adds.same.2)))))

  -- so after a clear of a member of any object
  pub ends_through_clear : (d e : DeskNow V) (b o m : ℕ) (h : NumberedHandle) → (object_in d b).phase ≡ ending d.name → AddsEvent d (ClearMember o m h) e
      → (object_in e b).phase ≡ ending e.name
  ends_through_clear d e b o m h = through d e b (ClearMember o m h) (λ s. refl)
      (λ s i. put_cases (λ j (y : Object). y.phase ≡ (s.object j).phase) s.object o
      (record (s.object o) { member = put (s.object o).member m (empty (kind_of_member s.owners m)) }) i
      (λ q. ap (λ j. (s.object j).phase) (sym q)) (λ n. refl))

  -- and after a handle went into a cell
  pub ends_through_swap : (d e : DeskNow V) (b : ℕ) (c : Cell) (new old : NumberedHandle) → (object_in d b).phase ≡ ending d.name
      → AddsEvent d (Swap c new old) e
      → (object_in e b).phase ≡ ending e.name
  ends_through_swap d e b c new old = through d e b (Swap c new old)
      (λ s. ap (λ (f : ℕ → ℕ). f b) (fills_latest (loses d.name new s) c new)) (λ s i. fills_phase (loses d.name new s) c new i)

  -- what ends by an owner's leave lies in no block in which something was ending in the desk's hands
  pub left_apart : (d e : DeskNow V) (h : Option Block) (p : Option Place) (left : Left V) → IsLeft d h p left e → IsApart d left
  left_apart d e h p Empty is b ends = _
  left_apart d e h p Others is b ends = _
  left_apart d e h p (Last x) is b ends = λ same. apart d e b x.block.0 p ends is.1 (sym same)

  -- an object that begins to end has no member cleared
  begins : (d : DeskNow V) (x : Ending V) → IsUncleared x → IsOfShape d.shape x → IsEnding d x.block.0 x.value → EndsInHand d x
  begins d x none shape ends =
      record { ends = ends; shape = shape; few = omega arith; cleared = λ m low. absurd (omega arith) }

  -- what came of an owner that left, by what it released
  pub left_of : (d e : DeskNow V) (h : Option Block) (p : Option Place) (r : Released V) (left : Left V) → Lets Owner d h p r e
      → IsLeftOf e.shape h r.value left → IsLeft d h p left e
  left_of d e h p r Empty lets is = let t = subst (λ q. Lets Owner d q p r e) is lets in (is, t.1)
  left_of d e h p r Others lets is =
      let t = subst (λ q. Lets Owner d q p r e) is.1 lets in
      (is.0, is.1, subst (λ (y : Option V). AddsEvent d (Leave (on_latest d Owner p is.0.0) (is_some y)) e) is.2 t.0)
  left_of d e h p r (Last x) lets is =
      let t = subst (λ q. Lets Owner d q p r e) is.0 lets in (
        is.0,
        subst (λ (y : Option V). AddsEvent d (Leave (on_latest d Owner p x.block.0) (is_some y)) e) is.1 t.0,
        begins e x is.2 is.3 (subst (λ (y : Option V). IfSome y (IsEnding e x.block.0)) is.1 t.2),
        is.2,
      )

  -- and how many more end for it
  pub more_of : (d e : DeskNow V) (h : Option Block) (p : Option Place) (r : Released V) (left : Left V) → Lets Owner d h p r e
      → IsLeftOf e.shape h r.value left → ◌≡◌ {A = ℕ} (cond (is_some r.value) 1 0) (more_ending left)
  more_of d e h p r Empty lets is =
      let t = subst (λ q. Lets Owner d q p r e) is lets in ap (λ (y : Released V). cond (is_some y.value) 1 0) t.0
  more_of d e h p r Others lets is = ap (λ (y : Option V). cond (is_some y) 1 0) is.2
  more_of d e h p r (Last x) lets is = ap (λ (y : Option V). cond (is_some y) 1 0) is.1

  -- the same of a weak handle
  pub weakly_of : (d e : DeskNow V) (h : Option Block) (p : Option Place) (r : Released V) → Lets Weak d h p r e → LeavesWeakly d h p r.vacant e
  weakly_of d e None p r lets = (lets.1, ap (λ (y : Released V). y.vacant) lets.0)
  weakly_of d e (Some c) p r lets = lets.0

  pub gone_of : (z : Shape) (h : Option Block) (r : Released V) (left : Left V) → IsReleasedBy Weak r → IsLeftOf z h r.value left → IsGone h left
  gone_of z h r Empty none is = is
  gone_of z h r Others none is = (is.0, is.1)
  gone_of z h r (Last x) none is = let e : ◌≡◌ {A = Option V} None (Some x.value) = sym none ∙ is.1 in absurd (cc e)

  -- what ends when a member is cleared lies in no such block either
  pub out_apart : (d e : DeskNow V) (b m : ℕ) (h : Option Block) (p : Option Place) (r : Released V) (left : Left V) → Empties Owner d b m h p r e
      → IsLeftOf e.shape h r.value left → IsApart d left
  out_apart d e b m h p r left out is k ends =
      left_apart out.between e h p left (left_of out.between e h p r left out.lets is) k
      (ends_through_clear d out.between k _ m _ ends out.takes.event)

  -- and a weak pointer was no owner
  pub weak_beside : (d e : DeskNow V) (x : Ending V) (m : ℕ) (left : Left V) → ClearsWeakly d x m left e → (b : ℕ) → IsBeside b left
  weak_beside d e x m Empty clears b = _
  weak_beside d e x m Others clears b = _
  weak_beside d e x m (Last y) clears b = absurd clears.told

  pub weak_none : (d e : DeskNow V) (x : Ending V) (m : ℕ) (left : Left V) → ClearsWeakly d x m left e → ◌≡◌ {A = ℕ} (more_ending left) 0
  weak_none d e x m Empty clears = refl
  weak_none d e x m Others clears = refl
  weak_none d e x m (Last y) clears = absurd clears.told

  -- what ends beside another ends still, whatever becomes of the other
  pub ends_beside : (d e : DeskNow V) (x : Ending V) (b : ℕ) → KeepsOtherEndings d b e → x.block.0 ≢ b → EndsInHand d x → EndsInHand e x
  ends_beside d e x b keeps other h =
      ends_still d e x (keeps x.block.0 x.value other h.ends) h

  -- what is cleared stays so when the next member is emptied, and that one is cleared then
  pub cleared_still : (d e : DeskNow V) (x : Ending V) → EndsInHand d x → IsSameDesk d e → IsEnding e x.block.0 x.value
      → ((m : ℕ) → m ≢ x.cleared → member_in e x.block.0 m ≡ member_in d x.block.0 m) → EndsInHand e x
  cleared_still d e x h desk ends kept =
      record {
        ends = ends;
        shape = subst (λ (z : Shape). IsOfShape z x) (sym desk.shape) h.shape;
        few = h.few;
        cleared = λ m low. kept m (λ is. omega arith)
            ∙ (h.cleared m low ∙ ap (λ (z : Shape). empty (kind_of_member z.owners m)) (sym desk.shape));
      }

  pub one_more : (e : DeskNow V) (x : Ending V) → EndsInHand e x → x.cleared < x.members → IsCleared e x.block.0 x.cleared
      → EndsInHand e (with_clear x)
  one_more e x h some one =
      record {
        ends = h.ends;
        shape = h.shape;
        few = omega arith;
        cleared = below_more (IsCleared e x.block.0) x.cleared h.cleared one;
      }

  -- the same, of what it came out of
  pub ends_around : (d e : DeskNow V) (x : Ending V) (b : ℕ) → KeepsOtherEndings d b e → b ≢ x.block.0 → EndsInHand d x → EndsInHand e x
  ends_around d e x b keeps other h = ends_beside d e x b keeps (λ same. other (sym same)) h

  -- two calls on one ending, one after the other
  pub others_kept : (d e f : DeskNow V) (b : ℕ) → KeepsOtherEndings d b e → KeepsOtherEndings e b f → KeepsOtherEndings d b f
  others_kept d e f b first then c x other ends =
      let s = first c x other ends in let t = then c x other s.ends in
      record { ends = t.ends; shape = t.shape ∙ s.shape; members = λ m. t.members m ∙ s.members m }
