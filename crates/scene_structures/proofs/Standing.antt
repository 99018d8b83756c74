-- How many objects live or end, each in a block of its own, where a desk is alone.
use Rattle.std.proofs.Common.{◌≡◌, ℕ, suc, ◌+◌, ◌-◌, ◌<◌, ◌≤◌, Bool, cond, [], ◌∷◌, ◌==◌, Some}
use Rattle.std.proofs.Common.{None, Option, sym, refl, ap, ◌∙◌, subst, arith}
use Rattle.scene_structures.proofs.Prelude
use Prelude.{AddsEvent, after, All-cons, All-nil, Asks, Block, ClearMember, ClearsMember}
use Prelude.{comes_next, common, cond_both, counting, DeskNow, Ending, ending, Event, Finish}
use Prelude.{goes_by_call, gone, Holds, IsClearing, IsFinish, IsLeft, IsLegal, IsSole}
use Prelude.{KeepsDesks, Kind, kind_of_member, leads, Leave, leaves, LeavesWeakly, Left, live, moved_to}
use Prelude.{NumberedHandle, Object, object_of, Opening, opening_of, Owner, Phase, Place, put}
use Prelude.{put_other, put_same, Shape, Sound, sound, State, state_of, sum_below, sum_ones}
use Prelude.{unmade, Weak, WeakLeave}
use Rattle.control_word.proofs.lists.Sums.{sum_le}
use Rattle.control_word.proofs.words.Banks.{sum_all, sum_set}
use Rattle.control_block.proofs.Endings.{owner_lives}
use Rattle.control_block.proofs.Passage.{IsQuiet, quiet_clear}
use Rattle.control_block.specs.Desks.{ends_with, many_ending}
use Rattle.shared_handle.specs.Endings.{ClearsOf, ClearsWeakly}
use Rattle.shared_handle.specs.declared.endings.Left.TheVariants as left
use Rattle.scene_structures.proofs.Sole.{sole_is}

abbrev pub many_standing : ℕ → State → ℕ
many_standing blocks s = sum_below blocks (λ j. common (s.object (s.latest (suc j))).phase)

common_once : (p : Phase) → common p ≤ 1
common_once unmade = omega arith
common_once live = omega arith
common_once gone = omega arith
common_once (ending d) = omega arith

ends_stands : (n : ℕ) (p : Phase) → ends_with n p ≤ common p
ends_stands n unmade = omega arith
ends_stands n live = omega arith
ends_stands n gone = omega arith
ends_stands n (ending d) = cond_both (d == n) 1 0 (λ x. x ≤ 1) (λ _. omega arith) (λ _. omega arith)

pub few_stand : (blocks : ℕ) (s : State) → many_standing blocks s ≤ blocks
few_stand blocks s = sum_ones blocks (λ j. common (s.object (s.latest (suc j))).phase) (λ j. common_once (s.object (s.latest (suc j))).phase)

pub endings_stand : (blocks : ℕ) (s : State) (n : ℕ) → many_ending blocks s n ≤ many_standing blocks s
endings_stand blocks s n =
    sum_le blocks (λ j. ends_with n (s.object (s.latest (suc j))).phase) (λ j. common (s.object (s.latest (suc j))).phase)
    (λ j. ends_stands n (s.object (s.latest (suc j))).phase)

live_unmade : live ≡ unmade → ⊥
live_unmade e = cc

ends_unmade : (d : ℕ) → ending d ≡ unmade → ⊥
ends_unmade d e = cc

-- a latest object tells its block
in_its_block : (z : Opening) (s : State) (o b : ℕ) → Sound z s → ((s.object o).phase ≡ unmade → ⊥) → s.latest b ≡ o → (s.object o).block ≡ b
in_its_block z s o b fine there is =
    ap (λ i. (s.object i).block) (sym is)
    ∙ fine.latest_in b (λ e. there (ap (λ i. (s.object i).phase) (sym is ∙ e) ∙ fine.none))

module _ (z : Opening) (s : State) (fine : Sound z s) where
  -- one object's phase changes
  one_changes : (o : ℕ) (x : Object) → ((s.object o).phase ≡ unmade → ⊥) → 0 < common (s.object o).phase
      → (t : State) → t.object ≡ put s.object o x → t.latest ≡ s.latest
      → many_standing z.blocks t + common (s.object o).phase ≡ many_standing z.blocks s + common x.phase
  one_changes o x there busy t objects latest =
      let b = (s.object o).block in
      let place = fine.placed o (let k = busy in omega arith) in let inside = place.1 in let low = inside.0 in
      let f : ℕ → ℕ = λ j. common (s.object (s.latest (suc j))).phase in
      let g : ℕ → ℕ = λ j. common (put s.object o x (s.latest (suc j))).phase in
      let p : suc (b - 1) ≡ b = omega arith in
      let at : s.latest (suc (b - 1)) ≡ o = ap s.latest p ∙ place.0 in
      let t0 = sum_set z.blocks (b - 1) f g (omega arith)
      (λ j lt ne. ap (λ (y : Object). common y.phase) (put_other s.object o x (s.latest (suc j))
      (λ is. let e = in_its_block z s o (suc j) fine there is in ne (omega arith)))) in
      let a : f (b - 1) ≡ common (s.object o).phase = ap (λ i. common (s.object i).phase) at in
      let c : g (b - 1) ≡ common x.phase =
      ap (λ i. common (put s.object o x i).phase) at ∙ ap (λ (y : Object). common y.phase) (put_same s.object o x o refl) in
      let same : many_standing z.blocks t ≡ sum_below z.blocks g =
      λ i. sum_below z.blocks (λ j. common ((objects i) ((latest i) (suc j))).phase) in
      omega arith

  leave_stands : (d : ℕ) (h : NumberedHandle) (last : Bool) → Holds s d Owner h → many_standing z.blocks (leaves d h last s) ≡ many_standing z.blocks s
  leave_stands d h last asks =
      let o = object_of h in let x = s.object o in let alive = owner_lives z s d h fine asks in
      let y = cond last (moved_to (ending d) x) x in
      let t = one_changes o y (λ e. live_unmade (sym alive ∙ e)) (let k = ap common alive in omega arith) (leaves d h last s) refl refl in
      let a : common x.phase ≡ 1 = ap common alive in
      let b : common y.phase ≡ 1 = cond_both last (moved_to (ending d) x) x (λ u. common u.phase ≡ 1) (λ e. refl) (λ e. a) in
      omega arith

module _ {V : Type 0} where
  finish_stands : (z : Opening) (s : State) (d : ℕ) → Sound z s → (o : ℕ) (vacant : Bool) (v : V) → Asks s d (Finish o vacant v)
      → many_standing z.blocks (after s d (Finish o vacant v)) + 1 ≡ many_standing z.blocks s
  finish_stands z s d fine o vacant v asks =
      let x = s.object o in
      let t = one_changes z s fine o (moved_to gone x) (λ e. ends_unmade d (sym asks.0 ∙ e)) (let k = ap common asks.0 in omega arith)
      (after s d (Finish o vacant v)) refl refl in
      let a : common x.phase ≡ 1 = ap common asks.0 in
      omega arith

  clear_stands : (blocks : ℕ) (s : State) (d : ℕ) (x : Event V) → IsQuiet x → many_standing blocks (after s d x) ≡ many_standing blocks s
  clear_stands blocks s d x q =
      sum_all blocks (λ j. common (s.object (s.latest (suc j))).phase) (λ j. common ((after s d x).object ((after s d x).latest (suc j))).phase)
      (λ j lt. ap (λ i. common ((after s d x).object i).phase) (ap (λ (f : ℕ → ℕ). f (suc j)) (q.latest s d))
      ∙ ap common (q.phases s d (s.latest (suc j))))

  abbrev pub standing : DeskNow V → ℕ
  standing d = many_standing d.shape.blocks (state_of d)

  -- the desk is the only one, and has seen what may be
  pub record IsAlone (d : DeskNow V) : Type 0 where
    pub legal : IsLegal (opening_of d.shape) d.seen
    pub sole : IsSole d

  -- the desk is alone still, and so many objects fewer live or end
  pub record Loses (d : DeskNow V) (k : ℕ) (e : DeskNow V) : Type 0 where
    pub alone : IsAlone e
    pub shape : e.shape ≡ d.shape
    pub fewer : standing e + k ≡ standing d

  pub loses_both : (d m e : DeskNow V) (j k : ℕ) → Loses d j m → Loses m k e → Loses d (j + k) e
  loses_both d m e j k a b =
      let x = a.fewer in let y = b.fewer in record { alone = b.alone; shape = b.shape ∙ a.shape; fewer = omega arith }

  by_event : (d e : DeskNow V) (x : Event V) (k : ℕ) → AddsEvent d x e → KeepsDesks x → IsAlone d
      → (Asks (state_of d) d.name x → many_standing d.shape.blocks (after (state_of d) d.name x) + k ≡ standing d) → Loses d k e
  by_event d e x k adds keep a step =
      let z = opening_of d.shape in
      let next = comes_next d x e adds a.sole in
      let may = subst (IsLegal z) next adds.legal in
      let now : standing e ≡ many_standing d.shape.blocks (after (state_of d) d.name x) =
      λ i. many_standing (adds.same.1 i).blocks (leads (opening_of (adds.same.1 i)) (next i)) in
      let fewer = step may.1.asks in
      record {
        alone = record {
          legal = subst (λ (y : Shape). IsLegal (opening_of y) e.seen) (sym adds.same.1) adds.legal;
          sole = sole_is d e (x ∷ []) (goes_by_call d x e adds) (All-cons KeepsDesks x [] keep (All-nil KeepsDesks)) a.legal a.sole;
        };
        shape = adds.same.1;
        fewer = omega arith;
      }

  by_counting : (d e : DeskNow V) (n : ℕ) → e ≡ counting n d → IsAlone d → Loses d 0 e
  by_counting d e n is a =
      subst (Loses d 0) (sym is) (record { alone = record { legal = a.legal; sole = a.sole }; shape = refl; fewer = omega arith })

  by_leave : (d e : DeskNow V) (h : NumberedHandle) (last : Bool) → AddsEvent d (Leave h last) e → IsAlone d → Loses d 0 e
  by_leave d e h last adds a =
      by_event d e (Leave h last) 0 adds tt a
      (λ asks. let t = leave_stands (opening_of d.shape) (state_of d) (sound (opening_of d.shape) d.seen a.legal) d.name h last asks.0 in omega arith)

  pub left_loses : (d e : DeskNow V) (b : Option Block) (p : Option Place) (l : Left V) → IsLeft d b p l e → IsAlone d → Loses d 0 e
  left_loses d e b p left.Empty l a = by_counting d e _ l.1 a
  left_loses d e b p left.Others l a = by_leave d e _ _ l.2 a
  left_loses d e b p (left.Last x) l a = by_leave d e _ _ l.1 a

  weak_loses : (d e : DeskNow V) (b : Option Block) (p : Option Place) (vacant : Bool) → LeavesWeakly d b p vacant e → IsAlone d → Loses d 0 e
  weak_loses d e None p vacant l a = by_counting d e _ l.0 a
  weak_loses d e (Some c) p vacant l a = by_event d e (WeakLeave _ vacant) 0 l tt a (λ asks. omega arith)

  pub takes_loses : (d e : DeskNow V) (o m : ℕ) (h : NumberedHandle) → AddsEvent d (ClearMember o m h) e → IsAlone d → Loses d 0 e
  takes_loses d e o m h adds a =
      by_event d e (ClearMember o m h) 0 adds tt a
      (λ asks. let t = clear_stands d.shape.blocks (state_of d) d.name (ClearMember o m h) (quiet_clear o m h) in omega arith)

  clears_loses : (d e : DeskNow V) (x : Ending V) (m : ℕ) (l : Left V) → ClearsMember d x m l e → IsAlone d → Loses d 0 e
  clears_loses d e x m l c a =
      let t = takes_loses d c.between _ m _ c.takes.event a in
      loses_both d c.between e 0 0 t (left_loses c.between e c.block c.place l c.leaves t.alone)

  weakly_loses : (d e : DeskNow V) (x : Ending V) (m : ℕ) (l : Left V) → ClearsWeakly d x m l e → IsAlone d → Loses d 0 e
  weakly_loses d e x m l c a =
      let t = takes_loses d c.between _ m _ c.takes.event a in
      loses_both d c.between e 0 0 t (weak_loses c.between e c.block c.place c.vacant c.leaves t.alone)

  pub clearing_loses : (d e : DeskNow V) (x : Ending V) (l : Left V) → IsClearing d x l e → IsAlone d → Loses d 0 e
  clearing_loses d e x l c a = go (kind_of_member d.shape.owners x.cleared) c
    where
      go : (k : Kind) → ClearsOf k d x x.cleared l e → Loses d 0 e
      go Owner c = clears_loses d e x x.cleared l c.0 a
      go Weak c = weakly_loses d e x x.cleared l c a

  pub finish_loses : (d e : DeskNow V) (x : Ending V) (v : V) → IsFinish d x v e → IsAlone d → Loses d 1 e
  finish_loses d e x v f a =
      by_event d e (Finish _ f.vacant v) 1 f.event tt a
      (λ asks. finish_stands (opening_of d.shape) (state_of d) d.name (sound (opening_of d.shape) d.seen a.legal) _ f.vacant v asks)
