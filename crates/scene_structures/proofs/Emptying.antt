-- What a cleared member, a weak handle that leaves and a finish make of the trees on a pile.
use Rattle.std.proofs.Common.{◌≡◌, ℕ, ◌<◌, Bool, ◌≢◌, List, [], ◌∷◌, Some, None, Option, sym, refl}
use Rattle.std.proofs.Common.{ap, ◌∙◌, subst, ⊎_elim, arith}
use Rattle.scene_structures.proofs.Prelude
use Prelude.{AddsEvent, bare, Block, ClearMember, clears, DeskNow, empty, ending, Finish, finishes}
use Prelude.{cases_eq, gone, Has, held, IsTree, kind_of_member, latest_of, LeavesWeakly, live}
use Prelude.{moved_to, NumberedHandle, Object, on_latest, Opening, opening_of, Place, put}
use Prelude.{put_other, put_same, Sound, sound, State, state_of, Tree, Weak, weak_leaves}
use Prelude.{WeakLeave, with_clear}
use Rattle.scene_structures.specs.Trees.{HoldsNoMore}
use Rattle.scene_structures.proofs.Standing.{IsAlone}
use Rattle.scene_structures.proofs.Trees.{clear_member, finish_member, tree_cleared, tree_finished}
use Rattle.scene_structures.proofs.Trees.{tree_weakly}
use Rattle.scene_structures.proofs.Pending.{Frame, Pends, Pend, pends_map, value_of, steps}

module _ {V : Type 0} where
  -- a member of the top went out
  pub record Empties (s t : State) (f : Frame V) (fs : List (Frame V)) (m : ℕ) (h : NumberedHandle) : Type 0 where
    pub held : h ≡ (s.object f.object).member m
    pub tree : (x : NumberedHandle) (tree : Tree) → IsTree s x tree → IsTree t x tree
    pub member : (j : ℕ) → j ≢ m → (t.object f.object).member j ≡ (s.object f.object).member j
    pub none : ((t.object f.object).member m).object ≡ None
    pub phase : (t.object f.object).phase ≡ (s.object f.object).phase
    pub latest : t.latest ≡ s.latest
    pub owners : t.owners ≡ s.owners
    pub rest : Pend t fs

  pub empties : (z : Opening) (s : State) (d m : ℕ) (h : NumberedHandle) (f : Frame V) (fs : List (Frame V)) → Sound z s
      → (s.object f.object).phase ≡ ending d → m < 9
      → h ≡ (s.object f.object).member m → Pend s (f ∷ fs) → Empties s (clears d f.object m h s) f fs m h
  empties z s d m h f fs fine ends lt was pend =
      record {
        held = was;
        tree = trees;
        member = λ j ne. clear_member s d f.object m h f.object j (λ e. ne);
        none = ap (λ (y : Object). (y.member m).object) now ∙ ap (λ (y : NumberedHandle). y.object)
            (put_same x.member m (empty (kind_of_member s.owners m)) m refl);
        phase = ap (λ (y : Object). y.phase) now;
        latest = refl;
        owners = refl;
        rest = pends_map s t f.object others fs pend.1 pend.2;
      }
    where
      x : Object
      x = s.object f.object

      t : State
      t = clears d f.object m h s

      now : t.object f.object ≡ record x { member = put x.member m (empty (kind_of_member s.owners m)) }
      now = put_same s.object f.object (record x { member = put x.member m (empty (kind_of_member s.owners m)) }) f.object refl

      trees : (y : NumberedHandle) (tree : Tree) → IsTree s y tree → IsTree t y tree
      trees y tree is = subst (λ k. IsTree (clears d f.object m k s) y tree) (sym was) (tree_cleared z s d f.object m fine ends lt y tree is)

      others : (g : Frame V) → g.object ≢ f.object → Pends s g → Pends t g
      others g ne pd =
          record {
            is = pd.is;
            ends = λ e. pd.ends (sym (ap (λ (y : Object). y.phase)
                (put_other s.object f.object (record x { member = put x.member m (empty (kind_of_member s.owners m)) }) g.object ne)) ∙ e);
            first = subst (λ k. IsTree t k g.first) (sym (clear_member s d f.object m h g.object 0 (λ e. absurd (ne e)))) (trees _ g.first pd.first);
            next = subst (λ k. IsTree t k g.next) (sym (clear_member s d f.object m h g.object 1 (λ e. absurd (ne e)))) (trees _ g.next pd.next);
            no_first = pd.no_first;
            no_next = pd.no_next;
            no_more = λ j lt le.
                ap (λ (y : NumberedHandle). y.object) (clear_member s d f.object m h g.object j (λ e. absurd (ne e))) ∙ pd.no_more j lt le;
            many = pd.many;
          }

  pub emptied : (d e : DeskNow V) (m : ℕ) (h : NumberedHandle) (f : Frame V) (fs : List (Frame V))
      → AddsEvent d (ClearMember (latest_of d f.top.block.0) m h) e → IsAlone d
      → Pend (state_of d) (f ∷ fs) → Empties (state_of d) (state_of e) f fs m h × (value_of e ≡ value_of d)
  emptied d e m h f fs adds a pend =
      let st = steps d e (ClearMember (latest_of d f.top.block.0) m h) adds a in
      let at : latest_of d f.top.block.0 ≡ f.object = pend.0.is in
      let fine = sound (opening_of d.shape) d.seen a.legal in
      let asks = st.asks in
      let s = state_of d in (
        subst (λ t. Empties s t f fs m h) (sym (st.state ∙ ap (λ k. clears d.name k m h s) at))
            (empties (opening_of d.shape) s d.name m h f fs fine (ap (λ k. (s.object k).phase) (sym at) ∙ asks.0)
            (let t = asks.1 in let u = fine.few in omega (arith, t, u))
            (asks.2 ∙ ap (λ k. (s.object k).member m) at) pend),
        st.values,
      )

  -- what is left of the top then
  abbrev pub without_first : Frame V → Frame V
  without_first f = record { top = with_clear f.top; object = f.object; first = bare; next = f.next }

  abbrev pub without_next : Frame V → Frame V
  without_next f = record { top = with_clear f.top; object = f.object; first = bare; next = bare }

  -- once a further member, or `up`, is cleared
  abbrev pub without_other : Frame V → Frame V
  without_other f = record { top = with_clear f.top; object = f.object; first = f.first; next = f.next }

  pub ends_still : (s t : State) (f : Frame V) (fs : List (Frame V)) (m : ℕ) (h : NumberedHandle) → Empties s t f fs m h → Pends s f
      → (t.object f.object).phase ≢ live
  ends_still s t f fs m h em pd e = pd.ends (sym em.phase ∙ e)

  -- the further members own nothing, whichever was cleared
  no_more_still : (s t : State) (f : Frame V) (fs : List (Frame V)) (m : ℕ) (h : NumberedHandle) → Empties s t f fs m h → Pends s f
      → HoldsNoMore t f.object
  no_more_still s t f fs m h em pd j lt le =
      ⊎_elim (λ (e : j ≡ m). ap (λ (i : ℕ). ((t.object f.object).member i).object) e ∙ em.none)
      (λ (ne : j ≢ m). ap (λ (y : NumberedHandle). y.object) (em.member j ne)
      ∙ pd.no_more j lt (let o = em.owners in omega (arith, le, o)))
      (cases_eq j m)

  pub first_pends : (s t : State) (f : Frame V) (fs : List (Frame V)) (h : NumberedHandle) → f.top.cleared ≡ 0 → Empties s t f fs 0 h
      → Pend s (f ∷ fs) → Pend t (without_first f ∷ fs)
  first_pends s t f fs h at em pend = (
    record {
      is = ap (λ l. l f.top.block.0) em.latest ∙ pend.0.is;
      ends = ends_still s t f fs 0 h em pend.0;
      first = em.none;
      next = subst (λ k. IsTree t k f.next) (sym (em.member 1 (λ e. absurd (omega arith)))) (em.tree _ f.next pend.0.next);
      no_first = λ lt. refl;
      no_next = λ lt. absurd (omega (arith, lt, at));
      no_more = no_more_still s t f fs 0 h em pend.0;
      many = pend.0.many;
    },
    pend.1,
    em.rest,
  )

  pub next_pends : (s t : State) (f : Frame V) (fs : List (Frame V)) (h : NumberedHandle) → f.first ≡ bare → Empties s t f fs 1 h → Pend s (f ∷ fs)
      → Pend t (without_next f ∷ fs)
  next_pends s t f fs h nothing em pend = (
    record {
      is = ap (λ l. l f.top.block.0) em.latest ∙ pend.0.is;
      ends = ends_still s t f fs 1 h em pend.0;
      first = subst (λ k. IsTree t k bare) (sym (em.member 0 (λ e. absurd (omega arith))))
          (subst (IsTree s ((s.object f.object).member 0)) nothing pend.0.first);
      next = em.none;
      no_first = λ lt. refl;
      no_next = λ lt. refl;
      no_more = no_more_still s t f fs 1 h em pend.0;
      many = pend.0.many;
    },
    pend.1,
    em.rest,
  )

  pub other_pends : (s t : State) (f : Frame V) (fs : List (Frame V)) (m : ℕ) (h : NumberedHandle) → 1 < m → f.top.cleared ≡ m
      → Empties s t f fs m h → Pend s (f ∷ fs) → Pend t (without_other f ∷ fs)
  other_pends s t f fs m h far at em pend = (
    record {
      is = ap (λ l. l f.top.block.0) em.latest ∙ pend.0.is;
      ends = ends_still s t f fs m h em pend.0;
      first = subst (λ k. IsTree t k f.first) (sym (em.member 0 (λ e. absurd (omega (arith, far, e))))) (em.tree _ f.first pend.0.first);
      next = subst (λ k. IsTree t k f.next) (sym (em.member 1 (λ e. absurd (omega (arith, far, e))))) (em.tree _ f.next pend.0.next);
      no_first = λ lt. pend.0.no_first (omega (arith, far, at));
      no_next = λ lt. pend.0.no_next (omega (arith, far, at));
      no_more = no_more_still s t f fs m h em pend.0;
      many = pend.0.many;
    },
    pend.1,
    em.rest,
  )

  -- a weak handle left
  pub weakly : (d e : DeskNow V) (b : Option Block) (p : Option Place) (vacant : Bool) (fs : List (Frame V)) → LeavesWeakly d b p vacant e → IsAlone d
      → Pend (state_of d) fs → Pend (state_of e) fs × (value_of e ≡ value_of d)
  weakly d e None p vacant fs l a pend = (subst (λ (k : DeskNow V). Pend (state_of k) fs) (sym l.0) pend, ap value_of l.0)
  weakly d e (Some c) p vacant fs l a pend =
      let st = steps d e (WeakLeave (on_latest d Weak p c.0) vacant) l a in (
        subst (λ t. Pend t fs) (sym st.state) (all fs pend st.asks.0.0),
        st.values,
      )
    where
      s : State
      s = state_of d

      h : NumberedHandle
      h = on_latest d Weak p c.0

      t : State
      t = weak_leaves d.name h vacant s

      all : (fs : List (Frame V)) → Pend s fs → Has (held d.name h) s.hands → Pend t fs
      all [] pend has = tt
      all (f ∷ fs) (pd, apart, rest) has = (
        record {
          is = pd.is;
          ends = pd.ends;
          first = tree_weakly s d.name (latest_of d c.0) p vacant has _ f.first pd.first;
          next = tree_weakly s d.name (latest_of d c.0) p vacant has _ f.next pd.next;
          no_first = pd.no_first;
          no_next = pd.no_next;
          no_more = pd.no_more;
          many = pd.many;
        },
        apart,
        all fs rest has,
      )

  -- an object was finished
  pub finished : (d e : DeskNow V) (vacant : Bool) (v : V) (f : Frame V) (fs : List (Frame V))
      → AddsEvent d (Finish (latest_of d f.top.block.0) vacant v) e → IsAlone d
      → Pend (state_of d) (f ∷ fs) → Pend (state_of e) fs × (value_of e ≡ value_of d)
  finished d e vacant v f fs adds a pend =
      let st = steps d e (Finish (latest_of d f.top.block.0) vacant v) adds a in (
        subst (λ t. Pend t fs) (sym (st.state ∙ ap (λ k. finishes d.name k vacant s) pend.0.is)) (pends_map s t f.object others fs pend.1 pend.2),
        st.values,
      )
    where
      s : State
      s = state_of d

      t : State
      t = finishes d.name f.object vacant s

      others : (g : Frame V) → g.object ≢ f.object → Pends s g → Pends t g
      others g ne pd =
          record {
            is = pd.is;
            ends = λ e. pd.ends (sym (ap (λ (y : Object). y.phase)
                (put_other s.object f.object (moved_to gone (s.object f.object)) g.object ne)) ∙ e);
            first = subst (λ k. IsTree t k g.first) (sym (finish_member s d.name f.object vacant g.object 0))
                (tree_finished s d.name f.object vacant _ g.first pd.first);
            next = subst (λ k. IsTree t k g.next) (sym (finish_member s d.name f.object vacant g.object 1))
                (tree_finished s d.name f.object vacant _ g.next pd.next);
            no_first = pd.no_first;
            no_next = pd.no_next;
            no_more = λ j lt le.
                ap (λ (y : NumberedHandle). y.object) (finish_member s d.name f.object vacant g.object j) ∙ pd.no_more j lt le;
            many = pd.many;
          }
