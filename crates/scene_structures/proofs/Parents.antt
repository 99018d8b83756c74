-- A look for a node's parent.
use Rattle.std.proofs.Common.{◌≡◌, ℕ, Bool, true, false, cond, not, [], ◌∷◌, is_some, ◌==◌, Some}
use Rattle.std.proofs.Common.{None, Ok, Option, sym, refl, ap, ◌∙◌, subst, arith}
use Rattle.scene_structures.proofs.Prelude
use Prelude.{AddsEvent, bag_of, Block, calls_keep_latest, Cell, cell_of, comes_next, cond-false}
use Prelude.{cond-true, DeskNow, does_one, empty, Event, handle, handle_in, Has, HoldsHandle}
use Prelude.{in_cells, in_no_cell, IsLegal, IsMember, IsOwnerOf, IsParent, IsSole, KeepsLatest}
use Prelude.{latest_of, leads, LeavesWeakly, Load, LocksHandle, LocksUp, Member, node_in}
use Prelude.{NumberedHandle, object_of, opening_of, Owner, owner, owner_of, Place, PutsOnly}
use Prelude.{Shared, State, state_of, tally, Weak, weak_cell, WeakAt, with_handle}
use Rattle.control_word.proofs.history.Clearing.{gets_tally}
use Rattle.control_word.specs.Events.{gets}
use Rattle.control_word.specs.State.{count}
use Rattle.control_block.specs.LockCalls.{state_before}
use Rattle.control_block.specs.LockStepKinds.{earlier}
use Rattle.atomic_cells.specs.Cells.{Loads}
use Rattle.atomic_cells.specs.declared.sites.WeakSite.TheVariants as site
use Rattle.scene_structures.proofs.Alone.{sole_on}
use Rattle.scene_structures.proofs.Calls.{got_lists}
use Rattle.scene_structures.proofs.Latest.{has_over, weak_latest}
use Rattle.scene_structures.proofs.Pushes.{same_node, shares_does}

-- a weak handle that a desk gets changes no count of owners
weak_counts : (s : State) (d q : ℕ) (n : Option ℕ) (p : Option Place) → count (gets d (handle Weak n p) s) q ≡ count s q
unfolding count
weak_counts s d q n p =
    let none : tally Owner q (handle Weak n p ∷ []) ≡ 0 = refl in
    omega (arith, gets_tally Owner q d (handle Weak n p) s.hands (in_cells s))

module _ {V : Type 0} where
  -- what a sole desk loads is what it has seen there
  pub looked_up : (d m : DeskNow V) (c : Cell) (h : NumberedHandle) → AddsEvent d (Load c h) m → IsLegal (opening_of d.shape) d.seen → IsSole d
      → (h ≡ cell_of (state_of d) c) × (state_of m ≡ gets d.name h (state_of d))
  looked_up d m c h loads legal sole =
      let z = opening_of d.shape in
      let next = comes_next d (Load c h) m loads sole in
      ((subst (IsLegal z) next loads.legal).1.asks.1, (λ i. leads (opening_of (loads.same.1 i)) (next i)))

  pub locks_up : (d m n e : DeskNow V) (node h : Shared) (at : WeakAt) (b : Option Block) (p : Option Place) (v : Bool)
      → IsMember (λ c (x : WeakAt). x.site ≡ site.Up c) node.block node.place (Ok at) → Loads d (weak_cell d at.site) Weak b p m
      → LocksHandle m b p (is_some h.block) n → IsOwnerOf b p (is_some h.block) h → bag_of n ≡ with_handle Owner h.block h.place (bag_of m)
      → LeavesWeakly n b p v e → LocksUp d (object_of (node_in d node)) h e
  locks_up d m n e node h at b p v (q, place, block, is) loads locks owned bag leaves =
      let cell : weak_cell d at.site ≡ Member (object_of (node_in d node)) 2 =
      ap (weak_cell d) is ∙ ap (λ (k : Option Block). Member (object_of (handle_in d Owner k node.place)) 2) (sym block) in
      record {
        block = b;
        place = p;
        loaded = m;
        loads = subst (λ (c : Cell). Loads d c Weak b p m) cell loads;
        locked = n;
        locks = locks;
        is = owned;
        same = same_node n e h (weak_latest n e b p v leaves) (got_lists m n h bag);
        vacant = v;
        leaves = leaves;
      }

  -- what the desk has is on the object that it was on
  lock_latest : (d e : DeskNow V) (b : Option Block) (p : Option Place) (got : Bool) → LocksHandle d b p got e → KeepsLatest d e
  lock_latest d e None p got is = (shares_does in_no_cell d e None p p is.1).1
  lock_latest d e (Some b) p got is = calls_keep_latest d _ e is.0

  pub climb_latest : (d m n e : DeskNow V) (x : Event V) (b hb : Option Block) (p hp : Option Place) (got v : Bool) → AddsEvent d x m
      → bag_of m ≡ with_handle Weak b p (bag_of d) → LocksHandle m b p got n → bag_of n ≡ with_handle Owner hb hp (bag_of m)
      → LeavesWeakly n b p v e
      → KeepsLatest d e
  climb_latest d m n e x b hb p hp got v loads bag_m locks bag_n leaves k q c has =
      let h = handle k (Some c) q in
      let in_m : Has h (bag_of m) = subst (Has h) (sym bag_m) (has_over Weak b p h (bag_of d) has) in
      let in_n : Has h (bag_of n) = subst (Has h) (sym bag_n) (has_over Owner hb hp h (bag_of m) in_m) in
      weak_latest n e b p v leaves k q c in_n ∙ (lock_latest m n b p got locks k q c in_m ∙ calls_keep_latest d x m loads k q c has)

  -- on a sole desk
  parent_is : (d e : DeskNow V) (o : ℕ) (h : Shared) (a : LocksUp d o h e) → IsLegal (opening_of d.shape) d.seen → IsSole d
      → HoldsHandle a.loaded Weak a.block a.place → IsParent d o h e
  parent_is d e o h a legal sole holds = go a.block a.place holds a.loads a.locks a.is
    where
      s : State
      s = state_of d

      up : NumberedHandle
      up = (s.object o).member 2

      none : h.block ≡ None → h.place ≡ None → node_in e h ≡ empty Owner
      none block place = λ i. handle_in e Owner (block i) (place i)

      go : (b : Option Block) (p : Option Place) → HoldsHandle a.loaded Weak b p → Loads d (Member o 2) Weak b p a.loaded
          → LocksHandle a.loaded b p (is_some h.block) a.locked → IsOwnerOf b p (is_some h.block) h → node_in e h ≡ owner_of s up
      go None p held loads locks is =
          let look = (looked_up d a.loaded (Member o 2) _ loads legal sole).0 in
          let gone = subst (λ g. IsOwnerOf None p g h) locks.0 is in
          none gone.0 gone.1 ∙ ap (owner_of s) look
      go (Some b) p held loads locks is =
          let m = a.loaded in let n = a.locked in let q = latest_of m b.0 in
          let look = looked_up d m (Member o 2) _ loads legal sole in
          let sole_m = sole_on in_no_cell d m (does_one (PutsOnly in_no_cell) d m _ loads tt) legal sole in
          let next = comes_next m _ n locks.0 sole_m in
          let before : state_before n ≡ state_of m = λ i. leads (opening_of (locks.0.same.1 i)) (earlier (next i)) in
          let owners : count (state_before n) q ≡ count s q =
          ap (λ (t : State). count t q) (before ∙ look.1) ∙ weak_counts s d.name q (Some q) p in
          let told : is_some h.block ≡ not (count s q == 0) = locks.1 ∙ ap (λ k. not (k == 0)) owners in
          let kept : latest_of n b.0 ≡ q = calls_keep_latest m _ n locks.0 Weak p b.0 held in
          last b p q kept (is_some h.block) (count s q == 0) told refl is ∙ ap (owner_of s) look.0
        where
          last : (b : Block) (p : Option Place) (q : ℕ) → latest_of a.locked b.0 ≡ q → (got x : Bool) → got ≡ not x → (count s q == 0) ≡ x
              → IsOwnerOf (Some b) p got h → node_in e h ≡ cond (count s q == 0) (empty Owner) (owner q p)
          last b p q kept true false told is' (block, place) =
              a.same ∙ ((λ i. handle_in a.locked Owner (block i) (place i)) ∙ (ap (λ k. owner k p) kept
              ∙ sym (cond-false (count s q == 0) (empty Owner) (owner q p) is')))
          last b p q kept false true told is' (block, place) =
              none block place ∙ sym (cond-true (count s q == 0) (empty Owner) (owner q p) is')
          last b p q kept true true told is' owned = absurd (cc told)
          last b p q kept false false told is' owned = absurd (cc told)

  pub parent_found : (d m n e : DeskNow V) (node h : Shared) (at : WeakAt) (b : Option Block) (p : Option Place) (v : Bool)
      → IsMember (λ c (x : WeakAt). x.site ≡ site.Up c) node.block node.place (Ok at) → Loads d (weak_cell d at.site) Weak b p m
      → LocksHandle m b p (is_some h.block) n → IsOwnerOf b p (is_some h.block) h → bag_of n ≡ with_handle Owner h.block h.place (bag_of m)
      → LeavesWeakly n b p v e → IsLegal (opening_of d.shape) d.seen → IsSole d → HoldsHandle m Weak b p → IsParent d (object_of (node_in d node)) h e
  unfolding locks_up
  parent_found d m n e node h at b p v member loads locks owned bag leaves legal sole holds =
      parent_is d e (object_of (node_in d node)) h (locks_up d m n e node h at b p v member loads locks owned bag leaves) legal sole holds
