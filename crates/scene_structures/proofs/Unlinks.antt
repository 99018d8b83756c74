-- What the steps of a detach say, put together.
use Rattle.std.proofs.Common.{◌≡◌, ℕ, ◌+◌, ◌≤◌, Bool, [], ◌∷◌, length, Some, None, Option}
use Rattle.std.proofs.Common.{MatchOption, sym, refl, ap, ◌∙◌, subst, arith}
use Rattle.scene_structures.proofs.Prelude
use Prelude.{bag_of, Block, counting, DeskNow, Detaches, Does, does_both, empty, Fills, handle}
use Prelude.{handle_in, Has, HasHands, in_no_cell, IsParent, IsParting, IsSole, KeepsHeld}
use Prelude.{LeavesParent, Lists, LocksUp, node_in, NumberedHandle, object_of, Owner, Place}
use Prelude.{PutsOnly, Shared, SharesOwner, Unlinks, UnlinksIf, Watches, Weak, weak_of_owner}
use Prelude.{weak_place, with_handle, without_handle}
use Rattle.scene_structures.proofs.Hands.{hands_got, hands_second}
use Rattle.scene_structures.proofs.Latest.{has_all, latest_none}
use Rattle.scene_structures.proofs.Pushes.{same_left, same_node, shares_does}
use Rattle.scene_structures.proofs.Detached.{same_object}

module _ {V : Type 0} where
  -- an empty handle came, and a weak one like it and then it itself went into the object
  pub unlinks : (d b g e : DeskNow V) (node nothing : Shared) → b ≡ counting (d.held + 1) d → nothing.block ≡ None → nothing.place ≡ None
      → Watches b (object_of (node_in b node)) (weak_of_owner b nothing) g → KeepsHeld b g → bag_of g ≡ bag_of b
      → Fills g (object_of (node_in g node)) (handle_in g Owner nothing.block nothing.place) e → Lists node.block node.place (bag_of d)
      → Unlinks d (object_of (node_in d node)) e
  unlinks d b g e node nothing is no_block no_place watches keeps bag_g fills lists =
      let first = shares_does in_no_cell d b None None None is in
      let node_b : node_in b node ≡ node_in d node = same_node d b node first.1 lists in
      let bag_b : bag_of b ≡ bag_of d = ap (λ (u : DeskNow V). bag_of u) is in
      let lists_g = subst (Lists node.block node.place) (sym (bag_g ∙ bag_b)) lists in
      let node_g : node_in g node ≡ node_in d node = same_left b g node keeps lists_g ∙ node_b in
      let weakly : weak_of_owner b nothing ≡ empty Weak = (λ i. handle_in b Weak (no_block i) (weak_place (no_block i) (no_place i))) in
      let owned : handle_in g Owner nothing.block nothing.place ≡ empty Owner = (λ i. handle_in g Owner (no_block i) (no_place i)) in
      record {
        began = b;
        begins = first.0;
        orphan = g;
        watches = subst (λ (h : NumberedHandle). Watches b (object_of (node_in d node)) h g) weakly
            (subst (λ (h : NumberedHandle). Watches b (object_of h) (weak_of_owner b nothing) g) node_b watches);
        fills = subst (λ (h : NumberedHandle). Fills g (object_of (node_in d node)) h e) owned
            (subst (λ (h : NumberedHandle). Fills g (object_of h) (handle_in g Owner nothing.block nothing.place) e) node_g fills);
      }

  pub unlinked_latest : (d b g e : DeskNow V) (n : Option Block) (q : Option Place) → b ≡ counting (d.held + 1) d → KeepsHeld b g → KeepsHeld g e
      → bag_of e ≡ without_handle Owner n q (bag_of g) → KeepsHeld d e
  unlinked_latest d b g e n q is one two bag k p x has =
      let in_g = has_all Owner n q (handle k (Some x) p) (bag_of g) (subst (Has (handle k (Some x) p)) bag has) in
      two k p x has ∙ (one k p x in_g ∙ latest_none d b (ap (λ (u : DeskNow V). u.shape) is) (ap (λ (u : DeskNow V). u.seen) is) x)

  -- the object is unlinked by what it was before the search
  pub unlinks_same : (found : Bool) (s u : DeskNow V) (o p : ℕ) → o ≡ p → UnlinksIf found s o u → UnlinksIf found s p u
  unlinks_same found s u o p is unlinks' = subst (λ k. UnlinksIf found s k u) is unlinks'

  pub leaves_later : (d a e : DeskNow V) (p o : ℕ) → Does (PutsOnly in_no_cell) d a → LeavesParent a p o e → LeavesParent d p o e
  leaves_later d a e p o does x =
      record {
        at = x.at;
        comes = does_both (PutsOnly in_no_cell) d a x.at does x.comes;
        passed = x.passed;
        found = x.found;
        sought = x.sought;
        seeks = x.seeks;
        unlinked = x.unlinked;
        unlinks = x.unlinks;
        live_parent = x.live_parent;
        live_node = x.live_node;
        leaves = x.leaves;
      }

  -- the whole call, where `up` is on nothing that has an owner, and where it is on a parent
  pub detaches_none : (d m e : DeskNow V) (o : ℕ) (h : Shared) → LocksUp d o h m → h.block ≡ None → Does IsParting m e
      → (IsSole d → IsParent d o h m) → (a : Detaches d o e) × (IsSole d → IsParent d o a.parent a.climbed)
  detaches_none d m e o h climbs none leaves parent = (
    record {
      parent = h;
      climbed = m;
      climbs = climbs;
      rest = subst (λ (b : Option Block). MatchOption b (Does IsParting m e) (λ x. LeavesParent m (object_of (node_in m h)) o e)) (sym none) leaves;
    },
    parent,
  )

  pub detaches_some : (d m e : DeskNow V) (o : ℕ) (h : Shared) (b : Block) → LocksUp d o h m → h.block ≡ Some b
      → LeavesParent m (object_of (node_in m h)) o e → (IsSole d → IsParent d o h m)
      → (a : Detaches d o e) × (IsSole d → IsParent d o a.parent a.climbed)
  detaches_some d m e o h b climbs is leaves parent = (
    record {
      parent = h;
      climbed = m;
      climbs = climbs;
      rest = subst (λ (b : Option Block). MatchOption b (Does IsParting m e) (λ x. LeavesParent m (object_of (node_in m h)) o e)) (sym is) leaves;
    },
    parent,
  )

  -- another owner of the same object stands for the first, which is let go
  pub same_parent : (m s a : DeskNow V) (h parent : Shared) (q : Option Place) → SharesOwner m h.block h.place q s → parent.block ≡ h.block
      → KeepsHeld s a
      → Lists h.block h.place (bag_of m) → Lists parent.block parent.place (bag_of a) → object_of (node_in a parent) ≡ object_of (node_in m h)
  same_parent m s a h parent q shares block keeps lists_h lists_p =
      ap object_of (same_left s a parent keeps lists_p)
      ∙ (same_object s parent h block ∙ ap object_of (same_node m s h (shares_does in_no_cell m s h.block h.place q shares).1 lists_h))

  -- what is in hand when the first is gone: the other one, above all that the desk had
  pub parent_in_hand : (d m s f : DeskNow V) (h parent : Shared) (q : Option Place) → length (bag_of d) ≤ d.held
      → bag_of m ≡ with_handle Owner h.block h.place (bag_of d) → m.held ≡ d.held + 1 → parent.block ≡ h.block → parent.place ≡ q
      → bag_of s ≡ with_handle Owner h.block q (bag_of m) → s.held ≡ m.held + 1 → bag_of f ≡ without_handle Owner h.block h.place (bag_of s)
      → f.held + 1 ≡ s.held → HasHands (bag_of d) (parent ∷ []) f
  parent_in_hand d m s f h parent q few bag_m held_m block place bag_s held_s bag_f held_f =
      let none : HasHands (bag_of d) [] d = record { bag = refl; few = omega arith } in
      let bag : bag_of s ≡ with_handle Owner parent.block parent.place (bag_of m) =
      bag_s ∙ (λ i. with_handle Owner (sym block i) (sym place i) (bag_of m)) in
      hands_second s f (bag_of d) parent h [] (hands_got m s (bag_of d) parent (h ∷ []) (hands_got d m (bag_of d) h [] none bag_m held_m) bag held_s)
      bag_f held_f
