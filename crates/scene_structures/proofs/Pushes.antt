-- The steps of a push, put together.
use Rattle.std.proofs.Common.{◌≡◌, ℕ, ◌+◌, Bool, true, false, cond, List, [], ◌∷◌, ◌++◌, Some}
use Rattle.std.proofs.Common.{None, Ok, Option, sym, refl, ap, ◌∙◌, subst, append_assoc, arith}
use Rattle.scene_structures.proofs.Prelude
use Prelude.{AddsEvent, All-append, All-cons, All-nil, bag_of, Block, calls_keep_latest, Cell}
use Prelude.{Compare, counting, DeskNow, Does, does_both, does_one, Fills, first_out, Goes}
use Prelude.{goes_by_call, goes_in_turn, handle, handle_in, Has, IsMember, IsParting, KeepsHeld}
use Prelude.{KeepsLatest, Lists, Member, NextOf, node_in, NumberedHandle, object_of, Owner, Place}
use Prelude.{PutsOnly, Rises, SameNode, Shared, shared_cell, SharedAt, SharesOwner, state_of, Swap}
use Prelude.{with_handle, without_handle}
use Rattle.atomic_cells.specs.Compares.{GivesBackDesired, bag_compared, came_out, has_swapped}
use Rattle.atomic_cells.specs.declared.compared.Compared.{Compared}
use Rattle.atomic_cells.specs.declared.compared.Compared.TheVariants.{Differs, Swapped}
use Rattle.atomic_cells.specs.declared.sites.SharedMember.TheVariants.{Next}
use Rattle.atomic_cells.specs.declared.sites.SharedSite.TheVariants as site
use Rattle.scene_structures.proofs.Rows.{partings_put}
use Rattle.scene_structures.proofs.Latest.{has_all, latest_none}

pub listed_some : (h : Shared) (l : List NumberedHandle) (b : Block) → h.block ≡ Some b → Lists h.block h.place l → Has (handle Owner (Some b.0) h.place) l
listed_some h l b is lists = subst (λ (x : Option Block). Lists x h.place l) is lists

module _ {V : Type 0} where
  -- a store into the node's `next`
  pub fills : (d m e : DeskNow V) (node : Shared) (at : SharedAt) (below old : NumberedHandle)
      → IsMember (λ c (x : SharedAt). x.site ≡ site.Of c Next) node.block node.place (Ok at)
      → AddsEvent d (Swap (shared_cell d at.site) below old) m → Does IsParting m e → Fills d (object_of (node_in d node)) below e
  fills d m e node at below old (q, place, block, is) adds does =
      let cell : shared_cell d at.site ≡ Member (object_of (node_in d node)) 1 =
      ap (shared_cell d) is ∙ ap (λ (b : Option Block). Member (object_of (handle_in d Owner b node.place)) 1) (sym block) in
      record {
        was = old;
        between = does.own;
        goes = goes_in_turn d _ m does.own e (goes_by_call d _ m (subst (λ (k : Cell). AddsEvent d (Swap k below old) m) cell adds)) does.goes;
        leaves = does.all;
      }

  -- a handle that is held is on the object that it was on
  same_listed : (d e : DeskNow V) (h : Shared)
      → ((b : Block) → h.block ≡ Some b → (state_of e).latest b.0 ≡ (state_of d).latest b.0) → SameNode d h e
  same_listed d e h keeps = go h.block refl
    where
      go : (b : Option Block) → h.block ≡ b → handle_in e Owner h.block h.place ≡ handle_in d Owner h.block h.place
      go None is = ap (λ (x : Option Block). handle_in e Owner x h.place) is ∙ sym (ap (λ (x : Option Block). handle_in d Owner x h.place) is)
      go (Some b) is =
          ap (λ (x : Option Block). handle_in e Owner x h.place) is
          ∙ (ap (λ o. handle Owner (Some o) h.place) (keeps b is) ∙ sym (ap (λ (x : Option Block). handle_in d Owner x h.place) is))

  -- over a call, by what was held before it
  pub same_node : (d e : DeskNow V) (h : Shared) → KeepsLatest d e → Lists h.block h.place (bag_of d) → SameNode d h e
  same_node d e h keeps lists = same_listed d e h (λ b is. keeps Owner h.place b.0 (listed_some h (bag_of d) b is lists))

  -- and by what is held after it
  pub same_left : (d e : DeskNow V) (h : Shared) → KeepsHeld d e → Lists h.block h.place (bag_of e) → SameNode d h e
  same_left d e h keeps lists = same_listed d e h (λ b is. keeps Owner h.place b.0 (listed_some h (bag_of e) b is lists))

  -- over the two steps of a store, which put in what lay above the rest
  pub held_stored : (d m e : DeskNow V) (b ob : Option Block) (p op : Option Place) (c : Cell) (x y : NumberedHandle) → AddsEvent d (Swap c x y) m
      → bag_of m ≡ with_handle Owner ob op (without_handle Owner b p (bag_of d)) → bag_of e ≡ without_handle Owner ob op (bag_of m)
      → KeepsHeld m e → KeepsHeld d e
  held_stored d m e b ob p op c x y adds bag left keeps k q n has =
      let here = subst (Has (handle k (Some n) q)) left has in
      let rest : Has (handle k (Some n) q) (without_handle Owner b p (bag_of d)) =
      subst (Has (handle k (Some n) q)) (left ∙ (ap (without_handle Owner ob op) bag ∙ first_out Owner ob op _)) has in
      keeps k q n has ∙ calls_keep_latest d _ m adds k q n (has_all Owner b p _ (bag_of d) rest)

  -- a share is an event or, of an empty handle, none
  pub shares_does : (at : Cell → Type 0) (d e : DeskNow V) (b : Option Block) (p q : Option Place) → SharesOwner d b p q e
      → Does (PutsOnly at) d e × KeepsLatest d e
  shares_does at d e None p q is =
      let none : Does (PutsOnly at) d (counting (d.held + 1) d) =
      record { own = []; goes = record { same = (refl, refl, refl); later = []; seen = refl; mine = refl; legal = λ l. l }; all = All-nil (PutsOnly at) } in (
        subst (Does (PutsOnly at) d) (sym is) none,
        λ k r c has. latest_none d e (ap (λ (u : DeskNow V). u.shape) is) (ap (λ (u : DeskNow V). u.seen) is) c,
      )
  shares_does at d e (Some b) p q is = (does_one (PutsOnly at) d e _ is tt, calls_keep_latest d _ e is)

  -- the whole of a try that swapped
  pub rises : (d s t u v : DeskNow V) (c : Cell) (node below top old : NumberedHandle) (w : Bool)
      → Does (PutsOnly (NextOf (object_of node))) d s → Fills s (object_of node) below t → AddsEvent t (Compare c top node old true w) u → top ≡ below
      → Does IsParting u v
      → Rises d c node v
  rises d s t u v c node below top old w a f adds same b =
      record {
        below = below;
        was = f.was;
        old = old;
        weak = w;
        before = a.own;
        between = f.between;
        after = b.own;
        goes = let swapped = subst (λ (x : NumberedHandle). AddsEvent t (Compare c x node old true w) u) same adds in
            let one = goes_in_turn d a.own s (f.between ++ Swap (Member (object_of node) 1) below f.was ∷ []) t a.goes f.goes in
            let path : ((f.between ++ Swap (Member (object_of node) 1) below f.was ∷ []) ++ a.own) ≡
            (f.between ++ Swap (Member (object_of node) 1) below f.was ∷ a.own) =
            append_assoc f.between (Swap (Member (object_of node) 1) below f.was ∷ []) a.own in
            goes_in_turn d _ u b.own v (goes_in_turn d _ t _ u (subst (λ l. Goes d l t) path one) (goes_by_call t _ u swapped)) b.goes;
        early = a.all;
        leaves = f.leaves;
        late = b.all;
      }

  -- and of one that differed
  pub tries : (d s t u v : DeskNow V) (c : Cell) (o : ℕ) (ex new below got : NumberedHandle) (w : Bool)
      → Does (PutsOnly (NextOf o)) d s → Fills s o below t → AddsEvent t (Compare c ex new got false w) u → Does IsParting u v
      → Does (PutsOnly (NextOf o)) d v
  tries d s t u v c o ex new below got w a f adds b =
      let p = PutsOnly (NextOf o) in
      let fill : Does p s t = record {
        own = _;
        goes = f.goes;
        all = All-append p f.between _ (partings_put (NextOf o) f.between f.leaves)
            (All-cons p (Swap (Member o 1) below f.was) [] refl (All-nil p));
      } in
      let last : Does p u v = record { own = b.own; goes = b.goes; all = partings_put (NextOf o) b.own b.all } in
      does_both p d u v (does_both p d t u (does_both p d s t a fill) (does_one p t u _ adds tt)) last

  -- what a compare says where it swapped, and where it differed
  module _ (t u : DeskNow V) (node : Shared) (r : Compared Shared) where
    pub swapped_bag : (old : Shared) → r ≡ Swapped old
        → bag_of u ≡ bag_compared (has_swapped r) Owner node.block node.place (came_out r).block (came_out r).place (bag_of t)
        → bag_of u ≡ with_handle Owner old.block old.place (without_handle Owner node.block node.place (bag_of t))
    swapped_bag old is bag =
        subst (λ (x : Compared Shared). bag_of u ≡ bag_compared (has_swapped x) Owner node.block node.place (came_out x).block (came_out x).place
        (bag_of t)) is bag

    pub swapped_held : (old : Shared) → r ≡ Swapped old → u.held ≡ t.held + cond (has_swapped r) 0 1 → u.held ≡ t.held
    swapped_held old is held = let a = subst (λ (x : Compared Shared). u.held ≡ t.held + cond (has_swapped x) 0 1) is held in omega arith

    pub swapped_event : (at : Cell) (ex new : NumberedHandle) (old : Shared) → r ≡ Swapped old
        → AddsEvent t (Compare at ex new (handle_in u Owner (came_out r).block (came_out r).place) (has_swapped r) true) u
        → AddsEvent t (Compare at ex new (handle_in u Owner old.block old.place) true true) u
    swapped_event at ex new old is adds =
        subst (λ (x : Compared Shared). AddsEvent t (Compare at ex new (handle_in u Owner (came_out x).block (came_out x).place) (has_swapped x)
        true) u) is adds

    pub differs_bag : (held desired : Shared) → r ≡ Differs held desired
        → bag_of u ≡ bag_compared (has_swapped r) Owner node.block node.place (came_out r).block (came_out r).place (bag_of t)
        → bag_of u ≡ with_handle Owner held.block held.place (bag_of t)
    differs_bag held desired is bag =
        subst (λ (x : Compared Shared). bag_of u ≡ bag_compared (has_swapped x) Owner node.block node.place (came_out x).block (came_out x).place
        (bag_of t)) is bag

    pub differs_held : (held desired : Shared) → r ≡ Differs held desired → u.held ≡ t.held + cond (has_swapped r) 0 1 → u.held ≡ t.held + 1
    differs_held held desired is many = subst (λ (x : Compared Shared). u.held ≡ t.held + cond (has_swapped x) 0 1) is many

    pub differs_event : (at : Cell) (ex new : NumberedHandle) (held desired : Shared) → r ≡ Differs held desired
        → AddsEvent t (Compare at ex new (handle_in u Owner (came_out r).block (came_out r).place) (has_swapped r) true) u
        → AddsEvent t (Compare at ex new (handle_in u Owner held.block held.place) false true) u
    differs_event at ex new held desired is adds =
        subst (λ (x : Compared Shared). AddsEvent t (Compare at ex new (handle_in u Owner (came_out x).block (came_out x).place) (has_swapped x)
        true) u) is adds

    pub differs_back : (held desired : Shared) → r ≡ Differs held desired → GivesBackDesired node r → desired ≡ node
    differs_back held desired is back = subst (GivesBackDesired node) is back

  -- a node that rises after tries
  pub rises_later : (d e f : DeskNow V) (c : Cell) (node : NumberedHandle) → Does (PutsOnly (NextOf (object_of node))) d e → Rises e c node f → Rises d c node f
  rises_later d e f c node a r =
      let x = Compare c r.below node r.old true r.weak in let y = Swap (Member (object_of node) 1) r.below r.was in
      let path : ((r.after ++ x ∷ (r.between ++ y ∷ r.before)) ++ a.own) ≡ (r.after ++ x ∷ (r.between ++ y ∷ (r.before ++ a.own))) =
      append_assoc r.after (x ∷ (r.between ++ y ∷ r.before)) a.own ∙ ap (λ l. r.after ++ x ∷ l) (append_assoc r.between (y ∷ r.before) a.own) in
      record {
        below = r.below;
        was = r.was;
        old = r.old;
        weak = r.weak;
        before = r.before ++ a.own;
        between = r.between;
        after = r.after;
        goes = subst (λ l. Goes d l f) path (goes_in_turn d a.own e _ f a.goes r.goes);
        early = All-append (PutsOnly (NextOf (object_of node))) r.before a.own r.early a.all;
        leaves = r.leaves;
        late = r.late;
      }
