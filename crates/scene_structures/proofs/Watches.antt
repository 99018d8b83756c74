-- A weak handle that goes into a node's `up`.
use Rattle.std.proofs.Common.{◌≡◌, ◌+◌, Bool, false, List, [], ◌∷◌, Some, None, Ok, Option, sym}
use Rattle.std.proofs.Common.{refl, ap, ◌∙◌, subst}
use Rattle.scene_structures.proofs.Prelude
use Prelude.{AddsEvent, All-nil, Attaches, bag_of, Block, calls_keep_latest, Cell, counting}
use Prelude.{DeskNow, Does, does_one, first_out, goes_by_call, goes_in_turn, handle, handle_in}
use Prelude.{Has, HoldsHandle, in_no_cell, IsMember, KeepsEndings, KeepsHeld, KeepsLatest}
use Prelude.{latest_of, LeavesWeakly, Lists, Load, Makes, Member, NextOf, node_in, NumberedHandle}
use Prelude.{object_of, Owner, owner, Place, place_at, PutsOnly, Rises, Shared, SharesWeakly, Swap}
use Prelude.{Watches, Weak, weak_cell, weak_does, weak_of_owner, weak_place, WeakAt, with_handle}
use Prelude.{without_handle}
use Rattle.atomic_cells.specs.declared.sites.WeakSite.TheVariants as site
use Rattle.scene_structures.proofs.Calls.{got_lists}
use Rattle.scene_structures.proofs.Latest.{has_over, latest_none, weak_latest}
use Rattle.scene_structures.proofs.Pushes.{rises_later, same_left, same_node}

-- what came last leaves, by its place as a weak handle
weak_out : (b : Option Block) (p : Option Place) (l : List NumberedHandle) → without_handle Weak b (weak_place b p) (with_handle Weak b p l) ≡ l
weak_out None p l = refl
weak_out (Some b) p l = first_out Weak (Some b) p l

module _ {V : Type 0} where
  pub endings_both : (d e f : DeskNow V) → KeepsEndings d e → KeepsEndings e f → KeepsEndings d f
  endings_both d e f one two b x ends =
      let s = one b x ends in let t = two b x s.ends in record { ends = t.ends; shape = t.shape ∙ s.shape; members = λ m. t.members m ∙ s.members m }

  pub lists_of : (d : DeskNow V) (b : Option Block) (p : Option Place) → HoldsHandle d Owner b p → Lists b p (bag_of d)
  lists_of d None p holds = tt
  lists_of d (Some b) p holds = holds

  -- a weak share is an event or, of an empty handle, none
  pub weakly_does : (at : Cell → Type 0) (d e : DeskNow V) (b : Option Block) (q : Option Place) → SharesWeakly d b q e
      → Does (PutsOnly at) d e × KeepsLatest d e
  weakly_does at d e None q is =
      let none : Does (PutsOnly at) d (counting (d.held + 1) d) =
      record { own = []; goes = record { same = (refl, refl, refl); later = []; seen = refl; mine = refl; legal = λ l. l }; all = All-nil (PutsOnly at) } in (
        subst (Does (PutsOnly at) d) (sym is) none,
        λ k r c has. latest_none d e (ap (λ (u : DeskNow V). u.shape) is) (ap (λ (u : DeskNow V). u.seen) is) c,
      )
  weakly_does at d e (Some b) q is = (does_one (PutsOnly at) d e _ is tt, calls_keep_latest d _ e is)

  -- the weak handle of an owner that the desk held before
  pub weak_same : (d m : DeskNow V) (b : Option Block) (p : Option Place) → KeepsLatest d m → Lists b p (bag_of d)
      → handle_in m Weak b (weak_place b p) ≡ handle_in d Weak b (weak_place b p)
  weak_same d m None p keeps lists = refl
  weak_same d m (Some b) p keeps lists = ap (λ o. handle Weak (Some o) p) (keeps Owner p b.0 lists)

  -- the three steps put together
  pub watches : (d m n e : DeskNow V) (node subject : Shared) (at : WeakAt) (wb ob : Option Block) (wp op : Option Place) (v : Bool)
      → IsMember (λ c (x : WeakAt). x.site ≡ site.Up c) node.block node.place (Ok at)
      → HoldsHandle d Owner node.block node.place → HoldsHandle d Owner subject.block subject.place
      → SharesWeakly d subject.block subject.place m → wb ≡ subject.block → wp ≡ weak_place subject.block subject.place
      → AddsEvent m (Swap (weak_cell m at.site) (handle_in m Weak wb wp) (handle_in n Weak ob op)) n → LeavesWeakly n ob op v e
      → Watches d (object_of (node_in d node)) (weak_of_owner d subject) e
  watches d m n e node subject at wb ob wp op v (q, place, block, is) has holds shares eb ep swaps leaves =
      let first = weakly_does in_no_cell d m subject.block subject.place shares in
      let last = weak_does n e ob op v leaves in
      let old = handle_in n Weak ob op in
      let cell : weak_cell m at.site ≡ Member (object_of (node_in d node)) 2 =
      ap (weak_cell m) is ∙ (ap (λ (b : Option Block). Member (object_of (handle_in m Owner b node.place)) 2) (sym block)
      ∙ ap (λ (h : NumberedHandle). Member (object_of h) 2) (same_node d m node first.1 (lists_of d node.block node.place has))) in
      let up : handle_in m Weak wb wp ≡ weak_of_owner d subject =
      (λ i. handle_in m Weak (eb i) (ep i)) ∙ weak_same d m subject.block subject.place first.1 (lists_of d subject.block subject.place holds) in
      let here : AddsEvent m (Swap (Member (object_of (node_in d node)) 2) (weak_of_owner d subject) old) n =
      subst (λ (h : NumberedHandle). AddsEvent m (Swap (Member (object_of (node_in d node)) 2) h old) n) up
      (subst (λ (c : Cell). AddsEvent m (Swap c (handle_in m Weak wb wp) old) n) cell swaps) in
      record {
        was = old;
        before = first.0.own;
        after = last.own;
        goes = goes_in_turn d _ n last.own e (goes_in_turn d first.0.own m _ n first.0.goes (goes_by_call m _ n here)) last.goes;
        early = first.0.all;
        late = last.all;
      }

  -- and what the desk has is on the object that it was on
  pub watched_latest : (d m n e : DeskNow V) (sb ob : Option Block) (sp op : Option Place) (wb : Option Block) (wp : Option Place) (c : Cell)
      (x y : NumberedHandle)
      (v : Bool)
      → SharesWeakly d sb sp m → wb ≡ sb → wp ≡ weak_place sb sp → bag_of m ≡ with_handle Weak sb sp (bag_of d) → AddsEvent m (Swap c x y) n
      → bag_of n ≡ with_handle Weak ob op (without_handle Weak wb wp (bag_of m)) → LeavesWeakly n ob op v e
      → bag_of e ≡ without_handle Weak ob op (bag_of n) → KeepsHeld d e
  watched_latest d m n e sb ob sp op wb wp c x y v shares eb ep bag_m swaps bag_n leaves bag_e k q b has =
      let h = handle k (Some b) q in
      let rest : without_handle Weak wb wp (bag_of m) ≡ bag_of d =
      (λ i. without_handle Weak (eb i) (ep i) (bag_m i)) ∙ weak_out sb sp (bag_of d) in
      let all : bag_of e ≡ bag_of d = bag_e ∙ (ap (without_handle Weak ob op) bag_n ∙ (first_out Weak ob op _ ∙ rest)) in
      let had : Has h (bag_of d) = subst (Has h) all has in
      let in_m : Has h (bag_of m) = subst (Has h) (sym bag_m) (has_over Weak sb sp h (bag_of d) had) in
      let in_n : Has h (bag_of n) =
      subst (Has h) (sym bag_n) (has_over Weak ob op h _ (subst (Has h) (sym rest) had)) in
      weak_latest n e ob op v leaves k q b in_n ∙ (calls_keep_latest m _ n swaps k q b in_m ∙ (weakly_does in_no_cell d m sb sp shares).1 k q b had)

  -- a new node whose `up` was filled, a look at the cell, and the rise
  pub attaches : (d m h l e : DeskNow V) (c k : Cell) (x : V) (node subject : Shared) (got : NumberedHandle)
      → Makes d false false (0 ∷ 0 ∷ 0 ∷ 0 ∷ []) x node.block node.place m → bag_of m ≡ with_handle Owner node.block node.place (bag_of d)
      → HoldsHandle d Owner subject.block subject.place → Watches m (object_of (node_in m node)) (weak_of_owner m subject) h → KeepsHeld m h
      → bag_of h ≡ bag_of m
      → AddsEvent h (Load k got) l → Rises l c (node_in l node) e → Attaches d c subject x e
  attaches d m h l e c k x node subject got makes bag holds watch keeps same loads rises = go node.block refl makes
    where
      go : (b : Option Block) → node.block ≡ b → Makes d false false (0 ∷ 0 ∷ 0 ∷ 0 ∷ []) x b node.place m → Attaches d c subject x e
      go None is made = absurd made
      go (Some b) is made =
          let there = owner (latest_of m b.0) (place_at b.0) in
          let in_h : Lists node.block node.place (bag_of h) = subst (Lists node.block node.place) (sym same) (got_lists d m node bag) in
          let one = same_node h l node (calls_keep_latest h _ l loads) in_h in
          let two = same_left m h node keeps in_h in
          let here : node_in m node ≡ there = (λ i. handle_in m Owner (is i) (made.0 i)) in
          let up : weak_of_owner m subject ≡ weak_of_owner d subject =
          weak_same d m subject.block subject.place (calls_keep_latest d _ m made.1) (lists_of d subject.block subject.place holds) in
          record {
            block = b;
            made = m;
            makes = made.1;
            hung = h;
            watches = subst (λ (w : NumberedHandle). Watches m (latest_of m b.0) w h) up
                (subst (λ (y : NumberedHandle). Watches m (object_of y) (weak_of_owner m subject) h) here watch);
            rises = rises_later h l e c there (does_one (PutsOnly (NextOf (object_of there))) h l _ loads tt)
                (subst (λ (y : NumberedHandle). Rises l c y e) (one ∙ (two ∙ here)) rises);
          }
