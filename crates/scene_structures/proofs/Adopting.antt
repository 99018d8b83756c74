-- The steps by which a child is added, put together.
use Rattle.std.proofs.Common.{◌≡◌, ℕ, ◌+◌, ◌≤◌, false, List, [], ◌∷◌, length, Some, None, Ok}
use Rattle.std.proofs.Common.{Option, sym, refl, ap, ◌∙◌, subst, arith}
use Rattle.scene_structures.proofs.Prelude
use Prelude.{AddsEvent, Adopts, bag_of, Block, calls_keep_latest, Cell, DeskNow, does_both}
use Prelude.{does_one, handle, handle_in, HasHands, IsMember, KeepsHeld, KeepsLatest, KeepsThese}
use Prelude.{latest_of, Lists, Load, Makes, Member, NextOf, node_in, NumberedHandle, object_of}
use Prelude.{Owner, owner, Place, place_at, PutsOnly, Rises, Shared, shared_cell, SharedAt}
use Prelude.{SharesOwner, Watches, weak_of_owner, with_handle}
use Rattle.atomic_cells.specs.declared.sites.SharedMember.TheVariants.{First}
use Rattle.atomic_cells.specs.declared.sites.SharedSite.TheVariants as site
use Rattle.scene_structures.proofs.Watches.{weak_same}
use Rattle.scene_structures.proofs.Hands.{hands_copied, hands_got, lists_first, lists_under, most}
use Rattle.scene_structures.proofs.Pushes.{listed_some, rises_later, same_left, same_node}
use Rattle.scene_structures.proofs.Pushes.{shares_does}

module _ {V : Type 0} where
  module _ (d m n s l e : DeskNow V) (parent node copy : Shared) where
    -- the parent and the new node are on what they were on, up to the look at the parent's `first`
    pub parent_on : KeepsLatest d m → bag_of m ≡ with_handle Owner node.block node.place (bag_of d) → KeepsHeld m n
        → bag_of n ≡ bag_of m → KeepsLatest n s
        → bag_of s ≡ with_handle Owner node.block node.place (bag_of n) → KeepsLatest s l → Lists parent.block parent.place (bag_of d)
        → (node_in l parent ≡ node_in d parent) × Lists parent.block parent.place (bag_of n)
    parent_on keeps_m bag_m hung bag_n keeps_s bag_s keeps_l lists =
        let p_m : Lists parent.block parent.place (bag_of m) =
        subst (Lists parent.block parent.place) (sym bag_m) (lists_under parent.block node.block parent.place node.place (bag_of d) lists) in
        let p_n = subst (Lists parent.block parent.place) (sym bag_n) p_m in
        let p_s : Lists parent.block parent.place (bag_of s) =
        subst (Lists parent.block parent.place) (sym bag_s) (lists_under parent.block node.block parent.place node.place (bag_of n) p_n) in
        let parent_m = same_node d m parent keeps_m lists in
        (same_node s l parent keeps_l p_s ∙ (same_node n s parent keeps_s p_n ∙ (same_left m n parent hung p_n ∙ parent_m)), p_n)

    pub node_on : bag_of m ≡ with_handle Owner node.block node.place (bag_of d) → KeepsHeld m n → bag_of n ≡ bag_of m → KeepsLatest n s
        → bag_of s ≡ with_handle Owner node.block node.place (bag_of n) → KeepsLatest s l
        → (node_in l node ≡ node_in m node) × Lists node.block node.place (bag_of n)
    node_on bag_m hung bag_n keeps_s bag_s keeps_l =
        let c_m : Lists node.block node.place (bag_of m) =
        subst (Lists node.block node.place) (sym bag_m) (lists_first node.block node.place (bag_of d)) in
        let c_n = subst (Lists node.block node.place) (sym bag_n) c_m in
        let c_s : Lists node.block node.place (bag_of s) =
        subst (Lists node.block node.place) (sym bag_s) (lists_first node.block node.place (bag_of n)) in
        (same_node s l node keeps_l c_s ∙ (same_node n s node keeps_s c_n ∙ same_left m n node hung c_n), c_n)

    pub adopts : (at : SharedAt) (fields : List ℕ) (x : V) (k : Cell) (got : NumberedHandle)
        → Makes d false false fields x node.block node.place m → bag_of m ≡ with_handle Owner node.block node.place (bag_of d)
        → Watches m (object_of (node_in m node)) (weak_of_owner m parent) n → KeepsHeld m n → bag_of n ≡ bag_of m
        → SharesOwner n node.block node.place node.place s → copy.block ≡ node.block → copy.place ≡ node.place
        → bag_of s ≡ with_handle Owner node.block node.place (bag_of n) → AddsEvent s (Load k got) l
        → Rises l (shared_cell l at.site) (node_in l copy) e → Lists parent.block parent.place (bag_of d)
        → IsMember (λ c (a : SharedAt). a.site ≡ site.Of c First) parent.block parent.place (Ok at)
        → (a : Adopts d parent fields x node e) × (a.made ≡ m)
    adopts at fields x k got makes bag_m watches hung bag_n shares cb cp bag_s loads rises lists (q, points, block, is) = go node.block refl makes
      where
        go : (b : Option Block) → node.block ≡ b → Makes d false false fields x b node.place m → (a : Adopts d parent fields x node e) × (a.made ≡ m)
        go None here makes' = absurd makes'
        go (Some b) here makes' =
            let keeps_m = calls_keep_latest d _ m makes'.1 in
            let shared = shares_does (NextOf (latest_of m b.0)) n s node.block node.place node.place shares in
            let keeps_l = calls_keep_latest s _ l loads in
            let parent_l = parent_on keeps_m bag_m hung bag_n shared.1 bag_s keeps_l lists in
            let node_l = node_on bag_m hung bag_n shared.1 bag_s keeps_l in
            let there = owner (latest_of m b.0) (place_at b.0) in
            let made : node_in m node ≡ there = (λ i. handle_in m Owner (here i) (makes'.0 i)) in
            let copied : node_in l copy ≡ there = (λ i. handle_in l Owner (cb i) (cp i)) ∙ (node_l.0 ∙ made) in
            let cell : shared_cell l at.site ≡ Member (object_of (node_in d parent)) 0 =
            ap (shared_cell l) is
            ∙ (sym (ap (λ (y : Option Block). Member (object_of (handle_in l Owner y parent.place)) 0) block)
            ∙ ap (λ (h : NumberedHandle). Member (object_of h) 0) parent_l.0) in
            let up = weak_same d m parent.block parent.place keeps_m lists in
            let c = Member (object_of (node_in d parent)) 0 in (
              record {
                block = b;
                is = (here, makes'.0);
                made = m;
                makes = makes'.1;
                hung = n;
                watches = subst (λ (h : NumberedHandle). Watches m (latest_of m b.0) h n) up
                    (subst (λ (h : NumberedHandle). Watches m (object_of h) (weak_of_owner m parent) n) made watches);
                rises = rises_later n l e c there
                    (does_both (PutsOnly (NextOf (latest_of m b.0))) n s l shared.0 (does_one (PutsOnly (NextOf (latest_of m b.0))) s l _ loads tt))
                    (subst (λ (h : NumberedHandle). Rises l c h e) copied (subst (λ (y : Cell). Rises l y (node_in l copy) e) cell rises));
              },
              refl,
            )

  pub makes_latest : (d m : DeskNow V) (fields : List ℕ) (x : V) (b : Option Block) (p : Option Place)
      → Makes d false false fields x b p m → KeepsLatest d m
  makes_latest d m fields x None p makes = absurd makes
  makes_latest d m fields x (Some b) p makes = calls_keep_latest d _ m makes.1

  -- what a list has still, after the node rose
  pub these_node : (d e : DeskNow V) (base : List NumberedHandle) (h : Shared) → KeepsThese base d e → Lists h.block h.place base → node_in e h ≡ node_in d h
  these_node d e base h keeps lists = go h.block refl
    where
      go : (b : Option Block) → h.block ≡ b → handle_in e Owner h.block h.place ≡ handle_in d Owner h.block h.place
      go None is = ap (λ (x : Option Block). handle_in e Owner x h.place) is ∙ sym (ap (λ (x : Option Block). handle_in d Owner x h.place) is)
      go (Some b) is =
          ap (λ (x : Option Block). handle_in e Owner x h.place) is
          ∙ (ap (λ o. handle Owner (Some o) h.place) (keeps Owner h.place b.0 (listed_some h base b is lists))
          ∙ sym (ap (λ (x : Option Block). handle_in d Owner x h.place) is))

  -- what lies below a new node and what was seen
  pub hands_over : (d m n s l : DeskNow V) (node copy top : Shared) → length (bag_of d) ≤ d.held
      → bag_of m ≡ with_handle Owner node.block node.place (bag_of d) → m.held ≡ d.held + 1 → bag_of n ≡ bag_of m → n.held ≡ m.held
      → copy.block ≡ node.block → copy.place ≡ node.place → bag_of s ≡ with_handle Owner node.block node.place (bag_of n) → s.held ≡ n.held + 1
      → bag_of l ≡ with_handle Owner top.block top.place (bag_of s) → l.held ≡ s.held + 1 → HasHands (bag_of n) (top ∷ copy ∷ []) l
  hands_over d m n s l node copy top few bag_m held_m bag_n held_n cb cp bag_s held_s bag_l held_l =
      let a = ap length (bag_n ∙ bag_m) in let b = most node.block node.place (bag_of d) in
      let has : HasHands (bag_of n) [] n = record { bag = refl; few = omega arith } in
      hands_got s l (bag_of n) top (copy ∷ []) (hands_copied n s (bag_of n) copy node [] has cb cp bag_s held_s) bag_l held_l
