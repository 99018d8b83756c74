-- Whole calls on a stack.
use Rattle.std.proofs.Common.{◌≡◌, ℕ, ◌+◌, ◌<◌, ◌≤◌, false, List, [], ◌∷◌, length, Some, None}
use Rattle.std.proofs.Common.{vec_capacity, Option, MatchOption, sym, refl, ap, ◌∙◌, subst, arith}
use Rattle.scene_structures.proofs.Prelude
use Prelude.{AddsEvent, AllEnd, allowance_of, bag_of, Belongs, Block, calls_keep_latest, Carries}
use Prelude.{Cell, DeskNow, does_one, DomainNow, Entry, FindsNone, Free, handle_in, HasHands}
use Prelude.{IsEmptyList, IsLegal, IsPopped, IsSole, latest_of, leads, Lists, Load, Makes, NextOf}
use Prelude.{node_in, NumberedHandle, object_of, opening_of, Owner, owner, Pile, place_at, Pushes}
use Prelude.{PutsOnly, Rises, Shape, Shared, TakesNode, with_handle}
use Rattle.control_block.specs.Desks.{IsFirstDesk}
use Rattle.scene_structures.specs.Stacks.{ServesDomain}
use Rattle.scene_structures.proofs.Hands.{first_lists, lists_first}
use Rattle.scene_structures.proofs.Pushes.{rises_later, same_node}
use Rattle.scene_structures.proofs.Sole.{bare_list, popped_list}

module _ {V : Type 0} where
  pub got_lists : (d e : DeskNow V) (h : Shared) → bag_of e ≡ with_handle Owner h.block h.place (bag_of d) → Lists h.block h.place (bag_of e)
  got_lists d e h bag = subst (Lists h.block h.place) (sym bag) (lists_first h.block h.place (bag_of d))

  -- one more in hand
  pub hands_one : (d e : DeskNow V) (h : Shared) → length (bag_of d) ≤ d.held → bag_of e ≡ with_handle Owner h.block h.place (bag_of d)
      → e.held ≡ d.held + 1 → HasHands (bag_of d) (h ∷ []) e
  hands_one d e h few bag held = record { bag = bag; few = omega arith }

  -- a new node, a look at the cell, and the rise
  pub pushes : (d m l e : DeskNow V) (c k : Cell) (fields : List ℕ) (x : V) (node : Shared) (got : NumberedHandle)
      → Makes d false false fields x node.block node.place m → bag_of m ≡ with_handle Owner node.block node.place (bag_of d)
      → AddsEvent m (Load k got) l
      → Rises l c (node_in l node) e → Pushes d c fields x e
  pushes d m l e c k fields x node got makes bag loads rises = go node.block refl makes
    where
      go : (b : Option Block) → node.block ≡ b → Makes d false false fields x b node.place m → Pushes d c fields x e
      go None is made = absurd made
      go (Some b) is made =
          let there = owner (latest_of m b.0) (place_at b.0) in
          let same = same_node m l node (calls_keep_latest m _ l loads) (got_lists d m node bag) in
          let here : node_in m node ≡ there = (λ i. handle_in m Owner (is i) (made.0 i)) in
          record {
            block = b;
            made = m;
            makes = made.1;
            rises = rises_later m l e c there (does_one (PutsOnly (NextOf (object_of there))) m l _ loads tt)
                (subst (λ (h : NumberedHandle). Rises l c h e) (same ∙ here) rises);
          }

  -- what a pop gave, on a sole desk
  pub popped_or_bare : (d e : DeskNow V) (m : ℕ) (base : List NumberedHandle) (r : Option Shared)
      → MatchOption r (FindsNone d (Free m) e) (λ h. TakesNode d (Free m) h e)
      → MatchOption r (HasHands base [] e) (λ h. HasHands base (h ∷ []) e) → IsLegal (opening_of d.shape) d.seen
      → m < (opening_of d.shape).cells → IsSole d
      → MatchOption r (IsEmptyList d (Free m) e) (λ h. IsPopped d (Free m) h e)
  popped_or_bare d e m base None own hands legal lt sole = bare_list d e m own legal sole lt
  popped_or_bare d e m base (Some h) own hands legal lt sole = popped_list d e m h own legal sole lt (first_lists e base h [] hands)

  -- a pile that any desk of the domain may use has room for all blocks
  pub room_of : (domain : DomainNow) (p : Pile V) → ((d : DeskNow V) → Belongs d domain → Carries domain d p)
      → domain.shape.blocks ≤ vec_capacity p.endings
  room_of domain p carries =
      let d : DeskNow V = record { domain = domain.id; shape = domain.shape; name = 0; seen = []; held = 0 } in
      (carries d record { table = refl; shape = refl }).room

  -- an empty pile serves
  pub serves_empty : (domain : DomainNow) (d : DeskNow V) (p : Pile V) → Carries domain d p → p.endings.items ≡ [] → ServesDomain domain p
  serves_empty domain d p carries none = record { none = none; room = carries.room }

  -- any desk of the domain
  pub served : (domain : DomainNow) (d : DeskNow V) (p : Pile V) → ServesDomain domain p → Belongs d domain → Carries domain d p
  served domain d p serves belongs = record { belongs = belongs; ends = subst (AllEnd d) (sym serves.none) tt; room = serves.room }

  -- a domain's first desk
  pub begins_whole : (domain : DomainNow) (d : DeskNow V) → IsFirstDesk domain d → allowance_of d ≡ domain.shape.allowance
  begins_whole domain d b =
      ap (λ (l : List (Entry V)). (leads (opening_of d.shape) l).allowance d.name) b.seen
      ∙ (ap (λ n. (opening_of d.shape).share n) b.name ∙ ap (λ (k : Shape). k.allowance) b.shape)
