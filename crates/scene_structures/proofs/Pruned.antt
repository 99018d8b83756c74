-- What the steps of a prune say, put together.
use Rattle.std.proofs.Common.{◌≡◌, ℕ, ◌+◌, Bool, List, [], ◌∷◌, Some, None, Ok, Option}
use Rattle.std.proofs.Common.{MatchOption, sym, refl, ap, ◌∙◌, subst, arith}
use Rattle.scene_structures.proofs.Prelude
use Prelude.{AddsEvent, AsksExpired, bag_of, Block, calls_keep_latest, Cell, ClearsFront, DeskNow}
use Prelude.{Does, Event, Finds, first_out, handle, handle_in, Has, HasHands, HoldsHandle}
use Prelude.{IsExpiry, IsMember, IsOpenBy, IsParting, IsWithin, KeepsHeld, KeepsLatest, latest_of}
use Prelude.{LeavesWeakly, Lists, Load, Member, node_in, NumberedHandle, object_of, Owner}
use Prelude.{PassesNode, Place, Prunes, SameKept, SameNode, Shape, Shared, shared_cell, SharedAt}
use Prelude.{stacked, Swap, Weak, weak_cell, WeakAt, with_handle, without_handle}
use Rattle.atomic_cells.specs.declared.sites.SharedMember.TheVariants.{Next}
use Rattle.atomic_cells.specs.declared.sites.SharedSite.TheVariants as shared
use Rattle.atomic_cells.specs.declared.sites.WeakSite.TheVariants as weak
use Rattle.scene_structures.proofs.Hands.{holds_first, holds_second, lists_first, most}
use Rattle.scene_structures.proofs.Latest.{has_over, weak_latest}

-- the node's `next` is open by the node
pub open_next : (base : List NumberedHandle) (node : Shared) (member : SharedAt) (z : Shape)
    → IsMember (λ k (x : SharedAt). x.site ≡ shared.Of k Next) node.block node.place (Ok member) → IsOpenBy (stacked (node ∷ []) base) z member.site
open_next base node member z is =
    subst (IsOpenBy (stacked (node ∷ []) base) z) (sym is.3)
    (node.place, subst (λ b. Lists b node.place (stacked (node ∷ []) base)) is.2 (lists_first node.block node.place base))

module _ {V : Type 0} where
  expiry_latest : (d e : DeskNow V) (b : Option Block) (p : Option Place) (gone : Bool) → IsExpiry d b p gone e → KeepsLatest d e
  expiry_latest d e None p gone is = λ k q c has. ap (λ (u : DeskNow V). latest_of u c) is.1
  expiry_latest d e (Some b) p gone is = calls_keep_latest d _ e is

  pub asks_latest : (d m n e : DeskNow V) (x : Event V) (b : Option Block) (p : Option Place) (gone v : Bool) → AddsEvent d x m
      → bag_of m ≡ with_handle Weak b p (bag_of d) → IsExpiry m b p gone n → bag_of n ≡ bag_of m → LeavesWeakly n b p v e
      → bag_of e ≡ without_handle Weak b p (bag_of n) → KeepsHeld d e
  asks_latest d m n e x b p gone v loads bag_m is bag_n leaves bag_e k q c has =
      let h = handle k (Some c) q in
      let all : bag_of e ≡ bag_of d = bag_e ∙ (ap (without_handle Weak b p) (bag_n ∙ bag_m) ∙ first_out Weak b p (bag_of d)) in
      let had : Has h (bag_of d) = subst (Has h) all has in
      let in_m : Has h (bag_of m) = subst (Has h) (sym bag_m) (has_over Weak b p h (bag_of d) had) in
      let in_n : Has h (bag_of n) = subst (Has h) (sym bag_n) in_m in
      weak_latest n e b p v leaves k q c in_n ∙ (expiry_latest m n b p gone is k q c in_m ∙ calls_keep_latest d x m loads k q c had)

  -- a node, and what its `up` was asked
  pub finds : (d m e : DeskNow V) (c : Cell) (top : Shared) (up : WeakAt) (gone : Bool) → AddsEvent d (Load c (node_in m top)) m
      → IsMember (λ k (x : WeakAt). x.site ≡ weak.Up k) top.block top.place (Ok up) → AsksExpired m (weak_cell m up.site) gone e → SameNode m top e
      → Finds d c top gone e × IsWithin top.block top.place
  finds d m e c top up gone loads is asks same =
      let n : node_in m top ≡ handle_in m Owner (Some is.0.block) top.place = ap (λ b. handle_in m Owner b top.place) is.2 in
      let cell : weak_cell m up.site ≡ Member (object_of (node_in e top)) 2 =
      ap (weak_cell m) is.3 ∙ sym (ap (λ (h : NumberedHandle). Member (object_of h) 2) (same ∙ n)) in (
        record {
          loaded = m;
          loads = subst (λ (h : NumberedHandle). AddsEvent d (Load c h) m) (sym same) loads;
          asks = subst (λ (k : Cell). AsksExpired m k gone e) cell asks;
        },
        (is.0, is.1, is.2),
      )

  -- what comes next went into the cell
  pub passes : (d m u e : DeskNow V) (c : Cell) (node next old : Shared) (member : SharedAt)
      → IsMember (λ k (x : SharedAt). x.site ≡ shared.Of k Next) node.block node.place (Ok member)
      → AddsEvent d (Load (shared_cell d member.site) (node_in m next)) m → AddsEvent m (Swap c (node_in m next) (node_in u old)) u → Does IsParting u e
      → PassesNode d c (object_of (node_in d node)) e
  passes d m u e c node next old member is loads swaps leaves =
      let n : node_in d node ≡ handle_in d Owner (Some is.0.block) node.place = ap (λ b. handle_in d Owner b node.place) is.2 in
      let cell : shared_cell d member.site ≡ Member (object_of (node_in d node)) 1 =
      ap (shared_cell d) is.3 ∙ sym (ap (λ (h : NumberedHandle). Member (object_of h) 1) n) in
      record {
        next = node_in m next;
        seen = m;
        loads = subst (λ (k : Cell). AddsEvent d (Load k (node_in m next)) m) cell loads;
        old = node_in u old;
        cut = u;
        swaps = swaps;
        leaves = leaves;
      }

  -- a handle in hand as one of those below
  pub hands_below : (d : DeskNow V) (base : List NumberedHandle) (node : Shared) → HasHands base (node ∷ []) d → HasHands (stacked (node ∷ []) base) [] d
  hands_below d base node has = let m = most node.block node.place base in let f = has.few in record { bag = has.bag; few = omega arith }

  -- and what is in hand then
  abbrev pub Left : List NumberedHandle → Shared → Option Shared → DeskNow V → Type 0
  Left base node None t = HasHands base (node ∷ []) t
  Left base node (Some h) t = HasHands base (h ∷ node ∷ []) t

  pub left_in_hand : (d t : DeskNow V) (base : List NumberedHandle) (node : Shared) (last : Option Shared) → HasHands base (node ∷ []) d
      → MatchOption last (HasHands (stacked (node ∷ []) base) [] t) (λ h. HasHands (stacked (node ∷ []) base) (h ∷ []) t)
      → MatchOption last (t.held ≡ d.held) (λ h. t.held ≡ d.held + 1) → Left base node last t
  left_in_hand d t base node None has hands held = let f = has.few in record { bag = hands.bag; few = omega arith }
  left_in_hand d t base node (Some h) has hands held = let f = has.few in record { bag = hands.bag; few = omega arith }

  pub left_holds : (t : DeskNow V) (base : List NumberedHandle) (node : Shared) (last : Option Shared) → Left base node last t
      → HoldsHandle t Owner node.block node.place
  left_holds t base node None left = holds_first t base node [] left
  left_holds t base node (Some h) left = holds_second t base h node [] left

  -- the list below one more node was cleared, and the node let go
  pub descends : (d l t e : DeskNow V) (c : Cell) (os : List ℕ) (a b : ℕ) (node : Shared) (member : SharedAt) (last : Option Shared)
      → IsMember (λ k (x : SharedAt). x.site ≡ shared.Of k Next) node.block node.place (Ok member) → Prunes d c os a (Some node) l
      → ClearsFront l (shared_cell l member.site) b last t → Does IsParting t e → SameKept t last e
      → Prunes d c (object_of (node_in l node) ∷ os) (a + b) last e
  descends d l t e c os a b node member last is prunes clears leaves same =
      let n : node_in l node ≡ handle_in l Owner (Some is.0.block) node.place = ap (λ k. handle_in l Owner k node.place) is.2 in
      let cell : shared_cell l member.site ≡ Member (object_of (node_in l node)) 1 =
      ap (shared_cell l) is.3 ∙ sym (ap (λ (h : NumberedHandle). Member (object_of h) 1) n) in
      (a, b, node, l, t, prunes, refl, subst (λ (k : Cell). ClearsFront l k b last t) cell clears, leaves, same, refl)
