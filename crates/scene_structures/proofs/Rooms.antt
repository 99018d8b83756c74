-- Room for a call's handles, a new node's handle, and what a call took.
use Rattle.std.proofs.Common.{◌≡◌, ℕ, ◌+◌, ◌<◌, ◌≤◌, Bool, false, ◌↔◌, List, [], ◌∷◌, length}
use Rattle.std.proofs.Common.{IfSome, IsTrue, Some, None, Ok, Err, vec_capacity, Option, Result}
use Rattle.std.proofs.Common.{MatchOption, sym, refl, subst, inl, inr, arith}
use Rattle.scene_structures.proofs.Prelude.{AllEnd, bag_of, Belongs, Block, Carries, DeskNow}
use Rattle.scene_structures.proofs.Prelude.{DomainNow, handle, Has, HasHands, HoldsHandle}
use Rattle.scene_structures.proofs.Prelude.{iff_false, IsWithin, Kind, Makes, NumberedHandle}
use Rattle.scene_structures.proofs.Prelude.{Owner, Pile, Place, Shared, with_handle}
use Rattle.control_word.specs.declared.refusal.Refused.{Refused}
use Rattle.control_block.specs.Refusals.{IsFullOrLimit}
use Rattle.scene_structures.proofs.Hands.{holds_first, most, under}

-- not near the limit
pub far : {b : Bool} {a h : ℕ} → (IsTrue b ↔ (a < h)) → b ≡ false → h ≤ a
far {b} {a} {h} iff off = let not : a < h → ⊥ = iff_false iff off in omega arith

pub far_off : {a h : ℕ} → (a < h → ⊥) → h ≤ a
far_off not = omega arith

-- what is refused for want of blocks or at the limit isn't, where there are some and room
pub fine : {T V P Q : Type 0} (r : Result T (Refused V)) → IsFullOrLimit P Q r → (P → ⊥) → (Q → ⊥) → ((x : T) → r ≡ Ok x → ⊥) → ⊥
fine (Ok x) why p q not = not x refl
fine (Err e) (inl a) p q not = p a.1
fine (Err e) (inr b) p q not = q b.2

pub nil_of : {A : Type 0} (xs : List A) → length xs ≡ 0 → xs ≡ []
nil_of [] e = refl
nil_of (x ∷ xs) e = absurd (omega arith)

module _ {V : Type 0} where
  -- a new node's handle points into it
  pub made_within : (d m : DeskNow V) (fields : List ℕ) (x : V) (b : Option Block) (p : Option Place) → Makes d false false fields x b p m → IsWithin b p
  made_within d m fields x None p is = absurd is
  made_within d m fields x (Some b) p is = let q : Place = record { block = record { 0 = b.0 }; field = 0 } in (q, is.0, refl)

  -- a pile on which nothing lies, with room for all blocks
  pub serves : (domain : DomainNow) (d : DeskNow V) (p : Pile V) → Belongs d domain → p.endings.items ≡ []
      → domain.shape.blocks ≤ vec_capacity p.endings
      → Carries domain d p
  serves domain d p belongs none room = record { belongs = belongs; ends = subst (AllEnd d) (sym none) tt; room = room }

  -- what is held is so still, when one more comes
  pub holds_more : (k : Kind) (d m : DeskNow V) (b c : Option Block) (p q : Option Place) → HoldsHandle d k b p
      → bag_of m ≡ with_handle Owner c q (bag_of d) → m.held ≡ d.held + 1 → HoldsHandle m k b p
  holds_more k d m None c p q holds bag held = let t = most c q (bag_of d) in subst (λ (l : List NumberedHandle). length l < m.held) (sym bag) (omega arith)
  holds_more k d m (Some b) c p q holds bag held =
      subst (Has (handle k (Some b.0) p)) (sym bag) (under c q (handle k (Some b.0) p) (bag_of d) holds)

  -- and when none comes and none goes
  pub holds_still : (k : Kind) (d e : DeskNow V) (b : Option Block) (p : Option Place) → HoldsHandle d k b p → bag_of e ≡ bag_of d → e.held ≡ d.held
      → HoldsHandle e k b p
  holds_still k d e None p holds bag held = subst (λ (l : List NumberedHandle). length l < e.held) (sym bag) (omega arith)
  holds_still k d e (Some b) p holds bag held = subst (Has (handle k (Some b.0) p)) (sym bag) holds

  -- what was taken
  pub bag_taken : (e : DeskNow V) (base : List NumberedHandle) (r : Option Shared) → MatchOption r (HasHands base [] e) (λ h. HasHands base (h ∷ []) e)
      → MatchOption r (bag_of e ≡ base) (λ h. bag_of e ≡ with_handle Owner h.block h.place base)
  bag_taken e base None has = has.bag
  bag_taken e base (Some h) has = has.bag

  pub holds_taken : (e : DeskNow V) (base : List NumberedHandle) (r : Option Shared) → MatchOption r (HasHands base [] e) (λ h. HasHands base (h ∷ []) e)
      → IfSome r (λ h. HoldsHandle e Owner h.block h.place)
  holds_taken e base None has = tt
  holds_taken e base (Some h) has = holds_first e base h [] has

  pub held_taken : (d m e : DeskNow V) (r : Option Shared) → m.held ≡ d.held + 1 → MatchOption r (e.held + 1 ≡ m.held) (λ h. e.held ≡ m.held)
      → MatchOption r (e.held ≡ d.held) (λ h. e.held ≡ d.held + 1)
  held_taken d m e None one two = omega arith
  held_taken d m e (Some h) one two = omega arith
