-- Handles of a desk that parts with some, and takes them back.
use Rattle.std.proofs.Common.{◌≡◌, ℕ, ◌+◌, List, [], ◌∷◌, ◌++◌, take, drop, Option, Some, None}
use Rattle.std.proofs.Common.{refl, sym, ap, subst, ◌∙◌, append-nil, take-append-drop}
use Rattle.std.specs.List.Sorted.{IsPermutation}
use Rattle.std.proofs.lemmas.List.Sorted.{IsPermutation-append_comm}
use Rattle.control_word.specs.declared.model.handle.Kind.TheVariants.{Owner, Weak}
use Rattle.control_block.specs.CellCalls.{with_handle}
use Rattle.control_block.specs.Desks.{DeskNow, IsSameDesk, bag_of}
use Rattle.control_block.specs.declared.handles.Shared.{Shared}
use Rattle.control_block.specs.declared.handles.Weak as weak_handle
use Rattle.shared_handle.specs.Calls.{weak_place}
use Rattle.control_block.specs.HandleLists.{IsHeldByDesk, without_held}
use Rattle.control_block.specs.Parting.{HoldsAll, SplitsOff}
use Rattle.control_block.specs.SlotLists.{handles_in}
use Rattle.control_block.specs.Standing.{Standing}
use Rattle.control_block.specs.declared.handles.Held.{Held}
use Rattle.control_block.specs.declared.handles.Held.TheVariants as held
use Rattle.control_block.proofs.HandleLists.{holds_none, holds_in_order, holds_part, holds_apart, holds_both}
use Rattle.handle_tests.specs.Hands.{HoldsSlots}
use Rattle.handle_tests.proofs.Hands.{all_less, all_more, hand_held, weak_gained}

handles_append : (a b : List (Option Held)) → handles_in (a ++ b) ≡ handles_in a ++ handles_in b
handles_append [] b = refl
handles_append (None ∷ a) b = handles_append a b
handles_append (Some h ∷ a) b = ap (λ l. h ∷ l) (handles_append a b)

-- some slots are another desk's, and come back
module _ (n : ℕ) where
  both_parts : (ss : List (Option Held)) → handles_in ss ≡ handles_in (take n ss) ++ handles_in (drop n ss)
  both_parts ss = ap handles_in (sym (take-append-drop n ss)) ∙ handles_append (take n ss) (drop n ss)

  last_part : (d : DeskNow ℕ) (ss : List (Option Held)) → HoldsSlots d ss → HoldsAll d (handles_in (drop n ss) ++ handles_in (take n ss))
  last_part d ss all =
      holds_in_order d _ _ (IsPermutation-append_comm (handles_in (take n ss)) (handles_in (drop n ss))) (subst (HoldsAll d) (both_parts ss) all)

  -- those that are lent are the desk's, and then the new desk's
  pub may_lend : (d : DeskNow ℕ) (ss ks : List (Option Held)) → HoldsSlots d ss → ks ≡ drop n ss → HoldsSlots d ks
  may_lend d ss ks all is = subst (HoldsSlots d) (sym is) (holds_part d _ _ (last_part d ss all))

  pub lent : (d e new : DeskNow ℕ) (a k : ℕ) (ss ks : List (Option Held)) → HoldsSlots d ss → ks ≡ drop n ss → SplitsOff d a k (handles_in ks) e new
      → HoldsSlots new (drop n ss) × HoldsSlots e (take n ss)
  lent d e new a k ss ks all is parts =
      holds_apart d a k (handles_in (drop n ss)) (handles_in (take n ss)) e new (last_part d ss all)
      (subst (λ (l : List (Option Held)). SplitsOff d a k (handles_in l) e new) is parts)

  pub back : (d other e : DeskNow ℕ) (ss : List (Option Held)) → Standing d → Standing other → HoldsSlots d (take n ss) → HoldsSlots other (drop n ss)
      → IsPermutation (bag_of d ++ bag_of other) (bag_of e) → e.held ≡ d.held + other.held
      → HoldsSlots e ss
  back d other e ss one two mine theirs bags count =
      subst (HoldsAll e) (sym (both_parts ss)) (holds_both d other e (handles_in (take n ss)) (handles_in (drop n ss)) one two mine theirs bags count)

-- a weak handle that came of an owner that came
pub both_held : (d m e : DeskNow ℕ) (o : Shared) (w : weak_handle.Weak) → Standing d → Standing m
    → bag_of m ≡ with_handle Owner o.block o.place (bag_of d) → m.held ≡ d.held + 1
    → bag_of e ≡ with_handle Weak o.block o.place (bag_of m) → w.block ≡ o.block → w.place ≡ weak_place o.block o.place → e.held ≡ m.held + 1
    → IsSameDesk m e
    → HoldsAll e (held.Weak w ∷ held.Owner o ∷ [])
both_held d m e o w first then bag count more b p many desk =
    all_more m e (held.Weak w) (held.Owner o ∷ []) then (all_more d m (held.Owner o) [] first (holds_none d) bag count)
    (weak_gained m e w o.block o.place desk more b p many).bag many

-- what a split gave away the new desk holds
pub given_away : (d e new : DeskNow ℕ) (a k : ℕ) (hs ks : List Held) → HoldsAll d hs → SplitsOff d a k hs e new → ks ≡ hs → HoldsAll new ks
given_away d e new a k hs ks all parts same =
    subst (HoldsAll new) (sym same) (holds_apart d a k hs [] e new (subst (HoldsAll d) (sym (append-nil hs)) all) parts).0

-- the same handles of the same desk
pub same_held : (d e : DeskNow ℕ) (hs ks : List Held) → HoldsAll d hs → ks ≡ hs → e ≡ d → HoldsAll e ks
same_held d e hs ks all same desk = subst (HoldsAll e) (sym same) (subst (λ (x : DeskNow ℕ). HoldsAll x hs) (sym desk) all)

-- the last of a list is taken off, and is held
pub last_in_hand : (d : DeskNow ℕ) (h : Held) (hs : List Held) → HoldsAll d (hs ++ h ∷ []) → HoldsAll d (h ∷ hs)
last_in_hand d h hs all = holds_in_order d _ _ (IsPermutation-append_comm hs (h ∷ [])) all

pub last_held : (d : DeskNow ℕ) (h : Held) (hs : List Held) → HoldsAll d (hs ++ h ∷ []) → IsHeldByDesk d h
last_held d h hs all = hand_held d h hs (last_in_hand d h hs all)

-- and leaves
pub last_left : (d e : DeskNow ℕ) (h : Held) (hs : List Held) → HoldsAll d (hs ++ h ∷ [])
    → bag_of e ≡ without_held h (bag_of d) → e.held + 1 ≡ d.held → HoldsAll e hs
last_left d e h hs all bag count = all_less d e h hs (last_in_hand d h hs all) bag count
