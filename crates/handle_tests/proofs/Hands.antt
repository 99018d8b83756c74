-- Handles of a desk in slots, as they come and go.
use Rattle.std.proofs.Common.{◌≡◌, ℕ, zero, suc, ◌+◌, ◌-◌, ◌≤◌, List, [], ◌∷◌, ◌++◌, length, set, cond}
use Rattle.std.proofs.Common.{Option, Some, None, Ok, Err}
use Rattle.std.proofs.Common.{Result, refl, sym, ap, subst, ◌∙◌, inl, arith, add-zero}
use Rattle.std.proofs.Common.{IfErr, IfOk, OnOk, MatchResult}
use Rattle.std.specs.Prelude.{slice_get, MatchOption}
use Rattle.std.specs.List.Sorted.{IsPermutation}
use Rattle.std.proofs.lemmas.List.Sorted.{IsPermutation-refl, IsPermutation-cons, IsPermutation-middle, IsPermutation-trans}
use Rattle.control_word.proofs.lists.Tallies.{handle_self, same_handle_true}
use Rattle.control_word.specs.Handles.{handle, has_object, same_handle}
use Rattle.control_word.specs.State.{without}
use Rattle.control_word.specs.declared.model.handle.NumberedHandle.{NumberedHandle}
use Rattle.control_word.specs.declared.model.handle.Kind.{Kind}
use Rattle.control_word.specs.declared.model.handle.Kind.TheVariants.{Owner, Weak}
use Rattle.control_word.specs.declared.place.Block.{Block}
use Rattle.control_word.specs.declared.place.Place.{Place}
use Rattle.control_block.specs.CellCalls.{with_handle, without_handle}
use Rattle.control_word.specs.declared.refusal.Refused.{Refused}
use Rattle.control_word.specs.declared.refusal.Refusal.TheVariants.{Limit}
use Rattle.control_block.specs.Desks.{DeskNow, IsSameDesk, Keeps, bag_of}
use Rattle.control_block.specs.declared.handles.Shared.{Shared}
use Rattle.control_block.specs.declared.handles.Weak as weak_handle
use Rattle.shared_handle.specs.Calls.{counting, weak_place}
use Rattle.atomic_cells.specs.Compares.{GivesBackDesired, bag_compared, came_out, has_swapped}
use Rattle.atomic_cells.specs.declared.compared.Compared.{Compared}
use Rattle.atomic_cells.specs.declared.compared.Compared.TheVariants.{Differs, Swapped}
use Rattle.control_block.specs.HandleLists.{IsHeldByDesk, with_held, without_held}
use Rattle.control_block.specs.Parting.{AreIn, HoldsAll, listed, number_of_block}
use Rattle.control_block.specs.SlotLists.{handles_in}
use Rattle.control_block.specs.Standing.{Standing}
use Rattle.control_block.specs.declared.handles.Held.{Held}
use Rattle.control_block.specs.declared.handles.Held.TheVariants as held
use Rattle.control_block.proofs.Bags.{taken_out}
use Rattle.control_block.proofs.PartingLists.{length_without}
use Rattle.control_block.proofs.PartingSplit.{few_listed}
use Rattle.control_block.proofs.HandleLists.{holds_none, holds_more, holds_less, holds_rest, holds_each, holds_in_order}
use Rattle.handle_tests.specs.Hands.{Comes, Gains, HoldsBeside, HoldsCame, HoldsShared, HoldsSlots, Stays}

-- two slots change places
flip : (x y : Option Held) (l : List (Option Held)) → IsPermutation (handles_in (x ∷ y ∷ l)) (handles_in (y ∷ x ∷ l))
flip None None l = IsPermutation-refl _
flip None (Some k) l = IsPermutation-refl _
flip (Some h) None l = IsPermutation-refl _
flip (Some h) (Some k) l = IsPermutation-middle (h ∷ []) k (handles_in l)

under : (x : Option Held) (l m : List (Option Held)) → IsPermutation (handles_in l) (handles_in m)
    → IsPermutation (handles_in (x ∷ l)) (handles_in (x ∷ m))
under None l m p = p
under (Some h) l m p = IsPermutation-cons h _ _ p

-- what is in hand goes into a slot, and what lay there is in hand
swapped : (l : List (Option Held)) (i : ℕ) (x old : Option Held) → slice_get l i ≡ Some old
    → IsPermutation (handles_in (x ∷ l)) (handles_in (old ∷ set l i x))
swapped [] i x old e = absurd (cc e)
swapped (a ∷ l) zero x old e =
    let same : a ≡ old = cc e in
    subst (λ (y : Option Held). IsPermutation (handles_in (x ∷ a ∷ l)) (handles_in (y ∷ x ∷ l))) same (flip x a l)
swapped (a ∷ l) (suc i) x old e =
    IsPermutation-trans _ _ _ (flip x a l)
    (IsPermutation-trans _ _ _ (under a (x ∷ l) (old ∷ set l i x) (swapped l i x old e)) (flip a old (set l i x)))

last_first : (l : List (Option Held)) (x : Option Held) → IsPermutation (handles_in (l ++ x ∷ [])) (handles_in (x ∷ l))
last_first [] x = IsPermutation-refl _
last_first (a ∷ l) x = IsPermutation-trans _ _ _ (under a (l ++ x ∷ []) (x ∷ l) (last_first l x)) (flip a x l)

-- n handles, of which these have an object, are among those of a bag and as many more as are counted
abbrev Covers : ℕ → List NumberedHandle → List NumberedHandle → ℕ → Type 0
Covers n l bag m = AreIn l bag × (n - length l ≤ m - length bag)

abbrev listed_more : Kind → Option Block → Option Place → List NumberedHandle → List NumberedHandle
listed_more k b p l = let h = handle k (number_of_block b) p in cond (has_object h) (h ∷ l) l

-- one of them was exchanged for another
covers_other : (k : Kind) (b : Option Block) (p : Option Place) (j : Kind) (c : Option Block) (q : Option Place) (n : ℕ) (l bag : List NumberedHandle) (m : ℕ)
    → Covers (suc n) (listed_more k b p l) bag m → length bag ≤ m → length l ≤ n
    → Covers (suc n) (listed_more j c q l) (with_handle j c q (without_handle k b p bag)) m
covers_other k None p j None q n l bag m c few le = c
covers_other k None p j (Some z) q n l bag m c few le =
    let h = handle j (Some z.0) q in let x = c.1 in ((inl refl, subst (AreIn l) (sym (taken_out h bag)) c.0), omega arith)
covers_other k (Some b) p j None q n l bag m c few le =
    let x = c.1 in let less = length_without same_handle same_handle_true handle_self (handle k (Some b.0) p) bag c.0.0 in (c.0.1, omega arith)
covers_other k (Some b) p j (Some z) q n l bag m c few le =
    let h = handle j (Some z.0) q in let x = c.1 in
    let rest = without same_handle (handle k (Some b.0) p) bag in
    let less = length_without same_handle same_handle_true handle_self (handle k (Some b.0) p) bag c.0.0 in
    ((inl refl, subst (AreIn l) (sym (taken_out h rest)) c.0.1), omega arith)

-- a desk has these handles, by the bag and the number that it has
by_bag : (e : DeskNow ℕ) (hs : List Held) (l : List NumberedHandle) (m : ℕ) → bag_of e ≡ l → e.held ≡ m
    → AreIn (listed hs) l × (length hs - length (listed hs) ≤ m - length l) → HoldsAll e hs
by_bag e hs l m bag count all =
    let t = subst (λ (y : List NumberedHandle × ℕ). AreIn (listed hs) y.0 × (length hs - length (listed hs) ≤ y.1 - length y.0))
    (λ i. (sym bag i, sym count i)) all in
    record { objects = t.0; empty = t.1 }

-- nothing came or went
pub all_still : (d e : DeskNow ℕ) (hs : List Held) → HoldsAll d hs → Stays d e → HoldsAll e hs
all_still d e hs all s = by_bag e hs (bag_of d) d.held s.bag s.held (all.objects, all.empty)

-- a handle came
pub all_more : (d e : DeskNow ℕ) (h : Held) (hs : List Held) → Standing d → HoldsAll d hs
    → bag_of e ≡ with_held h (bag_of d) → e.held ≡ d.held + 1 → HoldsAll e (h ∷ hs)
all_more d e h hs stands all bag count = holds_more d e h hs stands all bag count

-- a handle left
pub all_less : (d e : DeskNow ℕ) (h : Held) (hs : List Held) → HoldsAll d (h ∷ hs) → bag_of e ≡ without_held h (bag_of d) → e.held + 1 ≡ d.held
    → HoldsAll e hs
all_less d e h hs all bag count = holds_less d e h hs all bag count

-- a handle left, and what it was the last owner of ended
pub ended_less : (d m e : DeskNow ℕ) (h : Held) (hs : List Held) → HoldsAll d (h ∷ hs)
    → bag_of m ≡ without_held h (bag_of d) → m.held + 1 ≡ d.held → bag_of e ≡ bag_of m → e.held ≡ m.held → HoldsAll e hs
ended_less d m e h hs all bag count after many = all_less d e h hs all (after ∙ bag) (ap (λ (n : ℕ). n + 1) many ∙ count)

-- a handle was exchanged for another
pub all_other : (d e : DeskNow ℕ) (h k : Held) (hs : List Held) → Standing d → HoldsAll d (h ∷ hs)
    → bag_of e ≡ with_held k (without_held h (bag_of d)) → e.held ≡ d.held → HoldsAll e (k ∷ hs)
all_other d e (held.Owner h) (held.Owner k) hs stands all bag count =
    by_bag e (held.Owner k ∷ hs) _ _ bag count
    (covers_other Owner h.block h.place Owner k.block k.place (length hs) (listed hs) (bag_of d) d.held (all.objects, all.empty) stands.bag (few_listed hs))
all_other d e (held.Owner h) (held.Weak k) hs stands all bag count =
    by_bag e (held.Weak k ∷ hs) _ _ bag count
    (covers_other Owner h.block h.place Weak k.block k.place (length hs) (listed hs) (bag_of d) d.held (all.objects, all.empty) stands.bag (few_listed hs))
all_other d e (held.Weak h) (held.Owner k) hs stands all bag count =
    by_bag e (held.Owner k ∷ hs) _ _ bag count
    (covers_other Weak h.block h.place Owner k.block k.place (length hs) (listed hs) (bag_of d) d.held (all.objects, all.empty) stands.bag (few_listed hs))
all_other d e (held.Weak h) (held.Weak k) hs stands all bag count =
    by_bag e (held.Weak k ∷ hs) _ _ bag count
    (covers_other Weak h.block h.place Weak k.block k.place (length hs) (listed hs) (bag_of d) d.held (all.objects, all.empty) stands.bag (few_listed hs))

-- a handle with these parts came
pub owner_gained : (d e : DeskNow ℕ) (h : Shared) (b : Option Block) (p : Option Place) → IsSameDesk d e
    → bag_of e ≡ with_handle Owner b p (bag_of d) → h.block ≡ b → h.place ≡ p → e.held ≡ d.held + 1 → Gains d (held.Owner h) e
owner_gained d e h b p desk bag f g count =
    record { desk = desk; bag = bag ∙ (λ i. with_handle Owner (sym f i) (sym g i) (bag_of d)); held = count }

-- an empty weak handle has a null place, and stands in no bag
weakly : (l : List NumberedHandle) (b : Option Block) (p q : Option Place) → q ≡ weak_place b p → with_handle Weak b p l ≡ with_handle Weak b q l
weakly l None p q f = refl
weakly l (Some b) p q f = ap (λ (x : Option Place). with_handle Weak (Some b) x l) (sym f)

pub weak_gained : (d e : DeskNow ℕ) (h : weak_handle.Weak) (b : Option Block) (p : Option Place) → IsSameDesk d e
    → bag_of e ≡ with_handle Weak b p (bag_of d) → h.block ≡ b → h.place ≡ weak_place b p → e.held ≡ d.held + 1 → Gains d (held.Weak h) e
weak_gained d e h b p desk bag f g count =
    record {
      desk = desk;
      bag = bag ∙ (weakly (bag_of d) b p h.place g ∙ ap (λ (x : Option Block). with_handle Weak x h.place (bag_of d)) (sym f));
      held = count;
    }

-- an empty one came, which is only counted
pub empty_gained : (d e : DeskNow ℕ) (h : Shared) → h.block ≡ None → e ≡ counting (d.held + 1) d → Gains d (held.Owner h) e
empty_gained d e h none is =
    subst (λ (x : DeskNow ℕ). Gains d (held.Owner h) x) (sym is)
    record {
      desk = record { domain = refl; shape = refl; name = refl; allowance = refl };
      bag = ap (λ (b : Option Block). with_handle Owner b h.place (bag_of d)) (sym none);
      held = refl;
    }

pub empty_weak_gained : (d e : DeskNow ℕ) (h : weak_handle.Weak) → h.block ≡ None → e ≡ counting (d.held + 1) d → Gains d (held.Weak h) e
empty_weak_gained d e h none is =
    subst (λ (x : DeskNow ℕ). Gains d (held.Weak h) x) (sym is)
    record {
      desk = record { domain = refl; shape = refl; name = refl; allowance = refl };
      bag = ap (λ (b : Option Block). with_handle Weak b h.place (bag_of d)) (sym none);
      held = refl;
    }

-- what came, or nothing, is held beside what lies in slots
pub came_beside : {E : Type 0} (d e : DeskNow ℕ) (r : Result Held E) (ss : List (Option Held)) → Standing d → HoldsSlots d ss → Comes d r e
    → HoldsCame e r ss
came_beside d e (Ok h) ss stands all g = all_more d e h (handles_in ss) stands all g.bag g.held
came_beside d e (Err why) ss stands all s = all_still d e (handles_in ss) all s

pub came_desk : {E : Type 0} (d e : DeskNow ℕ) (r : Result Held E) → Comes d r e → IsSameDesk d e
came_desk d e (Ok h) g = g.desk
came_desk d e (Err why) s = s.desk

-- the desk as it was
pub same_stays : (d e : DeskNow ℕ) → e ≡ d → Stays d e
same_stays d e same =
    subst (λ (x : DeskNow ℕ). Stays d x) (sym same)
    record { desk = record { domain = refl; shape = refl; name = refl; allowance = refl }; bag = refl; held = refl }

pub keeps_desk : (d e : DeskNow ℕ) → Keeps d e → IsSameDesk d e
keeps_desk d e k = record { domain = k.domain; shape = k.shape; name = k.name; allowance = k.allowance }

-- what a compare leaves in hand
module _ (d e : DeskNow ℕ) (ss : List (Option Held)) (stands : Standing d) where
  owner_compared : (x : Shared) (c : Compared Shared) → HoldsBeside d (held.Owner x) ss → GivesBackDesired x c
      → bag_of e ≡ bag_compared (has_swapped c) Owner x.block x.place (came_out c).block (came_out c).place (bag_of d)
      → e.held ≡ d.held + cond (has_swapped c) 0 1 → HoldsShared e c ss
  owner_compared x (Swapped old) all back bag count =
      all_other d e (held.Owner x) (held.Owner old) (handles_in ss) stands all bag (count ∙ add-zero d.held)
  owner_compared x (Differs h k) all back bag count =
      subst (λ (y : Shared). HoldsAll e (held.Owner h ∷ held.Owner y ∷ handles_in ss)) (sym back)
      (all_more d e (held.Owner h) (held.Owner x ∷ handles_in ss) stands all bag count)

  pub owners_compared : (x : Shared) (r : Result (Compared Shared) (Refused Shared)) → HoldsBeside d (held.Owner x) ss
      → IfErr r (λ y. (y.why ≡ Limit) × (y.back ≡ x) × (e ≡ d)) → IfOk r (λ c. GivesBackDesired x c)
      → IfOk r (λ c. bag_of e ≡ bag_compared (has_swapped c) Owner x.block x.place (came_out c).block (came_out c).place (bag_of d))
      → IfOk r (λ c. e.held ≡ d.held + cond (has_swapped c) 0 1)
      → MatchResult r (λ c. HoldsShared e c ss) (λ y. HoldsBeside e (held.Owner y.back) ss)
  owners_compared x (Ok c) all kept back bag count = owner_compared x c all back bag count
  owners_compared x (Err y) all kept back bag count =
      subst (λ (z : Shared). HoldsBeside e (held.Owner z) ss) (sym kept.1) (subst (λ (m : DeskNow ℕ). HoldsBeside m (held.Owner x) ss) (sym kept.2) all)

pub compared_desk : {C X : Type 0} (d e : DeskNow ℕ) (x : X) (r : Result C (Refused X))
    → IfErr r (λ y. (y.why ≡ Limit) × (y.back ≡ x) × (e ≡ d)) → OnOk r (Keeps d e) → IsSameDesk d e
compared_desk d e x (Ok c) kept keeps = keeps_desk d e keeps
compared_desk d e x (Err y) kept keeps = (same_stays d e kept.2).desk

-- what a compare handed out, and how the desk holds it after a look at it
module _ (d : DeskNow ℕ) (ss : List (Option Held)) (c : Compared Shared) where
  pub owner_swapped : (old : Shared) → HoldsShared d c ss → c ≡ Swapped old → HoldsBeside d (held.Owner old) ss
  owner_swapped old all is = subst (λ (x : Compared Shared). HoldsShared d x ss) is all

  pub owner_differs : (h k : Shared) → HoldsShared d c ss → c ≡ Differs h k → HoldsAll d (held.Owner h ∷ held.Owner k ∷ handles_in ss)
  owner_differs h k all is = subst (λ (x : Compared Shared). HoldsShared d x ss) is all

  pub owner_seen : (h k : Shared) (e : DeskNow ℕ) → HoldsShared d c ss → c ≡ Differs h k → Keeps d e → bag_of e ≡ bag_of d → e.held ≡ d.held
      → HoldsAll e (held.Owner h ∷ held.Owner k ∷ handles_in ss)
  owner_seen h k e all is keeps bag count =
      all_still d e (held.Owner h ∷ held.Owner k ∷ handles_in ss) (owner_differs h k all is)
      (record { desk = keeps_desk d e keeps; bag = bag; held = count })

-- the one in hand is held, and those in slots are
pub hand_held : (d : DeskNow ℕ) (h : Held) (hs : List Held) → HoldsAll d (h ∷ hs) → IsHeldByDesk d h
hand_held d h hs all = holds_each d h (h ∷ hs) all (inl refl)

pub rest_held : (d : DeskNow ℕ) (h : Held) (hs : List Held) → HoldsAll d (h ∷ hs) → HoldsAll d hs
rest_held d h hs all = holds_rest d h hs all

module _ (d : DeskNow ℕ) (ss : List (Option Held)) (i : ℕ) where
  slot_held : (h : Held) → HoldsSlots d ss → slice_get ss i ≡ Some (Some h) → HoldsBeside d h (set ss i None)
  slot_held h all at = holds_in_order d _ _ (swapped ss i None (Some h) at) all

  pub held_in : (h : Held) → HoldsSlots d ss → slice_get ss i ≡ Some (Some h) → IsHeldByDesk d h
  held_in h all at = hand_held d h (handles_in (set ss i None)) (slot_held h all at)

  -- what lies in a slot goes out of it
  pub taken : (old : Option Held) (ts : List (Option Held)) → HoldsSlots d ss → slice_get ss i ≡ Some old → ts ≡ set ss i None
      → MatchOption old (HoldsSlots d ts) (λ h. HoldsBeside d h ts)
  taken None ts all at is = subst (HoldsSlots d) (sym is) (holds_in_order d _ _ (swapped ss i None None at) all)
  taken (Some h) ts all at is = subst (HoldsBeside d h) (sym is) (slot_held h all at)

  -- what is in hand goes into it
  pub laid : (h : Held) (old : Option Held) (ts : List (Option Held)) → HoldsBeside d h ss → slice_get ss i ≡ Some old → ts ≡ set ss i (Some h)
      → MatchOption old (HoldsSlots d ts) (λ k. HoldsBeside d k ts)
  laid h None ts all at is = subst (HoldsSlots d) (sym is) (holds_in_order d _ _ (swapped ss i (Some h) None at) all)
  laid h (Some k) ts all at is = subst (HoldsBeside d k) (sym is) (holds_in_order d _ _ (swapped ss i (Some h) (Some k) at) all)

-- the last slot is taken off
pub last_off : (d : DeskNow ℕ) (all l : List (Option Held)) (x : Option Held) → HoldsSlots d all → all ≡ l ++ x ∷ [] → HoldsSlots d (x ∷ l)
last_off d all l x holds is = holds_in_order d _ _ (last_first l x) (subst (HoldsSlots d) is holds)

-- slots that nothing lies in
pub none_held : (d : DeskNow ℕ) (ss : List (Option Held)) → handles_in ss ≡ [] → HoldsSlots d ss
none_held d ss none = subst (HoldsAll d) (sym none) (holds_none d)
