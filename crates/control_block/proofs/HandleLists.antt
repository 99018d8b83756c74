-- Handles of a desk in a list, as handles come into the list and go out of it.
use Rattle.std.proofs.Common.{◌≡◌, ℕ, suc, ◌+◌, ◌-◌, ◌<◌, ◌≤◌, Bool, true, cond, List, [], ◌∷◌}
use Rattle.std.proofs.Common.{◌++◌, map, length, Some, None, Option, sym, refl, ap, ◌∙◌, subst}
use Rattle.std.proofs.Common.{inl, ⊎_elim, arith, length-append}
use Rattle.control_block.proofs.Prelude
use Prelude.{AreIn, as_listed, bag_of, Block, cond-false, cond-true, cond_both, DeskNow, filter}
use Prelude.{filter-append, handle, handle_self, Has, has_object, HoldsAll, Kind}
use Prelude.{length_permutation, listed, map-append, num, num_cons, NumberedHandle, Owner, Place}
use Prelude.{same_handle, same_handle_true, sum_by-IsPermutation, Weak, with_handle, without}
use Prelude.{without_all, without_handle}
use Rattle.std.proofs.lemmas.List.Sums.{sum_by-cons}
use Rattle.std.specs.List.{sum_by}
use Rattle.control_block.specs.HandleLists.{HoldsApart, HoldsBoth, HoldsEach, HoldsInOrder}
use Rattle.control_block.specs.HandleLists.{HoldsLess, HoldsMore, HoldsNone, HoldsPart, HoldsRest}
use Rattle.control_block.specs.HandleLists.{IsHeldByDesk}
use Rattle.control_block.specs.Parting.{number_of_block}
use Rattle.control_block.specs.declared.handles.Held.{Held}
use Rattle.control_block.specs.declared.handles.Held.TheVariants as held
use Rattle.control_block.proofs.Bags.{taken_out}
use Rattle.control_block.proofs.partings.PartingCounts.{are_in, both_in, counted}
use Rattle.control_block.proofs.PartingLists.{length_without}
use Rattle.control_block.proofs.PartingSplit.{few_listed}

-- n handles, of which these have an object, are among those of a bag and as many more as are counted
abbrev Covers : ℕ → List NumberedHandle → List NumberedHandle → ℕ → Type 0
Covers n l bag m = AreIn l bag × (n - length l ≤ m - length bag)

-- what is listed with one handle more
abbrev listed_more : Kind → Option Block → Option Place → List NumberedHandle → List NumberedHandle
listed_more k b p l = let h = handle k (number_of_block b) p in cond (has_object h) (h ∷ l) l

covers_more : (k : Kind) (b : Option Block) (p : Option Place) (n : ℕ) (l bag : List NumberedHandle) (m : ℕ) → Covers n l bag m
    → length bag ≤ m → length l ≤ n
    → Covers (suc n) (listed_more k b p l) (with_handle k b p bag) (m + 1)
covers_more k None p n l bag m c few le = let x = c.1 in (c.0, omega arith)
covers_more k (Some b) p n l bag m c few le =
    let h = handle k (Some b.0) p in let x = c.1 in ((inl refl, subst (AreIn l) (sym (taken_out h bag)) c.0), omega arith)

covers_less : (k : Kind) (b : Option Block) (p : Option Place) (n : ℕ) (l bag : List NumberedHandle) (m : ℕ) → Covers (suc n) (listed_more k b p l) bag (m + 1)
    → length l ≤ n → Covers n l (without_handle k b p bag) m
covers_less k None p n l bag m c le = let x = c.1 in (c.0, omega arith)
covers_less k (Some b) p n l bag m c le =
    let h = handle k (Some b.0) p in let x = c.1 in
    let less = length_without same_handle same_handle_true handle_self h bag c.0.0 in (c.0.1, omega arith)

covers_rest : (k : Kind) (b : Option Block) (p : Option Place) (n : ℕ) (l bag : List NumberedHandle) (m : ℕ) → Covers (suc n) (listed_more k b p l) bag m
    → length l ≤ n → Covers n l bag m
covers_rest k None p n l bag m c le = let x = c.1 in (c.0, omega arith)
covers_rest k (Some b) p n l bag m c le =
    let h = handle k (Some b.0) p in let x = c.1 in (
      are_in l bag (λ g. let a = counted (h ∷ l) bag c.0 g in let t = num_cons (same_handle g) h l in omega arith),
      omega arith,
    )

-- in a list that is covered the first handle is in the bag, or one of those that are counted beyond it
abbrev IsCovered : Kind → Option Block → Option Place → List NumberedHandle → ℕ → Type 0
IsCovered k None p bag m = length bag < m
IsCovered k (Some b) p bag m = Has (handle k (Some b.0) p) bag

covers_first : (k : Kind) (b : Option Block) (p : Option Place) (n : ℕ) (l bag : List NumberedHandle) (m : ℕ) → Covers (suc n) (listed_more k b p l) bag m
    → length l ≤ n → IsCovered k b p bag m
covers_first k None p n l bag m c le = let x = c.1 in omega arith
covers_first k (Some b) p n l bag m c le = c.0.0

-- parts of what is in a bag
part_in : (a b l : List NumberedHandle) → AreIn (a ++ b) l → AreIn a l
part_in [] b l all = tt
part_in (x ∷ a) b l all = (all.0, part_in a b (without same_handle x l) all.1)

rest_in : (a b l : List NumberedHandle) → AreIn (a ++ b) l → AreIn b (without_all a l)
rest_in [] b l all = all
rest_in (x ∷ a) b l all = rest_in a b (without same_handle x l) all.1

rest_length : (a l : List NumberedHandle) → AreIn a l → length (without_all a l) + length a ≡ length l
rest_length [] l all = omega arith
rest_length (x ∷ a) l all =
    let t = rest_length a (without same_handle x l) all.1 in
    let s = length_without same_handle same_handle_true handle_self x l all.0 in omega arith

listed_append : (hs ks : List Held) → listed (hs ++ ks) ≡ listed hs ++ listed ks
listed_append hs ks = ap (filter has_object) (map-append as_listed hs ks) ∙ filter-append has_object (map as_listed hs) (map as_listed ks)

-- how many of the listed ones pass a test, by all of the list
one_worth : (NumberedHandle → Bool) → Held → ℕ
one_worth p h = cond (has_object (as_listed h)) (cond (p (as_listed h)) 1 0) 0

num_one : (p : NumberedHandle → Bool) (x : NumberedHandle) → num p (x ∷ []) ≡ cond (p x) 1 0
num_one p x =
    cond_both (p x) (x ∷ []) [] (λ l. length l ≡ cond (p x) 1 0) (λ e. sym (cond-true (p x) 1 0 e)) (λ e. sym (cond-false (p x) 1 0 e))

num_listed : (p : NumberedHandle → Bool) (hs : List Held) → num p (listed hs) ≡ sum_by (one_worth p) hs
unfolding one_worth
num_listed p [] = refl
num_listed p (h ∷ hs) =
    let ih = num_listed p hs in let s = sum_by-cons (one_worth p) h hs in let x = as_listed h in
    cond_both (has_object x) (x ∷ listed hs) (listed hs) (λ l. num p l ≡ sum_by (one_worth p) (h ∷ hs))
    (λ e. let a : one_worth p h ≡ cond (p x) 1 0 = cond-true (has_object x) (cond (p x) 1 0) 0 e in let b = num_cons p x (listed hs) in
    let c = num_one p x in omega arith)
    (λ e. let a : one_worth p h ≡ 0 = cond-false (has_object x) (cond (p x) 1 0) 0 e in omega arith)

num_all : (l : List NumberedHandle) → num (λ h. true) l ≡ length l
num_all [] = refl
num_all (x ∷ l) = ap suc (num_all l)

module _ {V : Type 0} where
  pub holds_none : HoldsNone V
  holds_none d = record { objects = tt; empty = omega arith }

  pub holds_more : HoldsMore V
  holds_more d e (held.Owner h) hs stands all bag count =
      let few = stands.bag in let le = few_listed hs in
      let c = covers_more Owner h.block h.place (length hs) (listed hs) (bag_of d) d.held (all.objects, all.empty) few le in
      let c' = subst (λ (y : List NumberedHandle × ℕ). Covers (suc (length hs)) (listed_more Owner h.block h.place (listed hs)) y.0 y.1)
      (λ i. (sym bag i, sym count i)) c in
      record { objects = c'.0; empty = c'.1 }
  holds_more d e (held.Weak h) hs stands all bag count =
      let few = stands.bag in let le = few_listed hs in
      let c = covers_more Weak h.block h.place (length hs) (listed hs) (bag_of d) d.held (all.objects, all.empty) few le in
      let c' = subst (λ (y : List NumberedHandle × ℕ). Covers (suc (length hs)) (listed_more Weak h.block h.place (listed hs)) y.0 y.1)
      (λ i. (sym bag i, sym count i)) c in
      record { objects = c'.0; empty = c'.1 }

  pub holds_less : HoldsLess V
  holds_less d e (held.Owner h) hs all bag count =
      let c : Covers (suc (length hs)) (listed_more Owner h.block h.place (listed hs)) (bag_of d) (e.held + 1) =
      (all.objects, subst (λ n. suc (length hs) - length (listed (held.Owner h ∷ hs)) ≤ n - length (bag_of d)) (sym count) all.empty) in
      let t = covers_less Owner h.block h.place (length hs) (listed hs) (bag_of d) e.held c (few_listed hs) in
      let t' = subst (λ y. Covers (length hs) (listed hs) y e.held) (sym bag) t in
      record { objects = t'.0; empty = t'.1 }
  holds_less d e (held.Weak h) hs all bag count =
      let c : Covers (suc (length hs)) (listed_more Weak h.block h.place (listed hs)) (bag_of d) (e.held + 1) =
      (all.objects, subst (λ n. suc (length hs) - length (listed (held.Weak h ∷ hs)) ≤ n - length (bag_of d)) (sym count) all.empty) in
      let t = covers_less Weak h.block h.place (length hs) (listed hs) (bag_of d) e.held c (few_listed hs) in
      let t' = subst (λ y. Covers (length hs) (listed hs) y e.held) (sym bag) t in
      record { objects = t'.0; empty = t'.1 }

  pub holds_rest : HoldsRest V
  holds_rest d (held.Owner h) hs all =
      let t = covers_rest Owner h.block h.place (length hs) (listed hs) (bag_of d) d.held (all.objects, all.empty) (few_listed hs) in
      record { objects = t.0; empty = t.1 }
  holds_rest d (held.Weak h) hs all =
      let t = covers_rest Weak h.block h.place (length hs) (listed hs) (bag_of d) d.held (all.objects, all.empty) (few_listed hs) in
      record { objects = t.0; empty = t.1 }

  holds_kind : (d : DeskNow V) (k : Kind) (b : Option Block) (p : Option Place) → IsCovered k b p (bag_of d) d.held
      → Rattle.control_block.specs.CellCalls.HoldsHandle d k b p
  holds_kind d k None p is = is
  holds_kind d k (Some b) p is = is

  holds_first : (d : DeskNow V) (h : Held) (hs : List Held) → HoldsAll d (h ∷ hs) → IsHeldByDesk d h
  holds_first d (held.Owner h) hs all =
      holds_kind d Owner h.block h.place
      (covers_first Owner h.block h.place (length hs) (listed hs) (bag_of d) d.held (all.objects, all.empty) (few_listed hs))
  holds_first d (held.Weak h) hs all =
      holds_kind d Weak h.block h.place
      (covers_first Weak h.block h.place (length hs) (listed hs) (bag_of d) d.held (all.objects, all.empty) (few_listed hs))

  pub holds_each : HoldsEach V
  holds_each d h [] all has = absurd has
  holds_each d h (x ∷ hs) all has =
      ⊎_elim (λ (e : h ≡ x). subst (IsHeldByDesk d) (sym e) (holds_first d x hs all)) (λ t. holds_each d h hs (holds_rest d x hs all) t) has

  pub holds_part : HoldsPart V
  holds_part d hs ks all =
      let le = few_listed ks in let a = listed_append hs ks in let n = ap length a ∙ length-append (listed hs) (listed ks) in
      let m = length-append hs ks in let x = all.empty in
      record { objects = part_in (listed hs) (listed ks) (bag_of d) (subst (λ l. AreIn l (bag_of d)) a all.objects); empty = omega arith }

  pub holds_apart : HoldsApart V
  holds_apart d a k hs ks e new all parts =
      let le = few_listed hs in let l = listed_append hs ks in let n = ap length l ∙ length-append (listed hs) (listed ks) in
      let m = length-append hs ks in let x = all.empty in
      let both = subst (λ l. AreIn l (bag_of d)) l all.objects in
      let mine = part_in (listed hs) (listed ks) (bag_of d) both in
      let s = rest_length (listed hs) (bag_of d) mine in
      let left = ap length parts.bag.1 in let given = ap length parts.bag.0 in
      let held_new = parts.held.0 in let held_left = parts.held.1 in (
        record {
          objects = subst (AreIn (listed hs)) (sym parts.bag.0) (are_in (listed hs) (listed hs) (λ g. omega arith));
          empty = omega arith;
        },
        record {
          objects = subst (AreIn (listed ks)) (sym parts.bag.1) (rest_in (listed hs) (listed ks) (bag_of d) both);
          empty = omega arith;
        },
      )

  pub holds_both : HoldsBoth V
  holds_both d other e hs ks one two mine others bags count =
      let l = listed_append hs ks in let n = ap length l ∙ length-append (listed hs) (listed ks) in
      let m = length-append hs ks in let x = mine.empty in let y = others.empty in
      let a = few_listed hs in let b = few_listed ks in let few = one.bag in let few' = two.bag in
      let size = length_permutation (bag_of d ++ bag_of other) (bag_of e) bags in
      let both = length-append (bag_of d) (bag_of other) in
      record {
        objects = subst (λ r. AreIn r (bag_of e)) (sym l)
            (both_in (listed hs) (listed ks) (bag_of d) (bag_of other) (bag_of e) bags mine.objects others.objects);
        empty = omega arith;
      }

  pub holds_in_order : HoldsInOrder V
  holds_in_order d hs ks moved all =
      let size = length_permutation hs ks moved in
      let same : (p : NumberedHandle → Bool) → num p (listed ks) ≡ num p (listed hs) =
      λ p. num_listed p ks ∙ (sum_by-IsPermutation (one_worth p) hs ks moved ∙ sym (num_listed p hs)) in
      let count = same (λ h. true) in let a = num_all (listed ks) in let b = num_all (listed hs) in let x = all.empty in
      record {
        objects = are_in (listed ks) (bag_of d) (λ h. let s = same (same_handle h) in let t = counted (listed hs) (bag_of d) all.objects h in omega arith);
        empty = omega arith;
      }
