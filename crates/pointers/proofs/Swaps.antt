-- A desk that holds all of a list does so after a call that takes one handle and gives another.
use Rattle.std.proofs.Common.{◌≡◌, ℕ, suc, ◌+◌, ◌-◌, ◌≤◌, List, ◌∷◌, map, length, Some, None}
use Rattle.std.proofs.Common.{Option, sym, refl, subst, inl, arith}
use Rattle.pointers.proofs.Prelude.{AreIn, bag_of, Block, DeskNow, handle, has_object, Held}
use Rattle.pointers.proofs.Prelude.{HoldsAll, Kind, listed, NumberedHandle, Owner, Place, Standing}
use Rattle.pointers.proofs.Prelude.{Weak, with_handle, with_held, without_held}
use Rattle.std.specs.List.{filter}
use Rattle.control_word.proofs.lists.Tallies.{handle_self, same_handle_true}
use Rattle.control_word.specs.Handles.{same_handle}
use Rattle.control_block.proofs.Bags.{taken_out}
use Rattle.control_block.proofs.PartingLists.{length_without}
use Rattle.control_block.proofs.PartingSplit.{few_listed}
use Rattle.control_block.specs.CellCalls.{without_handle}
use Rattle.control_block.specs.Parting.{as_listed, number_of_block}
use Rattle.control_block.specs.declared.handles.Held.TheVariants as held

-- the handles that are listed, of so many, are among those of a bag and as many more as are counted
record Covers (n : ℕ) (l bag : List NumberedHandle) (m : ℕ) : Type 0 where
  objects : AreIn l bag
  empty : n - length l ≤ m - length bag

one : (k : Kind) (b : Option Block) (p : Option Place) (hs : List Held)
    → filter has_object (handle k (number_of_block b) p ∷ map as_listed hs) ≡ with_handle k b p (listed hs)
one k None p hs = refl
one k (Some b) p hs = refl

-- one goes, and then one comes
goes : (k : Kind) (b : Option Block) (p : Option Place) (n : ℕ) (l bag : List NumberedHandle) (m : ℕ) → Covers (suc n) (with_handle k b p l) bag m
    → length l ≤ n → length bag ≤ m → AreIn l (without_handle k b p bag) × (n - length l + length (without_handle k b p bag) + 1 ≤ m)
goes k None p n l bag m c le few = let x = c.empty in (c.objects, omega arith)
goes k (Some b) p n l bag m c le few =
    let h = handle k (Some b.0) p in let x = c.empty in
    let less = length_without same_handle same_handle_true handle_self h bag c.objects.0 in (c.objects.1, omega arith)

comes : (k : Kind) (b : Option Block) (p : Option Place) (n : ℕ) (l bag : List NumberedHandle) (m : ℕ) → AreIn l bag
    → length l ≤ n → n - length l + length bag + 1 ≤ m → Covers (suc n) (with_handle k b p l) (with_handle k b p bag) m
comes k None p n l bag m all le few = record { objects = all; empty = omega arith }
comes k (Some b) p n l bag m all le few =
    let h = handle k (Some b.0) p in record { objects = (inl refl, subst (AreIn l) (sym (taken_out h bag)) all); empty = omega arith }

swaps : (k j : Kind) (b a : Option Block) (p q : Option Place) (n : ℕ) (l bag : List NumberedHandle) (m : ℕ) → Covers (suc n) (with_handle k b p l) bag m
    → length l ≤ n → length bag ≤ m → Covers (suc n) (with_handle j a q l) (with_handle j a q (without_handle k b p bag)) m
swaps k j b a p q n l bag m c le few = let t = goes k b p n l bag m c le few in comes j a q n l (without_handle k b p bag) m t.0 le t.1

-- the list with one handle more, as a bag lists it
listed_one : (h : Held) (hs : List Held) → listed (h ∷ hs) ≡ with_held h (listed hs)
listed_one (held.Owner h) hs = one Owner h.block h.place hs
listed_one (held.Weak h) hs = one Weak h.block h.place hs

swaps_held : (x y : Held) (n : ℕ) (l bag : List NumberedHandle) (m : ℕ) → Covers (suc n) (with_held x l) bag m
    → length l ≤ n → length bag ≤ m → Covers (suc n) (with_held y l) (with_held y (without_held x bag)) m
swaps_held (held.Owner x) (held.Owner y) n l bag m c le few = swaps Owner Owner x.block y.block x.place y.place n l bag m c le few
swaps_held (held.Owner x) (held.Weak y) n l bag m c le few = swaps Owner Weak x.block y.block x.place y.place n l bag m c le few
swaps_held (held.Weak x) (held.Owner y) n l bag m c le few = swaps Weak Owner x.block y.block x.place y.place n l bag m c le few
swaps_held (held.Weak x) (held.Weak y) n l bag m c le few = swaps Weak Weak x.block y.block x.place y.place n l bag m c le few

module _ {V : Type 0} where
  pub holds_swapped : (d e : DeskNow V) (x y : Held) (hs : List Held) → Standing d → HoldsAll d (x ∷ hs)
      → bag_of e ≡ with_held y (without_held x (bag_of d)) → e.held ≡ d.held → HoldsAll e (y ∷ hs)
  holds_swapped d e x y hs stands all bag held =
      let before = subst (λ l. Covers (suc (length hs)) l (bag_of d) d.held) (listed_one x hs) (record { objects = all.objects; empty = all.empty }) in
      let after = swaps_held x y (length hs) (listed hs) (bag_of d) d.held before (few_listed hs) stands.bag in
      let there = subst (λ l. Covers (suc (length hs)) l (bag_of e) e.held) (sym (listed_one y hs))
      (subst (λ (z : List NumberedHandle × ℕ). Covers (suc (length hs)) (with_held y (listed hs)) z.0 z.1) (λ i. (sym bag i, sym held i)) after) in
      record { objects = there.objects; empty = there.empty }
