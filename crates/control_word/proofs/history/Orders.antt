-- Owner order and the equivalence of handles.
use Rattle.std.proofs.Common.{◌≡◌, ℕ, ◌≤◌, Bool, true, false, List, nat_lt, Some, None, sym, refl}
use Rattle.std.proofs.Common.{ap, ◌∙◌, subst, inl, inr, ⊎_elim, arith, ltb-true, lt-ltb}
use Rattle.control_word.proofs.Prelude.{and_parts, blocks_of, cases_lt, Entry, equivalent, handle}
use Rattle.control_word.proofs.Prelude.{Holds, InHand, IsLegal, Kind, leads, NumberedHandle}
use Rattle.control_word.proofs.Prelude.{object_of, Opening, same_kind, same_number, same_place}
use Rattle.control_word.proofs.history.Given.{names_an_object}
use Rattle.control_word.proofs.lists.Tallies.{handle_self, same_number_true, same_place_true}
use Rattle.control_word.specs.Handles.{rank}
use Rattle.control_word.specs.Laws.{IsEquivalence, IsStrictWeakOrder, OrdersByOwner}

-- the test says false exactly where its numbers are the other way round
below_false : (a b : ℕ) → b ≤ a → nat_lt a b ≡ false
below_false a b le = go (nat_lt a b) refl
  where
    go : (t : Bool) → nat_lt a b ≡ t → t ≡ false
    go false e = refl
    go true e = absurd (let u = ltb-true a b e in omega arith)

false_below : (a b : ℕ) → nat_lt a b ≡ false → b ≤ a
false_below a b e = ⊎_elim (λ lt. absurd (let u = lt-ltb a b lt in cc)) (λ le. le) (cases_lt a b)

pub strict_weak_order : IsStrictWeakOrder
strict_weak_order block = (
  (λ x. below_false (rank block x) (rank block x) (omega arith)),
  (λ x y w a b.
      let p = ltb-true (rank block x) (rank block y) a in
      let q = ltb-true (rank block y) (rank block w) b in lt-ltb (rank block x) (rank block w) (omega arith)),
  (λ x y w a.
      let p = ltb-true (rank block x) (rank block w) a in
      ⊎_elim (λ lt. inl (lt-ltb (rank block x) (rank block y) lt))
      (λ le. inr (lt-ltb (rank block y) (rank block w) (omega arith)))
      (cases_lt (rank block x) (rank block y))),
)

-- handles are equivalent where their objects and their places are the same
equivalent_same : (x y : NumberedHandle) → equivalent x y ≡ true → (x.object ≡ y.object) × (x.place ≡ y.place)
equivalent_same x y e =
    let t = and_parts (same_number x.object y.object) (same_place x.place y.place) e in
    (same_number_true x.object y.object t.0, same_place_true x.place y.place t.1)

pub same_equivalent : (x y : NumberedHandle) → x.object ≡ y.object → x.place ≡ y.place → equivalent x y ≡ true
same_equivalent x y e p =
    let self = and_parts (same_kind x.kind x.kind) (equivalent x x) (handle_self x) in
    subst (λ n. equivalent x (handle y.kind n y.place) ≡ true) e
    (subst (λ n. equivalent x (handle y.kind x.object n) ≡ true) p self.1)

pub equivalence : IsEquivalence
equivalence = (
  (λ x. same_equivalent x x refl refl),
  (λ x y e. let t = equivalent_same x y e in same_equivalent y x (sym t.0) (sym t.1)),
  (λ x y w a b.
      let t = equivalent_same x y a in
      let u = equivalent_same y w b in same_equivalent x w (t.0 ∙ u.0) (t.1 ∙ u.1)),
)

-- the rank of a handle by its object
rank_none : (block : ℕ → ℕ) (x : NumberedHandle) → x.object ≡ None → rank block x ≡ 0
rank_none block x e = ap (λ n. rank block (handle x.kind n x.place)) e

rank_some : (block : ℕ → ℕ) (x : NumberedHandle) → x.object ≡ Some (object_of x) → rank block x ≡ block (object_of x)
rank_some block x e = ap (λ n. rank block (handle x.kind n x.place)) e

same_rank : (block : ℕ → ℕ) (x y : NumberedHandle) → x.object ≡ y.object → rank block x ≡ rank block y
same_rank block x y e = ap (λ n. rank block (handle x.kind n x.place)) e

module _ {V : Type 0} where
  -- the rank of a handle with an object is its block, where the object is the latest
  held_rank : (z : Opening) (h : List (Entry V)) → IsLegal z h → (d : ℕ) (k : Kind) (x : NumberedHandle)
      → Holds (leads z h) d k x
      → let s = leads z h in let b = rank (blocks_of s) x in (1 ≤ b) × (s.latest b ≡ object_of x)
  held_rank z h legal d k x hold =
      let s = leads z h in
      let named = names_an_object z h legal d k x hold in
      let e = rank_some (blocks_of s) x hold.2 in
      let low = named.3.0 in (omega arith, ap s.latest e ∙ named.2)

  ranks_apart : (z : Opening) (h : List (Entry V)) → IsLegal z h → (d e : ℕ) (k l : Kind) (x y : NumberedHandle)
      → InHand (leads z h) d k x → InHand (leads z h) e l y
      → rank (blocks_of (leads z h)) x ≡ rank (blocks_of (leads z h)) y
      → x.object ≡ y.object
  ranks_apart z h legal d e k l x y hx hy same =
      let s = leads z h in
      let block = blocks_of s in
      ⊎_elim
      (λ a.
      let p = rank_none block x a.0 in
      ⊎_elim (λ b. a.0 ∙ sym b.0) (λ b. let q = (held_rank z h legal e l y b).0 in absurd (omega arith)) hy.1)
      (λ a.
      let p = held_rank z h legal d k x a in
      let p0 = p.0 in
      ⊎_elim (λ b. let q = rank_none block y b.0 in absurd (omega arith))
      (λ b.
      let q = held_rank z h legal e l y b in
      let o : object_of x ≡ object_of y = sym p.1 ∙ (ap s.latest same ∙ q.1) in
      a.2 ∙ (ap Some o ∙ sym b.2)) hy.1)
      hx.1

  pub orders_by_owner : OrdersByOwner V
  orders_by_owner z h legal d e k l x y hx hy =
      let block = blocks_of (leads z h) in (
        (λ t.
            let a = false_below (rank block x) (rank block y) t.0 in
            let b = false_below (rank block y) (rank block x) t.1 in
            ranks_apart z h legal d e k l x y hx hy (omega arith)),
        (λ same.
            let r = same_rank block x y same in
            let p = below_false (rank block x) (rank block y) (omega arith) in
            let q = below_false (rank block y) (rank block x) (omega arith) in (p, q)),
      )
