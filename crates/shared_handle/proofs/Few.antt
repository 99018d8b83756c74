-- Objects that end in the desk's hands, each in a block of its own, are no more than are counted there.
use Rattle.std.proofs.Common.{◌≡◌, ℕ, suc, ◌-◌, ◌≤◌, ◌≢◌, List, [], ◌∷◌, length, ◌==◌, sym, refl}
use Rattle.std.proofs.Common.{ap, ◌∙◌, subst, arith, eq-eqb}
use Rattle.shared_handle.proofs.Prelude.{AllEnd, cond-true, DeskNow, Ending, ending, endings_of}
use Rattle.shared_handle.proofs.Prelude.{InShape, IsLegal, latest_of, NotAmong, opening_of, put}
use Rattle.shared_handle.proofs.Prelude.{sound, state_of}
use Rattle.control_word.proofs.lists.Sums.{sum_put}
use Rattle.control_word.proofs.lists.Tallies.{put_other}
use Rattle.control_word.specs.State.{common, sum_below, unmade}
use Rattle.control_block.specs.Desks.{ends_with}

ends_unmade : (d : ℕ) → ending d ≡ unmade → ⊥
ends_unmade d e = cc

module _ {V : Type 0} where
  -- the blocks of the list are apart, and f is 1 at each, below n
  abbrev Marks : ℕ → (ℕ → ℕ) → List (Ending V) → Type 0
  Marks n f [] = Unit {0}
  Marks n f (x ∷ xs) = (1 ≤ x.block.0) × (x.block.0 ≤ n) × (f (x.block.0 - 1) ≡ 1) × NotAmong x.block.0 xs × Marks n f xs

  -- another place is set to 0
  unmarked : (n b : ℕ) (f : ℕ → ℕ) (xs : List (Ending V)) → 1 ≤ b → NotAmong b xs → Marks n f xs → Marks n (put f (b - 1) 0) xs
  unmarked n b f [] low apart marks = tt
  unmarked n b f (x ∷ xs) low apart marks = let one = marks.0 in (
    marks.0,
    marks.1,
    put_other f (b - 1) 0 (x.block.0 - 1) (λ e. apart.0 (omega arith)) ∙ marks.2,
    marks.3,
    unmarked n b f xs low apart.1 marks.4,
  )

  few_marked : (n : ℕ) (f : ℕ → ℕ) (xs : List (Ending V)) → Marks n f xs → length xs ≤ sum_below n f
  few_marked n f [] marks = omega arith
  few_marked n f (x ∷ xs) marks =
      let low = marks.0 in let high = marks.1 in let is = marks.2 in
      let a = (sum_put n (x.block.0 - 1) 0 f).0 (omega arith) in
      let t = few_marked n (put f (x.block.0 - 1) 0) xs (unmarked n x.block.0 f xs low marks.3 marks.4) in omega arith

  marked : (d : DeskNow V) (xs : List (Ending V)) → IsLegal (opening_of d.shape) d.seen → AllEnd d xs
      → Marks d.shape.blocks (λ j. ends_with d.name ((state_of d).object ((state_of d).latest (suc j))).phase) xs
  marked d [] legal all = tt
  marked d (x ∷ xs) legal all =
      let z = opening_of d.shape in let s = state_of d in let b = x.block.0 in let o = latest_of d b in
      let fine = sound z d.seen legal in
      let phase : (s.object o).phase ≡ ending d.name = all.0.ends.phase in
      let there : o ≢ 0 = λ e. ends_unmade d.name (sym phase ∙ (ap (λ i. (s.object i).phase) e ∙ fine.none)) in
      let at : (s.object o).block ≡ b = fine.latest_in b there in
      let inside : InShape z b = subst (InShape z) at (fine.placed o (let k = ap common phase in omega arith)).1 in
      let low = inside.0 in
      let p : suc (b - 1) ≡ b = omega arith in
      let is : ends_with d.name (s.object (s.latest (suc (b - 1)))).phase ≡ 1 =
      ap (λ i. ends_with d.name (s.object (s.latest i)).phase) p
      ∙ (ap (ends_with d.name) phase ∙ cond-true (d.name == d.name) 1 0 (eq-eqb d.name d.name refl)) in
      (inside.0, inside.1, is, all.1, marked d xs legal all.2)

  pub few_listed : (d : DeskNow V) (xs : List (Ending V)) → IsLegal (opening_of d.shape) d.seen → AllEnd d xs → length xs ≤ endings_of d
  few_listed d xs legal all = few_marked d.shape.blocks _ xs (marked d xs legal all)
