-- Every object has four fields, and what a table tells of an object that is left to end is what it was made as.
use Rattle.std.proofs.Common.{◌≡◌, ℕ, zero, suc, ◌<◌, ◌≤◌, true, false, cond, ◌⊎◌, List, [], ◌∷◌}
use Rattle.std.proofs.Common.{length, slice_index, sym, refl, ap, ◌∙◌, inl, inr, ⊎_elim, arith}
use Rattle.script_runner.proofs.Prelude.{after, Asks, Compare, Entry, Event, Free, IsFour, IsLegal}
use Rattle.script_runner.proofs.Prelude.{Join, latest_of, leads, Object, object_in, Opening}
use Rattle.script_runner.proofs.Prelude.{opening_of, put_same, Remains, remains, remains_ended}
use Rattle.script_runner.proofs.Prelude.{sound, Split, State, stays_as_made, Swap}
use Rattle.control_word.specs.declared.model.event.Cell.TheVariants.{Member}
use Rattle.control_word.specs.declared.model.event.Event.TheVariants.{ClearMember, Count, Expired}
use Rattle.control_word.specs.declared.model.event.Event.TheVariants.{Finish, Leave, Load, Lock}
use Rattle.control_word.specs.declared.model.event.Event.TheVariants.{Make, Read, Same, Share}
use Rattle.control_word.specs.declared.model.event.Event.TheVariants.{Visit, WeakLeave, WeakShare}
use Rattle.control_word.specs.declared.model.event.Event.TheVariants.{Shelve, Unshelve}
use Rattle.script_runner.specs.Ends.{IsMadeAs}
use Rattle.script_runner.specs.declared.table.ends.Remains.TheVariants as table
use Rattle.script_runner.proofs.Ending.{not_none}
use Rattle.script_runner.specs.EndCalls.{RemainsIn}
use Rattle.step_table.specs.declared.memory.ended.Ended.TheVariants as ended

le_or_lt : (a b : ℕ) → (a ≤ b) ⊎ (b < a)
le_or_lt zero b = inl (omega arith)
le_or_lt (suc a) zero = inr (omega arith)
le_or_lt (suc a) (suc b) = ⊎_elim (λ l. inl (omega (arith, l))) (λ l. inr (omega (arith, l))) (le_or_lt a b)

same_lists : (xs ys : List ℕ) → length xs ≡ length ys → ((k : ℕ) → k < length xs → slice_index xs k ≡ slice_index ys k) → xs ≡ ys
same_lists [] [] e h = refl
same_lists [] (y ∷ ys) e h = let no : ⊥ = omega (arith, e) in absurd no
same_lists (x ∷ xs) [] e h = let no : ⊥ = omega (arith, e) in absurd no
same_lists (x ∷ xs) (y ∷ ys) e h =
    let rest = same_lists xs ys (omega (arith, e)) (λ k lt. h (suc k) (omega (arith, lt))) in
    λ i. h 0 (omega arith) i ∷ rest i

-- what a table tells of it
told_as : (o : Object) (r : Remains) → length o.fields ≡ 4 → IsFour r → IsMadeAs o r → remains_ended r ≡ remains o
told_as o table.Null four is made = ap (λ b. cond b ended.Null (ended.Fields o.fields)) (sym made)
told_as o (table.Fields fields) four is made =
    ap ended.Fields (same_lists fields o.fields (is ∙ sym four) (λ k lt. made.1 k (omega (arith, lt, is))))
    ∙ ap (λ b. cond b ended.Null (ended.Fields o.fields)) (sym made.0)

module _ {V : Type 0} where
  new_four : (s : State) (d : ℕ) (a : Event V) (o : ℕ) → Asks s d a → s.made < o → o ≤ (after s d a).made
      → length ((after s d a).object o).fields ≡ 4
  new_four s d (Make b enabled null fields x) o asks low high =
      let is : o ≡ suc s.made = omega (arith, low, high) in
      ap (λ (y : Object). length y.fields) (put_same s.object (suc s.made) _ o is) ∙ asks.1
  new_four s d (Swap (Free c) new old) o asks low high = let no : ⊥ = omega (arith, low, high) in absurd no
  new_four s d (Swap (Member q m) new old) o asks low high = let no : ⊥ = omega (arith, low, high) in absurd no
  new_four s d (Compare (Free c) ex new y true w) o asks low high = let no : ⊥ = omega (arith, low, high) in absurd no
  new_four s d (Compare (Member q m) ex new y true w) o asks low high = let no : ⊥ = omega (arith, low, high) in absurd no
  new_four s d (Compare c ex new y false w) o asks low high = let no : ⊥ = omega (arith, low, high) in absurd no
  new_four s d (Leave y last) o asks low high = let no : ⊥ = omega (arith, low, high) in absurd no
  new_four s d (ClearMember q m y) o asks low high = let no : ⊥ = omega (arith, low, high) in absurd no
  new_four s d (Finish q v y) o asks low high = let no : ⊥ = omega (arith, low, high) in absurd no
  new_four s d (Split to a hs bs) o asks low high = let no : ⊥ = omega (arith, low, high) in absurd no
  new_four s d (Join other) o asks low high = let no : ⊥ = omega (arith, low, high) in absurd no
  new_four s d (Share y q) o asks low high = let no : ⊥ = omega (arith, low, high) in absurd no
  new_four s d (Count y c) o asks low high = let no : ⊥ = omega (arith, low, high) in absurd no
  new_four s d (Expired y c) o asks low high = let no : ⊥ = omega (arith, low, high) in absurd no
  new_four s d (Read y c) o asks low high = let no : ⊥ = omega (arith, low, high) in absurd no
  new_four s d (Same c y so) o asks low high = let no : ⊥ = omega (arith, low, high) in absurd no
  new_four s d (WeakShare q y) o asks low high = let no : ⊥ = omega (arith, low, high) in absurd no
  new_four s d (WeakLeave y v) o asks low high = let no : ⊥ = omega (arith, low, high) in absurd no
  new_four s d (Lock y got) o asks low high = let no : ⊥ = omega (arith, low, high) in absurd no
  new_four s d (Load c got) o asks low high = let no : ⊥ = omega (arith, low, high) in absurd no
  new_four s d (Visit y c w) o asks low high = let no : ⊥ = omega (arith, low, high) in absurd no
  new_four s d (Shelve c) o asks low high = let no : ⊥ = omega (arith, low, high) in absurd no
  new_four s d (Unshelve c) o asks low high = let no : ⊥ = omega (arith, low, high) in absurd no

  pub four_fields : (z : Opening) (h : List (Entry V)) → IsLegal z h → (o : ℕ) → 1 ≤ o → o ≤ (leads z h).made
      → length ((leads z h).object o).fields ≡ 4
  four_fields z [] legal o low high = let no : ⊥ = omega (arith, low, high) in absurd no
  four_fields z (e ∷ h) legal o low high =
      ⊎_elim
      (λ (old : o ≤ (leads z h).made).
      ap length (stays_as_made z (e ∷ []) h o old).1 ∙ four_fields z h legal.0 o low old)
      (λ (new : (leads z h).made < o). new_four (leads z h) e.desk e.event o legal.1.asks new high)
      (le_or_lt o (leads z h).made)

  pub remains_in : RemainsIn V
  remains_in d b x r stands ends is made =
      let z = opening_of d.shape in
      let so = sound z d.seen stands.legal in
      let o = latest_of d b in
      let some : 1 ≤ o = let e = not_none d b x stands.legal ends in omega (arith, e) in
      told_as (object_in d b) r (four_fields z d.seen stands.legal o some (so.latest_made b)) is made
