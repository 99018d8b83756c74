-- What is the least block of a desk's store, if there is one.
use Rattle.std.proofs.Common.{◌≡◌, ℕ, Bool, true, false, cond, List, [], ◌∷◌, ◌==◌, Some, None}
use Rattle.std.proofs.Common.{Option, sym, refl, ◌∙◌}
use Rattle.script_stepper.proofs.Prelude.{least, same_Some}
use Rattle.std.specs.List.{filter}
use Rattle.control_word.specs.State.{Stored}
use Rattle.step_threads.specs.Entries.{lesser}

none_some : (b : ℕ) → None ≡ Some b → ⊥
none_some b e = cc

none_least_in : (b : Bool) (x : Stored) (l : List Stored) (o : Option ℕ) → (l ≡ [] → o ≡ None) → cond b (x ∷ l) l ≡ []
    → cond b (lesser x.block o) o ≡ None
none_least_in true x l o rest e = cc
none_least_in false x l o rest e = rest e

none_least : (d : ℕ) (xs : List Stored) → filter (λ (x : Stored). x.desk == d) xs ≡ [] → least d xs ≡ None
none_least d [] e = refl
none_least d (x ∷ xs) e = none_least_in (x.desk == d) x (filter (λ (y : Stored). y.desk == d) xs) (least d xs) (none_least d xs) e

-- an empty store has none
pub least_of_none : (d : ℕ) (xs : List Stored) (b : ℕ) → filter (λ (x : Stored). x.desk == d) xs ≡ [] → least d xs ≡ Some b → ⊥
least_of_none d xs b e is = none_some b (sym (none_least d xs e) ∙ is)

-- there is one only
pub least_is_one : (d : ℕ) (xs : List Stored) (b c : ℕ) → least d xs ≡ Some b → least d xs ≡ Some c → b ≡ c
least_is_one d xs b c is so = same_Some b c (sym is ∙ so)
