-- What stands in a list as often as it is given, told by counts.
use Rattle.std.proofs.Common.{◌≡◌, ◌+◌, ◌<◌, ◌≤◌, Bool, cond, List, [], ◌∷◌, ◌++◌, length, sym, ap}
use Rattle.std.proofs.Common.{◌∙◌, inl, inr, arith, length-append}
use Rattle.control_block.proofs.Prelude.{AreIn, cond-true, cond_both, filter, filter-append}
use Rattle.control_block.proofs.Prelude.{handle_self, Has, IsPermutation, length-filter, num}
use Rattle.control_block.proofs.Prelude.{num_cons, num_without, NumberedHandle, same_handle}
use Rattle.control_block.proofs.Prelude.{same_handle_true, sum_by-IsPermutation, without}

pub counted : (hs l : List NumberedHandle) → AreIn hs l → (h : NumberedHandle) → num (same_handle h) hs ≤ num (same_handle h) l
counted [] l all h = omega arith
counted (x ∷ hs) l all h =
    let t = counted hs (without same_handle x l) all.1 h in let a = num_cons (same_handle h) x hs in
    let b = num_without same_handle same_handle_true handle_self (same_handle h) x l all.0 in omega arith

found : (x : NumberedHandle) (l : List NumberedHandle) → 0 < num (same_handle x) l → Has x l
found x [] lt = absurd (omega arith)
found x (y ∷ l) lt =
    cond_both (same_handle x y) (y ∷ filter (same_handle x) l) (filter (same_handle x) l) (λ r. 0 < length r → Has x (y ∷ l))
    (λ e q. inl (same_handle_true x y e)) (λ e q. inr (found x l q)) lt

pub are_in : (hs l : List NumberedHandle) → ((h : NumberedHandle) → num (same_handle h) hs ≤ num (same_handle h) l) → AreIn hs l
are_in [] l le = tt
are_in (x ∷ hs) l le =
    let one : num (same_handle x) (x ∷ hs) ≡ Rattle.std.proofs.Common.suc (num (same_handle x) hs) =
    ap length (cond-true (same_handle x x) (x ∷ filter (same_handle x) hs) (filter (same_handle x) hs) (handle_self x)) in
    let here = found x l (let t = le x in omega arith) in (
      here,
      are_in hs (without same_handle x l) (λ h.
          let t = le h in let a = num_cons (same_handle h) x hs in
          let b = num_without same_handle same_handle_true handle_self (same_handle h) x l here in omega arith),
    )

num_append : (p : NumberedHandle → Bool) (xs ys : List NumberedHandle) → num p (xs ++ ys) ≡ num p xs + num p ys
num_append p xs ys = ap length (filter-append p xs ys) ∙ length-append (filter p xs) (filter p ys)

num_moved : (p : NumberedHandle → Bool) (xs ys : List NumberedHandle) → IsPermutation xs ys → num p ys ≡ num p xs
num_moved p xs ys m = length-filter p ys ∙ (sum_by-IsPermutation (λ h. cond (p h) 1 0) xs ys m ∙ sym (length-filter p xs))

-- what is in two lists is in one that has what both have
pub both_in : (hs ks l m r : List NumberedHandle) → IsPermutation (l ++ m) r → AreIn hs l → AreIn ks m → AreIn (hs ++ ks) r
both_in hs ks l m r moved one two =
    are_in (hs ++ ks) r (λ h.
    let p = same_handle h in let a = counted hs l one h in let b = counted ks m two h in
    let x = num_append p hs ks in let y = num_append p l m in let z = num_moved p (l ++ m) r moved in omega arith)
