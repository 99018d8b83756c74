-- The top of a pile, where it lies.
use Rattle.std.proofs.Common.{◌≡◌, ℕ, zero, suc, ◌+◌, ◌-◌, ◌<◌, ◌≤◌, List, [], ◌∷◌, ◌++◌, length}
use Rattle.std.proofs.Common.{slice_index_or, slice_set, vec_len, vec_capacity, sym, refl, ap, ◌∙◌}
use Rattle.std.proofs.Common.{subst, arith}
use Rattle.shared_handle.proofs.Prelude.{AllEnd, Carries, DeskNow, DomainNow, Ending, EndsInHand}
use Rattle.shared_handle.proofs.Prelude.{IsBeside, IsClearing, IsSameDesk, KeepsOtherEndings, Left}
use Rattle.shared_handle.proofs.Prelude.{more_ending, Pile, piled, Standing}
use Rattle.control_block.specs.Desks.{Belongs}
use Rattle.shared_handle.proofs.PiledEndings.{all_last, below_left, cleared, piled_many}
use Rattle.shared_handle.proofs.Piles.{fits}

-- what lies last in a list, and what lies below it
pub record IsTop {A : Type 0} (xs : List A) (k : ℕ) (x : A) : Type 0 where
  pub below : List A
  pub are : xs ≡ below ++ x ∷ []
  pub set : (y : A) → slice_set xs k y ≡ below ++ y ∷ []

pub top_at : {A : Type 0} (xs : List A) (k : ℕ) (x : A) → suc k ≡ length xs → x ≡ slice_index_or xs k x → IsTop xs k x
top_at [] k x many e = absurd (cc many)
top_at (y ∷ []) zero x many e = record { below = []; are = ap (λ z. z ∷ []) (sym e); set = λ z. refl }
top_at {A} (y ∷ []) (suc k) x many e = absurd (let none : suc k ≡ length {A = A} [] = cc many in cc none)
top_at {A} (y ∷ (z ∷ zs)) zero x many e = absurd (let none : zero ≡ length {A = A} (z ∷ zs) = cc many in cc none)
top_at (y ∷ (z ∷ zs)) (suc k) x many e =
    let fewer : suc k ≡ length (z ∷ zs) = omega arith in
    let t = top_at (z ∷ zs) k x fewer e in
    record { below = y ∷ t.below; are = ap (λ l. y ∷ l) t.are; set = λ w. ap (λ l. y ∷ l) (t.set w) }

none_last : {A : Type 0} (xs : List A) (x : A) → [] ≡ xs ++ x ∷ [] → ⊥
none_last [] x e = cc e
none_last (y ∷ xs) x e = cc e

-- two lists that are the same have the same last
pub same_last : {A : Type 0} (xs ys : List A) (x y : A) → xs ++ x ∷ [] ≡ ys ++ y ∷ [] → x ≡ y
same_last [] [] x y e = cc e
same_last [] (b ∷ ys) x y e = absurd (none_last ys y (cc e))
same_last (a ∷ xs) [] x y e = absurd (none_last xs x (cc e))
same_last (a ∷ xs) (b ∷ ys) x y e = same_last xs ys x y (cc e)

-- the last, written back as it was and then taken
pub taken : {A : Type 0} (xs ys : List A) (k : ℕ) (x y : A) → IsTop xs k x → slice_set xs k x ≡ ys ++ y ∷ []
    → (xs ≡ ys ++ y ∷ []) × (x ≡ y)
taken xs ys k x y t e =
    let were = t.are ∙ (sym (t.set x) ∙ e) in (were, same_last t.below ys x y (sym t.are ∙ were))

module _ {V : Type 0} where
  pub top_of_pile : (p : Pile V) (x : Ending V) → 0 < vec_len p.endings → x ≡ slice_index_or p.endings.items (vec_len p.endings - 1) x
      → IsTop p.endings.items (vec_len p.endings - 1) x
  top_of_pile p x some e = top_at p.endings.items (vec_len p.endings - 1) x (omega arith) e

  -- the top was cleared where it lies, and there is room for what ends for it
  pub top_room : (domain : DomainNow) (d e : DeskNow V) (below ys : List (Ending V)) (x y : Ending V) (left : Left V) (n : ℕ)
      → Belongs d domain → AllEnd d (below ++ x ∷ []) → domain.shape.blocks ≤ n
      → IsClearing d x left e → KeepsOtherEndings d x.block.0 e → IsBeside x.block.0 left → y.block ≡ x.block → EndsInHand e y
      → e.shape ≡ d.shape → Standing e → ys ≡ below ++ y ∷ [] → length ys + more_ending left ≤ n
  top_room domain d e below ys x y left n belongs all room clears keeps beside same ends shape stands are =
      let s = all_last d below x all in
      let t = below_left e y below left (cleared d e x y left below (s.1, s.2, s.0) clears keeps beside same ends) in
      let a = fits domain e (piled (below ++ y ∷ []) left) n stands (shape ∙ belongs.shape) room t in
      let b = piled_many (below ++ y ∷ []) left in let c = ap length are in omega arith

  -- and that went onto it
  pub top_back : (domain : DomainNow) (d e : DeskNow V) (q : Pile V) (below : List (Ending V)) (x y : Ending V) (left : Left V) (n : ℕ)
      → Belongs d domain → AllEnd d (below ++ x ∷ []) → domain.shape.blocks ≤ n
      → IsClearing d x left e → KeepsOtherEndings d x.block.0 e → IsBeside x.block.0 left → y.block ≡ x.block → EndsInHand e y
      → IsSameDesk d e → q.endings.items ≡ piled (below ++ y ∷ []) left → vec_capacity q.endings ≡ n → Carries domain e q
  top_back domain d e q below x y left n belongs all room clears keeps beside same ends desk are capacity =
      let s = all_last d below x all in
      record {
        belongs = record { table = desk.domain ∙ belongs.table; shape = desk.shape ∙ belongs.shape };
        ends = subst (AllEnd e) (sym are)
            (below_left e y below left (cleared d e x y left below (s.1, s.2, s.0) clears keeps beside same ends));
        room = subst (λ k. domain.shape.blocks ≤ k) (sym capacity) room;
      }
