-- How a domain begins.
use Rattle.std.proofs.Common.{◌≡◌, ℕ, zero, suc, ◌-◌, ◌<◌, ◌≤◌, Bool, false, cond, ◌≢◌, List, []}
use Rattle.std.proofs.Common.{◌∷◌, map, length, replicate, ◌==◌, None, vec_capacity, sym, refl, ap}
use Rattle.std.proofs.Common.{◌∙◌, subst, inl, ⊎_elim, arith, length-append, eq-eqb, ne_eqb}
use Rattle.control_block.proofs.Prelude
use Prelude.{all_blocks, all_stored, At, bag_size, Block, cases_eq, cond-false, cond-true, filter}
use Prelude.{filter-append, get_elem?, Inside, IsBacked, IsDesk, IsLegal, IsSized, IsWithinLimits}
use Prelude.{known, length-map, length-replicate, many_ending, opening, opening_of, opens_with}
use Prelude.{Rests, Ruled, same_stored, SeatView, Shape, some, some-injective, some-ne-none}
use Prelude.{StandsFunded, stock, Stored, stored, sum_below}
use Rattle.control_word.proofs.funded.Words.{begins_funded}
use Rattle.control_word.specs.Layout.{table_size}
use Rattle.control_word.specs.State.{IsOpening, start}
use Rattle.control_word.specs.Views.{fresh}
use Rattle.control_word.specs.Limits.{HasRoomForFunds}
use Rattle.std.proofs.Common.{◌+◌}

-- a shape within the limits has a proper opening
pub proper : (k : Shape) → IsWithinLimits k → IsOpening (opening_of k)
proper k fine =
    let b = fine.blocks in let c = fine.cells in let a = fine.allowance in let s = fine.some_handle in
    let weaks_are : k.weaks ≡ k.owners + k.weaks - k.owners = omega arith in
    record {
      limits = (b, c, a);
      members = let m = fine.members in let o = m.0 in let w = m.1 in let n = m.2 in (omega arith, omega arith);
      owners = let m = fine.members in let o = m.0 in let w = m.1 in (o, omega arith);
      room = (
        fine.owners_room,
        subst (λ n. HasRoomForFunds k.allowance n k.blocks (k.shared_cells + k.weak_cells)) weaks_are fine.weaks_room,
      );
      holders = λ n. omega arith;
      shares = omega arith;
      positive = λ d lt. let e : d ≡ 0 = omega arith in subst (λ (x : ℕ). 0 < cond (x == 0) k.allowance 0) (sym e) s;
      beyond = λ d le. cond-false (d == 0) k.allowance 0 (Rattle.std.proofs.Common.ne_eqb d 0 (λ e. omega arith));
    }

module _ {A : Type 0} (x : A) where
  nones : (n i : ℕ) → i < n → get_elem? (map (λ y. some y) (replicate n x)) i ≡ some (some x)
  nones zero i lt = absurd (omega arith)
  nones (suc n) zero lt = refl
  nones (suc n) (suc i) lt = nones n i (omega arith)

module _ {V : Type 0} where
  only : (P : SeatView V → Type 0) (v : SeatView V) → P v → (j : ℕ) (u : SeatView V) → get_elem? (v ∷ []) j ≡ some u → P u
  only P v here zero u e = subst P (some-injective v u e) here
  only P v here (suc j) u e = absurd (some-ne-none u (sym e))

  -- all words are 0, and each slot is at home and empty
  pub opens : (k : Shape) → IsWithinLimits k → (words : List ℕ) → words ≡ replicate (table_size k) 0
      → Ruled {V = V} k (opening words (replicate k.blocks None) (opens_with k))
  opens k fine words zeros =
      record {
        history = [];
        stands = subst (λ l. StandsFunded {V = V} (opening_of k) l (fresh 0 1) []) (sym zeros) (begins_funded (opening_of k) (proper k fine));
        limits = fine;
        shapes = only (λ u. u.view.spent ≡ false → u.shape ≡ k) (opens_with k) (λ _. refl);
        sized = length-map (replicate k.blocks None) (λ y. some y) ∙ length-replicate k.blocks None;
        homes = λ b inside. inl (nones None k.blocks (b - 1) (let a = inside.0 in let c = inside.1 in omega arith));
        backed = only (λ u. u.view.spent ≡ false → IsBacked (start (opening_of k)) u.view.name u.view.pending u.hand) (opens_with k) (λ _. tt);
      }

-- the store lists all blocks
pub all_tallies : (b n : ℕ)
    → length (filter (λ (c : Block). c.0 == b) (all_blocks n)) ≡ length (filter (same_stored (stored 0 b)) (all_stored (λ _. 0) n))
all_tallies b zero = refl
all_tallies b (suc n) =
    let i = all_tallies b n in let p : Block → Bool = λ c. c.0 == b in let x : Block = record { 0 = suc n } in
    let a = ap length (filter-append p (all_blocks n) (x ∷ [])) ∙ length-append (filter p (all_blocks n)) (filter p (x ∷ [])) in
    let rest = filter (same_stored (stored 0 b)) (all_stored (λ _. 0) n) in
    ⊎_elim
    (λ (e : b ≡ suc n).
    let u = ap length (cond-true (b == suc n) (stored 0 (suc n) ∷ rest) rest (eq-eqb b (suc n) e)) in
    let v = ap length (cond-true (suc n == b) (x ∷ []) [] (eq-eqb (suc n) b (sym e))) in omega arith)
    (λ (m : b ≢ suc n).
    let u = ap length (cond-false (b == suc n) (stored 0 (suc n) ∷ rest) rest (ne_eqb b (suc n) m)) in
    let v = ap length (cond-false (suc n == b) (x ∷ []) [] (ne_eqb (suc n) b (λ e. m (sym e)))) in omega arith) (cases_eq b (suc n))

pub all_many : (n : ℕ) → length (all_blocks n) ≡ length (filter (λ (x : Stored). x.desk == 0) (all_stored (λ _. 0) n))
all_many zero = refl
all_many (suc n) = let i = all_many n in let x : Block = record { 0 = suc n } in let a = length-append (all_blocks n) (x ∷ []) in omega arith

none_ending : (n : ℕ) → sum_below n (λ j. 0) ≡ 0
none_ending zero = refl
none_ending (suc n) = let i = none_ending n in omega arith

module _ {V : Type 0} where
  pub first_desk : (d : Inside V) (k : Shape) → IsWithinLimits k → d.seat.me ≡ (opens_with k, []) → IsSized d.seat.table_id k
      → d.allowance ≡ k.allowance
      → d.held ≡ 0 → d.endings ≡ 0 → d.store.items ≡ all_blocks k.blocks → vec_capacity d.store ≡ k.blocks → IsDesk d
  first_desk d k fine me sized allowed held ended items room =
      let v : SeatView V = opens_with k in let e : v ≡ d.seat.me.0 = sym (ap (λ (m : At V). m.0) me) in let s = fine.some_handle in
      record {
        rests = subst (λ (m : At V). Rests m) (sym me) record { awake = refl; idle = refl; empty = refl; none = refl };
        legal = subst (λ (u : SeatView V). IsLegal (opening_of u.shape) u.view.seen) e (proper k fine);
        limits = subst (λ (u : SeatView V). IsWithinLimits u.shape) e fine;
        sized = subst (λ (u : SeatView V). IsSized d.seat.table_id u.shape) e sized;
        allowed = allowed ∙ ap (λ (u : SeatView V). (known u).allowance u.view.name) e;
        holding = subst (λ (u : SeatView V). bag_size (known u) u.view.name ≤ d.held) e (omega arith);
        ended = ended ∙ (sym (none_ending k.blocks) ∙ ap (λ (u : SeatView V). many_ending u.shape.blocks (known u) u.view.name) e);
        within = omega arith;
        stored = λ b. ap (λ l. length (filter (λ (c : Block). c.0 == b) l)) items
            ∙ (all_tallies b k.blocks ∙ ap (λ (u : SeatView V). length (filter (same_stored (stored u.view.name b)) (known u).stores)) e);
        many = ap length items ∙ (all_many k.blocks ∙ ap (λ (u : SeatView V). length (stock (known u) u.view.name)) e);
        room = subst (λ (u : SeatView V). u.shape.blocks ≤ vec_capacity d.store) e (omega arith);
      }
