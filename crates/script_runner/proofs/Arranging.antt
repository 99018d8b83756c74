-- How a worker's slots stay arranged by what its acts do to them.
use Rattle.std.proofs.Common.{◌≡◌, ℕ, zero, suc, ◌<◌, ◌≤◌, Bool, false, ◌≢◌, ◌⊎◌, List, [], ◌∷◌}
use Rattle.std.proofs.Common.{length, slice_get, slice_set, Some, None, Option, sym, refl, ap, ◌∙◌}
use Rattle.std.proofs.Common.{subst, inl, inr, arith, length-set}
use Rattle.script_runner.proofs.Prelude.{allowance_of, HasNoObject, HasScriptMembers, HasTextCells, IsArranged}
use Rattle.script_runner.proofs.Prelude.{IsInHand, IsName, KeepsKinds, KeepsLimits, Kind, kind_in}
use Rattle.script_runner.proofs.Prelude.{length-map, SetsKind, slice_get_within, slot_kinds}
use Rattle.script_runner.proofs.Prelude.{Stance, TableNow}
use Rattle.script_runner.specs.Tables as table

-- an element that was set, and the others
pub set_here : {A : Type 0} (xs : List A) (i : ℕ) (v : A) → i < length xs → slice_get (slice_set xs i v) i ≡ Some v
set_here [] i v lt = let no : ⊥ = omega (arith, lt) in absurd no
set_here (x ∷ xs) zero v lt = refl
set_here (x ∷ xs) (suc i) v lt = set_here xs i v (omega (arith, lt))

pub set_else : {A : Type 0} (xs : List A) (i j : ℕ) (v : A) → i ≢ j → slice_get (slice_set xs i v) j ≡ slice_get xs j
set_else [] i j v ne = refl
set_else (x ∷ xs) zero zero v ne = absurd (ne refl)
set_else (x ∷ xs) zero (suc j) v ne = refl
set_else (x ∷ xs) (suc i) zero v ne = refl
set_else (x ∷ xs) (suc i) (suc j) v ne = set_else xs i j v (λ e. ne (ap suc e))

pub same_or : (i j : ℕ) → (i ≡ j) ⊎ (i ≢ j)
same_or zero zero = inl refl
same_or zero (suc j) = inr (λ e. omega (arith, e))
same_or (suc i) zero = inr (λ e. omega (arith, e))
same_or (suc i) (suc j) = next (same_or i j)
  where
    next : (i ≡ j) ⊎ (i ≢ j) → (suc i ≡ suc j) ⊎ (suc i ≢ suc j)
    next (inl e) = inl (ap suc e)
    next (inr ne) = inr (λ e. ne (omega (arith, e)))

-- there are as many slots
pub many_same : (i : ℕ) (k : Option Kind) (ss ts : List table.Slot) → slot_kinds ts ≡ slice_set (slot_kinds ss) i k → length ts ≡ length ss
many_same i k ss ts e =
    sym (length-map ts kind_in) ∙ (ap length e ∙ (length-set (slot_kinds ss) i k ∙ length-map ss kind_in))

pub many_kept : (ss ts : List table.Slot) → slot_kinds ts ≡ slot_kinds ss → length ts ≡ length ss
many_kept ss ts e = sym (length-map ts kind_in) ∙ (ap length e ∙ length-map ss kind_in)

module _ (ks : List Kind) (x : Stance) (hand : ℕ) (taken : Bool) (t u : TableNow ℕ) (is : IsArranged ks x hand taken t) (same : KeepsLimits t u) where
  -- the names are the first slots, and the hand comes after the slot behind them
  name_low : (i : ℕ) (k : Kind) → IsName ks i k → i < length ks
  name_low i k e = slice_get_within ks i k e

  room_kept : length u.slots ≡ length t.slots → length u.slots ≤ allowance_of u.desk
  room_kept many = let room = is.room in let limit = same.1 in omega (arith, many, room, limit)

  cells_kept : HasTextCells u.desk.shape
  cells_kept = subst HasTextCells (sym same.0) is.cells

  members_kept : HasScriptMembers u.desk.shape
  members_kept = subst HasScriptMembers (sym same.0) is.members

  few_kept : (y : Stance) → y.names ≡ x.names → y.names ≤ length ks
  few_kept y names = subst (λ n. n ≤ length ks) (sym names) is.few

  -- before the thread's end, when no name is cleared
  module _ (before : x.names ≡ length ks) where
    none_cleared : (y : Stance) → y.names ≡ x.names → (i : ℕ) (s : table.Slot) → y.names ≤ i → i < length ks → slice_get u.slots i ≡ Some s
        → HasNoObject s
    none_cleared y names i s le lt at = let no : ⊥ = omega (arith, le, lt, names, before) in absurd no

    -- no slot has another kind
    pub kept : (y : Stance) → KeepsKinds t u → y.names ≡ x.names → (y.owes ≡ false → x.owes ≡ false)
        → IsInHand u.slots hand y.hand taken → IsArranged ks y hand taken u
    kept y kinds names owes inhand =
        record {
          last = is.last;
          few = few_kept y names;
          many = let many = is.many in let l = many_kept t.slots u.slots kinds in omega (arith, many, l);
          names = λ i k e. ap (λ l. slice_get l i) kinds ∙ is.names i k e;
          cleared = none_cleared y names;
          dropped = λ e. ap (λ l. slice_get l (length ks)) kinds ∙ is.dropped (owes e);
          in_hand = inhand;
          rest = λ i lt le. ap (λ l. slice_get l i) kinds
              ∙ is.rest i lt (let l = many_kept t.slots u.slots kinds in omega (arith, le, l));
          room = room_kept (many_kept t.slots u.slots kinds);
          cells = cells_kept;
          members = members_kept;
        }

    -- the hand has another kind, or is vacant
    pub handed : (y : Stance) (k : Option Kind) (takes : Bool) → SetsKind hand k t u → y.names ≡ x.names → (y.owes ≡ false → x.owes ≡ false)
        → IsInHand u.slots hand y.hand takes → IsArranged ks y hand takes u
    handed y k takes kinds names owes inhand =
        let last = is.last in
        record {
          last = is.last;
          few = few_kept y names;
          many = let many = is.many in let l = many_same hand k t.slots u.slots kinds in omega (arith, many, l);
          names = λ i j e. ap (λ l. slice_get l i) kinds
              ∙ (set_else (slot_kinds t.slots) hand i k (λ at. let low = name_low i j e in omega (arith, at, low, last)) ∙ is.names i j e);
          cleared = none_cleared y names;
          dropped = λ e. ap (λ l. slice_get l (length ks)) kinds
              ∙ (set_else (slot_kinds t.slots) hand (length ks) k (λ at. omega (arith, at, last)) ∙ is.dropped (owes e));
          in_hand = inhand;
          rest = λ i lt le. ap (λ l. slice_get l i) kinds
              ∙ (set_else (slot_kinds t.slots) hand i k (λ at. omega (arith, at, lt))
              ∙ is.rest i lt (let l = many_same hand k t.slots u.slots kinds in omega (arith, le, l)));
          room = room_kept (many_same hand k t.slots u.slots kinds);
          cells = cells_kept;
          members = members_kept;
        }

    -- the slot behind the names has another, with nothing else changed
    pub owed : (y : Stance) (k : Option Kind) (mid : List (Option Kind)) → length mid ≡ length t.slots
        → ((i : ℕ) → i ≢ hand → slice_get mid i ≡ slice_get (slot_kinds t.slots) i)
        → slot_kinds u.slots ≡ slice_set mid (length ks) k → y.names ≡ x.names → (y.owes ≡ false → k ≡ None)
        → (takes : Bool) → IsInHand u.slots hand y.hand takes → IsArranged ks y hand takes u
    owed y k mid many mids kinds names owes takes inhand =
        let last = is.last in
        let l : length u.slots ≡ length t.slots = sym (length-map u.slots kind_in) ∙ (ap length kinds ∙ (length-set mid (length ks) k ∙ many)) in
        record {
          last = is.last;
          few = few_kept y names;
          many = let more = is.many in omega (arith, more, l);
          names = λ i j e. let low = name_low i j e in
              ap (λ q. slice_get q i) kinds
              ∙ (set_else mid (length ks) i k (λ at. omega (arith, at, low))
              ∙ (mids i (λ at. omega (arith, at, low, last)) ∙ is.names i j e));
          cleared = none_cleared y names;
          dropped = λ e. ap (λ q. slice_get q (length ks)) kinds
              ∙ (set_here mid (length ks) k (let more = is.many in omega (arith, many, more, last)) ∙ ap Some (owes e));
          in_hand = inhand;
          rest = λ i lt le. ap (λ q. slice_get q i) kinds
              ∙ (set_else mid (length ks) i k (λ at. omega (arith, at, lt, last))
              ∙ (mids i (λ at. omega (arith, at, lt)) ∙ is.rest i lt (omega (arith, le, l))));
          room = room_kept l;
          cells = cells_kept;
          members = members_kept;
        }

  clears : (i : ℕ) → suc i ≡ x.names → ((j : ℕ) → i ≢ j → slice_get u.slots j ≡ slice_get t.slots j)
      → ((s : table.Slot) → slice_get u.slots i ≡ Some s → HasNoObject s) → (j : ℕ) (s : table.Slot) → i ≤ j → j < length ks
      → slice_get u.slots j ≡ Some s → (i ≡ j) ⊎ (i ≢ j) → HasNoObject s
  clears i next others bare j s le lt at (inl e) = bare s (subst (λ n. slice_get u.slots n ≡ Some s) (sym e) at)
  clears i next others bare j s le lt at (inr ne) = is.cleared j s (omega (arith, le, next, ne)) lt (sym (others j ne) ∙ at)

  -- one more name is cleared
  pub cleared_one : (i : ℕ) → suc i ≡ x.names → KeepsKinds t u → ((j : ℕ) → i ≢ j → slice_get u.slots j ≡ slice_get t.slots j)
      → ((s : table.Slot) → slice_get u.slots i ≡ Some s → HasNoObject s)
      → (y : Stance) → y.names ≡ i → y.owes ≡ x.owes → IsInHand u.slots hand y.hand taken → IsArranged ks y hand taken u
  cleared_one i next kinds others bare y names owes inhand =
      record {
        last = is.last;
        few = let few = is.few in omega (arith, few, next, names);
        many = let many = is.many in let l = many_kept t.slots u.slots kinds in omega (arith, many, l);
        names = λ j k e. ap (λ l. slice_get l j) kinds ∙ is.names j k e;
        cleared = λ j s le lt at. clears i next others bare j s (subst (λ n. n ≤ j) names le) lt at (same_or i j);
        dropped = λ e. ap (λ l. slice_get l (length ks)) kinds ∙ is.dropped (sym owes ∙ e);
        in_hand = inhand;
        rest = λ j lt le. ap (λ l. slice_get l j) kinds ∙ is.rest j lt (let l = many_kept t.slots u.slots kinds in omega (arith, le, l));
        room = room_kept (many_kept t.slots u.slots kinds);
        cells = cells_kept;
        members = members_kept;
      }
