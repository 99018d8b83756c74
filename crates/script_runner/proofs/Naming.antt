-- How the names of a worker's thread become empty, where its table is vacant.
use Rattle.std.proofs.Common.{◌≡◌, ℕ, zero, suc, ◌+◌, ◌<◌, ◌≤◌, ◌≢◌, ◌⊎◌, List, [], ◌∷◌, length}
use Rattle.std.proofs.Common.{replicate, slice_get, slice_set, Some, None, Option, sym, refl, ap}
use Rattle.std.proofs.Common.{◌∙◌, subst, inl, inr, arith, length-set}
use Rattle.script_runner.proofs.Prelude
use Prelude.{allowance_of, AllVacant, as_slot, DeskNow, FitsSlots, HasBegun, HasKind, HasScriptMembers, HasTextCells}
use Prelude.{IsBelow, IsEmptied, IsFitting, IsName, IsQuiet, IsVacant, Kind, kind_in, length-map}
use Prelude.{plain, SetsKind, shown_slots, slice_get_within, slot_by, slot_kinds, TableNow}
use Rattle.control_word.specs.declared.model.handle.Kind.TheVariants as kind
use Rattle.script_runner.specs.Tables.{Slot}
use Rattle.script_runner.proofs.Arranging.{same_or, set_else, set_here}
use Rattle.script_runner.proofs.Room.{spare_below}
use Rattle.script_runner.proofs.Seating.{came_in, quietly}
use Rattle.script_runner.specs.Beginnings.{IsUnmoved}

vacant_at : (ss : List Slot) (i : ℕ) → AllVacant ss → i < length ss → slice_get ss i ≡ Some None
vacant_at [] i all lt = let no : ⊥ = omega (arith, lt) in absurd no
vacant_at (s ∷ ss) zero all lt = ap Some all.0
vacant_at (s ∷ ss) (suc i) all lt = vacant_at ss i all.1 (omega (arith, lt))

quiet_on : (d e f : DeskNow ℕ) → IsQuiet d e → IsQuiet e f → IsQuiet d f
quiet_on d e f a b = record { shape = b.shape ∙ a.shape; name = b.name ∙ a.name; seen = b.seen ∙ a.seen }

-- the allowance is counted of the history
pub allowance_same : (d e : DeskNow ℕ) → IsQuiet d e → allowance_of e ≡ allowance_of d
allowance_same d e q = λ i. allowance_of (record d { shape = q.shape i; name = q.name i; seen = q.seen i })

-- what becomes empty in a vacant slot is only counted, and looks empty to the thread
pub record IsEmptyAt (i : ℕ) (v u : TableNow ℕ) : Type 0 where
  pub unmoved : IsUnmoved v u
  pub slot : Slot
  pub set : u.slots ≡ slice_set v.slots i slot
  pub shown : as_slot slot ≡ plain

pub emptied_at : (i : ℕ) (v u : TableNow ℕ) → slice_get v.slots i ≡ Some None → IsEmptied v i u → IsEmptyAt i v u
emptied_at i v u none (inl e) =
    let c = came_in _ v i u none e in
    let o = c.comes in
    record {
      unmoved = (quietly v.desk u.desk _ o.event.2, c.ends);
      slot = Some c.handle;
      set = c.slots;
      shown = ap (λ h. as_slot (Some h)) o.is ∙ (λ j. slot_by kind.Owner (o.event.0 j) (o.event.1 j));
    }
emptied_at i v u none (inr e) =
    let c = came_in _ v i u none e in
    let o = c.comes in
    record {
      unmoved = (quietly v.desk u.desk _ o.event.2, c.ends);
      slot = Some c.handle;
      set = c.slots;
      shown = ap (λ h. as_slot (Some h)) o.is ∙ (λ j. slot_by kind.Weak (o.event.0 j) (o.event.1 j));
    }

-- the first k names have become empty, and all other slots are vacant
pub record AreNamed (ks : List Kind) (k : ℕ) (t u : TableNow ℕ) : Type 0 where
  pub unmoved : IsUnmoved t u
  pub named : (i : ℕ) (q : Kind) → i < k → IsName ks i q → HasKind u.slots i q
  pub shown : (i : ℕ) (s : Slot) → i < k → slice_get u.slots i ≡ Some s → as_slot s ≡ plain
  pub vacant : (i : ℕ) → k ≤ i → i < 36 → slice_get u.slots i ≡ Some None
  pub many : length u.slots ≡ 36

pub none_named : (ks : List Kind) (t : TableNow ℕ) → IsFitting t → AreNamed ks 0 t t
none_named ks t fits =
    record {
      unmoved = (record { shape = refl; name = refl; seen = refl }, refl);
      named = λ i q lt e. let no : ⊥ = omega (arith, lt) in absurd no;
      shown = λ i s lt e. let no : ⊥ = omega (arith, lt) in absurd no;
      vacant = λ i le lt. vacant_at t.slots i fits.new.0 (let many = fits.new.1 in omega (arith, lt, many));
      many = fits.new.1;
    }

some_same : (a b : Slot) → Some a ≡ Some b → a ≡ b
some_same a b e = ap (or_else a) e
  where
    or_else : Slot → Option Slot → Slot
    or_else a None = a
    or_else a (Some b) = b

kind_same : (a b : Kind) → Some a ≡ Some b → a ≡ b
kind_same a b e = ap (or_else a) e
  where
    or_else : Kind → Option Kind → Kind
    or_else a None = a
    or_else a (Some b) = b

module _ (ks : List Kind) (k : ℕ) (t v u : TableNow ℕ) (is : AreNamed ks k t v) (lt : k < 34) (q : Kind) (at : IsName ks k q)
    (sets : SetsKind k (Some q) v u) (e : IsEmptyAt k v u) where
  low : k < length v.slots
  low = let many = is.many in omega (arith, lt, many)

  kinds_low : k < length (slot_kinds v.slots)
  kinds_low = let l = length-map v.slots kind_in in let a = low in omega (arith, a, l)

  named_at : (i : ℕ) (r : Kind) → i < k + 1 → IsName ks i r → (k ≡ i) ⊎ (k ≢ i) → HasKind u.slots i r
  named_at i r le name (inl same) =
      ap (λ l. slice_get l i) sets
      ∙ (ap (slice_get (slice_set (slot_kinds v.slots) k (Some q))) (sym same)
      ∙ (set_here (slot_kinds v.slots) k (Some q) kinds_low
      ∙ ap (λ z. Some (Some z)) (kind_same q r (sym at ∙ (ap (slice_get ks) same ∙ name)))))
  named_at i r le name (inr ne) =
      ap (λ l. slice_get l i) sets ∙ (set_else (slot_kinds v.slots) k i (Some q) ne ∙ is.named i r (omega (arith, le, ne)) name)

  shown_at : (i : ℕ) (s : Slot) → i < k + 1 → slice_get u.slots i ≡ Some s → (k ≡ i) ⊎ (k ≢ i) → as_slot s ≡ plain
  shown_at i s le get (inl same) =
      ap as_slot (some_same s e.slot (sym get ∙ (ap (λ ss. slice_get ss i) e.set
      ∙ (ap (slice_get (slice_set v.slots k e.slot)) (sym same) ∙ set_here v.slots k e.slot low))))
      ∙ e.shown
  shown_at i s le get (inr ne) =
      is.shown i s (omega (arith, le, ne)) (sym (ap (λ ss. slice_get ss i) e.set ∙ set_else v.slots k i e.slot ne) ∙ get)

  pub named_next : AreNamed ks (k + 1) t u
  named_next =
      record {
        unmoved = (quiet_on t.desk v.desk u.desk is.unmoved.0 e.unmoved.0, e.unmoved.1 ∙ is.unmoved.1);
        named = λ i r le name. named_at i r le name (same_or k i);
        shown = λ i s le get. shown_at i s le get (same_or k i);
        vacant = λ i le few. ap (λ ss. slice_get ss i) e.set
            ∙ (set_else v.slots k i e.slot (λ same. omega (arith, same, le)) ∙ is.vacant i (omega (arith, le)) few);
        many = ap length e.set ∙ (length-set v.slots k e.slot ∙ is.many);
      }

pub vacant_kind : (ss : List Slot) (i : ℕ) → slice_get ss i ≡ Some None → IsVacant ss i
vacant_kind [] i e = absurd cc
vacant_kind (s ∷ ss) zero e = ap Some (ap kind_in (some_same s None e))
vacant_kind (s ∷ ss) (suc i) e = vacant_kind ss i e

-- there is room for the next
pub below_next : (ks : List Kind) (k : ℕ) (t u : TableNow ℕ) → AreNamed ks k t u → k < 34 → 36 ≤ allowance_of t.desk → FitsSlots u.desk u.slots
    → IsBelow u.desk
below_next ks k t u is lt room fits =
    let allows = allowance_same t.desk u.desk is.unmoved.0 in
    let many = is.many in
    spare_below u 34 35 (omega arith) (vacant_kind u.slots 34 (is.vacant 34 (omega (arith, lt)) (omega arith)))
    (vacant_kind u.slots 35 (is.vacant 35 (omega (arith, lt)) (omega arith))) (omega (arith, room, allows, many)) fits

-- all slots look empty to the thread
shown_plain : (m : ℕ) (ss : List Slot) → m ≤ length ss → ((i : ℕ) (s : Slot) → i < m → slice_get ss i ≡ Some s → as_slot s ≡ plain)
    → shown_slots m ss ≡ replicate m plain
shown_plain zero ss le all = refl
shown_plain (suc m) [] le all = let no : ⊥ = omega (arith, le) in absurd no
shown_plain (suc m) (s ∷ ss) le all =
    (λ j. all 0 s (omega arith) refl j ∷ shown_slots m ss)
    ∙ ap (λ l. plain ∷ l) (shown_plain m ss (omega (arith, le)) (λ i r lt e. all (suc i) r (omega (arith, lt)) e))

pub has_begun : (ks : List Kind) (t u : TableNow ℕ) → length ks ≤ 32 → IsFitting t → AreNamed ks (length ks) t u
    → HasBegun ks (length ks + 1) t u
has_begun ks t u few fits is =
    let long = is.many in
    let allows = allowance_same t.desk u.desk is.unmoved.0 in
    let most = fits.room in
    record {
      unmoved = is.unmoved;
      arranged = record {
        last = refl;
        few = omega arith;
        many = omega (arith, few, long);
        names = λ i k e. is.named i k (slice_get_within ks i k e) e;
        cleared = λ i s le lt e. let no : ⊥ = omega (arith, le, lt) in absurd no;
        dropped = λ e. vacant_kind u.slots (length ks) (is.vacant (length ks) (omega arith) (omega (arith, few)));
        in_hand = vacant_kind u.slots (length ks + 1) (is.vacant (length ks + 1) (omega arith) (omega (arith, few)));
        rest = λ i lt le. vacant_kind u.slots i (is.vacant i (omega (arith, lt)) (omega (arith, le, long)));
        room = omega (arith, most, allows, long);
        cells = subst HasTextCells (sym is.unmoved.0.shape) fits.cells;
        members = subst HasScriptMembers (sym is.unmoved.0.shape) fits.members;
      };
      slots = shown_plain (length ks + 1 + 1) u.slots (omega (arith, few, long)) (λ i s lt e. shown_all i s lt e)
          ∙ ap (λ n. replicate n plain) (let n : length ks + 1 + 1 ≡ length ks + 2 = omega arith in n);
      settled = is.unmoved.1 ∙ fits.new.2;
    }
  where
    shown_all : (i : ℕ) (s : Slot) → i < length ks + 1 + 1 → slice_get u.slots i ≡ Some s → as_slot s ≡ plain
    shown_all i s lt e = go (less i (length ks))
      where
        less : (i n : ℕ) → (i < n) ⊎ (n ≤ i)
        less i zero = inr (omega arith)
        less zero (suc n) = inl (omega arith)
        less (suc i) (suc n) = next (less i n)
          where
            next : (i < n) ⊎ (n ≤ i) → (suc i < suc n) ⊎ (suc n ≤ suc i)
            next (inl a) = inl (omega (arith, a))
            next (inr a) = inr (omega (arith, a))

        go : (i < length ks) ⊎ (length ks ≤ i) → as_slot s ≡ plain
        go (inl a) = is.shown i s a e
        go (inr a) = ap as_slot (some_same s None (sym e ∙ is.vacant i a (omega (arith, lt, few))))
