-- An act that suits a thread's names finds what it asks for, and leaves the slots arranged.
use Rattle.std.proofs.Common.{◌≡◌, ℕ, zero, suc, ◌-◌, ◌<◌, Bool, true, false, List, [], ◌∷◌}
use Rattle.std.proofs.Common.{length, slice_get, slice_set, Some, None, Option, sym, refl, ap, ◌∙◌}
use Rattle.std.proofs.Common.{subst, arith, length-set}
use Rattle.script_runner.proofs.Prelude.{Act, CellName, Changes, HasKind, IsAlone, IsArranged}
use Rattle.script_runner.proofs.Prelude.{IsInHand, IsName, IsReached, IsVacant, KeepsKinds}
use Rattle.script_runner.proofs.Prelude.{KeepsLimits, Kind, kind_at, kind_in, length-map, Question}
use Rattle.script_runner.proofs.Prelude.{SetsAside, SetsKind, slice_get_within, slot_kinds, Stance}
use Rattle.script_runner.proofs.Prelude.{stance_after, Suits, TableNow, TakesKind}
use Rattle.control_word.specs.declared.model.handle.Kind.TheVariants as kind
use Rattle.script_runner.specs.Tables as table
use Rattle.script_runner.proofs.Arranging as arranging
use Rattle.script_runner.proofs.Endless.{IsTaker}
use Rattle.script_runner.proofs.Arranging.{set_else, set_here}
use Rattle.script_runner.specs.Asked.{AsksBelow, HasAsked}
use Rattle.script_runner.specs.Handling.{Asks, IsBared, IsCellFor, IsHeld, IsHeldAs, IsHeldByName}
use Rattle.script_runner.specs.Kinds.{IsFree, SuitsNames}
use Rattle.step_threads.specs.declared.programs.act.Act.TheVariants as act
use Rattle.step_threads.specs.declared.programs.act.Question.TheVariants as question
use Rattle.step_threads.specs.declared.programs.call.CellName.TheVariants as cell

some_none : {A : Type 0} (a : A) → Some a ≡ None → ⊥
some_none a e = cc

-- a hand for which nothing may have been taken is vacant
pub free_hand : (ss : List table.Slot) (hand : ℕ) (k : Option Kind) (taken : Bool) → IsInHand ss hand k taken → k ≡ None → taken ≡ false
free_hand ss hand k false is e = refl
free_hand ss hand None true is e = absurd is
free_hand ss hand (Some k) true is e = absurd (some_none k e)

-- what is in hand is of the kind that may be
pub full_hand : (ss : List table.Slot) (hand : ℕ) (k : Option Kind) (j : Kind) (taken : Bool) → IsInHand ss hand k taken → k ≡ Some j
    → taken ≡ true → HasKind ss hand j
full_hand ss hand k j false is e t = absurd cc
full_hand ss hand k j true is e t = subst (λ q. IsInHand ss hand q true) e is

pub one_of : {A : Type 0} (xs : List A) (i : ℕ) → i < length xs → (a : A) × (slice_get xs i ≡ Some a)
one_of [] i lt = let no : ⊥ = omega (arith, lt) in absurd no
one_of (x ∷ xs) zero lt = (x, refl)
one_of (x ∷ xs) (suc i) lt = one_of xs i (omega (arith, lt))

module _ (ks : List Kind) (x : Stance) (hand : ℕ) (taken : Bool) (t : TableNow ℕ) (is : IsArranged ks x hand taken t) where
  pub low : (i : ℕ) → i < length ks → i < hand
  low i lt = let last = is.last in omega (arith, lt, last)

  pub named : (i : ℕ) (k : Kind) → IsName ks i k → IsHeldAs hand t i k
  named i k e = (low i (slice_get_within ks i k e), is.names i k e)

  pub held_name : (i : ℕ) → i < length ks → IsHeldByName ks hand t i
  held_name i lt = let k = one_of ks i lt in (low i lt, (k.0, k.1, is.names i k.0 k.1))

  pub held : (i : ℕ) → i < length ks → IsHeld hand t i
  held i lt = let k = one_of ks i lt in (low i lt, (k.0, is.names i k.0 k.1))

  asked : (q : Question) → SuitsNames ks q → AsksBelow hand q × HasAsked t.slots q
  asked (question.Place i) s = named i kind.Owner s
  asked (question.Same i j) s =
      let a = named i kind.Owner s.0 in let b = named j kind.Owner s.1 in ((a.0, b.0), (a.1, b.1))
  asked (question.Before i j) s = let a = held i s.0 in let b = held j s.1 in ((a.0, b.0), (a.1, b.1))

  pub cell_for : (c : CellName) → IsReached ks c → IsCellFor hand t c
  cell_for (cell.Shared n) r = (tt, let cells = is.cells.0 in omega (arith, r, cells))
  cell_for (cell.Weak n) r = (tt, let cells = is.cells.1 in omega (arith, r, cells))
  cell_for (cell.Member k m) r = let n = named k.0 kind.Owner r.0 in (n.0, (n.1, r.1))

  pub other_vacant : x.owes ≡ false → IsVacant t.slots (hand - 1)
  other_vacant e = subst (λ i. IsVacant t.slots i) (let last = is.last in let at : length ks ≡ hand - 1 = omega (arith, last) in at) (is.dropped e)

  put_kind : (i : ℕ) → x.hand ≡ slice_get ks i → taken ≡ true → (k : Kind) → HasKind t.slots i k → i < length ks → HasKind t.slots hand k
  put_kind i e full k at lt =
      let j = one_of ks i lt in
      let mine : HasKind t.slots hand j.0 = full_hand t.slots hand x.hand j.0 taken is.in_hand (e ∙ j.1) full in
      subst (λ q. HasKind t.slots hand q) (same_kind t.slots i j.0 k (is.names i j.0 j.1) at) mine
    where
      kind_or : Kind → Option (Option Kind) → Kind
      kind_or k (Some (Some j)) = j
      kind_or k o = k

      same_kind : (ss : List table.Slot) (i : ℕ) (j k : Kind) → HasKind ss i j → HasKind ss i k → j ≡ k
      same_kind ss i j k a b = ap (kind_or j) (sym a ∙ b)

  idle : IsFree ks x → taken ≡ false
  idle free = free_hand t.slots hand x.hand taken is.in_hand free.1

  clear_low : (i : ℕ) → suc i ≡ x.names → i < length ks
  clear_low i e = let few = is.few in omega (arith, e, few)

  some_hand : 0 < hand
  some_hand = let last = is.last in omega (arith, last)

  pub asks : (a : Act) → IsAlone taken a → Suits ks x a → Asks ks hand taken t a
  asks (act.Make form) alone s = (idle s.0, s.1)
  asks (act.Share i) alone s = (idle s.0, held i s.1)
  asks (act.Put i) alone s = (held i s.1, λ full k at. put_kind i s.2 full k at s.1)
  asks (act.Leave i) alone s = held_name i s.1
  asks (act.Clear i) alone s = held_name i (clear_low i s.1)
  asks (act.Count i) alone s = held i s.1
  asks (act.Downgrade i) alone s = (idle s.0, named i kind.Owner s.1)
  asks (act.Lock i must) alone s = (idle s.0, named i kind.Weak s.1)
  asks (act.Expired i) alone s = named i kind.Weak s.1
  asks (act.Read i) alone s = named i kind.Owner s.1
  asks (act.FromThis i k) alone s = (idle s.0, named i kind.Owner s.1)
  asks (act.Alias i j field) alone s = (idle s.0, named i kind.Owner s.1, named j kind.Owner s.2)
  asks (act.Move i) alone s = (idle s.0, held_name i s.1)
  asks (act.Ask q) alone s = asked q s.1
  asks (act.Offer i c) alone s = (idle s.0, named i (kind_at c) s.1, cell_for c s.2)
  asks (act.Swap c) alone s =
      (some_hand, cell_for c s.2, λ full. full_hand t.slots hand x.hand (kind_at c) taken is.in_hand s.1 full, other_vacant s.3)
  asks (act.Exchange i c) alone s = (named i (kind_at c) s.1, cell_for c s.2)
  asks (act.Holds i c) alone s = (named i (kind_at c) s.1, cell_for c s.2)
  asks (act.Load c) alone s = (idle s.0, cell_for c s.1)
  asks (act.Compare i c weak) alone s = alone
  asks act.Drop alone s = some_hand
  asks (act.OnShelf o) alone s = s

pub vacant_hand : (ss : List table.Slot) (hand : ℕ) (k : Option Kind) (taken : Bool) → IsInHand ss hand k taken → taken ≡ false → IsVacant ss hand
vacant_hand ss hand k false is e = is
vacant_hand ss hand k true is e = absurd cc

module _ (ks : List Kind) (x : Stance) (hand : ℕ) (taken : Bool) (t u : TableNow ℕ) (is : IsArranged ks x hand taken t) (same : KeepsLimits t u) where
  hand_low : hand < length (slot_kinds t.slots)
  hand_low = let many = is.many in let l = length-map t.slots kind_in in omega (arith, many, l)

  -- into the hand, or nothing
  took : (k : Kind) (takes : Bool) → TakesKind hand k takes t u → IsFree ks x → (y : Stance) → y.names ≡ x.names → y.owes ≡ x.owes
      → y.hand ≡ Some k → IsArranged ks y hand takes u
  took k true kinds free y names owes into =
      arranging.handed ks x hand taken t u is same free.0 y (Some k) true kinds names (λ e. sym owes ∙ e)
      (subst (λ q. IsInHand u.slots hand q true) (sym into) (ap (λ l. slice_get l hand) kinds ∙ set_here (slot_kinds t.slots) hand (Some k) hand_low))
  took k false kinds free y names owes into =
      let none = free_hand t.slots hand x.hand taken is.in_hand free.1 in
      subst (λ b. IsArranged ks y hand b u) none
      (arranging.kept ks x hand taken t u is same free.0 y kinds names (λ e. sym owes ∙ e)
      (subst (λ b. IsInHand u.slots hand y.hand b) (sym none)
      (ap (λ l. slice_get l hand) kinds ∙ vacant_hand t.slots hand x.hand taken is.in_hand none)))

  -- nothing comes into the hand, and no kind changes
  stays : (takes : Bool) → takes ≡ taken → KeepsKinds t u → IsFree ks x → (y : Stance) → y.names ≡ x.names → y.owes ≡ x.owes
      → y.hand ≡ None → IsArranged ks y hand takes u
  stays takes e kinds free y names owes none = took_none takes (e ∙ free_hand t.slots hand x.hand taken is.in_hand free.1)
    where
      took_none : (b : Bool) → b ≡ false → IsArranged ks y hand b u
      took_none b f = subst (λ b. IsArranged ks y hand b u) (free_hand t.slots hand x.hand taken is.in_hand free.1 ∙ sym f)
          (arranging.kept ks x hand taken t u is same free.0 y kinds names (λ e. sym owes ∙ e)
          (subst (λ b. IsInHand u.slots hand y.hand b) (sym (free_hand t.slots hand x.hand taken is.in_hand free.1))
          (ap (λ l. slice_get l hand) kinds
          ∙ vacant_hand t.slots hand x.hand taken is.in_hand (free_hand t.slots hand x.hand taken is.in_hand free.1))))

  hand_vacant : SetsKind hand None t u → IsVacant u.slots hand
  hand_vacant kinds = ap (λ l. slice_get l hand) kinds ∙ set_here (slot_kinds t.slots) hand None hand_low

  -- what was in hand, if something was, goes to a name
  put : (b takes : Bool) → b ≡ taken → takes ≡ false → (taken ≡ true → SetsKind hand None t u) → (taken ≡ false → KeepsKinds t u)
      → x.names ≡ length ks → (y : Stance) → y.names ≡ x.names → y.owes ≡ x.owes → IsArranged ks y hand takes u
  put true takes b e sets keeps before y names owes =
      let kinds = sets (sym b) in
      subst (λ b. IsArranged ks y hand b u) (sym e)
      (arranging.handed ks x hand taken t u is same before y None false kinds names (λ f. sym owes ∙ f) (hand_vacant kinds))
  put false takes b e sets keeps before y names owes =
      let kinds = keeps (sym b) in
      subst (λ b. IsArranged ks y hand b u) (sym b ∙ sym e)
      (arranging.kept ks x hand taken t u is same before y kinds names (λ f. sym owes ∙ f)
      (subst (λ c. IsInHand u.slots hand y.hand c) b
      (ap (λ l. slice_get l hand) kinds ∙ vacant_hand t.slots hand x.hand taken is.in_hand (sym b))))

  last_low : length ks < length (slot_kinds t.slots)
  last_low = let low = hand_low in let last = is.last in omega (arith, low, last)

  other_is : hand - 1 ≡ length ks
  other_is = let last = is.last in omega (arith, last)

  -- what was in hand, or something else, is to be dropped
  pub set_aside : SetsAside hand t u → x.names ≡ length ks → (y : Stance) → y.names ≡ x.names → y.owes ≡ true → IsArranged ks y hand false u
  set_aside aside before y names owes =
      let mid = slice_set (slot_kinds t.slots) hand None in
      let at : slot_kinds u.slots ≡ slice_set mid (length ks) aside.0 = subst (λ i. slot_kinds u.slots ≡ slice_set mid i aside.0) other_is aside.1 in
      let last = is.last in
      arranging.owed ks x hand taken t u is same before y aside.0 mid (length-set (slot_kinds t.slots) hand None ∙ length-map t.slots kind_in)
      (λ i ne. set_else (slot_kinds t.slots) hand i None (λ e. ne (sym e))) at names (λ e. absurd (true_false (sym owes ∙ e))) false
      (ap (λ l. slice_get l hand) at
      ∙ (set_else mid (length ks) hand aside.0 (λ e. omega (arith, e, last)) ∙ set_here (slot_kinds t.slots) hand None hand_low))
    where
      true_false : true ≡ false → ⊥
      true_false e = cc

  swapped : (b takes : Bool) → b ≡ taken → takes ≡ false → (taken ≡ false → KeepsKinds t u) → (taken ≡ true → SetsAside hand t u)
      → x.names ≡ length ks → (y : Stance) → y.names ≡ x.names → y.owes ≡ true → IsArranged ks y hand takes u
  swapped true takes b e keeps aside before y names owes =
      subst (λ c. IsArranged ks y hand c u) (sym e) (set_aside (aside (sym b)) before y names owes)
  swapped false takes b e keeps aside before y names owes =
      let kinds = keeps (sym b) in
      subst (λ c. IsArranged ks y hand c u) (sym b ∙ sym e)
      (arranging.kept ks x hand taken t u is same before y kinds names (λ f. absurd (true_false (sym owes ∙ f)))
      (subst (λ c. IsInHand u.slots hand y.hand c) b
      (ap (λ l. slice_get l hand) kinds ∙ vacant_hand t.slots hand x.hand taken is.in_hand (sym b))))
    where
      true_false : true ≡ false → ⊥
      true_false e = cc

  dropped : (takes : Bool) → takes ≡ taken → SetsKind (hand - 1) None t u → IsFree ks x → (y : Stance) → y.names ≡ x.names → y.hand ≡ None
      → IsArranged ks y hand takes u
  dropped takes e kinds free y names none =
      let at : slot_kinds u.slots ≡ slice_set (slot_kinds t.slots) (length ks) None =
      subst (λ i. slot_kinds u.slots ≡ slice_set (slot_kinds t.slots) i None) other_is kinds in
      let idle = free_hand t.slots hand x.hand taken is.in_hand free.1 in
      let last = is.last in
      subst (λ b. IsArranged ks y hand b u) (sym idle ∙ sym e)
      (arranging.owed ks x hand taken t u is same free.0 y None (slot_kinds t.slots) (length-map t.slots kind_in) (λ i ne. refl) at names (λ f. refl) false
      (ap (λ l. slice_get l hand) at
      ∙ (set_else (slot_kinds t.slots) (length ks) hand None (λ f. omega (arith, f, last))
      ∙ vacant_hand t.slots hand x.hand taken is.in_hand idle)))

  bared : (i : ℕ) (takes : Bool) → takes ≡ taken → IsBared i t u → suc i ≡ x.names → x.hand ≡ None → (y : Stance) → y.names ≡ i
      → y.owes ≡ x.owes
      → IsArranged ks y hand takes u
  bared i takes e b next none y names owes =
      let idle = free_hand t.slots hand x.hand taken is.in_hand none in
      subst (λ c. IsArranged ks y hand c u) (sym e)
      (arranging.cleared_one ks x hand taken t u is same i next b.0 b.1 b.2 y names owes
      (subst (λ c. IsInHand u.slots hand y.hand c) (sym idle)
      (ap (λ l. slice_get l hand) b.0 ∙ vacant_hand t.slots hand x.hand taken is.in_hand idle)))

  kinds_of_slots : u.slots ≡ t.slots → KeepsKinds t u
  kinds_of_slots e = ap slot_kinds e

  pub arranged_after : (a : Act) (takes : Bool) → IsAlone taken a → Suits ks x a → Changes hand taken a t takes u
      → IsArranged ks (stance_after ks x a) hand takes u
  arranged_after (act.Make form) takes alone s c = took kind.Owner takes c s.0 _ refl refl refl
  arranged_after (act.Share i) takes alone s c =
      let k = one_of ks i s.1 in took k.0 takes (c k.0 (is.names i k.0 k.1)) s.0 _ refl refl k.1
  arranged_after (act.Put i) takes alone s c = put taken takes refl c.0 c.1 c.2 s.0 _ refl refl
  arranged_after (act.Leave i) takes alone s c = stays takes c.0 c.1 s.0 _ refl refl s.0.1
  arranged_after (act.Clear i) takes alone s c = bared i takes c.0 c.1 s.1 s.0 _ refl refl
  arranged_after (act.Count i) takes alone s c = stays takes c.0 (kinds_of_slots c.1) s.0 _ refl refl s.0.1
  arranged_after (act.Downgrade i) takes alone s c = took kind.Weak takes c s.0 _ refl refl refl
  arranged_after (act.Lock i must) takes alone s c = took kind.Owner takes c s.0 _ refl refl refl
  arranged_after (act.Expired i) takes alone s c = stays takes c.0 (kinds_of_slots c.1) s.0 _ refl refl s.0.1
  arranged_after (act.Read i) takes alone s c = stays takes c.0 (kinds_of_slots c.1) s.0 _ refl refl s.0.1
  arranged_after (act.FromThis i k) takes alone s c = took k takes c s.0 _ refl refl refl
  arranged_after (act.Alias i j field) takes alone s c = took kind.Owner takes c s.0 _ refl refl refl
  arranged_after (act.Move i) takes alone s c =
      let k = one_of ks i s.1 in took k.0 takes (c k.0 (is.names i k.0 k.1)) s.0 _ refl refl k.1
  arranged_after (act.Ask q) takes alone s c = stays takes c.0 (kinds_of_slots c.1) s.0 _ refl refl s.0.1
  arranged_after (act.Offer i d) takes alone s c = took (kind_at d) takes c s.0 _ refl refl refl
  arranged_after (act.Swap d) takes alone s c = swapped taken takes refl c.0 c.1 c.2 s.0 _ refl refl
  arranged_after (act.Exchange i d) takes alone s c = stays takes c.0 c.1 s.0 _ refl refl s.0.1
  arranged_after (act.Holds i d) takes alone s c = stays takes c.0 (kinds_of_slots c.1) s.0 _ refl refl s.0.1
  arranged_after (act.Load d) takes alone s c = took (kind_at d) takes c s.0 _ refl refl refl
  arranged_after (act.Compare i d weak) takes alone s c = swapped false takes (sym alone) c.0 (λ e. c.1) (λ e. absurd (both alone e)) s.0 _ refl refl
    where
      both : taken ≡ false → taken ≡ true → ⊥
      both e f = cc
  arranged_after act.Drop takes alone s c = dropped takes c.0 c.1 s _ refl s.1
  arranged_after (act.OnShelf o) takes alone s c = absurd s

  true_false : (b : Bool) → b ≡ true → b ≡ false → ⊥
  true_false b e f = cc

  not_free : (takes : Bool) → takes ≡ true → takes ≡ taken → IsFree ks x → ⊥
  not_free takes e f free = true_false takes e (f ∙ free_hand t.slots hand x.hand taken is.in_hand free.1)

  -- an act after which something is in hand took it
  pub taker : (a : Act) (takes : Bool) → IsAlone taken a → Suits ks x a → Changes hand taken a t takes u → takes ≡ true → IsTaker a
  taker (act.Make form) takes alone s c e = tt
  taker (act.Share i) takes alone s c e = tt
  taker (act.Put i) takes alone s c e = absurd (true_false takes e c.0)
  taker (act.Leave i) takes alone s c e = absurd (not_free takes e c.0 s.0)
  taker (act.Clear i) takes alone s c e = absurd (true_false takes e (c.0 ∙ free_hand t.slots hand x.hand taken is.in_hand s.0))
  taker (act.Count i) takes alone s c e = absurd (not_free takes e c.0 s.0)
  taker (act.Downgrade i) takes alone s c e = tt
  taker (act.Lock i must) takes alone s c e = tt
  taker (act.Expired i) takes alone s c e = absurd (not_free takes e c.0 s.0)
  taker (act.Read i) takes alone s c e = absurd (not_free takes e c.0 s.0)
  taker (act.FromThis i k) takes alone s c e = tt
  taker (act.Alias i j field) takes alone s c e = tt
  taker (act.Move i) takes alone s c e = tt
  taker (act.Ask q) takes alone s c e = absurd (not_free takes e c.0 s.0)
  taker (act.Offer i d) takes alone s c e = tt
  taker (act.Swap d) takes alone s c e = absurd (true_false takes e c.0)
  taker (act.Exchange i d) takes alone s c e = absurd (not_free takes e c.0 s.0)
  taker (act.Holds i d) takes alone s c e = absurd (not_free takes e c.0 s.0)
  taker (act.Load d) takes alone s c e = tt
  taker (act.Compare i d weak) takes alone s c e = absurd (true_false takes e c.0)
  taker act.Drop takes alone s c e = absurd (not_free takes e c.0 s)
  taker (act.OnShelf o) takes alone s c e = absurd s
