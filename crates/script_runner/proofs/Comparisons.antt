-- Where what an act left to end may do so, and how a comparison leaves the slots arranged.
use Rattle.std.proofs.Common.{◌≡◌, ℕ, zero, suc, ◌+◌, ◌-◌, ◌<◌, Bool, true, false, ◌≢◌, ◌⊎◌, List, []}
use Rattle.std.proofs.Common.{◌∷◌, length, drop, slice_get, slice_set, Some, None, Option, sym}
use Rattle.std.proofs.Common.{refl, ap, ◌∙◌, subst, inl, inr, arith}
use Rattle.script_runner.proofs.Prelude
use Prelude.{Act, ActResult, AllEnd, AllSuit, Begun, Block, CellName, Changes, comparison_tasks}
use Prelude.{Ended, FitsSlots, HasKind, IsAlone, IsArranged, IsBelow, IsDealt, IsHandOfTable}
use Prelude.{IsOfName, IsQuiet, IsReachable, IsSeated, IsTop, IsVacant, KeepsLimits, Kind, kind_at}
use Prelude.{kind_in, length-map, MayGoOn, MaySettle, SetsAside, SetsKind, slice_get_within}
use Prelude.{slot_kinds, Stance, stance_after, Standing, Suits, TableNow, Task, task, thread_slots}
use Rattle.script_runner.proofs.Allowances.{Stays, stays_quiet}
use Rattle.script_runner.proofs.Arranging as arranging
use Rattle.script_runner.proofs.Arranging.{set_else, set_here}
use Rattle.script_runner.proofs.Endless.{IsTaker, endless}
use Rattle.script_runner.proofs.Handling as handling
use Rattle.script_runner.proofs.Refusals.{vacant_slot}
use Rattle.script_runner.proofs.Room as room
use Rattle.script_runner.proofs.Stages.{some_last}
use Rattle.script_runner.proofs.Stepping.{three_at}
use Rattle.script_runner.proofs.Suffixes.{drop_next, put_next}
use Rattle.script_runner.specs.Handling.{MayDo}
use Rattle.shared_handle.specs.declared.endings.Ending.{Ending}
use Rattle.step_threads.specs.declared.programs.act.Act.TheVariants as act

-- a vacant hand of a table that stands
pub hand_vacant : (hand : ℕ) (t : TableNow ℕ) → FitsSlots t.desk t.slots → Standing t.desk → AllEnd t.desk t.endings → IsVacant t.slots hand
    → IsHandOfTable hand t false
hand_vacant hand t fits stands ends vacant =
    let low = slice_get_within t.slots hand None (vacant_slot t.slots hand vacant) in
    record {
      seated = record { fits = fits; stands = stands; many = omega (arith, low); last = refl };
      vacant = λ e. vacant_slot t.slots hand vacant;
      ends = ends;
    }

-- something is left to end
pub must_settle : (hand : ℕ) (t : TableNow ℕ) (r : Ended) → IsTop t r → MaySettle hand t → IsVacant t.slots hand
must_settle hand t r top may = go may.room
  where
    go : (t.endings ≡ []) ⊎ IsVacant t.slots hand → IsVacant t.slots hand
    go (inl none) = absurd (some_last top.0 top.1 (sym none ∙ top.2))
    go (inr vacant) = vacant

pub seated : (ks : List Kind) (x : Stance) (hand : ℕ) (taken : Bool) (t : TableNow ℕ) → IsArranged ks x hand taken t → FitsSlots t.desk t.slots
    → Standing t.desk → IsSeated (hand + 1) hand t
seated ks x hand taken t is fits stands = record { fits = fits; stands = stands; many = let many = is.many in omega (arith, many); last = refl }

begun_none : (b : Option Block) (xs ys : List (Ending ℕ)) → b ≡ None → Begun xs b ys → ys ≡ xs
begun_none b xs ys e begun = subst (λ c. Begun xs c ys) e begun

-- what an act left to end may do so
pub may_settle : (ks : List Kind) (x : Stance) (hand : ℕ) (taken : Bool) (t u : TableNow ℕ) (is : IsArranged ks x hand taken t) → KeepsLimits t u
    → (a : Act) (w : ActResult) → IsAlone taken a → Suits ks x a → Changes hand taken a t w.taken u → IsArranged ks (stance_after ks x a) hand w.taken u
    → t.endings ≡ [] → IsDealt hand t taken a w u → MaySettle hand u
may_settle ks x hand taken t u is same a w alone suits changes after none dealt = record { room = go w.taken refl; members = after.members }
  where
    ends : IsTaker a → IsDealt hand t taken a w u → u.endings ≡ t.endings
    ends takes (inl acted) =
        begun_none _ t.endings u.endings (endless (thread_slots hand t) taken a takes acted.reply) acted.acts.ends
    ends takes (inr passed) = passed.endings

    go : (b : Bool) → w.taken ≡ b → (u.endings ≡ []) ⊎ IsVacant u.slots hand
    go true e = inl (ends (handling.taker ks x hand taken t u is same a w.taken alone suits changes e) dealt ∙ none)
    go false e = inr (handling.vacant_hand u.slots hand (stance_after ks x a).hand w.taken after.in_hand e)

pub none_some : (b : Bool) → None ≡ Some b → ⊥
none_some b e = cc

pub false_true : Some false ≡ Some true → ⊥
false_true e = cc

abbrev pub Settling : ℕ → TableNow ℕ → Type 0
Settling hand t = MaySettle hand t

-- the limits, over tables that are the same
pub limits_over : (t v u w : TableNow ℕ) → v ≡ t → w ≡ u → Stays v.desk u.desk → KeepsLimits t w
limits_over t v u w e f st = subst (λ q. KeepsLimits t q) (sym f) (subst (λ q. KeepsLimits q u) e (st.shape, st.allowance))

pub limits_on : (t v q u : TableNow ℕ) → Stays t.desk v.desk → q ≡ v → KeepsLimits q u → KeepsLimits t u
limits_on t v q u st e l = let m = subst (λ r. KeepsLimits r u) e l in (m.0 ∙ st.shape, m.1 ∙ st.allowance)

pub limits_quiet : (t v u : TableNow ℕ) → IsQuiet t.desk v.desk → KeepsLimits v u → KeepsLimits t u
limits_quiet t v u quiet l = let st = stays_quiet t.desk v.desk quiet in (l.0 ∙ st.shape, l.1 ∙ st.allowance)

pub aside_same : (hand : ℕ) (t v u : TableNow ℕ) → SetsAside hand t v → u.slots ≡ v.slots → SetsAside hand t u
aside_same hand t v u a e = (a.0, ap slot_kinds e ∙ a.1)

pub aside_over : (hand : ℕ) (t v q u : TableNow ℕ) → SetsAside hand t v → q ≡ v → u.slots ≡ q.slots → SetsAside hand t u
aside_over hand t v q u a e f = aside_same hand t v u a (f ∙ ap (λ (x : TableNow ℕ). x.slots) e)

pub set_same : (hand : ℕ) (t v q u : TableNow ℕ) → SetsKind hand None t v → q ≡ v → u.slots ≡ q.slots → SetsKind hand None t u
set_same hand t v q u k e f = ap slot_kinds (f ∙ ap (λ (x : TableNow ℕ). x.slots) e) ∙ k

-- the tasks of a comparison, where they stand in a list
pub three_left : (ks : List Kind) (x : Stance) (xs : List Task) (at k i : ℕ) (c : CellName) (weak : Bool)
    → slice_get xs at ≡ Some (task k (act.Compare i c weak)) → AllSuit ks x (drop at xs)
    → drop at xs ≡ comparison_tasks k i c weak (drop (at + 3) xs)
three_left ks x xs at k i c weak is suits =
    three_at xs at _ _ _ is (put_next ks xs x at k i c weak is suits) (drop_next ks xs x at k i c weak is suits)

-- the hand is vacant by what a comparison does
hand_low : (ks : List Kind) (x : Stance) (hand : ℕ) (taken : Bool) (t : TableNow ℕ) → IsArranged ks x hand taken t → hand < length (slot_kinds t.slots)
hand_low ks x hand taken t is = let many = is.many in let l = length-map t.slots kind_in in omega (arith, many, l)

module _ (ks : List Kind) (x : Stance) (hand : ℕ) (t u : TableNow ℕ) (is : IsArranged ks x hand true t) where
  pub vacant_set : SetsKind hand None t u → IsVacant u.slots hand
  vacant_set kinds = ap (λ l. slice_get l hand) kinds ∙ set_here (slot_kinds t.slots) hand None (hand_low ks x hand true t is)

  pub vacant_aside : SetsAside hand t u → IsVacant u.slots hand
  vacant_aside a =
      let last = is.last in
      ap (λ l. slice_get l hand) a.1
      ∙ (set_else (slice_set (slot_kinds t.slots) hand None) (hand - 1) hand a.0 (λ e. omega (arith, e, last))
      ∙ set_here (slot_kinds t.slots) hand None (hand_low ks x hand true t is))

  module _ (same : KeepsLimits t u) (k i : ℕ) (c : CellName) (weak : Bool) (todo : List Task)
      (suits : AllSuit ks x (comparison_tasks k i c weak todo)) (none : u.endings ≡ []) where
    -- a comparison of a cell that isn't there, and one of which the name got what the cell holds
    pub missing_on : SetsAside hand t u → MayGoOn ks hand false u (drop 1 (comparison_tasks k i c weak todo))
    missing_on aside =
        record {
          stance = stance_after ks x (act.Compare i c weak);
          arranged = handling.set_aside ks x hand true t u is same aside suits.0.0 _ refl refl;
          suits = suits.2;
          settled = none;
        }

    pub differs_on : SetsAside hand t u → MayGoOn ks hand false u (drop 2 (comparison_tasks k i c weak todo))
    differs_on aside =
        record {
          stance = stance_after ks (stance_after ks x (act.Compare i c weak)) (act.Put i);
          arranged = handling.set_aside ks x hand true t u is same aside suits.0.0 _ refl refl;
          suits = suits.2.2;
          settled = none;
        }

    -- and one by which what was in hand went in
    pub swapped_on : SetsKind hand None t u → MayGoOn ks hand false u (drop 3 (comparison_tasks k i c weak todo))
    swapped_on kinds =
        record {
          stance = stance_after ks (stance_after ks (stance_after ks x (act.Compare i c weak)) (act.Put i)) act.Drop;
          arranged = arranging.handed ks x hand true t u is same suits.0.0 _ None false kinds refl (λ e. suits.0.4) (vacant_set kinds);
          suits = suits.2.2.2;
          settled = none;
        }

  vacant_as : (r : Option Bool) → (r ≡ Some true → SetsKind hand None t u) → (r ≢ Some true → SetsAside hand t u) → IsVacant u.slots hand
  vacant_as None set aside = vacant_aside (aside (λ e. none_some true e))
  vacant_as (Some true) set aside = vacant_set (set refl)
  vacant_as (Some false) set aside = vacant_aside (aside (λ e. false_true e))

  pub vacant_compared : (r : Option Bool) → (r ≡ Some true → SetsKind hand None t u) → (r ≢ Some true → SetsAside hand t u)
      → IsVacant u.slots hand
  vacant_compared r set aside = vacant_as r set aside

-- what a comparison asks for
module _ (ks : List Kind) (hand : ℕ) (t : TableNow ℕ) (i : ℕ) (c : CellName) (weak : Bool) (may : MayDo ks hand true t (act.Compare i c weak)) where
  pub name_low : i + 1 < hand
  name_low = let last = may.arranged.last in let low = slice_get_within ks i (kind_at c) may.suits.2 in omega (arith, last, low)

  pub named : IsOfName hand c
  named = (handling.cell_for ks may.stance hand true t may.arranged c may.suits.3).0

  pub reached : IsReachable t c
  reached = (handling.cell_for ks may.stance hand true t may.arranged c may.suits.3).1

  pub kinds : HasKind t.slots i (kind_at c) × HasKind t.slots hand (kind_at c)
  kinds = (
    may.arranged.names i (kind_at c) may.suits.2,
    handling.full_hand t.slots hand may.stance.hand (kind_at c) true may.arranged.in_hand may.suits.1 refl,
  )

  pub other : IsVacant t.slots (hand - 1)
  other = handling.other_vacant ks may.stance hand true t may.arranged may.suits.4

  pub has_room : FitsSlots t.desk t.slots → IsBelow t.desk
  has_room fits = room.below ks may.stance hand true t may.arranged fits

-- tasks, from the one after
drop_nothing : {A : Type 0} (n : ℕ) → drop {A = A} n [] ≡ []
drop_nothing zero = refl
drop_nothing (suc n) = refl

pub drop_more : {A : Type 0} (m n : ℕ) (xs : List A) → drop n (drop m xs) ≡ drop (m + n) xs
drop_more zero n xs = ap (λ k. drop k xs) (let e : n ≡ zero + n = omega arith in e)
drop_more (suc m) n [] = drop_nothing n ∙ sym (drop_nothing (suc m + n))
drop_more (suc m) n (x ∷ xs) = drop_more m n xs ∙ ap (λ k. drop k (x ∷ xs)) (let e : suc (m + n) ≡ suc m + n = omega arith in e)

-- an act that is no comparison comes by itself
pub alone : (taken : Bool) (a : Act) → ((i : ℕ) (c : CellName) (weak : Bool) → a ≡ act.Compare i c weak → ⊥) → IsAlone taken a
alone taken a not = go a refl
  where
    go : (b : Act) → a ≡ b → IsAlone taken b
    go (act.Compare i c weak) e = absurd (not i c weak e)
    go b e = tt
