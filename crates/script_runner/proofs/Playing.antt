-- What a worker that comes to the end of its tasks has played.
use Rattle.std.proofs.Common.{◌≡◌, ℕ, zero, suc, ◌+◌, ◌<◌, ◌≤◌, Bool, false, ◌⊎◌, List, [], ◌∷◌}
use Rattle.std.proofs.Common.{length, slice_get, Some, None, sym, refl, ap, ◌∙◌, subst, inl, inr}
use Rattle.std.proofs.Common.{arith}
use Rattle.script_runner.proofs.Prelude.{AllBare, asked_in, GoesOnWith, HasBegun, HasNoObject}
use Rattle.script_runner.proofs.Prelude.{IsArranged, IsVacant, IsWorked, Kind, Log, MayGoOn}
use Rattle.script_runner.proofs.Prelude.{no_slots, Notes, PlaysOn, Stance, TableNow, Task}
use Rattle.script_runner.specs.Tables.{Slot}
use Rattle.script_runner.proofs.Handling.{free_hand, vacant_hand}
use Rattle.script_runner.proofs.Refusals.{vacant_slot}
use Rattle.script_runner.proofs.Seating.{same_some}
use Rattle.script_runner.proofs.Settles.{played}

all_bare : (ss : List Slot) → ((i : ℕ) (s : Slot) → i < length ss → slice_get ss i ≡ Some s → HasNoObject s) → AllBare ss
all_bare [] each = tt
all_bare (s ∷ ss) each = (each 0 s (omega arith) refl, all_bare ss (λ i r lt at. each (suc i) r (omega (arith, lt)) at))

vacant_bare : (ss : List Slot) (i : ℕ) (s : Slot) → IsVacant ss i → slice_get ss i ≡ Some s → HasNoObject s
vacant_bare ss i s vacant at = subst HasNoObject (same_some None s (sym (vacant_slot ss i vacant) ∙ at)) tt

-- below a number, at it, or above it
split : (i n : ℕ) → (i < n) ⊎ ((i ≡ n) ⊎ (n < i))
split zero zero = inr (inl refl)
split zero (suc n) = inl (omega arith)
split (suc i) zero = inr (inr (omega arith))
split (suc i) (suc n) = next (split i n)
  where
    next : (i < n) ⊎ ((i ≡ n) ⊎ (n < i)) → (suc i < suc n) ⊎ ((suc i ≡ suc n) ⊎ (suc n < suc i))
    next (inl a) = inl (omega (arith, a))
    next (inr (inl e)) = inr (inl (ap suc e))
    next (inr (inr b)) = inr (inr (omega (arith, b)))

-- at the end no slot has an object
over_bare : (ks : List Kind) (x : Stance) (hand : ℕ) (taken : Bool) (t : TableNow ℕ) → IsArranged ks x hand taken t → x.hand ≡ None
    → x.owes ≡ false
    → x.names ≡ 0 → AllBare t.slots
over_bare ks x hand taken t is none owes names = all_bare t.slots each
  where
    hand_bare : (s : Slot) → slice_get t.slots hand ≡ Some s → HasNoObject s
    hand_bare s at =
        vacant_bare t.slots hand s (vacant_hand t.slots hand x.hand taken is.in_hand (free_hand t.slots hand x.hand taken is.in_hand none)) at

    after : (i : ℕ) (s : Slot) → i < length t.slots → slice_get t.slots i ≡ Some s → length ks < i → (i < hand) ⊎ ((i ≡ hand) ⊎ (hand < i))
        → HasNoObject s
    after i s low at lt (inl a) = let last = is.last in let no : ⊥ = omega (arith, a, lt, last) in absurd no
    after i s low at lt (inr (inl e)) = hand_bare s (subst (λ n. slice_get t.slots n ≡ Some s) e at)
    after i s low at lt (inr (inr b)) = vacant_bare t.slots i s (is.rest i b low) at

    each : (i : ℕ) (s : Slot) → i < length t.slots → slice_get t.slots i ≡ Some s → HasNoObject s
    each i s low at = go (split i (length ks))
      where
        go : (i < length ks) ⊎ ((i ≡ length ks) ⊎ (length ks < i)) → HasNoObject s
        go (inl a) = is.cleared i s (omega (arith, names)) a at
        go (inr (inl e)) = vacant_bare t.slots i s (subst (λ n. IsVacant t.slots n) (sym e) (is.dropped owes)) at
        go (inr (inr b)) = after i s low at b (split i hand)

-- a worker that came to the end of its tasks played its thread
pub worked : (kinds : List Kind) (tasks : List Task) (w x : Log) (t v u : TableNow ℕ) → w.taken ≡ false → HasBegun kinds (length kinds + 1) t v
    → PlaysOn (length kinds + 1) v tasks w u [] x → MayGoOn kinds (length kinds + 1) x.taken u [] → u.desk.shape ≡ t.desk.shape
    → IsWorked kinds tasks w t x u
worked kinds tasks w x t v u idle begun g over shape part same =
    let hand = length kinds + 1 in
    record {
      lines = g.lines;
      plays = played hand part t v u x.taken tasks g.lines (ap (λ l. length l + 1) (sym same.0)) same.1 begun.unmoved.0
          (begun.slots ∙ ap (λ l. no_slots (length l)) (sym same.0))
          (subst (λ q. GoesOnWith hand v q tasks [] u x.taken [] g.lines) idle (g.goes [])) shape
          (over_bare kinds over.stance hand x.taken u over.arranged over.suits.0 over.suits.1 over.suits.2) over.settled;
      notes = subst (λ n. Notes w x n g.lines) (let asks = g.asks in let all : g.asked ≡ asked_in tasks = omega (arith, asks) in all) g.notes;
    }

-- each step goes further, until the tasks are done
pub further : (counter at next many : ℕ) → counter ≤ at → counter < many → (at < many → at < next) → at ≤ next → counter + 1 ≤ next
further counter at next many le few on stays = go (split at many)
  where
    go : (at < many) ⊎ ((at ≡ many) ⊎ (many < at)) → counter + 1 ≤ next
    go (inl a) = let b = on a in omega (arith, le, b)
    go (inr (inl e)) = omega (arith, few, e, stays)
    go (inr (inr b)) = omega (arith, few, b, stays)
