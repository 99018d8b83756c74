-- Each object that was made has a value, which is nothing.
use Rattle.std.proofs.Common.{◌≡◌, ℕ, suc, ◌<◌, ◌≤◌, true, false, ◌≢◌, List, [], ◌∷◌, Some, Option}
use Rattle.std.proofs.Common.{refl, ap, ◌∙◌, ⊎_elim, arith}
use Rattle.step_table.proofs.Prelude.{after, cases_eq, Cell, ClearMember, Compare, ending, Entry}
use Rattle.step_table.proofs.Prelude.{Event, Free, IsLegal, Join, leads, Load, loses, Make}
use Rattle.step_table.proofs.Prelude.{Nothing, NumberedHandle, object_of, Opening, put_cases}
use Rattle.step_table.proofs.Prelude.{sound, Split, State, value, Visit}
use Rattle.std.proofs.lemmas.Bool.{cases_lt}
use Rattle.control_word.specs.declared.model.event.Event.TheVariants.{Shelve, Unshelve, Share}
use Rattle.control_word.specs.declared.model.event.Event.TheVariants.{Leave, Count, Expired, Read}
use Rattle.control_word.specs.declared.model.event.Event.TheVariants.{WeakShare, WeakLeave, Lock}
use Rattle.control_word.specs.declared.model.event.Event.TheVariants.{Swap, Same, Finish}
use Rattle.control_word.specs.declared.model.event.Cell.TheVariants.{Member}
use Rattle.control_word.specs.Events.{fills}
use Rattle.control_word.specs.Histories.{valued}
use Rattle.control_word.specs.State.{unmade, Phase}

abbrev HasValue : (ℕ → Option Nothing) → ℕ → Type 0
HasValue values o = values o ≡ Some tt

-- a cell that is filled makes no object
filled_made : (c : Cell) (x : NumberedHandle) (s : State) (o : ℕ) → o ≤ (fills c x s).made → o ≤ s.made
filled_made (Free c) x s o le = le
filled_made (Member p m) x s o le = le

-- a made object's value, after one more event
valued_after : (s : State) (d : ℕ) (a : Event Nothing) (values : ℕ → Option Nothing) → ((o : ℕ) → 1 ≤ o → o ≤ s.made → HasValue values o)
    → (o : ℕ) → 1 ≤ o → o ≤ (after s d a).made → HasValue (valued s a values) o
valued_after s d (Make b enabled null fields val) values has o one le =
    put_cases (λ j (x : Option Nothing). x ≡ Some tt) values (suc s.made) (Some val) o (λ e. refl) (λ ne. has o one (omega arith))
valued_after s d (Share h p) values has o one le = has o one le
valued_after s d (Leave h last) values has o one le = has o one le
valued_after s d (Count h c) values has o one le = has o one le
valued_after s d (Expired h c) values has o one le = has o one le
valued_after s d (Read h c) values has o one le = has o one le
valued_after s d (Same c h x) values has o one le = has o one le
valued_after s d (WeakShare q p) values has o one le = has o one le
valued_after s d (WeakLeave h c) values has o one le = has o one le
valued_after s d (Lock h c) values has o one le = has o one le
valued_after s d (Load c x) values has o one le = has o one le
valued_after s d (Swap c x y) values has o one le = has o one (filled_made c x (loses d x s) o le)
valued_after s d (Compare c e x y true w) values has o one le = has o one (filled_made c x (loses d x s) o le)
valued_after s d (Compare c e x y false w) values has o one le = has o one le
valued_after s d (ClearMember q m h) values has o one le = has o one le
valued_after s d (Finish q c val) values has o one le = has o one le
valued_after s d (Visit h c val) values has o one le =
    put_cases (λ j (x : Option Nothing). x ≡ Some tt) values (object_of h) (Some val) o (λ e. refl) (λ ne. has o one le)
valued_after s d (Split to amount hs bs) values has o one le = has o one le
valued_after s d (Join other) values has o one le = has o one le
valued_after s d (Shelve b) values has o one le = has o one le
valued_after s d (Unshelve b) values has o one le = has o one le

made_value : (z : Opening) (h : List (Entry Nothing)) (o : ℕ) → 1 ≤ o → o ≤ (leads z h).made → HasValue (value z h) o
made_value z [] o one le = absurd (omega arith)
made_value z (e ∷ h) o one le = valued_after (leads z h) e.desk e.event (value z h) (made_value z h) o one le

ended_some : (p : Phase) (d : ℕ) → p ≡ ending d → p ≡ unmade → ⊥
ended_some p d e u = cc

-- an object that is ending has its value
pub ending_value : (z : Opening) (h : List (Entry Nothing)) → IsLegal z h → (o d : ℕ) → ((leads z h).object o).phase ≡ ending d
    → value z h o ≡ Some tt
ending_value z h legal o d e =
    let s = leads z h in
    let fine = sound z h legal in
    made_value z h o
    (⊎_elim (λ (is : o ≡ 0). absurd (ended_some (s.object o).phase d e (ap (λ (n : ℕ). (s.object n).phase) is ∙ fine.none)))
    (λ (ne : o ≢ 0). omega arith) (cases_eq o 0))
    (⊎_elim (λ (lt : s.made < o). absurd (ended_some (s.object o).phase d e (fine.fresh o lt))) (λ (ge : o ≤ s.made). ge) (cases_lt s.made o))
