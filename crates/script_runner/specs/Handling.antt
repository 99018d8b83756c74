-- What an act asks of the slots of a worker's table, and what it does to the kinds of what they have. All of it is own.
use Rattle.std.specs.Prelude.{◌≡◌, ◌≢◌, ◌⊎◌, ℕ, ◌-◌, ◌<◌, Bool, true, false, List, []}
use Rattle.std.specs.Prelude.{◌∷◌, slice_get}
use Rattle.std.specs.Prelude.{Some, None}
use Rattle.control_word.specs.declared.model.handle.Kind.{Kind}
use Rattle.control_word.specs.declared.model.handle.Kind.TheVariants.{Owner, Weak}
use Rattle.script_runner.specs.Tables as table
use Rattle.script_runner.specs.Tables.{HasScriptMembers, TableNow}
use Rattle.script_runner.specs.Asked.{AsksBelow, HasAsked}
use Rattle.script_runner.specs.CellCalls.{IsOfName}
use Rattle.script_runner.specs.Goings.{task}
use Rattle.script_runner.specs.Kinds.{AllSuit, HasKind, IsArranged, IsName, IsVacant, KeepsKinds, SetsKind, Stance}
use Rattle.script_runner.specs.Kinds.{Suits}
use Rattle.script_runner.specs.Kinds.{TakesKind, stance_after}
use Rattle.script_runner.specs.Reached.{IsReachable, SetsAside}
use Rattle.script_runner.specs.TableCalls.{null_form}
use Rattle.script_runner.specs.Teams.{HasNoObject}
use Rattle.step_threads.specs.Programs.{kind_at}
use Rattle.step_threads.specs.declared.programs.act.Act.{Act}
use Rattle.step_threads.specs.declared.programs.act.Act.TheVariants as act
use Rattle.step_threads.specs.declared.programs.act.Task.{Task}
use Rattle.step_threads.specs.declared.programs.call.CellName.{CellName}

-- a slot before the hand has a handle; of this kind; of the kind of a name
abbrev pub IsHeld : ℕ → TableNow ℕ → ℕ → Type 0
IsHeld hand t i = (i < hand) × ((k : Kind) × HasKind t.slots i k)

abbrev pub IsHeldAs : ℕ → TableNow ℕ → ℕ → Kind → Type 0
IsHeldAs hand t i k = (i < hand) × HasKind t.slots i k

abbrev pub IsHeldByName : List Kind → ℕ → TableNow ℕ → ℕ → Type 0
IsHeldByName ks hand t i = (i < hand) × ((k : Kind) × IsName ks i k × HasKind t.slots i k)

-- the cell can be named
abbrev pub IsCellFor : ℕ → TableNow ℕ → CellName → Type 0
IsCellFor hand t c = IsOfName hand c × IsReachable t c

-- what the act asks for, with something in hand or not
abbrev pub Asks : List Kind → ℕ → Bool → TableNow ℕ → Act → Type 0
Asks ks hand taken t (act.Make form) = (taken ≡ false) × (form.null ≡ true → form ≡ null_form)
Asks ks hand taken t (act.Share i) = (taken ≡ false) × IsHeld hand t i
Asks ks hand taken t (act.Put i) =
    IsHeld hand t i × (taken ≡ true → (k : Kind) → HasKind t.slots i k → HasKind t.slots hand k)
Asks ks hand taken t (act.Leave i) = IsHeldByName ks hand t i
Asks ks hand taken t (act.Clear i) = IsHeldByName ks hand t i
Asks ks hand taken t (act.Count i) = IsHeld hand t i
Asks ks hand taken t (act.Downgrade i) = (taken ≡ false) × IsHeldAs hand t i Owner
Asks ks hand taken t (act.Lock i must) = (taken ≡ false) × IsHeldAs hand t i Weak
Asks ks hand taken t (act.Expired i) = IsHeldAs hand t i Weak
Asks ks hand taken t (act.Read i) = IsHeldAs hand t i Owner
Asks ks hand taken t (act.FromThis i k) = (taken ≡ false) × IsHeldAs hand t i Owner
Asks ks hand taken t (act.Alias i j field) = (taken ≡ false) × IsHeldAs hand t i Owner × IsHeldAs hand t j Owner
Asks ks hand taken t (act.Move i) = (taken ≡ false) × IsHeldByName ks hand t i
Asks ks hand taken t (act.Ask q) = AsksBelow hand q × HasAsked t.slots q
Asks ks hand taken t (act.Offer i c) = (taken ≡ false) × IsHeldAs hand t i (kind_at c) × IsCellFor hand t c
Asks ks hand taken t (act.Swap c) = (0 < hand) × IsCellFor hand t c
    × (taken ≡ true → HasKind t.slots hand (kind_at c)) × IsVacant t.slots (hand - 1)
Asks ks hand taken t (act.Exchange i c) = IsHeldAs hand t i (kind_at c) × IsCellFor hand t c
Asks ks hand taken t (act.Load c) = (taken ≡ false) × IsCellFor hand t c
Asks ks hand taken t (act.Compare i c weak) = taken ≡ false
Asks ks hand taken t (act.Holds i c) = IsHeldAs hand t i (kind_at c) × IsCellFor hand t c
Asks ks hand taken t act.Drop = 0 < hand
Asks ks hand taken t (act.OnShelf s) = ⊥

-- a comparison comes by itself only with nothing in hand
abbrev pub IsAlone : Bool → Act → Type 0
IsAlone taken (act.Compare i c weak) = taken ≡ false
IsAlone taken a = Unit {0}

-- a name became empty: no other slot has changed
abbrev pub IsBared : ℕ → TableNow ℕ → TableNow ℕ → Type 0
IsBared i t u = KeepsKinds t u × ((j : ℕ) → i ≢ j → slice_get u.slots j ≡ slice_get t.slots j)
    × ((s : table.Slot) → slice_get u.slots i ≡ Some s → HasNoObject s)

-- what it changes, with something in hand before or not, and after
abbrev pub Changes : ℕ → Bool → Act → TableNow ℕ → Bool → TableNow ℕ → Type 0
Changes hand taken (act.Make form) t takes u = TakesKind hand Owner takes t u
Changes hand taken (act.Share i) t takes u = (k : Kind) → HasKind t.slots i k → TakesKind hand k takes t u
Changes hand taken (act.Put i) t takes u = (takes ≡ false) × (taken ≡ true → SetsKind hand None t u)
    × (taken ≡ false → KeepsKinds t u)
Changes hand taken (act.Leave i) t takes u = (takes ≡ taken) × KeepsKinds t u
Changes hand taken (act.Clear i) t takes u = (takes ≡ taken) × IsBared i t u
Changes hand taken (act.Downgrade i) t takes u = TakesKind hand Weak takes t u
Changes hand taken (act.Lock i must) t takes u = TakesKind hand Owner takes t u
Changes hand taken (act.FromThis i k) t takes u = TakesKind hand k takes t u
Changes hand taken (act.Alias i j field) t takes u = TakesKind hand Owner takes t u
Changes hand taken (act.Move i) t takes u = (k : Kind) → HasKind t.slots i k → TakesKind hand k takes t u
Changes hand taken (act.Offer i c) t takes u = TakesKind hand (kind_at c) takes t u
Changes hand taken (act.Swap c) t takes u = (takes ≡ false) × (taken ≡ false → KeepsKinds t u)
    × (taken ≡ true → SetsAside hand t u)
Changes hand taken (act.Exchange i c) t takes u = (takes ≡ taken) × KeepsKinds t u
Changes hand taken (act.Load c) t takes u = TakesKind hand (kind_at c) takes t u
Changes hand taken (act.Compare i c weak) t takes u = (takes ≡ false) × KeepsKinds t u
Changes hand taken act.Drop t takes u = (takes ≡ taken) × SetsKind (hand - 1) None t u
Changes hand taken a t takes u = (takes ≡ taken) × (u.slots ≡ t.slots)

-- the slots are arranged as the thread is, and the act suits it
pub record MayDo (ks : List Kind) (hand : ℕ) (taken : Bool) (t : TableNow ℕ) (a : Act) : Type 0 where
  pub stance : Stance
  pub arranged : IsArranged ks stance hand taken t
  pub suits : Suits ks stance a

-- and after it they are again
abbrev pub StaysArranged : List Kind → ℕ → Bool → Act → TableNow ℕ → Bool → TableNow ℕ → Type 0
StaysArranged ks hand taken a t takes u =
    (x : Stance) → IsArranged ks x hand taken t → Suits ks x a → IsArranged ks (stance_after ks x a) hand takes u

-- the thread may go on with these tasks: they suit its names where it is, its slots are arranged so, and nothing is
-- left to end
pub record MayGoOn (ks : List Kind) (hand : ℕ) (taken : Bool) (t : TableNow ℕ) (todo : List Task) : Type 0 where
  pub stance : Stance
  pub arranged : IsArranged ks stance hand taken t
  pub suits : AllSuit ks stance todo
  pub settled : t.endings ≡ []

-- nothing is left to end, or what comes out of a member can come into the hand; and objects have a script's members
pub record MaySettle (hand : ℕ) (t : TableNow ℕ) : Type 0 where
  pub room : (t.endings ≡ []) ⊎ IsVacant t.slots hand
  pub members : HasScriptMembers t.desk.shape

-- the tasks of a comparison of statement k, with those after it
abbrev pub comparison_tasks : ℕ → ℕ → CellName → Bool → List Task → List Task
comparison_tasks k i c weak todo = task k (act.Compare i c weak) ∷ task k (act.Put i) ∷ task k act.Drop ∷ todo
