-- Which kinds of handles a worker's slots have, and which tasks suit them. All of it is own.
use Rattle.std.specs.Prelude.{◌≡◌, ℕ, suc, ◌+◌, ◌<◌, ◌≤◌, Bool, true, false, List, []}
use Rattle.std.specs.Prelude.{◌∷◌, length, map}
use Rattle.std.specs.Prelude.{Option, Some, None, slice_get, slice_set}
use Rattle.control_block.specs.Desks.{allowance_of}
use Rattle.control_word.specs.declared.model.handle.Kind.{Kind}
use Rattle.control_word.specs.declared.model.handle.Kind.TheVariants.{Owner, Weak}
use Rattle.script_runner.specs.Parts.{kind_of_held}
use Rattle.script_runner.specs.Tables as table
use Rattle.script_runner.specs.Tables.{HasScriptMembers, TableNow}
use Rattle.script_runner.specs.Goings.{task}
use Rattle.script_runner.specs.TableCalls.{null_form}
use Rattle.script_runner.specs.Teams.{HasNoObject}
use Rattle.script_text.specs.Scripts.{HasTextCells}
use Rattle.step_threads.specs.Programs.{kind_at}
use Rattle.step_threads.specs.declared.programs.act.Act.{Act}
use Rattle.step_threads.specs.declared.programs.act.Act.TheVariants as act
use Rattle.step_threads.specs.declared.programs.act.Question.{Question}
use Rattle.step_threads.specs.declared.programs.act.Question.TheVariants as question
use Rattle.step_threads.specs.declared.programs.act.Task.{Task}
use Rattle.step_threads.specs.declared.programs.call.CellName.{CellName}
use Rattle.step_threads.specs.declared.programs.call.CellName.TheVariants as cell

-- the kind of what a slot has, if it has a handle
abbrev pub kind_in : table.Slot → Option Kind
kind_in None = None
kind_in (Some h) = Some (kind_of_held h)

abbrev pub slot_kinds : List table.Slot → List (Option Kind)
slot_kinds ss = map kind_in ss

-- the slot has a handle of this kind, or is vacant
abbrev pub HasKind : List table.Slot → ℕ → Kind → Type 0
HasKind ss i k = slice_get (slot_kinds ss) i ≡ Some (Some k)

abbrev pub IsVacant : List table.Slot → ℕ → Type 0
IsVacant ss i = slice_get (slot_kinds ss) i ≡ Some None

-- of all slots only this one may have another kind than before, or have become vacant or taken
abbrev pub SetsKind : ℕ → Option Kind → TableNow ℕ → TableNow ℕ → Type 0
SetsKind i k t u = slot_kinds u.slots ≡ slice_set (slot_kinds t.slots) i k

abbrev pub KeepsKinds : TableNow ℕ → TableNow ℕ → Type 0
KeepsKinds t u = slot_kinds u.slots ≡ slot_kinds t.slots

-- the domain has the same cells, and the desk its allowance
abbrev pub KeepsLimits : TableNow ℕ → TableNow ℕ → Type 0
KeepsLimits t u = (u.desk.shape ≡ t.desk.shape) × (allowance_of u.desk ≡ allowance_of t.desk)

-- an act took a handle of this kind into the hand, or nothing
abbrev pub TakesKind : ℕ → Kind → Bool → TableNow ℕ → TableNow ℕ → Type 0
TakesKind hand k true t u = SetsKind hand (Some k) t u
TakesKind hand k false t u = KeepsKinds t u

-- among names of these kinds this is one, of this kind
abbrev pub IsName : List Kind → ℕ → Kind → Type 0
IsName ks i k = slice_get ks i ≡ Some k

-- a cell that each script has, or a member of what a name owns
abbrev pub IsReached : List Kind → CellName → Type 0
IsReached ks (cell.Shared n) = n < 128
IsReached ks (cell.Weak n) = n < 128
IsReached ks (cell.Member i m) = IsName ks i.0 Owner × (m < 3)

abbrev pub SuitsNames : List Kind → Question → Type 0
SuitsNames ks (question.Place i) = IsName ks i Owner
SuitsNames ks (question.Same i j) = IsName ks i Owner × IsName ks j Owner
SuitsNames ks (question.Before i j) = (i < length ks) × (j < length ks)

-- where a thread is between two acts: of which kind what is in hand is, if something is; whether something may be to be
-- dropped; and how many names aren't cleared yet
pub record Stance : Type 0 where
  pub hand : Option Kind
  pub owes : Bool
  pub names : ℕ

-- an act that is not one of the thread's end
abbrev pub IsBefore : List Kind → Stance → Type 0
IsBefore ks x = x.names ≡ length ks

-- an act that comes with nothing in hand
abbrev pub IsFree : List Kind → Stance → Type 0
IsFree ks x = IsBefore ks x × (x.hand ≡ None)

-- an act suits names of these kinds, where the thread is
abbrev pub Suits : List Kind → Stance → Act → Type 0
Suits ks x (act.Make form) = IsFree ks x × (form.null ≡ true → form ≡ null_form)
Suits ks x (act.Share i) = IsFree ks x × (i < length ks)
Suits ks x (act.Put i) = IsBefore ks x × (i < length ks) × (x.hand ≡ slice_get ks i)
Suits ks x (act.Leave i) = IsFree ks x × (i < length ks)
Suits ks x (act.Clear i) = (x.hand ≡ None) × (suc i ≡ x.names)
Suits ks x (act.Count i) = IsFree ks x × (i < length ks)
Suits ks x (act.Downgrade i) = IsFree ks x × IsName ks i Owner
Suits ks x (act.Lock i must) = IsFree ks x × IsName ks i Weak
Suits ks x (act.Expired i) = IsFree ks x × IsName ks i Weak
Suits ks x (act.Read i) = IsFree ks x × IsName ks i Owner
Suits ks x (act.FromThis i k) = IsFree ks x × IsName ks i Owner
Suits ks x (act.Alias i j field) = IsFree ks x × IsName ks i Owner × IsName ks j Owner
Suits ks x (act.Move i) = IsFree ks x × (i < length ks)
Suits ks x (act.Ask q) = IsFree ks x × SuitsNames ks q
Suits ks x (act.Offer i c) = IsFree ks x × IsName ks i (kind_at c) × IsReached ks c
Suits ks x (act.Swap c) = IsBefore ks x × (x.hand ≡ Some (kind_at c)) × IsReached ks c × (x.owes ≡ false)
Suits ks x (act.Exchange i c) = IsFree ks x × IsName ks i (kind_at c) × IsReached ks c
Suits ks x (act.Load c) = IsFree ks x × IsReached ks c
Suits ks x (act.Compare i c weak) =
    IsBefore ks x × (x.hand ≡ Some (kind_at c)) × IsName ks i (kind_at c) × IsReached ks c × (x.owes ≡ false)
Suits ks x (act.Holds i c) = IsFree ks x × IsName ks i (kind_at c) × IsReached ks c
Suits ks x act.Drop = IsFree ks x
Suits ks x (act.OnShelf s) = ⊥

-- where it is after the act, whatever came of it
abbrev pub hand_after : List Kind → Option Kind → Act → Option Kind
hand_after ks h (act.Make form) = Some Owner
hand_after ks h (act.Share i) = slice_get ks i
hand_after ks h (act.Downgrade i) = Some Weak
hand_after ks h (act.Lock i must) = Some Owner
hand_after ks h (act.FromThis i k) = Some k
hand_after ks h (act.Alias i j field) = Some Owner
hand_after ks h (act.Move i) = slice_get ks i
hand_after ks h (act.Offer i c) = Some (kind_at c)
hand_after ks h (act.Load c) = Some (kind_at c)
hand_after ks h (act.Put i) = None
hand_after ks h (act.Swap c) = None
hand_after ks h a = h

abbrev pub owes_after : Bool → Act → Bool
owes_after owes (act.Swap c) = true
owes_after owes (act.Compare i c weak) = true
owes_after owes act.Drop = false
owes_after owes a = owes

abbrev pub names_after : ℕ → Act → ℕ
names_after n (act.Clear i) = i
names_after n a = n

abbrev pub stance_after : List Kind → Stance → Act → Stance
stance_after ks x a =
    record { hand = hand_after ks x.hand a; owes = owes_after x.owes a; names = names_after x.names a }

-- a comparison is followed by the tasks that go on with it
abbrev pub GoesTogether : Act → ℕ → List Task → Type 0
GoesTogether (act.Compare i c weak) k ts =
    (slice_get ts 0 ≡ Some (task k (act.Put i))) × (slice_get ts 1 ≡ Some (task k act.Drop))
GoesTogether a k ts = Unit {0}

-- each of these tasks suits the names where it comes, and at the end all names are cleared
abbrev pub AllSuit : List Kind → Stance → List Task → Type 0
AllSuit ks x [] = (x.hand ≡ None) × (x.owes ≡ false) × (x.names ≡ 0)
AllSuit ks x (t ∷ ts) =
    Suits ks x t.act × GoesTogether t.act t.statement ts × AllSuit ks (stance_after ks x t.act) ts

-- the thread before its first task
abbrev pub first_stance : List Kind → Stance
first_stance ks = record { hand = None; owes = false; names = length ks }

-- what is in hand is of the kind that it has to be
abbrev pub IsInHand : List table.Slot → ℕ → Option Kind → Bool → Type 0
IsInHand ss hand k false = IsVacant ss hand
IsInHand ss hand None true = ⊥
IsInHand ss hand (Some k) true = HasKind ss hand k

-- The slots of a table are those of a worker's thread: each name has a handle of its kind, and no object where it is
-- cleared; behind the names one slot is vacant unless something is to be dropped, the next one is the hand, and all
-- others are vacant, two at least. The desk's allowance has room for a handle in each slot, so that there is room for
-- one more and for what a member held of an object that ends; and the domain has the cells that texts name, and objects
-- with a script's members
pub record IsArranged (ks : List Kind) (x : Stance) (hand : ℕ) (taken : Bool) (t : TableNow ℕ) : Type 0 where
  pub last : hand ≡ length ks + 1
  pub few : x.names ≤ length ks
  pub many : hand + 2 < length t.slots
  pub names : (i : ℕ) (k : Kind) → IsName ks i k → HasKind t.slots i k
  pub cleared : (i : ℕ) (s : table.Slot) → x.names ≤ i → i < length ks → slice_get t.slots i ≡ Some s
      → HasNoObject s
  pub dropped : x.owes ≡ false → IsVacant t.slots (length ks)
  pub in_hand : IsInHand t.slots hand x.hand taken
  pub rest : (i : ℕ) → hand < i → i < length t.slots → IsVacant t.slots i
  pub room : length t.slots ≤ allowance_of t.desk
  pub cells : HasTextCells t.desk.shape
  pub members : HasScriptMembers t.desk.shape
