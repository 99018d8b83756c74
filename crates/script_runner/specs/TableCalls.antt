-- Which calls of a table are which acts of a thread that has the table's first slots: each law by itself. Events name
-- their sections in the model; the rest is own.
use Rattle.std.specs.Prelude.{◌≡◌, ℕ, ◌+◌, ◌<◌, Bool, true, false, [], ◌∷◌, ◌≢◌, ◌⊎◌}
use Rattle.std.specs.Prelude.{Option, None, Some, Ok}
use Rattle.control_block.specs.declared.handles.Held.TheVariants.{Owner}
use Rattle.control_block.specs.declared.handles.Shared.{Shared}
use Rattle.control_word.specs.declared.model.handle.Kind.TheVariants as kind
use Rattle.control_word.specs.declared.model.handle.Kind.{Kind}
use Rattle.control_word.specs.declared.place.Place.{Place}
use Rattle.control_word.specs.declared.refusal.Refusal.TheVariants.{Limit}
use Rattle.control_word.specs.declared.refusal.Refusal.{Refusal}
use Rattle.control_block.specs.Desks.{stock_of}
use Rattle.script_runner.specs.Cells.{IsAway}
use Rattle.script_runner.specs.SlotCalls as calls
use Rattle.script_runner.specs.Handles as handles
use Rattle.script_runner.specs.Pairs.{AreInOrder, PointAlike}
use Rattle.script_runner.specs.Tables.{TableNow, FitsSlots, IsAt}
use Rattle.script_runner.specs.This as this
use Rattle.script_runner.specs.Seats.{Acts, IsHand, shown_slots, IsQuiet, IsSeated, Leaving}
use Rattle.shared_handle.specs.declared.pile.Gone.{Gone}
use Rattle.step_table.specs.AtomicSteps.{aliased}
use Rattle.step_table.specs.Registers.{place_in, is_full, slot_pointer}
use Rattle.step_table.specs.declared.memory.field.Field.{Field}
use Rattle.step_table.specs.declared.memory.form.Form.{Form}
use Rattle.step_threads.specs.Frames.{placed}
use Rattle.step_threads.specs.Rows.{Found, Got, Plain, Told, Reply, row}
use Rattle.step_threads.specs.declared.programs.act.Act.TheVariants as act
use Rattle.step_threads.specs.declared.programs.act.Act.{Act}
use Rattle.step_threads.specs.declared.programs.act.Question.TheVariants as question
use Rattle.step_threads.specs.declared.said.Answer.TheVariants as answer
use Rattle.step_threads.specs.declared.said.Answer.{Answer}

-- what an owner of null is made as
abbrev pub null_form : Form
null_form = record { fields = 0 ∷ 0 ∷ 0 ∷ 0 ∷ []; enabled = false; null = true }

module _ (V : Type 0) where
  -- a call into the hand, from slot i
  abbrev pub Taking : ((Form → V) → ℕ → TableNow V → Bool → ℕ → ℕ → TableNow V → Type 0)
      → Type 0
  Taking law =
      (worth : Form → V) (m i hand : ℕ) (taken : Bool) (t u : TableNow V)
      → IsHand m hand t → i < m → law worth m t taken i hand u

  -- copies ([util.smartptr.shared.const], [util.smartptr.weak.const])
  abbrev pub CopiesIn : Type 0
  CopiesIn = Taking (λ worth m t taken i hand u.
      calls.Copies t i hand u → Acts worth m t taken (act.Share i) Plain u)

  -- a weak handle of an owner's object ([util.smartptr.weak.const])
  abbrev pub DowngradesIn : Type 0
  DowngradesIn =
      Taking (λ worth m t taken i hand u.
      calls.Downgrades t i hand u → Acts worth m t taken (act.Downgrade i) Plain u)

  -- the aliasing constructor ([util.smartptr.shared.const])
  abbrev pub AliasesIn : Type 0
  AliasesIn = Taking (λ worth m t taken i hand u.
      (j : ℕ) (field : Option Field)
      → this.Aliases t i (aliased field (place_in (shown_slots m t.slots) j)) hand u
      → Acts worth m t taken (act.Alias i j field) Plain u)

  -- a lock ([util.smartptr.weak.obs])
  abbrev pub LocksIn : Type 0
  LocksIn = Taking (λ worth m t taken i hand u.
      (got : Bool) → calls.LocksSlot t i hand got u → Acts worth m t taken (act.Lock i false) (Got got) u)

  -- a shared pointer from a weak one, and that there is none ([util.smartptr.shared.const])
  abbrev pub UpgradesIn : Type 0
  UpgradesIn = Taking (λ worth m t taken i hand u.
      handles.Upgrades t i hand u → Acts worth m t taken (act.Lock i true) (Got true) u)

  abbrev pub UpgradesNot : Type 0
  UpgradesNot = Taking (λ worth m t taken i hand u.
      handles.GivesNoOwner t i u → Acts worth m t taken (act.Lock i true) (Got false) u)

  -- a new object, a new owner of null, and no block for it ([util.smartptr.shared.create],
  -- [util.smartptr.shared.const])
  abbrev pub MakesIn : Type 0
  MakesIn =
      (worth : Form → V) (m hand : ℕ) (taken : Bool) (t u : TableNow V) → IsHand m hand t
      → (form : Form) (x : V) → form.null ≡ false → x ≡ worth form
      → calls.MakesIntoSlot t hand form.enabled form.fields x u
      → (b : ℕ) × Acts worth m t taken (act.Make form) (Found (Some b)) u

  abbrev pub MakesNullIn : Type 0
  MakesNullIn =
      (worth : Form → V) (m hand : ℕ) (taken : Bool) (t u : TableNow V) → IsHand m hand t
      → (x : V) → x ≡ worth null_form → calls.MakesNull t hand x u
      → (b : ℕ) × Acts worth m t taken (act.Make null_form) (Found (Some b)) u

  abbrev pub MakesNot : Type 0
  MakesNot =
      (worth : Form → V) (m hand : ℕ) (taken : Bool) (t : TableNow V)
      → (form : Form) → stock_of t.desk ≡ [] → Acts worth m t taken (act.Make form) (Found None) t

  -- a handle goes from the hand into a slot, and what lay there leaves ([util.smartptr.shared.assign]); where that had
  -- no object it is no act
  abbrev pub PutsIn : Type 0
  PutsIn =
      (worth : Form → V) (m i hand : ℕ) (taken : Bool) (t u : TableNow V) → IsSeated m hand t → i < hand
      → calls.MovesSlot t hand i u → Leaving worth m t taken (act.Put i) u

  abbrev pub PutsIdle : Type 0
  PutsIdle =
      (m i hand : ℕ) (t u : TableNow V) → IsSeated m hand t → i < hand
      → calls.MovesSlot t hand i u → is_full (slot_pointer (shown_slots m t.slots) i) ≡ false
      → IsQuiet t.desk u.desk × (shown_slots m u.slots ≡ placed i (shown_slots m t.slots))
      × (u.endings ≡ t.endings)

  -- a slot becomes empty ([util.smartptr.shared.mod], [util.smartptr.weak.mod])
  abbrev pub EmptiesIn : Type 0
  EmptiesIn =
      (worth : Form → V) (m i : ℕ) (taken : Bool) (t u : TableNow V) → FitsSlots t.desk t.slots → i < m
      → handles.EmptiesSlot t i u ⊎ handles.EmptiesSlotWeakly t i u
      → Leaving worth m t taken (act.Leave i) u × Leaving worth m t taken (act.Clear i) u

  -- what is to be dropped leaves
  abbrev pub ResetsIn : Type 0
  ResetsIn =
      (worth : Form → V) (m hand i : ℕ) (taken : Bool) (t u : TableNow V) → IsSeated m hand t → i + 2 ≡ m
      → (gone : Gone) → calls.Resets t i gone u → Leaving worth m t taken act.Drop u

  -- what a slot has comes into the hand, and the slot is empty ([util.smartptr.shared.const])
  abbrev pub MovesIn : Type 0
  MovesIn =
      (worth : Form → V) (m i hand : ℕ) (taken : Bool) (t between u : TableNow V) → IsHand m hand t → i < hand
      → calls.MovesSlot t i hand between → handles.EmptiesSlot between i u ⊎ handles.EmptiesSlotWeakly between i u
      → Acts worth m t taken (act.Move i) Plain u

  -- a call that tells something of slot i
  abbrev pub Looking : ((Form → V) → ℕ → TableNow V → Bool → ℕ → TableNow V → Type 0) → Type 0
  Looking law =
      (worth : Form → V) (m i hand : ℕ) (taken : Bool) (t u : TableNow V)
      → IsSeated m hand t → i < m → law worth m t taken i u

  -- use_count, expired and a field ([util.smartptr.shared.obs], [util.smartptr.weak.obs])
  abbrev pub CountsIn : Type 0
  CountsIn = Looking (λ worth m t taken i u.
      (n : ℕ) → calls.CountsSlot t i n u → Acts worth m t taken (act.Count i) (Told n) u)

  abbrev pub ExpiresIn : Type 0
  ExpiresIn = Looking (λ worth m t taken i u.
      (expired : Bool) → calls.Expires t i expired u → Acts worth m t taken (act.Expired i) (Got expired) u)

  abbrev pub ReadsIn : Type 0
  ReadsIn = Looking (λ worth m t taken i u.
      (field : ℕ) → calls.ReadsSlot t i (Ok field) u → Acts worth m t taken (act.Read i) (Told field) u)

  -- a mark, with this answer
  pub record MarksAct (worth : Form → V) (m : ℕ) (t : TableNow V) (taken : Bool) (a : Act) (r : Reply)
      (said : Answer) : Type 0 where
    pub acts : Acts worth m t taken a r t
    pub says : (row a (shown_slots m t.slots) taken r).answer ≡ Some said

  -- the field isn't one of the object that the owner owns
  abbrev pub ReadsNot : Type 0
  ReadsNot = Looking (λ worth m t taken i u.
      (h : Shared) (why : Refusal) → IsAt t i (Owner h) → IsAway h.block h.place why
      → MarksAct worth m t taken (act.Read i) (Told 0) (answer.Refused why))

  -- a pointer of either kind from an object that gives pointers to itself, and that it gives none
  -- ([util.smartptr.enab])
  abbrev pub ThisIn : Type 0
  ThisIn = Taking (λ worth m t taken i hand u.
      this.SharesThis t i hand u → Acts worth m t taken (act.FromThis i kind.Owner) (Got true) u)

  abbrev pub WeakThisIn : Type 0
  WeakThisIn = Taking (λ worth m t taken i hand u.
      this.SharesThisWeakly t i hand u → Acts worth m t taken (act.FromThis i kind.Weak) (Got true) u)

  abbrev pub ThisNot : Type 0
  ThisNot = Looking (λ worth m t taken i u.
      (k : Kind) (why : Refusal) → this.IsNoThis t i why → why ≢ Limit
      → MarksAct worth m t taken (act.FromThis i k) (Got false) (answer.Refused why))

  -- where a pointer points, whether two point at one place, and whether the first comes before the other
  abbrev pub PlacesIn : Type 0
  PlacesIn = Looking (λ worth m t taken i u.
      (p : Option Place) → calls.PointsTo t i p
      → MarksAct worth m t taken (act.Ask (question.Place i)) (Got true) (answer.Place p))

  abbrev pub AlikeIn : Type 0
  AlikeIn = Looking (λ worth m t taken i u.
      (j : ℕ) (alike : Bool) → j < m → PointAlike t i j alike
      → MarksAct worth m t taken (act.Ask (question.Same i j)) (Got true) (answer.Same alike))

  abbrev pub MarksOrder : Type 0
  MarksOrder = Looking (λ worth m t taken i u.
      (j : ℕ) (before : Bool) → j < m → AreInOrder t i j before
      → MarksAct worth m t taken (act.Ask (question.Before i j)) (Got before) (answer.Before before))
