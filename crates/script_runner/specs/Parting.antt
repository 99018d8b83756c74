-- What the calls say by which tables part and come together.
use Rattle.std.specs.Prelude.{◌≡◌, ◌⊎◌, ◌↔◌, ℕ, ◌+◌, ◌<◌, List, [], ◌∷◌, length}
use Rattle.control_word.specs.declared.refusal.Refusal.{Refusal}
use Rattle.control_word.specs.declared.refusal.Refusal.TheVariants.{Full, Limit, Memory}
use Rattle.control_block.specs.Desks.{DeskNow, allowance_of, stock_of}
use Rattle.control_block.specs.Parting.{IsTooMuch, JoinsWith, SplitsOff}
use Rattle.shared_handle.specs.Piles.{AreRounds, Past}
use Rattle.shared_handle.specs.declared.endings.Ending.{Ending}
use Rattle.script_runner.specs.SlotCalls.{LeavesSlot}
use Rattle.script_runner.specs.Tables.{AllVacant, Slot, TableNow}

-- a desk gives no part of it, or there was no memory for that
abbrev pub IsRefusedPart : Refusal → Type 0
IsRefusedPart why = (why ≡ Limit) ⊎ ((why ≡ Full) ⊎ (why ≡ Memory))

module _ {V : Type 0} where
  -- why a desk gives no part of allowance a, with k blocks and no handle: each refusal just where none before it comes
  pub record WhyNoPart (d : DeskNow V) (a k : ℕ) (why : Refusal) : Type 0 where
    pub limit : why ≡ Limit ↔ IsTooMuch d a 0
    pub full : why ≡ Full ↔ ((IsTooMuch d a 0 → ⊥) × (length (stock_of d) < k))
    pub named : (why ≡ Limit) ⊎ ((why ≡ Full) ⊎ (why ≡ Memory))

  -- why a team is smaller: there was no memory for all, or the desk gave no such part
  abbrev pub WhyFewer : DeskNow V → ℕ → ℕ → Refusal → Type 0
  WhyFewer d a k why = (why ≡ Memory) ⊎ WhyNoPart d a k why

  -- the handles left their slots, the last one first, and what ended for them went onto the pile
  abbrev pub LeaveSlots : DeskNow V → List (Ending V) → List Slot → DeskNow V → List (Ending V) → Type 0
  LeaveSlots d xs [] e ys = (e ≡ d) × (ys ≡ xs)
  LeaveSlots d xs (s ∷ ss) e ys = (m : DeskNow V) × (zs : List (Ending V)) × LeaveSlots d xs ss m zs
      × LeavesSlot m zs s e ys

  -- all handles left, and then all that was left to end did so; the allowance stayed
  pub record WindsUp (t : TableNow V) (e : DeskNow V) : Type 0 where
    pub between : DeskNow V
    pub pile : List (Ending V)
    pub handles : LeaveSlots t.desk t.endings t.slots between pile
    pub rounds : List (Past V)
    pub ends : AreRounds between pile rounds e []
    pub shape : e.shape ≡ t.desk.shape
    pub allowance : allowance_of e ≡ allowance_of t.desk

  -- another table was wound up, and its part came
  pub record Absorbs (t other u : TableNow V) : Type 0 where
    pub bare : DeskNow V
    pub winds_up : WindsUp other bare
    pub desks : JoinsWith t.desk bare u.desk
    pub allowance : allowance_of u.desk ≡ allowance_of t.desk + allowance_of other.desk
    pub rest : (u.slots ≡ t.slots) × (u.endings ≡ t.endings)

  -- a desk gave parts to new tables, one after the other, none with a handle
  abbrev pub IsPartedInto : DeskNow V → ℕ → ℕ → List (TableNow V) → DeskNow V → Type 0
  IsPartedInto d a k [] e = e ≡ d
  IsPartedInto d a k (t ∷ ts) e = (m : DeskNow V) × SplitsOff d a k [] m t.desk × IsPartedInto m a k ts e

  -- a new table with so many slots
  abbrev pub IsNew : ℕ → TableNow V → Type 0
  IsNew n t = AllVacant t.slots × (length t.slots ≡ n) × (t.endings ≡ [])

  -- tables were absorbed, the last one first
  abbrev pub AbsorbsAll : TableNow V → List (TableNow V) → TableNow V → Type 0
  AbsorbsAll t [] u = u ≡ t
  AbsorbsAll t (x ∷ xs) u = (m : TableNow V) × AbsorbsAll t xs m × Absorbs m x u
