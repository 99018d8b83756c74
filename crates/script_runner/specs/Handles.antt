-- What the calls that give empty handles say, and those that make an owner of a weak handle or refuse to.
use Rattle.std.specs.Prelude.{◌≡◌, ℕ, ◌+◌, None, Ok, Err}
use Rattle.control_word.specs.declared.refusal.Refusal.TheVariants.{BadWeak}
use Rattle.control_block.specs.declared.handles.Held.TheVariants.{Weak}
use Rattle.control_block.specs.declared.handles.Weak as weak_handle
use Rattle.shared_handle.specs.Calls.{counting}
use Rattle.shared_handle.specs.Locks.{IsUpgrade}
use Rattle.script_runner.specs.SlotCalls.{Comes, IsOwner, IsWeak}
use Rattle.script_runner.specs.Tables.{IsAt, TableNow}

module _ {V : Type 0} where
  -- an owner of nothing was assigned to a slot; it is only counted ([util.smartptr.shared.const])
  abbrev pub EmptiesSlot : TableNow V → ℕ → TableNow V → Type 0
  EmptiesSlot t to u =
      Comes (IsOwner (λ d h e. (h.block ≡ None) × (h.place ≡ None) × (e ≡ counting (d.held + 1) d))) t to u

  -- and a weak handle on nothing ([util.smartptr.weak.const])
  abbrev pub EmptiesSlotWeakly : TableNow V → ℕ → TableNow V → Type 0
  EmptiesSlotWeakly t to u = Comes
      (IsWeak (λ d h e. (h.block ≡ None) × (h.place ≡ None) × (e ≡ counting (d.held + 1) d))) t to u

  -- an owner of a weak handle's object was assigned to a slot ([util.smartptr.shared.const])
  pub record Upgrades (t : TableNow V) (from to : ℕ) (u : TableNow V) : Type 0 where
    pub of : weak_handle.Weak
    pub at : IsAt t from (Weak of)
    pub owner : Comes (IsOwner (λ d h e. IsUpgrade d of.block of.place (Ok h) e)) t to u

  -- the weak handle gave none, since no owner remained at its step; the slots are as they were
  pub record GivesNoOwner (t : TableNow V) (from : ℕ) (u : TableNow V) : Type 0 where
    pub of : weak_handle.Weak
    pub at : IsAt t from (Weak of)
    pub event : IsUpgrade t.desk of.block of.place (Err BadWeak) u.desk
    pub rest : (u.slots ≡ t.slots) × (u.endings ≡ t.endings)
