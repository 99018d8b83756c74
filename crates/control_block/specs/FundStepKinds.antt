-- What the steps on funds tell, and what a half-done cell call owes.
use Rattle.std.specs.Prelude.{◌≡◌, ℕ, ◌/◌, false, [], Option, None}
use Rattle.atomic_table.specs.Table.{Step}
use Rattle.control_word.specs.declared.model.handle.Kind.{Kind}
use Rattle.control_word.specs.declared.place.Place.{Place}
use Rattle.control_word.specs.declared.model.view.Pending.{Pending}
use Rattle.control_word.specs.declared.model.view.Pending.TheVariants.{Paying}
use Rattle.control_word.specs.Layout.{spot}
use Rattle.control_word.specs.Words.{slot}
use Rattle.control_block.specs.StepKinds.{At, goes_on, in_call}

module _ {V : Type 0} where
  -- this call is half done, and no slot in hand
  pub record Owes (p : Pending V) (me : At V) : Type 0 where
    pub awake : me.0.view.spent ≡ false
    pub pending : me.0.view.pending ≡ p
    pub empty : me.0.hand ≡ None
    pub none : me.1 ≡ []

  -- so many funds, and so many loads under way, are out on block b's count of the handle
  abbrev pub owing : Kind → ℕ → Option Place → ℕ → ℕ → ℕ → Pending V
  owing k o p b funds loads = Paying k o p (spot b (slot k)) funds loads

  -- nothing is owed any more, and the desk has seen no more
  abbrev pub settled : Step (Option V) → At V → ℕ → At V → Type 0
  settled st m n m' = (m'.0 ≡ goes_on m.0) × (m'.1 ≡ m.1)
