-- What the steps on an object's door tell.
use Rattle.std.specs.Prelude.{◌≡◌, ◌≢◌, ℕ, ◌-◌, [], ◌∷◌, Option, Some, None}
use Rattle.atomic_table.specs.Table.{Step}
use Rattle.control_word.specs.declared.model.event.Event.TheVariants.{Visit}
use Rattle.control_word.specs.declared.place.Block.{Block}
use Rattle.control_word.specs.declared.place.Place.{Place}
use Rattle.control_word.specs.declared.model.view.Pending.TheVariants.{Idle, Visiting}
use Rattle.control_word.specs.Handles.{owner}
use Rattle.control_word.specs.Histories.{value}
use Rattle.control_block.specs.StepKinds.{Added, At, Moved}
use Rattle.control_block.specs.Rule.{opening_of}
use Rattle.control_block.specs.declared.table.SeatView.{SeatView}

module _ {V : Type 0} where
  -- the door was shut, where the word was the one that was found, and the slot with the object's value is in hand; else
  -- nothing changes
  abbrev pub shut : Block → ℕ → Option Place → Step (Option V) → At V → ℕ → At V → Type 0
  shut b o p st m n m' =
      (n ≡ st.first → (x : V) × Moved m.0 (Visiting o p st.word x) (Some b) m'.0
      × (value (opening_of m.0.shape) m'.0.view.seen o ≡ Some x) × (m'.1 ≡ (b.0 - 1, Some x) ∷ m.1))
      × (n ≢ st.first → m' ≡ m)

  -- the door was opened, and the slot went home with the value that the visit left
  abbrev pub opened : Block → ℕ → Option Place → Step (Option V) → At V → ℕ → At V → Type 0
  opened b o p st m n m' =
      (was becomes : V) × (m.0.view.pending ≡ Visiting o p st.word was) × (m.1 ≡ (b.0 - 1, Some becomes) ∷ [])
      × Added m.0 Idle None (Visit (owner o p) was becomes) m'.0 × (m'.1 ≡ [])

  -- a visit is under way: the door of the object's block is shut, and its slot is in hand with this in it
  pub record IsVisiting (v : SeatView V) (b : Block) (o : ℕ) (p : Option Place) (word : ℕ) (was : V) (now : Option V)
      (me : At V) : Type 0 where
    pub moved : Moved v (Visiting o p word was) (Some b) me.0
    pub valued : value (opening_of v.shape) me.0.view.seen o ≡ Some was
    pub carried : me.1 ≡ (b.0 - 1, now) ∷ []
