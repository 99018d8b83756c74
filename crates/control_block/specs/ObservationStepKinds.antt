-- What a look at any word tells, and how two seats that were one for it come apart.
use Rattle.std.specs.Prelude.{◌≡◌, ℕ, false, List, [], Option, None, slice_index}
use mathlib.Core.Option.{some}
use lib.ListN.{get_elem?}
use Rattle.atomic_table.specs.Table.{Step}
use Rattle.control_word.specs.declared.model.event.Entry.{Entry}
use Rattle.control_word.specs.declared.model.view.Pending.{Pending}
use Rattle.control_word.specs.declared.model.view.Pending.TheVariants.{Idle, Merging}
use Rattle.control_word.specs.declared.model.view.View.{View}
use Rattle.control_word.specs.HandFunds.{StandsFunded}
use Rattle.control_word.specs.Views.{sees_as}
use Rattle.control_block.specs.Rule.{opening_of}
use Rattle.control_block.specs.StepKinds.{At}
use Rattle.control_block.specs.declared.table.SeatView.{SeatView}

module _ {V : Type 0} where
  -- the words, of which one was found, and the views, of which this is one, stand for a history
  pub record Observed (v : SeatView V) (word n : ℕ) : Type 0 where
    pub history : List (Entry V)
    pub words : List ℕ
    pub views : List (View V)
    pub stands : StandsFunded (opening_of v.shape) words views history
    pub found : slice_index words word ≡ n
    pub here : (i : ℕ) × (get_elem? views i ≡ some v.view)

  -- the look changes nothing
  abbrev pub observed : Step (Option V) → At V → ℕ → At V → Type 0
  observed st m n m' = (m' ≡ m) × Observed m.0 st.word n

  -- two views stand for a history, the second behind all others, where they were one before
  pub record ObservedBoth (v w : SeatView V) (word n : ℕ) : Type 0 where
    pub history : List (Entry V)
    pub words : List ℕ
    pub views : List (View V)
    pub stands : StandsFunded (opening_of v.shape) words views history
    pub found : slice_index words word ≡ n
    pub first : (i : ℕ) × (get_elem? views i ≡ some v.view)
    pub second : (i : ℕ) × (get_elem? views i ≡ some w.view)
    pub apart : v.view.name ≡ w.view.name → ⊥

  -- what a view that took in another had seen, and what the other, with its name
  abbrev pub own_seen : Pending V → List (Entry V)
  own_seen (Merging other mine others) = mine
  own_seen _ = []

  abbrev pub other_seen : Pending V → List (Entry V)
  other_seen (Merging other mine others) = others
  other_seen _ = []

  abbrev pub other_name : Pending V → ℕ
  other_name (Merging other mine others) = other
  other_name _ = 0

  -- the two seats as they were
  abbrev pub first_again : SeatView V → SeatView V
  first_again v = record { shape = v.shape; view = sees_as v.view Idle (own_seen v.view.pending); hand = None }

  abbrev pub second_again : SeatView V → SeatView V
  second_again v =
      let p = v.view.pending in
      record {
        shape = v.shape;
        view = record { name = other_name p; spent = false; pending = Idle; seen = other_seen p };
        hand = None;
      }
