-- What desks of one domain can tell by a look at a word: what holds between two steps of any threads. All of it is own.
use Rattle.std.specs.Prelude.{◌≡◌, ℕ, false, All, List, slice_index}
use mathlib.Core.Option.{some}
use lib.ListN.{get_elem?}
use Rattle.control_word.specs.declared.model.event.Entry.{Entry}
use Rattle.control_word.specs.declared.model.view.Pending.TheVariants.{Idle}
use Rattle.control_word.specs.declared.model.view.View.{View}
use Rattle.control_word.specs.declared.shape.Shape.{Shape}
use Rattle.control_word.specs.HandFunds.{StandsFunded}
use Rattle.control_word.specs.Views.{Knows}
use Rattle.control_block.specs.Desks.{DeskNow}
use Rattle.control_block.specs.Rule.{opening_of}

module _ {V : Type 0} where
  -- a desk with no call half done
  abbrev pub at_rest : DeskNow V → View V
  at_rest d = record { name = d.name; spent = false; pending = Idle; seen = d.seen }

  -- the desk is among those there are, and has seen a beginning of the history that lacks no event of its own
  pub record HasSeen (views : List (View V)) (history : List (Entry V)) (d : DeskNow V) : Type 0 where
    pub among : (i : ℕ) × (get_elem? views i ≡ some (at_rest d))
    pub beginning : Knows d.name history d.seen

  -- there is one legal history, and the words show its state but for what half-done calls add and owe; one of these
  -- words was found; and each of these desks has seen a beginning of the history
  pub record ShowsOneHistory (k : Shape) (desks : List (DeskNow V)) (word n : ℕ) : Type 0 where
    pub history : List (Entry V)
    pub words : List ℕ
    pub views : List (View V)
    pub stands : StandsFunded (opening_of k) words views history
    pub found : slice_index words word ≡ n
    pub seen : All (HasSeen views history) desks
