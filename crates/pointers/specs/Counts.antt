-- How many owners an object has that no other desk shares.
use Rattle.std.specs.Prelude.{◌≡◌, ℕ, ◌<◌, ◌≤◌, false, List, ◌++◌, Some}
use Rattle.control_word.specs.Histories.{leads}
use Rattle.control_word.specs.State.{count}
use Rattle.control_word.specs.declared.model.event.Entry.{Entry}
use Rattle.control_word.specs.declared.model.event.Event.TheVariants.{Count, Share}
use Rattle.control_word.specs.declared.model.handle.Kind.TheVariants.{Owner}
use Rattle.control_word.specs.declared.place.Block.{Block}
use Rattle.control_block.specs.Desks.{AddsEvent, DeskNow, latest_of, on_latest, state_of}
use Rattle.control_block.specs.Rule.{opening_of}
use Rattle.pointers.specs.HandCalls.{MakesNow}
use Rattle.pointers.specs.Known.{owned, pointed}
use Rattle.pointers.specs.declared.known.Known.{Known}

module _ {V : Type 0} where
  -- after these events the object last made in the block has as many owners as the desk has seen
  abbrev pub KeepsOwners : DeskNow V → Block → List (Entry V) → Type 0
  KeepsOwners d b l =
      count (leads (opening_of d.shape) (l ++ d.seen)) (latest_of d b.0) ≡ count (state_of d) (latest_of d b.0)

  -- an owner of a new object was made, shared and counted: there are two, if no other desk shared it meanwhile
  pub record CountsTwo (d : DeskNow V) (fields : List ℕ) (x : V) (a c : Known V) (n : ℕ) (e : DeskNow V) : Type 0 where
    pub block : Block
    pub of : owned a ≡ Some block
    pub first : DeskNow V
    pub makes : MakesNow d false fields x a first
    pub second : DeskNow V
    pub shares : AddsEvent first (Share (on_latest first Owner (pointed a) block.0) (pointed c)) second
    pub counts : AddsEvent second (Count (on_latest second Owner (pointed a) block.0) n) e
    pub some : 0 < n
    pub most : KeepsOwners first block shares.between → KeepsOwners second block counts.between → n ≤ 2
