-- What is told of two handles.
use Rattle.std.specs.Prelude.{◌≡◌, ℕ, Bool}
use Rattle.control_word.specs.Handles as handles
use Rattle.control_block.specs.declared.handles.Held.{Held}
use Rattle.control_block.specs.declared.handles.Held.TheVariants.{Owner}
use Rattle.control_block.specs.declared.handles.Shared.{Shared}
use Rattle.shared_handle.specs.Calls.{comes_before}
use Rattle.script_runner.specs.Parts.{block_of_held}
use Rattle.script_runner.specs.Tables.{IsAt, TableNow}

module _ {V : Type 0} where
  -- whether two owners point at one place ([util.smartptr.shared.cmp])
  pub record PointAlike (t : TableNow V) (a b : ℕ) (alike : Bool) : Type 0 where
    pub one : Shared
    pub other : Shared
    pub at : IsAt t a (Owner one) × IsAt t b (Owner other)
    pub told : alike ≡ handles.same_place one.place other.place

  -- whether a handle comes before another in owner order ([util.smartptr.shared.obs], [util.smartptr.weak.obs])
  pub record AreInOrder (t : TableNow V) (a b : ℕ) (before : Bool) : Type 0 where
    pub one : Held
    pub other : Held
    pub at : IsAt t a one × IsAt t b other
    pub told : before ≡ comes_before (block_of_held one) (block_of_held other)
