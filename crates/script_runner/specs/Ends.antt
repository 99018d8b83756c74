-- What is left to end with a table (own).
use Rattle.std.specs.Prelude.{◌≡◌, ℕ, ◌-◌, ◌<◌, true, false, length, slice_get, slice_index, Some}
use Rattle.control_word.specs.State.{Object}
use Rattle.control_block.specs.Desks.{object_in}
use Rattle.shared_handle.specs.declared.endings.Ending.{Ending}
use Rattle.script_runner.specs.Tables.{TableNow}
use Rattle.script_runner.specs.declared.table.ends.Remains.{Remains}
use Rattle.script_runner.specs.declared.table.ends.Remains.TheVariants.{Fields, Null}

-- what an object was made as
abbrev pub IsMadeAs : Object → Remains → Type 0
IsMadeAs o Null = o.null ≡ true
IsMadeAs o (Fields fields) = (o.null ≡ false)
    × ((k : ℕ) → k < 4 → slice_index fields k ≡ slice_index o.fields k)

module _ {V : Type 0} where
  -- the object that was last left to end was made as that
  pub record IsToEnd (t : TableNow V) (remains : Remains) : Type 0 where
    pub top : Ending V
    pub last : slice_get t.endings (length t.endings - 1) ≡ Some top
    pub made : IsMadeAs (object_in t.desk top.block.0) remains
