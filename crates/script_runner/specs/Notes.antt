-- What a worker notes while its thread goes on: lines, and what it adds to its share. All of it is own.
use Rattle.std.specs.Prelude.{◌≡◌, ◌⊎◌, ◌+◌, ◌<◌, ◌≤◌, ◌++◌, ℕ, true, false, List}
use Rattle.std.specs.Prelude.{length, vec_capacity}
use Rattle.script_runner.specs.Tables.{TableNow}
use Rattle.script_runner.specs.Deals.{GoesOnWith, IsPartlySettled, IsSettledBy}
use Rattle.script_runner.specs.Totals.{asked_in, refused_in, told_in}
use Rattle.script_runner.specs.declared.workers.log.Log.{Log}
use Rattle.step_threads.specs.declared.programs.act.Task.{Task}
use Rattle.step_threads.specs.declared.said.Said.{Said}

-- these lines were added to a log, and so many objects were asked for by what they are of
pub record HasNoted (w x : Log) (asked : ℕ) (lines : List Said) : Type 0 where
  pub on : w.full ≡ false
  pub said : x.said.items ≡ w.said.items ++ lines
  pub made : x.share.own.made + refused_in lines ≡ w.share.own.made + asked
  pub ended : x.share.own.ended ≡ w.share.own.ended + told_in lines

-- they are more lines than there is memory for, or more objects than the share has room for
abbrev pub IsTooMuch : Log → ℕ → List Said → Type 0
IsTooMuch w asked lines =
    (vec_capacity w.said < length w.said.items + length lines) ⊎ (w.room ≤ asked + told_in lines)

-- a log gets these lines, or is full: before, or by them
pub record Notes (w x : Log) (asked : ℕ) (lines : List Said) : Type 0 where
  pub memory : vec_capacity x.said ≡ vec_capacity w.said
  pub kept : x.full ≡ false → HasNoted w x asked lines
  pub full : x.full ≡ true → (w.full ≡ true) ⊎ IsTooMuch w asked lines

-- some of what was left to end by statement k has ended, and the worker notes what is told of it
pub record SettlesPartly (hand k : ℕ) (t : TableNow ℕ) (w : Log) (u : TableNow ℕ) (x : Log) : Type 0 where
  pub lines : List Said
  pub goes : (log : List Said) → IsPartlySettled hand k w.taken t log u (log ++ lines)
  pub notes : Notes w x 0 lines

-- and all of it
pub record Settles (hand k : ℕ) (t : TableNow ℕ) (w : Log) (u : TableNow ℕ) (x : Log) : Type 0 where
  pub lines : List Said
  pub goes : (log : List Said) → IsSettledBy hand k w.taken t log u (log ++ lines)
  pub notes : Notes w x 0 lines

-- by its next tasks a thread goes on to the rest of them, and its worker notes what it says
pub record PlaysOn (hand : ℕ) (t : TableNow ℕ) (todo : List Task) (w : Log) (u : TableNow ℕ) (rest : List Task)
    (x : Log) : Type 0 where
  pub lines : List Said
  pub asked : ℕ
  pub goes : (log : List Said) → GoesOnWith hand t w.taken todo log u x.taken rest (log ++ lines)
  pub asks : asked + asked_in rest ≡ asked_in todo
  pub notes : Notes w x asked lines
