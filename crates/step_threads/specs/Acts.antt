-- What statements do, act by act. All of it is own.
use Rattle.std.specs.Prelude.{ℕ, zero, suc, ◌+◌, true, false, List, [], ◌∷◌, ◌++◌, replicate}
use Rattle.std.specs.Prelude.{Some, None}
use Rattle.control_word.specs.declared.model.handle.Kind.TheVariants as handle
use Rattle.step_threads.specs.declared.programs.act.Act.{Act}
use Rattle.step_threads.specs.declared.programs.act.Act.TheVariants as act
use Rattle.step_threads.specs.declared.programs.act.Question.TheVariants as question
use Rattle.step_threads.specs.declared.programs.statement.Tail.{Tail}
use Rattle.step_threads.specs.declared.programs.statement.Tail.TheVariants.{Nothing, Named, Into, IntoAs, Times}
use Rattle.step_threads.specs.declared.programs.act.Task.{Task}
use Rattle.step_threads.specs.declared.programs.call.Call.{Call}
use Rattle.step_threads.specs.declared.programs.call.Call.TheVariants.{Make, Empty, Reset, Copy, Count}
use Rattle.step_threads.specs.declared.programs.call.Call.TheVariants.{MakeThis, Null, Move, Alias, AliasNull, This}
use Rattle.step_threads.specs.declared.programs.call.Call.TheVariants.{WeakThis}
use Rattle.step_threads.specs.declared.programs.call.Call.TheVariants.{Read, Place, Same, Before}
use Rattle.step_threads.specs.declared.programs.call.Call.TheVariants.{Store, Exchange, Load, Compare, Weak, WeakCopy}
use Rattle.step_threads.specs.declared.programs.call.Call.TheVariants.{WeakEmpty}
use Rattle.step_threads.specs.declared.programs.call.Call.TheVariants.{Holds, Shelve, Unshelve}
use Rattle.step_threads.specs.declared.programs.act.ShelfAct.TheVariants as shelf
use Rattle.step_threads.specs.declared.programs.call.Call.TheVariants.{WeakReset, Lock, Upgrade, WeakCount, Expired}

-- the acts of a statement, in order
abbrev pub acts : Call → List Act
acts (Make target fields) =
    act.Make (record { fields = fields; enabled = false; null = false }) ∷ act.Put target.0 ∷ []
acts (Empty target) = act.Leave target.0 ∷ []
acts (Reset name) = act.Leave name.0 ∷ []
acts (Copy target source) = act.Share source.0 ∷ act.Put target.0 ∷ []
acts (Count name) = act.Count name.0 ∷ []
acts (Weak target source) = act.Downgrade source.0 ∷ act.Put target.0 ∷ []
acts (WeakCopy target source) = act.Share source.0 ∷ act.Put target.0 ∷ []
acts (WeakEmpty target) = act.Leave target.0 ∷ []
acts (WeakReset name) = act.Leave name.0 ∷ []
acts (Lock target source) = act.Lock source.0 false ∷ act.Put target.0 ∷ []
acts (Upgrade target source) = act.Lock source.0 true ∷ act.Put target.0 ∷ []
acts (WeakCount name) = act.Count name.0 ∷ []
acts (Expired name) = act.Expired name.0 ∷ []
acts (MakeThis target fields) =
    act.Make (record { fields = fields; enabled = true; null = false }) ∷ act.Put target.0 ∷ []
acts (Null target) = act.Make (record { fields = 0 ∷ 0 ∷ 0 ∷ 0 ∷ []; enabled = false; null = true })
    ∷ act.Put target.0 ∷ []
acts (Move target source) = act.Move source.0 ∷ act.Put target.0 ∷ []
acts (Alias target source of field) = act.Alias source.0 of.0 (Some field) ∷ act.Put target.0 ∷ []
acts (AliasNull target source) = act.Alias source.0 source.0 None ∷ act.Put target.0 ∷ []
acts (This target source) = act.FromThis source.0 handle.Owner ∷ act.Put target.0 ∷ []
acts (WeakThis target source) = act.FromThis source.0 handle.Weak ∷ act.Put target.0 ∷ []
acts (Read name) = act.Read name.0 ∷ []
acts (Place name) = act.Ask (question.Place name.0) ∷ []
acts (Same first second) = act.Ask (question.Same first.0 second.0) ∷ []
acts (Before first second) = act.Ask (question.Before first.0 second.0) ∷ []
acts (Store cell source) = act.Offer source.0 cell ∷ act.Swap cell ∷ act.Drop ∷ []
acts (Exchange cell name) = act.Exchange name.0 cell ∷ []
acts (Load target cell) = act.Load cell ∷ act.Put target.0 ∷ []
acts (Compare cell expected desired weak) =
    act.Offer desired.0 cell ∷ act.Compare expected.0 cell weak ∷ act.Put expected.0 ∷ act.Drop ∷ []
acts (Holds cell name) = act.Holds name.0 cell ∷ []
acts (Shelve n) = replicate n (act.OnShelf shelf.Shelve)
acts (Unshelve block) = act.OnShelf (shelf.Unshelve block) ∷ []

-- how a call goes on from its first act: what was taken goes to its name or into a cell, where there is one; or the
-- act is made so often
abbrev pub with_tail : Act → Tail → List Act
with_tail a Nothing = a ∷ []
with_tail a (Named name) = a ∷ act.Put name.0 ∷ []
with_tail a (Into cell) = a ∷ act.Swap cell ∷ act.Drop ∷ []
with_tail a (IntoAs cell name weak) = a ∷ act.Compare name.0 cell weak ∷ act.Put name.0 ∷ act.Drop ∷ []
with_tail a (Times n) = replicate n a

abbrev pub numbered_tasks : ℕ → List Act → List Task
numbered_tasks k [] = []
numbered_tasks k (a ∷ rest) = record { statement = k; act = a } ∷ numbered_tasks k rest

-- at its end a thread leaves its n names, the last declared first
abbrev pub clearing : ℕ → List Task
clearing zero = []
clearing (suc n) = record { statement = 0; act = act.Clear n } ∷ clearing n

-- all tasks of a thread with n names, whose next statement is k
abbrev pub tasks_from : ℕ → List Call → ℕ → List Task
tasks_from k [] n = clearing n
tasks_from k (c ∷ cs) n = numbered_tasks k (acts c) ++ tasks_from (k + 1) cs n
