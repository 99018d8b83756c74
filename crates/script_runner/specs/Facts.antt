-- That tasks suit is a fact, of which there is at most one proof.
use Rattle.std.specs.Prelude.{ℕ, Bool, List, [], ◌∷◌, Option}
use Rattle.std.specs.Coded.{Coded-set, Unit-prop, coded_bool, coded_option, coded_ℕ, le_prop}
use Rattle.control_word.specs.contracts.model.handle.Kind as kind_type
use Rattle.control_word.specs.declared.model.handle.Kind.{Kind}
use Rattle.script_runner.specs.Kinds.{AllSuit, GoesTogether, IsReached, Stance, Suits, SuitsNames, stance_after}
use Rattle.step_table.specs.contracts.memory.form.Form as form_type
use Rattle.step_table.specs.declared.memory.form.Form.{Form}
use Rattle.step_threads.specs.contracts.programs.act.Task as task_type
use Rattle.step_threads.specs.declared.programs.act.Act.{Act}
use Rattle.step_threads.specs.declared.programs.act.Act.TheVariants as act
use Rattle.step_threads.specs.declared.programs.act.Question.{Question}
use Rattle.step_threads.specs.declared.programs.act.Question.TheVariants as question
use Rattle.step_threads.specs.declared.programs.act.Task.{Task}
use Rattle.step_threads.specs.declared.programs.call.CellName.{CellName}
use Rattle.step_threads.specs.declared.programs.call.CellName.TheVariants as cell

-- of two numbers, kinds or tasks it is a fact that they are the same
number_set : IsSet ℕ
number_set = Coded-set coded_ℕ

bool_set : IsSet Bool
bool_set = Coded-set coded_bool

kind_set : IsSet (Option Kind)
kind_set = Coded-set (coded_option kind_type.the_row.coded)

form_set : IsSet Form
form_set = Coded-set form_type.the_row.coded

task_set : IsSet (Option Task)
task_set = Coded-set (coded_option task_type.the_row.coded)

ruleset sets = (number_set, bool_set, kind_set, form_set, task_set, le_prop)

names_fact : (ks : List Kind) (q : Question) → IsProp (SuitsNames ks q)
names_fact ks (question.Place i) = Prim.hlevel sets
names_fact ks (question.Same i j) = Prim.hlevel sets
names_fact ks (question.Before i j) = Prim.hlevel sets

cell_fact : (ks : List Kind) (c : CellName) → IsProp (IsReached ks c)
cell_fact ks (cell.Shared n) = Prim.hlevel sets
cell_fact ks (cell.Weak n) = Prim.hlevel sets
cell_fact ks (cell.Member i m) = Prim.hlevel sets

act_fact : (ks : List Kind) (x : Stance) (a : Act) → IsProp (Suits ks x a)
act_fact ks x (act.Make form) = Prim.hlevel sets
act_fact ks x (act.Share i) = Prim.hlevel sets
act_fact ks x (act.Put i) = Prim.hlevel sets
act_fact ks x (act.Leave i) = Prim.hlevel sets
act_fact ks x (act.Clear i) = Prim.hlevel sets
act_fact ks x (act.Count i) = Prim.hlevel sets
act_fact ks x (act.Downgrade i) = Prim.hlevel sets
act_fact ks x (act.Lock i must) = Prim.hlevel sets
act_fact ks x (act.Expired i) = Prim.hlevel sets
act_fact ks x (act.Read i) = Prim.hlevel sets
act_fact ks x (act.FromThis i k) = Prim.hlevel sets
act_fact ks x (act.Alias i j field) = Prim.hlevel sets
act_fact ks x (act.Move i) = Prim.hlevel sets
act_fact ks x (act.Ask q) = Prim.hlevel (sets, names_fact)
act_fact ks x (act.Offer i c) = Prim.hlevel (sets, cell_fact)
act_fact ks x (act.Swap c) = Prim.hlevel (sets, cell_fact)
act_fact ks x (act.Exchange i c) = Prim.hlevel (sets, cell_fact)
act_fact ks x (act.Load c) = Prim.hlevel (sets, cell_fact)
act_fact ks x (act.Compare i c weak) = Prim.hlevel (sets, cell_fact)
act_fact ks x (act.Holds i c) = Prim.hlevel (sets, cell_fact)
act_fact ks x act.Drop = Prim.hlevel sets
act_fact ks x (act.OnShelf s) = Prim.hlevel sets

together_fact : (a : Act) (k : ℕ) (ts : List Task) → IsProp (GoesTogether a k ts)
together_fact (act.Compare i c weak) k ts = Prim.hlevel sets
together_fact a k ts = Unit-prop

pub suit_fact : (ks : List Kind) (x : Stance) (ts : List Task) → IsProp (AllSuit ks x ts)
suit_fact ks x [] = Prim.hlevel sets
suit_fact ks x (t ∷ ts) = λ u v i. (
  act_fact ks x t.act u.0 v.0 i,
  together_fact t.act t.statement ts u.1 v.1 i,
  suit_fact ks (stance_after ks x t.act) ts u.2 v.2 i,
)
