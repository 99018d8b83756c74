-- What comes of commands (own).
use Rattle.std.specs.Prelude.{ℕ, Bool, true, false, List, Option, Some, None, Result, Ok, Err, IfOk}
use Rattle.std.specs.Prelude.{cond}
use Rattle.script_text.specs.declared.fault.Fault.{Fault}
use Rattle.script_text.specs.declared.fault.Fault.TheVariants.{Memory}
use Rattle.text_lines.specs.declared.fault.LineFault.{LineFault}
use Rattle.text_lines.specs.declared.fault.LineFault.TheVariants as graph
use Rattle.owner_text.specs.declared.fault.Cause.{Cause}
use Rattle.script_orders.specs.declared.orders.Answer.{Answer}
use Rattle.script_orders.specs.declared.orders.Answer.TheVariants as orders
use Rattle.sptr.specs.declared.answers.Outcome.{Outcome}
use Rattle.sptr.specs.declared.answers.Outcome.TheVariants.{Done, Found, Leaks, NoGraph, NoOrders}
use Rattle.sptr.specs.declared.answers.Outcome.TheVariants.{NoLine, NoPicture}
use Rattle.sptr.specs.declared.command.Asked.{Asked}
use Rattle.sptr.specs.declared.command.Asked.TheVariants.{Draw, Left, Orders, OrdersPage, Owners}

-- what comes of a command that finds nothing
abbrev pub none_found : Result Unit Fault → Result Outcome Fault
none_found (Ok done) = Ok Done
none_found (Err fault) = Err fault

-- this comes of a command where it finds what it looks for
abbrev pub found_as : Outcome → Result Bool Fault → Result Outcome Fault
found_as outcome (Ok found) = Ok (cond found outcome Done)
found_as outcome (Err fault) = Err fault

-- what comes of a graph that has no answer
abbrev pub graph_refused : LineFault Cause → Result Outcome Fault
graph_refused graph.Memory = Err Memory
graph_refused (graph.Syntax line cause) = Ok (NoGraph line cause)

-- whether it found that
abbrev pub is_found : Result Outcome Fault → Result Bool Fault
is_found (Ok Done) = Ok false
is_found (Ok Leaks) = Ok true
is_found (Ok NoPicture) = Ok true
is_found (Ok (NoGraph line cause)) = Ok true
is_found (Ok Found) = Ok true
is_found (Ok NoOrders) = Ok true
is_found (Ok NoLine) = Ok true
is_found (Err fault) = Err fault

-- what comes of a script's orders
abbrev pub orders_outcome : Answer → Outcome
orders_outcome orders.Told = Done
orders_outcome orders.Found = Found
orders_outcome orders.TooMany = NoOrders
orders_outcome orders.CannotTell = NoLine

-- of which answer that comes
abbrev pub orders_answer : Result Outcome Fault → Result Answer Fault
orders_answer (Ok Done) = Ok orders.Told
orders_answer (Ok Leaks) = Ok orders.Told
orders_answer (Ok NoPicture) = Ok orders.Told
orders_answer (Ok (NoGraph line cause)) = Ok orders.Told
orders_answer (Ok Found) = Ok orders.Found
orders_answer (Ok NoOrders) = Ok orders.TooMany
orders_answer (Ok NoLine) = Ok orders.CannotTell
orders_answer (Err fault) = Err fault

-- the line that is to be found, if one is
abbrev pub line_found : Bool → List ℕ → Option (List ℕ)
line_found finds line = cond finds (Some line) None

-- only `left` and `owners` find something leaked, only `draw` draws nothing, only `owners` has a
-- graph without an answer, and only `orders` finds a line, can't, or has too many states
abbrev pub MayCome : Outcome → Asked → Type 0
MayCome Done asked = Unit {0}
MayCome Leaks (Left draws) = Unit {0}
MayCome Leaks (Owners draws) = Unit {0}
MayCome Leaks _ = ⊥
MayCome NoPicture (Draw is_fine is_page part) = Unit {0}
MayCome NoPicture _ = ⊥
MayCome (NoGraph line cause) (Owners draws) = Unit {0}
MayCome (NoGraph line cause) _ = ⊥
MayCome Found (Orders finds most) = Unit {0}
MayCome Found _ = ⊥
MayCome NoOrders (Orders finds most) = Unit {0}
MayCome NoOrders (OrdersPage most) = Unit {0}
MayCome NoOrders _ = ⊥
MayCome NoLine (Orders finds most) = Unit {0}
MayCome NoLine _ = ⊥

abbrev pub FindsAsAsked : Asked → Result Outcome Fault → Type 0
FindsAsAsked asked answer = IfOk answer (λ outcome. MayCome outcome asked)

-- the exit status: 3 where something was found to be leaked, or a line was found
abbrev pub exit_status : Result Outcome Fault → ℕ
exit_status (Ok Done) = 0
exit_status (Ok Leaks) = 3
exit_status (Ok NoPicture) = 1
exit_status (Ok (NoGraph line cause)) = 1
exit_status (Ok Found) = 3
exit_status (Ok NoOrders) = 1
exit_status (Ok NoLine) = 1
exit_status (Err fault) = 1
