-- What an act's answer counts for.
use Rattle.std.proofs.Common.{ℕ, ◌≤◌, Bool, Some, None, Option, sym, subst, inl, inr, arith}
use Rattle.script_runner.proofs.Prelude.{Act, ActResult, Answer, DeskNow, Done, field_0, IsDealt}
use Rattle.script_runner.proofs.Prelude.{objects_asked, refuses, Reply, row, Slots}
use Rattle.script_runner.proofs.Prelude.{state_before_event, state_of, TableNow, thread_slots}
use Rattle.script_runner.proofs.Tallying.{act_counts}

-- only a make is answered by that there is no block
row_refuses : (d e : DeskNow ℕ) (l : Slots) (taken : Bool) (a : Act) (r : Reply) → Done field_0 d l a r e
    → refuses (row a l taken r).answer ≤ objects_asked a
row_refuses d e l taken a r (inl x) =
    let c = (act_counts field_0 (state_of d) d.name l taken a r None x.1).makes in omega (arith, c)
row_refuses d e l taken a r (inr x) =
    let c = (act_counts field_0 (state_before_event ℕ x.1) d.name l taken a r (Some x.0) x.2).makes in omega (arith, c)

pub dealt_refuses : (hand : ℕ) (t u : TableNow ℕ) (taken : Bool) (a : Act) (x : ActResult) → IsDealt hand t taken a x u
    → refuses x.answer ≤ objects_asked a
dealt_refuses hand t u taken a x (inl is) =
    subst (λ (s : Option Answer). refuses s ≤ objects_asked a) (sym is.says)
    (row_refuses t.desk u.desk (thread_slots hand t) taken a is.reply is.acts.done)
dealt_refuses hand t u taken a x (inr is) = subst (λ (s : Option Answer). refuses s ≤ objects_asked a) (sym is.silent.0) (omega arith)
