use Rattle.std.proofs.Common.{◌≡◌, ◌-◌, ◌≤◌, ℕ, sym, ap, ◌∙◌, arith}
use Rattle.control_block.proofs.cells.CellRetries.{out_lacks}
use Rattle.control_block.proofs.retries.cells.settle.Goals as goal
use Rattle.control_word.specs.Limits.{cell_funds}

pub top_up-requires-clause-owes : goal.top_up-requires-clause-owes
top_up-requires-clause-owes g c =
    let w = c.requires.owes in let n : ℕ = c.min-lacking.result in
    let few : n ≤ cell_funds = omega (arith, c.min-lacking.ensures) in
    let left : cell_funds - n ≡ cell_funds - c.args.out.taken = omega (arith, c.min-lacking.ensures, c.taken.ensures) in
    out_lacks c.args.seat.now.me c.args.kind w.0 c.args.out c.in-Some.block n w.1 w.2 (sym c.in-Some.ensures.owned) c.if-lacking-eq0.false few left
