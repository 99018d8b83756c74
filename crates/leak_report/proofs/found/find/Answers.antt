use Rattle.std.proofs.Common.{◌≡◌, ℕ, List, ap, ◌∙◌, sym, subst}
use Rattle.std.specs.Prelude.{All}
use Rattle.leak_report.proofs.Prelude.{abstraction, all_held, AreFindings, Holding, IsAmong, numbered}
use Rattle.leak_report.proofs.Prelude.{state_in}
use Rattle.leak_report.proofs.NumberLemmas.{counted_at, held_among}
use Rattle.leak_report.proofs.found.find.Goals as goal

pub new-requires : goal.new-requires
new-requires c =
    subst (All (IsAmong c.from-blocks.result)) (sym c.as_slice-2.ensures.value)
    (held_among c.args.end.now.blocks c.from-blocks.result c.in_ok-cells.cells.items c.as_slice.result.now
    c.in_ok-held.held.items c.from-blocks.ensures c.as_slice.ensures.value c.in_ok-held.ensures c.in_ok-cells.ensures.among)

pub returns-clause-found : goal.returns-clause-found
returns-clause-found c =
    subst (λ (l : List Holding). AreFindings c.from-blocks.result l c.in_ok-findings.findings) c.as_slice-2.ensures.value
    c.in_ok-findings.ensures

pub returns-clause-held : goal.returns-clause-held
returns-clause-held c =
    let u = abstraction c.args.end.now.world in
    c.in_ok-held.ensures
    ∙ ap (numbered 0) (c.as_slice.ensures.value ∙ c.in_ok-cells.ensures.held
    ∙ ap (λ (n : ℕ). all_held (state_in u) n) c.args.end.now.all)

pub returns-clause-counted : goal.returns-clause-counted
returns-clause-counted c =
    counted_at (abstraction c.args.end.now.world) c.args.end.now.blocks c.in_ok-cells.cells.items c.args.end.now.all
    c.in_ok-cells.ensures.held c.in_ok-cells.ensures.counted
