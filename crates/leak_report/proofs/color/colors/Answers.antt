use Rattle.std.proofs.Common.{◌≡◌, ℕ, List, map, ap, ◌∙◌, arith}
use Rattle.leak_report.proofs.Prelude.{abstraction, colored, flat_map, from, Holding, in_color}
use Rattle.leak_report.proofs.Prelude.{state_in}
use Rattle.leak_report.proofs.ColorLemmas.{colors_then}
use Rattle.leak_report.proofs.ReportLemmas.{found_at}
use Rattle.leak_report.proofs.color.colors.Goals as goal

pub loop-before-preserved : goal.loop-before-preserved
loop-before-preserved c =
    let found = c.in_ok-found.found in
    colors_then (colored (state_in (abstraction c.args.end.now.world)) found.findings found.held.items)
    c.loop-before.before (map in_color c.loop-before.blocks.items) (map in_color c.add_colored.new.blocks.items) c.loop-before.invariant
    c.in_ok-add_colored.ensures

pub returns : goal.returns
returns c =
    let found = c.in_ok-found.found in
    let u = abstraction c.args.end.now.world in
    let over : c.loop-before.before ≡ c.args.end.now.blocks = omega arith in record {
      findings = found.findings;
      found = found_at u found.findings found.blocks found.held.items c.in_ok-found.ensures.blocks c.in_ok-found.ensures.held c.in_ok-found.ensures.found;
      colors =
          c.loop-before.invariant
          ∙ ap (λ (n : ℕ). flat_map (colored (state_in u) found.findings found.held.items) (from 1 n))
          (over ∙ c.args.end.now.all)
          ∙ ap (λ (hs : List Holding). flat_map (colored (state_in u) found.findings hs) (from 1 u.extent.shape.blocks))
          c.in_ok-found.ensures.held;
    }
