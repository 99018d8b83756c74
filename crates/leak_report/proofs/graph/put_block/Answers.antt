use Rattle.std.proofs.Common.{ap, string_bytes, ◌∙◌}
use Rattle.step_core.specs.Totals.{fields_of}
use Rattle.leak_report.proofs.Prelude.{abstraction, state_in}
use Rattle.leak_report.proofs.GraphLemmas.{node_then}
use Rattle.leak_report.proofs.graph.put_block.Goals as goal

pub returns : goal.returns
returns c =
    let found = c.args.found.now in
    node_then (state_in (abstraction c.args.world.now)) found.findings found.held.items c.args.number
    c.in-Some.fields c.color_of-color.result.now (string_bytes c.args.text.now) (string_bytes c.put_node.new.text)
    (c.in-Some.ensures ∙ ap (fields_of (state_in (abstraction c.args.world.now))) (c.numbered.ensures ∙ c.from.ensures))
    c.color_of-color.ensures c.in_ok-put_node.ensures
