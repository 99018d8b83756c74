use Rattle.std.proofs.Common.{ap, string_bytes, ◌∙◌}
use Rattle.leak_report.proofs.Prelude.{abstraction, census_of, state_in}
use Rattle.leak_report.proofs.ReportLemmas.{block_then}
use Rattle.leak_report.proofs.listing.put_left.Goals as goal

pub returns : goal.returns
returns c =
    let found = c.args.found.now in
    block_then c.args.shared found.held.items c.handles_on.result.now found.findings.kept.items
    (state_in (abstraction c.args.world.now)) c.args.number c.from-block.result c.in-Some.counts c.is_kept.result
    (string_bytes c.args.text.now) (string_bytes c.put_block.new.text) (string_bytes c.put_holders.new.text)
    (c.in-Some.ensures.counts ∙ ap (census_of (state_in (abstraction c.args.world.now))) (c.numbered.ensures ∙ c.from.ensures))
    c.from-block.ensures c.is_kept.ensures
    (c.handles_on.ensures ∙ c.requires.found.index.rows c.from-block.result) c.in_ok-put_block.ensures c.in_ok-put_holders.ensures
