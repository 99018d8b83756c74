use Rattle.std.proofs.Common.{ℕ, List, ◌++◌, string_bytes, sym, ap, ◌∙◌}
use Rattle.leak_report.proofs.Prelude.{abstraction, edge_lines, ended, flat_map, head_lines, Holding}
use Rattle.leak_report.proofs.GraphLemmas.{graph_then}
use Rattle.leak_report.proofs.ReportLemmas.{found_at, marks_kept}
use Rattle.leak_report.proofs.graph.drawn_at.Goals as goal

pub leaks-leaks-requires-clause-marks : goal.leaks-leaks-requires-clause-marks
leaks-leaks-requires-clause-marks c =
    let u = abstraction c.args.end.now.world in
    let found = c.args.found.now in
    marks_kept u found.findings (found_at u found.findings found.blocks found.held.items c.requires.blocks c.requires.held c.requires.found)

pub returns : goal.returns
returns c =
    let u = abstraction c.args.end.now.world in
    let found = c.args.found.now in
    let f = found.findings in record {
      findings = f;
      found = found_at u f found.blocks found.held.items c.requires.blocks c.requires.held c.requires.found;
      counted = c.requires.counted;
      says =
          graph_then u f found.held.items 128 c.args.end.now.blocks (string_bytes c.put_head.new.text)
          (string_bytes c.put_blocks.new.text) (string_bytes c.put_all_held.new.text) (string_bytes c.push_str.new.self)
          (sym c.args.end.now.shared) c.args.end.now.all c.requires.held
          (c.in_ok-put_head.ensures ∙ ap (λ (t : List ℕ). t ++ ended head_lines) c.new-text.ensures.bytes) c.in_ok-put_blocks.ensures
          (c.in_ok-put_all_held.ensures
          ∙ ap (λ (l : List Holding). string_bytes c.put_blocks.new.text ++ ended (flat_map (edge_lines 128 f) l)) c.as_slice-held.ensures.value)
          c.in_ok-push_str.ensures.bytes;
      leaks_is = c.leaks-leaks.ensures;
    }
