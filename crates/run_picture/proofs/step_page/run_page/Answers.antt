use Rattle.std.specs.Prelude.{string_bytes}
use Rattle.run_picture.specs.Pages.{lines_element, run_lines}
use Rattle.run_picture.specs.declared.page_head.TheConstants.{HEAD}
use Rattle.run_picture.specs.declared.page_reader.TheConstants.{READER}
use Rattle.run_picture.specs.declared.page_view.TheConstants.{VIEW}
use Rattle.run_picture.proofs.Paging.{page_is}
use Rattle.run_picture.proofs.step_page.run_page.Goals as goal

pub returns : goal.returns
returns c =
    page_is lines_element HEAD.now READER.now VIEW.now (string_bytes c.in_ok-lines.lines) c.as_bytes.result.now
    (run_lines c.args.picture.now) (string_bytes c.in_ok-text.text) (string_bytes c.put_lines.new.text)
    (string_bytes c.put_scripts.new.text)
    c.in_ok-lines.ensures c.as_bytes.ensures.value c.in_ok-text.ensures c.in_ok-put_lines.ensures
    c.in_ok-put_scripts.ensures
