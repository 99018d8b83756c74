use Rattle.std.proofs.Common.{◌∙◌, ◌++◌, ℕ, List, ap}
use Rattle.std.specs.Prelude.{string_bytes}
use Rattle.run_picture.specs.Pages.{lines_element}
use Rattle.sptr.proofs.orders.parts.put_closing.Goals as goal

pub returns : goal.returns
returns c = (
  c.in_ok-closing.closing.items,
  c.in_ok-closing.ensures,
  c.in_ok-put_lines.ensures
      ∙ ap (λ (l : List ℕ). string_bytes c.args.page.now ++ lines_element l) c.as_slice.ensures.value,
)
