use Rattle.std.proofs.lemmas.Result.{IfOk-weaker}
use Rattle.script_picture.proofs.lines.recorded_lines.Goals as goal

pub returns : goal.returns
returns c =
    IfOk-weaker c.run_text.result _ _ (λ text is.
    (c.in_ok-picture.picture, c.in_ok-picture.ensures, is)) c.run_text.ensures
