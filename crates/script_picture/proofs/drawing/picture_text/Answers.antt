use Rattle.std.proofs.lemmas.Result.{IfOk-weaker}
use Rattle.script_picture.proofs.drawing.picture_text.Goals as goal

pub returns : goal.returns
returns c =
    IfOk-weaker c.shown.result _ _ (λ text shows.
    (c.in_ok-picture.picture, c.in_ok-picture.ensures, shows)) c.shown.ensures
