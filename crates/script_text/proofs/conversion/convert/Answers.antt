use Rattle.script_text.proofs.Bounds.{converted_is}
use Rattle.script_text.proofs.conversion.convert.Goals as goal

pub invariant_of-result : goal.invariant_of-result
invariant_of-result c =
    rw (c.blocks-blocks.ensures, c.in-Ok.ensures, c.as_slice.ensures.value)
    (converted_is _ _ c.script.invariant)
