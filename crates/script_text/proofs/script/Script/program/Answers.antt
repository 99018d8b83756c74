use Rattle.script_text.proofs.script.Script.program.Goals as goal

pub returns-in-Ok-clause-cells : goal.returns-in-Ok-clause-cells
returns-in-Ok-clause-cells c =
    λ shape has. rw (c.in-Ok.ensures, c.as_slice.ensures.value) (c.self.invariant.cells shape has)
