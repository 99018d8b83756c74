use Rattle.std.proofs.Common.{◌∙◌}
use Rattle.handle_tests.proofs.ending.piles.end_two.Goals as goal

pub end_beside-seen-requires-clause-carries : goal.end_beside-seen-requires-clause-carries
end_beside-seen-requires-clause-carries c =
    let first = c.in-Ok.ensures.desk in let then = c.release.ensures.keeps in
    c.in-Ok-new.ensures.carries c.release.new.desk
    (record { table = then.domain ∙ first.domain ∙ c.requires.domain.table; shape = then.shape ∙ first.shape ∙ c.requires.domain.shape })
