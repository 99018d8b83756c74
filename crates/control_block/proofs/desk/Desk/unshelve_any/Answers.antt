use Rattle.std.proofs.Common.{◌≡◌, ap, ◌∙◌, arith}
use Rattle.control_block.proofs.Shelving.{all_shelved, unshelved_on}
use Rattle.control_block.proofs.desk.Desk.unshelve_any.Goals as goal
use Rattle.control_word.specs.Layout.{shelf_words}

pub returns-clause-unshelved : goal.returns-clause-unshelved
returns-clause-unshelved g c = unshelved_on _ _ _ _ _ c.unshelve_among-taken.ensures.unshelved c.unshelve_among.ensures.unshelved

pub returns-clause-sole : goal.returns-clause-sole
returns-clause-sole g c = λ sole.
    let a = c.unshelve_among-taken.ensures in let b = c.unshelve_among.ensures in
    let blocks = ap (λ y. shelf_words y.blocks) c.requires.domain.shape in
    let words : c.shelf_words-words.result ≡ shelf_words c.args.self.now.shape.blocks = let w = c.shelf_words-words.ensures in omega (arith, w, blocks) in
    all_shelved c.args.self.now c.unshelve_among-taken.new.self c.unshelve_among.new.self c.unshelve_among-taken.result c.unshelve_among.result
    c.args.count c.shelf_words-words.result _ a.unshelved b.unshelved sole words a.most b.most (a.cleared sole)
    (b.cleared ((a.unshelved.clears sole).sole))

pub returns-clause-same : goal.returns-clause-same
returns-clause-same g c = λ z.
    c.unshelve_among.ensures.same (omega (arith, z)) ∙ c.unshelve_among-taken.ensures.same (omega (arith, z))
