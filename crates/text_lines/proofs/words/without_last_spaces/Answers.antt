use Rattle.std.proofs.Common.{◌∙◌, sym}
use Rattle.text_lines.proofs.WordLemmas.{space_dropped, word_kept}
use Rattle.text_lines.proofs.words.without_last_spaces.Goals as goal

pub loop-left-preserved : goal.loop-left-preserved
loop-left-preserved c =
    c.loop-left.invariant
    ∙ space_dropped c.loop-left.left.now c.in-len1-up.len_at_least
    (sym c.is_space.ensures ∙ c.if-not-is_space.false)

pub returns-then-not-is_space : goal.returns-then-not-is_space
returns-then-not-is_space c =
    sym (c.loop-left.invariant
    ∙ word_kept c.loop-left.left.now c.in-len1-up.len_at_least
    (sym c.is_space.ensures ∙ c.if-not-is_space.true))
