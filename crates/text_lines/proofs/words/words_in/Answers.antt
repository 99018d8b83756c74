use Rattle.std.proofs.Common.{rules, nat_lt, length}
use Rattle.std.proofs.lemmas.Iterator.Splits.{YieldsList-from_slice_split}
use Rattle.std.proofs.lemmas.Iterator.Consumers.{YieldsList-from_filter, map_from_collect}
use Rattle.text_lines.specs.Words.{is_space}
use Rattle.text_lines.proofs.words.words_in.Goals as goal

pub returns : goal.returns
returns c = map_from_collect _ c.collect.ensures.ran
    (YieldsList-from_filter _ (λ w. nat_lt 0 (length w))
    (YieldsList-from_slice_split _ is_space c.args.line.now (cc) (cc) (cc)
    (λ x r q k. search rules))
    c.filter.ensures.closure (λ x r q k. search rules))
