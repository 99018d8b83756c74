use Rattle.std.proofs.Common.{ℕ, List, [], ◌∷◌, ◌++◌, string_bytes, ap, ◌∙◌}
use Rattle.script_text.proofs.Prelude.{flat_map, word_after}
use Rattle.script_text.proofs.PrintLemmas.{words_line}
use Rattle.script_text.proofs.line.put_line.Goals as goal

pub returns : goal.returns
returns c =
    c.in_ok-push_str-2.ensures.bytes
    ∙ ap (λ (t : List ℕ). t ++ 10 ∷ [])
    (c.in_ok-put_words.ensures
    ∙ ap (λ (t : List ℕ). t ++ flat_map (word_after c.args.names.now) c.args.words.now)
    c.in_ok-push_str.ensures.bytes)
    ∙ words_line c.args.names.now (string_bytes c.args.text.now) c.args.first.now c.args.words.now
