use Rattle.std.proofs.Common.{◌≡◌, ◌++◌, take, string_bytes}
use Rattle.script_text.proofs.Prelude.{flat_map, word_after}
use Rattle.script_text.proofs.line.put_words.Given as goal

abbrev pub invariant-loop-word : goal.invariant-loop-word
invariant-loop-word l =
    string_bytes l.text ≡ string_bytes l.fn.text
    ++ flat_map (word_after l.names) (take l.word-index l.words)
