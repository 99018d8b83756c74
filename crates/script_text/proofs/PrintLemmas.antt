-- The parts of lines, and threads, one after the other.
use Rattle.std.proofs.Common.{◌≡◌, ℕ, ◌-◌, ◌≤◌, List, [], ◌∷◌, ◌++◌, map, length, get_or, take}
use Rattle.std.proofs.Common.{drop, codes, decimal, sym, ap, ◌∙◌, append_assoc, append-nil, arith}
use Rattle.script_text.proofs.Prelude.{begun_lines, cell_text, ended, field_number, flat_map}
use Rattle.script_text.proofs.Prelude.{name_text, NameList, number_after, section_lines}
use Rattle.script_text.proofs.Prelude.{section_of, spaced, take_rest, thread_lines, word_after}
use Rattle.script_text.specs.declared.parts.thread.Thread.{Thread}
use Rattle.text_lines.proofs.Ended.{ended-append}
use Rattle.script_text.specs.declared.line.Word.{Word}
use Rattle.script_text.specs.declared.line.Word.TheVariants.{Of, In, Fields, Field, Number, Null}
use Rattle.script_text.specs.Canonical.{word_texts}

-- numbers, and what follows them
numbers_then : (word : List ℕ) (numbers : List ℕ) (more : List (List ℕ)) (after : List ℕ)
    → ((w : List ℕ) → spaced (w ∷ more) ≡ w ++ after)
    → spaced (word ∷ map decimal numbers ++ more) ≡ word ++ (flat_map number_after numbers ++ after)
numbers_then word [] more after h = h word
numbers_then word (n ∷ numbers) more after h =
    ap (λ (t : List ℕ). word ++ 32 ∷ t) (numbers_then (decimal n) numbers more after h)
    ∙ ap (λ (t : List ℕ). word ++ 32 ∷ t)
    (sym (append_assoc (decimal n) (flat_map number_after numbers) after))

spaced-words : (names : NameList) (word : List ℕ) (ws : List Word)
    → spaced (word ∷ flat_map (word_texts names) ws) ≡ word ++ flat_map (word_after names) ws
spaced-words names word [] = sym (append-nil word)
spaced-words names word (Of n ∷ ws) =
    ap (λ (t : List ℕ). word ++ 32 ∷ t) (spaced-words names (name_text names n) ws)
spaced-words names word (In c ∷ ws) =
    ap (λ (t : List ℕ). word ++ 32 ∷ t) (spaced-words names (cell_text names c) ws)
spaced-words names word (Fields fields ∷ ws) =
    numbers_then word fields (flat_map (word_texts names) ws) (flat_map (word_after names) ws)
    (λ w. spaced-words names w ws)
spaced-words names word (Field f ∷ ws) =
    ap (λ (t : List ℕ). word ++ 32 ∷ t) (spaced-words names (decimal (field_number f)) ws)
spaced-words names word (Number n ∷ ws) =
    ap (λ (t : List ℕ). word ++ 32 ∷ t) (spaced-words names (decimal n) ws)
spaced-words names word (Null ∷ ws) =
    ap (λ (t : List ℕ). word ++ 32 ∷ t) (spaced-words names (codes "null") ws)

-- a first word, the words after it and a line feed, one after the other, are a line
pub words_line : (names : NameList) (text first : List ℕ) (ws : List Word)
    → ((text ++ first) ++ flat_map (word_after names) ws) ++ 10 ∷ [] ≡ text
    ++ ended (spaced (first ∷ flat_map (word_texts names) ws) ∷ [])
words_line names text first ws =
    let more : List ℕ = flat_map (word_after names) ws in
    append_assoc (text ++ first) more (10 ∷ [])
    ∙ append_assoc text first (more ++ 10 ∷ [])
    ∙ ap (λ (t : List ℕ). text ++ t) (sym (append_assoc first more (10 ∷ [])))
    ∙ ap (λ (t : List ℕ). text ++ (t ++ 10 ∷ [])) (sym (spaced-words names first ws))

-- the first thread and the others, one after the other
pub threads_done : (threads : List Thread) (first : Thread) (text mid out : List ℕ)
    → 1 ≤ length threads
    → first ≡ get_or threads 0 first
    → mid ≡ text ++ ended (section_lines (section_of first))
    → out ≡ mid ++ ended (flat_map begun_lines
    (map section_of (take (length threads - 1) (drop 1 threads))))
    → out ≡ text ++ ended (thread_lines (map section_of threads))
threads_done [] first text mid out some is one all = absurd (omega arith)
threads_done (t ∷ threads) first text mid out some is one all =
    let others : List (List ℕ) = flat_map begun_lines (map section_of threads) in
    all
    ∙ ap (λ (ts : List Thread). mid ++ ended (flat_map begun_lines (map section_of ts)))
    (take_rest (t ∷ threads) 1)
    ∙ ap (λ (u : List ℕ). u ++ ended others)
    (one ∙ ap (λ (u : Thread). text ++ ended (section_lines (section_of u))) is)
    ∙ append_assoc text (ended (section_lines (section_of t))) (ended others)
    ∙ ap (λ (u : List ℕ). text ++ u) (sym (ended-append (section_lines (section_of t)) others))
