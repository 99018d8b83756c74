-- The lines of a run, sorted by threads. All of it is own.
use Rattle.std.specs.Prelude.{◌++◌, Bool, true, not, cond, filter, nat_eq, ℕ, List, [], ◌∷◌, codes, decimal}
use Rattle.std.specs.List.{flat_map, starts_with}
use Rattle.text_lines.specs.Lines.{ended, is_feed}
use Rattle.text_lines.specs.Numbers.{is_digit}
use Rattle.step_threads.specs.Stocks.{from}

-- the lines of a text that goes on, where its line so far is this; what follows the last line feed is none
abbrev pub lines_after : List ℕ → List ℕ → List (List ℕ)
lines_after line [] = []
lines_after line (b ∷ bs) = cond (is_feed b) (line ∷ lines_after [] bs) (lines_after (line ++ b ∷ []) bs)

-- the lines of a text, each without its line feed
abbrev pub lines_in : List ℕ → List (List ℕ)
lines_in text = lines_after [] text

-- how the lines of a thread begin
abbrev pub thread_start : ℕ → List ℕ
thread_start thread = decimal thread ++ codes "."

abbrev pub begins_with : List ℕ → List ℕ → Bool
begins_with start line = starts_with nat_eq line start

-- a line of no thread, which tells what is left, or the totals
abbrev pub is_closing : List ℕ → Bool
is_closing [] = true
is_closing (b ∷ bs) = not (is_digit b)

-- the lines of a thread, in their order
abbrev pub thread_lines : List (List ℕ) → ℕ → List (List ℕ)
thread_lines lines thread = filter (begins_with (thread_start thread)) lines

-- all lines of thread 1, then those of thread 2 and so on; then those of no thread
abbrev pub sorted_lines : List (List ℕ) → List (List ℕ)
sorted_lines lines = flat_map (thread_lines lines) (from 1 64) ++ filter is_closing lines

abbrev pub by_threads : List ℕ → List ℕ
by_threads text = ended (sorted_lines (lines_in text))
