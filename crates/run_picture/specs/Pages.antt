-- The text of a page on which a run is gone through act by act. All of it is own.
use Rattle.std.specs.Prelude.{ℕ, ◌++◌, Bool, true, false, List, [], codes, decimal, Option, Some, None}
use Rattle.std.specs.Prelude.{String, string_bytes}
use Rattle.std.specs.Global.{Global}
use Rattle.std.specs.List.{flat_map}
use Rattle.control_word.specs.declared.site.Site.TheVariants.{Free, Member}
use Rattle.run_picture.specs.Elements.{label, rendered}
use Rattle.run_picture.specs.declared.page_head.TheConstants.{HEAD}
use Rattle.run_picture.specs.declared.page_reader.TheConstants.{READER}
use Rattle.run_picture.specs.declared.page_view.TheConstants.{VIEW}
use Rattle.run_picture.specs.declared.picture.Change.{Change}
use Rattle.run_picture.specs.declared.picture.Holder.{Holder}
use Rattle.run_picture.specs.declared.picture.Holder.TheVariants.{Cell, Name}
use Rattle.run_picture.specs.declared.picture.Left.{Left}
use Rattle.run_picture.specs.declared.picture.LeftBlock.{LeftBlock}
use Rattle.run_picture.specs.declared.picture.Picture.{Picture}
use Rattle.run_picture.specs.declared.picture.Pointer.{Pointer}
use Rattle.run_picture.specs.declared.picture.Row.{Row}
use Rattle.run_picture.specs.Shown.{counts_text}

-- an act: its number, its thread, and what it did; and its statement
abbrev pub act_line : Row → List ℕ
act_line row = codes "act " ++ decimal row.number ++ codes " " ++ decimal row.thread ++ codes " "
    ++ row.word.now ++ codes "\n"

abbrev pub at_line : Row → List ℕ
at_line row = codes "at " ++ string_bytes row.statement ++ codes "\n"

-- a line that it said
abbrev pub said_line : String Global → List ℕ
said_line line = codes "said " ++ string_bytes line ++ codes "\n"

-- a block's counts that it changed
abbrev pub change_line : Change → List ℕ
change_line change = codes "block " ++ decimal change.block ++ codes " " ++ counts_text change.counts
    ++ codes "\n"

-- a pointer that its thread or a cell has after it
abbrev pub pair_text : ℕ → ℕ → List ℕ
pair_text first second = decimal first ++ codes " " ++ decimal second ++ codes " "

abbrev pub holder_text : Holder → List ℕ
holder_text (Name thread number) = codes "name " ++ pair_text thread number
holder_text (Cell (Free number)) = codes "free " ++ decimal number ++ codes " "
holder_text (Cell (Member block member)) = codes "member " ++ pair_text block.0 member

abbrev pub kind_text : Bool → List ℕ
kind_text true = codes "owner"
kind_text false = codes "weak"

abbrev pub pointer_line : Pointer → List ℕ
pointer_line pointer = holder_text pointer.holder ++ kind_text pointer.is_owner ++ codes " "
    ++ decimal pointer.block ++ codes "\n"

-- an act, and what is so after it
abbrev pub row_lines : Row → List ℕ
row_lines row = act_line row ++ at_line row ++ flat_map said_line row.lines.items
    ++ flat_map change_line row.changes.items ++ flat_map pointer_line row.pointers.items

-- what is left at the end
abbrev pub left_block_line : LeftBlock → List ℕ
left_block_line left = codes "left " ++ decimal left.block ++ codes " " ++ left.color.now ++ codes "\n"

abbrev pub totals_line : String Global → List ℕ
totals_line totals = codes "totals " ++ string_bytes totals ++ codes "\n"

abbrev pub left_lines : Option Left → List ℕ
left_lines None = []
left_lines (Some left) = flat_map left_block_line left.blocks.items ++ totals_line left.totals

-- what the script says, then each act once, in order, and what is left
abbrev pub run_lines : Picture → List ℕ
run_lines picture = string_bytes picture.script ++ flat_map row_lines picture.rows.items
    ++ left_lines picture.left

-- lines in one element, in which no byte of theirs stands for markup
abbrev pub lines_element : List ℕ → List ℕ
lines_element lines = rendered (label (codes "pre") [] lines)

-- the head of each page
abbrev pub head_text : List ℕ
head_text = HEAD.now

-- a text, and then the scripts of each page
abbrev pub with_scripts : List ℕ → List ℕ
with_scripts text = (text ++ READER.now) ++ VIEW.now

-- what is shown on a page, between a head and scripts that are the same on each
abbrev pub page_of : List ℕ → List ℕ
page_of shown = with_scripts (head_text ++ shown)

-- the page of one run
abbrev pub page_text : Picture → List ℕ
page_text picture = page_of (lines_element (run_lines picture))
