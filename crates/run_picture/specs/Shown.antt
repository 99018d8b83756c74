-- What is read on a picture. All of it is own.
use Rattle.std.specs.Prelude.{ℕ, zero, suc, ◌-◌, ◌++◌, List, [], ◌∷◌, codes, decimal, Option, Some}
use Rattle.std.specs.Prelude.{None, String, if◌then◌else◌, nat_lt, string_bytes}
use Rattle.std.specs.Global.{Global}
use Rattle.std.specs.List.{flat_map}
use Rattle.control_word.specs.declared.packed.counts.Counts.{Counts}
use Rattle.run_picture.specs.Elements.{Shows}
use Rattle.run_picture.specs.declared.document.TheConstants.{ARROWS_LEGEND, BOXES_LEGEND, COUNTS_LEGEND}
use Rattle.run_picture.specs.declared.document.TheConstants.{LANES_LEGEND, STYLE}
use Rattle.run_picture.specs.declared.lanes.Lane.{Lane}
use Rattle.run_picture.specs.declared.picture.Change.{Change}
use Rattle.run_picture.specs.declared.picture.Left.{Left}
use Rattle.run_picture.specs.declared.picture.LeftBlock.{LeftBlock}
use Rattle.run_picture.specs.declared.picture.Picture.{Picture}
use Rattle.run_picture.specs.declared.picture.Row.{Row}
use Rattle.run_picture.specs.declared.picture.Touch.{Touch}

-- owners and weak pointers of a block; none of either where it is vacant
abbrev pub counts_text : Option Counts → List ℕ
counts_text None = codes "0 w0"
counts_text (Some counts) = decimal counts.owners ++ codes " w" ++ decimal counts.weaks

abbrev pub change_words : Change → List (List ℕ)
change_words change = counts_text change.counts ∷ []

abbrev pub line_words : String Global → List (List ℕ)
line_words line = string_bytes line ∷ []

abbrev pub touch_words : Option Touch → List (List ℕ)
touch_words None = []
touch_words (Some touch) = string_bytes touch.shown ∷ []

-- of an act: its number, its statement, what it did, its cell, the lines that it said, and the
-- counts that it changed
abbrev pub row_words : Row → List (List ℕ)
row_words row =
    (decimal row.number ∷ string_bytes row.statement ∷ row.word.now ∷ [])
    ++ (touch_words row.touch
    ++ (flat_map line_words row.lines.items ++ flat_map change_words row.changes.items))

-- the titles of so many threads
abbrev pub thread_titles : ℕ → List (List ℕ)
thread_titles zero = []
thread_titles (suc n) = thread_titles n ++ (codes "thread " ++ decimal (suc n)) ∷ []

-- what stands above the rows: how things look, what they mean, and the threads
abbrev pub top_words : ℕ → List (List ℕ)
top_words threads = STYLE.now ∷ COUNTS_LEGEND.now ∷ LANES_LEGEND.now ∷ ARROWS_LEGEND.now
    ∷ BOXES_LEGEND.now ∷ thread_titles threads

-- the title of a free cell, of which so many are shared
abbrev pub cell_title : ℕ → ℕ → List ℕ
cell_title shared cell =
    if nat_lt cell shared then codes "s" ++ decimal cell else codes "w" ++ decimal (cell - shared)

abbrev pub cell_words : ℕ → ℕ → List (List ℕ)
cell_words shared cell = cell_title shared cell ∷ []

abbrev pub block_words : ℕ → List (List ℕ)
block_words block = (codes "block " ++ decimal block) ∷ []

abbrev pub lane_words : Lane → List (List ℕ)
lane_words lane = block_words lane.block

-- the blocks that are left at the end, and the last line
abbrev pub left_block_words : LeftBlock → List (List ℕ)
left_block_words left = block_words left.block

abbrev pub left_words : Option Left → List (List ℕ)
left_words None = []
left_words (Some left) = flat_map left_block_words left.blocks.items ++ string_bytes left.totals ∷ []

-- A text goes on with elements, each closed where it was opened, on which just this is read, in this
-- order: what stands above the rows; the words of each row; the titles of the lanes of some cells
-- and blocks; and what is left at the end
pub record ShowsPicture (p : Picture) (old new : List ℕ) : Type 0 where
  pub cells : List ℕ
  pub blocks : List ℕ
  pub shows : Shows old new
      (top_words p.threads ++ (flat_map row_words p.rows.items
      ++ (flat_map (cell_words p.shared_cells) cells ++ (flat_map block_words blocks ++ left_words p.left))))
