-- The first words of statements, and how many words may follow each.
use Rattle.std.specs.Prelude.{ℕ, ◌&&◌, Bool, List, [], ◌∷◌, Option, Some, None, Result, Ok, Err}
use Rattle.std.specs.Prelude.{find}
use Rattle.std.specs.Prelude.{codes, nat_le}
use Rattle.std.specs.Str.{bytes_eq}
use Rattle.script_text.specs.declared.fault.Cause.{Cause}
use Rattle.script_text.specs.declared.fault.Cause.TheVariants.{UnknownStatement}
use Rattle.script_text.specs.declared.words.keyword.Keyword.{Keyword}
use Rattle.script_text.specs.declared.words.keyword.Keyword.TheVariants.{Make, MakeThis, Null}
use Rattle.script_text.specs.declared.words.keyword.Keyword.TheVariants.{Empty, Reset, Copy}
use Rattle.script_text.specs.declared.words.keyword.Keyword.TheVariants.{Count}
use Rattle.script_text.specs.declared.words.keyword.Keyword.TheVariants.{Place, Cell, Weak}
use Rattle.script_text.specs.declared.words.keyword.PlaceKeyword.TheVariants as place
use Rattle.script_text.specs.declared.words.keyword.CellKeyword.TheVariants as cell
use Rattle.script_text.specs.declared.words.keyword.WeakKeyword.TheVariants as weak

-- a first word, and the least and the greatest number of words that may follow it
pub record Spelling : Type 0 where
  pub word : List ℕ
  pub least : ℕ
  pub most : ℕ

-- a row of the table
abbrev pub spelled : List ℕ → ℕ → ℕ → Spelling
spelled word least most = record { word = word; least = least; most = most }

-- the table of the statements
abbrev pub spelling_of : Keyword → Spelling
spelling_of Make = spelled (codes "make") 1 5
spelling_of MakeThis = spelled (codes "makethis") 1 5
spelling_of Null = spelled (codes "null") 1 1
spelling_of Empty = spelled (codes "empty") 1 1
spelling_of Reset = spelled (codes "reset") 1 1
spelling_of Copy = spelled (codes "copy") 2 2
spelling_of Count = spelled (codes "count") 1 1
spelling_of (Place place.Move) = spelled (codes "move") 2 2
spelling_of (Place place.Alias) = spelled (codes "alias") 3 4
spelling_of (Place place.This) = spelled (codes "this") 2 2
spelling_of (Place place.WeakThis) = spelled (codes "wthis") 2 2
spelling_of (Place place.Read) = spelled (codes "read") 1 1
spelling_of (Place place.Place) = spelled (codes "place") 1 1
spelling_of (Place place.Same) = spelled (codes "same") 2 2
spelling_of (Place place.Before) = spelled (codes "before") 2 2
spelling_of (Cell cell.Load) = spelled (codes "load") 2 2
spelling_of (Cell cell.Store) = spelled (codes "store") 2 2
spelling_of (Cell cell.Exchange) = spelled (codes "exchange") 2 2
spelling_of (Cell cell.Compare) = spelled (codes "compare") 3 3
spelling_of (Cell cell.CompareWeak) = spelled (codes "compare_weak") 3 3
spelling_of (Cell cell.Holds) = spelled (codes "holds") 2 2
spelling_of (Weak weak.Weak) = spelled (codes "weak") 2 2
spelling_of (Weak weak.Copy) = spelled (codes "wcopy") 2 2
spelling_of (Weak weak.Empty) = spelled (codes "wempty") 1 1
spelling_of (Weak weak.Reset) = spelled (codes "wreset") 1 1
spelling_of (Weak weak.Lock) = spelled (codes "lock") 2 2
spelling_of (Weak weak.Upgrade) = spelled (codes "upgrade") 2 2
spelling_of (Weak weak.Count) = spelled (codes "wcount") 1 1
spelling_of (Weak weak.Expired) = spelled (codes "expired") 1 1

-- all statements
abbrev pub keywords : List Keyword
keywords =
    Make ∷ MakeThis ∷ Null ∷ Empty ∷ Reset ∷ Copy ∷ Count
    ∷ Place place.Move ∷ Place place.Alias ∷ Place place.This ∷ Place place.WeakThis
    ∷ Place place.Read ∷ Place place.Place ∷ Place place.Same ∷ Place place.Before
    ∷ Cell cell.Load ∷ Cell cell.Store ∷ Cell cell.Exchange ∷ Cell cell.Compare
    ∷ Cell cell.CompareWeak ∷ Cell cell.Holds
    ∷ Weak weak.Weak ∷ Weak weak.Copy ∷ Weak weak.Empty ∷ Weak weak.Reset
    ∷ Weak weak.Lock ∷ Weak weak.Upgrade ∷ Weak weak.Count ∷ Weak weak.Expired ∷ []

-- the keyword that a word is, if any
abbrev pub find_keyword : List ℕ → Option Keyword
find_keyword word = find (λ keyword. bytes_eq word (spelling_of keyword).word) keywords

-- another first word begins no statement
abbrev pub known_keyword : Option Keyword → Result Keyword Cause
known_keyword None = Err UnknownStatement
known_keyword (Some keyword) = Ok keyword

-- the statement that a first word begins
unfoldable pub keyword_at : List ℕ → Result Keyword Cause
keyword_at word = known_keyword (find_keyword word)

-- whether so many words may follow
abbrev pub takes_words : Keyword → ℕ → Bool
takes_words keyword count =
    nat_le (spelling_of keyword).least count && nat_le count (spelling_of keyword).most
