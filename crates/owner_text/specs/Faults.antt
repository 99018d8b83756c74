-- How causes are said. All of it is own.
use Rattle.std.specs.Prelude.{ℕ, List, codes}
use Rattle.owner_text.specs.declared.fault.Cause.{Cause}
use Rattle.owner_text.specs.declared.fault.Cause.TheVariants as cause

abbrev pub cause_words : Cause → List ℕ
cause_words cause.UnfinishedLine = codes "unfinished line"
cause_words cause.BadByte = codes "bad byte"
cause_words cause.UnknownStatement = codes "unknown statement"
cause_words cause.WrongNumberOfWords = codes "wrong number of words"
cause_words cause.BadNumber = codes "bad number"
cause_words cause.BadLabel = codes "bad label"
cause_words cause.ObjectNamedTwice = codes "object named twice"
cause_words cause.NoSuchObject = codes "no such object"
cause_words cause.TooManyHandles = codes "too many handles"
