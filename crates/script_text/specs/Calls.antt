-- The call that a statement spells.
use Rattle.std.specs.Prelude.{ℕ, true, false, List, Some, None, Result, Ok}
use Rattle.step_threads.specs.declared.programs.call.Call.{Call}
use Rattle.step_threads.specs.declared.programs.call.Call.TheVariants as call
use Rattle.control_word.specs.declared.model.handle.Kind.TheVariants.{Owner, Weak}
use Rattle.step_threads.specs.declared.programs.call.Name.{Name}
use Rattle.script_text.specs.declared.fault.Cause.{Cause}
use Rattle.script_text.specs.declared.words.keyword.Keyword.{Keyword}
use Rattle.script_text.specs.declared.words.keyword.Keyword.TheVariants as key
use Rattle.script_text.specs.declared.words.keyword.PlaceKeyword.{PlaceKeyword}
use Rattle.script_text.specs.declared.words.keyword.PlaceKeyword.TheVariants as place
use Rattle.script_text.specs.declared.words.keyword.CellKeyword.{CellKeyword}
use Rattle.script_text.specs.declared.words.keyword.CellKeyword.TheVariants as cell
use Rattle.script_text.specs.declared.words.keyword.WeakKeyword.{WeakKeyword}
use Rattle.script_text.specs.declared.words.keyword.WeakKeyword.TheVariants as weak
use Rattle.script_text.specs.declared.parts.calls.OnSource.{OnSource}
use Rattle.script_text.specs.declared.parts.calls.OnSource.TheVariants as on_source
use Rattle.script_text.specs.declared.parts.calls.OnTarget.{OnTarget}
use Rattle.script_text.specs.declared.parts.calls.OnTarget.TheVariants as on_target
use Rattle.script_text.specs.declared.parts.calls.OnPair.{OnPair}
use Rattle.script_text.specs.declared.parts.calls.OnPair.TheVariants as on_pair
use Rattle.script_text.specs.declared.parts.calls.OnSources.{OnSources}
use Rattle.script_text.specs.declared.parts.calls.OnSources.TheVariants as on_sources
use Rattle.script_text.specs.declared.parts.calls.OnFields.{OnFields}
use Rattle.script_text.specs.declared.parts.calls.OnFields.TheVariants as on_fields
use Rattle.text_lines.specs.Reading.{◌>>=◌}
use Rattle.script_text.specs.Names.{NameList}
use Rattle.script_text.specs.Shapes.{Aim, alias_at, cell_and_other, cell_and_source}
use Rattle.script_text.specs.Shapes.{cell_and_sources, target_and_cell}
use Rattle.script_text.specs.Shapes.{one_target, one_source, target_and_source, two_sources}
use Rattle.script_text.specs.Shapes.{target_and_fields}

-- what was read, as a call
abbrev pub as_call : {A : Type 0} → (A → Call) → Result (A × NameList) Cause
    → Result (Call × NameList) Cause
as_call make read = read >>= λ r. Ok (make r.0, r.1)

-- the calls by the shapes of their statements
abbrev pub source_call : OnSource → Name → Call
source_call on_source.Reset = λ n. call.Reset n
source_call on_source.Count = λ n. call.Count n
source_call on_source.Read = λ n. call.Read n
source_call on_source.Place = λ n. call.Place n
source_call on_source.WeakReset = λ n. call.WeakReset n
source_call on_source.WeakCount = λ n. call.WeakCount n
source_call on_source.Expired = λ n. call.Expired n

abbrev pub target_call : OnTarget → Name → Call
target_call on_target.Null = λ n. call.Null n
target_call on_target.Empty = λ n. call.Empty n
target_call on_target.WeakEmpty = λ n. call.WeakEmpty n

abbrev pub pair_call : OnPair → Name × Name → Call
pair_call on_pair.Copy = λ p. call.Copy p.0 p.1
pair_call on_pair.Move = λ p. call.Move p.0 p.1
pair_call on_pair.This = λ p. call.This p.0 p.1
pair_call on_pair.WeakThis = λ p. call.WeakThis p.0 p.1
pair_call on_pair.Weak = λ p. call.Weak p.0 p.1
pair_call on_pair.WeakCopy = λ p. call.WeakCopy p.0 p.1
pair_call on_pair.Lock = λ p. call.Lock p.0 p.1
pair_call on_pair.Upgrade = λ p. call.Upgrade p.0 p.1

abbrev pub sources_call : OnSources → Name × Name → Call
sources_call on_sources.Same = λ p. call.Same p.0 p.1
sources_call on_sources.Before = λ p. call.Before p.0 p.1

abbrev pub fields_call : OnFields → Name × List ℕ → Call
fields_call on_fields.Make = λ p. call.Make p.0 p.1
fields_call on_fields.MakeThis = λ p. call.MakeThis p.0 p.1

-- the call of an alias, with its target and source, by where it points
abbrev pub alias_call : (Name × Name) × Aim → Call
alias_call (p, None) = call.AliasNull p.0 p.1
alias_call (p, Some aim) = call.Alias p.0 p.1 aim.0 aim.1

-- the call of a statement on where owners point, or on what they own, and the names with its target
unfoldable pub place_call_at : NameList → PlaceKeyword → List (List ℕ)
    → Result (Call × NameList) Cause
place_call_at names place.Move words =
    as_call (λ p. call.Move p.0 p.1) (target_and_source names Owner Owner words)
place_call_at names place.Alias words = as_call alias_call (alias_at names words)
place_call_at names place.This words =
    as_call (λ p. call.This p.0 p.1) (target_and_source names Owner Owner words)
place_call_at names place.WeakThis words =
    as_call (λ p. call.WeakThis p.0 p.1) (target_and_source names Weak Owner words)
place_call_at names place.Read words = as_call call.Read (one_source names Owner words)
place_call_at names place.Place words = as_call call.Place (one_source names Owner words)
place_call_at names place.Same words =
    as_call (λ p. call.Same p.0 p.1) (two_sources names (Some Owner) words)
place_call_at names place.Before words =
    as_call (λ p. call.Before p.0 p.1) (two_sources names None words)

-- the call of a statement on a cell, and the names with its target, if it has one
unfoldable pub cell_call_at : NameList → CellKeyword → List (List ℕ)
    → Result (Call × NameList) Cause
cell_call_at names cell.Load words = as_call (λ p. call.Load p.0 p.1) (target_and_cell names words)
cell_call_at names cell.Store words =
    as_call (λ p. call.Store p.0 p.1) (cell_and_source names words)
cell_call_at names cell.Exchange words =
    as_call (λ p. call.Exchange p.0 p.1) (cell_and_other names words)
cell_call_at names cell.Compare words =
    as_call (λ p. call.Compare p.0 p.1 p.2 false) (cell_and_sources names words)
cell_call_at names cell.CompareWeak words =
    as_call (λ p. call.Compare p.0 p.1 p.2 true) (cell_and_sources names words)
cell_call_at names cell.Holds words =
    as_call (λ p. call.Holds p.0 p.1) (cell_and_source names words)

-- the call of a statement on weak names, and the names with its target
unfoldable pub weak_call_at : NameList → WeakKeyword → List (List ℕ)
    → Result (Call × NameList) Cause
weak_call_at names weak.Weak words =
    as_call (λ p. call.Weak p.0 p.1) (target_and_source names Weak Owner words)
weak_call_at names weak.Copy words =
    as_call (λ p. call.WeakCopy p.0 p.1) (target_and_source names Weak Weak words)
weak_call_at names weak.Empty words = as_call call.WeakEmpty (one_target names Weak words)
weak_call_at names weak.Reset words = as_call call.WeakReset (one_source names Weak words)
weak_call_at names weak.Lock words =
    as_call (λ p. call.Lock p.0 p.1) (target_and_source names Owner Weak words)
weak_call_at names weak.Upgrade words =
    as_call (λ p. call.Upgrade p.0 p.1) (target_and_source names Owner Weak words)
weak_call_at names weak.Count words = as_call call.WeakCount (one_source names Weak words)
weak_call_at names weak.Expired words = as_call call.Expired (one_source names Weak words)

-- the call, and the names with its target
unfoldable pub call_at : NameList → Keyword → List (List ℕ) → Result (Call × NameList) Cause
call_at names key.Make words = as_call (λ p. call.Make p.0 p.1) (target_and_fields names words)
call_at names key.MakeThis words =
    as_call (λ p. call.MakeThis p.0 p.1) (target_and_fields names words)
call_at names key.Null words = as_call call.Null (one_target names Owner words)
call_at names key.Empty words = as_call call.Empty (one_target names Owner words)
call_at names key.Reset words = as_call call.Reset (one_source names Owner words)
call_at names key.Copy words =
    as_call (λ p. call.Copy p.0 p.1) (target_and_source names Owner Owner words)
call_at names key.Count words = as_call call.Count (one_source names Owner words)
call_at names (key.Place keyword) words = place_call_at names keyword words
call_at names (key.Cell keyword) words = cell_call_at names keyword words
call_at names (key.Weak keyword) words = weak_call_at names keyword words
