-- The tasks of a part of a program suit its names, where its cells are those that texts name and no call shelves.
use Rattle.std.proofs.Common.{◌≡◌, ℕ, zero, suc, ◌+◌, ◌<◌, false, List, [], ◌∷◌, ◌++◌, length}
use Rattle.std.proofs.Common.{get_or, is_some, IsTrue, slice_get, Some, None, All, Option, sym}
use Rattle.std.proofs.Common.{refl, ◌∙◌, subst, arith}
use Rattle.script_runner.proofs.Prelude
use Prelude.{acts, AllByRecursion, AllSuit, CellName, clearing, first_stance, HasTextCells, IsIn}
use Prelude.{IsName, IsNoShelf, IsPart, IsProgram, IsReached, IsSuited, IsUnshelved, Kind, kind_at}
use Prelude.{Name, numbered_tasks, Part, program_in, ReadsAs, recursion_from_All, ScriptView}
use Prelude.{Shape, slice_get_within, Task, task, tasks_from}
use Rattle.control_word.specs.declared.model.handle.Kind.TheVariants as kind
use Rattle.script_runner.proofs.Unshelved.{program_unshelved}
use Rattle.script_text.specs.Canonical.{canonical}
use Rattle.step_threads.specs.Programs.{AllHaveCells, HasCells, IsDeclared, IsWellNamed, cells_of}
use Rattle.step_threads.specs.Programs.{names_of, through}
use Rattle.step_threads.specs.declared.programs.act.Act.TheVariants as act
use Rattle.step_threads.specs.declared.programs.call.Call.TheVariants as call
use Rattle.step_threads.specs.declared.programs.call.Call.{Call}
use Rattle.step_threads.specs.declared.programs.call.CellName.TheVariants as cell

-- a shape with just the cells that texts name
abbrev pub text_shape : Shape
text_shape = record { blocks = 1; owners = 2; weaks = 1; shared_cells = 128; weak_cells = 128; allowance = 1 }

-- a name of any kind is one of the names
found_below : (ks : List Kind) (i : ℕ) → IsTrue (is_some (slice_get ks i)) → i < length ks
found_below [] i is = absurd cc
found_below (k ∷ ks) zero is = omega arith
found_below (k ∷ ks) (suc i) is = let below = found_below ks i is in omega (arith, below)

module _ (ks : List Kind) where
  reached : (c : CellName) → IsIn text_shape c → AllByRecursion (IsDeclared ks) (through c) → IsReached ks c
  reached (cell.Shared n) below names = below
  reached (cell.Weak n) below names = below
  reached (cell.Member i m) below names = (names.0, below)

  named : (i : ℕ) (k : Kind) → IsName ks i k → i < length ks
  named i k is = slice_get_within ks i k is

  -- a call of statement k, before tasks that suit
  module _ (k : ℕ) (rest : List Task) (after : AllSuit ks (first_stance ks) rest) where
    -- what is in hand goes to a name of its kind
    put : (h : Option Kind) (name : Name) (of_kind : Kind) → IsName ks name.0 of_kind → h ≡ Some of_kind
        → AllSuit ks (record { hand = h; owes = false; names = length ks }) (task k (act.Put name.0) ∷ rest)
    put h name of_kind is same = ((refl, named name.0 of_kind is, same ∙ sym is), tt, after)

    call_suits : (c : Call) → AllByRecursion (IsDeclared ks) (names_of c) → AllByRecursion (IsIn text_shape) (cells_of c) → IsNoShelf c
        → AllSuit ks (first_stance ks) (numbered_tasks k (acts c) ++ rest)
    call_suits (call.Make to fields) n c none = (((refl, refl), λ e. absurd cc), tt, put (Some kind.Owner) to kind.Owner n.0 refl)
    call_suits (call.MakeThis to fields) n c none = (((refl, refl), λ e. absurd cc), tt, put (Some kind.Owner) to kind.Owner n.0 refl)
    call_suits (call.Null to) n c none = (((refl, refl), λ e. refl), tt, put (Some kind.Owner) to kind.Owner n.0 refl)
    call_suits (call.Empty to) n c none = (((refl, refl), named to.0 kind.Owner n.0), tt, after)
    call_suits (call.Reset name) n c none = (((refl, refl), named name.0 kind.Owner n.0), tt, after)
    call_suits (call.Copy to from) n c none =
        (((refl, refl), named from.0 kind.Owner n.1.0), tt, put (slice_get ks from.0) to kind.Owner n.0 n.1.0)
    call_suits (call.Move to from) n c none =
        (((refl, refl), named from.0 kind.Owner n.1.0), tt, put (slice_get ks from.0) to kind.Owner n.0 n.1.0)
    call_suits (call.Alias to from other field) n c none =
        (((refl, refl), n.1.0, n.1.1.0), tt, put (Some kind.Owner) to kind.Owner n.0 refl)
    call_suits (call.AliasNull to from) n c none = (((refl, refl), n.1.0, n.1.0), tt, put (Some kind.Owner) to kind.Owner n.0 refl)
    call_suits (call.Count name) n c none = (((refl, refl), named name.0 kind.Owner n.0), tt, after)
    call_suits (call.Weak to from) n c none = (((refl, refl), n.1.0), tt, put (Some kind.Weak) to kind.Weak n.0 refl)
    call_suits (call.WeakCopy to from) n c none =
        (((refl, refl), named from.0 kind.Weak n.1.0), tt, put (slice_get ks from.0) to kind.Weak n.0 n.1.0)
    call_suits (call.WeakEmpty to) n c none = (((refl, refl), named to.0 kind.Weak n.0), tt, after)
    call_suits (call.WeakReset name) n c none = (((refl, refl), named name.0 kind.Weak n.0), tt, after)
    call_suits (call.Lock to from) n c none = (((refl, refl), n.1.0), tt, put (Some kind.Owner) to kind.Owner n.0 refl)
    call_suits (call.Upgrade to from) n c none = (((refl, refl), n.1.0), tt, put (Some kind.Owner) to kind.Owner n.0 refl)
    call_suits (call.WeakCount name) n c none = (((refl, refl), named name.0 kind.Weak n.0), tt, after)
    call_suits (call.Expired name) n c none = (((refl, refl), n.0), tt, after)
    call_suits (call.This to from) n c none = (((refl, refl), n.1.0), tt, put (Some kind.Owner) to kind.Owner n.0 refl)
    call_suits (call.WeakThis to from) n c none = (((refl, refl), n.1.0), tt, put (Some kind.Weak) to kind.Weak n.0 refl)
    call_suits (call.Read name) n c none = (((refl, refl), n.0), tt, after)
    call_suits (call.Place name) n c none = (((refl, refl), n.0), tt, after)
    call_suits (call.Same one other) n c none = (((refl, refl), (n.0, n.1.0)), tt, after)
    call_suits (call.Before one other) n c none =
        (((refl, refl), (found_below ks one.0 n.0, found_below ks other.0 n.1.0)), tt, after)
    call_suits (call.Store to from) n c none =
        let there = reached to c.0 n.1 in
        (((refl, refl), n.0, there), tt, ((refl, refl, there, refl), tt, ((refl, refl), tt, after)))
    call_suits (call.Exchange to name) n c none = (((refl, refl), n.0, reached to c.0 n.1), tt, after)
    call_suits (call.Holds to name) n c none = (((refl, refl), n.0, reached to c.0 n.1), tt, after)
    call_suits (call.Load to from) n c none =
        (((refl, refl), reached from c.0 n.1), tt, put (Some (kind_at from)) to (kind_at from) n.0 refl)
    call_suits (call.Compare to expected desired weak) n c none =
        let there = reached to c.0 n.1.1 in (
          ((refl, refl), n.1.0, there),
          tt,
          (
            (refl, refl, n.0, there, refl),
            (refl, refl),
            ((refl, named expected.0 (kind_at to) n.0, sym n.0), tt, ((refl, refl), tt, after)),
          ),
        )
    call_suits (call.Shelve n) names c none = absurd none
    call_suits (call.Unshelve block) n c none = absurd none

  clearing_suits : (n : ℕ) → AllSuit ks (record { hand = None; owes = false; names = n }) (clearing n)
  clearing_suits zero = (refl, refl, refl)
  clearing_suits (suc n) = ((refl, refl), tt, clearing_suits n)

  calls_suit : (k : ℕ) (calls : List Call) → AllByRecursion (IsWellNamed ks) calls → AllByRecursion (HasCells text_shape) calls
      → AllByRecursion IsNoShelf calls → AllSuit ks (first_stance ks) (tasks_from k calls (length ks))
  calls_suit k [] names cells none = clearing_suits (length ks)
  calls_suit k (c ∷ calls) names cells none =
      call_suits k (tasks_from (k + 1) calls (length ks)) (calls_suit (k + 1) calls names.1 cells.1 none.1) c
      (recursion_from_All (IsDeclared ks) (names_of c) names.0) (recursion_from_All (IsIn text_shape) (cells_of c) cells.0) none.0

pub part_suits : (part : Part) → IsPart part → AllHaveCells text_shape part → IsUnshelved part → IsSuited part
part_suits part is cells none =
    calls_suit part.kinds 1 part.calls (recursion_from_All (IsWellNamed part.kinds) part.calls is.named)
    (recursion_from_All (HasCells text_shape) part.calls cells) (recursion_from_All IsNoShelf part.calls none)

pub parts_suit : (parts : List Part) → IsProgram parts → ((shape : Shape) → HasTextCells shape → All (AllHaveCells shape) parts)
    → All IsUnshelved parts → All IsSuited parts
parts_suit parts program cells none k d lt =
    part_suits (get_or parts k d) (program.each k d lt) (cells text_shape (omega arith, omega arith) k d lt) (none k d lt)

-- a script's threads suit, by what `Script::program` says
pub script_suits : (script : ScriptView) (parts : List Part) → parts ≡ program_in script.threads → IsProgram parts
    → ((shape : Shape) → HasTextCells shape → All (AllHaveCells shape) parts) → ReadsAs (canonical script) script
    → All IsSuited (program_in script.threads)
script_suits script parts same program cells reads =
    subst (All IsSuited) same
    (parts_suit parts program cells (subst (All IsUnshelved) (sym same) (program_unshelved (canonical script) script reads)))
