-- What a domain's history has of each thread of a script, once a table for each was joined and the first one wound up.
-- All of it is own.
use Rattle.std.specs.Prelude.{◌≡◌, ◌⊎◌, ℕ, ◌<◌, All, List, [], ◌∷◌, None, Some, map}
use Rattle.control_block.specs.Desks.{IsFirstDesk, DeskNow, DomainNow}
use Rattle.control_block.specs.Rule.{opening_of}
use Rattle.control_word.specs.Histories.{IsLegal}
use Rattle.control_word.specs.State.{Has, Opening}
use Rattle.control_word.specs.declared.model.event.Entry.{Entry}
use Rattle.control_word.specs.declared.model.event.Event.{Event}
use Rattle.control_word.specs.declared.model.event.Event.TheVariants.{Split}
use Rattle.script_runner.specs.Parting.{AbsorbsAll, IsNew, IsPartedInto, WindsUp}
use Rattle.script_runner.specs.Parts.{block_of_held}
use Rattle.script_runner.specs.Tables as table
use Rattle.script_runner.specs.Tables.{TableNow}
use Rattle.script_runner.specs.EndCalls.{TakesThread}
use Rattle.step_table.specs.declared.memory.form.Form.{Form}
use Rattle.step_threads.specs.Frames.{FrameView}
use Rattle.step_threads.specs.TraceLabels.{Over, ahead}
use Rattle.step_threads.specs.Interleavings.{IsSplitOrJoin, Marked, first_frame}
use Rattle.step_threads.specs.Programs.{Part}
use Rattle.step_threads.specs.declared.said.Said.{Said}

-- no slot has a handle of an object
abbrev pub HasNoObject : table.Slot → Type 0
HasNoObject None = Unit {0}
HasNoObject (Some h) = block_of_held h ≡ None

abbrev pub AllBare : List table.Slot → Type 0
AllBare [] = Unit {0}
AllBare (s ∷ ss) = HasNoObject s × AllBare ss

-- the names of the desks of tables
abbrev pub desk_names : {V : Type 0} → List (TableNow V) → List ℕ
desk_names ts = map (λ t. t.desk.name) ts

module _ {V : Type 0} where
  -- a worker's table was lent as t and left as u: what its desk did took its thread from its first act to its end, with
  -- these lines, and nothing is left
  pub record PlaysThread (worth : Form → V) (part : Part) (t u : TableNow V) (lines : List Said) : Type 0 where
    pub last : FrameView
    pub shape : u.desk.shape ≡ t.desk.shape
    pub takes : TakesThread worth t.desk (first_frame part) [] u.desk last lines
    pub over : ahead last ≡ Over
    pub bare : AllBare u.slots
    pub settled : u.endings ≡ []

  abbrev pub AllPlay : (Form → V) → List Part → List (TableNow V) → List (TableNow V) → List (List Said)
      → Type 0
  AllPlay worth [] [] [] [] = Unit {0}
  AllPlay worth (p ∷ ps) (t ∷ ts) (u ∷ us) (l ∷ ls) = PlaysThread worth p t u l × AllPlay worth ps ts us ls
  AllPlay worth _ _ _ _ = ⊥

  -- each of these threads has its acts in the history, under its name, with its lines
  abbrev pub AllMarked : (Form → V) → Opening → List (Entry V) → List ℕ → List Part → List (List Said)
      → Type 0
  AllMarked worth z h [] [] [] = Unit {0}
  AllMarked worth z h (n ∷ ns) (p ∷ ps) (l ∷ ls) = Marked worth z h n p l × AllMarked worth z h ns ps ls
  AllMarked worth z h _ _ _ = ⊥

-- each name is above the one before it, so that no two are the same
abbrev pub AllAbove : ℕ → List ℕ → Type 0
AllAbove n [] = Unit {0}
AllAbove n (m ∷ ms) = (n < m) × AllAbove n ms

abbrev pub AreRising : List ℕ → Type 0
AreRising [] = Unit {0}
AreRising (n ∷ ns) = AllAbove n ns × AreRising ns

module _ {V : Type 0} where
  -- by this event a desk of this name came
  abbrev pub SplitsOffTo : ℕ → Event V → Type 0
  SplitsOffTo n (Split to allowance hs bs) = to ≡ n
  SplitsOffTo n _ = ⊥

  -- the history has a split by which a desk of this name came
  abbrev pub IsSplitOff : List (Entry V) → ℕ → Type 0
  IsSplitOff [] n = ⊥
  IsSplitOff (e ∷ h) n = SplitsOffTo n e.event ⊎ IsSplitOff h n

  -- the history is legal, and an interleaving of these threads, each under the name of a desk of its own, which came by
  -- a split, and with its lines; all else in it is splits and joins
  pub record IsInterleaved (worth : Form → V) (z : Opening) (h : List (Entry V)) (parts : List Part)
      (lines : List (List Said)) : Type 0 where
    pub legal : IsLegal z h
    pub names : List ℕ
    pub rising : AreRising names
    pub split : All (IsSplitOff h) names
    pub each : AllMarked worth z h names parts lines
    pub others : All (λ (e : Entry V). Has e.desk names ⊎ IsSplitOrJoin e.event) h

module _ (V : Type 0) where
  -- a table gave parts to a table for each thread, which played it, and absorbed them; and then it was wound up
  abbrev pub TeamsPlay : Type 0
  TeamsPlay =
      (worth : Form → V) (parts : List Part) (lines : List (List Said)) (t u : TableNow V) (between last : DeskNow V)
      (lent left : List (TableNow V)) (allowance blocks : ℕ)
      → IsPartedInto t.desk allowance blocks lent between → AllPlay worth parts lent left lines
      → AbsorbsAll (record t { desk = between }) left u → WindsUp u last
      → AllMarked worth (opening_of t.desk.shape) last.seen (desk_names lent) parts lines
      × AreRising (desk_names lent)

  -- and where that was a domain's first table, without a handle, there is nothing else in the history
  abbrev pub TeamsInterleave : Type 0
  TeamsInterleave =
      (worth : Form → V) (parts : List Part) (lines : List (List Said)) (domain : DomainNow) (slots : ℕ)
      (t u : TableNow V) (between last : DeskNow V) (lent left : List (TableNow V)) (allowance blocks : ℕ)
      → IsFirstDesk domain t.desk → IsNew slots t
      → IsPartedInto t.desk allowance blocks lent between → AllPlay worth parts lent left lines
      → AbsorbsAll (record t { desk = between }) left u → WindsUp u last
      → IsLegal (opening_of t.desk.shape) last.seen
      → IsInterleaved worth (opening_of t.desk.shape) last.seen parts lines
