-- What is reported of a run's end, line after line.
use Rattle.std.proofs.Common.{◌≡◌, ℕ, ◌+◌, Bool, List, [], ◌∷◌, ◌++◌, Some, Ok, Err, Option}
use Rattle.std.proofs.Common.{false, refl, sym, ap, ◌∙◌, subst, arith}
use Rattle.leak_report.proofs.Prelude.{AbstractState, all_knots, census_of, Counts, ended, ended_in}
use Rattle.leak_report.proofs.Prelude.{Findings, flat_map, from, held_at, held_on, holder_lines}
use Rattle.leak_report.proofs.Prelude.{Holding, left_lines, lines_then, listing, made_in, marked}
use Rattle.leak_report.proofs.Prelude.{State, state_in, totals_text}
use Rattle.script_stepper.specs.Ends.{IsRunEnd}
use Rattle.script_stepper.specs.Runs.{IsScriptRun}
use Rattle.script_text.specs.declared.fault.Fault.{Fault}
use Rattle.leak_report.specs.Findings.{AreFound}
use Rattle.leak_report.specs.Left.{IsLeftText, MarksKept, TellsOf}
use Rattle.leak_report.specs.Lines.{all_lines, held_lines_if, left_text}
use Rattle.owner_graph.specs.Findings.{AreFindings}
use Rattle.leak_report.proofs.MoreLemmas.{one_more}

-- lines of one number more
pub numbers_then : (f : ℕ → List (List ℕ)) (n : ℕ) (a b c : List ℕ) → b ≡ a ++ ended (flat_map f (from 1 n)) → c ≡ b ++ ended (f (n + 1))
    → c ≡ a ++ ended (flat_map f (from 1 (n + 1)))
numbers_then f n a b c p q =
    let e = one_more f 1 n (n + 1) [] (flat_map f (from 1 n)) (flat_map f (from 1 n) ++ f (n + 1)) (omega arith) refl refl in
    lines_then (flat_map f (from 1 n)) (f (n + 1)) a b c p q ∙ ap (λ (l : List (List ℕ)). a ++ ended l) e

-- a block's line, and those of the handles on it
pub block_then : (shared : ℕ) (hs row : List Holding) (kept : List Bool) (s : State) (number block : ℕ)
    (counts : Counts) (is_kept : Bool) (a b c : List ℕ) → Some counts ≡ census_of s number → block ≡ number
    → is_kept ≡ marked kept block → row ≡ held_on hs block
    → b ≡ a ++ ended (left_text number counts is_kept ∷ []) → c ≡ b ++ ended (flat_map (holder_lines shared) row)
    → c ≡ a ++ ended (left_lines shared hs kept s number)
block_then shared hs row kept s number block counts is_kept a b c some same mark is p q =
    lines_then (left_text number counts is_kept ∷ []) (flat_map (holder_lines shared) row) a b c p q
    ∙ ap (λ (k : Bool). a ++ ended (left_text number counts k ∷ flat_map (holder_lines shared) row))
    (mark ∙ ap (marked kept) same)
    ∙ ap (λ (l : List Holding). a ++ ended (held_line l)) (is ∙ ap (held_on hs) same)
    ∙ ap (λ (o : Option Counts). a ++ ended (held_lines_if shared hs kept number o)) some
  where
    held_line : List Holding → List (List ℕ)
    held_line l = left_text number counts (marked kept number) ∷ flat_map (holder_lines shared) l

-- the knots come after the blocks, and the totals last
pub all_then : (u : AbstractState) (f : Findings) (held : List Holding) (shared blocks all made over : ℕ)
    (b c d : List ℕ) → shared ≡ u.extent.shape.shared_cells → blocks ≡ u.extent.shape.blocks
    → all ≡ u.extent.shape.blocks → made ≡ made_in u.history → over ≡ ended_in u.history → held ≡ held_at u
    → b ≡ [] ++ ended (listing shared held f.kept.items blocks (state_in u))
    → c ≡ b ++ ended (all_knots shared f held all all) → d ≡ c ++ ended (totals_text made over ∷ [])
    → d ≡ ended (all_lines f u)
all_then u f held shared blocks all made over b c d few many full one two is p q r =
    lines_then (both shared held blocks all) (totals_text made over ∷ []) [] c d
    (lines_then (listing shared held f.kept.items blocks (state_in u)) (all_knots shared f held all all) [] b c p q) r
    ∙ ap (λ (n : ℕ). text n held blocks all made over) few
    ∙ ap (λ (n : ℕ). text u.extent.shape.shared_cells held n all made over) many
    ∙ ap (λ (n : ℕ). text u.extent.shape.shared_cells held u.extent.shape.blocks n made over) full
    ∙ ap (λ (n : ℕ). text u.extent.shape.shared_cells held u.extent.shape.blocks u.extent.shape.blocks n over) one
    ∙ ap (λ (n : ℕ). text u.extent.shape.shared_cells held u.extent.shape.blocks u.extent.shape.blocks (made_in u.history) n) two
    ∙ ap (λ (l : List Holding). text u.extent.shape.shared_cells l u.extent.shape.blocks u.extent.shape.blocks
    (made_in u.history) (ended_in u.history)) is
  where
    both : ℕ → List Holding → ℕ → ℕ → List (List ℕ)
    both n l m k = listing n l f.kept.items m (state_in u) ++ all_knots n f l k k

    text : ℕ → List Holding → ℕ → ℕ → ℕ → ℕ → List ℕ
    text n l m k x y = ended (both n l m k ++ totals_text x y ∷ [])

-- what was found of what cells hold
pub found_at : (c : AbstractState) (f : Findings) (blocks : ℕ) (hs : List Holding)
    → blocks ≡ c.extent.shape.blocks → hs ≡ held_at c → AreFindings blocks hs f → AreFound c f
found_at c f blocks hs all is h =
    subst (λ (n : ℕ). AreFindings n (held_at c) f) all (subst (λ (l : List Holding). AreFindings blocks l f) is h)

-- just the blocks are marked that are kept
pub marks_kept : (c : AbstractState) (f : Findings) → AreFound c f → MarksKept c f.kept.items
marks_kept c f h = h.kept

-- what was answered may be forgotten
pub forgotten : (draws leaks : Bool) (fault : Fault) (bytes list text : List ℕ) → IsScriptRun (IsLeftText draws (Ok leaks)) bytes list text
    → IsScriptRun (IsLeftText draws (Err fault)) bytes list text
forgotten draws leaks fault bytes list text h = record {
  script = h.script;
  turns = h.turns;
  reads = h.reads;
  listed = h.listed;
  says = record { last = h.says.last; runs = h.says.runs; leaks = h.says.leaks; tells = h.says.tells; answers = tt };
}

-- a run's end, and what is reported of it
pub left_reported : (bytes list : List ℕ) (c : AbstractState) (draws leaks : Bool) (text : List ℕ) → IsRunEnd bytes list c → TellsOf c draws leaks text
    → IsScriptRun (IsLeftText draws (Ok leaks)) bytes list text
left_reported bytes list c draws leaks text e t = record {
  script = e.script;
  turns = e.turns;
  reads = e.reads;
  listed = e.listed;
  says = record { last = c; runs = e.runs; leaks = leaks; tells = t; answers = refl };
}
