-- How many lines the threads of a team have: each has one at most for each of its tasks, and for each object that is asked for.
use Rattle.std.proofs.Common.{ℕ, ◌+◌, ◌≤◌, ◌⊎◌, List, [], ◌∷◌, length, arith}
use Rattle.script_runner.proofs.Prelude.{AllByRecursion, AllMarked, AreRising, asked_in}
use Rattle.script_runner.proofs.Prelude.{count_ended_in, Entry, Form, Has, IsInterleaved, IsLegal}
use Rattle.script_runner.proofs.Prelude.{IsSplitOrJoin, Opening, Part, recursion_from_All, Said}
use Rattle.script_runner.proofs.Prelude.{told_in}
use Rattle.script_runner.proofs.Speaking.{marked_few, tasks_of}
use Rattle.script_runner.proofs.Ended.{by_few, ended_few}
use Rattle.script_runner.proofs.Summing.{all_made, marked_ended, marked_made, sum_made}

-- how many objects these threads ask for
abbrev pub all_asked : List Part → ℕ
all_asked [] = 0
all_asked (p ∷ ps) = asked_in (tasks_of p) + all_asked ps

-- each has a line at most for each of its tasks, and k more
abbrev pub AllFew : ℕ → List Part → List (List Said) → Type 0
AllFew k [] [] = Unit {0}
AllFew k (p ∷ ps) (l ∷ ls) = (length l ≤ length (tasks_of p) + k) × AllFew k ps ls
AllFew k _ _ = ⊥

module _ {V : Type 0} (worth : Form → V) (z : Opening) (h : List (Entry V)) where
  -- the threads make no more than they ask for
  made_as_asked : (ns : List ℕ) (ps : List Part) (ls : List (List Said)) → AllMarked worth z h ns ps ls → all_made ns h ≤ all_asked ps
  made_as_asked [] [] [] marked = omega arith
  made_as_asked (n ∷ ns) (p ∷ ps) (l ∷ ls) marked =
      let a = marked_made worth z h n p l marked.0 in
      let ih = made_as_asked ns ps ls marked.1 in omega (arith, a, ih)
  made_as_asked [] [] (l ∷ ls) marked = absurd marked
  made_as_asked [] (p ∷ ps) ls marked = absurd marked
  made_as_asked (n ∷ ns) [] ls marked = absurd marked
  made_as_asked (n ∷ ns) (p ∷ ps) [] marked = absurd marked

  -- and tell of no more than end
  told_each : (k : ℕ) (ns : List ℕ) (ps : List Part) (ls : List (List Said)) → count_ended_in h ≤ k → AllMarked worth z h ns ps ls
      → AllByRecursion (λ (l : List Said). told_in l ≤ k) ls
  told_each k [] [] [] ended marked = tt
  told_each k (n ∷ ns) (p ∷ ps) (l ∷ ls) ended marked =
      let a = marked_ended worth z h n p l marked.0 in
      let b = by_few n h in (omega (arith, a, b, ended), told_each k ns ps ls ended marked.1)
  told_each k [] [] (l ∷ ls) ended marked = absurd marked
  told_each k [] (p ∷ ps) ls ended marked = absurd marked
  told_each k (n ∷ ns) [] ls ended marked = absurd marked
  told_each k (n ∷ ns) (p ∷ ps) [] ended marked = absurd marked

  few_each : (k : ℕ) (ns : List ℕ) (ps : List Part) (ls : List (List Said)) → AllByRecursion (λ (l : List Said). told_in l ≤ k) ls
      → AllMarked worth z h ns ps ls → AllFew k ps ls
  few_each k [] [] [] told marked = tt
  few_each k (n ∷ ns) (p ∷ ps) (l ∷ ls) told marked =
      let a = marked_few worth z h n p l marked.0 in
      let b = told.0 in (omega (arith, a, b), few_each k ns ps ls told.1 marked.1)
  few_each k [] [] (l ∷ ls) told marked = absurd marked
  few_each k [] (p ∷ ps) ls told marked = absurd marked
  few_each k (n ∷ ns) [] ls told marked = absurd marked
  few_each k (n ∷ ns) (p ∷ ps) [] told marked = absurd marked

  -- of a team's threads, whose makes are all that the history has
  module _ (ns : List ℕ) (ps : List Part) (ls : List (List Said)) (legal : IsLegal z h) (rising : AreRising ns)
      (marked : AllMarked worth z h ns ps ls) (others : AllByRecursion (λ (e : Entry V). Has e.desk ns ⊎ IsSplitOrJoin e.event) h) where
    pub ended_as_asked : count_ended_in h ≤ all_asked ps
    ended_as_asked =
        let a = ended_few z h legal in
        let b = sum_made ns h rising others in
        let c = made_as_asked ns ps ls marked in omega (arith, a, b, c)

    pub all_told : AllByRecursion (λ (l : List Said). told_in l ≤ all_asked ps) ls
    all_told = told_each (all_asked ps) ns ps ls ended_as_asked marked

    pub all_few : AllFew (all_asked ps) ps ls
    all_few = few_each (all_asked ps) ns ps ls all_told marked

  module _ (ps : List Part) (ls : List (List Said)) (woven : IsInterleaved worth z h ps ls) where
    each_here : AllByRecursion (λ (e : Entry V). Has e.desk woven.names ⊎ IsSplitOrJoin e.event) h
    each_here = recursion_from_All (λ (e : Entry V). Has e.desk woven.names ⊎ IsSplitOrJoin e.event) h woven.others

    pub interleaved_told : AllByRecursion (λ (l : List Said). told_in l ≤ all_asked ps) ls
    interleaved_told = all_told woven.names ps ls woven.legal woven.rising woven.each each_here

    pub interleaved_few : AllFew (all_asked ps) ps ls
    interleaved_few = all_few woven.names ps ls woven.legal woven.rising woven.each each_here
