-- Each worker has room for all that its thread says and adds.
use Rattle.std.proofs.Common.{◌≡◌, ℕ, ◌+◌, ◌≤◌, Bool, true, false, ◌⊎◌, List, [], ◌∷◌, ◌++◌, map}
use Rattle.std.proofs.Common.{length, refl, ap, ◌∙◌, subst, inl, inr, arith}
use Rattle.script_runner.proofs.Prelude.{AllByRecursion, AllMarked, AllZip, asked_by_all, asked_in}
use Rattle.script_runner.proofs.Prelude.{Entry, field_0, HasAdded, HasNoted, IsInterleaved}
use Rattle.script_runner.proofs.Prelude.{IsReadyFor, IsTooMuch, Marked, Notes, Opening, Part, Said}
use Rattle.script_runner.proofs.Prelude.{tasks_from, told_in, Totals, Vec, Worker}
use Rattle.script_runner.proofs.Assigning.{AllNote}
use Rattle.script_runner.proofs.Bounding.{AllFew, all_asked, interleaved_few, interleaved_told}
use Rattle.script_runner.proofs.Summing.{marked_ended, marked_made}
use Rattle.script_runner.proofs.TasksAsk.{tasks_ask}

clash : (b : Bool) → b ≡ true → b ≡ false → ⊥
clash true a b = cc
clash false a b = cc

-- a thread of a script whose threads ask for so many objects says no more than this
pub record SaysFew (objects : ℕ) (p : Part) (l : List Said) : Type 0 where
  pub lines : length l ≤ length (tasks_from 1 p.calls (length p.kinds)) + objects
  pub tells : told_in l ≤ objects
  pub asks : asked_in (tasks_from 1 p.calls (length p.kinds)) ≤ objects

all_same : (ps : List Part) → all_asked ps ≡ asked_by_all ps
all_same [] = refl
all_same (p ∷ ps) = let here = tasks_ask 1 p.calls (length p.kinds) in let ih = all_same ps in omega (arith, here, ih)

say_few : (objects : ℕ) (ps : List Part) (ls : List (List Said)) → asked_by_all ps ≤ objects → AllFew objects ps ls
    → AllByRecursion (λ (l : List Said). told_in l ≤ objects) ls → AllZip (SaysFew objects) ps ls
say_few objects [] [] asked few told = tt
say_few objects (p ∷ ps) (l ∷ ls) asked few told =
    let asks = tasks_ask 1 p.calls (length p.kinds) in (
      record { lines = few.0; tells = told.0; asks = omega (arith, asks, asked) },
      say_few objects ps ls (omega (arith, asked)) few.1 told.1,
    )
say_few objects [] (l ∷ ls) asked few told = absurd few
say_few objects (p ∷ ps) [] asked few told = absurd few

-- no more objects end than are made, and no more are made than are asked for
pub all_say_few : (z : Opening) (h : List (Entry ℕ)) (ps : List Part) (ls : List (List Said)) → IsInterleaved field_0 z h ps ls
    → AllZip (SaysFew (asked_by_all ps)) ps ls
all_say_few z h ps ls woven =
    say_few (asked_by_all ps) ps ls (omega arith)
    (subst (λ k. AllFew k ps ls) (all_same ps) (interleaved_few field_0 z h ps ls woven))
    (subst (λ k. AllByRecursion (λ (l : List Said). told_in l ≤ k) ls) (all_same ps) (interleaved_told field_0 z h ps ls woven))

module _ {G : Type 0} where
  -- a worker with room for all that its thread says noted it: its log isn't full
  noted : (objects : ℕ) (p : Part) (w x : Worker G) (l : List Said) → objects ≤ 65536 → IsReadyFor objects p w
      → Notes w.log x.log (asked_in w.tasks.items) l → length l ≤ length (tasks_from 1 p.calls (length p.kinds)) + objects → told_in l ≤ objects
      → asked_in w.tasks.items ≤ objects → HasNoted w.log x.log (asked_in w.tasks.items) l
  noted objects p w x l bound is notes few told asked = go x.log.full refl
    where
      no_room : (w.log.full ≡ true) ⊎ IsTooMuch w.log (asked_in w.tasks.items) l → ⊥
      no_room (inl full) = let on = is.on in clash w.log.full full on
      no_room (inr (inl much)) =
          let none = ap length is.said in
          let memory = is.memory in
          let long = ap length is.tasks.1 in
          let f = few in let m = much in omega (arith, none, memory, long, f, m)
      no_room (inr (inr much)) =
          let made = ap {B = ℕ} (λ (t : Totals). t.made) is.own in
          let ended = ap {B = ℕ} (λ (t : Totals). t.ended) is.own in
          let numbers = w.log.numbers in
          let b = bound in let t = told in let a = asked in let m = much in omega (arith, made, ended, numbers, b, t, a, m)

      go : (f : Bool) → x.log.full ≡ f → HasNoted w.log x.log (asked_in w.tasks.items) l
      go true e = absurd (no_room (notes.full e))
      go false e = notes.kept e

  -- what it added to its share is what its thread made and ended by the history
  added : (z : Opening) (h : List (Entry ℕ)) (n objects : ℕ) (p : Part) (w x : Worker G) (l : List Said) → IsReadyFor objects p w
      → HasNoted w.log x.log (asked_in w.tasks.items) l → Marked field_0 z h n p l → HasAdded h n x.log.share
  added z h n objects p w x l is has marked =
      let a = marked_made field_0 z h n p l marked in
      let b = marked_ended field_0 z h n p l marked in
      let tasks : asked_in w.tasks.items ≡ asked_in (tasks_from 1 p.calls (length p.kinds)) = ap asked_in is.tasks.1 in
      let no_made = ap {B = ℕ} (λ (t : Totals). t.made) is.own in
      let no_ended = ap {B = ℕ} (λ (t : Totals). t.ended) is.own in
      let made = has.made in
      let ended = has.ended in
      (omega (arith, a, tasks, no_made, made), omega (arith, b, no_ended, ended))

  -- of all of them
  pub record HaveAdded (h : List (Entry ℕ)) (ns : List ℕ) (xs : List (Worker G)) (ls : List (List Said)) : Type 0 where
    pub said : map (λ (v : Vec Said). v.items) (map (λ (w : Worker G). w.log.said) xs) ≡ ls
    pub added : AllZip (HasAdded h) ns (map (λ (w : Worker G). w.log.share) xs)

  module _ (z : Opening) (h : List (Entry ℕ)) (objects : ℕ) (bound : objects ≤ 65536) where
    pub all_added : (ns : List ℕ) (ps : List Part) (ws xs : List (Worker G)) (ls : List (List Said)) → AllZip (IsReadyFor objects) ps ws
        → AllNote ws xs ls → AllMarked field_0 z h ns ps ls → AllZip (SaysFew objects) ps ls → HaveAdded h ns xs ls
    all_added [] [] [] [] [] ready note marked few = record { said = refl; added = tt }
    all_added (n ∷ ns) (p ∷ ps) (w ∷ ws) (x ∷ xs) (l ∷ ls) ready note marked few =
        let r = ready.0 in
        let asked = ap asked_in r.tasks.1 in
        let most = few.0.asks in
        let has = noted objects p w x l bound r note.0 few.0.lines few.0.tells (omega (arith, asked, most)) in
        let ih = all_added ns ps ws xs ls ready.1 note.1 marked.1 few.1 in
        record {
          said = (λ j. (has.said ∙ ap (λ k. k ++ l) r.said) j ∷ ih.said j);
          added = (added z h n objects p w x l r has marked.0, ih.added);
        }
    all_added ns [] (w ∷ ws) xs ls ready note marked few = absurd ready
    all_added ns (p ∷ ps) [] xs ls ready note marked few = absurd ready
    all_added ns [] [] (x ∷ xs) ls ready note marked few = absurd note
    all_added ns [] [] [] (l ∷ ls) ready note marked few = absurd note
    all_added (n ∷ ns) [] [] [] [] ready note marked few = absurd marked
    all_added ns (p ∷ ps) (w ∷ ws) [] ls ready note marked few = absurd note
    all_added ns (p ∷ ps) (w ∷ ws) (x ∷ xs) [] ready note marked few = absurd note
    all_added [] (p ∷ ps) (w ∷ ws) (x ∷ xs) (l ∷ ls) ready note marked few = absurd marked
