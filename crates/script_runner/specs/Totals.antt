-- How many objects a history makes and how many end in it, all together and under a name; and what a thread's tasks and
-- lines say of that. All of it is own.
use Rattle.std.specs.Prelude.{ℕ, ◌+◌, ◌==◌, cond, is_some, List, [], ◌∷◌, Option, Some}
use Rattle.control_word.specs.declared.model.event.Entry.{Entry}
use Rattle.control_word.specs.declared.model.event.Event.{Event}
use Rattle.control_word.specs.declared.model.event.Event.TheVariants.{Leave, Make}
use Rattle.control_word.specs.declared.refusal.Refusal.TheVariants.{Full}
use Rattle.step_threads.specs.declared.programs.act.Act.{Act}
use Rattle.step_threads.specs.declared.programs.act.Act.TheVariants as act
use Rattle.step_threads.specs.declared.programs.act.Task.{Task}
use Rattle.step_threads.specs.declared.said.Answer.{Answer}
use Rattle.step_threads.specs.declared.said.Answer.TheVariants.{Refused}
use Rattle.step_threads.specs.declared.said.Said.{Said}

module _ {V : Type 0} where
  -- an object is made; and the last owner of one leaves
  abbrev pub makes : Event V → ℕ
  makes (Make b enabled null fields v) = 1
  makes _ = 0

  abbrev pub ends : Event V → ℕ
  ends (Leave h last) = cond last 1 0
  ends _ = 0

  -- in a history
  abbrev pub count_made_in : List (Entry V) → ℕ
  count_made_in [] = 0
  count_made_in (e ∷ h) = makes e.event + count_made_in h

  abbrev pub count_ended_in : List (Entry V) → ℕ
  count_ended_in [] = 0
  count_ended_in (e ∷ h) = ends e.event + count_ended_in h

  -- and in what it has under a name
  abbrev pub made_by : ℕ → List (Entry V) → ℕ
  made_by n [] = 0
  made_by n (e ∷ h) = cond (e.desk == n) (makes e.event) 0 + made_by n h

  abbrev pub count_ended_by : ℕ → List (Entry V) → ℕ
  count_ended_by n [] = 0
  count_ended_by n (e ∷ h) = cond (e.desk == n) (ends e.event) 0 + count_ended_by n h

-- how many objects tasks ask for
abbrev pub objects_asked : Act → ℕ
objects_asked (act.Make form) = 1
objects_asked _ = 0

abbrev pub asked_in : List Task → ℕ
asked_in [] = 0
asked_in (t ∷ ts) = objects_asked t.act + asked_in ts

-- of how many lines say that there was no block for one, and how many tell of one that ends
abbrev pub refuses : Option Answer → ℕ
refuses (Some (Refused Full)) = 1
refuses _ = 0

abbrev pub refused_in : List Said → ℕ
refused_in [] = 0
refused_in (x ∷ xs) = refuses x.answer + refused_in xs

abbrev pub told_in : List Said → ℕ
told_in [] = 0
told_in (x ∷ xs) = cond (is_some x.ended) 1 0 + told_in xs
