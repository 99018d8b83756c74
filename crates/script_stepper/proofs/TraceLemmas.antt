-- Laws of turns.
use Rattle.std.proofs.Common.{◌≡◌, ℕ, zero, suc, ◌-◌, ◌<◌, ◌≤◌, ◌≢◌, List, [], ◌∷◌, ◌++◌, length}
use Rattle.std.proofs.Common.{replicate, Some, None, Option, sym, refl, ap, ◌∙◌, subst, inl, inr}
use Rattle.std.proofs.Common.{append_assoc, length-set, get_or-set_other}
use Rattle.script_stepper.proofs.Prelude.{AbstractState, ahead_of, cases_eq, cases_lt, Ending}
use Rattle.script_stepper.proofs.Prelude.{frame_of, FrameView, get_or_past, heard, Item, next}
use Rattle.script_stepper.proofs.Prelude.{next_of, nowhere, Over, Said, Slots, Task}
use Rattle.script_stepper.proofs.Plays.{items_told, play, play_from, plays, said, said_from}

pub plays-append : (xs ys : List ℕ) (c : AbstractState) → plays (xs ++ ys) c ≡ plays ys (plays xs c)
plays-append [] ys c = refl
plays-append (x ∷ xs) ys c = plays-append xs ys (play (x - 1) c)

pub told-append : (xs ys : List ℕ) (c : AbstractState) → items_told (xs ++ ys) c ≡ items_told xs c ++ items_told ys (plays xs c)
told-append [] ys c = refl
told-append (x ∷ xs) ys c =
    ap (λ (z : List Item). heard x (said (x - 1) c) ++ z) (told-append xs ys (play (x - 1) c))
    ∙ sym (append_assoc (heard x (said (x - 1) c)) (items_told xs (play (x - 1) c)) (items_told ys (plays xs (play (x - 1) c))))

-- ---- a thread at its end

none_todo_of : (slots : Slots) (es : List Ending) (ts : List Task) → next_of slots es ts ≡ None → ts ≡ []
none_todo_of slots [] [] e = refl
none_todo_of slots [] (t ∷ ts) e = absurd cc
none_todo_of slots (f ∷ es) ts e = absurd cc

pub none_todo : (w : FrameView) → next w ≡ None → w.todo ≡ []
none_todo w e = none_todo_of w.slots w.endings w.todo e

none_endings_of : (slots : Slots) (es : List Ending) (ts : List Task) → next_of slots es ts ≡ None → es ≡ []
none_endings_of slots [] ts e = refl
none_endings_of slots (f ∷ es) ts e = absurd cc

pub none_endings : (w : FrameView) → next w ≡ None → w.endings ≡ []
none_endings w e = none_endings_of w.slots w.endings w.todo e

pub play_done : (d : ℕ) (c : AbstractState) → next (frame_of c d) ≡ None → play d c ≡ c
play_done d c e = ap (play_from c d (frame_of c d)) e

pub said_done : (d : ℕ) (c : AbstractState) → next (frame_of c d) ≡ None → said d c ≡ None
said_done d c e = ap (said_from c d (frame_of c d)) e

pub idle_plays : (j thread : ℕ) (c : AbstractState) → next (frame_of c (thread - 1)) ≡ None → plays (replicate j thread) c ≡ c
idle_plays zero thread c e = refl
idle_plays (suc j) thread c e = ap (plays (replicate j thread)) (play_done (thread - 1) c e) ∙ idle_plays j thread c e

pub idle_told : (j thread : ℕ) (c : AbstractState) → next (frame_of c (thread - 1)) ≡ None → items_told (replicate j thread) c ≡ []
idle_told zero thread c e = refl
idle_told (suc j) thread c e =
    ap (λ (x : Option Said). heard thread x ++ items_told (replicate j thread) (play (thread - 1) c)) (said_done (thread - 1) c e)
    ∙ ap (items_told (replicate j thread)) (play_done (thread - 1) c e) ∙ idle_told j thread c e

-- ---- what a turn leaves alone

other_at : (c : AbstractState) (d e : ℕ) (w : FrameView) (o : Option Task) → e ≢ d → frame_of (play_from c d w o) e ≡ frame_of c e
other_at c d e w None ne = refl
other_at c d e w (Some t) ne = get_or-set_other c.frame_views d e _ nowhere ne

pub play_other : (d e : ℕ) (c : AbstractState) → e ≢ d → frame_of (play d c) e ≡ frame_of c e
play_other d e c ne = other_at c d e (frame_of c d) (next (frame_of c d)) ne

size_at : (c : AbstractState) (d : ℕ) (w : FrameView) (o : Option Task) → length (play_from c d w o).frame_views ≡ length c.frame_views
size_at c d w None = refl
size_at c d w (Some t) = length-set c.frame_views d _

pub play_size : (d : ℕ) (c : AbstractState) → length (play d c).frame_views ≡ length c.frame_views
play_size d c = size_at c d (frame_of c d) (next (frame_of c d))

extent_at : (c : AbstractState) (d : ℕ) (w : FrameView) (o : Option Task) → (play_from c d w o).extent ≡ c.extent
extent_at c d w None = refl
extent_at c d w (Some t) = refl

pub plays_size : (ts : List ℕ) (c : AbstractState) → length (plays ts c).frame_views ≡ length c.frame_views
plays_size [] c = refl
plays_size (t ∷ ts) c = plays_size ts (play (t - 1) c) ∙ play_size (t - 1) c

pub plays_extent : (ts : List ℕ) (c : AbstractState) → (plays ts c).extent ≡ c.extent
plays_extent [] c = refl
plays_extent (t ∷ ts) c = plays_extent ts (play (t - 1) c) ∙ extent_at c (t - 1) (frame_of c (t - 1)) (next (frame_of c (t - 1)))

-- past the threads there is nothing to do
pub done_past : (c : AbstractState) (d : ℕ) → length c.frame_views ≤ d → next (frame_of c d) ≡ None
done_past c d le = ap next (get_or_past c.frame_views d nowhere le)

-- a thread at its end stays there
play_over : (d e : ℕ) (c : AbstractState) → next (frame_of c e) ≡ None → next (frame_of (play d c) e) ≡ None
play_over d e c over =
    elim (cases_eq e d) [
      | inl same ↦ (let none : next (frame_of c d) ≡ None = subst (λ (i : ℕ). next (frame_of c i) ≡ None) same over in
          ap (λ (z : AbstractState). next (frame_of z e)) (play_done d c none) ∙ over)
      | inr ne ↦ ap next (play_other d e c ne) ∙ over
    ]

pub plays_over : (ts : List ℕ) (e : ℕ) (c : AbstractState) → next (frame_of c e) ≡ None → next (frame_of (plays ts c) e) ≡ None
plays_over [] e c over = over
plays_over (t ∷ ts) e c over = plays_over ts e (play (t - 1) c) (play_over (t - 1) e c over)

-- what a thread that is there has to do next
pub there : (c : AbstractState) (d : ℕ) (t : Task) → next (frame_of c d) ≡ Some t → d < length c.frame_views
there c d t e =
    elim (cases_lt d (length c.frame_views)) [
      | inl lt ↦ lt
      | inr le ↦ absurd (let n : next (frame_of c d) ≡ None = ap next (get_or_past c.frame_views d nowhere le) in some_none t (sym e ∙ n))
    ]
  where
    some_none : (t : Task) → Some t ≡ None → ⊥
    some_none t q = cc

-- a thread with nothing left to do is at its end
pub over_of : (slots : Slots) (es : List Ending) (ts : List Task) → next_of slots es ts ≡ None → ahead_of slots es ts ≡ Over
over_of slots [] [] e = refl
over_of slots [] (t ∷ ts) e = absurd cc
over_of slots (f ∷ es) ts e = absurd cc
