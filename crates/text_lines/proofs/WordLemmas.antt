-- Spaces at a line's end.
use Rattle.std.proofs.Common.{◌≡◌, ℕ, ◌+◌, ◌-◌, ◌≤◌, true, false, List, [], ◌∷◌, ◌++◌, length}
use Rattle.std.proofs.Common.{get_or, take, refl, sym, ap, ◌∙◌, arith}
use Rattle.std.proofs.Math.Seq.{take-length}
use Rattle.std.proofs.lemmas.List.{take_more}
use Rattle.text_lines.specs.Words.{before_left, is_space, without_last_spaces}

pub space_last : (front : List ℕ) (x : ℕ) → is_space x ≡ true
    → without_last_spaces (front ++ x ∷ []) ≡ without_last_spaces front
space_last [] x is = rw is refl
space_last (b ∷ bs) x is = ap (before_left b) (space_last bs x is)

pub word_last : (front : List ℕ) (x : ℕ) → is_space x ≡ false
    → without_last_spaces (front ++ x ∷ []) ≡ front ++ x ∷ []
word_last [] x is = rw is refl
word_last (b ∷ []) x is = ap (before_left b) (word_last [] x is)
word_last (b ∷ (y ∷ ys)) x is = ap (before_left b) (word_last (y ∷ ys) x is)

-- a list is all but its last element, and that one
without_last : (l : List ℕ) → 1 ≤ length l
    → l ≡ take (length l - 1) l ++ get_or l (length l - 1) 0 ∷ []
without_last l some =
    let one : (length l - 1) + 1 ≡ length l = omega arith in
    sym (take-length l) ∙ ap (λ (n : ℕ). take n l) (sym one)
    ∙ take_more l (length l - 1) 0 (omega arith)

-- a space that is last goes
pub space_dropped : (l : List ℕ) → 1 ≤ length l → is_space (get_or l (length l - 1) 0) ≡ true
    → without_last_spaces l ≡ without_last_spaces (take (length l - 1) l)
space_dropped l some is =
    ap without_last_spaces (without_last l some)
    ∙ space_last (take (length l - 1) l) (get_or l (length l - 1) 0) is

-- and where none is last, all stays
pub word_kept : (l : List ℕ) → 1 ≤ length l → is_space (get_or l (length l - 1) 0) ≡ false
    → without_last_spaces l ≡ l
word_kept l some is =
    let all = without_last l some in
    ap without_last_spaces all ∙ word_last (take (length l - 1) l) (get_or l (length l - 1) 0) is
    ∙ sym all
