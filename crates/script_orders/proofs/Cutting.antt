-- The lines of a text that is cut at its first line feed.
use Rattle.std.proofs.Common.{◌≡◌, ℕ, Bool, true, false, cond, filter, List, [], ◌∷◌, ◌++◌, refl, sym, ap, ◌∙◌}
use Rattle.std.proofs.Common.{append_assoc}
use Rattle.std.proofs.Common.{◌<◌, ◌≢◌, Contains, arith, inl, inr, subst}
use Rattle.std.proofs.lemmas.List.{append-nil}
use Rattle.std.proofs.lemmas.List.Elements.{Contains-append_cases, Contains-append_left, Contains-append_right}
use Rattle.std.proofs.lemmas.List.Elements.{Contains-push, Contains-push_cases}
use Rattle.text_lines.specs.Lines.{HasNoFeed, IsLineCut, ended}
use Rattle.script_orders.specs.Sorting.{lines_after, lines_in}

-- a line is done where its feed comes
after_line : (line front rest : List ℕ) → HasNoFeed line
    → lines_after front (line ++ 10 ∷ rest) ≡ (front ++ line) ∷ lines_in rest
after_line [] front rest clean = ap (λ (l : List ℕ). l ∷ lines_in rest) (sym (append-nil front))
after_line (b ∷ bs) front rest clean =
    ap (λ (t : Bool). cond t (front ∷ lines_in (bs ++ 10 ∷ rest)) (lines_after (front ++ b ∷ []) (bs ++ 10 ∷ rest)))
    clean.0
    ∙ after_line bs (front ++ b ∷ []) rest clean.1
    ∙ ap (λ (l : List ℕ). l ∷ lines_in rest) (append_assoc front (b ∷ []) bs)

no_line : (bytes front : List ℕ) → HasNoFeed bytes → lines_after front bytes ≡ []
no_line [] front clean = refl
no_line (b ∷ bs) front clean =
    ap (λ (t : Bool). cond t (front ∷ lines_in bs) (lines_after (front ++ b ∷ []) bs)) clean.0
    ∙ no_line bs (front ++ b ∷ []) clean.1

pub lines_cut : (bytes line rest : List ℕ) → IsLineCut bytes line rest → lines_in bytes ≡ line ∷ lines_in rest
lines_cut bytes line rest cut = ap lines_in cut.text ∙ after_line line [] rest cut.clean

pub lines_none : (bytes : List ℕ) → HasNoFeed bytes → lines_in bytes ≡ []
lines_none bytes clean = no_line bytes [] clean

-- the lines of a text that pass a test, each with its line feed
abbrev pub kept : (List ℕ → Bool) → List ℕ → List ℕ
kept test text = ended (filter test (lines_in text))

-- a line was put that passes it, and the rest is to come
put_line : (test : List ℕ → Bool) (bytes line rest before now all : List ℕ) → IsLineCut bytes line rest
    → test line ≡ true → now ≡ before ++ ended (line ∷ []) → before ++ kept test bytes ≡ all
    → now ++ kept test rest ≡ all
put_line test bytes line rest before now all cut passes is h =
    ap (λ (t : List ℕ). t ++ kept test rest) is
    ∙ append_assoc before (ended (line ∷ [])) (kept test rest)
    ∙ ap (λ (t : List ℕ). before ++ t) (append_assoc line (10 ∷ []) (kept test rest))
    ∙ ap (λ (t : List ℕ). before ++ t) (sym (one_kept ∙ ap (λ (t : Bool). ended (cond t (line ∷ others) others)) passes))
    ∙ h
  where
    others : List (List ℕ)
    others = filter test (lines_in rest)

    one_kept : kept test bytes ≡ ended (cond (test line) (line ∷ others) others)
    one_kept = ap (λ (ls : List (List ℕ)). ended (filter test ls)) (lines_cut bytes line rest cut)

-- one was passed over that doesn't
pass_line : (test : List ℕ → Bool) (bytes line rest before all : List ℕ) → IsLineCut bytes line rest
    → test line ≡ false → before ++ kept test bytes ≡ all → before ++ kept test rest ≡ all
pass_line test bytes line rest before all cut passes h =
    ap (λ (t : List ℕ). before ++ t)
    (sym (ap (λ (ls : List (List ℕ)). ended (filter test ls)) (lines_cut bytes line rest cut)
    ∙ ap (λ (t : Bool). ended (cond t (line ∷ filter test (lines_in rest)) (filter test (lines_in rest)))) passes))
    ∙ h

-- a line was put, if it passes the test, and the rest is to come
pub next_line : (test : List ℕ → Bool) (takes : Bool) (bytes line rest before now all : List ℕ)
    → IsLineCut bytes line rest → takes ≡ test line
    → now ≡ before ++ ended (cond takes (line ∷ []) []) → before ++ kept test bytes ≡ all
    → now ++ kept test rest ≡ all
next_line test true bytes line rest before now all cut is put h =
    put_line test bytes line rest before now all cut (sym is) put h
next_line test false bytes line rest before now all cut is put h =
    ap (λ (t : List ℕ). t ++ kept test rest) (put ∙ append-nil before)
    ∙ pass_line test bytes line rest before all cut (sym is) h

-- no line is left
pub put_all : (test : List ℕ → Bool) (bytes before all : List ℕ) → HasNoFeed bytes
    → before ++ kept test bytes ≡ all → before ≡ all
put_all test bytes before all clean h =
    sym (append-nil before)
    ∙ ap (λ (ls : List (List ℕ)). before ++ ended (filter test ls)) (sym (lines_none bytes clean)) ∙ h

-- ---- whether a line is among them

has_lines : (bytes line rest wanted : List ℕ) → IsLineCut bytes line rest → Contains (line ∷ lines_in rest) wanted
    → Contains (lines_in bytes) wanted
has_lines bytes line rest wanted cut h =
    subst (λ (ls : List (List ℕ)). Contains ls wanted) (sym (lines_cut bytes line rest cut)) h

pub line_before : (bytes line rest wanted : List ℕ) → IsLineCut bytes line rest → Contains (lines_in rest) wanted
    → Contains (lines_in bytes) wanted
line_before bytes line rest wanted cut h =
    has_lines bytes line rest wanted cut (Contains-append_right (line ∷ []) (lines_in rest) wanted h)

pub first_line : (bytes line rest wanted : List ℕ) → IsLineCut bytes line rest → line ≡ wanted
    → Contains (lines_in bytes) wanted
first_line bytes line rest wanted cut same =
    has_lines bytes line rest wanted cut
    (Contains-append_left (line ∷ []) (lines_in rest) wanted
    (subst (λ (l : List ℕ). Contains (line ∷ []) l) same (Contains-push [] line)))

none_there : (wanted : List ℕ) → Contains {X = List ℕ} [] wanted → ⊥
none_there wanted h = let lt : h.0 < 0 = h.1 in omega (arith, lt)

pub later_line : (bytes line rest wanted : List ℕ) → IsLineCut bytes line rest → line ≢ wanted
    → Contains (lines_in bytes) wanted → Contains (lines_in rest) wanted
later_line bytes line rest wanted cut other h =
    elim (Contains-append_cases (line ∷ []) (lines_in rest) wanted
    (subst (λ (ls : List (List ℕ)). Contains ls wanted) (lines_cut bytes line rest cut) h)) [
      | inl one ↦ elim (Contains-push_cases [] line wanted one) [
        | inl none ↦ absurd (none_there wanted none)
        | inr same ↦ absurd (other same)
      ]
      | inr later ↦ later
    ]

pub line_nowhere : (bytes wanted : List ℕ) → HasNoFeed bytes → Contains (lines_in bytes) wanted → ⊥
line_nowhere bytes wanted clean h =
    none_there wanted (subst (λ (ls : List (List ℕ)). Contains ls wanted) (lines_none bytes clean) h)
