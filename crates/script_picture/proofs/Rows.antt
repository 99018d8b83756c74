-- Rows of acts, one more each time.
use Rattle.std.proofs.Common.{◌≡◌, ℕ, ◌+◌, ◌-◌, ◌<◌, ◌≤◌, ◌++◌, ◌&&◌, Bool, true, false, cond, List}
use Rattle.std.proofs.Common.{[], ◌∷◌, length, refl, sym, ap, subst, ◌∙◌, arith, append_assoc}
use Rattle.std.proofs.Common.{length-append, take}
use Rattle.std.specs.Prelude.{Option, Some, None, nat_le, slice_index}
use Rattle.std.specs.String.Boundary.{IsSplitPoint}
use Rattle.std.proofs.Math.Seq.{get_or-append_seam, take-append_seam}
use Rattle.std.proofs.lemmas.Bool.{leb-true}
use Rattle.std.proofs.lemmas.List.{append-nil}
use Rattle.run_picture.specs.declared.picture.Row.{Row}
use Rattle.step_threads.specs.declared.said.Answer.{Answer}
use Rattle.step_threads.specs.declared.said.Said.{Said}
use Rattle.step_table.specs.declared.memory.ended.Ended.{Ended}
use Rattle.script_text.specs.Grammar.{ended}
use Rattle.script_stepper.specs.Lines.{said_lines}
use Rattle.script_picture.specs.declared.part.Part.{Part}
use Rattle.script_picture.specs.Acts.{AreRows, IsRow, Numbered, Seen, acts_in}
use Rattle.script_picture.specs.Parts.{is_in}
use Rattle.script_picture.specs.Recording.{IsRecorded}

abbrev one_if : Part → ℕ → Seen → List Numbered
one_if part n x = cond (is_in part n) ((n, x) ∷ []) []

-- one act more
acts_more : (part : Part) (n : ℕ) (items : List Seen) (x : Seen)
    → acts_in part n (items ++ x ∷ []) ≡ acts_in part n items ++ one_if part (n + length items) x
acts_more part n [] x = let e : n ≡ n + 0 = omega arith in
    append-nil (one_if part n x) ∙ ap (λ (k : ℕ). one_if part k x) e
acts_more part n (y ∷ ys) x =
    let e : (n + 1) + length ys ≡ n + length (y ∷ ys) = omega arith in
    ap (λ (l : List Numbered). one_if part n y ++ l)
    (acts_more part (n + 1) ys x ∙ ap (λ (k : ℕ). acts_in part (n + 1) ys ++ one_if part k x) e)
    ∙ sym (append_assoc (one_if part n y) (acts_in part (n + 1) ys)
    (one_if part (n + length (y ∷ ys)) x))

rows_more : (acts : List Numbered) (rs : List Row) (a : Numbered) (r : Row) → AreRows acts rs
    → IsRow a r → AreRows (acts ++ a ∷ []) (rs ++ r ∷ [])
rows_more [] [] a r all one = (one, tt)
rows_more [] (s ∷ rs) a r all one = absurd all
rows_more (b ∷ acts) [] a r all one = absurd all
rows_more (b ∷ acts) (s ∷ rs) a r all one = (all.0, rows_more acts rs a r all.1 one)

-- an act that isn't one of the part
left_out : (part : Part) (items : List Seen) (x : Seen) (list : List Row)
    → is_in part (1 + length items) ≡ false → AreRows (acts_in part 1 items) list
    → AreRows (acts_in part 1 (items ++ x ∷ [])) list
left_out part items x list out rows =
    subst (λ (acts : List Numbered). AreRows acts list)
    (sym (acts_more part 1 items x
    ∙ ap (λ (b : Bool). acts_in part 1 items ++ cond b ((1 + length items, x) ∷ []) []) out
    ∙ append-nil (acts_in part 1 items))) rows

and_right : (a b : Bool) → b ≡ false → (a && b) ≡ false
and_right true b e = e
and_right false b e = refl

past : (part : Part) (n : ℕ) → part.last < n → is_in part n ≡ false
past part n lt = and_right (nat_le part.first n) (nat_le n part.last) (no (nat_le n part.last) refl)
  where
    no : (b : Bool) → nat_le n part.last ≡ b → b ≡ false
    no false e = refl
    no true e = absurd (let le = leb-true n part.last e in omega (arith, le, lt))

-- where the part is past, acts aren't counted
pub behind : (part : Part) (acts : ℕ) (list : List Row) (items : List Seen) (x : Seen)
    → part.last < acts → IsRecorded part acts list items
    → IsRecorded part acts list (items ++ x ∷ [])
behind part acts list items x lt h =
    let n = length-append items (x ∷ []) in
    let few = h.few in
    let most = h.most in
    record {
      few = few;
      most = omega (arith, n, most);
      all = λ le. absurd (omega (arith, le, lt));
      rows =
          left_out part items x list (past part (1 + length items) (omega (arith, lt, most)))
          h.rows;
    }

pub outside : (part : Part) (acts : ℕ) (list : List Row) (items : List Seen) (x : Seen)
    → acts ≤ part.last → is_in part (acts + 1) ≡ false
    → IsRecorded part acts list items → IsRecorded part (acts + 1) list (items ++ x ∷ [])
outside part acts list items x le out h =
    let n = length-append items (x ∷ []) in
    let all = h.all le in
    let here : acts + 1 ≡ 1 + length items = omega (arith, all) in
    record {
      few = omega (arith, le);
      most = omega (arith, n, all);
      all = λ more. omega (arith, n, all);
      rows = left_out part items x list (ap (is_in part) (sym here) ∙ out) h.rows;
    }

pub inside : (part : Part) (acts : ℕ) (list : List Row) (items : List Seen) (x : Seen) (row : Row)
    → acts ≤ part.last
    → is_in part (acts + 1) ≡ true → IsRow (acts + 1, x) row → IsRecorded part acts list items
    → IsRecorded part (acts + 1) (list ++ row ∷ []) (items ++ x ∷ [])
inside part acts list items x row le is one h =
    let n = length-append items (x ∷ []) in
    let all = h.all le in
    let here : acts + 1 ≡ 1 + length items = omega (arith, all) in
    let now : acts_in part 1 (items ++ x ∷ []) ≡ acts_in part 1 items ++ (acts + 1, x) ∷ [] =
    acts_more part 1 items x
    ∙ ap (λ (k : ℕ). acts_in part 1 items ++ one_if part k x) (sym here)
    ∙ ap (λ (b : Bool). acts_in part 1 items ++ cond b ((acts + 1, x) ∷ []) []) is in
    record {
      few = omega (arith, le);
      most = omega (arith, n, all);
      all = λ more. omega (arith, n, all);
      rows =
          subst (λ (acts : List Numbered). AreRows acts (list ++ row ∷ [])) (sym now)
          (rows_more (acts_in part 1 items) list (acts + 1, x) row h.rows one);
    }

-- ---- lines

-- a line without its end
pub cut_line : (bytes line : List ℕ) (n : ℕ) → bytes ≡ line ++ 10 ∷ [] → n ≡ length bytes - 1
    → IsSplitPoint bytes n × (take n bytes ≡ line)
cut_line bytes line n is at =
    let size : length bytes ≡ length line + 1 =
    ap (λ (l : List ℕ). length l) is ∙ length-append line (10 ∷ []) in
    let here : n ≡ length line = omega (arith, size, at) in
    let byte : slice_index bytes n ≡ 10 =
    ap (λ (l : List ℕ). slice_index l n) is ∙ ap (slice_index (line ++ 10 ∷ [])) here
    ∙ get_or-append_seam line 10 [] 0 in (
      (omega (arith, here, size), λ above lt high. absurd (omega (arith, byte, high))),
      ap (take n) is ∙ ap (λ (k : ℕ). take k (line ++ 10 ∷ [])) here
          ∙ take-append_seam line (10 ∷ []),
    )

-- the only line, if there is one
pub sole : (lines : List (List ℕ)) → length lines ≤ 1 → 0 < length (ended lines)
    → (line : List ℕ) × (lines ≡ line ∷ [])
sole [] few some = absurd (omega (arith, some))
sole (line ∷ []) few some = (line, refl)
sole (line ∷ next ∷ lines) few some = absurd (omega (arith, few))

pub no_line : (lines : List (List ℕ)) → length (ended lines) ≡ 0 → lines ≡ []
no_line [] none = refl
no_line (line ∷ lines) none =
    absurd (let n = length-append line (10 ∷ ended lines) in omega (arith, n, none))

-- the line that an act said, without its end
pub line_added : (lines : List (List ℕ)) (bytes : List ℕ) (n : ℕ) → length lines ≤ 1
    → bytes ≡ ended lines → 0 < length bytes
    → n ≡ length bytes - 1 → IsSplitPoint bytes n × (take n bytes ∷ [] ≡ lines)
line_added lines bytes n few is some' at =
    let size : length bytes ≡ length (ended lines) = ap (λ (l : List ℕ). length l) is in
    let s = sole lines few (omega (arith, size, some')) in
    let cut = cut_line bytes s.0 n (is ∙ ap ended s.1) at in
    (cut.0, ap (λ (l : List ℕ). l ∷ []) cut.1 ∙ sym s.1)

pub none_added : (lines : List (List ℕ)) (bytes : List ℕ) → bytes ≡ ended lines → length bytes ≡ 0
    → lines ≡ []
none_added lines bytes is none =
    no_line lines (let size : length bytes ≡ length (ended lines) =
    ap (λ (l : List ℕ). length l) is in omega (arith, size, none))

pub few_answered : (thread statement : ℕ) (answer : Option Answer)
    → length (said_lines thread (record { statement = statement; answer = answer; ended = None }))
    ≤ 1
few_answered thread statement None = omega arith
few_answered thread statement (Some x) = omega arith

pub few_over : (thread statement : ℕ) (ended : Option Ended)
    → length (said_lines thread (record { statement = statement; answer = None; ended = ended }))
    ≤ 1
few_over thread statement None = omega arith
few_over thread statement (Some x) = omega arith

pub both_lines : (thread : ℕ) (said : Said) (a b c : List (List ℕ)) → a ≡ []
    → b ≡ a ++ said_lines thread
    (record { statement = said.statement; answer = said.answer; ended = None })
    → c ≡ b ++ said_lines thread
    (record { statement = said.statement; answer = None; ended = said.ended })
    → c ≡ said_lines thread said
both_lines thread said a b c none p q =
    q
    ∙ ap (λ (l : List (List ℕ)). l
    ++ said_lines thread (record { statement = said.statement; answer = None; ended = said.ended }))
    (p
    ∙ ap (λ (l : List (List ℕ)). l
    ++ said_lines thread
    (record { statement = said.statement; answer = said.answer; ended = None })) none
    ∙ append-nil _)
