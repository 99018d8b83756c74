-- A text has one reading: where its lines lead, or one first faulty line with one cause.
use Rattle.std.proofs.Common.{◌≡◌, ℕ, suc, ◌+◌, ◌⊎◌, List, [], ◌∷◌, ◌++◌, inl, inr, length, false}
use Rattle.std.proofs.Common.{Result, Ok, Err, refl, sym, ap}
use Rattle.std.proofs.Common.{subst, ◌∙◌, arith, append_assoc, length-append}
use Rattle.std.specs.List.{AllByRecursion}
use Rattle.text_lines.specs.Grammar.{BeginsWith, IsFaulty, IsFaultyLine, IsReadAs, IsUnfinished}
use Rattle.text_lines.specs.Grammar.{Leads}
use Rattle.text_lines.specs.Lines.{HasNoFeed, ended, is_feed}

-- ---- one cut

-- a byte and the bytes after it
record SameCons (x y : ℕ) (xs ys : List ℕ) : Type 0 where
  first : x ≡ y
  rest : xs ≡ ys

same_cons : (x y : ℕ) (xs ys : List ℕ) → x ∷ xs ≡ y ∷ ys → SameCons x y xs ys
same_cons x y xs ys h = record { first = cc; rest = cc }

no_feed_at_feed : is_feed 10 ≡ false → ⊥
no_feed_at_feed h = absurd cc

-- two cuts of the same bytes
record SameCut (line other rest more : List ℕ) : Type 0 where
  line_is : line ≡ other
  rest_is : rest ≡ more

same_cut : (line other rest more : List ℕ) → HasNoFeed line → HasNoFeed other
    → line ++ 10 ∷ rest ≡ other ++ 10 ∷ more → SameCut line other rest more
same_cut [] [] rest more h k e =
    record { line_is = refl; rest_is = (same_cons 10 10 rest more e).rest }
same_cut [] (y ∷ ys) rest more h k e =
    let s = same_cons 10 y rest (ys ++ 10 ∷ more) e in
    absurd (no_feed_at_feed (subst (λ b. is_feed b ≡ false) (sym s.first) k.0))
same_cut (x ∷ xs) [] rest more h k e =
    absurd
    (no_feed_at_feed (subst (λ b. is_feed b ≡ false) (same_cons x 10 (xs ++ 10 ∷ rest) more e).first
    h.0))
same_cut (x ∷ xs) (y ∷ ys) rest more h k e =
    let s = same_cons x y (xs ++ 10 ∷ rest) (ys ++ 10 ∷ more) e in
    let t = same_cut xs ys rest more h.1 k.1 s.rest in
    record { line_is = rw (s.first, t.line_is) refl; rest_is = t.rest_is }

-- bytes without a line feed can't be cut
no_cut : (line rest : List ℕ) → HasNoFeed (line ++ 10 ∷ rest) → ⊥
no_cut [] rest h = no_feed_at_feed h.0
no_cut (x ∷ xs) rest h = no_cut xs rest h.1

module _ {D C : Type 0} (after : D → List ℕ → Result D C) (unfinished : C) where
  -- the draft that a text leads to, or the number of a line and a cause
  abbrev pub Reading : Type 0
  Reading = Result D (ℕ × C)

  -- ---- what follows the good lines

  -- the rest ends the text, or its first line is faulty
  abbrev Ends : D → ℕ → List ℕ → Reading → Type 0
  Ends d n rest (Ok e) = (rest ≡ []) × (e ≡ d)
  Ends d n rest (Err f) =
      (f.0 ≡ n) × (IsUnfinished unfinished rest f.1 ⊎ IsFaultyLine after d rest f.1)

  -- a line is not good and faulty at once
  not_both : (d e : D) (line : List ℕ) (cause : C) → after d line ≡ Ok e
      → after d line ≡ Err cause → ⊥
  not_both d e line cause good bad = let both : Ok e ≡ Err cause = sym good ∙ bad in absurd cc

  same_cause : (r : Result D C) (c e : C) → r ≡ Err c → r ≡ Err e → c ≡ e
  same_cause r c e h k = let both : Err c ≡ r = sym h in cc

  same_draft : (r : Result D C) (d e : D) → r ≡ Ok d → r ≡ Ok e → d ≡ e
  same_draft r d e h k = let both : Ok d ≡ r = sym h in cc

  -- a good line is no end
  not_good : (d e : D) (n : ℕ) (line more : List ℕ) (r : Reading) → HasNoFeed line
      → after d line ≡ Ok e → Ends d n (line ++ 10 ∷ more) r → ⊥
  not_good d e n line more (Ok g) clean good h =
      let none : length (line ++ 10 ∷ more) ≡ 0 = ap length h.0 in
      omega (arith, none, length-append line (10 ∷ more))
  not_good d e n line more (Err f) clean good (k, inl u) = no_cut line more u.clean
  not_good d e n line more (Err f) clean good (k, inr u) =
      let same = same_cut line u.line more u.more clean u.cut.clean u.cut.text in
      not_both d e u.line f.1 (subst (λ (l : List ℕ). after d l ≡ Ok e) same.line_is good) u.says

  faults_agree : (f g : ℕ × C) (n : ℕ) (c : C) → f.0 ≡ n → f.1 ≡ c → g.0 ≡ n → g.1 ≡ c → f ≡ g
  faults_agree f g n c a b x y =
      let first : f.0 ≡ g.0 = a ∙ sym x in
      let second : f.1 ≡ g.1 = b ∙ sym y in
      rw (first, second) refl

  one_end : (d : D) (n : ℕ) (rest : List ℕ) (r s : Reading) → Ends d n rest r → Ends d n rest s
      → r ≡ s
  one_end d n rest (Ok a) (Ok b) h k = ap (λ (t : D). Ok t) (h.1 ∙ sym k.1)
  one_end d n rest (Ok a) (Err g) h (k, inl v) = absurd (omega (arith, v.some, ap length h.0))
  one_end d n rest (Ok a) (Err g) h (k, inr v) =
      absurd (omega (
        arith,
        ap length h.0,
        ap length v.cut.text,
        length-append v.line
            (10 ∷ v.more),
      ))
  one_end d n rest (Err f) (Ok b) (h, inl u) k = absurd (omega (arith, u.some, ap length k.0))
  one_end d n rest (Err f) (Ok b) (h, inr u) k =
      absurd (omega (
        arith,
        ap length k.0,
        ap length u.cut.text,
        length-append u.line
            (10 ∷ u.more),
      ))
  one_end d n rest (Err f) (Err g) (h, inl u) (k, inl v) =
      ap (λ (t : ℕ × C). Err t) (faults_agree f g n f.1 h refl k (v.says ∙ sym u.says))
  one_end d n rest (Err f) (Err g) (h, inl u) (k, inr v) =
      absurd (no_cut v.line v.more (subst HasNoFeed v.cut.text u.clean))
  one_end d n rest (Err f) (Err g) (h, inr u) (k, inl v) =
      absurd (no_cut u.line u.more (subst HasNoFeed u.cut.text v.clean))
  one_end d n rest (Err f) (Err g) (h, inr u) (k, inr v) =
      let same = same_cut u.line v.line u.more v.more u.cut.clean v.cut.clean
      (sym u.cut.text ∙ v.cut.text) in
      let causes =
      same_cause (after d v.line) f.1 g.1
      (subst (λ (l : List ℕ). after d l ≡ Err f.1) same.line_is u.says) v.says in
      ap (λ (t : ℕ × C). Err t) (faults_agree f g n f.1 h refl k (sym causes))

  -- ---- good lines

  -- good lines before another end don't end there
  goes_on : (ys : List ℕ) (lines : List (List ℕ)) (d mid : D) (n : ℕ) (more rest : List ℕ)
      (r : Reading)
      → HasNoFeed ys → after d ys ≡ Ok mid → rest ≡ (ys ++ 10 ∷ ended lines) ++ more
      → Ends d n rest r → ⊥
  goes_on ys lines d mid n more rest r clean good same ends =
      not_good d mid n ys (ended lines ++ more) r clean good
      (subst (λ (t : List ℕ). Ends d n t r) (same ∙ append_assoc ys (10 ∷ ended lines) more) ends)

  one_by : (xs ys : List (List ℕ)) (d e g : D) (n : ℕ) (rest more : List ℕ) (r s : Reading)
      → AllByRecursion HasNoFeed xs → AllByRecursion HasNoFeed ys → Leads after d xs e
      → Leads after d ys g → ended xs
      ++ rest ≡ ended ys ++ more
      → Ends e (n + length xs) rest r → Ends g (n + length ys) more s → r ≡ s
  one_by [] [] d e g n rest more r s clean also leads also_leads same ends also_ends =
      one_end e (n + 0) rest r s ends
      (subst (λ (t : List ℕ). Ends e (n + 0) t s) (sym same)
      (subst (λ (c : D). Ends c (n + 0) more s) (sym also_leads ∙ leads) also_ends))
  one_by [] (y ∷ ys) d e g n rest more r s clean also leads also_leads same ends also_ends =
      absurd
      (goes_on y ys d also_leads.0 (n + 0) more rest r also.0 also_leads.1 same
      (subst (λ (c : D). Ends c (n + 0) rest r) (sym leads) ends))
  one_by (x ∷ xs) [] d e g n rest more r s clean also leads also_leads same ends also_ends =
      absurd
      (goes_on x xs d leads.0 (n + 0) rest more s clean.0 leads.1 (sym same)
      (subst (λ (c : D). Ends c (n + 0) more s) (sym also_leads) also_ends))
  one_by (x ∷ xs) (y ∷ ys) d e g n rest more r s clean also leads also_leads same ends also_ends =
      let whole : x ++ 10 ∷ (ended xs ++ rest) ≡ y ++ 10 ∷ (ended ys ++ more) =
      sym (append_assoc x (10 ∷ ended xs) rest) ∙ same ∙ append_assoc y (10 ∷ ended ys) more in
      let cut = same_cut x y (ended xs ++ rest) (ended ys ++ more) clean.0 also.0 whole in
      let good : after d y ≡ Ok leads.0 =
      subst (λ (l : List ℕ). after d l ≡ Ok leads.0) cut.line_is leads.1 in
      let mid : also_leads.0 ≡ leads.0 =
      same_draft (after d y) also_leads.0 leads.0 also_leads.1 good in
      let one : n + suc (length xs) ≡ n + 1 + length xs = omega arith in
      let also_one : n + suc (length ys) ≡ n + 1 + length ys = omega arith in
      one_by xs ys leads.0 e g (n + 1) rest more r s clean.1 also.1 leads.2
      (subst (λ (c : D). Leads after c ys g) mid also_leads.2) cut.rest_is
      (subst (λ i. Ends e i rest r) one ends) (subst (λ i. Ends g i more s) also_one also_ends)

  -- what a text says: the draft that it leads to, or its first faulty line and the cause
  abbrev pub Says : D → List ℕ → Reading → Type 0
  Says first bytes (Ok d) = IsReadAs after first bytes d
  Says first bytes (Err f) = IsFaulty after first unfinished bytes f.0 f.1

  -- the good lines of a text, and what follows them
  record Lines (first : D) (bytes : List ℕ) (r : Reading) : Type 0 where
    draft : D
    number : ℕ
    rest : List ℕ
    begins : BeginsWith after first bytes draft number rest
    ends : Ends draft number rest r

  lines_of : (first : D) (bytes : List ℕ) (r : Reading) → Says first bytes r → Lines first bytes r
  lines_of first bytes (Ok d) h =
      record { draft = d; number = h.0; rest = []; begins = h.1; ends = (refl, refl) }
  lines_of first bytes (Err f) h =
      record {
        draft = h.draft;
        number = f.0;
        rest = h.rest;
        begins = h.begins;
        ends = (refl, h.fault);
      }

  pub one_reading : (first : D) (bytes : List ℕ) (r s : Reading) → Says first bytes r
      → Says first bytes s → r ≡ s
  one_reading first bytes r s h k =
      let a = lines_of first bytes r h in
      let b = lines_of first bytes s k in
      one_by a.begins.lines b.begins.lines first a.draft b.draft 1 a.rest b.rest r s
      a.begins.clean b.begins.clean a.begins.leads b.begins.leads
      (sym a.begins.text ∙ b.begins.text)
      (subst (λ i. Ends a.draft i a.rest r) a.begins.next a.ends)
      (subst (λ i. Ends b.draft i b.rest s) b.begins.next b.ends)
