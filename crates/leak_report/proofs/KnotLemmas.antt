-- Knots of leaked blocks, line after line.
use Rattle.std.proofs.Common.{◌≡◌, ◌≢◌, ℕ, ◌+◌, ◌<◌, Bool, true, false, List, [], ◌∷◌, ◌++◌, length}
use Rattle.std.proofs.Common.{get_or, take, ◌==◌, codes, cond, refl, sym, ap, ◌∙◌, append-nil}
use Rattle.leak_report.proofs.Prelude.{at, cond-false, cond-true, cut_lines, ended, filter, Findings}
use Rattle.leak_report.proofs.Prelude.{flat_map, flat_map-append, held_in, held_on, Holding, is_tie}
use Rattle.leak_report.proofs.Prelude.{join, knot_lines, lines_then, row_at, take_more, tied_lines}
use Rattle.owner_graph.specs.Members.{homes}
use Rattle.owner_graph.specs.Weakenings.{knot_ties}
use Rattle.owner_graph.proofs.WeakeningLemmas.{ties_by_rows}
use Rattle.script_stepper.proofs.LineLemmas.{flat_map-one}
use Rattle.leak_report.specs.Knots.{cycle_text}

-- words of one element more
pub words_on : {A : Type 0} (f : A → List ℕ) (xs : List A) (i : ℕ) (x : A) (a b c : List ℕ) → i < length xs
    → b ≡ a ++ flat_map f (take i xs) → c ≡ b ++ f (get_or xs i x) → c ≡ a ++ flat_map f (take (i + 1) xs)
words_on {A} f xs i x a b c lt p q =
    q ∙ ap (λ (t : List ℕ). t ++ f (get_or xs i x)) p ∙ join a (flat_map f (take i xs)) (f (get_or xs i x))
    ∙ ap (λ (t : List ℕ). a ++ t) (sym (
    ap (λ (ys : List A). flat_map f ys) (take_more xs i x lt)
    ∙ flat_map-append f (take i xs) (get_or xs i x ∷ [])
    ∙ ap (λ (t : List ℕ). flat_map f (take i xs) ++ t) (flat_map-one f (get_or xs i x))))

-- what has no lines
pub none_put : (is : Bool) (lines : List (List ℕ)) (a : List ℕ) → is ≡ false
    → a ≡ a ++ ended (cond is lines [])
none_put is lines a off =
    sym (append-nil a) ∙ ap (λ (l : List (List ℕ)). a ++ ended l) (sym (cond-false is lines [] off))

-- what has them
pub some_put : (is : Bool) (lines : List (List ℕ)) (a b : List ℕ) → is ≡ true → b ≡ a ++ ended lines
    → b ≡ a ++ ended (cond is lines [])
some_put is lines a b on p = p ∙ ap (λ (l : List (List ℕ)). a ++ ended l) (sym (cond-true is lines [] on))

-- the lines of a knot that something ties
pub tied_is : (cuts : List Bool) (shared : ℕ) (ties : List Holding) (a b c : List ℕ)
    → length ties ≢ 0
    → b ≡ a ++ ended (cycle_text shared ties ∷ [])
    → c ≡ b ++ ended (flat_map (cut_lines cuts shared) ties)
    → c ≡ a ++ ended (tied_lines cuts shared ties)
tied_is cuts shared [] a b c some p q = absurd (some refl)
tied_is cuts shared (t ∷ ts) a b c some p q =
    lines_then (cycle_text shared (t ∷ ts) ∷ []) (flat_map (cut_lines cuts shared) (t ∷ ts)) a b c p q

-- the lines of a knot, by rows
pub knot_then : (shared : ℕ) (f : Findings) (hs : List Holding) (blocks least : ℕ)
    (ties : List Holding) (a c : List ℕ) → (at f.knots.items least == least) ≡ true
    → ties ≡ flat_map (λ (m : Holding). filter (is_tie f.kept.items f.knots.items)
    (row_at f.sources.items m.from)) (row_at f.index.members.items least)
    → row_at f.index.members.items least ≡ held_on (homes f.knots.items blocks) least
    → ((b : ℕ) → row_at f.sources.items b ≡ held_in hs b)
    → c ≡ a ++ ended (tied_lines f.cuts.items shared ties)
    → c ≡ a ++ ended (knot_lines shared f hs blocks least)
knot_then shared f hs blocks least ties a c is tied members sources p =
    let K = knot_ties f.kept.items f.knots.items blocks hs least in
    let same : ties ≡ K =
    tied ∙ ties_by_rows blocks hs f.kept.items f.knots.items f.sources.items
    (row_at f.index.members.items least) least sources members in
    some_put (at f.knots.items least == least) (tied_lines f.cuts.items shared K) a c is
    (p ∙ ap (λ (l : List Holding). a ++ ended (tied_lines f.cuts.items shared l)) same)
