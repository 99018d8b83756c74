-- The colors of blocks, one block more each time.
use Rattle.std.proofs.Common.{◌≡◌, ℕ, ◌+◌, List, [], ◌∷◌, ◌++◌, map, Some, None, Option, refl, sym}
use Rattle.std.proofs.Common.{ap, ◌∙◌, append-nil, arith}
use Rattle.leak_report.proofs.Prelude.{census_of, color_at, colored, Counts, Findings, flat_map, from}
use Rattle.leak_report.proofs.Prelude.{Holding, in_color, map-append, State}
use Rattle.leak_report.specs.Colors.{colored_if}
use Rattle.leak_report.specs.declared.color.Colored.{Colored}
use Rattle.leak_report.proofs.MoreLemmas.{one_more}

-- a block that isn't vacant
pub colored_then : (s : State) (f : Findings) (hs : List Holding) (number : ℕ) (counts : Counts) (x : Colored)
    (old new : List Colored) → Some counts ≡ census_of s number → x.block ≡ number
    → x.color.now ≡ color_at f hs number → new ≡ old ++ x ∷ []
    → map in_color new ≡ map in_color old ++ colored s f hs number
colored_then s f hs number counts x old new some block color is =
    ap (λ (l : List Colored). map in_color l) is
    ∙ map-append in_color old (x ∷ [])
    ∙ ap (λ (n : ℕ). map in_color old ++ (n, x.color.now) ∷ []) block
    ∙ ap (λ (t : List ℕ). map in_color old ++ (number, t) ∷ []) color
    ∙ ap (λ (o : Option Counts). map in_color old ++ colored_if number (color_at f hs number) o) some

-- a vacant one
pub colored_none : (s : State) (f : Findings) (hs : List Holding) (number : ℕ) (old : List Colored)
    → None ≡ census_of s number → map in_color old ≡ map in_color old ++ colored s f hs number
colored_none s f hs number old none =
    sym (append-nil (map in_color old))
    ∙ ap (λ (o : Option Counts). map in_color old ++ colored_if number (color_at f hs number) o) none

-- of one number more
pub colors_then : (f : ℕ → List (ℕ × List ℕ)) (n : ℕ) (b c : List (ℕ × List ℕ)) → b ≡ flat_map f (from 1 n) → c ≡ b ++ f (n + 1)
    → c ≡ flat_map f (from 1 (n + 1))
colors_then f n b c p q =
    q ∙ ap (λ (l : List (ℕ × List ℕ)). l ++ f (n + 1)) p
    ∙ one_more f 1 n (n + 1) [] (flat_map f (from 1 n)) (flat_map f (from 1 n) ++ f (n + 1)) (omega arith) refl refl
