-- The lines of threads, one thread after the other, and then those of a report.
use Rattle.std.proofs.Common.{◌≡◌, ℕ, suc, ◌+◌, ◌<◌, List, [], ◌∷◌, ◌++◌, length, get_or, take}
use Rattle.std.proofs.Common.{sym, ap, ◌∙◌, append_assoc, append-nil, arith, length-take-le}
use Rattle.script_runner.proofs.Prelude.{CensusNow, ended, flat_map, Report, report_lines, Said}
use Rattle.script_runner.proofs.Prelude.{take_more, threads_lines, Vec}
use Rattle.script_stepper.specs.Lines.{said_lines, totals_text}
use Rattle.script_stepper.proofs.LineLemmas.{lines_then}
use Rattle.script_runner.specs.Telling.{closed_census_lines}

-- one thread more
threads_last : (k : ℕ) (xs : List (Vec Said)) (x : Vec Said)
    → threads_lines k (xs ++ x ∷ []) ≡ threads_lines k xs ++ flat_map (said_lines (k + length xs)) x.items
threads_last k [] x =
    let e : k ≡ k + 0 = omega arith in
    append-nil (flat_map (said_lines k) x.items) ∙ ap (λ (n : ℕ). flat_map (said_lines n) x.items) e
threads_last k (y ∷ ys) x =
    let e : suc k + length ys ≡ k + suc (length ys) = omega arith in
    let here = flat_map (said_lines k) y.items in
    ap (λ (l : List (List ℕ)). here ++ l) (threads_last (suc k) ys x)
    ∙ sym (append_assoc here (threads_lines (suc k) ys) (flat_map (said_lines (suc k + length ys)) x.items))
    ∙ ap (λ (n : ℕ). threads_lines k (y ∷ ys) ++ flat_map (said_lines n) x.items) e

-- a text that has the lines of the first threads, and then those of one thread more
pub threads_then : (xs : List (Vec Said)) (i : ℕ) (x : Vec Said) (said : List Said) (a b c : List ℕ) → i < length xs
    → said ≡ (get_or xs i x).items → b ≡ a ++ ended (threads_lines 1 (take i xs)) → c ≡ b ++ ended (flat_map (said_lines (i + 1)) said)
    → c ≡ a ++ ended (threads_lines 1 (take (i + 1) xs))
threads_then xs i x said a b c lt is p q =
    let few : length (take i xs) ≡ i = length-take-le i xs (omega (arith, lt)) in
    let number : 1 + length (take i xs) ≡ i + 1 = omega (arith, few) in
    let more : threads_lines 1 (take (i + 1) xs) ≡ threads_lines 1 (take i xs) ++ flat_map (said_lines (i + 1)) said =
    ap (threads_lines 1) (take_more xs i x lt)
    ∙ threads_last 1 (take i xs) (get_or xs i x)
    ∙ ap (λ (n : ℕ). threads_lines 1 (take i xs) ++ flat_map (said_lines n) (get_or xs i x).items) number
    ∙ ap (λ (s : List Said). threads_lines 1 (take i xs) ++ flat_map (said_lines (i + 1)) s) (sym is) in
    lines_then (threads_lines 1 (take i xs)) (flat_map (said_lines (i + 1)) said) a b c p q
    ∙ ap (λ (l : List (List ℕ)). a ++ ended l) (sym more)

-- all parts of a report's text
pub report_then : (report : Report) (census : CensusNow) (lines : List (Vec Said)) (a b c d : List ℕ) → lines ≡ report.lines.items → a ≡ []
    → b ≡ a ++ ended (threads_lines 1 lines)
    → c ≡ b ++ ended (closed_census_lines census)
    → d ≡ c ++ ended (totals_text report.totals.made report.totals.ended ∷ []) → d ≡ ended (report_lines report census)
report_then report census lines a b c d all none p q r =
    let threads = threads_lines 1 report.lines.items in
    let blocks = closed_census_lines census in
    let last = totals_text report.totals.made report.totals.ended ∷ [] in
    let begun : b ≡ a ++ ended threads = p ∙ ap (λ (l : List (Vec Said)). a ++ ended (threads_lines 1 l)) all in
    let both : c ≡ a ++ ended (threads ++ blocks) = lines_then threads blocks a b c begun q in
    lines_then (threads ++ blocks) last a c d both r ∙ ap (λ (t : List ℕ). t ++ ended (report_lines report census)) none
