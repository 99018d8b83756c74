-- A look keeps the rule, and finds at least what the seat knows of.
use Rattle.std.proofs.Common.{◌≡◌, ℕ, ◌<◌, List, slice_index, slice_set, refl, ap, ◌∙◌, arith}
use Rattle.ownership_ledger.proofs.Prelude.{Allows, BookState, get_elem?, IsNumber, joined_seat}
use Rattle.ownership_ledger.proofs.Prelude.{keeps, KeptBook, Me, none, own_ended, own_made}
use Rattle.ownership_ledger.proofs.Prelude.{seen_ended, seen_made, some, step, View}
use Rattle.ownership_ledger.specs.Steps.{read_ended, read_made, saw_ended, saw_made, ShowsNumber}
use Rattle.ownership_ledger.proofs.Kept.{kept, knows}
use Rattle.ownership_ledger.proofs.Numbers.{looked, own-le, seen-le, sole, untouched}

-- what a load makes of the words
abbrev same_word : ℕ → List ℕ → List ℕ
same_word i ws = slice_set ws i (slice_index ws i)

shows : (own seen : View → ℕ) (n m k id : ℕ) (s : BookState) (r : KeptBook k s) (v : View)
    → own joined_seat ≡ 0 → IsNumber own seen s.views m → get_elem? s.views id ≡ some v → n ≡ m → 0 < v.parts
    → ShowsNumber v (own v) (seen v) n
shows own seen n m k id s r v zero_own number at found some_part =
    let own_before = own-le own seen s.views m number id v at in
    let seen_before = seen-le own seen s.views m number id v at in
    let alone = sole own seen s.views m number id v at k zero_own r.parts in
    (omega arith, omega arith, λ whole. found ∙ alone (whole ∙ knows k id s r v at some_part))

module _ (k slots id : ℕ) (me : Me (Unit {0}) View) (some_part : 0 < me.0.parts) where
  pub looks_made : Allows (KeptBook k) slots id me 0 (λ n. n) (read_made (step slots 0 0 0 none) me)
  looks_made s r _ at _ =
      let v = me.0 in
      let t = r.totals in
      let n : ℕ = slice_index s.words 0 in
      let found : n ≡ t.made = ap (λ ws. slice_index ws 0) r.words in
      let w = saw_made n v in
      let made = looked own_made seen_made s.views t.made r.made id v at w refl found refl in
      let ended = untouched own_ended seen_ended s.views t.ended r.ended id v at w refl refl refl in
      let rule = kept k id s r v at w t _ (ap (same_word 0) r.words) made ended refl refl in
      let shown = shows own_made seen_made n t.made k id s r v refl r.made at found some_part in
      (w, keeps, tt, rule, (refl, shown))

  pub looks_ended : Allows (KeptBook k) slots id me 8 (λ n. n) (read_ended (step slots 8 0 0 none) me)
  looks_ended s r _ at _ =
      let v = me.0 in
      let t = r.totals in
      let n : ℕ = slice_index s.words 8 in
      let found : n ≡ t.ended = ap (λ ws. slice_index ws 8) r.words in
      let w = saw_ended n v in
      let made = untouched own_made seen_made s.views t.made r.made id v at w refl refl refl in
      let ended = looked own_ended seen_ended s.views t.ended r.ended id v at w refl found refl in
      let rule = kept k id s r v at w t _ (ap (same_word 8) r.words) made ended refl refl in
      let shown = shows own_ended seen_ended n t.ended k id s r v refl r.ended at found some_part in
      (w, keeps, tt, rule, (refl, shown))
