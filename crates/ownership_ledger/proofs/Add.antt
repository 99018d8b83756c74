-- An add keeps the rule: the share and the word grow in one step.
use Rattle.std.proofs.Common.{◌≡◌, ℕ, ◌+◌, ◌%◌, ◌^◌, ◌<◌, List, slice_index, slice_set, refl, ap}
use Rattle.std.proofs.Common.{◌∙◌, arith}
use Rattle.ownership_ledger.proofs.Prelude.{Allows, keeps, KeptBook, Me, none, own_ended, own_made}
use Rattle.ownership_ledger.proofs.Prelude.{seen_ended, seen_made, step, totals_words, View}
use Rattle.ownership_ledger.specs.Now.{one_more_ended, one_more_made}
use Rattle.ownership_ledger.specs.Steps.{added_ended, added_made, plus_ended, plus_made}
use Rattle.ownership_ledger.proofs.Kept.{kept}
use Rattle.ownership_ledger.proofs.Numbers.{added, one_fits, seen-le, untouched}

-- what a fetch_add of 1 makes of the words
abbrev one_more : ℕ → List ℕ → List ℕ
one_more i ws = slice_set ws i ((slice_index ws i + 1) % 2 ^ 64)

module _ (k slots id : ℕ) (me : Me (Unit {0}) View) (one : me.0.parts ≡ 1) where
  pub adds_made : me.0.own.made < 4294967295
      → Allows (KeptBook k) slots id me 0 (λ n. (n + 1) % 2 ^ 64) (added_made (step slots 0 1 0 none) me)
  adds_made room s r _ at _ =
      let v = me.0 in
      let t = r.totals in
      let n : ℕ = slice_index s.words 0 in
      let found : n ≡ t.made = ap (λ ws. slice_index ws 0) r.words in
      let w = plus_made n v in
      let fits = one_fits own_made seen_made s.views t.made r.made k r.parts r.few in
      let words = ap (one_more 0) r.words ∙ ap (λ x. totals_words record t { made = x }) fits in
      let before = seen-le own_made seen_made s.views t.made r.made id v at in
      let made = added own_made seen_made s.views t.made r.made id v at w refl (omega arith) one room in
      let ended = untouched own_ended seen_ended s.views t.ended r.ended id v at w refl refl refl in
      let rule = kept k id s r v at w (one_more_made t) _ words made ended refl refl in
      (w, keeps, tt, rule, (refl, omega arith))

  pub adds_ended : me.0.own.ended < 4294967295
      → Allows (KeptBook k) slots id me 8 (λ n. (n + 1) % 2 ^ 64) (added_ended (step slots 8 1 0 none) me)
  adds_ended room s r _ at _ =
      let v = me.0 in
      let t = r.totals in
      let n : ℕ = slice_index s.words 8 in
      let found : n ≡ t.ended = ap (λ ws. slice_index ws 8) r.words in
      let w = plus_ended n v in
      let fits = one_fits own_ended seen_ended s.views t.ended r.ended k r.parts r.few in
      let words = ap (one_more 8) r.words ∙ ap (λ x. totals_words record t { ended = x }) fits in
      let before = seen-le own_ended seen_ended s.views t.ended r.ended id v at in
      let made = untouched own_made seen_made s.views t.made r.made id v at w refl refl refl in
      let ended = added own_ended seen_ended s.views t.ended r.ended id v at w refl (omega arith) one room in
      let rule = kept k id s r v at w (one_more_ended t) _ words made ended refl refl in
      (w, keeps, tt, rule, (refl, omega arith))
