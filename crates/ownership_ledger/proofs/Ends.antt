-- The book as it is opened, and at its end.
use Rattle.std.proofs.Common.{◌≡◌, ℕ, ◌<◌, ◌≤◌, List, [], ◌∷◌, length, All, sum_by, refl, sym, ap}
use Rattle.std.proofs.Common.{◌∙◌, zero-add, arith}
use Rattle.ownership_ledger.proofs.Prelude.{All-weaker, fresh_seat, get_elem?, IsNumber, KeptBook}
use Rattle.ownership_ledger.proofs.Prelude.{own_ended, own_made, seen_ended, seen_made, ShareNow}
use Rattle.ownership_ledger.proofs.Prelude.{some, some-injective, StandsForShares, Totals}
use Rattle.ownership_ledger.proofs.Prelude.{totals_words, View}
use Rattle.std.proofs.lemmas.List.Elements.{All-cons, All-nil}
use Rattle.atomic_table.specs.Table.{Final, opening, Seen}
use Rattle.ownership_ledger.specs.Now.{IsAtMost}
use Rattle.ownership_ledger.specs.Rule.{zeros}
use Rattle.ownership_ledger.proofs.Kept.{Knows}
use Rattle.ownership_ledger.proofs.Numbers.{IsBounded, seen-le, sole}

All-one : (P : View → Type 0) (v : View) → P v → All P (v ∷ [])
All-one P v h = All-cons P v [] h (All-nil P)

first_number : (own seen : View → ℕ) (v : View) → own v ≡ 0 → seen v ≡ 0 → IsNumber own seen (v ∷ []) 0
first_number own seen v adds sees = record {
  sum = zero-add (own v) ∙ adds;
  bounded = All-one (IsBounded own) v (omega arith);
  seen_before = All-one (λ u. seen u ≤ 0) v (omega arith);
}

pub opens : (k : ℕ) → k < 4294967296 → KeptBook k (opening (totals_words zeros) [] (fresh_seat k k))
opens k few = record {
  totals = zeros;
  words = refl;
  made = first_number own_made seen_made (fresh_seat k k) refl refl;
  ended = first_number own_ended seen_ended (fresh_seat k k) refl refl;
  parts = zero-add k;
  known = All-one (Knows k) (fresh_seat k k) (λ _. refl);
  few = few;
}

IsAtMost-trans : (t u v : Totals) → IsAtMost t u → IsAtMost u v → IsAtMost t v
IsAtMost-trans t u v h h' =
    let made = h.0 in
    let made' = h'.0 in
    let ended = h.1 in
    let ended' = h'.1 in
    (omega arith, omega arith)

-- what gather answers
abbrev pub AreSums : List ShareNow → Totals → Type 0
AreSums shares t =
    (t.made ≡ sum_by (λ s. s.own.made) shares)
    × (t.ended ≡ sum_by (λ s. s.own.ended) shares)
    × All (λ s. IsAtMost s.seen t) shares

-- the last words, where one seat stands for all shares
pub ends : (k id : ℕ) (shares : List ShareNow) (v : View) (ws : List ℕ) (xs : List (Unit {0})) (last : Totals)
    → Final (Seen (KeptBook k) id v) ws xs → StandsForShares shares v → length shares ≡ k
    → get_elem? ws 0 ≡ some last.made → get_elem? ws 8 ≡ some last.ended → AreSums shares last
ends k id shares v ws xs last final all count first second =
    let s = final.0 in
    let r = final.1.0 in
    let at = final.1.1 in
    let t = r.totals in
    let shown : ws ≡ totals_words t = sym final.2 ∙ r.words in
    let word : (i : ℕ) → get_elem? ws i ≡ get_elem? (totals_words t) i = (λ i. ap (λ l. get_elem? l i) shown) in
    let made : last.made ≡ t.made = some-injective _ t.made (sym first ∙ word 0) in
    let ended : last.ended ≡ t.ended = some-injective _ t.ended (sym second ∙ word 8) in
    let own = sole own_made seen_made s.views t.made r.made id v at k refl r.parts (all.parts ∙ count) in
    let own' = sole own_ended seen_ended s.views t.ended r.ended id v at k refl r.parts (all.parts ∙ count) in
    let saw = seen-le own_made seen_made s.views t.made r.made id v at in
    let saw' = seen-le own_ended seen_ended s.views t.ended r.ended id v at in
    let saw_all : IsAtMost v.seen last = (omega arith, omega arith) in
    let later = λ (x : ShareNow) (h : IsAtMost x.seen v.seen). IsAtMost-trans x.seen v.seen last h saw_all in
    let seen = All-weaker (λ x. IsAtMost x.seen v.seen) (λ x. IsAtMost x.seen last) later shares all.seen in
    (made ∙ (own ∙ all.made), ended ∙ (own' ∙ all.ended), seen)
