-- What a worked history's events owe, by tests that compute.
use Rattle.std.proofs.Common.{◌≡◌, ℕ, suc, ◌≤◌, Bool, true, false, cond, not, ◌&&◌, List, nat_lt}
use Rattle.std.proofs.Common.{◌==◌, refl, arith, ltb-true, eq-eqb, ne_eqb}
use Rattle.control_word.proofs.Prelude.{after, and_parts, Asks, bag_size, cond-false, cond-true}
use Rattle.control_word.proofs.Prelude.{Entry, Event, four_blocks, IsLegal, IsOpening, IsVacant}
use Rattle.control_word.proofs.Prelude.{leads, MayCome, times_kept, value, Values}
use Rattle.control_word.proofs.history.Storing.{stored_once}

pub opening_fits : IsOpening four_blocks
opening_fits = record {
  limits = (omega arith, omega arith, omega arith);
  members = (omega arith, omega arith);
  owners = (omega arith, omega arith);
  room = (omega arith, omega arith);
  holders = λ b. omega arith;
  shares = refl;
  positive = λ d lt.
      let e : ◌≡◌ {A = ℕ} (cond (d == 0) 100 0) 100 = cond-true (d == 0) 100 0 (eq-eqb d 0 (omega arith)) in
      omega arith;
  beyond = λ d le. cond-false (d == 0) 100 0 (ne_eqb d 0 (λ e. omega arith));
}

-- the desk is acting, and keeps within its allowance: a test that computes
abbrev ready : ℕ → List (Entry ℕ) → Event ℕ → Bool
ready d h e =
    let s = leads four_blocks h in
    let t = after s d e in
    let fits = nat_lt (bag_size t d) (suc (t.allowance d)) in
    nat_lt d s.names && (not (s.joined d) && (nat_lt 0 (s.allowance d) && fits))

not_false : (b : Bool) → not b ≡ true → b ≡ false
not_false true e = cc
not_false false e = refl

pub comes : {d : ℕ} {h : List (Entry ℕ)} {e : Event ℕ} → ready d h e ≡ true → Asks (leads four_blocks h) d e
    → Values (value four_blocks h) e → MayCome four_blocks h d e
comes {d} {h} {e} r asks values =
    let s = leads four_blocks h in
    let t = after s d e in
    let a = and_parts (nat_lt d s.names) _ r in
    let b = and_parts (not (s.joined d)) _ a.1 in
    let c = and_parts (nat_lt 0 (s.allowance d)) (nat_lt (bag_size t d) (suc (t.allowance d))) b.1 in
    let room = ltb-true (bag_size t d) (suc (t.allowance d)) c.1 in
    record {
      acting = (ltb-true d s.names a.0, not_false (s.joined d) b.0, ltb-true 0 (s.allowance d) c.0);
      asks = asks;
      values = values;
      room = omega arith;
    }

-- one event more
infixl 4 ◌▸◌
abbrev pub ◌▸◌ : {A B : Type 0} → A → B → A × B
a ▸ b = (a, b)

pub vacant : (h : List (Entry ℕ)) (b : ℕ) → IsLegal four_blocks h → 1 ≤ b → b ≤ 4
    → times_kept (leads four_blocks h) b ≡ 1 → IsVacant (leads four_blocks h) b
vacant h b legal low high once = (stored_once four_blocks h legal b (low, high)).0.0 once
