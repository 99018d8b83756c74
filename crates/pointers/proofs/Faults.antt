-- Faults that are noted from the last worker's on.
use Rattle.std.proofs.Common.{
  ◌≡◌,
  ℕ,
  suc,
  ◌+◌,
  ◌≤◌,
  Result,
  Ok,
  Err,
  List,
  [],
  ◌∷◌,
  ◌++◌,
  length,
  reverse,
  append_assoc,
  length-append,
  ap,
  refl,
  sym,
  ◌∙◌,
  arith,
}
use Rattle.std.proofs.lemmas.List.{length-map, map-append, reverse-append}
use Rattle.pointers.proofs.Staffs.{dones_of}
use Rattle.pointers.specs.Programs.{faults_from}
use Rattle.pointers.specs.declared.fault.Fault.{Fault}
use Rattle.pointers.specs.declared.program.Failed.{Failed}
use Rattle.pointers.specs.declared.program.worker.Worker.{Worker}

behind : (n k : ℕ) (rs : List (Result (Unit {0}) Fault)) (r : Result (Unit {0}) Fault) → k ≡ n + length rs
    → faults_from n (rs ++ r ∷ []) ≡ faults_from n rs ++ faults_from k (r ∷ [])
behind n k [] r at = ap (λ (j : ℕ). faults_from j (r ∷ [])) (omega (arith, at))
behind n k (Ok d ∷ rs) r at = behind (suc n) k rs r (omega (arith, at))
behind n k (Err why ∷ rs) r at = ap (λ (l : List Failed). record { worker = n; why = why } ∷ l) (behind (suc n) k rs r (omega (arith, at)))

one_turned : (k : ℕ) (r : Result (Unit {0}) Fault) → faults_from k (r ∷ []) ≡ reverse (faults_from k (r ∷ []))
one_turned k (Ok d) = refl
one_turned k (Err why) = refl

one_most : (k : ℕ) (r : Result (Unit {0}) Fault) → length (faults_from k (r ∷ [])) ≤ 1
one_most k (Ok d) = omega arith
one_most k (Err why) = omega arith

pub room_for : (k : ℕ) (r : Result (Unit {0}) Fault) (failed more : List Failed) → more ≡ failed ++ faults_from k (r ∷ []) → length more ≤ length failed + 1
room_for k r failed more is =
    let a = ap length is in let b = length-append failed (faults_from k (r ∷ [])) in let c = one_most k r in omega (arith, a, b, c)

module _ {V P : Type 0} where
  pub one_more : (all now rest : List (Worker V P)) (w : Worker V P) (k : ℕ) (failed more : List Failed)
      → faults_from 0 (dones_of all) ≡ faults_from 0 (dones_of now) ++ reverse failed → now ≡ rest ++ w ∷ [] → k ≡ length rest
      → more ≡ failed ++ faults_from k (w.done ∷ [])
      → faults_from 0 (dones_of all) ≡ faults_from 0 (dones_of rest) ++ reverse more
  one_more all now rest w k failed more was last at is =
      let x = faults_from k (w.done ∷ []) in let a = faults_from 0 (dones_of rest) in
      let many : k ≡ 0 + length (dones_of rest) = (let n = length-map rest (λ (v : Worker V P). v.done) in omega (arith, at, n)) in
      let now_is : faults_from 0 (dones_of now) ≡ a ++ x =
      ap (λ (l : List (Worker V P)). faults_from 0 (dones_of l)) last
      ∙ (ap (faults_from 0) (map-append (λ (v : Worker V P). v.done) rest (w ∷ [])) ∙ behind 0 k (dones_of rest) w.done many) in
      was
      ∙ (ap (λ (l : List Failed). l ++ reverse failed) now_is
      ∙ (append_assoc a x (reverse failed)
      ∙ ap (λ (l : List Failed). a ++ l)
      (ap (λ (l : List Failed). l ++ reverse failed) (one_turned k w.done) ∙ (sym (reverse-append failed x) ∙ ap reverse (sym is)))))
