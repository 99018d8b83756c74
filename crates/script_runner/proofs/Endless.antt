-- Nothing is left to end by an act that takes something.
use Rattle.std.proofs.Common.{◌≡◌, ℕ, Bool, None, Option, refl}
use Rattle.script_runner.proofs.Prelude.{Act, Came, Compared, Ended, Found, Got, Left, Plain}
use Rattle.script_runner.proofs.Prelude.{Reply, row, Slot, Slots, Told}
use Rattle.step_threads.specs.declared.programs.act.Act.TheVariants as act

-- the act takes something into the hand, or nothing
abbrev pub IsTaker : Act → Type 0
IsTaker (act.Make form) = Unit {0}
IsTaker (act.Share i) = Unit {0}
IsTaker (act.Downgrade i) = Unit {0}
IsTaker (act.Lock i must) = Unit {0}
IsTaker (act.FromThis i k) = Unit {0}
IsTaker (act.Alias i j field) = Unit {0}
IsTaker (act.Move i) = Unit {0}
IsTaker (act.Offer i c) = Unit {0}
IsTaker (act.Load c) = Unit {0}
IsTaker a = ⊥

module _ (l : Slots) (taken : Bool) where
  abbrev Endless : Act → Reply → Type 0
  Endless a r = (row a l taken r).ending ≡ None

  by_reply : (a : Act) → Endless a Plain → ((b : Option ℕ) → Endless a (Found b)) → ((b : Bool) → Endless a (Got b))
      → ((n : ℕ) → Endless a (Told n)) → ((x : Slot) → Endless a (Came x)) → ((b : Bool) (x : Slot) → Endless a (Compared b x))
      → ((b : Bool) (e : Option Ended) → Endless a (Left b e)) → (r : Reply) → Endless a r
  by_reply a p f g t c d e Plain = p
  by_reply a p f g t c d e (Found b) = f b
  by_reply a p f g t c d e (Got b) = g b
  by_reply a p f g t c d e (Told n) = t n
  by_reply a p f g t c d e (Came x) = c x
  by_reply a p f g t c d e (Compared b x) = d b x
  by_reply a p f g t c d e (Left b x) = e b x

  pub endless : (a : Act) → IsTaker a → (r : Reply) → (row a l taken r).ending ≡ None
  endless (act.Make f) is = by_reply (act.Make f) refl (λ b. refl) (λ b. refl) (λ n. refl) (λ x. refl) (λ b x. refl) (λ b e. refl)
  endless (act.Share i) is = by_reply (act.Share i) refl (λ b. refl) (λ b. refl) (λ n. refl) (λ x. refl) (λ b x. refl) (λ b e. refl)
  endless (act.Downgrade i) is =
      by_reply (act.Downgrade i) refl (λ b. refl) (λ b. refl) (λ n. refl) (λ x. refl) (λ b x. refl) (λ b e. refl)
  endless (act.Lock i must) is =
      by_reply (act.Lock i must) refl (λ b. refl) (λ b. refl) (λ n. refl) (λ x. refl) (λ b x. refl) (λ b e. refl)
  endless (act.FromThis i k) is =
      by_reply (act.FromThis i k) refl (λ b. refl) (λ b. refl) (λ n. refl) (λ x. refl) (λ b x. refl) (λ b e. refl)
  endless (act.Alias i j f) is =
      by_reply (act.Alias i j f) refl (λ b. refl) (λ b. refl) (λ n. refl) (λ x. refl) (λ b x. refl) (λ b e. refl)
  endless (act.Move i) is = by_reply (act.Move i) refl (λ b. refl) (λ b. refl) (λ n. refl) (λ x. refl) (λ b x. refl) (λ b e. refl)
  endless (act.Offer i c) is =
      by_reply (act.Offer i c) refl (λ b. refl) (λ b. refl) (λ n. refl) (λ x. refl) (λ b x. refl) (λ b e. refl)
  endless (act.Load c) is = by_reply (act.Load c) refl (λ b. refl) (λ b. refl) (λ n. refl) (λ x. refl) (λ b x. refl) (λ b e. refl)
  endless a is = λ r. absurd is
