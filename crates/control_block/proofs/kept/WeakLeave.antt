-- Weak leave: one weak handle less is allowed; the block is vacant just where the whole word was all that is taken from it.
use Rattle.std.proofs.Common.{◌≡◌, ℕ, ◌+◌, ◌-◌, ◌*◌, ◌%◌, ◌^◌, ◌<◌, get_or, ◌==◌, Option, refl}
use Rattle.control_block.proofs.Prelude.{Allows, At, Idle, MayLeave, none, Place, Ruled, Shape}
use Rattle.control_block.proofs.Prelude.{spot, step, Weak, weak_of, WeakLeave}
use Rattle.control_block.specs.StepKinds.{weakly_left}
use Rattle.control_block.proofs.Passage.{allows_event, plain}
use Rattle.control_block.proofs.kept.MayLeave.{may_awake, may_empty, may_stand}

module _ {V : Type 0} where
  pub allows_weak_leave : (k : Shape) (slots id b o i a f : ℕ) (p : Option Place) (me : At V) → 0 < b → MayLeave me Weak o p b f → i ≡ spot b 1
      → a ≡ f * 4294967296 + 1
      → Allows (Ruled k) slots id me i (λ n. (n + (2 ^ 64 - a)) % 2 ^ 64) (weakly_left o p (step slots i a 0 none) me)
  allows_weak_leave k slots id b o i a f p me pos may e amount =
      allows_event k slots id i me (λ n. (n + (2 ^ 64 - a)) % 2 ^ 64) (λ n. WeakLeave (weak_of o p) (n == a)) Idle (may_awake me Weak o p b f may)
      (may_empty me Weak o p b f may) (λ n. plain (λ s d. refl) (λ s d. refl) (λ s f. refl))
      (λ s r at small. may_stand k s r id me at Weak o b f p i a (get_or s.words i 0 == a) pos may e amount small refl)
