use Rattle.std.proofs.Common.{◌≡◌, IfOk, Ok, Result, subst}
use Rattle.pointers.proofs.Prelude.{IsVisit, owned, pointed, Since}
use Rattle.std.specs.Fn.{FnOnceReturnsAtMut}
use Rattle.pointers.proofs.shared.Shared.visit.Goals as goal

-- what is said of a result's value, of the value that it has, and of what is seen
of_ok : {K A E : Type 0} (Does : K → A → Type 0) (k l : K) (r : Result A E) (a : A) → k ≡ l → r ≡ Ok a → IfOk r (Does k) → Does l a
of_ok Does k l r a seen is does = subst (λ x. Does x a) seen (subst (λ s. IfOk s (Does k)) is does)

pub returns-in-Ok-clause-done : goal.returns-in-Ok-clause-done
returns-in-Ok-clause-done g c =
    of_ok (λ k a. Since g.D.Domain.opened k (λ d e.
    IsVisit (λ was r becomes. FnOnceReturnsAtMut g.F.FnOnce c.args.f was r becomes) c.args.f d (owned k) (pointed k) (Ok a) e))
    c.self.inside.owner.known c.args.self.now c.visit-done.result c.in-Ok.answer c.self.view_is c.in-Ok.is c.visit-done.ensures.visit
