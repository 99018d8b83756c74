use Rattle.std.proofs.Common.{ℕ, subst, sym}
use Rattle.control_block.specs.Desks.{DeskNow}
use Rattle.shared_handle.specs.Endings.{EndsInHand}
use Rattle.shared_handle.proofs.Callers.{ends_kept}
use Rattle.handle_tests.proofs.ending.this.end_with_a_weak_handle.Goals as goal

pub end_of-value-requires-clause-ends : goal.end_of-value-requires-clause-ends
end_of-value-requires-clause-ends c =
    let x = c.in-Last.ending in
    let first = subst (λ (d : DeskNow ℕ). EndsInHand d x) (sym c.last_words-clear.ensures.same) c.in-Last.ensures.left.2 in
    ends_kept _ _ x c.expired-expired.ensures.keeps.endings (ends_kept _ _ x c.in-Ok.ensures.keeps.endings first)
