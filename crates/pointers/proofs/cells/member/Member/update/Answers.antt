use Rattle.std.proofs.Common.{of_calls, rules, ◌≡◌, Err, inl, inr, subst}
use Rattle.control_word.specs.declared.model.handle.Kind.TheVariants.{Owner}
use Rattle.pointers.specs.Places.{cell_at}
use Rattle.pointers.specs.Sites.{owner_of}
use Rattle.pointers.specs.Compares.{Shows}
use Rattle.pointers.proofs.Values.{fault_as, shows_by}
use Rattle.pointers.proofs.cells.member.Member.update.Goals as goal

pub loop-init : goal.loop-init
loop-init g c = (λ always. always, inl c.in_ok-now.ensures.loaded)

pub returns-in_err-old-clause-refused : goal.returns-in_err-old-clause-refused
returns-in_err-old-clause-refused g c =
    let o = g.D.Domain.opened in let s = c.args.self.now in
    let from = c.from_residual-in_err-old.ensures in
    let same : c.from_residual-in_err-old.result ≡ Err c.in_err-old.field-0.0 = search (from, rules) in
    let not = c.in_err-old.ensures.refused in
    fault_as _ _ _ same (inr (inl (record {
      found = not.0;
      shows = subst (Shows o (owner_of s) (cell_at o Owner s)) not.1 c.loop.invariant.1;
      refused = not.2;
    })))

pub loop-preserved-else-branch : goal.loop-preserved-else-branch
loop-preserved-else-branch g c = (
  search (of_calls, rules),
  shows_by _ _ _ _ _ _ _ _ _ c.if-branch.false c.in_ok-compare_exchange_strong.ensures.compared,
)

pub loop-preserved : goal.loop-preserved
loop-preserved g c = (
  search (of_calls, rules),
  shows_by _ _ _ _ _ _ _ _ _ c.if-branch.false c.in_ok-compare_exchange_strong.ensures.compared,
)

pub returns-in_err-compare_exchange_strong-clause-refused : goal.returns-in_err-compare_exchange_strong-clause-refused
returns-in_err-compare_exchange_strong-clause-refused g c =
    let from = c.from_residual-in_err-compare_exchange_strong.ensures in
    let same : c.from_residual-in_err-compare_exchange_strong.result ≡ Err c.in_err-compare_exchange_strong.field-0.0 = search (from, rules) in
    fault_as _ _ _ same (inr (inr (inr (inr c.in_err-compare_exchange_strong.ensures.refused))))
