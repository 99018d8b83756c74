use Rattle.std.proofs.Common.{ℕ, ◌-◌, ◌∷◌, ◌++◌, sym, ◌∙◌, subst}
use Rattle.step_threads.proofs.Prelude.{from, heap_items, IsPermutation, numbers, StoreView}
use Rattle.step_threads.proofs.Stocks.{on_ok, pushed, pushed_valid}
use Rattle.step_threads.specs.Stocks.{IsNumber}
use Rattle.step_threads.proofs.stock.Stock.put.Goals as goal

pub returns-clause-blocks : goal.returns-clause-blocks
returns-clause-blocks c =
    let p = on_ok c.push.result (sym c.is_err.ensures.value ∙ c.if-is_err.false) c.push.ensures.permutation in
    let range = from c.self.inside.next (c.self.inside.end - c.self.inside.next) in
    let new = numbers (heap_items c.push.new.self) ++ range in
    subst (λ (n : ℕ). IsPermutation (n ∷ c.args.self.now.blocks) new) c.number.ensures
    (subst (λ (s : StoreView). IsPermutation (c.number.result ∷ s.blocks) new) c.self.view_is
    (pushed c.number.result (heap_items c.self.inside.returned) (heap_items c.push.new.self) range p))

pub invariant_of-self : goal.invariant_of-self
invariant_of-self c =
    let ok = sym c.is_err.ensures.value ∙ c.if-is_err.false in
    let p = on_ok c.push.result ok c.push.ensures.permutation in
    let is = c.self.invariant in
    record {
      ordered = on_ok c.push.result ok c.push.ensures.heap_order is.ordered;
      valid =
          pushed_valid c.number.result (heap_items c.self.inside.returned) (heap_items c.push.new.self) p
          (subst (λ (n : ℕ). IsNumber n) (sym c.number.ensures) c.requires.0) is.valid;
      some = is.some;
      within = is.within;
      few = is.few;
    }
