use Rattle.std.proofs.Common.{◌≡◌, ℕ, ◌+◌, ◌-◌, ◌≤◌, List, [], ◌∷◌, ◌++◌, Option, MatchOption, sym}
use Rattle.std.proofs.Common.{subst, arith}
use Rattle.step_threads.proofs.Prelude.{All, Block, from, heap_items, IsPermutation, numbers}
use Rattle.step_threads.proofs.Prelude.{StoreView}
use Rattle.step_threads.proofs.Stocks.{next_out, none_out, popped_valid, returned_out, went_out}
use Rattle.step_threads.specs.Stocks.{IsRange}
use Rattle.std.specs.declared.cmp.Reverse.{Reverse}
use Rattle.step_threads.proofs.stock.Stock.take_least.Goals as goal
use Rattle.step_threads.proofs.stock.Stock.take_least.Goals.{in-None, in-Some}

abbrev IsLeast : List ℕ → List ℕ → Option Block → Type 0
IsLeast old new r = MatchOption r (old ≡ []) (λ b. IsPermutation old (b.0 ∷ new) × All (λ c. b.0 ≤ c) old)

pub returns-then-takes_next-clause-least : goal.returns-then-takes_next-clause-least
returns-then-takes_next-clause-least c =
    let n = c.takes_next.ensures.next c.if-takes_next.true in
    let new = numbers (heap_items c.self.inside.returned) ++ from (c.self.inside.next + 1) (c.self.inside.end - (c.self.inside.next + 1)) in
    subst (λ (b : ℕ). IsPermutation c.args.self.now.blocks (b ∷ new) × All (λ c'. b ≤ c') c.args.self.now.blocks) (sym c.numbered-block.ensures)
    (subst (λ (s : StoreView). IsPermutation s.blocks (c.self.inside.next ∷ new) × All (λ c'. c.self.inside.next ≤ c') s.blocks) c.self.view_is
    (let o = next_out (heap_items c.self.inside.returned) c.self.inside.next c.self.inside.end n.0 n.1 in (o.rest, o.least)))

pub returns-clause-least : goal.returns-clause-least
returns-clause-least c =
    let new = numbers (heap_items c.pop.new.self) ++ from c.self.inside.next (c.self.inside.end - c.self.inside.next) in
    let few = c.takes_next.ensures.returned c.if-takes_next.false in
    elim c.match-pop.branch [
      | in-None w ↦
          subst (IsLeast c.args.self.now.blocks new) (sym w.result-is)
          (subst (λ (s : StoreView). s.blocks ≡ []) c.self.view_is
          (none_out (heap_items c.self.inside.returned) c.self.inside.next c.self.inside.end (let n = w.in-None.ensures.none in
          let o = c.self.inside.returned.data.ok in omega (arith, n, o.0)) few))
      | in-Some w ↦
          subst (IsLeast c.args.self.now.blocks new) (sym w.result-is)
          (subst (λ (b : ℕ). IsPermutation c.args.self.now.blocks (b ∷ new) × All (λ c. b ≤ c) c.args.self.now.blocks) (sym w.numbered.ensures)
          (subst (λ (s : StoreView). IsPermutation s.blocks (w.in-Some.field-0.0 ∷ new) × All (λ c. w.in-Some.field-0.0 ≤ c) s.blocks) c.self.view_is
          (let o = returned_out w.in-Some.field-0.0 (heap_items c.self.inside.returned) (heap_items c.pop.new.self) c.self.inside.next c.self.inside.end
          (went_out w.in-Some.field-0.0 (heap_items c.self.inside.returned)
          (heap_items c.pop.new.self) c.self.invariant.ordered w.in-Some.ensures.permutation w.in-Some.ensures.heap_order) few in (o.rest, o.least))))
    ]

pub invariant_of-self-2 : goal.invariant_of-self-2
invariant_of-self-2 c =
    let is = c.self.invariant in
    let old = heap_items c.self.inside.returned in
    let new = heap_items c.pop.new.self in
    elim c.match-pop.branch [
      | in-None w ↦ subst (λ (l : List (Reverse ℕ)). IsRange l c.self.inside.next c.self.inside.end) (sym w.in-None.ensures.unchanged.0) is
      | in-Some w ↦
          record {
            ordered = (w.in-Some.ensures.heap_order is.ordered).0;
            valid = (popped_valid w.in-Some.field-0.0 old new w.in-Some.ensures.permutation is.valid).1;
            some = is.some;
            within = is.within;
            few = is.few;
          }
    ]
