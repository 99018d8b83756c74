use Rattle.std.proofs.Common.{IfSome, None, Option, Vec, ap, arith, get_or, length, refl, rules, subst, sym, true}
use Rattle.std.proofs.Common.{List, [], ◌++◌, ◌∷◌, ◌<◌, ◌≤◌, ◌≡◌, ◌∙◌, ℕ}
use Rattle.script_orders.specs.Coverage.{IsAfter, NameThreads, WasFound, acting_in}
use Rattle.script_orders.specs.Found.{outcomes_in}
use Rattle.script_orders.proofs.Adding.{in_some}
use Rattle.script_orders.proofs.Forking.{covers_end, forks_all, forks_next, forks_none, none_there, restored}
use Rattle.script_orders.proofs.Forking.{some_there}
use Rattle.script_orders.proofs.Going.{acting_at}
use Rattle.step_core.specs.Worlds.{WorldState, abstraction}
use Rattle.script_orders.proofs.coverage.+walk.Goals as goal

pub follow-requires : goal.follow-requires
follow-requires t c = c.requires.after

pub returns-in_default-clause-longer : goal.returns-in_default-clause-longer
returns-in_default-clause-longer t c = c.in_ok-now.ensures.longer

pub returns-then-is_empty-clause-longer : goal.returns-then-is_empty-clause-longer
returns-then-is_empty-clause-longer t c = c.in_ok-now.ensures.longer

pub returns-then-is_empty-clause-covers : goal.returns-then-is_empty-clause-covers
returns-then-is_empty-clause-covers t c = λ is.
    let script = c.args.found.now.script.now in
    let os = outcomes_in c.args.found.now.outcomes.now.found.entries in
    let n = length script.threads in
    let none : length c.in-Some.acting.items ≡ 0 = omega (arith, none_there _ c.if-is_empty.ensures) in
    c.in_ok-now.ensures.covers os
    (covers_end c.args.found.now.bytes.now script os c.follow.new.turns.items c.in-Some.acting.items c.follow.new.world
    c.requires.reads c.in_ok-now.ensures.after
    (in_some c.in_ok-now.now c.in-Some.acting (λ a. a.items ≡ acting_in (abstraction c.follow.new.world) n) c.in-Some.is
    c.in_ok-now.ensures.acting)
    none
    (subst (λ (l : List ℕ). WasFound c.args.found.now.bytes.now n os l) c.as_slice.ensures.value
    (c.in_ok-is_found.ensures.found is)))

pub returns-then-left-eq0-clause-longer : goal.returns-then-left-eq0-clause-longer
returns-then-left-eq0-clause-longer t c = c.in_ok-now.ensures.longer

pub loop-thread-init : goal.loop-thread-init
loop-thread-init t c =
    let script = c.args.found.now.script.now in
    let os = outcomes_in c.args.found.now.outcomes.now.found.entries in
    let less = in_some c.in_ok-now.now c.in-Some.acting (λ a. c.follow.new.left < c.args.left.now.beginnings) c.in-Some.is
    c.in_ok-now.ensures.less in
    record {
      forks =
          forks_none script os c.args.turns.now.items c.follow.new.turns.items c.as_slice-thread-items.result.now
          c.follow.new.world c.in_ok-now.ensures.after
          (c.as_slice-thread-items.ensures.value ∙ in_some c.in_ok-now.now c.in-Some.acting
          (λ a. a.items ≡ acting_in (abstraction c.follow.new.world) (length script.threads)) c.in-Some.is
          c.in_ok-now.ensures.acting)
          (c.in_ok-now.ensures.covers os) c.in_ok-now.ensures.longer;
      here = c.in_ok-now.ensures.after;
      size = omega (arith, c.len-length.ensures);
      less = less;
    }

pub after_act-requires : goal.after_act-requires
after_act-requires t c =
    let script = c.args.found.now.script.now in
    let inv = c.loop-thread.invariant in
    let value = c.as_slice-in-loop-thread.ensures.value in
    let slice = c.as_slice-in-loop-thread.result.now in
    let items = c.as_slice-thread-items.result.now in
    let i = c.loop-thread.thread-index in
    record {
      here =
          subst (λ (o : Option WorldState). IfSome o (λ world. IsAfter script slice world)) (sym c.take.ensures.value)
          (subst (λ (l : List ℕ). IfSome c.loop-thread.here (λ world. IsAfter script l world)) (sym value) inv.here);
      named = subst (λ (l : List ℕ). NameThreads (length script.threads) l) (sym value) inv.forks.after.named;
      thread =
          acting_at (abstraction inv.forks.world) (length script.threads) i (get_or items i 0) 0 items
          inv.forks.acting_is (omega arith) refl;
    }

pub walk-requires : goal.walk-requires
walk-requires t c =
    let script = c.args.found.now.script.now in
    let less = c.loop-thread.invariant.less in
    let x = get_or c.as_slice-thread-items.result.now c.loop-thread.thread-index 0 in (
      omega (arith, c.decreases, less),
      (
        c.requires.reads,
        subst (λ (l : List ℕ). IsAfter script l c.in_ok-next.next)
            (ap (λ (l : List ℕ). l ++ x ∷ []) c.as_slice-in-loop-thread.ensures.value ∙ sym c.in_ok-put.ensures.turns)
            c.in_ok-next.ensures.after,
      ),
    )

pub loop-thread-preserved : goal.loop-thread-preserved
loop-thread-preserved t c =
    let script = c.args.found.now.script.now in
    let os = outcomes_in c.args.found.now.outcomes.now.found.entries in
    let inv = c.loop-thread.invariant in
    let items = c.as_slice-thread-items.result.now in
    let i = c.loop-thread.thread-index in
    let turns = c.loop-thread.turns.items in
    let now = c.put.new.turns.items in
    let last = c.truncate.new.self.items in
    let put_is = c.in_ok-put.ensures.turns in
    let yes : c.in_ok-walk.field-0 ≡ true = search rules in
    let same : last ≡ turns =
    c.truncate.ensures.items ∙ restored turns now c.walk.new.turns.items (get_or items i 0) c.len-length.result
    (sym inv.size) put_is c.in_ok-walk.ensures.longer in
    let few = c.in_ok-walk.ensures.few in
    let less = inv.less in
    record {
      forks =
          forks_next script os c.args.turns.now.items turns items now last i inv.forks (omega arith) put_is
          (c.in_ok-walk.ensures.covers yes) same;
      here =
          subst (λ (o : Option WorldState). IfSome o (λ world. IsAfter script last world)) (sym c.take.ensures.after) tt;
      size = ap length same ∙ inv.size;
      less = omega (arith, few, less);
    }

pub returns-clause-covers : goal.returns-clause-covers
returns-clause-covers t c = λ is.
    let script = c.args.found.now.script.now in
    let os = outcomes_in c.args.found.now.outcomes.now.found.entries in
    let some : 0 < length c.as_slice-thread-items.result.now =
    omega (arith, c.as_slice-thread-items.ensures.len, some_there _ c.if-is_empty.ensures) in
    forks_all script os c.args.turns.now.items c.loop-thread.turns.items c.as_slice-thread-items.result.now
    c.loop-thread.thread-index c.loop-thread.invariant.forks (omega arith) some

pub returns-clause-longer : goal.returns-clause-longer
returns-clause-longer t c = c.loop-thread.invariant.forks.longer
