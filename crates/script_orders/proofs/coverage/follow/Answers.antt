use Rattle.std.proofs.Common.{[], append-nil, arith, length, subst, sym, ◌≡◌, ◌∙◌, ◌≤◌, ◌<◌, ℕ, List}
use Rattle.script_orders.specs.Coverage.{IsAfter, acting_in}
use Rattle.script_orders.proofs.Forking.{covers_back, longer_back}
use Rattle.script_orders.proofs.Going.{acting_at, after_more, thread_there}
use Rattle.step_core.specs.Worlds.{abstraction}
use Rattle.script_orders.proofs.coverage.follow.Goals as goal

pub loop-left-init : goal.loop-left-init
loop-left-init c = record {
  after = c.requires;
  covers = λ outcomes h. h;
  longer = ([], sym (append-nil c.args.turns.now.items));
  few = omega arith;
}

pub acting-requires : goal.acting-requires
acting-requires c = c.threads.ensures.number ∙ sym c.loop-left.invariant.after.threads

pub take_turn-requires-clause-rests : goal.take_turn-requires-clause-rests
take_turn-requires-clause-rests c = c.loop-left.invariant.after.rests

pub take_turn-requires-clause-thread : goal.take_turn-requires-clause-thread
take_turn-requires-clause-thread c =
    let script = c.args.script.now in
    let world = c.loop-left.world in
    let t = c.index-thread.result.now in
    let acting = c.in_ok-acting.acting.items in
    let one : length acting ≡ 1 = omega (arith, c.len.ensures, c.if-len-ne1.false) in
    let is : acting ≡ acting_in (abstraction world) (length script.threads) =
    subst (λ (n : ℕ). acting ≡ acting_in (abstraction world) n) c.threads.ensures.number c.in_ok-acting.ensures.acting in
    thread_there script c.loop-left.turns.items t world c.loop-left.invariant.after
    (acting_at (abstraction world) (length script.threads) 0 t t acting is (omega (arith, one)) c.index-thread.ensures)

pub loop-left-preserved : goal.loop-left-preserved
loop-left-preserved c =
    let script = c.args.script.now in
    let world = c.loop-left.world in
    let turns = c.loop-left.turns.items in
    let now = c.put.new.turns.items in
    let old = c.args.turns.now.items in
    let t = c.index-thread.result.now in
    let acting = c.in_ok-acting.acting.items in
    let inv = c.loop-left.invariant in
    let one : length acting ≡ 1 = omega (arith, c.len.ensures, c.if-len-ne1.false) in
    let is : acting ≡ acting_in (abstraction world) (length script.threads) =
    subst (λ (n : ℕ). acting ≡ acting_in (abstraction world) n) c.threads.ensures.number c.in_ok-acting.ensures.acting in
    let named =
    acting_at (abstraction world) (length script.threads) 0 t t acting is (omega (arith, one)) c.index-thread.ensures in
    let put_is = c.in_ok-put.ensures.turns in
    let few = inv.few in
    record {
      after =
          subst (λ (l : List ℕ). IsAfter script l c.take_turn.new.world) (sym put_is)
          (after_more script turns t world c.take_turn.new.world inv.after named c.take_turn.ensures.rests
          c.take_turn.ensures.size c.take_turn.ensures.takes);
      covers =
          covers_back script old turns now acting t t world inv.covers inv.after is one c.index-thread.ensures put_is;
      longer = longer_back old turns now t inv.longer put_is;
      few = omega (arith, few);
    }

pub returns-clause-covers : goal.returns-clause-covers
returns-clause-covers c = c.loop-left.invariant.covers
