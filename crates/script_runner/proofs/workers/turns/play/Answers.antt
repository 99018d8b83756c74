use Rattle.std.proofs.Common.{◌≡◌, ◌+◌, ◌≤◌, length, drop, refl, ◌∙◌, subst, arith}
use Rattle.script_runner.proofs.Prelude.{MayGoOn, PlaysOn}
use Rattle.std.proofs.lemmas.List.{drop_all}
use Rattle.script_runner.proofs.Played as played
use Rattle.script_runner.proofs.Playing as playing
use Rattle.script_runner.proofs.workers.turns.play.Goals as goal

pub loop-init : goal.loop-init
loop-init g c =
    let ks = c.args.kinds.now.items in (
      played.none_played (length ks + 1) c.args.table.now c.args.tasks.now.items c.args.log.now,
      c.requires.going,
      (refl, refl),
      refl,
      omega arith,
    )

pub step-at-requires : goal.step-at-requires
step-at-requires g c =
    let ks = c.args.kinds.now.items in
    let hand : length ks + 1 ≡ c.len-hand.result + 1 = let a = c.len-hand.ensures in let ok = c.args.kinds.now.ok in omega (arith, a, ok) in
    record {
      going = subst (λ h. MayGoOn ks h c.loop.log.taken c.loop.table (drop c.loop.at c.args.tasks.now.items)) hand c.loop.invariant.1;
    }

pub loop-preserved : goal.loop-preserved
loop-preserved g c =
    let ks = c.args.kinds.now.items in
    let xs = c.args.tasks.now.items in
    let hand : c.len-hand.result + 1 ≡ length ks + 1 = let a = c.len-hand.ensures in let ok = c.args.kinds.now.ok in omega (arith, a, ok) in
    let s = c.step-at.ensures in
    let is = c.loop.invariant in
    let rest = drop c.step-at.result xs in (
      played.played_then (length ks + 1) c.args.table.now c.loop.table c.step-at.new.table xs (drop c.loop.at xs) rest c.args.log.now c.loop.log
          c.step-at.new.self is.0
          (subst (λ h. PlaysOn h c.loop.table (drop c.loop.at xs) c.loop.log c.step-at.new.table rest c.step-at.new.self) hand s.goes),
      subst (λ h. MayGoOn ks h c.step-at.new.self.taken c.step-at.new.table rest) hand s.going,
      (s.limits.0 ∙ is.2.0, s.limits.1 ∙ is.2.1),
      s.book ∙ is.3,
      playing.further c.loop.counter c.loop.at c.step-at.result (length xs) is.4
          (let a = c.loop-test.true in let b = c.len-end.ensures in let ok = c.args.tasks.now.ok in omega (arith, a, b, ok)) s.on s.stays,
    )

pub returns-clause-goes : goal.returns-clause-goes
returns-clause-goes g c =
    let ks = c.args.kinds.now.items in
    let xs = c.args.tasks.now.items in
    let is = c.loop.invariant in
    let all : length xs ≤ c.loop.at =
    let a = c.loop-test.false in let b = c.len-end.ensures in let ok = c.args.tasks.now.ok in let d = is.4 in omega (arith, a, b, ok, d) in
    subst (λ l. PlaysOn (length ks + 1) c.args.table.now xs c.args.log.now c.loop.table l c.loop.log) (drop_all c.loop.at xs all) is.0

pub returns-clause-going : goal.returns-clause-going
returns-clause-going g c =
    let ks = c.args.kinds.now.items in
    let xs = c.args.tasks.now.items in
    let is = c.loop.invariant in
    let all : length xs ≤ c.loop.at =
    let a = c.loop-test.false in let b = c.len-end.ensures in let ok = c.args.tasks.now.ok in let d = is.4 in omega (arith, a, b, ok, d) in
    subst (λ l. MayGoOn ks (length ks + 1) c.loop.log.taken c.loop.table l) (drop_all c.loop.at xs all) is.1

pub returns-clause-limits : goal.returns-clause-limits
returns-clause-limits g c = c.loop.invariant.2

pub returns-clause-book : goal.returns-clause-book
returns-clause-book g c = c.loop.invariant.3
