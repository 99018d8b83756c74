use Rattle.std.proofs.Common.{◌≡◌, ◌+◌, true, false, None, sym, ◌∙◌, subst, arith}
use Rattle.script_runner.proofs.Prelude.{is_full, IsDealt, SetsKind, slot_pointer, thread_slots}
use Rattle.script_runner.specs.SlotCalls as calls
use Rattle.step_threads.specs.declared.programs.act.Act.TheVariants as act
use Rattle.script_runner.proofs.Emptying as kinds
use Rattle.script_runner.proofs.Parting as law
use Rattle.script_runner.proofs.Refusals.{handle_there}
use Rattle.script_runner.proofs.acts.leaves.put.Goals as goal

pub returns-then-not-taken-clause-acts : goal.returns-then-not-taken-clause-acts
returns-then-not-taken-clause-acts g c =
    let t = c.args.table.now in
    subst (λ b. IsDealt c.args.hand t b (act.Put c.args.name) (law.left b None) t) (sym c.if-not-taken.true)
    (law.put_none c.args.hand c.args.name t)

pub returns-then-busy-clause-acts : goal.returns-then-busy-clause-acts
returns-then-busy-clause-acts g c =
    let t = c.args.table.now in
    let lt = c.requires.name in
    let full : is_full (slot_pointer (thread_slots c.args.hand t) c.args.name) ≡ true =
    subst (λ j. is_full (slot_pointer (thread_slots c.args.hand t) j) ≡ c.is_full-busy.result) c.from.ensures
    (c.is_full-busy.ensures (c.args.hand + 1) (let b = c.from.ensures in omega (arith, lt, b))) ∙ c.if-busy.true in
    subst (λ b. IsDealt c.args.hand t b (act.Put c.args.name) (law.left false c.top_of-top.result) c.top_of-top.new.table) (sym c.if-not-taken.false)
    (law.put_top c.args.hand t c.move_to.new.self c.top_of-top.new.table c.requires.seated c.requires.settled c.args.name c.top_of-top.result lt full
    (subst (λ j. calls.MovesSlot t c.args.hand j c.move_to.new.self) c.from-2.ensures c.move_to.ensures) c.top_of-top.ensures.none
    c.top_of-top.ensures.told
    c.top_of-top.ensures.same)

pub returns-else-busy-clause-acts : goal.returns-else-busy-clause-acts
returns-else-busy-clause-acts g c =
    let t = c.args.table.now in
    let lt = c.requires.name in
    let full : is_full (slot_pointer (thread_slots c.args.hand t) c.args.name) ≡ false =
    subst (λ j. is_full (slot_pointer (thread_slots c.args.hand t) j) ≡ c.is_full-busy.result) c.from.ensures
    (c.is_full-busy.ensures (c.args.hand + 1) (let b = c.from.ensures in omega (arith, lt, b))) ∙ c.if-busy.false in
    subst (λ b. IsDealt c.args.hand t b (act.Put c.args.name) (law.left false None) c.top_of-top.new.table) (sym c.if-not-taken.false)
    (subst (λ v. IsDealt c.args.hand t true (act.Put c.args.name) (law.left false None) v) (sym c.top_of-top.ensures.same)
    (law.put_free c.args.hand t c.move_to.new.self c.requires.seated c.requires.settled c.args.name lt full
    (subst (λ j. calls.MovesSlot t c.args.hand j c.move_to.new.self) c.from-2.ensures c.move_to.ensures)))

pub returns-then-busy-clause-kinds : goal.returns-then-busy-clause-kinds
returns-then-busy-clause-kinds g c taken =
    let t = c.args.table.now in
    let k = c.requires.kind in
    subst (λ v. SetsKind c.args.hand None t v) (sym c.top_of-top.ensures.same)
    (kinds.put_set t c.move_to.new.self c.args.hand c.args.name k.0 c.requires.name (c.requires.full taken k.0 k.1) k.1
    (subst (λ j. calls.MovesSlot t c.args.hand j c.move_to.new.self) c.from-2.ensures c.move_to.ensures))

pub returns-then-busy-clause-idle : goal.returns-then-busy-clause-idle
returns-then-busy-clause-idle g c free = let e = sym free ∙ c.if-not-taken.false in absurd cc

pub returns-else-busy-clause-kinds : goal.returns-else-busy-clause-kinds
returns-else-busy-clause-kinds g c taken =
    let t = c.args.table.now in
    let k = c.requires.kind in
    subst (λ v. SetsKind c.args.hand None t v) (sym c.top_of-top.ensures.same)
    (kinds.put_set t c.move_to.new.self c.args.hand c.args.name k.0 c.requires.name (c.requires.full taken k.0 k.1) k.1
    (subst (λ j. calls.MovesSlot t c.args.hand j c.move_to.new.self) c.from-2.ensures c.move_to.ensures))

pub returns-else-busy-clause-idle : goal.returns-else-busy-clause-idle
returns-else-busy-clause-idle g c free = let e = sym free ∙ c.if-not-taken.false in absurd cc

pub move_to-requires-clause-from : goal.move_to-requires-clause-from
move_to-requires-clause-from g c =
    let k = c.requires.kind in handle_there c.args.table.now.slots c.args.hand k.0 (c.requires.full c.if-not-taken.false k.0 k.1)
