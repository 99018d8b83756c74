use Rattle.std.proofs.Common.{◌≡◌, true, is_some, subst, inr}
use Rattle.step_threads.proofs.Prelude.{Act, Brought, Exchange, going, hand, IsNext, model_state}
use Rattle.step_threads.proofs.Prelude.{new_of, owing_for, pending, PendingCall, Swap}
use Rattle.step_threads.proofs.StoreFits.{act_here, going_parts, pending_call_here}
use Rattle.step_threads.proofs.thread.Thread.put_in.Goals as goal

pub swap-requires-clause-fits : goal.swap-requires-clause-fits
swap-requires-clause-fits c = c.requires.fits

pub swap-requires-clause-pending_call : goal.swap-requires-clause-pending_call
swap-requires-clause-pending_call c = inr c.requires.pending_call

pub swap-requires-clause-none : goal.swap-requires-clause-none
swap-requires-clause-none c =
    let d = c.args.desk in
    let t = c.args.self.now in
    let v = c.args.table.now in
    let r = c.requires in
    let slots = t.frame.registers.slots.items in
    let next : IsNext Brought t.frame = subst (λ (h : PendingCall). IsNext h t.frame) r.pending_call r.fits.next in
    next.2

pub swap-requires-clause-within : goal.swap-requires-clause-within
swap-requires-clause-within c =
    let d = c.args.desk in
    let t = c.args.self.now in
    let v = c.args.table.now in
    let r = c.requires in
    let slots = t.frame.registers.slots.items in
    let next : IsNext Brought t.frame = subst (λ (h : PendingCall). IsNext h t.frame) r.pending_call r.fits.next in
    next.0

pub swap-requires-clause-act : goal.swap-requires-clause-act
swap-requires-clause-act c =
    let d = c.args.desk in
    let t = c.args.self.now in
    let v = c.args.table.now in
    let r = c.requires in
    let slots = t.frame.registers.slots.items in
    let next : IsNext Brought t.frame = subst (λ (h : PendingCall). IsNext h t.frame) r.pending_call r.fits.next in
    act_here t.frame c.index.result.now (Swap c.in-Swap.cell) next.0 c.index.ensures c.in-Swap.is

pub swap-requires-clause-there : goal.swap-requires-clause-there
swap-requires-clause-there c =
    let d = c.args.desk in
    let t = c.args.self.now in
    let v = c.args.table.now in
    let r = c.requires in
    let slots = t.frame.registers.slots.items in
    let next : IsNext Brought t.frame = subst (λ (h : PendingCall). IsNext h t.frame) r.pending_call r.fits.next in
    let is = act_here t.frame c.index.result.now (Swap c.in-Swap.cell) next.0 c.index.ensures c.in-Swap.is in
    (going_parts slots c.in-Swap.cell (hand slots) (subst (λ (a : Act). is_some (going slots a) ≡ true) is next.1)).0

pub swap-requires-clause-kind : goal.swap-requires-clause-kind
swap-requires-clause-kind c =
    let d = c.args.desk in
    let t = c.args.self.now in
    let v = c.args.table.now in
    let r = c.requires in
    let slots = t.frame.registers.slots.items in
    let next : IsNext Brought t.frame = subst (λ (h : PendingCall). IsNext h t.frame) r.pending_call r.fits.next in
    let is = act_here t.frame c.index.result.now (Swap c.in-Swap.cell) next.0 c.index.ensures c.in-Swap.is in
    (going_parts slots c.in-Swap.cell (hand slots) (subst (λ (a : Act). is_some (going slots a) ≡ true) is next.1)).1

pub swap-requires-clause-owes : goal.swap-requires-clause-owes
swap-requires-clause-owes c =
    let d = c.args.desk in
    let t = c.args.self.now in
    let v = c.args.table.now in
    let r = c.requires in
    let slots = t.frame.registers.slots.items in
    let next : IsNext Brought t.frame = subst (λ (h : PendingCall). IsNext h t.frame) r.pending_call r.fits.next in
    let is = act_here t.frame c.index.result.now (Swap c.in-Swap.cell) next.0 c.index.ensures c.in-Swap.is in
    subst (λ (a : Act). pending v d ≡ owing_for (model_state v) (new_of slots a) 256) is (pending_call_here d t v Brought r.fits r.pending_call)

pub returns-in-Swap-clause-stepped : goal.returns-in-Swap-clause-stepped
returns-in-Swap-clause-stepped c = c.swap.ensures.stepped

pub returns-in-Swap-clause-fits : goal.returns-in-Swap-clause-fits
returns-in-Swap-clause-fits c = c.swap.ensures.fits

pub exchange-requires-clause-fits : goal.exchange-requires-clause-fits
exchange-requires-clause-fits c = c.requires.fits

pub exchange-requires-clause-pending_call : goal.exchange-requires-clause-pending_call
exchange-requires-clause-pending_call c = inr c.requires.pending_call

pub exchange-requires-clause-none : goal.exchange-requires-clause-none
exchange-requires-clause-none c =
    let d = c.args.desk in
    let t = c.args.self.now in
    let v = c.args.table.now in
    let r = c.requires in
    let slots = t.frame.registers.slots.items in
    let next : IsNext Brought t.frame = subst (λ (h : PendingCall). IsNext h t.frame) r.pending_call r.fits.next in
    next.2

pub exchange-requires-clause-within : goal.exchange-requires-clause-within
exchange-requires-clause-within c =
    let d = c.args.desk in
    let t = c.args.self.now in
    let v = c.args.table.now in
    let r = c.requires in
    let slots = t.frame.registers.slots.items in
    let next : IsNext Brought t.frame = subst (λ (h : PendingCall). IsNext h t.frame) r.pending_call r.fits.next in
    next.0

pub exchange-requires-clause-act : goal.exchange-requires-clause-act
exchange-requires-clause-act c =
    let d = c.args.desk in
    let t = c.args.self.now in
    let v = c.args.table.now in
    let r = c.requires in
    let slots = t.frame.registers.slots.items in
    let next : IsNext Brought t.frame = subst (λ (h : PendingCall). IsNext h t.frame) r.pending_call r.fits.next in
    act_here t.frame c.index.result.now (Exchange c.in-Exchange.name c.in-Exchange.cell) next.0 c.index.ensures c.in-Exchange.is

pub exchange-requires-clause-there : goal.exchange-requires-clause-there
exchange-requires-clause-there c =
    let d = c.args.desk in
    let t = c.args.self.now in
    let v = c.args.table.now in
    let r = c.requires in
    let slots = t.frame.registers.slots.items in
    let next : IsNext Brought t.frame = subst (λ (h : PendingCall). IsNext h t.frame) r.pending_call r.fits.next in
    let is = act_here t.frame c.index.result.now (Exchange c.in-Exchange.name c.in-Exchange.cell) next.0 c.index.ensures c.in-Exchange.is in
    (going_parts slots c.in-Exchange.cell c.in-Exchange.name (subst (λ (a : Act). is_some (going slots a) ≡ true) is next.1)).0

pub exchange-requires-clause-kind : goal.exchange-requires-clause-kind
exchange-requires-clause-kind c =
    let d = c.args.desk in
    let t = c.args.self.now in
    let v = c.args.table.now in
    let r = c.requires in
    let slots = t.frame.registers.slots.items in
    let next : IsNext Brought t.frame = subst (λ (h : PendingCall). IsNext h t.frame) r.pending_call r.fits.next in
    let is = act_here t.frame c.index.result.now (Exchange c.in-Exchange.name c.in-Exchange.cell) next.0 c.index.ensures c.in-Exchange.is in
    (going_parts slots c.in-Exchange.cell c.in-Exchange.name (subst (λ (a : Act). is_some (going slots a) ≡ true) is next.1)).1

pub exchange-requires-clause-owes : goal.exchange-requires-clause-owes
exchange-requires-clause-owes c =
    let d = c.args.desk in
    let t = c.args.self.now in
    let v = c.args.table.now in
    let r = c.requires in
    let slots = t.frame.registers.slots.items in
    let next : IsNext Brought t.frame = subst (λ (h : PendingCall). IsNext h t.frame) r.pending_call r.fits.next in
    let is = act_here t.frame c.index.result.now (Exchange c.in-Exchange.name c.in-Exchange.cell) next.0 c.index.ensures c.in-Exchange.is in
    subst (λ (a : Act). pending v d ≡ owing_for (model_state v) (new_of slots a) 256) is (pending_call_here d t v Brought r.fits r.pending_call)

pub returns-in-Exchange-clause-stepped : goal.returns-in-Exchange-clause-stepped
returns-in-Exchange-clause-stepped c = c.exchange.ensures.stepped

pub returns-in-Exchange-clause-fits : goal.returns-in-Exchange-clause-fits
returns-in-Exchange-clause-fits c = c.exchange.ensures.fits
