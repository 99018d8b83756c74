use Rattle.std.proofs.Common.{◌<◌, false, None, sym, refl, ◌∙◌, subst}
use Rattle.control_block.proofs.Prelude.{At, Compare, handle, IsWordOf, kind_in, tells}
use Rattle.control_block.proofs.cells.CellRetries.{unmoved_alike, word_alike, word_differs}
use Rattle.control_block.proofs.cells.CellTries.{aim_at, differs_none, hand_of_kind, hands_at}
use Rattle.control_block.proofs.cells.CellTries.{none_shown, offer_at, out_empty, out_since}
use Rattle.control_block.proofs.cells.CellTries.{room_at}
use Rattle.control_block.proofs.retries.compares.try_compare.Goals as goal
use Rattle.control_word.specs.HandleWords.{cell_of_handle}
use Rattle.control_word.specs.Limits.{cell_funds}

pub look_differing-seen-requires-clause-table : goal.look_differing-seen-requires-clause-table
look_differing-seen-requires-clause-table g c = c.requires.aim.table

pub look_differing-seen-requires-clause-rests : goal.look_differing-seen-requires-clause-rests
look_differing-seen-requires-clause-rests g c = c.requires.aim.rests

pub look_differing-seen-requires-clause-word : goal.look_differing-seen-requires-clause-word
look_differing-seen-requires-clause-word g c = c.requires.aim.word

pub look_differing-seen-requires-clause-cell : goal.look_differing-seen-requires-clause-cell
look_differing-seen-requires-clause-cell g c = c.requires.aim.cell

pub look_differing-seen-requires-clause-expected : goal.look_differing-seen-requires-clause-expected
look_differing-seen-requires-clause-expected g c = hand_of_kind g.A.CellArgs.expected c.requires.aim c.requires.offer.expected_hand

pub look_differing-seen-requires-clause-hand : goal.look_differing-seen-requires-clause-hand
look_differing-seen-requires-clause-hand g c = hand_of_kind g.A.CellArgs.new c.requires.aim c.requires.offer.new_hand

pub try_swap-requires-clause-aim : goal.try_swap-requires-clause-aim
try_swap-requires-clause-aim g c =
    let r = c.requires in let l = c.look_differing-seen.ensures in let x = c.look_differing-seen.result in let h = g.A.CellArgs.expected in
    let a = c.if-is_alike.ensures.alike refl in let me = c.args.seat.now.me in let me' = c.look_differing-seen.new.seat.me in
    let same = unmoved_alike me me' c.args.kind h x (cell_of_handle c.args.offer.0) r.expected a.0 a.1 l.alike l.same in
    aim_at r.aim l.seat.0 same

pub try_swap-requires-clause-seen : goal.try_swap-requires-clause-seen
try_swap-requires-clause-seen g c =
    let r = c.requires in let l = c.look_differing-seen.ensures in let x = c.look_differing-seen.result in let h = g.A.CellArgs.expected in
    let a = c.if-is_alike.ensures.alike refl in let me = c.args.seat.now.me in let me' = c.look_differing-seen.new.seat.me in
    let same = unmoved_alike me me' c.args.kind h x (cell_of_handle c.args.offer.0) r.expected a.0 a.1 l.alike l.same in
    (l.cell, subst (λ (y : At g.row.V.Denot). IsWordOf y.0 h x) (sym same) (word_alike me.0 h x (cell_of_handle c.args.offer.0) r.expected a.0 a.1))

pub try_swap-requires-clause-offer : goal.try_swap-requires-clause-offer
try_swap-requires-clause-offer g c =
    let r = c.requires in let l = c.look_differing-seen.ensures in let x = c.look_differing-seen.result in let h = g.A.CellArgs.expected in
    let a = c.if-is_alike.ensures.alike refl in let me = c.args.seat.now.me in let me' = c.look_differing-seen.new.seat.me in
    let same = unmoved_alike me me' c.args.kind h x (cell_of_handle c.args.offer.0) r.expected a.0 a.1 l.alike l.same in
    offer_at me me' r.offer same

pub returns-then-try_swap-clause-table : goal.returns-then-try_swap-clause-table
returns-then-try_swap-clause-table g c =
    c.try_swap.ensures.table ∙ c.look_differing-seen.ensures.seat.0

pub returns-then-try_swap-clause-compared : goal.returns-then-try_swap-clause-compared
returns-then-try_swap-clause-compared g c =
    let r = c.requires in let l = c.look_differing-seen.ensures in let x = c.look_differing-seen.result in let h = g.A.CellArgs.expected in
    let a = c.if-is_alike.ensures.alike refl in let me = c.args.seat.now.me in let me' = c.look_differing-seen.new.seat.me in
    let same = unmoved_alike me me' c.args.kind h x (cell_of_handle c.args.offer.0) r.expected a.0 a.1 l.alike l.same in
    out_since (c.try_swap.ensures.swapped c.if-try_swap.true) same

pub returns-then-try_swap-clause-missed : goal.returns-then-try_swap-clause-missed
returns-then-try_swap-clause-missed g c =
    λ none. absurd (cc none)

pub returns-then-is_alike-clause-table : goal.returns-then-is_alike-clause-table
returns-then-is_alike-clause-table g c =
    c.try_swap.ensures.table ∙ c.look_differing-seen.ensures.seat.0

pub returns-then-is_alike-clause-compared : goal.returns-then-is_alike-clause-compared
returns-then-is_alike-clause-compared g c =
    tt

pub returns-then-is_alike-clause-missed : goal.returns-then-is_alike-clause-missed
returns-then-is_alike-clause-missed g c =
    λ _. let r = c.requires in let l = c.look_differing-seen.ensures in let x = c.look_differing-seen.result in let h = g.A.CellArgs.expected in
    let a = c.if-is_alike.ensures.alike refl in let me = c.args.seat.now.me in let me' = c.look_differing-seen.new.seat.me in
    let same = unmoved_alike me me' c.args.kind h x (cell_of_handle c.args.offer.0) r.expected a.0 a.1 l.alike l.same in
    c.try_swap.ensures.missed c.if-try_swap.false ∙ same

pub returns-in_default-clause-table : goal.returns-in_default-clause-table
returns-in_default-clause-table g c =
    c.look_differing-seen.ensures.seat.0

pub returns-in_default-clause-compared : goal.returns-in_default-clause-compared
returns-in_default-clause-compared g c =
    let r = c.requires in let l = c.look_differing-seen.ensures in let x = c.look_differing-seen.result in let a = g.A.CellArgs in let v = c.args.seat.now.me.0
    in
    let none = (sym c.owned.ensures.owned ∙ c.in_default.is) in let k = c.args.kind in let me' = c.look_differing-seen.new.seat.me in
    let differs = differs_none v (kind_in v.shape a.cell) a.expected x (cell_of_handle c.args.offer.0) r.expected (c.if-is_alike.ensures.differs refl) none in
    let told = subst (λ y. tells (Compare a.cell a.expected a.new (handle y None x.place) false a.weak) v me'.0) (sym r.aim.kind) (l.event none differs) in
    out_empty (λ h. Compare a.cell a.expected a.new h false a.weak) k v x me' l.cell none told r.aim.rests.awake l.seat.2

pub returns-in_default-clause-missed : goal.returns-in_default-clause-missed
returns-in_default-clause-missed g c =
    λ none. absurd (cc none)

pub returns-then-taken-ge-CELL_FUNDS-clause-table : goal.returns-then-taken-ge-CELL_FUNDS-clause-table
returns-then-taken-ge-CELL_FUNDS-clause-table g c =
    c.look_differing-seen.ensures.seat.0

pub returns-then-taken-ge-CELL_FUNDS-clause-compared : goal.returns-then-taken-ge-CELL_FUNDS-clause-compared
returns-then-taken-ge-CELL_FUNDS-clause-compared g c =
    tt

pub returns-then-taken-ge-CELL_FUNDS-clause-missed : goal.returns-then-taken-ge-CELL_FUNDS-clause-missed
returns-then-taken-ge-CELL_FUNDS-clause-missed g c =
    λ _. c.look_differing-seen.ensures.same (none_shown (sym c.in-Some.ensures.owned))

pub take_out-requires-clause-aim : goal.take_out-requires-clause-aim
take_out-requires-clause-aim g c =
    let r = c.requires in let l = c.look_differing-seen.ensures in let same = l.same (none_shown (sym c.in-Some.ensures.owned)) in
    aim_at r.aim l.seat.0 same

pub take_out-requires-clause-seen : goal.take_out-requires-clause-seen
take_out-requires-clause-seen g c =
    (c.look_differing-seen.ensures.cell, (sym c.in-Some.ensures.owned), subst (λ n. n < cell_funds) c.taken.ensures c.if-taken-ge-CELL_FUNDS.false)

pub take_out-requires-clause-room : goal.take_out-requires-clause-room
take_out-requires-clause-room g c =
    let r = c.requires in let l = c.look_differing-seen.ensures in let same = l.same (none_shown (sym c.in-Some.ensures.owned)) in
    room_at c.look_differing-seen.new.seat.me c.args.seat.now.me same r.offer.room

pub take_out-requires-clause-hands : goal.take_out-requires-clause-hands
take_out-requires-clause-hands g c =
    let r = c.requires in let l = c.look_differing-seen.ensures in let same = l.same (none_shown (sym c.in-Some.ensures.owned)) in
    let me = c.args.seat.now.me in let me' = c.look_differing-seen.new.seat.me in let k = c.args.kind in
    (hands_at me' me k g.A.CellArgs.expected same r.offer.expected_hand, hands_at me' me k g.A.CellArgs.new same r.offer.new_hand)

pub take_out-requires-clause-differs : goal.take_out-requires-clause-differs
take_out-requires-clause-differs g c =
    let r = c.requires in let l = c.look_differing-seen.ensures in let same = l.same (none_shown (sym c.in-Some.ensures.owned)) in
    word_differs c.look_differing-seen.new.seat.me.0 g.A.CellArgs.expected c.look_differing-seen.result (cell_of_handle c.args.offer.0)
    (subst (λ (y : At g.row.V.Denot). IsWordOf y.0 g.A.CellArgs.expected (cell_of_handle c.args.offer.0)) (sym same) r.expected)
    (c.if-is_alike.ensures.differs refl)

pub returns-then-take_out-clause-table : goal.returns-then-take_out-clause-table
returns-then-take_out-clause-table g c =
    c.take_out.ensures.table ∙ c.look_differing-seen.ensures.seat.0

pub returns-then-take_out-clause-compared : goal.returns-then-take_out-clause-compared
returns-then-take_out-clause-compared g c =
    let r = c.requires in let l = c.look_differing-seen.ensures in let same = l.same (none_shown (sym c.in-Some.ensures.owned)) in
    out_since (c.take_out.ensures.differed c.if-take_out.true) same

pub returns-then-take_out-clause-missed : goal.returns-then-take_out-clause-missed
returns-then-take_out-clause-missed g c =
    λ none. absurd (cc none)

pub returns-clause-table : goal.returns-clause-table
returns-clause-table g c =
    c.take_out.ensures.table ∙ c.look_differing-seen.ensures.seat.0

pub returns-clause-compared : goal.returns-clause-compared
returns-clause-compared g c =
    tt

pub returns-clause-missed : goal.returns-clause-missed
returns-clause-missed g c =
    λ _. c.take_out.ensures.missed c.if-take_out.false ∙ c.look_differing-seen.ensures.same (none_shown (sym c.in-Some.ensures.owned))
