use Rattle.std.proofs.Common.{◌≡◌, Some, sym, ap, ◌∙◌, arith}
use Rattle.std.proofs.lemmas.List.Elements.{All-pop}
use Rattle.ownership_ledger.proofs.Parts.{joins}
use Rattle.ownership_ledger.proofs.totals.join_all.Goals as goal

pub join_seat-requires : goal.join_seat-requires
join_seat-requires c =
    let i = c.loop-other.invariant in
    let popped = Some c.in-Some-pop.other in
    let items = c.in-Some-pop.ensures.items in
    let of_book = All-pop (λ s. s.book ≡ c.args.book.now.id) _ _ popped items i.of_book in
    let table = sym (ap (λ b. b.id) c.book.view_is) in (
      i.table ∙ table,
      ap (λ s. s.book) c.other.view_is ∙ (of_book.1 ∙ table),
      c.other.invariant.no_slot,
      omega (arith, c.book.invariant.words),
      joins c.book.inside.table.shared.key _ _ c.loop-other.seat.me.0 c.other.inside.seat.me.0 i.some_part,
    )
