use Rattle.std.proofs.Common.{◌<◌, sym, ap, ◌∙◌, subst, arith}
use Rattle.ownership_ledger.proofs.Add.{adds_made}
use Rattle.ownership_ledger.proofs.book.Book.add_made.Goals as goal

pub fetch_add-requires : goal.fetch_add-requires
fetch_add-requires c =
    let seat = c.share.inside.seat in
    let room = subst (λ s. s.own.made < 4294967295) (sym c.share.view_is) c.requires.room in (
      ap (λ s. s.book) c.share.view_is ∙ (c.requires.book ∙ sym (ap (λ b. b.id) c.self.view_is)),
      omega (arith, c.self.invariant.words),
      adds_made c.self.inside.table.shared.key _ _ seat.me c.share.invariant.one_part room,
    )
