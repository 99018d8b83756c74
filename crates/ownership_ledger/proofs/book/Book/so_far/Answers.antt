use Rattle.std.proofs.Common.{sym, ap, ◌∙◌, arith}
use Rattle.ownership_ledger.proofs.Look.{looks_ended, looks_made}
use Rattle.ownership_ledger.proofs.book.Book.so_far.Goals as goal

pub load-ended-requires : goal.load-ended-requires
load-ended-requires c =
    let one = c.share.invariant.one_part in
    let table = c.requires ∙ sym (ap (λ b. b.id) c.self.view_is) in (
      ap (λ s. s.book) c.share.view_is ∙ table,
      omega (arith, c.self.invariant.words),
      looks_ended c.self.inside.table.shared.key _ _ c.share.inside.seat.me (omega arith),
    )

pub load-made-requires : goal.load-made-requires
load-made-requires c =
    let one = c.share.invariant.one_part in
    let table = c.requires ∙ sym (ap (λ b. b.id) c.self.view_is) in
    let same = ap (λ m. m.0.parts) c.load-ended.ensures.2.0 in (
      c.load-ended.ensures.0 ∙ (ap (λ s. s.book) c.share.view_is ∙ table),
      omega (arith, c.self.invariant.words),
      looks_made c.self.inside.table.shared.key _ _ c.load-ended.new.seat.me (omega arith),
    )
