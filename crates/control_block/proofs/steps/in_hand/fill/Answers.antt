use Rattle.std.proofs.Common.{ℕ, ◌-◌, [], ◌∷◌, None, sym, ap, ◌∙◌}
use Rattle.control_block.proofs.words.Seats.{in_hand}
use Rattle.control_block.proofs.steps.in_hand.fill.Goals as goal

pub slot_mut-slot-requires : goal.slot_mut-slot-requires
slot_mut-slot-requires g c =
    let h = c.requires.hand in
    (c.requires.table, (None, in_hand c.args.seat.now.me.1 _ None [] (h.1 ∙ ap (λ (n : ℕ). (n - 1, None) ∷ []) (sym c.number.ensures))))
