use Rattle.std.proofs.Common.{ℕ, ◌-◌, [], ◌∷◌, Some, sym, ap, ◌∙◌}
use Rattle.control_block.proofs.words.Seats.{in_hand}
use Rattle.control_block.proofs.steps.in_hand.remember.Goals as goal

pub slot_mut-slot-requires : goal.slot_mut-slot-requires
slot_mut-slot-requires g c =
    let h = c.requires.hand in
    (c.requires.table, (Some h.1, in_hand c.args.seat.now.me.1 _ (Some h.1) [] (h.2 ∙ ap (λ (n : ℕ). (n - 1, Some h.1) ∷ []) (sym c.number.ensures))))
