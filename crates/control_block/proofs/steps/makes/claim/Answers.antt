use Rattle.std.proofs.Common.{◌<◌, ◌∷◌, Some, None, sym, ap, ◌∙◌, subst}
use Rattle.control_block.proofs.Prelude.{Allows, Block, flags_of, Idle, made, Make, Making, none}
use Rattle.control_block.proofs.Prelude.{Ruled, step, tells}
use Rattle.control_block.proofs.words.Seats.{first_slot, has_hand, makes, moved_added, room_moved}
use Rattle.control_block.proofs.words.Seats.{some_same, stays_awake}
use Rattle.control_block.proofs.kept.Make.{allows_claim}
use Rattle.control_block.proofs.steps.makes.claim.Goals as goal

pub swap-requires : goal.swap-requires
swap-requires g c =
    let r = c.requires in let q = r.prepared in let i = c.block_word.result in let e = c.block_word.ensures in let table = c.args.table.now in
    let seat = c.args.seat.now in
    let b = c.args.block in let m = g.M.MakeArgs in let l = flags_of m.enabled m.null ∷ m.fields in let t = q.4 in let x = Some q.1 in (
      r.table,
      subst (λ y. y < table.table_id.words) (sym e) r.word.1,
      record {
        allows = subst (λ (y : Block). Allows (Ruled table.key) table.table_id.slots seat.id seat.me i (λ _. 1099511627777)
            (made y m.enabled m.null m.fields (step table.table_id.slots i 1099511627777 0 none) seat.me))
            (sym r.planned.0)
            (allows_claim table.key table.table_id.slots seat.id i b m.enabled m.null m.fields seat.me q.1 (stays_awake q.0 b seat.me l x t q.2)
            (makes q.0 b seat.me l x t)
            (has_hand q.0 b seat.me l x t) t.carried r.planned.1 (room_moved q.0 seat.me.0 (Making b l) (Some b) t.moved q.3) e);
      },
    )

pub returns-clause-event : goal.returns-clause-event
returns-clause-event g c =
    λ v x t. let b = c.args.block in let m = g.M.MakeArgs in let p = c.requires.planned in let n = c.swap.ensures.2 in let me = c.args.seat.now.me in
    moved_added v me.0 c.swap.new.seat.me.0 (Making b (flags_of m.enabled m.null ∷ m.fields)) Idle (Some b) None (Make b m.enabled m.null m.fields x) t.moved
    (subst (λ (y : Block). tells (Make y m.enabled m.null m.fields x) me.0 c.swap.new.seat.me.0) p.0
    (subst (λ y. tells (Make m.block m.enabled m.null m.fields y) me.0 c.swap.new.seat.me.0) (some_same n.0 x (ap first_slot (sym n.1 ∙ t.carried))) n.2))
