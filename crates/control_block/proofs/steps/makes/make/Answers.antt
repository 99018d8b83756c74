use Rattle.std.proofs.Common.{ℕ, Bool, List, ◌∷◌, length, Some, None, sym, ap, ◌∙◌, subst, arith}
use Rattle.control_block.proofs.Prelude.{flags_of, IsPrepared, Make, tells}
use Rattle.control_block.proofs.words.Seats.{fills, flag_bits}
use Rattle.control_block.proofs.steps.makes.make.Goals as goal

pub claim-requires-clause-planned : goal.claim-requires-clause-planned
claim-requires-clause-planned g c =
    let p = c.requires.planned in let s = c.prepare.ensures.prepared.sized in
    (p.0, ap length p.3 ∙ (omega (arith, s)))

pub claim-requires-clause-prepared : goal.claim-requires-clause-prepared
claim-requires-clause-prepared g c =
    let r = c.requires in let p = r.planned in let t = c.prepare.ensures.prepared in let v = c.args.seat.now.me.0 in let b = c.args.block in
    let f = fills v b c.prepare.new.seat.me _ None t c.fill.new.seat.me (Some c.args.value) c.fill.ensures.filled in (
      v,
      c.args.value,
      r.rests.awake,
      r.room,
      subst (λ l. IsPrepared v b c.fill.new.seat.me l (Some c.args.value))
          (λ i. (flag_bits c.args.enabled c.args.null c.from.result c.from-2.result c.from.ensures c.from-2.ensures
          ∙ (λ j. flags_of (sym p.1 j) (sym p.2 j))) i ∷ sym p.3 i) f,
    )

pub returns-clause-event : goal.returns-clause-event
returns-clause-event g c =
    let p = c.requires.planned in let t = c.prepare.ensures.prepared in let v = c.args.seat.now.me.0 in let b = c.args.block in
    let m = g.M.MakeArgs in let f = fills v b c.prepare.new.seat.me _ None t c.fill.new.seat.me (Some c.args.value) c.fill.ensures.filled in
    subst (λ (y : Bool × Bool × List ℕ). tells (Make b y.0 y.1 y.2 c.args.value) v c.claim.new.seat.me.0) (λ i. (p.1 i, p.2 i, p.3 i))
    (c.claim.ensures.event v c.args.value
    (subst (λ l. IsPrepared v b c.fill.new.seat.me l (Some c.args.value))
    (λ i. (flag_bits c.args.enabled c.args.null c.from.result c.from-2.result c.from.ensures c.from-2.ensures
    ∙ (λ j. flags_of (sym p.1 j) (sym p.2 j))) i ∷ sym p.3 i) f))
