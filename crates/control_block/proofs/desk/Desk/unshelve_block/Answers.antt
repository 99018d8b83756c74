use Rattle.std.proofs.Common.{◌≡◌, ◌+◌, true, length, None, sym, refl, ap, ◌∙◌, subst, true≢false}
use Rattle.std.proofs.Common.{arith}
use Rattle.control_block.proofs.Prelude.{At, desk_now, DeskNow, Idle, IsOff, IsSole, known}
use Rattle.control_block.proofs.Prelude.{on_shelf, stock_of, Unshelve, Unshelved}
use Rattle.control_block.proofs.desks.DeskBags.{adds_of, calm, now_of}
use Rattle.control_block.proofs.desks.DeskSteps.{as_many, came, desk_after, ending_same}
use Rattle.control_block.proofs.desks.DeskStores.{put_back, room_back, stock_grows}
use Rattle.control_block.proofs.Passage.{plain}
use Rattle.control_block.proofs.Shelving.{clears_one, off_now, passed_one, so_sole, unshelved_none}
use Rattle.control_block.proofs.desk.Desk.unshelve_block.Goals as goal

pub returns-then-not-unshelve-clause-off : goal.returns-then-not-unshelve-clause-off
returns-then-not-unshelve-clause-off g c = λ sole.
    let d = c.self.inside in let t = c.if-not-unshelve.ensures.missed refl in
    let whole = subst (λ (z : DeskNow g.row.V.Denot). IsSole z) (sym c.self.view_is) sole in
    subst (λ (m : At g.row.V.Denot). on_shelf (known m.0) c.args.block.0 ≡ 0) (sym t.0)
    (so_sole d.seat.me.0 (IsOff c.args.block.0) t.1 whole)

pub push_reserved-requires : goal.push_reserved-requires
push_reserved-requires g c =
    let d = c.self.inside in let h = c.self.invariant in let v = d.seat.me.0 in let w = c.unshelve.new.seat.me.0 in
    let e = Unshelve c.args.block in let t = came v w Idle None e (c.if-not-unshelve.ensures.event refl) in
    let r = room_back d h w e t c.args.block.0 true refl refl in omega (arith, r, d.store.ok)

pub invariant_of-self-2 : goal.invariant_of-self-2
invariant_of-self-2 g c =
    let d = c.self.inside in let h = c.self.invariant in let v = d.seat.me.0 in let w = c.unshelve.new.seat.me.0 in
    let s = c.if-not-unshelve.ensures in let a = s.event refl in
    let e = Unshelve c.args.block in let t = came v w Idle None e a in
    let size = as_many v w e t refl in
    desk_after d _ e h a s.seat.0 (s.seat.2 ∙ h.rests.none) (λ y x. refl) refl
    (put_back d h t.state _ c.args.block true t.same c.push_reserved.ensures.items _ refl) c.push_reserved.ensures.capacity
    (omega (arith, size, h.holding)) h.within (h.ended ∙ sym (ending_same v w e t (plain (λ y x. refl) (λ y x. refl) (λ y f. refl))))

pub returns-clause-unshelved : goal.returns-clause-unshelved
returns-clause-unshelved g c =
    let d = c.self.inside in let h = c.self.invariant in let v = d.seat.me.0 in let w = c.unshelve.new.seat.me.0 in
    let s = c.if-not-unshelve.ensures in let a = s.event refl in let b = c.args.block in
    let t = came v w Idle None (Unshelve b) a in let id = c.unshelve.new.seat.table_id in
    let passes = passed_one d w Unshelve b h a (calm (λ y n. refl) (λ y n. refl) (λ y f. refl)) (λ y n. refl) (λ y n. refl)
    id s.seat.0 c.args.self.now c.self.view_is in
    record {
      passes = passes;
      stock = stock_grows d h w (Unshelve b) t b.0 true refl ∙ ap (λ z. length (stock_of z) + 1) c.self.view_is;
      clears = λ sole. clears_one c.args.self.now _ b
          (adds_of d c.args.self.now w id d.held (λ _. Unshelve b) c.self.view_is s.seat.0 a) sole passes.same.allowance;
    }

pub returns-clause-off : goal.returns-clause-off
returns-clause-off g c = λ sole.
    let d = c.self.inside in let w = c.unshelve.new.seat.me.0 in let s = c.if-not-unshelve.ensures in let b = c.args.block in
    off_now c.args.self.now _ b
    (adds_of d c.args.self.now w c.unshelve.new.seat.table_id d.held (λ _. Unshelve b) c.self.view_is s.seat.0 (s.event refl)) sole

pub unshelve-requires-clause-table : goal.unshelve-requires-clause-table
unshelve-requires-clause-table g c =
    ap (λ z. z.domain) c.self.view_is ∙ (c.requires.domain.table ∙ sym (ap (λ z. z.id) c.domain.view_is))

pub unshelve-requires-clause-inside : goal.unshelve-requires-clause-inside
unshelve-requires-clause-inside g c =
    let shape = ap (λ z. z.shape.blocks) c.self.view_is ∙ ap (λ y. y.blocks) c.requires.domain.shape in
    let low = c.requires.block in omega (arith, shape, low)

pub unshelve-requires-clause-rests : goal.unshelve-requires-clause-rests
unshelve-requires-clause-rests g c = c.self.invariant.rests

pub returns-then-not-unshelve-clause-unshelved : goal.returns-then-not-unshelve-clause-unshelved
returns-then-not-unshelve-clause-unshelved g c =
    let d = c.self.inside in let s = c.if-not-unshelve.ensures in let me = (s.missed refl).0 in
    let same : now_of c.unshelve.new.seat.table_id c.unshelve.new.seat.me.0 d.held ≡ desk_now d = λ i. now_of (s.seat.0 i) (me i).0 d.held in
    subst (λ (z : DeskNow g.row.V.Denot). Unshelved 0 c.args.self.now z) (sym (same ∙ c.self.view_is)) (unshelved_none c.args.self.now)

pub returns-then-not-unshelve-clause-same : goal.returns-then-not-unshelve-clause-same
returns-then-not-unshelve-clause-same g c = λ _.
    let d = c.self.inside in let s = c.if-not-unshelve.ensures in let me = (s.missed refl).0 in
    let same : now_of c.unshelve.new.seat.table_id c.unshelve.new.seat.me.0 d.held ≡ desk_now d = λ i. now_of (s.seat.0 i)
    (me i).0 d.held in same ∙ c.self.view_is

pub returns-clause-same : goal.returns-clause-same
returns-clause-same g c = λ e. absurd (true≢false e)
