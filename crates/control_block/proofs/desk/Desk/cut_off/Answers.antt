use Rattle.std.proofs.Common.{◌≡◌, ℕ, ◌-◌, ◌<◌, ◌≤◌, List, length, sym, refl, ap, ◌∙◌, subst, inl}
use Rattle.std.proofs.Common.{inr, arith}
use Rattle.control_block.proofs.Prelude.{Block, desk_now, DeskNow, free_of, HoldsAll, in_history}
use Rattle.control_block.proofs.Prelude.{Inside, IsDesk, known, MaySplit, opening_of, Parted}
use Rattle.control_block.proofs.Prelude.{sound, SplitsOff, stock_of}
use Rattle.control_block.specs.declared.handles.Held.{Held}
use Rattle.control_block.proofs.partings.PartingDesks.{allowance_most}
use Rattle.control_block.proofs.PartingSplit.{Keeps, keeps, may_split, sizes}
use Rattle.control_block.proofs.partings.PartingSplitDesks.{new_desk, old_desk, splits}
use Rattle.control_block.proofs.words.Stores.{stock_few}
use Rattle.control_block.proofs.desk.Desk.cut_off.Goals as goal

kept : (V : Type 0) (d : Inside V) → IsDesk d → (now : DeskNow V) (a n : ℕ) (hs : List Held) → HoldsAll (desk_now d) hs → length hs ≡ n
    → desk_now d ≡ now → (0 < a) × (n ≤ a) × (a ≤ free_of now n) → Keeps d a n
kept V d h now a n hs holds size is g =
    let s = sizes d h hs holds in
    keeps d h a n g.0 (omega (arith, s.1, size)) (subst (λ (z : DeskNow V). a ≤ free_of z n) (sym is) g.2)

pub overflow_cast-given : goal.overflow_cast-given
overflow_cast-given g c =
    let d = c.self.inside in
    let hs = g.T.Lent.handles c.args.handles.now in let size : length hs ≡ c.args.count = c.requires.held.1 in
    let s = sizes d c.self.invariant hs (subst (λ z. HoldsAll z hs) (sym c.self.view_is) c.requires.held.0) in
    let m = allowance_most d c.self.invariant in omega (arith, s.1, size, c.self.invariant.within)

pub overflow_sub-self : goal.overflow_sub-self
overflow_sub-self g c =
    let d = c.self.inside in
    let hs = g.T.Lent.handles c.args.handles.now in let size : length hs ≡ c.args.count = c.requires.held.1 in
    let s = sizes d c.self.invariant hs (subst (λ z. HoldsAll z hs) (sym c.self.view_is) c.requires.held.0) in
    omega (arith, s.1, size)

pub pass_least-requires-clause-count : goal.pass_least-requires-clause-count
pass_least-requires-clause-count g c =
    let d = c.self.inside in
    let few = subst (λ z. c.args.blocks ≤ length (stock_of z)) (sym c.self.view_is) c.requires.blocks in omega (arith, c.self.invariant.many)

pub pass_least-requires-clause-room : goal.pass_least-requires-clause-room
pass_least-requires-clause-room g c =
    let d = c.self.inside in
    let few = subst (λ z. c.args.blocks ≤ length (stock_of z)) (sym c.self.view_is) c.requires.blocks in
    let id = ap (λ z. z.domain) c.self.view_is ∙ (c.requires.domain.table ∙ sym (ap (λ z. z.id) c.domain.view_is)) in
    let slots : d.seat.table_id.slots ≡ c.domain.inside.table.shared.table_id.slots = ap (λ z. z.slots) id in
    let n = d.seat.me.0.view.name in let z = opening_of d.seat.me.0.shape in
    let most = stock_few z (known d.seat.me.0) n (sound z d.seat.me.0.view.seen c.self.invariant.legal) in
    (c.in-Ok.ensures.items, omega (arith, c.in-Ok.ensures.capacity, c.self.invariant.sized.slots, c.domain.invariant.sized.slots))

pub part-seat-requires-clause-may : goal.part-seat-requires-clause-may
part-seat-requires-clause-may g c =
    let d = c.self.inside in let hs = g.T.Lent.handles c.args.handles.now in
    let holds = subst (λ z. HoldsAll z hs) (sym c.self.view_is) c.requires.held.0 in
    let size : length hs ≡ c.args.count = c.requires.held.1 in
    let k = kept g.row.V.Denot d c.self.invariant c.args.self.now c.args.allowance c.args.count hs holds size c.self.view_is
    (c.gives.ensures.gives c.if-not-gives.false) in
    let m = may_split d c.self.invariant hs holds c.args.allowance k.kept c.pass_least.new.to.items (c.gives.ensures.gives c.if-not-gives.false).0
    (omega (arith, size, (c.gives.ensures.gives c.if-not-gives.false).1)) k.given k.some (omega (arith, size, k.handles))
    (λ b. let t = c.pass_least.ensures.same b in omega arith) in
    subst (λ (y : List Block). MaySplit d.seat.me.0 c.args.allowance (in_history (known d.seat.me.0) hs) y) (sym c.as_slice.ensures.value) m

pub invariant_of-other : goal.invariant_of-other
invariant_of-other g c =
    let d = c.self.inside in let hs = g.T.Lent.handles c.args.handles.now in let bs = c.pass_least.new.to.items in
    let holds = subst (λ z. HoldsAll z hs) (sym c.self.view_is) c.requires.held.0 in
    let size : length hs ≡ c.args.count = c.requires.held.1 in
    let w = c.part-seat.new.seat.me.0 in let u = c.part-seat.result.me.0 in
    let p : Parted d.seat.me.0 c.args.allowance (in_history (known d.seat.me.0) hs) bs w u =
    subst (λ (y : List Block). Parted d.seat.me.0 c.args.allowance (in_history (known d.seat.me.0) hs) y w u) c.as_slice.ensures.value
    c.part-seat.ensures.event in
    let id = ap (λ z. z.domain) c.self.view_is ∙ (c.requires.domain.table ∙ sym (ap (λ z. z.id) c.domain.view_is)) in
    let slots : d.seat.table_id.slots ≡ c.domain.inside.table.shared.table_id.slots = ap (λ z. z.slots) id in
    new_desk d c.self.invariant hs holds c.args.allowance bs w u p _ c.part-seat.ensures.other.0
    (λ i. (u, c.part-seat.ensures.other.1 i)) refl (sym size) refl
    (let few = (c.gives.ensures.gives c.if-not-gives.false).1 in omega (arith, size, few)) refl
    (omega (arith, c.in-Ok.ensures.capacity, c.pass_least.ensures.room.1, c.self.invariant.sized.slots, c.domain.invariant.sized.slots))

pub invariant_of-self : goal.invariant_of-self
invariant_of-self g c =
    let d = c.self.inside in let hs = g.T.Lent.handles c.args.handles.now in let bs = c.pass_least.new.to.items in
    let holds = subst (λ z. HoldsAll z hs) (sym c.self.view_is) c.requires.held.0 in
    let size : length hs ≡ c.args.count = c.requires.held.1 in
    let w = c.part-seat.new.seat.me.0 in let u = c.part-seat.result.me.0 in
    let p : Parted d.seat.me.0 c.args.allowance (in_history (known d.seat.me.0) hs) bs w u =
    subst (λ (y : List Block). Parted d.seat.me.0 c.args.allowance (in_history (known d.seat.me.0) hs) y w u) c.as_slice.ensures.value
    c.part-seat.ensures.event in
    old_desk d c.self.invariant hs holds c.args.allowance bs w u p _ c.part-seat.ensures.seat.0
    (λ i. (w, c.part-seat.ensures.seat.1 i)) refl (ap (λ x. d.held - x) (sym size)) refl
    (let k = kept g.row.V.Denot d c.self.invariant c.args.self.now c.args.allowance c.args.count hs holds size c.self.view_is
    (c.gives.ensures.gives c.if-not-gives.false) in
    k.within)
    c.pass_least.ensures.same (omega (arith, c.pass_least.ensures.count.0, c.pass_least.ensures.count.1)) c.pass_least.ensures.room.0

pub returns-clause-parts : goal.returns-clause-parts
returns-clause-parts g c =
    let d = c.self.inside in let hs = g.T.Lent.handles c.args.handles.now in let bs = c.pass_least.new.to.items in
    let holds = subst (λ z. HoldsAll z hs) (sym c.self.view_is) c.requires.held.0 in
    let size : length hs ≡ c.args.count = c.requires.held.1 in
    let w = c.part-seat.new.seat.me.0 in let u = c.part-seat.result.me.0 in
    let p : Parted d.seat.me.0 c.args.allowance (in_history (known d.seat.me.0) hs) bs w u =
    subst (λ (y : List Block). Parted d.seat.me.0 c.args.allowance (in_history (known d.seat.me.0) hs) y w u) c.as_slice.ensures.value
    c.part-seat.ensures.event in
    let e : Inside g.row.V.Denot = record {
      seat = c.part-seat.new.seat;
      allowance = d.allowance - c.args.allowance;
      held = d.held - c.args.count;
      endings = d.endings;
      store = c.pass_least.new.store;
      shelf_word = d.shelf_word;
    } in
    let new : Inside g.row.V.Denot = record {
      seat = c.part-seat.result;
      allowance = c.args.allowance;
      held = c.args.count;
      endings = 0;
      store = c.pass_least.new.to;
      shelf_word = d.shelf_word;
    } in
    subst (λ (y : DeskNow g.row.V.Denot). SplitsOff y c.args.allowance c.args.blocks hs (desk_now e) (desk_now new)) c.self.view_is
    (splits d e new c.self.invariant hs holds c.args.allowance c.args.blocks p (c.part-seat.ensures.seat.0, c.part-seat.ensures.other.0)
    (ap (λ x. d.held - x) (sym size), sym size) c.pass_least.ensures.count.0 c.pass_least.ensures.same c.pass_least.ensures.least)

pub returns-then-not-gives-clause-parts : goal.returns-then-not-gives-clause-parts
returns-then-not-gives-clause-parts g c = tt

pub returns-then-not-gives-clause-fits : goal.returns-then-not-gives-clause-fits
returns-then-not-gives-clause-fits g c = tt

pub returns-then-not-gives-clause-refused : goal.returns-then-not-gives-clause-refused
returns-then-not-gives-clause-refused g c = inl refl

pub returns-in_default-clause-parts : goal.returns-in_default-clause-parts
returns-in_default-clause-parts g c = tt

pub returns-in_default-clause-fits : goal.returns-in_default-clause-fits
returns-in_default-clause-fits g c = tt

pub returns-in_default-clause-refused : goal.returns-in_default-clause-refused
returns-in_default-clause-refused g c = inr refl

pub returns-in_default-clause-limit : goal.returns-in_default-clause-limit
returns-in_default-clause-limit g c = (λ e. absurd (cc e), λ much. absurd (c.if-not-gives.ensures.fits.0 refl much))

pub part-seat-requires-clause-table : goal.part-seat-requires-clause-table
part-seat-requires-clause-table g c =
    ap (λ z. z.domain) c.self.view_is ∙ (c.requires.domain.table ∙ sym (ap (λ z. z.id) c.domain.view_is))

pub part-seat-requires-clause-rests : goal.part-seat-requires-clause-rests
part-seat-requires-clause-rests g c = c.self.invariant.rests

pub returns-clause-fits : goal.returns-clause-fits
returns-clause-fits g c = c.if-not-gives.ensures.fits.0 refl

pub returns-clause-limit : goal.returns-clause-limit
returns-clause-limit g c = tt

pub returns-clause-refused : goal.returns-clause-refused
returns-clause-refused g c = tt

pub returns-clause-same : goal.returns-clause-same
returns-clause-same g c = tt
