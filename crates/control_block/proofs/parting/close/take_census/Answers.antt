use Rattle.std.proofs.Common.{◌≡◌, ◌+◌, ◌≤◌, slice_index, sym, ap, ◌∙◌, subst, inl, inr, ⊎_elim}
use Rattle.control_block.proofs.Prelude.{allowance_of, DeskNow, endings_of, EndsNot, InShape}
use Rattle.control_block.proofs.Prelude.{known, number_of, opening_of, slots_items, sound, spot}
use Rattle.control_block.proofs.Prelude.{state_of, stock_of, TellsBlock, TellsCells, TellsHolders}
use Rattle.control_block.proofs.closings.ClosedCells.{census_of, tells_cells}
use Rattle.control_block.proofs.closings.Closing.{exact_counts, free_by, nothing_ends, tells_of, told_free}
use Rattle.control_block.proofs.closings.ClosingHolders.{tells_holders}
use Rattle.control_block.proofs.parting.close.take_census.Goals as goal
use Rattle.control_block.specs.Rule.{members_of}

pub returns-clause-census : goal.returns-clause-census
returns-clause-census g c =
    let d = c.desk.inside in let v = d.seat.me.0 in let k = c.domain.inside.table.shared.key in let f = c.close_with.ensures.values.2 in let s = f.0 in
    let r = f.1.0 in let h = c.desk.invariant in
    let told = c.domain.invariant.told ∙ ap (λ z. z.shape) c.domain.view_is in
    let shape = r.shapes d.seat.id v f.1.1 h.rests.awake in
    let whole : (known v).allowance v.view.name ≡ v.shape.allowance =
    ap (allowance_of {V = g.row.V.Denot}) c.desk.view_is ∙ (c.requires.sole ∙ ap (λ y. y.allowance) (sym (shape ∙ told))) in
    let n = census_of c.domain.inside.shape (slots_items c.close_with.result.words) in
    record {
      sized = ap (λ z. z.shape.blocks) c.domain.view_is;
      tells = λ b lo hi still.
          let inside : InShape (opening_of k) b = (lo, subst (λ y. b ≤ y.blocks) (sym told) hi) in
          let still' : EndsNot (known v) b = subst (λ (y : DeskNow g.row.V.Denot). EndsNot (state_of y) b) (sym c.desk.view_is) still in
          let e = exact_counts k s r d.seat.id v f.1.1 h.rests.awake h.rests.idle whole b inside still' in
          subst (λ (y : DeskNow g.row.V.Denot). TellsBlock (state_of y) b n) c.desk.view_is
          (tells_of (opening_of v.shape) (known v) b n (sound (opening_of v.shape) v.view.seen h.legal) still'
          (ap (λ l. number_of (slice_index l (spot b 0))) (sym f.2) ∙ e.0)
          (⊎_elim (λ q. inl (ap (λ l. number_of (slice_index l (spot b 1))) (sym f.2) ∙ q)) inr e.1)
          (free_by k c.domain.inside.shape s.words n.words b (known v) c.domain.invariant.told f.2
          (told_free k s r d.seat.id v f.1.1 h.rests.awake h.rests.idle whole
          (ap (stock_of {V = g.row.V.Denot}) c.desk.view_is ∙ c.requires.shelved) b inside)));
    }

pub returns-clause-cells : goal.returns-clause-cells
returns-clause-cells g c =
    let d = c.desk.inside in let v = d.seat.me.0 in let k = c.domain.inside.table.shared.key in let f = c.close_with.ensures.values.2 in
    let h = c.desk.invariant in
    let told = c.domain.invariant.told ∙ ap (λ z. z.shape) c.domain.view_is in
    let shape = f.1.0.shapes d.seat.id v f.1.1 h.rests.awake in
    let whole : (known v).allowance v.view.name ≡ v.shape.allowance =
    ap (allowance_of {V = g.row.V.Denot}) c.desk.view_is ∙ (c.requires.sole ∙ ap (λ y. y.allowance) (sym (shape ∙ told))) in
    let n = census_of c.domain.inside.shape (slots_items c.close_with.result.words) in
    subst (λ (y : DeskNow g.row.V.Denot). TellsCells (state_of y) n) c.desk.view_is
    (tells_cells k f.0 f.1.0 d.seat.id v f.1.1 h.rests.awake h.rests.idle whole c.domain.inside.shape n.words c.domain.invariant.told f.2)

pub returns-clause-holders : goal.returns-clause-holders
returns-clause-holders g c = λ b has.
    let d = c.desk.inside in let v = d.seat.me.0 in let k = c.domain.inside.table.shared.key in let f = c.close_with.ensures.values.2 in
    let h = c.desk.invariant in let told = c.domain.invariant.told ∙ ap (λ z. z.shape) c.domain.view_is in
    let shape = f.1.0.shapes d.seat.id v f.1.1 h.rests.awake in
    let whole : (known v).allowance v.view.name ≡ v.shape.allowance =
    ap (allowance_of {V = g.row.V.Denot}) c.desk.view_is ∙ (c.requires.sole ∙ ap (λ y. y.allowance) (sym (shape ∙ told))) in
    let n = census_of c.domain.inside.shape (slots_items c.close_with.result.words) in
    let same : v.shape ≡ c.domain.inside.shape = shape ∙ c.domain.invariant.told in
    subst (λ (y : DeskNow g.row.V.Denot). TellsHolders y b n) c.desk.view_is
    (tells_holders d h whole b n has.0
    (subst (λ (y : DeskNow g.row.V.Denot). TellsCells (state_of y) n) (sym c.desk.view_is) (returns-clause-cells g c)) (
      ap (λ y. y.blocks) (sym same),
      ap (λ y. y.shared_cells) (sym same),
      ap (λ y. y.shared_cells + y.weak_cells) (sym same),
      ap members_of (sym same),
      ap (λ y. y.owners) (sym same),
    ))

pub returns-clause-whole : goal.returns-clause-whole
returns-clause-whole g c = λ none b lo hi.
    let d = c.desk.inside in let v = d.seat.me.0 in let f = c.close_with.ensures.values.2 in
    let told = c.domain.invariant.told ∙ ap (λ z. z.shape) c.domain.view_is in
    let shape = f.1.0.shapes d.seat.id v f.1.1 c.desk.invariant.rests.awake ∙ told in
    let whole : (known v).allowance v.view.name ≡ v.shape.allowance =
    ap (allowance_of {V = g.row.V.Denot}) c.desk.view_is ∙ (c.requires.sole ∙ ap (λ y. y.allowance) (sym shape)) in
    let none' = ap (endings_of {V = g.row.V.Denot}) c.desk.view_is ∙ none in
    let still : EndsNot (known v) b =
    nothing_ends (opening_of v.shape) v.view.seen c.desk.invariant.legal v.view.name whole none' b
    (lo, subst (λ y. b ≤ y.blocks) (sym shape) hi) in
    (returns-clause-census g c).tells b lo hi (subst (λ (y : DeskNow g.row.V.Denot). EndsNot (state_of y) b) c.desk.view_is still)
