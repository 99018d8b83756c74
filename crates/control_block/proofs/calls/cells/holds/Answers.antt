use Rattle.std.proofs.Common.{◌≡◌, None, sym, refl, ap, ◌∙◌, subst, arith}
use Rattle.control_block.proofs.Prelude.{DeskNow, handle_in, Idle, InHand, IsCellAt, IsWordOf}
use Rattle.control_block.proofs.Prelude.{kind_in, known, NumberedHandle, Same, site_place}
use Rattle.control_block.proofs.Passage.{plain}
use Rattle.control_block.proofs.cells.CellDesks.{in_seat, lost_hand, lost_shows, lost_word}
use Rattle.control_block.proofs.cells.CellSites.{cell_there, word_there}
use Rattle.control_block.proofs.desks.DeskBags.{adds_of, calm}
use Rattle.control_block.proofs.desks.DeskSteps.{as_many, came, ending_same, quiet_desk}
use Rattle.control_block.proofs.desks.Outcomes.{stays}
use Rattle.control_block.proofs.calls.cells.holds.Goals as goal

pub site_word-word-requires : goal.site_word-word-requires
site_word-word-requires g c =
    let r = c.requires in
    (word_there c.desk.inside c.desk.invariant c.args.expected.kind (site_place c.domain.inside.shape.blocks c.args.site) c.args.desk.now
    c.domain.inside.table.shared.table_id c.domain.inside.shape c.args.site c.desk.view_is
    (ap (λ z. z.domain) c.desk.view_is ∙ (r.domain.table ∙ sym (ap (λ z. z.id) c.domain.view_is)))
    (ap (λ z. z.shape) c.desk.view_is ∙ (r.domain.shape ∙ sym (ap (λ z. z.shape) c.domain.view_is))) r.cell.0 refl).0

pub holds-requires-clause-word : goal.holds-requires-clause-word
holds-requires-clause-word g c =
    let r = c.requires in
    (word_there c.desk.inside c.desk.invariant c.args.expected.kind c.site_word-word.result c.args.desk.now
    c.domain.inside.table.shared.table_id c.domain.inside.shape c.args.site c.desk.view_is
    (ap (λ z. z.domain) c.desk.view_is ∙ (r.domain.table ∙ sym (ap (λ z. z.id) c.domain.view_is)))
    (ap (λ z. z.shape) c.desk.view_is ∙ (r.domain.shape ∙ sym (ap (λ z. z.shape) c.domain.view_is))) r.cell.0 c.site_word-word.ensures).1

module _ (g : _) (c : goal.After-site_word-word g) where
  there : IsCellAt c.desk.inside.seat.me.0 g.A.CellArgs.cell c.site_word-word.result
      × (c.args.expected.kind ≡ kind_in c.desk.inside.seat.me.0.shape g.A.CellArgs.cell)
  there =
      let r = c.requires in
      cell_there c.desk.inside c.desk.invariant c.args.expected.kind c.site_word-word.result c.args.desk.now c.domain.inside.shape c.args.site
      g.A.CellArgs.cell c.desk.view_is (ap (λ z. z.shape) c.desk.view_is ∙ (r.domain.shape ∙ sym (ap (λ z. z.shape) c.domain.view_is))) r.cell.0
      r.cell.1 c.site_word-word.ensures

  handle_is : g.A.CellArgs.expected ≡ in_seat c.desk.inside.seat.me.0 c.args.expected.kind c.args.expected.word.block c.args.expected.word.place
  handle_is = c.requires.expected
      ∙ ap (λ (z : DeskNow g.row.V.Denot). handle_in z c.args.expected.kind c.args.expected.word.block c.args.expected.word.place) (sym c.desk.view_is)

pub holds-requires-clause-cell : goal.holds-requires-clause-cell
holds-requires-clause-cell g c = (there g c).0

pub holds-requires-clause-expected : goal.holds-requires-clause-expected
holds-requires-clause-expected g c =
    let r = c.requires in let d = c.desk.inside in let h = c.desk.invariant in let k = c.args.expected.kind in
    let b = c.args.expected.word.block in let p = c.args.expected.word.place in let y = c.args.desk.now in
    subst (λ (z : NumberedHandle). IsWordOf d.seat.me.0 z record { owned = b; place = p; taken = 0 }) (sym (handle_is g c))
    (lost_shows d y k p h c.desk.view_is b r.holds)

pub holds-requires-clause-hand : goal.holds-requires-clause-hand
holds-requires-clause-hand g c =
    let d = c.desk.inside in let v = d.seat.me.0 in let k = c.args.expected.kind in
    let mine = subst (λ (z : NumberedHandle). InHand (known v) v.view.name k z) (sym (handle_is g c))
    (lost_hand d c.args.desk.now k c.args.expected.word.place c.desk.invariant c.desk.view_is c.args.expected.word.block c.requires.holds
    c.args.expected.proper) in
    subst (λ j. InHand (known v) v.view.name j g.A.CellArgs.expected) (there g c).1 mine

pub invariant_of-desk : goal.invariant_of-desk
invariant_of-desk g c =
    let d = c.desk.inside in let h = c.desk.invariant in let v = d.seat.me.0 in let w = c.holds.new.seat.me.0 in let s = c.holds.ensures in
    let e = Same g.A.CellArgs.cell g.A.CellArgs.expected c.holds.result in let t = came v w Idle None e s.event in
    let size = as_many v w e t refl in
    quiet_desk d _ e h s.event s.seat.0 s.seat.2 (λ y x. refl) (λ y x. refl) refl refl (omega (arith, size, h.holding))
    (omega (arith, h.within))
    (h.ended ∙ sym (ending_same v w e t (plain (λ y x. refl) (λ y x. refl) (λ y f. refl))))

pub returns-clause-event : goal.returns-clause-event
returns-clause-event g c =
    adds_of c.desk.inside c.args.desk.now c.holds.new.seat.me.0 _ _ (λ z. Same g.A.CellArgs.cell g.A.CellArgs.expected c.holds.result)
    c.desk.view_is c.holds.ensures.seat.0 c.holds.ensures.event

pub returns-clause-outcome : goal.returns-clause-outcome
returns-clause-outcome g c =
    stays c.desk.inside c.holds.new.seat.me.0 _ c.desk.invariant c.holds.ensures.event _ c.args.desk.now c.desk.view_is c.holds.ensures.seat.0
    (calm (λ s n. refl) (λ s n. refl) (λ s f. refl)) (λ s n. refl) (λ s n. refl) (λ s n. refl)
