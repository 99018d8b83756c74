use Rattle.std.proofs.Common.{◌≡◌, ◌-◌, sym, ap, ◌∙◌, subst, arith}
use Rattle.control_block.proofs.Prelude.{desk_now, DeskNow, IsShelfWord, IsSole, known, shelf_at}
use Rattle.control_block.proofs.Prelude.{state_of}
use Rattle.control_block.proofs.desks.DeskBags.{now_of}
use Rattle.control_block.proofs.Shelving.{blocks_of_word, so_sole}
use Rattle.control_block.specs.ShelfStepKinds.{HasBlocks}
use Rattle.control_word.specs.Layout.{shelf_words}
use Rattle.control_block.proofs.desk.Desk.look_on_shelf.Goals as goal

pub returns-clause-told : goal.returns-clause-told
returns-clause-told g c =
    let v = c.self.inside.seat.me.0 in let k = c.args.word in let i = c.shelf_place-place.result in
    let shape = ap (λ z. z.shape) c.self.view_is ∙ c.requires.domain.shape in
    let here : i ≡ shelf_at v.shape k = c.shelf_place-place.ensures ∙ ap (λ y. shelf_at y k) (sym shape) in
    let same : i - shelf_at v.shape 0 ≡ k = omega (arith, here) in
    subst (λ (z : DeskNow g.row.V.Denot). IsSole z → IsShelfWord k c.look.result (state_of z)) c.self.view_is
    (λ whole. subst (λ j. IsShelfWord j c.look.result (known v)) same
    (so_sole v (IsShelfWord (i - shelf_at v.shape 0) c.look.result) c.look.ensures.told whole))

pub returns-clause-inside : goal.returns-clause-inside
returns-clause-inside g c =
    let v = c.self.inside.seat.me.0 in let k = c.args.word in let i = c.shelf_place-place.result in
    let shape = ap (λ z. z.shape) c.self.view_is ∙ c.requires.domain.shape in
    let here : i ≡ shelf_at v.shape k = c.shelf_place-place.ensures ∙ ap (λ y. shelf_at y k) (sym shape) in
    let same : i - shelf_at v.shape 0 ≡ k = omega (arith, here) in
    subst (λ n. HasBlocks n k c.look.result) (ap (λ y. y.blocks) shape)
    (subst (λ j. HasBlocks v.shape.blocks j c.look.result) same (blocks_of_word v (i - shelf_at v.shape 0) c.look.result c.look.ensures.told))

pub returns-clause-few : goal.returns-clause-few
returns-clause-few g c =
    let shape = ap (λ z. z.shape.blocks) c.self.view_is ∙ ap (λ y. y.blocks) c.requires.domain.shape in
    let most = c.self.invariant.limits.blocks in omega (arith, shape, most)

pub look-requires-clause-word : goal.look-requires-clause-word
look-requires-clause-word g c =
    let v = c.self.inside.seat.me.0 in let k = c.args.word in let i = c.shelf_place-place.result in
    let shape = ap (λ z. z.shape) c.self.view_is ∙ c.requires.domain.shape in
    let here : i ≡ shelf_at v.shape k = c.shelf_place-place.ensures ∙ ap (λ y. shelf_at y k) (sym shape) in
    let long = ap (λ y. shelf_words y.blocks) shape in let low = c.requires.word in omega (arith, here, long, low)

pub look-requires-clause-table : goal.look-requires-clause-table
look-requires-clause-table g c =
    ap (λ z. z.domain) c.self.view_is ∙ (c.requires.domain.table ∙ sym (ap (λ z. z.id) c.domain.view_is))

pub look-requires-clause-rests : goal.look-requires-clause-rests
look-requires-clause-rests g c = c.self.invariant.rests

pub returns-clause-same : goal.returns-clause-same
returns-clause-same g c =
    let d = c.self.inside in let t = c.look.ensures.seat in
    let same : now_of c.look.new.seat.table_id c.look.new.seat.me.0 d.held ≡ desk_now d = λ i. now_of (t.0 i) (t.2 i).0 d.held in
    same ∙ c.self.view_is
