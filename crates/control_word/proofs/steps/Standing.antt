-- What stands at the start, what cells show, and that no count carries or wraps.
use Rattle.std.proofs.Common.{◌≡◌, ℕ, ◌≤◌, None, ap, ◌∙◌, arith}
use Rattle.control_word.proofs.Prelude.{blocks_of, Cell, cell_bits, cell_of, cell_word, Free}
use Rattle.control_word.proofs.Prelude.{IsCellWord, me, Member, Pending, Point, Ready, shown}
use Rattle.control_word.proofs.Prelude.{state, word}
use Rattle.control_word.proofs.history.Kept.{cells_led}
use Rattle.control_word.proofs.history.Legal.{sound}
use Rattle.control_word.proofs.history.Storing.{kept}
use Rattle.control_word.proofs.words.Banks.{IsKept, open_kept}
use Rattle.control_word.proofs.words.Decoding.{cell_decodes}
use Rattle.control_word.proofs.words.Opening.{opens}
use Rattle.control_word.proofs.words.Rooms.{funds_room, halves}
use Rattle.control_word.specs.Steps.{Begins, HasHeadroom}
use Rattle.control_word.specs.CellSteps.{CellsShow}
use Rattle.control_word.specs.Limits.{cell_funds}
use Rattle.control_word.specs.Views.{Stands}

module _ {V : Type 0} where
  pub begins : Begins V Stands
  begins z proper = opens z proper

  nothing_taken : (at : Point V) (p : Pending V) (ready : Ready at p) (c : Cell) → IsKept (state at) c → (cell_of (state at) c).object ≡ None
      → ready.stands.taken (cell_word at c) ≡ 0
  nothing_taken at p ready (Free c) kept e = ready.stands.bare.frees c (let t = cells_led at.opening at.history in omega arith) e
  nothing_taken at p ready (Member o m) kept e =
      let place = (sound at.opening at.history ready.stands.legal).placed o kept.1 in
      ready.stands.bare.members ((state at).object o).block m place.1 kept.0 (ap (λ n. (((state at).object n).member m).object) place.0 ∙ e)

  -- the word of a free cell, or of a member of an object that is there or is ending
  pub kept_show : (at : Point V) (p : Pending V) (c : Cell) → Ready at p → IsKept (state at) c
      → (taken : ℕ) × (let x = shown (blocks_of (state at)) (cell_of (state at) c) taken in
      (word at (cell_word at c) ≡ cell_bits x) × IsCellWord x × (taken ≤ cell_funds))
      × ((cell_of (state at) c).object ≡ None → taken ≡ 0)
  kept_show at p c ready kept = (
    ready.stands.taken (cell_word at c),
    let t = cell_decodes at.opening at.words at.views at.history ready.stands at.seat at.view ready.seated ready.awake c kept in
        (t.0, t.1, ready.stands.most (cell_word at c)),
    nothing_taken at p ready c kept,
  )

  pub cells_show : CellsShow V Stands
  cells_show at p c ready open' =
      kept_show at p c ready (open_kept at.opening (state at) (me at) c (sound at.opening at.history ready.stands.legal) open')

  pub has_headroom : HasHeadroom V Stands
  has_headroom at p ready k o busy =
      let t = funds_room at.opening at.words at.views at.history ready.stands k o busy in (
        t.2,
        λ low high is small. let h = halves at.opening at.words at.views at.history ready.stands k o busy low high is small in let a = h.0 in let b = h.1 in
            let t0 = t.0 in let t1 = t.1 in (omega arith, omega arith),
      )
