-- A domain's first desk, from where it is opened to where it closes its domain.
use Rattle.std.proofs.Common.{◌≡◌, ℕ, zero, suc, ◌+◌, ◌*◌, ◌^◌, ◌<◌, ◌≤◌, List, [], refl}
use Rattle.std.proofs.Common.{ap, ◌∙◌, arith}
use Rattle.pointers.proofs.Prelude.{DeskNow, DomainNow, endings_of, Entry}
use Rattle.pointers.proofs.Prelude.{Fits, IsOpened, leads, opening_of}
use Rattle.pointers.proofs.Prelude.{Shape, suc-mul, Team}
use Rattle.control_block.specs.Desks.{ends_with, many_ending, state_of}

module _ {V : Type 0} where
  none_ends : (d : DeskNow V) → d.seen ≡ [] → endings_of d ≡ 0
  none_ends d e = go d.shape.blocks
    where
      go : (k : ℕ) → many_ending k (state_of d) d.name ≡ 0
      go zero = refl
      go (suc k) =
          let ih = go k in
          let a : ends_with d.name ((state_of d).object ((state_of d).latest (suc k))).phase ≡ 0 =
          ap (λ (h : List (Entry V)). ends_with d.name ((leads (opening_of d.shape) h).object ((leads (opening_of d.shape) h).latest (suc k))).phase) e in
          omega arith

  pub opened_none : (shape : Shape) (y : DomainNow) (d : DeskNow V) → IsOpened shape y d → endings_of d ≡ 0
  opened_none shape y d o = o.shelves.passes.count ∙ none_ends o.first o.begins.seen

pub fits_few : (shape : Shape) (t : Team) → Fits shape t → 0 < t.workers → t.pointers + 2 < 2 ^ 32
fits_few shape t fits some = go t.workers t.pointers some (let a = fits.room in let b = fits.within.allowance in omega (arith, a, b))
  where
    go : (w p : ℕ) → 0 < w → w * (p + 2) ≤ 4194304 → p + 2 < 2 ^ 32
    go zero p some few = omega arith
    go (suc k) p some few = let all = suc-mul k (p + 2) in omega (arith, all, few)
