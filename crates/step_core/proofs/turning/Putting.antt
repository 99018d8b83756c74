-- What the step does by which a value goes into a cell.
use Rattle.std.proofs.Common.{◌≡◌, ℕ, true, List, ◌∷◌, is_some, option_map, refl, ap, inl}
use Rattle.step_core.proofs.Prelude.{abstraction, frame_of, Going, going, sent, step_of_swap, Task}
use Rattle.step_core.proofs.Prelude.{WorldState}
use Rattle.step_core.proofs.turning.Swapping.{CanPut, some_of, swap_over, swaps_so}
use Rattle.step_core.proofs.turning.Trials.{Next}

pub putting_out : (d : ℕ) (u : WorldState) (t : Task) (ts : List Task) → CanPut d u t.act
    → is_some (going (frame_of (abstraction u) d).slots t.act) ≡ true
    → Next d u t.statement ts t.act (sent u.ghost_state d (frame_of (abstraction u) d) (t ∷ ts))
putting_out d u t ts can is =
    let w = frame_of (abstraction u) d in
    let g = some_of (going w.slots t.act) is in (
      step_of_swap u.ghost_state d w t.statement ts t.act g.0.0 g.0.1,
      ap (option_map (λ (x : Going). step_of_swap u.ghost_state d w t.statement ts t.act x.0 x.1)) g.1,
      inl (record {
        event = refl;
        so = swaps_so d u t.statement ts t.act g.0.0 g.0.1 can g.1;
        over = swap_over d u t.statement ts t.act g.0.0 g.0.1;
      }),
      λ j e. (let q = g.1 in let p = ap (going w.slots) e in cc),
    )
