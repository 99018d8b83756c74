-- Fetch: a desk in whose hands an object ends takes its slot, with the value, at a look.
use Rattle.std.proofs.Common.{◌≡◌, ℕ, ◌-◌, ◌≤◌, ◌≢◌, ◌∷◌, map, set, Some, Option, sym, refl, ap}
use Rattle.std.proofs.Common.{◌∙◌, subst, inl, inr, ⊎_elim, length-set}
use Rattle.control_block.proofs.Prelude
use Prelude.{Allows, At, at_map, Block, cases_eq, Ends, fetched, get_elem?, Idle, InShape}
use Prelude.{IsSlotOf, leads, none, opening_of, Pending, Rests, Ruled, SeatView, seeing, sees_as}
use Prelude.{set_again, set_else, Shape, some, StandsFunded, step, takes, value, view_of}
use Rattle.atomic_table.specs.Table as Table
use Rattle.control_block.proofs.Passage.{next, still_ending}
use Rattle.control_block.proofs.words.Slots.{ending_home, slots_apart}
use Rattle.control_block.proofs.kept.Look.{looked}

module _ {V : Type 0} where
  pub allows_fetch : (k : Shape) (slots id i o : ℕ) (b : Block) (x : V) (me : At V) → Rests me → (1 ≤ b.0) × (b.0 ≤ slots) → Ends me.0 o b.0
      → value (opening_of me.0.shape) me.0.view.seen o ≡ Some x → Allows (Ruled k) slots id me i (λ n. n) (fetched b o (step slots i 0 0 none) me)
  allows_fetch k slots id i o b x me rests inside ends val s r sized at small =
      let v = me.0 in let z = opening_of k in let t = leads z r.history in let w = seeing v Idle (Some b) v.view.seen in
      let still = still_ending k s r id v at rests.awake o b.0 ends in let phase = still.1.phase ∙ ends.1 in
      let within : InShape z b.0 = (inside.0, subst (λ n. b.0 ≤ n) (sym sized ∙ r.sized) inside.1) in (
        w,
        takes (b.0 - 1) (Some x),
        ending_home k s r id v at rests.awake rests.empty b.0 o within still.0 phase ∙ ap (λ y. some (some y)) (still.2 ∙ val),
        next k s r id v w _ (set s.homes (b.0 - 1) none) r.history at rests.awake (r.shapes id v at rests.awake)
            (looked z s.words i _ r.history (subst (λ l. StandsFunded z s.words l r.history) (sym (same_views s at)) r.stands))
            (length-set s.homes (b.0 - 1) none) (inr (ap (λ q. (t.object q).phase) still.0 ∙ phase)) (λ j u ne there un back. back)
            (λ c here. ⊎_elim (λ (q : c ≡ b.0). inr (inl (sym q)))
            (λ (q : c ≢ b.0). inr (inr (
              set_else s.homes (b.0 - 1) (c - 1) none (slots_apart b.0 c inside.0 here.0 q),
              refl,
              λ y. subst (λ g. IsSlotOf g c) rests.empty y,
            ))) (cases_eq c b.0)),
        (x, val, refl, ap (λ l. (b.0 - 1, Some x) ∷ l) rests.none),
      )
    where
      same_views : (s : Table.State (Option V) (SeatView V)) → get_elem? s.views id ≡ some me.0
          → set (map view_of s.views) id (sees_as me.0.view Idle me.0.view.seen) ≡ map view_of s.views
      same_views s at =
          ap (λ (y : Pending V). set (map view_of s.views) id (sees_as me.0.view y me.0.view.seen)) (sym rests.idle)
          ∙ set_again (map view_of s.views) id me.0.view (at_map view_of s.views id me.0 at)
