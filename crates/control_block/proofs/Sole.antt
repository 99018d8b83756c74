-- A desk that has the whole allowance is alone: nothing of others' comes between its own events.
use Rattle.std.proofs.Common.{◌≡◌, ℕ, true, false, List, [], ◌∷◌, ◌++◌, map, ◌==◌, All, sym, refl}
use Rattle.std.proofs.Common.{ap, ◌∙◌, subst, eq-eqb}
use Rattle.control_block.proofs.Prelude
use Prelude.{after, alone, ClearMember, Compare, cond-true, cond_both, Count, Entry, entry, Event}
use Prelude.{events_of, Expired, Finish, Free, IsLegal, Join, leads, Leave, Load, Lock, Make}
use Prelude.{Member, nothing_unseen, Opening, opening_of, Read, Same, Shape, Share, Shelve, Split}
use Prelude.{State, Swap, Unshelve, Visit, WeakLeave, WeakShare}
use Rattle.std.proofs.lemmas.List.Elements.{All-head, All-tail}
use Rattle.control_block.specs.Laws.{ComeInARow, ComesNext}
use Rattle.control_block.specs.Own.{KeepsDesks}

module _ {V : Type 0} where
  pub comes_next : ComesNext V
  comes_next d x e adds sole =
      let legal = subst (IsLegal (opening_of d.shape)) adds.seen adds.legal in
      let none = nothing_unseen (opening_of d.shape) adds.between d.seen legal.0 d.name adds.quiet sole in
      adds.seen ∙ ap (λ l. entry d.name x ∷ (l ++ d.seen)) none

  allowance_after : (s : State) (d : ℕ) (x : Event V) → KeepsDesks x → (after s d x).allowance ≡ s.allowance
  allowance_after s d (Swap (Free c) new old) p = refl
  allowance_after s d (Swap (Member o m) new old) p = refl
  allowance_after s d (Compare (Free c) e new h true w) p = refl
  allowance_after s d (Compare (Member o m) e new h true w) p = refl
  allowance_after s d (Compare c e new h false w) p = refl
  allowance_after s d (Split to n hs bs) p = absurd p
  allowance_after s d (Join other) p = absurd p
  allowance_after s d (Make b enabled null fields value) p = refl
  allowance_after s d (Share h q) p = refl
  allowance_after s d (Leave h last) p = refl
  allowance_after s d (Count h n) p = refl
  allowance_after s d (Expired h x) p = refl
  allowance_after s d (Read h n) p = refl
  allowance_after s d (Same c h so) p = refl
  allowance_after s d (WeakShare o q) p = refl
  allowance_after s d (WeakLeave h v) p = refl
  allowance_after s d (Lock h got) p = refl
  allowance_after s d (Load c got) p = refl
  allowance_after s d (ClearMember o m h) p = refl
  allowance_after s d (Finish o v x) p = refl
  allowance_after s d (Visit h x y) p = refl
  allowance_after s d (Shelve b) p = refl
  allowance_after s d (Unshelve b) p = refl

  -- by its own events: on a sole desk nothing else is in its history
  all_own : (z : Opening) (d : ℕ) (later seen : List (Entry V)) → IsLegal z (later ++ seen) → (leads z seen).allowance d ≡ z.allowance
      → All KeepsDesks (events_of d later) → (later ≡ map (entry d) (events_of d later)) × ((leads z (later ++ seen)).allowance d ≡ z.allowance)
  all_own z d [] seen legal whole keep = (refl, whole)
  all_own z d (x ∷ later) seen legal whole keep =
      let own = events_of d later in
      let rest : All KeepsDesks own =
      cond_both (x.desk == d) (x.event ∷ own) own (λ l. All KeepsDesks l → All KeepsDesks own)
      (λ e p. All-tail KeepsDesks x.event own p) (λ e p. p) keep in
      let t = all_own z d later seen legal.0 whole rest in
      let s = leads z (later ++ seen) in
      let mine = alone z (later ++ seen) legal.0 d x.desk t.1 legal.1.acting in
      let first : events_of d (x ∷ later) ≡ x.event ∷ own = cond-true (x.desk == d) (x.event ∷ own) own (eq-eqb x.desk d mine) in
      let here = All-head KeepsDesks x.event own (subst (All KeepsDesks) first keep) in (
        ap (λ (n : ℕ). record { desk = n; event = x.event } ∷ later) mine
            ∙ (ap (λ l. entry d x.event ∷ l) t.0 ∙ sym (ap (map (entry d)) first)),
        ap (λ f. f d) (allowance_after s x.desk x.event here) ∙ t.1,
      )

  pub come_in_a_row : ComeInARow V
  come_in_a_row d own e goes keep legal sole =
      let z = opening_of d.shape in
      let all = subst (IsLegal z) goes.seen (goes.legal legal) in
      let t = all_own z d.name goes.later d.seen all sole (subst (All KeepsDesks) (sym goes.mine) keep) in (
        goes.seen ∙ ap (λ l. l ++ d.seen) (t.0 ∙ ap (map (entry d.name)) goes.mine),
        ap (λ (k : Shape). (leads (opening_of k) e.seen).allowance e.name) goes.same.1
            ∙ (ap (λ n. (leads z e.seen).allowance n) goes.same.2
            ∙ (ap (λ l. (leads z l).allowance d.name) goes.seen ∙ (t.1 ∙ ap (λ (k : Shape). k.allowance) (sym goes.same.1)))),
      )
