-- Rounds of a pile leave the desk the handles that it had, each on its object.
use Rattle.std.proofs.Common.{◌≡◌, ℕ, ◌⊎◌, List, [], ◌∷◌, ◌++◌, Some, None, Option, sym, refl, ap}
use Rattle.std.proofs.Common.{◌∙◌, subst, inl, inr}
use Rattle.scene_structures.proofs.Prelude
use Prelude.{AddsEvent, after, AreRounds, bag, Block, block_kept, Cleared, ClearMember, cond-true}
use Prelude.{DeskNow, Does, Empty, Ended, Ending, Event, handle, handle_in, Has, has_part}
use Prelude.{Held, held, IsClearing, IsLeft, IsLegal, IsParting, IsRound, KeepsHeld, Kind, Last}
use Prelude.{kind_of_member}
use Prelude.{latest_of, leads, LeavesWeakly, Left, legal_seen, NumberedHandle, on_latest}
use Prelude.{opening_of, Others, Owner, Past, Place, Round, same_held, Settled, shown_held, State}
use Prelude.{state_of, Weak, without}
use Rattle.control_word.proofs.history.Given.{names_an_object}
use Rattle.control_word.proofs.history.Kept.{same_kept}
use Rattle.control_word.proofs.lists.Parts.{part_has, part_mine}
use Rattle.control_word.proofs.lists.Tallies.{held_self, held_true}
use Rattle.control_block.proofs.partings.Parts.{part_without_mine}
use Rattle.shared_handle.specs.Endings.{ClearsOf}
use Rattle.scene_structures.proofs.Latest.{held_here}

bag_without : (s : State) (n : ℕ) (h : NumberedHandle)
    → bag (record s { hands = without same_held (held n h) s.hands }) n ≡ without same_held (held n h) (bag s n)
bag_without s n h = part_without_mine (λ (x : Held). x.desk) n same_held held_true (held n h) s.hands refl

module _ {V : Type 0} where
  -- what the desk has, by the numbers of the objects
  abbrev hands_of : DeskNow V → List Held
  hands_of d = bag (state_of d) d.name

  abbrev Legal : DeskNow V → Type 0
  Legal d = IsLegal (opening_of d.shape) d.seen

  -- by an event that makes f of what a desk has
  by_event : (d e : DeskNow V) (x : Event V) (f : List Held → List Held) → AddsEvent d x e
      → ((s : State) → bag (after s d.name x) d.name ≡ f (bag s d.name)) → hands_of e ≡ f (hands_of d)
  by_event d e x f adds is =
      let z = opening_of d.shape in
      let now : hands_of e ≡ bag (after (leads z (adds.between ++ d.seen)) d.name x) d.name =
      (λ i. bag (leads (opening_of (adds.same.1 i)) (adds.seen i)) (adds.same.2 i)) in
      now ∙ (is (leads z (adds.between ++ d.seen)) ∙ ap f (same_kept z adds.between d.seen d.name adds.quiet).in_bag)

  legal_by : (d e : DeskNow V) (x : Event V) → AddsEvent d x e → Legal e
  legal_by d e x adds = subst (λ z. IsLegal (opening_of z) e.seen) (sym adds.same.1) adds.legal

  -- a handle came out of a member and left
  in_and_out : (d m e : DeskNow V) (o j : ℕ) (k : Kind) (b : Option Block) (p : Option Place) (c : Block)
      → AddsEvent d (ClearMember o j (handle_in m k b p)) m → b ≡ Some c
      → hands_of e ≡ without same_held (held m.name (on_latest m k p c.0)) (hands_of m) → hands_of e ≡ hands_of d
  in_and_out d m e o j k b p c clears is out =
      let h = on_latest m k p c.0 in
      let adds : AddsEvent d (ClearMember o j h) m = subst (λ (y : Option Block). AddsEvent d (ClearMember o j (handle_in m k y p)) m) is clears in
      let got : hands_of m ≡ held d.name h ∷ hands_of d =
      by_event d m _ (λ l. held d.name h ∷ l) adds (λ s. part_mine (λ (x : Held). x.desk) d.name (held d.name h) s.hands refl) in
      out ∙ ((λ i. without same_held (held (adds.same.2 i) h) (got i))
      ∙ cond-true (same_held (held d.name h) (held d.name h)) (hands_of d) (held d.name h ∷ without same_held (held d.name h) (hands_of d))
      (held_self (held d.name h)))

  -- an empty one came out
  out_empty : (d m : DeskNow V) (o j : ℕ) (k : Kind) (b : Option Block) (p : Option Place)
      → AddsEvent d (ClearMember o j (handle_in m k b p)) m → b ≡ None → hands_of m ≡ hands_of d
  out_empty d m o j k b p clears is =
      by_event d m _ (λ l. l) (subst (λ (y : Option Block). AddsEvent d (ClearMember o j (handle_in m k y p)) m) is clears) (λ s. refl)

  left_out : (d m e : DeskNow V) (o j : ℕ) (b : Option Block) (p : Option Place) (left : Left V)
      → AddsEvent d (ClearMember o j (handle_in m Owner b p)) m → IsLeft m b p left e → (hands_of e ≡ hands_of d) × Legal e
  left_out d m e o j b p Empty clears is = (
    ap hands_of is.1 ∙ out_empty d m o j Owner b p clears is.0,
    subst Legal (sym is.1) (legal_by d m _ clears),
  )
  left_out d m e o j b p Others clears is =
      let h = on_latest m Owner p is.0.0 in (
        in_and_out d m e o j Owner b p is.0 clears is.1
            (by_event m e _ (without same_held (held m.name h)) is.2 (λ s. bag_without s m.name h)),
        legal_by m e _ is.2,
      )
  left_out d m e o j b p (Last x) clears is =
      let h = on_latest m Owner p x.block.0 in (
        in_and_out d m e o j Owner b p x.block clears is.0
            (by_event m e _ (without same_held (held m.name h)) is.1 (λ s. bag_without s m.name h)),
        legal_by m e _ is.1,
      )

  weakly_out : (d m e : DeskNow V) (o j : ℕ) (b : Option Block) (p : Option Place) (v : _)
      → AddsEvent d (ClearMember o j (handle_in m Weak b p)) m → LeavesWeakly m b p v e → (hands_of e ≡ hands_of d) × Legal e
  weakly_out d m e o j None p v clears is = (
    ap hands_of is.0 ∙ out_empty d m o j Weak None p clears refl,
    subst Legal (sym is.0) (legal_by d m _ clears),
  )
  weakly_out d m e o j (Some c) p v clears is =
      let h = on_latest m Weak p c.0 in (
        in_and_out d m e o j Weak (Some c) p c clears refl
            (by_event m e _ (without same_held (held m.name h)) is (λ s. bag_without s m.name h)),
        legal_by m e _ is,
      )

  clearing_hands : (d e : DeskNow V) (x : Ending V) (left : Left V) → IsClearing d x left e
      → (hands_of e ≡ hands_of d) × Legal e
  clearing_hands d e x left is = go (kind_of_member d.shape.owners x.cleared) is
    where
      go : (k : Kind) → ClearsOf k d x x.cleared left e → (hands_of e ≡ hands_of d) × Legal e
      go Owner is = let c = is.0 in left_out d c.between e _ x.cleared c.block c.place left c.takes.event c.leaves
      go Weak c = weakly_out d c.between e _ x.cleared c.block c.place c.vacant c.takes.event c.leaves

  -- from d to e, by events or by none
  abbrev HasStill : DeskNow V → DeskNow V → Type 0
  HasStill d e = (e ≡ d) ⊎ ((hands_of e ≡ hands_of d) × Legal e)

  still_both : (d e f : DeskNow V) → HasStill d e → HasStill e f → HasStill d f
  still_both d e f (inl same) two = subst (λ (u : DeskNow V). HasStill u f) same two
  still_both d e f (inr one) (inl same) = subst (HasStill d) (sym same) (inr one)
  still_both d e f (inr one) (inr two) = inr (two.0 ∙ one.0, two.1)

  round_hands : (d e : DeskNow V) (ys zs : List (Ending V)) (r : Round V) → IsRound d ys r e zs → HasStill d e
  round_hands d e ys zs Settled is = inl is.2
  round_hands d e ys zs (Cleared m gone) c = inr (clearing_hands d e c.top c.left c.clears)
  round_hands d e ys zs (Ended v) f = inr (by_event d e _ (λ l. l) f.finish.event (λ s. refl), legal_by d e _ f.finish.event)

  rounds_hands : (d e : DeskNow V) (xs ys : List (Ending V)) (rs : List (Past V)) → AreRounds d xs rs e ys → HasStill d e
  rounds_hands d e xs ys [] is = inl is.0
  rounds_hands d e xs ys (r ∷ rs) is =
      still_both d r.desk e (rounds_hands d r.desk xs r.pile rs is.0) (round_hands r.desk e r.pile ys r.round is.1)

  -- the same handles on the same objects
  same_hands : (d e : DeskNow V) → Does IsParting d e → hands_of e ≡ hands_of d → Legal e → KeepsHeld d e
  same_hands d e does same legal k p b has =
      let g = does.goes in let z = opening_of d.shape in let q = latest_of e b in
      let now : state_of e ≡ leads z (g.later ++ d.seen) = (λ i. leads (opening_of (g.same.1 i)) (g.seen i)) in
      let before : Legal d = legal_seen z g.later d.seen
      (subst (λ y. IsLegal (opening_of y) (g.later ++ d.seen)) g.same.1 (subst (IsLegal (opening_of e.shape)) g.seen legal)) in
      let mine = shown_held (opening_of e.shape) e.seen e.name k p b legal has in
      let x = handle k (Some q) p in
      let t = part_has (λ (y : Held). y.desk) d.name (held e.name x) (state_of d).hands
      (subst (Has (held e.name x)) same (has_part (λ (y : Held). y.desk) e.name (held e.name x) (state_of e).hands refl mine.0)) in
      let there : Has (held d.name x) (state_of d).hands = subst (λ n. Has (held n x) (state_of d).hands) t.1 t.0 in
      let was = names_an_object z d.seen before d.name k x (there, refl, refl) in
      let block : ((state_of d).object q).block ≡ b =
      sym (block_kept z g.later d.seen q was.1).0 ∙ (ap (λ (u : State). (u.object q).block) (sym now) ∙ mine.1) in
      sym was.2 ∙ ap (latest_of d) block

  -- rounds of a pile
  pub rounds_latest : (d e : DeskNow V) (xs ys : List (Ending V)) (rs : List (Past V)) → Does IsParting d e → AreRounds d xs rs e ys
      → KeepsHeld d e
  rounds_latest d e xs ys rs does are = go (rounds_hands d e xs ys rs are)
    where
      go : HasStill d e → KeepsHeld d e
      go (inl same) = subst (KeepsHeld d) (sym same) (held_here d)
      go (inr is) = same_hands d e does is.0 is.1
