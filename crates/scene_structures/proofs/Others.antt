-- What ends in the desk's hands elsewhere than on a pile stays as it is, call by call.
use Rattle.std.proofs.Common.{◌≡◌, ℕ, ◌≢◌, List, [], ◌∷◌, ◌++◌, length, Some, None, Option, sym}
use Rattle.std.proofs.Common.{refl, ap, ◌∙◌, subst, arith}
use Rattle.scene_structures.proofs.Prelude
use Prelude.{AddsEvent, after, AllEnd, AreRounds, Block, Cleared, ClearMember, ClearsMember}
use Prelude.{counting, DeskNow, Empty, Ended, Ending, ending, endings_of, EndsInHand, Event}
use Prelude.{Finish, IsClearing, IsGone, IsLeft, IsLegal, IsRound, Keeps, KeepsEndings, KeepsOthers}
use Prelude.{Kind, kind_of_member}
use Prelude.{Last, latest_of, leads, LeavesWeakly, Left, legal_seen, NumberedHandle, Object}
use Prelude.{opening_of, Others, Owner, Past, put_again, put_other, Round, Settled, sound, State}
use Prelude.{state_of, Weak, with_clear}
use Rattle.control_block.proofs.Endings.{ends_here, ends_unmade, still_ends}
use Rattle.control_block.specs.Desks.{IsEnding, member_in, object_in}
use Rattle.shared_handle.proofs.Beside.{apart, left_apart}
use Rattle.shared_handle.proofs.PiledEndings.{among_append, among_before, piled_apart}
use Rattle.shared_handle.specs.Endings.{ClearsOf, IsBeside}
use Rattle.shared_handle.specs.Piles.{KeepsElsewhere, NotAmong}
use Rattle.control_block.specs.Rule.{members_of}

module _ {V : Type 0} where
  pub others_none : (d : DeskNow V) (xs : List (Ending V)) → KeepsOthers d xs d xs
  others_none d xs = record { count = refl; still = λ b x ends n. (n, record { ends = ends; shape = refl; members = λ m. refl }) }

  -- one after the other
  pub others_both : {d e f : DeskNow V} {xs ys zs : List (Ending V)} → KeepsOthers d xs e ys → KeepsOthers e ys f zs → KeepsOthers d xs f zs
  others_both one two =
      record {
        count = let p = one.count in let q = two.count in omega arith;
        still = λ b x ends n.
            let s = one.still b x ends n in let t = two.still b x s.1.ends s.0 in
            (t.0, record { ends = t.1.ends; shape = t.1.shape ∙ s.1.shape; members = λ m. t.1.members m ∙ s.1.members m });
      }

  -- a call that ends nothing
  pub others_kept : (d e : DeskNow V) (xs : List (Ending V)) → KeepsEndings d e → endings_of e ≡ endings_of d → KeepsOthers d xs e xs
  others_kept d e xs keeps count = record { count = omega arith; still = λ b x ends n. (n, keeps b x ends) }

  pub others_call : {d e : DeskNow V} (xs : List (Ending V)) → Keeps d e → KeepsOthers d xs e xs
  others_call {d} {e} xs keeps = others_kept d e xs keeps.endings keeps.count

  pub others_counted : (d e : DeskNow V) (n : ℕ) (xs : List (Ending V)) → e ≡ counting n d → KeepsOthers d xs e xs
  others_counted d e n xs is =
      subst (λ (u : DeskNow V). KeepsOthers d xs u xs) (sym is)
      (record { count = refl; still = λ b x ends n. (n, record { ends = record { phase = ends.phase; kept = ends.kept }; shape = refl; members = λ m. refl }) })

  -- where nothing lies on the pile, that is all that ends in the desk's hands
  pub all_others : (d e : DeskNow V) (xs ys : List (Ending V)) → xs ≡ [] → ys ≡ [] → KeepsOthers d xs e ys
      → KeepsEndings d e × (endings_of e ≡ endings_of d)
  all_others d e xs ys none nil keeps = (
    λ b x ends. (keeps.still b x ends (subst (NotAmong b) (sym none) tt)).1,
    let a = ap length none in let b = ap length nil in let c = keeps.count in omega arith,
  )

  -- what ends there does so still, by a call of the pile
  still_there : (d e : DeskNow V) (xs ys : List (Ending V)) (b : ℕ) (x : V) → AllEnd d xs → KeepsElsewhere d xs e ys → IsEnding d b x → NotAmong b xs
      → NotAmong b ys × IsEnding e b x
  still_there d e xs ys b x all keeps ends n =
      let w : Ending V = record { block = record { 0 = b }; value = x; members = members_of d.shape; cleared = 0 } in
      let is : EndsInHand d w =
      record { ends = ends; shape = refl; few = omega arith; cleared = λ m lt. absurd (omega (arith, lt)) } in
      let a = keeps.beside w (is, n, all) in (a.1, a.0.ends)

  -- an owner left
  pub others_left : (d e : DeskNow V) (xs ys : List (Ending V)) → AllEnd d xs → KeepsElsewhere d xs e ys → KeepsEndings d e → KeepsOthers d xs e ys
  others_left d e xs ys all elsewhere keeps =
      record { count = elsewhere.count; still = λ b x ends n. ((still_there d e xs ys b x all elsewhere ends n).0, keeps b x ends) }

  -- what is left of an object that ends in the block
  record Lasts (d e : DeskNow V) (b : ℕ) : Type 0 where
    phase : (object_in e b).phase ≡ ending e.name
    shape : e.shape ≡ d.shape
    members : (m : ℕ) → member_in e b m ≡ member_in d b m

  lasts_both : (d e f : DeskNow V) (b : ℕ) → Lasts d e b → Lasts e f b → Lasts d f b
  lasts_both d e f b one two = record { phase = two.phase; shape = two.shape ∙ one.shape; members = λ m. two.members m ∙ one.members m }

  -- another block's latest object is another one
  apart_latest : (d : DeskNow V) (b c : ℕ) → IsLegal (opening_of d.shape) d.seen → (object_in d b).phase ≡ ending d.name → c ≢ b
      → latest_of d b ≢ latest_of d c
  apart_latest d b c legal ends other same =
      let z = opening_of d.shape in let s = state_of d in let fine = sound z d.seen legal in
      let some : s.latest c ≢ 0 = λ q. ends_unmade d.name
      (sym ends ∙ (ap (λ o. (s.object o).phase) (same ∙ q) ∙ fine.none)) in
      other (sym (fine.latest_in c some) ∙ (ap (λ o. (s.object o).block) (sym same) ∙ ends_here z s b d.name fine ends))

  -- a call of the desk on another object
  lasts_through : (d e : DeskNow V) (b : ℕ) (x : Event V) → ((s : State) → (after s d.name x).latest b ≡ s.latest b)
      → ((s : State) → (after s d.name x).object (latest_of d b) ≡ s.object (latest_of d b))
      → (object_in d b).phase ≡ ending d.name → AddsEvent d x e → Lasts d e b
  lasts_through d e b x block object ends adds =
      let z = opening_of d.shape in
      let legal = subst (IsLegal z) adds.seen adds.legal in
      let s = leads z (adds.between ++ d.seen) in
      let still = still_ends z adds.between d.seen b d.name legal.0 adds.quiet ends in
      let now : state_of e ≡ after s d.name x = (λ i. leads (opening_of (adds.same.1 i)) (adds.seen i)) in
      let is : object_in e b ≡ s.object (latest_of d b) =
      ap (λ (u : State). u.object (u.latest b)) now ∙ (ap (after s d.name x).object (block s ∙ still.latest) ∙ object s) in
      record {
        phase = ap (λ (y : Object). y.phase) is ∙ (still.object.phase ∙ (ends ∙ ap ending (sym adds.same.2)));
        shape = adds.same.1;
        members = λ m. ap (λ (y : Object). y.member m) is ∙ still.object.member m;
      }

  legal_before : (d e : DeskNow V) (x : Event V) → AddsEvent d x e → IsLegal (opening_of d.shape) d.seen
  legal_before d e x adds =
      let z = opening_of d.shape in legal_seen z adds.between d.seen (subst (IsLegal z) adds.seen adds.legal).0

  lasts_clear : (d e : DeskNow V) (b c j : ℕ) (h : NumberedHandle) → c ≢ b → (object_in d b).phase ≡ ending d.name
      → AddsEvent d (ClearMember (latest_of d c) j h) e → Lasts d e b
  lasts_clear d e b c j h other ends adds =
      lasts_through d e b _ (λ s. refl)
      (λ s. put_other s.object (latest_of d c) _ (latest_of d b) (apart_latest d b c (legal_before d e _ adds) ends other)) ends adds

  lasts_finish : (d e : DeskNow V) (b c : ℕ) (v : _) (y : V) → c ≢ b → (object_in d b).phase ≡ ending d.name
      → AddsEvent d (Finish (latest_of d c) v y) e → Lasts d e b
  lasts_finish d e b c v y other ends adds =
      lasts_through d e b _ (λ s. refl)
      (λ s. put_other s.object (latest_of d c) _ (latest_of d b) (apart_latest d b c (legal_before d e _ adds) ends other)) ends adds

  -- an owner left, and what ended for it was another object
  lasts_left : (d e : DeskNow V) (b : ℕ) (h : _) (p : _) (left : Left V) → (object_in d b).phase ≡ ending d.name → IsLeft d h p left e
      → Lasts d e b
  lasts_left d e b h p Empty ends is =
      subst (λ (u : DeskNow V). Lasts d u b) (sym is.1) (record { phase = ends; shape = refl; members = λ m. refl })
  lasts_left d e b h p Others ends is =
      lasts_through d e b _ (λ s. refl) (λ s. ap (λ f. f (latest_of d b)) (put_again s.object _)) ends is.2
  lasts_left d e b h p (Last x) ends is =
      let other : x.block.0 ≢ b = λ q. apart d e b x.block.0 p ends is.1 (sym q) in
      lasts_through d e b _ (λ s. refl)
      (λ s. put_other s.object (latest_of d x.block.0) _ (latest_of d b)
      (apart_latest d b x.block.0 (legal_before d e _ is.1) ends other)) ends is.1

  lasts_weakly : (d e : DeskNow V) (b : ℕ) (h : _) (p : _) (v : _) → (object_in d b).phase ≡ ending d.name → LeavesWeakly d h p v e
      → Lasts d e b
  lasts_weakly d e b None p v ends is =
      subst (λ (u : DeskNow V). Lasts d u b) (sym is.0) (record { phase = ends; shape = refl; members = λ m. refl })
  lasts_weakly d e b (Some c) p v ends is = lasts_through d e b _ (λ s. refl) (λ s. refl) ends is

  lasts_shared : (d e : DeskNow V) (b : ℕ) (x : Ending V) (j : ℕ) (left : Left V) → x.block.0 ≢ b → (object_in d b).phase ≡ ending d.name
      → ClearsMember d x j left e → Lasts d e b × IsBeside b left
  lasts_shared d e b x j left other ends c =
      let one = lasts_clear d c.between b x.block.0 j _ other ends c.takes.event in (
        lasts_both d c.between e b one (lasts_left c.between e b c.block c.place left one.phase c.leaves),
        left_apart c.between e c.block c.place left c.leaves b one.phase,
      )

  -- a weak handle that left ended nothing
  weakly_beside : (block : Option Block) (left : Left V) (b : ℕ) → IsGone block left → IsBeside b left
  weakly_beside block Empty b gone = tt
  weakly_beside block Others b gone = tt
  weakly_beside block (Last x) b gone = absurd gone

  lasts_clearing : (d e : DeskNow V) (b : ℕ) (x : Ending V) (left : Left V) → x.block.0 ≢ b
      → (object_in d b).phase ≡ ending d.name → IsClearing d x left e → Lasts d e b × IsBeside b left
  lasts_clearing d e b x left other ends is = go (kind_of_member d.shape.owners x.cleared) is
    where
      go : (k : Kind) → ClearsOf k d x x.cleared left e → Lasts d e b × IsBeside b left
      go Owner is = lasts_shared d e b x x.cleared left other ends is.0
      go Weak c =
          let one = lasts_clear d c.between b x.block.0 x.cleared _ other ends c.takes.event in (
            lasts_both d c.between e b one (lasts_weakly c.between e b c.block c.place c.vacant one.phase c.leaves),
            weakly_beside c.block left b c.told,
          )

  -- a round of a pile on which it doesn't lie
  lasts_round : (d e : DeskNow V) (b : ℕ) (ys zs : List (Ending V)) (r : Round V) → NotAmong b ys
      → (object_in d b).phase ≡ ending d.name → IsRound d ys r e zs → Lasts d e b × NotAmong b zs
  lasts_round d e b ys zs Settled n ends is = (
    subst (λ (u : DeskNow V). Lasts d u b) (sym is.2) (record { phase = ends; shape = refl; members = λ m. refl }),
    subst (NotAmong b) (sym is.1) tt,
  )
  lasts_round d e b ys zs (Cleared m gone) n ends c =
      let t = among_before b c.below c.top (subst (NotAmong b) c.were n) in
      let l = lasts_clearing d e b c.top c.left t.1 ends c.clears in (
        l.0,
        subst (NotAmong b) (sym c.are) (piled_apart b (c.below ++ with_clear c.top ∷ []) c.left (among_append b c.below _ t.0 t.1) l.1),
      )
  lasts_round d e b ys zs (Ended v) n ends f =
      let t = among_before b zs f.top (subst (NotAmong b) f.were n) in
      (lasts_finish d e b f.top.block.0 _ v t.1 ends f.finish.event, t.0)

  lasts_rounds : (d e : DeskNow V) (b : ℕ) (xs ys : List (Ending V)) (rs : List (Past V)) → NotAmong b xs
      → (object_in d b).phase ≡ ending d.name → AreRounds d xs rs e ys → Lasts d e b × NotAmong b ys
  lasts_rounds d e b xs ys [] n ends is = (
    subst (λ (u : DeskNow V). Lasts d u b) (sym is.0) (record { phase = ends; shape = refl; members = λ m. refl }),
    subst (NotAmong b) (sym is.1) n,
  )
  lasts_rounds d e b xs ys (r ∷ rs) n ends is =
      let one = lasts_rounds d r.desk b xs r.pile rs n ends is.0 in
      let two = lasts_round r.desk e b r.pile ys r.round one.1 one.0.phase is.1 in
      (lasts_both d r.desk e b one.0 two.0, two.1)

  -- rounds of a pile
  pub others_rounds : (d e : DeskNow V) (xs ys : List (Ending V)) (rs : List (Past V)) → AllEnd d xs
      → KeepsElsewhere d xs e ys → AreRounds d xs rs e ys → KeepsOthers d xs e ys
  others_rounds d e xs ys rs all elsewhere are =
      record {
        count = elsewhere.count;
        still = λ b x ends n.
            let t = still_there d e xs ys b x all elsewhere ends n in
            let l = (lasts_rounds d e b xs ys rs n ends.phase are).0 in
            (t.0, record { ends = t.1; shape = l.shape; members = l.members });
      }

  -- and one of them
  pub others_round : (d e : DeskNow V) (ys zs : List (Ending V)) (r : Round V) → AllEnd d ys
      → KeepsElsewhere d ys e zs → IsRound d ys r e zs → KeepsOthers d ys e zs
  others_round d e ys zs r all elsewhere is =
      others_rounds d e ys zs (record { round = r; desk = d; pile = ys } ∷ []) all elsewhere ((refl, refl), is)
