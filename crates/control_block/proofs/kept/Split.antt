-- Split: the look that makes the event is allowed, and so is the cut of the view that follows.
use Rattle.std.proofs.Common.{◌≡◌, ℕ, suc, ◌+◌, ◌-◌, ◌<◌, Bool, false, ◌≢◌, List, [], ◌∷◌, ◌++◌}
use Rattle.std.proofs.Common.{map, length, get_or, set, ◌==◌, None, sym, refl, ap, ◌∙◌, subst, inl}
use Rattle.std.proofs.Common.{inr, ⊎_elim, arith, eq-eqb, ne_eqb}
use Rattle.control_block.proofs.Prelude
use Prelude.{Allows, At, at_longer, at_snoc, bag_size, Block, comes, entry, Event, filter}
use Prelude.{get_elem?, goes_on, HasAll, HasRoom, Held, held, held_self, held_true, Idle, IsBacked}
use Prelude.{IsOut, IsSlotOf, keeps, known, leads, map-append, MaySplit, none, num_map, num_none}
use Prelude.{num_passes, NumberedHandle, opening_of, Parting, passed, put, put_other, put_same}
use Prelude.{Rests, Ruled, same_held, same_stored, SeatView, seeing, set_else, Shape, some}
use Prelude.{some-injective, Split, Splits, splits_off, StandsFunded, State, step, Stored, stored}
use Prelude.{stored_true, view_of}
use Rattle.control_word.proofs.funded.Desks as law
use Rattle.control_word.specs.Views.{stays}
use Rattle.control_block.specs.StepKinds.{comes_off, parted, second_name}
use Rattle.control_block.proofs.words.Lists.{each_set, map_set}
use Rattle.control_block.proofs.partings.Parts.{all_from, all_to}
use Rattle.control_block.proofs.Passage.{adds, known_as, plain, point, quiet_next, ready, same}
use Rattle.control_block.proofs.kept.Look.{looked}

-- the giver's bag has the given handles no more
bag_given : (d to : ℕ) (hs : List NumberedHandle) (l : List Held) → d ≢ to → HasAll same_held (λ (h : NumberedHandle). held d h) hs l
    → length (filter (λ (x : Held). x.desk == d) (passed same_held (λ (h : NumberedHandle). held d h) (λ h. held to h) hs l)) + length hs
    ≡ length (filter (λ (x : Held). x.desk == d) l)
bag_given d to hs l n all =
    let p : Held → Bool = λ x. x.desk == d in
    let t = num_passes same_held held_true held_self (λ (h : NumberedHandle). held d h) (λ (h : NumberedHandle). held to h) p hs l all in
    let a = num_map p (λ (h : NumberedHandle). held to h) hs in let b = num_map p (λ (h : NumberedHandle). held d h) hs in
    let c = num_none (λ (h : NumberedHandle). to == d) hs (λ h. ne_eqb to d (λ e. n (sym e))) in
    let e = all_true hs in omega arith
  where
    all_true : (l : List NumberedHandle) → length (filter (λ (h : NumberedHandle). d == d) l) ≡ length l
    all_true [] = refl
    all_true (h ∷ l) = ap length (Rattle.std.proofs.lemmas.Bool.cond-true (d == d) (h ∷ filter (λ (h : NumberedHandle). d == d) l) (filter
        (λ (h : NumberedHandle). d == d) l) (eq-eqb d d refl)) ∙ ap suc (all_true l)

module _ {V : Type 0} where
  pub allows_split : (k : Shape) (slots id i n : ℕ) (hs : List NumberedHandle) (bs : List Block) (me : At V) → Rests me → MaySplit me.0 n hs bs
      → Allows (Ruled k) slots id me i (λ x. x) (parted n hs bs (step slots i 0 0 none) me)
  allows_split k slots id i n hs bs me rests may s r sized at small =
      let v = me.0 in let z = opening_of k in let t = leads z r.history in let d = v.view.name in let to = t.names in
      let mine = same k s r id v at rests.awake in let was = known_as k s r id v at rests.awake in
      let now = ready k s r id v at rests.awake Idle rests.idle in
      let acts = (r.stands.stands.team.seated id v.view now.seated rests.awake).acts d (inl refl) in
      let all : HasAll same_held (λ (h : NumberedHandle). held d h) hs t.hands = all_from (λ (x : Held). x.desk) d same_held held_true
      (λ (h : NumberedHandle). held d h) hs t.hands (λ h. refl)
      (subst (HasAll same_held (λ (h : NumberedHandle). held d h) hs) (ap (λ (y : State). filter (λ (x : Held). x.desk == d) y.hands) was ∙ sym mine.in_bag)
      (all_to (λ (x : Held). x.desk) d same_held held_true (λ (h : NumberedHandle). held d h) hs (known v).hands (λ h. refl) may.handles)) in
      let some' : HasAll same_stored (λ (b : Block). stored d b.0) bs t.stores = all_from (λ (x : Stored). x.desk) d same_stored stored_true
      (λ (b : Block). stored d b.0) bs t.stores (λ h. refl)
      (subst (HasAll same_stored (λ (b : Block). stored d b.0) bs) (ap (λ (y : State). filter (λ (x : Stored). x.desk == d) y.stores) was
      ∙ sym mine.in_stock)
      (all_to (λ (x : Stored). x.desk) d same_stored stored_true (λ (b : Block). stored d b.0) bs (known v).stores (λ h. refl) may.blocks)) in
      let allow : t.allowance d ≡ (known v).allowance d = mine.may_hold ∙ ap (λ (y : State). y.allowance d) (sym was) in
      let bags : bag_size t d ≡ bag_size (known v) d = ap length mine.in_bag ∙ ap (λ (y : State). bag_size y d) (sym was) in
      let less : n < t.allowance d = let a = may.less in omega arith in
      let apart : d ≢ to = λ e. let a = acts.0 in omega arith in
      let room : HasRoom (splits_off d to n hs bs t) d =
      let a : put (put t.allowance d (t.allowance d - n)) to n d ≡ t.allowance d - n = put_other (put t.allowance d
      (t.allowance d - n)) to n d apart ∙ put_same t.allowance d (t.allowance d - n) d refl in
      let b = bag_given d to hs t.hands apart all in let c = may.fits in omega arith in
      let e : Event V = Split to n hs bs in let h = entry d e ∷ r.history in
      let told = law.splits_funded (point k s r id v) to n hs bs now (refl, may.some_given, less, may.few, all, some') room in (
        seeing v (Parting to) None h,
        keeps,
        tt,
        quiet_next k s r id v (set s.words i (get_or s.words i 0)) e (Parting to) at rests.awake rests.empty
            (plain (λ y x. refl) (λ y x. refl) (λ y f. refl))
            (looked z s.words i _ h told),
        (to, adds k s r id v at rests.awake (Parting to) None e told.stands.legal, refl),
      )

  -- the second step: the new desk's seat
  pub allows_cut : (k : Shape) (id to : ℕ) (v : SeatView V) → v.view.spent ≡ false → v.view.pending ≡ Parting to → v.hand ≡ None
      → Splits (Ruled k) id v (goes_on v) (comes_off v)
  allows_cut k id to v awake pending free s r at =
      let z = opening_of k in let w = goes_on v in let c = comes_off v in
      let now = law.cuts_view_funded (point k s r id v) to (ready k s r id v at awake (Parting to) pending) in
      let name : comes v.view to ≡ c.view = ap (λ p. comes v.view (second_name p)) (sym pending) in
      let views : map view_of (set s.views id w ++ c ∷ []) ≡ set (map view_of s.views) id (stays v.view) ++ comes v.view to ∷ [] =
      map-append view_of (set s.views id w) (c ∷ []) ∙ (λ i. map_set view_of s.views id w i ++ sym name i ∷ []) in
      record {
        history = r.history;
        stands = subst (λ l. StandsFunded z s.words l r.history) (sym views) now;
        limits = r.limits;
        shapes = λ j u e. ⊎_elim
            (λ (q : get_elem? (set s.views id w) j ≡ some u). each_set (λ x y. y.view.spent ≡ false
            → y.shape ≡ k) s.views id w (λ _. r.shapes id v at awake) (λ x y n there un. r.shapes x y there un) j u q)
            (λ (q : c ≡ u). λ _. subst (λ (y : SeatView V). y.shape ≡ k) q (r.shapes id v at awake)) (at_snoc (set s.views id w) c u j e);
        sized = r.sized;
        homes = λ b inside. ⊎_elim inl (λ (o : IsOut s.views b). inr (out b o)) (r.homes b inside);
        backed = λ j u e. ⊎_elim
            (λ (q : get_elem? (set s.views id w) j ≡ some u).
            each_set (λ x y. y.view.spent ≡ false
            → IsBacked (leads z r.history) y.view.name y.view.pending y.hand) s.views id w (λ _. tt)
            (λ x y n there un. r.backed x y there un) j u q)
            (λ (q : c ≡ u). λ _. subst
            (λ (y : SeatView V). IsBacked (leads z r.history) y.view.name y.view.pending y.hand) q tt) (at_snoc (set s.views id w) c u j e);
      }
    where
      out : (b : ℕ) → IsOut s.views b → IsOut (set s.views id (goes_on v) ++ comes_off v ∷ []) b
      out b o =
          let apart : o.0 ≢ id = λ q. subst (λ h. IsSlotOf h b) free (subst
          (λ (u : SeatView V). IsSlotOf u.hand b) (some-injective o.1 v (sym o.2 ∙ (ap (get_elem? s.views) q ∙ at))) o.4) in
          (o.0, o.1, at_longer (set s.views id (goes_on v)) (comes_off v ∷ []) o.0 o.1 (set_else s.views id o.0 (goes_on v) apart ∙ o.2), o.3, o.4)
