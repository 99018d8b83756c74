-- Join: two seats become one, and the look that makes the event follows.
use Rattle.std.proofs.Common.{◌≡◌, ℕ, false, ◌≢◌, List, [], ◌∷◌, ◌++◌, map, get_or, set, None}
use Rattle.std.proofs.Common.{Option, sym, refl, ap, ◌∙◌, subst, inl, inr, ⊎_elim}
use Rattle.control_block.proofs.Prelude
use Prelude.{Allows, At, at_map, ending, Entry, entry, Event, get_elem?, gone, grown, handed}
use Prelude.{HasBoth, Idle, IsBacked, IsOut, IsSecond, IsSlotOf, Join, joined, keeps, leads, live}
use Prelude.{Merging, none, NoneBy, opening_of, Phase, Ruled, SeatView, seeing, set_else, Shape}
use Prelude.{some, some-injective, StandsFunded, step, unmade, until_gone, value, view_of}
use Rattle.std.proofs.lemmas.List.{append_cancel_right}
use Rattle.atomic_table.specs.Table as Table
use Rattle.atomic_table.specs.Table.{Joins}
use Rattle.control_word.proofs.funded.Desks as law
use Rattle.control_word.specs.Views.{together, used_up}
use Rattle.control_block.specs.StepKinds.{over}
use Rattle.control_block.proofs.words.Lists.{each_set, map_set}
use Rattle.control_block.proofs.Passage.{adds, next, point, ready}
use Rattle.control_block.proofs.words.Slots.{others_still}
use Rattle.control_block.proofs.kept.Look.{looked}

module _ {V : Type 0} where
  abbrev tail_of : List (Entry V) → List (Entry V)
  tail_of [] = []
  tail_of (x ∷ l) = l

  handed_keeps : (other d : ℕ) (p : Phase) (x : Option V) → until_gone (handed other d p) x ≡ until_gone p x
  handed_keeps other d unmade x = refl
  handed_keeps other d live x = refl
  handed_keeps other d gone x = refl
  handed_keeps other d (ending e) x = refl

  -- two seats at rest become one
  pub allows_glue : (k : Shape) (id j : ℕ) (v w : SeatView V) → v.view.spent ≡ false → v.view.pending ≡ Idle → v.hand ≡ None
      → w.view.spent ≡ false → w.view.pending ≡ Idle → w.hand ≡ None → Joins (Ruled k) id v j w (grown v w) over
  allows_glue k id j v w awake idle free awake' idle' free' s r at ne there₀ =
      let z = opening_of k in let both = grown v w in let there : get_elem? s.views j ≡ some w = sym (set_else s.views id j both ne) ∙ there₀ in
      let now = law.merges_views_funded (point k s r id v) j w.view (ready k s r id v at awake Idle idle) (at_map view_of s.views j w there)
      (λ q. ne (sym q)) awake' idle' in
      let views : map view_of (set (set s.views id both) j over) ≡ set (set (map view_of s.views) id (together v.view w.view)) j used_up =
      map_set view_of (set s.views id both) j over ∙ ap (λ l. set l j used_up) (map_set view_of s.views id both) in
      let all : (P : ℕ → SeatView V → Type 0) → P id both → P j over → ((x : ℕ) (u : SeatView V) → get_elem? s.views x ≡ some u → P x u)
      → (x : ℕ) (u : SeatView V) → get_elem? (set (set s.views id both) j over) x ≡ some u → P x u =
      λ P a b rest. each_set P (set s.views id both) j over b (λ x u n e. each_set P s.views id both a (λ y t m f. rest y t f) x u e) in
      record {
        history = r.history;
        stands = subst (λ l. StandsFunded z s.words l r.history) (sym views) now;
        limits = r.limits;
        shapes = all (λ x u. u.view.spent ≡ false → u.shape ≡ k) (λ _. r.shapes id v at awake) (λ q. absurd (cc)) r.shapes;
        sized = r.sized;
        homes = λ b inside. ⊎_elim inl (λ (o : IsOut s.views b). inr (out b there o)) (r.homes b inside);
        backed = all (λ x u. u.view.spent ≡ false → IsBacked (leads z r.history) u.view.name u.view.pending u.hand) (λ _. tt) (λ _. tt) r.backed;
      }
    where
      out : (b : ℕ) → get_elem? s.views j ≡ some w → IsOut s.views b → IsOut (set (set s.views id (grown v w)) j over) b
      out b there o =
          let empty : (i : ℕ) (u : SeatView V) → get_elem? s.views i ≡ some u → u.hand ≡ None → o.0 ≢ i =
          λ i u e none q. subst (λ h. IsSlotOf h b) none
          (subst (λ (y : SeatView V). IsSlotOf y.hand b) (some-injective o.1 u (sym o.2 ∙ (ap (get_elem? s.views) q ∙ e))) o.4) in
          let m = empty id v at free in let n = empty j w there free' in
          (o.0, o.1, set_else (set s.views id (grown v w)) j o.0 over n ∙ (set_else s.views id o.0 (grown v w) m ∙ o.2), o.3, o.4)

  -- the event of a join
  pub allows_join : (k : Shape) (slots id i other : ℕ) (mine others : List (Entry V)) (me : At V) → me.0.view.spent ≡ false
      → me.0.view.pending ≡ Merging other mine others → me.0.hand ≡ None
      → Allows (Ruled k) slots id me i (λ x. x) (joined (step slots i 0 0 none) me)
  allows_join k slots id i other mine others me awake pending free s r sized at small =
      let v = me.0 in let z = opening_of k in let t = leads z r.history in let d = v.view.name in let e : Event V = Join other in
      let h = entry d e ∷ r.history in
      let now = ready k s r id v at awake (Merging other mine others) pending in
      let told = law.joins_funded (point k s r id v) other mine others now in
      let seated = r.stands.stands.team.seated id v.view now.seated awake in
      let second : IsSecond v.view.pending other = subst (λ p. IsSecond p other) (sym pending) refl in
      let both : HasBoth d v.view.seen (Merging other mine others) = subst (HasBoth d v.view.seen) pending seated.both in
      let a = adds k s r id v at awake Idle None e told.stands.legal in
      let quiet : NoneBy other a.between = quiet_too s r at r.history a.between second refl (ap (λ (u : SeatView V). tail_of u.view.seen) a.now) in (
        seeing v Idle None h,
        keeps,
        tt,
        next k s r id v (seeing v Idle None h) (set s.words i (get_or s.words i 0)) s.homes h at awake (r.shapes id v at awake)
            (looked z s.words i _ h told) refl
            tt
            (others_still k s r id v at awake e told.stands.legal.1.asks
            (λ j u n there un names. n
            (sym (r.stands.stands.team.names id j v.view u.view now.seated (at_map view_of s.views j u there) awake un other (inr second) (inl (sym names))))))
            (λ b inside. inr (inr (
              refl,
              handed_keeps other d (t.object (t.latest b)).phase (value z r.history (t.latest b)),
              λ y. subst (λ c. IsSlotOf c b) free y,
            ))),
        (other, mine, others, pending, a, quiet, both.0, both.1, refl),
      )
    where
      quiet_too : (s : Table.State (Option V) (SeatView V)) (r : Ruled k s) (at : get_elem? s.views id ≡ some me.0) (h : List (Entry V)) (l : List (Entry V))
          → IsSecond me.0.view.pending other → h ≡ r.history → h ≡ l ++ me.0.view.seen → NoneBy other l
      quiet_too s r at h l second is e =
          let f = (r.stands.stands.team.seated id me.0.view (at_map view_of s.views id me.0 at) awake).knows other (inr second) in
          subst (NoneBy other) (append_cancel_right f.0 l me.0.view.seen (sym f.1 ∙ (sym is ∙ e))) f.2
