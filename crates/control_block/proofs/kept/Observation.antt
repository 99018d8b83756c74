-- Looks at any word, by one seat and by two that are one for the look.
use Rattle.std.proofs.Common.{◌≡◌, ℕ, false, ◌≢◌, [], ◌∷◌, ◌++◌, map, length, set, sym, refl, ap}
use Rattle.std.proofs.Common.{◌∙◌, subst, inl, inr, ⊎_elim}
use Rattle.control_block.proofs.Prelude
use Prelude.{Allows, At, at_inside, at_longer, at_map, at_snoc, first_again, get_elem?, grown}
use Prelude.{Idle, IsBacked, IsOut, IsSlotOf, keeps, leads, map-append, none, Observed}
use Prelude.{ObservedBoth, opening_of, Ruled, SeatView, second_again, set_else, set_here, Shape}
use Prelude.{some, some-injective, Splits, StandsFunded, step, View, view_of}
use Rattle.control_block.specs.ObservationStepKinds.{observed}
use Rattle.control_block.proofs.words.Apart.{apart_names, idle_view, last_at, one_view, part_again}
use Rattle.control_block.proofs.words.Lists.{each_set, map_set}
use Rattle.control_block.proofs.words.Still.{unmoved}

module _ {V : Type 0} where
  pub allows_observe : (k : Shape) (slots id i : ℕ) (me : At V) → me.0.view.spent ≡ false
      → Allows (Ruled k) slots id me i (λ n. n) (observed (step slots i 0 0 none) me)
  allows_observe k slots id i me awake s r sized at small =
      let v = me.0 in (
        v,
        keeps,
        tt,
        unmoved k s id i v r at,
        (
          refl,
          record {
            history = r.history;
            words = s.words;
            views = map view_of s.views;
            stands = subst (λ y. StandsFunded (opening_of y) s.words (map view_of s.views) r.history) (sym (r.shapes id v at awake)) r.stands;
            found = refl;
            here = (id, at_map view_of s.views id v at);
          },
        ),
      )

  -- a view at rest, by its name and what it has seen
  pub at_ease : (v : View V) → v.spent ≡ false → v.pending ≡ Idle → idle_view v.name v.seen ≡ v
  at_ease v awake idle = λ i. record { name = v.name; spent = sym awake i; pending = sym idle i; seen = v.seen }

  grown_is : (v w : SeatView V) → v.view.spent ≡ false → one_view v.view.name v.view.seen w.view.name w.view.seen ≡ (grown v w).view
  grown_is v w awake = λ i. record (grown v w).view { spent = sym awake i }

  -- what one view found, the two find that it was made of
  pub told_both : (v w : SeatView V) (a b : ℕ) → v.view.spent ≡ false → v.view.pending ≡ Idle → w.view.spent ≡ false
      → w.view.pending ≡ Idle → Observed (grown v w) a b → ObservedBoth v w a b
  told_both v w a b awake idle up rests o =
      let z = opening_of v.shape in let i = o.here.0 in
      let x = idle_view v.view.name v.view.seen in let y = idle_view w.view.name w.view.seen in
      let both = one_view v.view.name v.view.seen w.view.name w.view.seen in
      let at : get_elem? o.views i ≡ some both = o.here.1 ∙ ap some (sym (grown_is v w awake)) in
      let all = set o.views i x ++ y ∷ [] in
      record {
        history = o.history;
        words = o.words;
        views = all;
        stands = part_again z o.words o.views o.history o.stands i v.view.name v.view.seen w.view.name w.view.seen at;
        found = o.found;
        first = (i, at_longer (set o.views i x) (y ∷ []) i x (set_here o.views i x (at_inside o.views i both at)) ∙ ap some (at_ease v.view awake idle));
        second = (length (set o.views i x), last_at (set o.views i x) y ∙ ap some (at_ease w.view up rests));
        apart = apart_names z o.words o.views o.history o.stands i v.view.name v.view.seen w.view.name w.view.seen at;
      }

  -- they come apart as they were
  pub allows_unglue : (k : Shape) (id : ℕ) (v w : SeatView V) → v.view.spent ≡ false → Splits (Ruled k) id (grown v w)
      (first_again (grown v w)) (second_again (grown v w))
  allows_unglue k id v w awake s r at =
      let z = opening_of k in let g = grown v w in let x = first_again g in let y = second_again g in
      let there : get_elem? (map view_of s.views) id ≡ some (one_view v.view.name v.view.seen w.view.name w.view.seen) =
      at_map view_of s.views id g at ∙ ap some (sym (grown_is v w awake)) in
      let now = part_again z s.words (map view_of s.views) r.history r.stands id v.view.name v.view.seen w.view.name w.view.seen there in
      let same : idle_view v.view.name v.view.seen ≡ x.view = λ i. record x.view { spent = sym awake i } in
      let views : map view_of (set s.views id x ++ y ∷ []) ≡ set (map view_of s.views) id (idle_view v.view.name v.view.seen) ++ y.view ∷ [] =
      map-append view_of (set s.views id x) (y ∷ []) ∙ (λ i. (map_set view_of s.views id x ∙ ap (set (map view_of s.views) id) (sym same)) i ++ y.view ∷ []) in
      let shape : g.shape ≡ k = r.shapes id g at awake in
      record {
        history = r.history;
        stands = subst (λ l. StandsFunded z s.words l r.history) (sym views) now;
        limits = r.limits;
        shapes = λ j u e. ⊎_elim
            (λ (q : get_elem? (set s.views id x) j ≡ some u). each_set (λ a b. b.view.spent ≡ false
            → b.shape ≡ k) s.views id x (λ _. shape) (λ a b n there un. r.shapes a b there un) j u q)
            (λ (q : y ≡ u). λ _. subst (λ (b : SeatView V). b.shape ≡ k) q shape) (at_snoc (set s.views id x) y u j e);
        sized = r.sized;
        homes = λ b inside. ⊎_elim inl (λ (o : IsOut s.views b). inr (out b o)) (r.homes b inside);
        backed = λ j u e. ⊎_elim
            (λ (q : get_elem? (set s.views id x) j ≡ some u).
            each_set (λ a b. b.view.spent ≡ false
            → IsBacked (leads z r.history) b.view.name b.view.pending b.hand) s.views id x (λ _. tt)
            (λ a b n there un. r.backed a b there un) j u q)
            (λ (q : y ≡ u). λ _. subst
            (λ (b : SeatView V). IsBacked (leads z r.history) b.view.name b.view.pending b.hand) q tt) (at_snoc (set s.views id x) y u j e);
      }
    where
      out : (b : ℕ) → IsOut s.views b → IsOut (set s.views id (first_again (grown v w)) ++ second_again (grown v w) ∷ []) b
      out b o =
          let apart : o.0 ≢ id = λ q. subst (λ (u : SeatView V). IsSlotOf u.hand b) (some-injective o.1 (grown v w) (sym o.2
          ∙ (ap (get_elem? s.views) q ∙ at))) o.4 in (
            o.0,
            o.1,
            at_longer (set s.views id (first_again (grown v w))) (second_again (grown v w) ∷ []) o.0 o.1
                (set_else s.views id o.0 (first_again (grown v w)) apart ∙ o.2),
            o.3,
            o.4,
          )
