-- Desks that are split and joined, where each handle in hand has its funds: these go along with the handles.
use Rattle.std.proofs.Common.{◌≡◌, ℕ, zero, suc, ◌+◌, false, ◌≢◌, List, [], ◌∷◌, ◌++◌, set, sym, refl, ap, ◌∙◌, arith}
use Rattle.control_word.proofs.Prelude
use Prelude.{Entry, entry, get_elem?, Idle, Join, me, Merging, Parting, Pending, Point, sees_as, set_else, some, Split, state, View}
use Rattle.control_word.proofs.funded.Events.{hand_joins, hand_splits}
use Rattle.control_word.proofs.funded.Next.{bare_ready, bared, lacking_set, told}
use Rattle.control_word.proofs.funded.Totals.{total_append}
use Rattle.control_word.proofs.steps.Join.{joins, merges_views}
use Rattle.control_word.proofs.steps.Split.{cuts_view, splits}
use Rattle.control_word.proofs.words.Frames.{total_set}
use Rattle.control_word.specs.HandFunds.{lacking, lacks, StandsFunded}
use Rattle.control_word.specs.Steps.{CutsView, Joins, MergesViews, ReadyBy, Splits}
use Rattle.control_word.specs.Views.{comes, stays, together, total, used_up}

module _ {V : Type 0} where
  pub splits_funded : Splits V StandsFunded
  splits_funded at to n hs bs ready asks room =
      let q : Pending V = Parting to in
      let h = entry (me at) (Split to n hs bs) ∷ at.history in
      told at.opening at.words at.views at.history ready.stands (set at.views at.seat (sees_as at.view q h)) h
      (splits (bared at ready.stands) to n hs bs (bare_ready at Idle ready) asks room)
      (λ i. let x = lacking_set at.views at.seat at.view q h i ready.seated in let y = ap (λ c. lacks c i) ready.pending in
      let z = hand_splits (state at) (me at) to n hs bs i asks.4 in omega arith)

  pub cuts_view_funded : CutsView V StandsFunded
  cuts_view_funded at to ready =
      told at.opening at.words at.views at.history ready.stands (set at.views at.seat (stays at.view) ++ comes at.view to ∷ []) at.history
      (cuts_view (bared at ready.stands) to (bare_ready at _ ready))
      (λ i. let x = total_set (λ (u : View V). lacks u.pending i) at.views at.seat at.view (stays at.view) ready.seated in
      let y = ap (λ c. lacks c i) ready.pending in
      let z = total_append (λ (u : View V). lacks u.pending i) (set at.views at.seat (stays at.view)) (comes at.view to ∷ []) in omega arith)

  pub merges_views_funded : MergesViews V StandsFunded
  merges_views_funded at j w ready there two up rests =
      let us = set at.views at.seat (together at.view w) in
      let still : get_elem? us j ≡ some w = set_else at.views at.seat j (together at.view w) (λ e. two (sym e)) ∙ there in
      told at.opening at.words at.views at.history ready.stands (set us j used_up) at.history
      (merges_views (bared at ready.stands) j w (bare_ready at Idle ready) there two up rests)
      (λ i. let x = total_set (λ (u : View V). lacks u.pending i) at.views at.seat at.view (together at.view w) ready.seated in
      let y = ap (λ c. lacks c i) ready.pending in
      let z = total_set (λ (u : View V). lacks u.pending i) us j w used_up still in let r = ap (λ c. lacks c i) rests in omega arith)

  pub joins_funded : Joins V StandsFunded
  joins_funded at other mine others ready =
      let h = entry (me at) (Join other) ∷ at.history in
      told at.opening at.words at.views at.history ready.stands (set at.views at.seat (sees_as at.view Idle h)) h
      (joins (bared at ready.stands) other mine others (bare_ready at _ ready))
      (λ i. let x = lacking_set at.views at.seat at.view Idle h i ready.seated in let y = ap (λ c. lacks c i) ready.pending in
      let z = hand_joins (state at) (me at) other i in omega arith)
