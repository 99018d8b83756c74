-- Objects end in the hands of desks that there are.
use Rattle.std.proofs.Common.{◌≡◌, ℕ, suc, ◌<◌, ◌≤◌, true, false, cond, List, [], ◌∷◌, sym, refl}
use Rattle.std.proofs.Common.{◌∙◌, subst, arith}
use Rattle.control_block.proofs.Prelude
use Prelude.{after, ClearMember, Compare, cond_both, Count, ending, Entry, Event, Expired, Finish}
use Prelude.{Free, gone, handed, IsActing, IsLegal, Join, leads, Leave, live, Load, Lock, Make}
use Prelude.{many_ending, Member, moved_to, new_object, Object, object_of, Opening, Phase}
use Prelude.{put_cases, Read, renamed, Same, Share, Shelve, Split, State, Swap, unmade, Unshelve}
use Prelude.{Visit, WeakLeave, WeakShare}
use Rattle.control_block.proofs.EndingCounts.{ends_there, sum_none}
use Rattle.control_block.proofs.Endings.{fills_phase}

-- a phase names a desk below k
abbrev pub IsNamed : ℕ → Phase → Type 0
IsNamed k p = (d : ℕ) → p ≡ ending d → d < k

unmade_ends : (d : ℕ) → unmade ≡ ending d → ⊥
unmade_ends d e = cc

live_ends : (d : ℕ) → live ≡ ending d → ⊥
live_ends d e = cc

gone_ends : (d : ℕ) → gone ≡ ending d → ⊥
gone_ends d e = cc

same_end : (d e : ℕ) → ending d ≡ ending e → d ≡ e
same_end d e q = cc

renamed_named : (k other d e : ℕ) → d < k → e < k → renamed other d e < k
renamed_named k other d e a b = cond_both _ d e (λ x. x < k) (λ _. a) (λ _. b)

handed_named : (k other d : ℕ) (p : Phase) → d < k → IsNamed k p → IsNamed k (handed other d p)
handed_named k other d unmade acts named e is = absurd (unmade_ends e is)
handed_named k other d live acts named e is = absurd (live_ends e is)
handed_named k other d gone acts named e is = absurd (gone_ends e is)
handed_named k other d (ending x) acts named e is =
    subst (λ n. n < k) (same_end (renamed other d x) e is) (renamed_named k other d x acts (named x refl))

abbrev pub AllNamed : State → Type 0
AllNamed s = (o : ℕ) → IsNamed s.names (s.object o).phase

named_put : (s : State) (q : ℕ) (x : Object) → AllNamed s → IsNamed s.names x.phase → (o : ℕ)
    → IsNamed s.names (Rattle.control_word.specs.State.put s.object q x o).phase
named_put s q x all one o = put_cases (λ i (y : Object). IsNamed s.names y.phase) s.object q x o (λ _. one) (λ _. all o)

module _ {V : Type 0} where
  named_after : (s : State) (d : ℕ) (e : Event V) → IsActing s d → AllNamed s → AllNamed (after s d e)
  named_after s d (Make b enabled null fields val) acts all =
      named_put s (suc s.made) (new_object s.owners b.0 enabled null fields) all (λ n is. absurd (live_ends n is))
  named_after s d (Share y p) acts all = all
  named_after s d (Leave y last) acts all =
      let x = s.object (object_of y) in
      named_put s (object_of y) (cond last (moved_to (ending d) x) x) all
      (cond_both last (moved_to (ending d) x) x (λ (u : Object). IsNamed s.names u.phase)
      (λ _. λ n is. subst (λ i. i < s.names) (same_end d n is) acts.0) (λ _. all (object_of y)))
  named_after s d (Count y c) acts all = all
  named_after s d (Expired y c) acts all = all
  named_after s d (Read y c) acts all = all
  named_after s d (Same c h so) acts all = all
  named_after s d (WeakShare o p) acts all = all
  named_after s d (WeakLeave y v) acts all = all
  named_after s d (Lock y g) acts all = all
  named_after s d (Load c y) acts all = all
  named_after s d (Swap (Free c) y w) acts all = all
  named_after s d (Swap (Member o m) y w) acts all = λ q n is. all q n (sym (fills_phase s (Member o m) y q) ∙ is)
  named_after s d (Compare (Free c) u y w true k) acts all = all
  named_after s d (Compare (Member o m) u y w true k) acts all = λ q n is. all q n (sym (fills_phase s (Member o m) y q) ∙ is)
  named_after s d (Compare c u y w false k) acts all = all
  named_after s d (ClearMember o m y) acts all =
      λ q n is. all q n
      (sym (fills_phase s (Member o m) (Rattle.control_word.specs.Handles.empty (Rattle.control_word.specs.State.kind_of_member s.owners m)) q) ∙ is)
  named_after s d (Finish o v val) acts all = named_put s o (moved_to gone (s.object o)) all (λ n is. absurd (gone_ends n is))
  named_after s d (Visit y c w) acts all = all
  named_after s d (Split to n hs bs) acts all = λ o i is. let a = all o i is in omega arith
  named_after s d (Join other) acts all = λ o. handed_named s.names other d (s.object o).phase acts.0 (all o)
  named_after s d (Shelve b) acts all = all
  named_after s d (Unshelve b) acts all = all

  all_named : (z : Opening) (h : List (Entry V)) → IsLegal z h → AllNamed (leads z h)
  all_named z [] legal = λ o d is. absurd (unmade_ends d is)
  all_named z (e ∷ h) legal = named_after (leads z h) e.desk e.event legal.1.acting (all_named z h legal.0)

  -- nothing ends with a desk that isn't there yet
  pub none_named : (z : Opening) (h : List (Entry V)) (blocks n : ℕ) → IsLegal z h → (leads z h).names ≤ n → many_ending blocks (leads z h) n ≡ 0
  none_named z h blocks n legal few =
      let s = leads z h in
      sum_none blocks _ (λ j. ends_there n (s.object (s.latest (suc j))).phase s.names (all_named z h legal (s.latest (suc j))) few)
