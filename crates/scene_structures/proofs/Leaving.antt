-- A node that is taken out of its parent's children on a sole desk.
use Rattle.std.proofs.Common.{◌≡◌, ℕ, ◌<◌, Bool, true, false, ◌⊎◌, List, [], ◌∷◌, Some, None}
use Rattle.std.proofs.Common.{Option, MatchOption, sym, refl, ap, ◌∙◌, subst, inl, inr, ⊎_elim}
use Rattle.std.proofs.Common.{arith}
use Rattle.scene_structures.proofs.Prelude
use Prelude.{after_all, bag_of, Block, Cell, cell_of, DeskNow, Detaches, Does, does_both}
use Prelude.{does_none, does_one, handle_in, Has, in_no_cell, is_owned, IsLegal, IsList, IsParent}
use Prelude.{IsParting, IsSole, IsWithin, KeepsBut, LeavesParent, Lists, live, LocksHandle}
use Prelude.{LocksUp, Member, node_in, NumberedHandle, object_of, opening_of, Owner, owner, Place}
use Prelude.{PutsOnly, Seeks, Shared, sound, state_of, UnlinksIf, weak_does}
use Rattle.control_word.proofs.history.Allowances.{opened}
use Rattle.control_word.proofs.history.Kept.{members_led}
use Rattle.control_word.specs.State.{count}
use Rattle.scene_structures.specs.Leaves.{IsCut, IsDetached, IsNoChild, LeavesList, WentOut}
use Rattle.scene_structures.specs.Scenes.{AreChildren}
use Rattle.scene_structures.proofs.Alone.{held_on, legal_on}
use Rattle.scene_structures.proofs.Cuts.{end_of, onto}
use Rattle.scene_structures.proofs.Frames.{live_if}
use Rattle.scene_structures.proofs.Heads.{Lives}
use Rattle.scene_structures.proofs.Looks.{owner_within}
use Rattle.scene_structures.proofs.Pushes.{shares_does}
use Rattle.scene_structures.proofs.Sole.{held_live}
use Rattle.scene_structures.proofs.Sought.{IfCut, IsOut, Stood, after_onto, in_onto, list_stays}
use Rattle.scene_structures.proofs.Sought.{lived, not_below, onto_more, seeks_does, object_is}
use Rattle.scene_structures.proofs.Sought.{sought_list, stood_on}
use Rattle.scene_structures.proofs.Stays.{puts_nothing}
use Rattle.scene_structures.proofs.Unlinking.{anywhere, counts, head_of, in_there, keeps_but}
use Rattle.scene_structures.proofs.Unlinking.{none_wider, owner_none, owner_some, unlinked_list}
use Rattle.scene_structures.proofs.Unlinking.{unlinks_does, wider}

module _ {V : Type 0} where
  -- the object left the list, or wasn't in it
  left_list : (p o : ℕ) (os passed : List ℕ) (found : Bool) (d a s u e : DeskNow V) → Does (PutsOnly in_no_cell) d a
      → Seeks a (Member p 0) o passed found s → UnlinksIf found s o u → Does IsParting u e → Stood (Member p 0) d → Stood (Member o 1) d
      → Stood (Member o 2) d → AreChildren (state_of d) p os → Lives (state_of e) (Member p 0) → Lives (state_of e) (Member o 1)
      → LeavesList d p o os e ⊎ IsNoChild d p o os e
  left_list p o os passed true d a s u e comes seeks unlinks leaves st st_n st_u list lives lives_o =
      let c = Member p 0 in let k = end_of c passed in let n = Member o 1 in let w = Member o 2 in
      let at = IfCut k true in let at_o = λ (j : Cell). (j ≡ Member o 1) ⊎ (j ≡ Member o 2) in
      let does_s = seeks_does a s c o passed true seeks in
      let does_u = unlinks_does s u o unlinks in
      let does_e = puts_nothing u e leaves in
      let st_a = stood_on in_no_cell c d a comes st in
      let st_s = stood_on at c a s does_s st_a in
      let st_uu = stood_on at_o c s u does_u st_s in
      let next_s = stood_on at n a s does_s (stood_on in_no_cell n d a comes st_n) in
      let next_u = stood_on at_o n s u does_u next_s in
      let up_s = stood_on at w a s does_s (stood_on in_no_cell w d a comes st_u) in
      let up_u = stood_on at_o w s u does_u up_s in
      let lives_u = lived in_no_cell c u e does_e st_uu lives in
      let lives_s = lived at_o c s u does_u st_s lives_u in
      let lives_a = lived at c a s does_s st_a lives_s in
      let next_lives = lived in_no_cell n u e does_e next_u lives_o in
      let list_a = list_stays c os d a comes st lives_a list in
      let out : IsOut (state_of s) c os passed o true = sought_list a s c o passed true os seeks (head_of p) st_a lives_s list_a in
      let behind = out.0 in
      let chain = subst (λ l. IsList (state_of a) c l) out.1 list_a in
      let none : Has o (onto passed behind) → ⊥ = λ has. ⊎_elim (λ (h : Has o passed). out.3 h)
      (λ (h : Has o behind). not_below (state_of a) (cell_of (state_of a) c) passed behind o chain h) (in_onto o passed behind has) in
      let done = unlinked_list p o (onto passed behind) s u unlinks st_s next_s up_s lives_u next_lives none out.2 in
      let before = onto passed [] in
      let all = IsCut (after_all c before) o in
      let cell : k ≡ after_all c before = sym (after_onto c passed []) in
      let whole : Does (PutsOnly all) d e =
      does_both (PutsOnly all) d a e (none_wider all d a comes) (does_both (PutsOnly all) a s e
      (wider at all a s (λ j is. inl (is ∙ cell)) does_s) (does_both (PutsOnly all) s u e
      (wider at_o all s u (λ j is. inr is) does_u) (none_wider all u e does_e))) in
      inl record {
        before = before;
        behind = behind;
        was = out.1 ∙ onto_more passed [] (o ∷ behind);
        is = subst (λ l. IsList (state_of e) c l) (onto_more passed [] behind)
            (list_stays c (onto passed behind) u e does_e st_uu lives done.list);
        next = held_on in_no_cell u e does_e next_u.legal next_u.sole n (λ j. j) next_u.there lives_o ∙ done.next;
        up = held_on in_no_cell u e does_e up_u.legal up_u.sole w (λ j. j) up_u.there lives_o ∙ done.up;
        rest = keeps_but all d e whole st.legal st.sole;
      }
  left_list p o os passed false d a s u e comes seeks unlinks leaves st st_n st_u list lives lives_o =
      let c = Member p 0 in
      let does_s : Does (PutsOnly in_no_cell) a s =
      wider (IfCut (end_of c passed) false) in_no_cell a s (λ j is. is) (seeks_does a s c o passed false seeks) in
      let does_e = puts_nothing u e leaves in
      let st_a = stood_on in_no_cell c d a comes st in
      let st_s = stood_on in_no_cell c a s does_s st_a in
      let to_e : Does (PutsOnly in_no_cell) s e = subst (λ (x : DeskNow V). Does (PutsOnly in_no_cell) x e) unlinks does_e in
      let lives_s = lived in_no_cell c s e to_e st_s lives in
      let lives_a = lived in_no_cell c a s does_s st_a lives_s in
      let list_a = list_stays c os d a comes st lives_a list in
      let out : IsOut (state_of s) c os passed o false = sought_list a s c o passed false os seeks (head_of p) st_a lives_s list_a in
      let whole = does_both (PutsOnly in_no_cell) d a e comes (does_both (PutsOnly in_no_cell) a s e does_s to_e) in
      inr record {
        none = out.1;
        is = list_stays c os s e to_e st_s lives out.0;
        rest = keeps_but in_no_cell d e whole st.legal st.sole;
      }

  -- a look for the parent puts nothing anywhere
  locks_none : (d e : DeskNow V) (b : Option Block) (p : Option Place) (got : Bool) → LocksHandle d b p got e → Does (PutsOnly in_no_cell) d e
  locks_none d e None p got is = (shares_does in_no_cell d e None p p is.1).0
  locks_none d e (Some b) p got is = does_one (PutsOnly in_no_cell) d e _ is.0 tt

  climbs_does : (d e : DeskNow V) (o : ℕ) (h : Shared) → LocksUp d o h e → Does (PutsOnly in_no_cell) d e
  climbs_does d e o h a =
      does_both (PutsOnly in_no_cell) d a.loaded e (does_one (PutsOnly in_no_cell) d a.loaded _ a.loads tt)
      (does_both (PutsOnly in_no_cell) a.loaded a.locked e (locks_none a.loaded a.locked a.block a.place _ a.locks)
      (puts_nothing a.locked e (weak_does a.locked e a.block a.place a.vacant a.leaves)))

  stood_at : (d : DeskNow V) (o m : ℕ) → IsLegal (opening_of d.shape) d.seen → IsSole d → ((state_of d).object o).phase ≡ live → m < 3
      → Stood (Member o m) d
  stood_at d o m legal sole lives lt =
      let z = opening_of d.shape in
      let least = (opened z d.seen legal).members.0 in let n = members_led z d.seen in
      record { legal = legal; sole = sole; there = in_there d (Member o m) legal (omega (arith, lt, least, n), lives) }

  -- what has an owner lives
  owned_lives : (d : DeskNow V) (h : NumberedHandle) (p : ℕ) → IsLegal (opening_of d.shape) d.seen → h.object ≡ Some p → is_owned (state_of d) h ≡ true
      → ((state_of d).object p).phase ≡ live
  owned_lives d h p legal is owned =
      live_if ((state_of d).object p).phase (count (state_of d) p) ((sound (opening_of d.shape) d.seen legal).owners p)
      (counts (state_of d) h p is owned)

  unlinks_if : (found : Bool) (d e : DeskNow V) (o : ℕ) → UnlinksIf found d o e → Does (PutsOnly (λ k. (k ≡ Member o 1) ⊎ (k ≡ Member o 2))) d e
  unlinks_if true d e o u = unlinks_does d e o u
  unlinks_if false d e o same =
      let at = λ (k : Cell). (k ≡ Member o 1) ⊎ (k ≡ Member o 2) in subst (Does (PutsOnly at) d) (sym same) (does_none (PutsOnly at) d)

  -- the call puts things somewhere, and no desk comes or goes
  detaches_does : (d e : DeskNow V) (o : ℕ) → Detaches d o e → Does (PutsOnly anywhere) d e
  detaches_does d e o a =
      does_both (PutsOnly anywhere) d a.climbed e (none_wider anywhere d a.climbed (climbs_does d a.climbed o a.parent a.climbs)) (go a.parent.block a.rest)
    where
      go : (b : Option Block) → MatchOption b (Does IsParting a.climbed e) (λ x. LeavesParent a.climbed (object_of (node_in a.climbed a.parent)) o e)
          → Does (PutsOnly anywhere) a.climbed e
      go None rest = none_wider anywhere a.climbed e (puts_nothing a.climbed e rest)
      go (Some b) x =
          let c = Member (object_of (node_in a.climbed a.parent)) 0 in
          does_both (PutsOnly anywhere) a.climbed x.at e (none_wider anywhere a.climbed x.at x.comes) (does_both (PutsOnly anywhere) x.at x.sought e
          (wider _ anywhere x.at x.sought (λ k p. tt) (seeks_does x.at x.sought c o x.passed x.found x.seeks))
          (does_both (PutsOnly anywhere) x.sought x.unlinked e
          (wider _ anywhere x.sought x.unlinked (λ k p. tt) (unlinks_if x.found x.sought x.unlinked o x.unlinks))
          (none_wider anywhere x.unlinked e (puts_nothing x.unlinked e x.leaves))))

  left_or_not : (d e : DeskNow V) (o : ℕ) (a : Detaches d o e) → IsParent d o a.parent a.climbed → IsLegal (opening_of d.shape) d.seen
      → IsSole d → ((state_of d).object o).phase ≡ live → ((state_of e).object o).phase ≡ live → IsDetached d o e
  left_or_not d e o a parent legal sole lives_d lives_e = (
    λ none. nobody a.parent.block refl a.rest none,
    λ p os up owned list. somebody p os up owned list a.parent.block refl a.rest,
  )
    where
      m : DeskNow V
      m = a.climbed

      does_m : Does (PutsOnly in_no_cell) d m
      does_m = climbs_does d m o a.parent a.climbs

      nobody : (b : Option Block) → a.parent.block ≡ b
          → MatchOption b (Does IsParting m e) (λ x. LeavesParent m (object_of (node_in m a.parent)) o e)
          → is_owned (state_of d) (((state_of d).object o).member 2) ≡ false → KeepsBut in_no_cell d e
      nobody None is rest none =
          keeps_but in_no_cell d e (does_both (PutsOnly in_no_cell) d m e does_m (puts_nothing m e rest)) legal sole
      nobody (Some b) is rest none =
          let up = ((state_of d).object o).member 2 in
          let there : None ≡ (handle_in m Owner (Some b) a.parent.place).object =
          sym (owner_none (state_of d) up none) ∙ (ap (λ (h : NumberedHandle). h.object) (sym parent)
          ∙ ap (λ (x : Option Block). (handle_in m Owner x a.parent.place).object) is) in
          absurd (cc there)

      somebody : (p : ℕ) (os : List ℕ) → (((state_of d).object o).member 2).object ≡ Some p
          → is_owned (state_of d) (((state_of d).object o).member 2) ≡ true → AreChildren (state_of d) p os
          → (b : Option Block) → a.parent.block ≡ b
          → MatchOption b (Does IsParting m e) (λ x. LeavesParent m (object_of (node_in m a.parent)) o e) → WentOut d p o os e
      somebody p os up owned list None is rest =
          let there : None ≡ Some p =
          sym (ap (λ (x : Option Block). (handle_in m Owner x a.parent.place).object) is) ∙ (ap (λ (h : NumberedHandle). h.object) parent
          ∙ owner_some (state_of d) (((state_of d).object o).member 2) p up owned) in
          absurd (cc there)
      somebody p os up owned list (Some b) is rest =
          let on : (node_in m a.parent).object ≡ Some p =
          ap (λ (h : NumberedHandle). h.object) parent ∙ owner_some (state_of d) (((state_of d).object o).member 2) p up owned in
          let x = subst (λ j. LeavesParent m j o e) (object_is (node_in m a.parent) p on) rest in
          let lives_p = owned_lives d (((state_of d).object o).member 2) p legal up owned in
          let zero : 0 < 3 = omega arith in let one : 1 < 3 = omega arith in let two : 2 < 3 = omega arith in
          let comes = does_both (PutsOnly in_no_cell) d m x.at does_m x.comes in
          let st = stood_at d p 0 legal sole lives_p zero in let st_n = stood_at d o 1 legal sole lives_d one in
          let st_u = stood_at d o 2 legal sole lives_d two in
          record {
            at = x.unlinked;
            out = left_list p o os x.passed x.found d x.at x.sought x.unlinked x.unlinked comes x.seeks x.unlinks
                (does_none IsParting x.unlinked) st st_n st_u list x.live_parent x.live_node;
            parts = x.leaves;
            lives = λ lives. left_list p o os x.passed x.found d x.at x.sought x.unlinked e comes x.seeks x.unlinks x.leaves st st_n st_u
                list lives lives_e;
          }

  -- what a node in the bag owns lives
  pub node_lives : (d u : DeskNow V) (h : Shared) → IsWithin h.block h.place → IsLegal (opening_of u.shape) u.seen → Lists h.block h.place (bag_of u)
      → node_in u h ≡ node_in d h → ((state_of u).object (object_of (node_in d h))).phase ≡ live
  node_lives d u h (q, points, within) legal lists same =
      let o = object_of (node_in d h) in
      let is : node_in d h ≡ owner o (Some q) = owner_within d h q points within
      ∙ ap (λ k. owner k (Some q)) (sym (ap object_of (owner_within d h q points within))) in
      held_live u h o q legal lists (same ∙ is)

  -- a call, of a node that the desk has before and after it
  pub detached : (d e : DeskNow V) (node : Shared) (a : Detaches d (object_of (node_in d node)) e)
      → IsParent d (object_of (node_in d node)) a.parent a.climbed → IsLegal (opening_of d.shape) d.seen → IsSole d
      → IsWithin node.block node.place → Lists node.block node.place (bag_of d) → Lists node.block node.place (bag_of e)
      → node_in e node ≡ node_in d node → IsDetached d (object_of (node_in d node)) e
  detached d e node a parent legal sole (q, points, within) lists_d lists_e same =
      let o = object_of (node_in d node) in
      let node_d : node_in d node ≡ owner o (Some q) = owner_within d node q points within
      ∙ ap (λ k. owner k (Some q)) (sym (ap object_of (owner_within d node q points within))) in
      let legal_e = legal_on anywhere d e (detaches_does d e o a) legal sole in
      left_or_not d e o a parent legal sole (held_live d node o q legal lists_d node_d) (held_live e node o q legal_e lists_e (same ∙ node_d))
