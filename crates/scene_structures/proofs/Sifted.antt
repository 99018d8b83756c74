-- What a prune comes to on a sole desk.
use Rattle.std.proofs.Common.{◌≡◌, ℕ, zero, suc, ◌+◌, ◌<◌, Bool, true, false, not, List, [], ◌∷◌}
use Rattle.std.proofs.Common.{◌++◌, map, length, Some, None, filter, Option, sym, refl, ap, ◌∙◌}
use Rattle.std.proofs.Common.{subst, arith}
use Rattle.scene_structures.proofs.Prelude
use Prelude.{All-cons, AreOwned, Block, Cell, cell_of, cells_led, Chain, ClearsFront, CutsAll}
use Prelude.{DeskNow, Does, does_both, does_none, does_one, entry, Finds, FindsNone, Free, GoesOn}
use Prelude.{handle_in, in_no_cell, is_owned, IsLegal, IsList, IsParting, IsPruned, IsSole}
use Prelude.{IsWithin, KeepsDesks, leads, Member, node_in, NumberedHandle, object_of, opening_of}
use Prelude.{Owner, PassesNode, Prunes, PutsOnly, SameKept, Shared, State, state_of, Weak}
use Prelude.{weak_does}
use Rattle.scene_structures.specs.Prunes.{Cuts, picked}
use Rattle.scene_structures.proofs.Cuts.{below, chain_below, end_holds, end_of, onto}
use Rattle.scene_structures.proofs.Frames.{frames}
use Rattle.scene_structures.proofs.Grows.{apart_nowhere}
use Rattle.scene_structures.proofs.Looks.{looks_does, sees_none}
use Rattle.scene_structures.proofs.Parents.{looked_up}
use Rattle.scene_structures.proofs.Rows.{puts_keep}
use Rattle.scene_structures.proofs.Shrinks.{seen_there}
use Rattle.scene_structures.proofs.Sole.{keep_all, legal_is, state_is}
use Rattle.scene_structures.proofs.Stays.{Stands, expiry_does, expiry_told, found_first, goes}
use Rattle.scene_structures.proofs.Stays.{goes_both, nothing_there, puts_nothing, stands_cut}
use Rattle.scene_structures.proofs.Stays.{stands_on}

module _ {V : Type 0} where
  -- what was found below those that stay
  record Told (m : ℕ) (kept rest : List ℕ) (h : Shared) (gone : Bool) (d e : DeskNow V) : Type 0 where
    pub node : ℕ
    pub after : List ℕ
    pub is : rest ≡ node ∷ after
    pub object : object_of (node_in e h) ≡ node
    pub asked : DeskNow V
    pub before : GoesOn d asked
    pub owned : is_owned (state_of asked) (((state_of asked).object node).member 2) ≡ not gone
    pub later : GoesOn asked e
    pub stands : Stands m (onto kept rest) e

  finds_told : (m : ℕ) (kept rest : List ℕ) (h : Shared) (gone : Bool) (d e : DeskNow V) → Finds d (end_of (Free m) kept) h gone e
      → IsWithin h.block h.place → Stands m (onto kept rest) d → Told m kept rest h gone d e
  finds_told m kept rest h gone d e finds within st =
      let s = state_of d in let c = Free m in let k = end_of c kept in
      let l = finds.loaded in let a = finds.asks in let u = a.loaded in
      let n = node_in e h in let o = object_of n in
      let does_l = does_one (PutsOnly in_no_cell) d l _ finds.loads tt in
      let st_l = stands_on m (onto kept rest) d l does_l st in
      let look = looked_up d l k n finds.loads st.legal st.sole in
      let chain = chain_below s (cell_of s c) kept rest st.list in
      let here : n.object ≡ Some o = ap (λ (b : Option Block). (handle_in e Owner b h.place).object) within.2
      ∙ ap Some (sym (ap (λ (b : Option Block). object_of (handle_in e Owner b h.place)) within.2)) in
      let held : (below s (cell_of s c) kept).object ≡ Some o = ap (λ (x : NumberedHandle). x.object) (sym (look.0 ∙ end_holds s c kept)) ∙ here in
      let first = found_first s (below s (cell_of s c) kept) rest chain o held in
      let does_u = does_one (PutsOnly in_no_cell) l u _ a.loads tt in
      let st_u = stands_on m (onto kept rest) l u does_u st_l in
      let up = looked_up l u (Member o 2) _ a.loads st_l.legal st_l.sole in
      let up_now : ((state_of u).object o).member 2 ≡ handle_in u Weak a.block a.place =
      ap (λ (t : State). (t.object o).member 2) up.1 ∙ sym up.0 in
      let does_a = expiry_does u a.asked a.block a.place gone a.asks in
      let does_e = does_both (PutsOnly in_no_cell) u a.asked e does_a
      (puts_nothing a.asked e (weak_does a.asked e a.block a.place a.vacant a.leaves)) in
      record {
        node = o;
        after = first.0;
        is = first.1;
        object = refl;
        asked = u;
        before = goes_both d l u (goes (PutsOnly in_no_cell) d l does_l) (goes (PutsOnly in_no_cell) l u does_u);
        owned = ap (is_owned (state_of u)) up_now ∙ expiry_told u a.asked a.block a.place gone a.asks st_u.legal st_u.sole;
        later = goes (PutsOnly in_no_cell) u e does_e;
        stands = stands_on m (onto kept rest) u e does_e st_u;
      }

  -- a node that was found goes out
  passes_on : (m : ℕ) (kept rest : List ℕ) (o : ℕ) (d e : DeskNow V) → PassesNode d (end_of (Free m) kept) o e
      → Stands m (onto kept (o ∷ rest)) d → GoesOn d e × Stands m (onto kept rest) e
  passes_on m kept rest o d e p st =
      let k = end_of (Free m) kept in let at = λ (c : Cell). c ≡ k in
      let n = p.seen in let u = p.cut in
      let does_n = does_one (PutsOnly in_no_cell) d n _ p.loads tt in
      let st_n = stands_on m (onto kept (o ∷ rest)) d n does_n st in
      let look = looked_up d n (Member o 1) p.next p.loads st.legal st.sole in
      let next : p.next ≡ ((state_of n).object o).member 1 = look.0 ∙ sym (ap (λ (t : State). (t.object o).member 1) look.1) in
      let st_u = stands_cut m kept rest o n u p.next p.old p.swaps next st_n in
      let does_e = puts_nothing u e p.leaves in (
        goes_both d n e (goes (PutsOnly in_no_cell) d n does_n)
            (goes_both n u e (goes (PutsOnly at) n u (does_one (PutsOnly at) n u _ p.swaps refl)) (goes (PutsOnly in_no_cell) u e does_e)),
        stands_on m (onto kept rest) u e does_e st_u,
      )

  -- what is told from a later point on is told from an earlier one
  owned_later : (d e f : DeskNow V) (os : List ℕ) (bs : List Bool) → GoesOn d e → AreOwned e os bs f → AreOwned d os bs f
  owned_later d e f [] [] on told = goes_both d e f on told
  owned_later d e f (o ∷ os) (b ∷ bs) on told = (told.0, goes_both d e told.0 on told.1, told.2, told.3)
  owned_later d e f [] (b ∷ bs) on told = absurd told
  owned_later d e f (o ∷ os) [] on told = absurd told

  -- so far these stay and so many went, of all that were listed at first; what is told of the rest tells the whole
  record Sifts (d : DeskNow V) (m : ℕ) (all kept : List ℕ) (n : ℕ) (e : DeskNow V) : Type 0 where
    pub rest : List ℕ
    pub stands : Stands m (onto kept rest) e
    pub told : (bs : List Bool) (f : DeskNow V) → AreOwned e rest bs f
        → (marks : List Bool) × AreOwned d all marks f × (picked all marks ≡ onto kept (picked rest bs))
        × (length (filter not marks) ≡ n + length (filter not bs))

  sifts_first : (d : DeskNow V) (m : ℕ) (all : List ℕ) → Stands m all d → Sifts d m all [] 0 d
  sifts_first d m all st =
      record {
        rest = all;
        stands = st;
        told = λ bs f owned. (bs, owned, refl, let k : length (filter not bs) ≡ 0 + length (filter not bs) = omega arith in k);
      }

  sifts_on : (d : DeskNow V) (m : ℕ) (all kept : List ℕ) (n : ℕ) (e f : DeskNow V) → Does (PutsOnly in_no_cell) e f → Sifts d m all kept n e
      → Sifts d m all kept n f
  sifts_on d m all kept n e f does s =
      record {
        rest = s.rest;
        stands = stands_on m (onto kept s.rest) e f does s.stands;
        told = λ bs g owned. s.told bs g (owned_later e f g s.rest bs (goes (PutsOnly in_no_cell) e f does) owned);
      }

  -- one that goes
  sifts_out : (d : DeskNow V) (m : ℕ) (all kept : List ℕ) (n : ℕ) (e f : DeskNow V) → Cuts e (end_of (Free m) kept) f
      → Sifts d m all kept n e → Sifts d m all kept (suc n) f
  sifts_out d m all kept n e f cuts s =
      let t = finds_told m kept s.rest cuts.node true e cuts.found cuts.finds cuts.within s.stands in
      let st = subst (λ os. Stands m (onto kept os) cuts.found) t.is t.stands in
      let p = passes_on m kept t.after t.node cuts.found f
      (subst (λ o. PassesNode cuts.found (end_of (Free m) kept) o f) t.object cuts.passes) st in
      record {
        rest = t.after;
        stands = p.1;
        told = λ bs g owned.
            let later = goes_both t.asked cuts.found f t.later p.0 in
            let more : AreOwned e (t.node ∷ t.after) (false ∷ bs) g = (t.asked, t.before, t.owned, owned_later t.asked f g t.after bs later owned) in
            let r = s.told (false ∷ bs) g (subst (λ os. AreOwned e os (false ∷ bs) g) (sym t.is) more) in (
              r.0,
              r.1,
              r.2 ∙ ap (λ os. onto kept (picked os (false ∷ bs))) t.is,
              let k : length (filter not (false ∷ bs)) ≡ suc (length (filter not bs)) = refl in let l = r.3 in omega arith,
            );
      }

  sifts_all : (d : DeskNow V) (m : ℕ) (all kept : List ℕ) (a n : ℕ) (e f : DeskNow V) → CutsAll e (end_of (Free m) kept) n f
      → Sifts d m all kept a e → Sifts d m all kept (a + n) f
  sifts_all d m all kept a zero e f cuts s =
      let k : a ≡ a + 0 = omega arith in subst (λ (g : DeskNow V). Sifts d m all kept (a + 0) g) (sym cuts) (subst (λ n. Sifts d m all kept n e) k s)
  sifts_all d m all kept a (suc n) e f (g, cuts, last) s =
      let k : suc (a + n) ≡ a + suc n = omega arith in
      subst (λ j. Sifts d m all kept j f) k (sifts_out d m all kept (a + n) g f last (sifts_all d m all kept a n e g cuts s))

  -- one that stays
  sifts_kept : (d : DeskNow V) (m : ℕ) (all kept : List ℕ) (n : ℕ) (h : Shared) (e f : DeskNow V) → Finds e (end_of (Free m) kept) h false f
      → IsWithin h.block h.place → Sifts d m all kept n e → Sifts d m all (object_of (node_in f h) ∷ kept) n f
  sifts_kept d m all kept n h e f finds within s =
      let t = finds_told m kept s.rest h false e f finds within s.stands in
      subst (λ o. Sifts d m all (o ∷ kept) n f) (sym t.object)
      record {
        rest = t.after;
        stands = subst (λ os. Stands m (onto kept os) f) t.is t.stands;
        told = λ bs g owned.
            let more : AreOwned e (t.node ∷ t.after) (true ∷ bs) g = (t.asked, t.before, t.owned, owned_later t.asked f g t.after bs t.later owned) in
            let r = s.told (true ∷ bs) g (subst (λ os. AreOwned e os (true ∷ bs) g) (sym t.is) more) in
            (r.0, r.1, r.2 ∙ ap (λ os. onto kept (picked os (true ∷ bs))) t.is, r.3);
      }

  -- where the last look found no node, none is left
  none_below : (m : ℕ) (kept rest : List ℕ) (d e : DeskNow V) → FindsNone d (end_of (Free m) kept) e → Stands m (onto kept rest) d → rest ≡ []
  none_below m kept rest d e none st =
      let c = Free m in let k = end_of c kept in let z = opening_of d.shape in let n = d.name in
      let l = none.looks in let found = node_in l.at none.found in let own = l.look ∷ l.before in
      let keep = All-cons KeepsDesks l.look l.before (puts_keep in_no_cell l.look (sees_none k found l.look l.sees)) (keep_all in_no_cell l.before l.early) in
      let state = state_is d l.at own l.looks keep st.legal st.sole in
      let legal = legal_is d l.at own l.looks keep st.legal st.sole in
      let B = map (entry n) l.before ++ d.seen in let s = leads z B in
      let cells = cells_led z d.seen in let there = st.there in
      let list = frames z n in_no_cell l.before d.seen m (onto kept rest) legal.0 l.early (omega arith) (λ e'. e') (apart_nowhere (onto kept rest)) st.list in
      let seen = seen_there z n k found l.look B legal l.sees in
      let chain = chain_below s (cell_of s c) kept rest list in
      let here : below s (cell_of s c) kept ≡ found = sym (end_holds s c kept) ∙ seen.0 in
      nothing_there s (state_of l.at) found rest none.none (ap (λ (u : State). u.object) state ∙ seen.1)
      (subst (λ (h : NumberedHandle). Chain s h rest) here chain)

  -- what came of a part of the walk
  abbrev Reached : DeskNow V → ℕ → List ℕ → List ℕ → ℕ → Option Shared → DeskNow V → Type 0
  Reached d m all kept n None e = (s : Sifts d m all kept n e) × (s.rest ≡ [])
  Reached d m all kept n (Some h) e = Sifts d m all (object_of (node_in e h) ∷ kept) n e

  clears_on : (d : DeskNow V) (m : ℕ) (all kept : List ℕ) (a n : ℕ) (last : Option Shared) (e f : DeskNow V)
      → ClearsFront e (end_of (Free m) kept) n last f → Sifts d m all kept a e → Reached d m all kept (a + n) last f
  unfolding sifts_on sifts_all
  clears_on d m all kept a n None e f clears s =
      let cut = sifts_all d m all kept a n e clears.cleared clears.cuts s in
      let does = looks_does clears.cleared f (end_of (Free m) kept) clears.front.found clears.front.looks in
      (sifts_on d m all kept (a + n) clears.cleared f does cut, none_below m kept cut.rest clears.cleared f clears.front cut.stands)
  clears_on d m all kept a n (Some h) e f clears s =
      let cut = sifts_all d m all kept a n e clears.cleared clears.cuts s in
      sifts_kept d m all kept (a + n) h clears.cleared f clears.front.0 clears.front.1 cut

  reached_on : (d : DeskNow V) (m : ℕ) (all kept : List ℕ) (n : ℕ) (last : Option Shared) (e f : DeskNow V) → Does IsParting e f
      → SameKept e last f → Reached d m all kept n last e → Reached d m all kept n last f
  unfolding sifts_on
  reached_on d m all kept n None e f does same r = (sifts_on d m all kept n e f (puts_nothing e f does) r.0, r.1)
  reached_on d m all kept n (Some h) e f does same r =
      subst (λ o. Sifts d m all (o ∷ kept) n f) (ap object_of (sym same))
      (sifts_on d m all (object_of (node_in e h) ∷ kept) n e f (puts_nothing e f does) r)

  walked : (d : DeskNow V) (m : ℕ) (all kept : List ℕ) (n : ℕ) (last : Option Shared) (e : DeskNow V) → Stands m all d
      → Prunes d (Free m) kept n last e → Reached d m all kept n last e
  walked d m all [] n last e st clears =
      let k : 0 + n ≡ n = omega arith in
      subst (λ j. Reached d m all [] j last e) k (clears_on d m all [] 0 n last d e clears (sifts_first d m all st))
  walked d m all (o ∷ kept) n last e st (a, b, node, l, t, prunes, is, clears, leaves, same, sum) =
      let above : Sifts d m all (o ∷ kept) a l = subst (λ p. Sifts d m all (p ∷ kept) a l) is (walked d m all kept a (Some node) l st prunes) in
      subst (λ k. Reached d m all (o ∷ kept) k last e) (sym sum)
      (reached_on d m all (o ∷ kept) (a + b) last t e leaves same (clears_on d m all (o ∷ kept) a b last l t clears above))

  -- prune, on a sole desk
  pub pruned_list : (d e : DeskNow V) (m : ℕ) (kept : List ℕ) (n : ℕ) → Prunes d (Free m) kept n None e → IsLegal (opening_of d.shape) d.seen
      → IsSole d → m < (opening_of d.shape).cells → IsPruned d (Free m) n e
  pruned_list d e m kept n prunes legal sole lt os list =
      let cells = cells_led (opening_of d.shape) d.seen in
      let there : m < (state_of d).cells = omega arith in
      let r = walked d m os kept n None e record { legal = legal; sole = sole; there = there; list = list } prunes in
      let s = r.0 in
      let none : AreOwned e s.rest [] e = subst (λ l. AreOwned e l [] e) (sym r.1) (goes (PutsOnly in_no_cell) e e (does_none (PutsOnly in_no_cell) e)) in
      let t = s.told [] e none in
      let stays : picked os t.0 ≡ onto kept [] = t.2 ∙ ap (λ l. onto kept (picked l [])) r.1 in (
        t.0,
        t.1,
        subst (λ l. IsList (state_of e) (Free m) l) (sym stays) (subst (λ l. IsList (state_of e) (Free m) (onto kept l)) r.1 s.stands.list),
        let empty : List Bool = [] in let k : length (filter not empty) ≡ 0 = refl in let l = t.3 in omega arith,
      )
