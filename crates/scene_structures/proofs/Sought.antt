-- A node that is sought in a list on a sole desk, and goes out of it.
use Rattle.std.proofs.Common.{◌≡◌, ℕ, Bool, true, false, ◌⊎◌, List, [], ◌∷◌, ◌++◌, map, length}
use Rattle.std.proofs.Common.{Some, None, Option, sym, refl, ap, ◌∙◌, subst, inl, inr, ⊎_elim}
use Rattle.std.proofs.Common.{arith}
use Rattle.scene_structures.proofs.Prelude
use Prelude.{after_all, All-cons, All-nil, Cell, cell_of, Chain, CutsOut, DeskNow, Does, does_both}
use Prelude.{does_one, entry, FindsNone, Has, in_no_cell, InState, IsEnd, IsLegal, IsList, IsSole}
use Prelude.{leads, Meets, Member, NextOf, node_in, NumberedHandle, object_of, opening_of}
use Prelude.{PutsOnly, ReachesNode, Seeks, Shared, State, state_of}
use Rattle.scene_structures.proofs.Alone.{all_wider, in_on, legal_on, list_on, lives_on, sole_on}
use Rattle.scene_structures.proofs.Cuts.{below, chain_below, cut_at, end_holds, end_of, onto}
use Rattle.scene_structures.proofs.Cuts.{same_chain, shorter}
use Rattle.scene_structures.proofs.Detached.{on_some}
use Rattle.scene_structures.proofs.Frames.{Apart}
use Rattle.scene_structures.proofs.Grows.{apart_nowhere}
use Rattle.scene_structures.proofs.Heads.{IsHead, Lives, frames_at, in_later, lives_run}
use Rattle.scene_structures.proofs.Looks.{looks_does, sees_none}
use Rattle.scene_structures.proofs.Parents.{looked_up}
use Rattle.scene_structures.proofs.Rows.{partings_put}
use Rattle.scene_structures.proofs.Shrinks.{seen_there}
use Rattle.scene_structures.proofs.Sole.{keep_all, legal_is, state_is}
use Rattle.scene_structures.proofs.Stays.{found_first, nothing_there, puts_nothing, state_next}

pub onto_more : (os a b : List ℕ) → onto os (a ++ b) ≡ onto os a ++ b
onto_more [] a b = refl
onto_more (o ∷ os) a b = onto_more os (o ∷ a) b

pub after_onto : (c : Cell) (os rest : List ℕ) → after_all c (onto os rest) ≡ after_all (end_of c os) rest
after_onto c [] rest = refl
after_onto c (o ∷ os) rest = after_onto c os (o ∷ rest)

-- an object of a list isn't listed below itself
pub not_below : (s : State) (h : NumberedHandle) (os rest : List ℕ) (o : ℕ) → Chain s h (onto os (o ∷ rest)) → Has o rest → ⊥
not_below s h os rest o chain has =
    let here = (chain_below s h os (o ∷ rest) chain).1 in
    let r = shorter s ((s.object o).member 1) rest o here has in
    let e : length rest ≡ length r.0 = ap length (same_chain s ((s.object o).member 1) rest r.0 here r.1) in
    let lt = r.2 in absurd (omega arith)

pub in_onto : (o : ℕ) (os rest : List ℕ) → Has o (onto os rest) → Has o os ⊎ Has o rest
in_onto o [] rest has = inr has
in_onto o (x ∷ os) rest has =
    ⊎_elim (λ (a : Has o os). inl (inr a))
    (λ (b : Has o (x ∷ rest)). ⊎_elim (λ (e : o ≡ x). inl (inl e)) (λ (r : Has o rest). inr r) b) (in_onto o os (x ∷ rest) has)

pub apart_next : (o : ℕ) (os : List ℕ) → (Has o os → ⊥) → Apart (NextOf o) os
apart_next o [] not = tt
apart_next o (x ∷ os) not =
    (λ e. let t : Member x 1 ≡ Member o 1 = e in let n : o ≡ x = cc in not (inl n), apart_next o os (λ h. not (inr h)))

pub object_is : (h : NumberedHandle) (o : ℕ) → h.object ≡ Some o → object_of h ≡ o
object_is h o is = go h.object is
  where
    go : (x : Option ℕ) → x ≡ Some o → elim x [ None ↦ 0 | Some p ↦ p ] ≡ o
    go x e = ap (λ y. elim y [ None ↦ 0 | Some p ↦ p ]) e

-- what came of the search below some of the list
abbrev Ended : State → Cell → List ℕ → List ℕ → ℕ → Bool → Type 0
Ended s c kept rest o true = (later : List ℕ) × (rest ≡ o ∷ later) × IsList s c (onto kept later)
Ended s c kept rest o false = (rest ≡ []) × IsList s c (onto kept rest)

abbrev pub IfCut : Cell → Bool → Cell → Type 0
IfCut k true j = j ≡ k
IfCut k false j = ⊥

-- the whole search: the node is out, or wasn't there
abbrev pub IsOut : State → Cell → List ℕ → List ℕ → ℕ → Bool → Type 0
IsOut s c os passed o true = (later : List ℕ) × (os ≡ onto passed (o ∷ later)) × IsList s c (onto passed later) × (Has o passed → ⊥)
IsOut s c os passed o false = IsList s c os × (Has o os → ⊥)

out_of : (s : State) (c : Cell) (os passed rest : List ℕ) (o : ℕ) (found : Bool) → os ≡ onto passed rest → (Has o passed → ⊥)
    → Ended s c passed rest o found → IsOut s c os passed o found
out_of s c os passed rest o true is not x = (x.0, is ∙ ap (onto passed) x.1, x.2, not)
out_of s c os passed rest o false is not x = (
  subst (λ l. IsList s c l) (sym is) x.1,
  λ has. ⊎_elim (λ (h : Has o passed). not h) (λ (h : Has o rest). let none : Has o [] = subst (Has o) x.0 h in none)
      (in_onto o passed rest (subst (Has o) is has)),
)

module _ {V : Type 0} where
  -- a sole desk, and a cell of its state
  pub record Stood (c : Cell) (d : DeskNow V) : Type 0 where
    pub legal : IsLegal (opening_of d.shape) d.seen
    pub sole : IsSole d
    pub there : InState (state_of d) c

  pub stood_on : (at : Cell → Type 0) (c : Cell) (d e : DeskNow V) → Does (PutsOnly at) d e → Stood c d → Stood c e
  stood_on at c d e does st =
      record {
        legal = legal_on at d e does st.legal st.sole;
        sole = sole_on at d e does st.legal st.sole;
        there = in_on at d e does st.legal st.sole c st.there;
      }

  -- where nothing is put anywhere the list stays
  pub list_stays : (c : Cell) (os : List ℕ) (d e : DeskNow V) → Does (PutsOnly in_no_cell) d e → Stood c d → Lives (state_of e) c
      → IsList (state_of d) c os → IsList (state_of e) c os
  list_stays c os d e does st lives list = list_on in_no_cell d e does st.legal st.sole c os (λ k. k) (apart_nowhere os) st.there lives list

  pub lived : (at : Cell → Type 0) (c : Cell) (d e : DeskNow V) → Does (PutsOnly at) d e → Stood c d → Lives (state_of e) c → Lives (state_of d) c
  lived at c d e does st lives = lives_on at d e does st.legal st.sole c st.there lives

  pub meets_does : (d e : DeskNow V) (c : Cell) (o : ℕ) (h : Shared) → Meets d c o h e → Does (PutsOnly in_no_cell) d e
  meets_does d e c o h m = does_both (PutsOnly in_no_cell) d m.tried e m.tries (does_one (PutsOnly in_no_cell) m.tried e _ m.loads tt)

  pub reaches_does : (d e : DeskNow V) (c : Cell) (o : ℕ) (bs : List ℕ) (h : Shared) → ReachesNode d c o bs h e → Does (PutsOnly in_no_cell) d e
  reaches_does d e c o [] h r = meets_does d e c o h r
  reaches_does d e c o (b ∷ bs) h (node, m, t, reaches, is, meets, leaves, same) =
      does_both (PutsOnly in_no_cell) d m e (reaches_does d m c o bs node reaches)
      (does_both (PutsOnly in_no_cell) m t e (meets_does m t (Member b 1) o h meets) (puts_nothing t e leaves))

  -- what was met below some of the list is the next of it
  meets_next : (c : Cell) (kept rest : List ℕ) (o : ℕ) (h : Shared) (d e : DeskNow V) → Meets d (end_of c kept) o h e → Stood c d
      → Lives (state_of e) c → IsList (state_of d) c (onto kept rest)
      → (later : List ℕ) × (rest ≡ object_of (node_in e h) ∷ later) × IsList (state_of e) c (onto kept rest)
  meets_next c kept rest o h d e m st lives list =
      let t = m.tried in let all = onto kept rest in let n = node_in e h in
      let st_t = stood_on in_no_cell c d t m.tries st in
      let does_e = does_one (PutsOnly in_no_cell) t e _ m.loads tt in
      let list_t = list_stays c all d t m.tries st (lived in_no_cell c t e does_e st_t lives) list in
      let s = state_of t in
      let look = looked_up t e (end_of c kept) n m.loads st_t.legal st_t.sole in
      let chain = chain_below s (cell_of s c) kept rest list_t in
      let held : (below s (cell_of s c) kept).object ≡ Some (object_of n) =
      ap (λ (x : NumberedHandle). x.object) (sym (look.0 ∙ end_holds s c kept)) ∙ on_some e h m.within in
      let first = found_first s (below s (cell_of s c) kept) rest chain (object_of n) held in
      (first.0, first.1, list_stays c all t e does_e st_t lives list_t)

  -- a walk over some of the list
  walked : (c : Cell) (d e : DeskNow V) (o : ℕ) (bs : List ℕ) (h : Shared) (os : List ℕ) → ReachesNode d c o bs h e → Stood c d
      → Lives (state_of e) c → IsList (state_of d) c os
      → (later : List ℕ) × (os ≡ onto bs (object_of (node_in e h) ∷ later)) × IsList (state_of e) c os
      × ((Has o bs → ⊥) × (object_of (node_in e h) ≡ o → ⊥))
  walked c d e o [] h os r st lives list =
      let f = meets_next c [] os o h d e r st lives list in (f.0, f.1, f.2, (λ k. k, r.other))
  walked c d e o (b ∷ bs) h os (node, m, t, reaches, is, meets, leaves, same) st lives list =
      let does_m = reaches_does d m c o bs node reaches in
      let st_m = stood_on in_no_cell c d m does_m st in
      let does_t = meets_does m t (Member b 1) o h meets in
      let st_t = stood_on in_no_cell c m t does_t st_m in
      let does_e = puts_nothing t e leaves in
      let lives_t = lived in_no_cell c t e does_e st_t lives in
      let lives_m = lived in_no_cell c m t does_t st_m lives_t in
      let w = walked c d m o bs node os reaches st lives_m list in
      let all : os ≡ onto (b ∷ bs) w.0 = w.1 ∙ ap (λ n. onto bs (n ∷ w.0)) is in
      let f = meets_next c (b ∷ bs) w.0 o h m t meets st_m lives_t (subst (λ l. IsList (state_of m) c l) all w.2) in
      let n : object_of (node_in e h) ≡ object_of (node_in t h) = ap object_of same in (
        f.0,
        all ∙ ap (onto (b ∷ bs)) (f.1 ∙ ap (λ k. k ∷ f.0) (sym n)),
        list_stays c os t e does_e st_t lives (subst (λ l. IsList (state_of t) c l) (sym all) f.2),
        (
          λ has. ⊎_elim (λ (x : o ≡ b). w.3.1 (is ∙ sym x)) (λ (l : Has o bs). w.3.0 l) has,
          λ x. meets.other (sym n ∙ x),
        ),
      )

  -- where the last look found no node, none is left
  none_left : (c : Cell) (kept rest : List ℕ) (d e : DeskNow V) → FindsNone d (end_of c kept) e → Stood c d → Lives (state_of e) c
      → IsList (state_of d) c (onto kept rest) → rest ≡ []
  none_left c kept rest d e none st lives list =
      let k = end_of c kept in let z = opening_of d.shape in let n = d.name in
      let l = none.looks in let found = node_in l.at none.found in let own = l.look ∷ l.before in
      let quiet = sees_none k found l.look l.sees in
      let puts = All-cons (PutsOnly in_no_cell) l.look l.before quiet l.early in
      let keep = keep_all in_no_cell own puts in
      let state = state_is d l.at own l.looks keep st.legal st.sole in
      let legal = legal_is d l.at own l.looks keep st.legal st.sole in
      let B = map (entry n) l.before ++ d.seen in let s = leads z B in
      let to_at : Does (PutsOnly in_no_cell) d l.at = record { own = own; goes = l.looks; all = puts } in
      let to_e : Does (PutsOnly in_no_cell) l.at e = record { own = l.after; goes = l.leaves; all = partings_put in_no_cell l.after l.late } in
      let lives_at = lived in_no_cell c l.at e to_e (stood_on in_no_cell c d l.at to_at st) lives in
      let there_s = in_later z (map (entry n) l.before) d.seen c st.there in
      let lives_s = lives_run z n in_no_cell (l.look ∷ []) B c (All-cons (PutsOnly in_no_cell) l.look [] quiet (All-nil (PutsOnly in_no_cell))) there_s
      (subst (λ (t : State). Lives t c) state lives_at) in
      let all = onto kept rest in
      let list_s = frames_at z n in_no_cell l.before d.seen c all legal.0 l.early st.there lives_s (λ e'. e') (apart_nowhere all) list in
      let seen = seen_there z n k found l.look B legal l.sees in
      let chain = chain_below s (cell_of s c) kept rest list_s in
      let here : below s (cell_of s c) kept ≡ found = sym (end_holds s c kept) ∙ seen.0 in
      nothing_there s (state_of l.at) found rest none.none (ap (λ (u : State). u.object) state ∙ seen.1)
      (subst (λ (h : NumberedHandle). Chain s h rest) here chain)

  pub cuts_does : (d e : DeskNow V) (k : Cell) (o : ℕ) → CutsOut d k o e → Does (PutsOnly (λ j. j ≡ k)) d e
  cuts_does d e k o x =
      let at = λ (j : Cell). j ≡ k in let y = x.skips in
      let none : (a b : DeskNow V) → Does (PutsOnly in_no_cell) a b → Does (PutsOnly at) a b = λ a b does. record {
        own = does.own;
        goes = does.goes;
        all = all_wider in_no_cell at (λ j p. absurd p) does.own does.all;
      } in
      does_both (PutsOnly at) d x.tried e (none d x.tried x.tries) (does_both (PutsOnly at) x.tried x.seen e
      (does_one (PutsOnly at) x.tried x.seen _ x.loads tt) (does_both (PutsOnly at) x.seen y.read e
      (does_one (PutsOnly at) x.seen y.read _ y.reads tt) (does_both (PutsOnly at) y.read y.cut e
      (does_one (PutsOnly at) y.read y.cut _ y.swaps refl) (none y.cut e (puts_nothing y.cut e y.leaves)))))

  -- the node goes out of the list
  cut_list : (c : Cell) (kept rest : List ℕ) (o : ℕ) (d e : DeskNow V) → CutsOut d (end_of c kept) o e → IsHead c → Stood c d
      → Lives (state_of e) c → IsList (state_of d) c (onto kept rest)
      → (later : List ℕ) × (rest ≡ o ∷ later) × IsList (state_of e) c (onto kept later)
  cut_list c kept rest o d e x head st lives list =
      let k = end_of c kept in let at = λ (j : Cell). j ≡ k in let y = x.skips in
      let t = x.tried in let n = x.seen in let r = y.read in let u = y.cut in let all = onto kept rest in
      let st_t = stood_on in_no_cell c d t x.tries st in
      let does_n = does_one (PutsOnly in_no_cell) t n _ x.loads tt in
      let st_n = stood_on in_no_cell c t n does_n st_t in
      let does_r = does_one (PutsOnly in_no_cell) n r _ y.reads tt in
      let st_r = stood_on in_no_cell c n r does_r st_n in
      let does_u = does_one (PutsOnly at) r u _ y.swaps refl in
      let st_u = stood_on at c r u does_u st_r in
      let does_e = puts_nothing u e y.leaves in
      let lives_u = lived in_no_cell c u e does_e st_u lives in
      let lives_r = lived at c r u does_u st_r lives_u in
      let lives_n = lived in_no_cell c n r does_r st_n lives_r in
      let lives_t = lived in_no_cell c t n does_n st_t lives_n in
      let list_t = list_stays c all d t x.tries st lives_t list in
      let list_r = list_stays c all n r does_r st_n lives_r (list_stays c all t n does_n st_t lives_n list_t) in
      let s = state_of t in
      let look = looked_up t n k x.node x.loads st_t.legal st_t.sole in
      let chain = chain_below s (cell_of s c) kept rest list_t in
      let held : (below s (cell_of s c) kept).object ≡ Some o = ap (λ (h : NumberedHandle). h.object) (sym (look.0 ∙ end_holds s c kept)) ∙ x.is in
      let first = found_first s (below s (cell_of s c) kept) rest chain o held in
      let number = object_is x.node o x.is in
      let read = looked_up n r (Member (object_of x.node) 1) y.below y.reads st_n.legal st_n.sole in
      let next : y.below ≡ ((state_of r).object o).member 1 =
      read.0 ∙ (ap (λ j. ((state_of n).object j).member 1) number ∙ sym (ap (λ (w : State). (w.object o).member 1) read.1)) in
      let cut = cut_at (state_of r) r.name c kept first.0 o y.below y.old head next
      (subst (λ l. IsList (state_of r) c (onto kept l)) first.1 list_r) in
      let list_u = subst (λ (w : State). IsList w c (onto kept first.0)) (sym (state_next r u _ y.swaps st_r.sole)) cut in
      (first.0, first.1, list_stays c (onto kept first.0) u e does_e st_u lives list_u)

  end_does : (d e : DeskNow V) (k : Cell) (o : ℕ) (found : Bool) → IsEnd d k o found e → Does (PutsOnly (IfCut k found)) d e
  end_does d e k o true x = cuts_does d e k o x
  end_does d e k o false x = looks_does d e k x.found x.looks

  end_list : (c : Cell) (kept rest : List ℕ) (o : ℕ) (found : Bool) (d e : DeskNow V) → IsEnd d (end_of c kept) o found e → IsHead c → Stood c d
      → Lives (state_of e) c → IsList (state_of d) c (onto kept rest) → Ended (state_of e) c kept rest o found
  end_list c kept rest o true d e x head st lives list = cut_list c kept rest o d e x head st lives list
  end_list c kept rest o false d e x head st lives list =
      let does = looks_does d e (end_of c kept) x.found x.looks in
      (none_left c kept rest d e x st lives list, list_stays c (onto kept rest) d e does st lives list)

  pub seeks_does : (d e : DeskNow V) (c : Cell) (o : ℕ) (passed : List ℕ) (found : Bool) → Seeks d c o passed found e
      → Does (PutsOnly (IfCut (end_of c passed) found)) d e
  seeks_does d e c o [] found x = end_does d e c o found x
  seeks_does d e c o (b ∷ bs) found (node, m, t, reaches, is, ends, leaves) =
      let at = IfCut (Member b 1) found in
      let none : (x y : DeskNow V) → Does (PutsOnly in_no_cell) x y → Does (PutsOnly at) x y = λ x y does. record {
        own = does.own;
        goes = does.goes;
        all = all_wider in_no_cell at (λ j p. absurd p) does.own does.all;
      } in
      does_both (PutsOnly at) d m e (none d m (reaches_does d m c o bs node reaches))
      (does_both (PutsOnly at) m t e (end_does m t (Member b 1) o found ends) (none t e (puts_nothing t e leaves)))

  out_stays : (c : Cell) (os passed : List ℕ) (o : ℕ) (found : Bool) (d e : DeskNow V) → Does (PutsOnly in_no_cell) d e → Stood c d
      → Lives (state_of e) c → IsOut (state_of d) c os passed o found → IsOut (state_of e) c os passed o found
  out_stays c os passed o true d e does st lives x = (x.0, x.1, list_stays c (onto passed x.0) d e does st lives x.2, x.3)
  out_stays c os passed o false d e does st lives x = (list_stays c os d e does st lives x.0, x.1)

  pub sought_list : (d e : DeskNow V) (c : Cell) (o : ℕ) (passed : List ℕ) (found : Bool) (os : List ℕ) → Seeks d c o passed found e → IsHead c
      → Stood c d → Lives (state_of e) c → IsList (state_of d) c os → IsOut (state_of e) c os passed o found
  sought_list d e c o [] found os x head st lives list =
      out_of (state_of e) c os [] os o found refl (λ k. k) (end_list c [] os o found d e x head st lives list)
  sought_list d e c o (b ∷ bs) found os (node, m, t, reaches, is, ends, leaves) head st lives list =
      let does_m = reaches_does d m c o bs node reaches in
      let st_m = stood_on in_no_cell c d m does_m st in
      let does_t = end_does m t (Member b 1) o found ends in
      let at = IfCut (Member b 1) found in
      let st_t = stood_on at c m t does_t st_m in
      let does_e = puts_nothing t e leaves in
      let lives_t = lived in_no_cell c t e does_e st_t lives in
      let lives_m = lived at c m t does_t st_m lives_t in
      let w = walked c d m o bs node os reaches st lives_m list in
      let all : os ≡ onto (b ∷ bs) w.0 = w.1 ∙ ap (λ n. onto bs (n ∷ w.0)) is in
      let done = end_list c (b ∷ bs) w.0 o found m t ends head st_m lives_t (subst (λ l. IsList (state_of m) c l) all w.2) in
      let not : Has o (b ∷ bs) → ⊥ = λ has. ⊎_elim (λ (x : o ≡ b). w.3.1 (is ∙ sym x)) (λ (l : Has o bs). w.3.0 l) has in
      out_stays c os (b ∷ bs) o found t e does_e st_t lives (out_of (state_of t) c os (b ∷ bs) w.0 o found all not done)
