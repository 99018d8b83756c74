-- Trees that hang on a pile of objects that end, and the leave of an owner of one.
use Rattle.std.proofs.Common.{◌≡◌, ℕ, ◌<◌, ◌≤◌, true, false, ◌≢◌, List, [], ◌∷◌, ◌++◌, map, ◌==◌, Some}
use Rattle.std.proofs.Common.{None, Option, sym, refl, ap, ◌∙◌, subst, append_assoc, arith}
use Rattle.scene_structures.proofs.Prelude
use Prelude.{AddsEvent, after, Asks, bare, Block, comes_next, DeskNow, Ending, ending, EndsInHand}
use Prelude.{Event, gone_of, handle_in, Has, held, IsLeft, IsLegal, IsTree, IsUncleared, latest_of}
use Prelude.{leads, Leave, leaves, Left, live, moved_to, node, NumberedHandle, Object}
use Prelude.{objects_in_order, on_latest}
use Prelude.{opening_of, Owner, owner, piled, Place, put_other, put_same, Sound, sound, State}
use Prelude.{state_of, top_value, Tree, value, values_ended_by}
use Rattle.control_word.proofs.history.Allowances.{opened}
use Rattle.control_word.proofs.history.Formation.{formed}
use Rattle.control_word.proofs.history.Kept.{owners_led}
use Rattle.control_word.specs.Histories.{valued}
use Rattle.control_word.specs.State.{count}
use Rattle.control_block.specs.Rule.{members_of}
use Rattle.shared_handle.specs.declared.endings.Left.TheVariants as left
use Rattle.scene_structures.specs.Trees.{HoldsNoMore}
use Rattle.scene_structures.proofs.Standing.{IsAlone}
use Rattle.scene_structures.proofs.Trees.{ending_live, in_no_member, leave_member, one_lives}
use Rattle.scene_structures.proofs.Trees.{tree_left}

pub none_some : {n : ℕ} → None ≡ Some n → ⊥
none_some e = cc e

pub same_object : {n m : ℕ} → Some n ≡ Some m → n ≡ m
same_object e = cc e

-- an object that ends, with what is left of it
pub record Frame (V : Type 0) : Type 0 where
  pub top : Ending V
  pub object : ℕ
  pub first : Tree
  pub next : Tree

module _ {V : Type 0} where
  -- the pile, of which the first frame is the top
  abbrev pub endings : List (Frame V) → List (Ending V)
  endings [] = []
  endings (f ∷ fs) = endings fs ++ f.top ∷ []

  -- what will end
  abbrev pub left_of : List (Frame V) → List ℕ
  left_of [] = []
  left_of (f ∷ fs) = objects_in_order f.first ++ (objects_in_order f.next ++ left_of fs)

  pub record Pends (s : State) (f : Frame V) : Type 0 where
    pub is : s.latest f.top.block.0 ≡ f.object
    pub ends : (s.object f.object).phase ≢ live
    pub first : IsTree s ((s.object f.object).member 0) f.first
    pub next : IsTree s ((s.object f.object).member 1) f.next
    pub no_first : 0 < f.top.cleared → f.first ≡ bare
    pub no_next : 1 < f.top.cleared → f.next ≡ bare
    pub no_more : HoldsNoMore s f.object
    pub many : 2 ≤ f.top.members

  abbrev pub Apart : ℕ → List (Frame V) → Type 0
  Apart o [] = Unit {0}
  Apart o (f ∷ fs) = (f.object ≢ o) × Apart o fs

  abbrev pub Pend : State → List (Frame V) → Type 0
  Pend s [] = Unit {0}
  Pend s (f ∷ fs) = Pends s f × Apart f.object fs × Pend s fs

  pub pends_map : (s t : State) (o : ℕ) → ((f : Frame V) → f.object ≢ o → Pends s f → Pends t f) → (fs : List (Frame V)) → Apart o fs
      → Pend s fs → Pend t fs
  pends_map s t o step [] apart pend = tt
  pends_map s t o step (f ∷ fs) (ne, apart) (first, others, rest) = (step f ne first, others, pends_map s t o step fs apart rest)

  -- what ends is none that lives
  pub apart_live : (s : State) (o : ℕ) → (s.object o).phase ≡ live → (fs : List (Frame V)) → Pend s fs → Apart o fs
  apart_live s o lives [] pend = tt
  apart_live s o lives (f ∷ fs) (first, others, rest) =
      (λ e. first.ends (ap (λ i. (s.object i).phase) e ∙ lives), apart_live s o lives fs rest)

  -- one event on a sole desk
  abbrev pub value_of : DeskNow V → ℕ → Option V
  value_of d = value (opening_of d.shape) d.seen

  pub record Steps (d : DeskNow V) (x : Event V) (e : DeskNow V) : Type 0 where
    pub asks : Asks (state_of d) d.name x
    pub state : state_of e ≡ after (state_of d) d.name x
    pub values : value_of e ≡ valued (state_of d) x (value_of d)

  pub steps : (d e : DeskNow V) (x : Event V) → AddsEvent d x e → IsAlone d → Steps d x e
  steps d e x adds a =
      let z = opening_of d.shape in
      let next = comes_next d x e adds a.sole in
      let may = subst (IsLegal z) next adds.legal in
      record {
        asks = may.1.asks;
        state = λ i. leads (opening_of (adds.same.1 i)) (next i);
        values = λ i. value (opening_of (adds.same.1 i)) (next i);
      }

  -- what was left of a pile, once an owner of a tree's top has left
  pub record Lets (d e : DeskNow V) (base : List (Ending V)) (left : Left V) (fs : List (Frame V)) (tree : Tree) : Type 0 where
    pub frames : List (Frame V)
    pub pile : piled (base ++ endings fs) left ≡ base ++ endings frames
    pub pend : Pend (state_of e) frames
    pub values : value_of e ≡ value_of d
    pub told : (zs : List (Ending V)) → zs ≡ piled (base ++ endings fs) left
        → map Some (values_ended_by (gone_of left) zs) ++ map (value_of d) (left_of frames) ≡ map (value_of d) (objects_in_order tree ++ left_of fs)

  pub top_of : (xs : List (Ending V)) (x : Ending V) → top_value (xs ++ x ∷ []) ≡ x.value ∷ []
  top_of [] x = refl
  top_of (y ∷ []) x = refl
  top_of (y ∷ (z ∷ xs)) x = top_of (z ∷ xs) x

  -- nothing left
  pub lets_none : (d e : DeskNow V) (base : List (Ending V)) (b : Option Block) (p : Option Place) (l : Left V) (fs : List (Frame V))
      → IsLeft d b p l e → IsAlone d → (handle_in d Owner b p).object ≡ None → Pend (state_of d) fs → Lets d e base l fs bare
  lets_none d e base b p left.Empty fs l a none pend =
      record {
        frames = fs;
        pile = refl;
        pend = subst (λ (k : DeskNow V). Pend (state_of k) fs) (sym l.1) pend;
        values = ap value_of l.1;
        told = λ zs is. refl;
      }
  lets_none d e base b p left.Others fs l a none pend =
      absurd (let t = ap (λ k. (handle_in d Owner k p).object) l.1 in none_some (sym none ∙ t))
  lets_none d e base b p (left.Last x) fs l a none pend =
      absurd (let t = ap (λ k. (handle_in d Owner k p).object) l.0 in none_some (sym none ∙ t))

  -- the last owner of a tree's top leaves
  pub lets_last : (d e : DeskNow V) (base : List (Ending V)) (p : Option Place) (x : Ending V) (fs : List (Frame V)) (first next : Tree)
      → AddsEvent d (Leave (on_latest d Owner p x.block.0) true) e → EndsInHand e x → IsUncleared x → IsAlone d
      → count (state_of d) (latest_of d x.block.0) ≡ 1
      → IsTree (state_of d) (((state_of d).object (latest_of d x.block.0)).member 0) first
      → IsTree (state_of d) (((state_of d).object (latest_of d x.block.0)).member 1) next
      → HoldsNoMore (state_of d) (latest_of d x.block.0) → Pend (state_of d) fs
      → Lets d e base (left.Last x) fs (node (latest_of d x.block.0) first next)
  lets_last d e base p x fs first next adds ends fresh a one below beside no_more pend =
      record {
        frames = top ∷ fs;
        pile = append_assoc base (endings fs) (x ∷ []);
        pend = subst (λ t. Pend t (top ∷ fs)) (sym st.state) (mine, apart, pends_map s t o others fs apart pend);
        values = st.values;
        told = tell;
      }
    where
      s : State
      s = state_of d

      o : ℕ
      o = latest_of d x.block.0

      t : State
      t = leaves d.name (owner o p) true s

      top : Frame V
      top = record { top = x; object = o; first = first; next = next }

      st : Steps d (Leave (owner o p) true) e
      st = steps d e (Leave (owner o p) true) adds a

      fine : Sound (opening_of d.shape) s
      fine = sound (opening_of d.shape) d.seen a.legal

      has : Has (held d.name (owner o p)) s.hands
      has = st.asks.0.0

      stays : (f : ℕ) (j : ℕ) (tree : Tree) → j < 2 → IsTree s ((s.object f).member j) tree → IsTree t ((t.object f).member j) tree
      stays f j tree low is =
          let well = formed (opening_of d.shape) d.seen a.legal in
          let two : 2 ≤ s.owners =
          (let n = (opened (opening_of d.shape) d.seen a.legal).owners.0 in let e = owners_led (opening_of d.shape) d.seen in omega (arith, n, e)) in
          let apart = in_no_member (opening_of d.shape) s d.name o p fine well two has one f j low in
          subst (λ h. IsTree t h tree) (sym (leave_member s d.name o p f j))
          (tree_left (opening_of d.shape) s d.name o p fine well two has one ((s.object f).member j) tree apart is)

      apart : Apart o fs
      apart = apart_live s o (one_lives (opening_of d.shape) s o fine one) fs pend

      now : t.object o ≡ moved_to (ending d.name) (s.object o)
      now = put_same s.object o (moved_to (ending d.name) (s.object o)) o refl

      still : (f : ℕ) → HoldsNoMore s f → HoldsNoMore t f
      still f none m lt le = ap (λ (h : NumberedHandle). h.object) (leave_member s d.name o p f m) ∙ none m lt le

      mine : Pends t top
      mine =
          record {
            is = refl;
            ends = λ e. ending_live d.name (sym (ap (λ (y : Object). y.phase) now) ∙ e);
            first = stays o 0 first (omega arith) below;
            next = stays o 1 next (omega arith) beside;
            no_first = λ lt. absurd (omega (arith, lt, fresh));
            no_next = λ lt. absurd (omega (arith, lt, fresh));
            no_more = still o no_more;
            many = (let n = (opened (opening_of d.shape) d.seen a.legal).members.0 in
                let m = ends.shape ∙ ap members_of adds.same.1 in omega (arith, n, m));
          }

      others : (f : Frame V) → f.object ≢ o → Pends s f → Pends t f
      others f ne pd =
          record {
            is = pd.is;
            ends = λ e. pd.ends (sym (ap (λ (y : Object). y.phase) (put_other s.object o (moved_to (ending d.name) (s.object o)) f.object ne)) ∙ e);
            first = stays f.object 0 f.first (omega arith) pd.first;
            next = stays f.object 1 f.next (omega arith) pd.next;
            no_first = pd.no_first;
            no_next = pd.no_next;
            no_more = still f.object pd.no_more;
            many = pd.many;
          }

      kept : value_of d o ≡ Some x.value
      kept = ap (λ f. f o) (sym st.values) ∙ (ap (λ (k : State). value_of e (k.latest x.block.0)) (sym st.state) ∙ ends.ends.kept)

      tell : (zs : List (Ending V)) → zs ≡ (base ++ endings fs) ++ x ∷ []
          → map Some (top_value zs) ++ map (value_of d) (left_of (top ∷ fs)) ≡ map (value_of d) (objects_in_order (node o first next) ++ left_of fs)
      tell zs is =
          let value : top_value zs ≡ x.value ∷ [] = ap top_value is ∙ top_of (base ++ endings fs) x in
          ap (λ l. map Some l ++ map (value_of d) (left_of (top ∷ fs))) value
          ∙ ((λ i. sym kept i ∷ map (value_of d) (left_of (top ∷ fs)))
          ∙ ap (λ l. value_of d o ∷ map (value_of d) l) (sym (append_assoc (objects_in_order first) (objects_in_order next) (left_of fs))))

  -- the top of a tree ends
  pub lets_top : (d e : DeskNow V) (base : List (Ending V)) (b : Option Block) (p : Option Place) (l : Left V) (fs : List (Frame V))
      (q : ℕ) (first next : Tree)
      → IsLeft d b p l e → IsAlone d → IsTree (state_of d) (handle_in d Owner b p) (node q first next) → Pend (state_of d) fs
      → Lets d e base l fs (node q first next)
  lets_top d e base b p left.Empty fs q first next l a is pend =
      absurd (let t = ap (λ k. (handle_in d Owner k p).object) l.0 in none_some (sym t ∙ is.0))
  lets_top d e base b p left.Others fs q first next (c, at, adds) a is pend =
      let o : latest_of d c.0 ≡ q = same_object (sym (ap (λ k. (handle_in d Owner k p).object) at) ∙ is.0) in
      let st = steps d e (Leave (on_latest d Owner p c.0) false) adds a in
      let one : count (state_of d) (latest_of d c.0) ≡ 1 = ap (count (state_of d)) o ∙ is.1 in
      absurd (let t : false ≡ true = st.asks.1 ∙ ap (λ n. n == 1) one in cc)
  lets_top d e base b p (left.Last x) fs q first next (at, adds, ends, fresh) a is pend =
      let o : q ≡ latest_of d x.block.0 = same_object (sym is.0 ∙ ap (λ k. (handle_in d Owner k p).object) at) in
      subst (λ k. Lets d e base (left.Last x) fs (node k first next)) (sym o)
      (lets_last d e base p x fs first next adds ends fresh a (ap (count (state_of d)) (sym o) ∙ is.1)
      (subst (λ k. IsTree (state_of d) (((state_of d).object k).member 0) first) o is.2)
      (subst (λ k. IsTree (state_of d) (((state_of d).object k).member 1) next) o is.3)
      (subst (HoldsNoMore (state_of d)) o is.4) pend)

  pub lets : (d e : DeskNow V) (base : List (Ending V)) (b : Option Block) (p : Option Place) (l : Left V) (fs : List (Frame V)) (tree : Tree)
      → IsLeft d b p l e → IsAlone d → IsTree (state_of d) (handle_in d Owner b p) tree → Pend (state_of d) fs → Lets d e base l fs tree
  lets d e base b p l fs bare leaves a is pend = lets_none d e base b p l fs leaves a is pend
  lets d e base b p l fs (node q first next) leaves a is pend = lets_top d e base b p l fs q first next leaves a is pend
