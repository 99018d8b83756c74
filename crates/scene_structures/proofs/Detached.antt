-- What the steps of taking a node out say, put together.
use Rattle.std.proofs.Common.{◌≡◌, ℕ, ◌+◌, ◌<◌, Bool, true, false, List, [], ◌∷◌, ◌++◌, length}
use Rattle.std.proofs.Common.{Some, None, Ok, Option, sym, refl, ap, ◌∙◌, subst, arith}
use Rattle.scene_structures.proofs.Prelude
use Prelude.{AddsEvent, All-append, bag_of, Block, Cell, Compare, Cut, CutsOut, DeskNow, Does}
use Prelude.{does_both, does_none, does_one, End, FindsNone, goes_in_turn, handle, handle_in, Has}
use Prelude.{HasHands, HeldSought, HoldsHandle, in_no_cell, IsEnd, IsLegal, IsMember, IsParting}
use Prelude.{IsSought, IsWithin, KeepsHeld, KeepsThese, Lists, Load, Meets, Member, node_in}
use Prelude.{NumberedHandle, object_of, opening_of, Other, Owner, Place, PutsOnly, ReachesNode}
use Prelude.{SameNode, Seeks, Shared, shared_cell, SharedAt, shown_held, Sought, stacked, state_of}
use Prelude.{without_handle}
use Rattle.atomic_cells.specs.declared.sites.SharedMember.TheVariants.{First, Next}
use Rattle.atomic_cells.specs.declared.sites.SharedSite.TheVariants as shared
use Rattle.scene_structures.specs.Detaches.{HandsSought, Skips}
use Rattle.scene_structures.proofs.Hands.{hands_first}
use Rattle.scene_structures.proofs.Pruned.{Left}
use Rattle.scene_structures.proofs.Rows.{does_wider, parting_puts}
use Rattle.scene_structures.proofs.Sites.{below_all, these_after, these_both}

-- what is in hand after a look below a node
abbrev pub beyond : Sought → Option Shared
beyond (Other h) = Some h
beyond End = None
beyond Cut = None

block_same : (a b : Block) → a.0 ≡ b.0 → a ≡ b
block_same a b e = λ i. record { 0 = e i }

module _ {V : Type 0} where
  pub puts_none : (d e : DeskNow V) → Does IsParting d e → Does (PutsOnly in_no_cell) d e
  puts_none d e does = does_wider IsParting (PutsOnly in_no_cell) d e (parting_puts in_no_cell) does

  -- the node was skipped
  pub skips : (d m u e : DeskNow V) (c : Cell) (node below : Shared) (old : NumberedHandle) (member : SharedAt)
      → IsMember (λ k (x : SharedAt). x.site ≡ shared.Of k Next) node.block node.place (Ok member)
      → AddsEvent d (Load (shared_cell d member.site) (node_in m below)) m → SameNode d node m
      → AddsEvent m (Compare c (node_in m node) (node_in m below) old true true) u → Does IsParting u e → Skips d c (node_in d node) e
  skips d m u e c node below old member is loads same swaps leaves =
      let n : node_in d node ≡ handle_in d Owner (Some is.0.block) node.place = ap (λ b. handle_in d Owner b node.place) is.2 in
      let cell : shared_cell d member.site ≡ Member (object_of (node_in d node)) 1 =
      ap (shared_cell d) is.3 ∙ sym (ap (λ (h : NumberedHandle). Member (object_of h) 1) n) in
      record {
        below = node_in m below;
        old = old;
        read = m;
        reads = subst (λ (k : Cell). AddsEvent d (Load k (node_in m below)) m) cell loads;
        cut = u;
        swaps = subst (λ (h : NumberedHandle). AddsEvent m (Compare c h (node_in m below) old true true) u) same swaps;
        leaves = leaves;
      }

  -- or not
  pub missed : (d m u e : DeskNow V) (k c : Cell) (h ex new held : NumberedHandle) → AddsEvent d (Load k h) m → AddsEvent m (Compare c ex new held false true) u
      → Does IsParting u e → Does (PutsOnly in_no_cell) d e
  missed d m u e k c h ex new held loads differs leaves =
      does_both (PutsOnly in_no_cell) d u e (does_both (PutsOnly in_no_cell) d m u (does_one (PutsOnly in_no_cell) d m _ loads tt)
      (does_one (PutsOnly in_no_cell) m u _ differs tt)) (puts_none u e leaves)

  -- handles of one block are on one object
  same_on : (e : DeskNow V) (b c : Option Block) (p q : Option Place) → b ≡ c → object_of (handle_in e Owner b p) ≡ object_of (handle_in e Owner c q)
  same_on e None c p q is = ap (λ (x : Option Block). object_of (handle_in e Owner x q)) is
  same_on e (Some b) c p q is = ap (λ (x : Option Block). object_of (handle_in e Owner x q)) is

  pub same_object : (e : DeskNow V) (a b : Shared) → a.block ≡ b.block → object_of (node_in e a) ≡ object_of (node_in e b)
  same_object e a b is = same_on e a.block b.block a.place b.place is

  -- and of two blocks on two
  other_on : (e : DeskNow V) (a b : Option Block) (p q : Option Place) → IsLegal (opening_of e.shape) e.seen → Lists a p (bag_of e)
      → Lists b q (bag_of e) → IsWithin a p → IsWithin b q → object_of (handle_in e Owner a p) ≡ object_of (handle_in e Owner b q) → a ≡ b
  other_on e None b p q legal la lb wa wb same = absurd (let t = wa.2 in cc)
  other_on e (Some a) None p q legal la lb wa wb same = absurd (let t = wb.2 in cc)
  other_on e (Some a) (Some b) p q legal la lb wa wb same =
      let x = shown_held (opening_of e.shape) e.seen e.name Owner p a.0 legal la in
      let y = shown_held (opening_of e.shape) e.seen e.name Owner q b.0 legal lb in
      let n : a.0 ≡ b.0 = sym x.1 ∙ (ap (λ o. ((state_of e).object o).block) same ∙ y.1) in ap Some (block_same a b n)

  -- what was found is another
  pub meets_other : (d e : DeskNow V) (c : Cell) (h node : Shared) → AddsEvent d (Load c (node_in e h)) e → IsWithin h.block h.place
      → IsWithin node.block node.place → IsLegal (opening_of e.shape) e.seen → Lists h.block h.place (bag_of e) → Lists node.block node.place (bag_of e)
      → SameNode d node e → (h.block ≡ node.block → ⊥) → Meets d c (object_of (node_in d node)) h e
  meets_other d e c h node loads within node_within legal lh ln same not =
      record {
        tried = d;
        tries = does_none (PutsOnly in_no_cell) d;
        loads = loads;
        within = within;
        other = λ is. not (other_on e h.block node.block h.place node.place legal lh ln within node_within (is ∙ ap object_of (sym same)));
      }

  -- an owner that points into its block is on an object
  pub on_some : (e : DeskNow V) (h : Shared) → IsWithin h.block h.place → (node_in e h).object ≡ Some (object_of (node_in e h))
  on_some e h within =
      ap (λ (b : Option Block). (handle_in e Owner b h.place).object) within.2
      ∙ ap Some (sym (ap (λ (b : Option Block). object_of (handle_in e Owner b h.place)) within.2))

  -- and here it is the node, which goes out
  pub cuts_node : (d m e : DeskNow V) (c : Cell) (top node : Shared) → AddsEvent d (Load c (node_in m top)) m → IsWithin top.block top.place
      → top.block ≡ node.block → SameNode d node m → Skips m c (node_in m top) e → CutsOut d c (object_of (node_in d node)) e
  cuts_node d m e c top node loads within block same skipped =
      record {
        tried = d;
        tries = does_none (PutsOnly in_no_cell) d;
        node = node_in m top;
        is = on_some m top within ∙ ap Some (same_object m top node block ∙ ap object_of same);
        seen = m;
        loads = loads;
        skips = skipped;
      }

  -- a look after tries
  none_later : (d l e : DeskNow V) (c : Cell) → Does (PutsOnly in_no_cell) d l → FindsNone l c e → FindsNone d c e
  none_later d l e c does f =
      let k = f.looks in
      record {
        found = f.found;
        looks = record {
          at = k.at;
          look = k.look;
          before = k.before ++ does.own;
          after = k.after;
          sees = k.sees;
          looks = goes_in_turn d does.own l (k.look ∷ k.before) k.at does.goes k.looks;
          leaves = k.leaves;
          early = All-append (PutsOnly in_no_cell) k.before does.own k.early does.all;
          late = k.late;
          within = k.within;
        };
        none = f.none;
      }

  pub sought_later : (d l e : DeskNow V) (c : Cell) (o : ℕ) (s : Sought) → Does (PutsOnly in_no_cell) d l → IsSought l c o s e → IsSought d c o s e
  sought_later d l e c o End does is = none_later d l e c does is
  sought_later d l e c o Cut does is =
      record {
        tried = is.tried;
        tries = does_both (PutsOnly in_no_cell) d l is.tried does is.tries;
        node = is.node;
        is = is.is;
        seen = is.seen;
        loads = is.loads;
        skips = is.skips;
      }
  sought_later d l e c o (Other h) does is =
      record {
        tried = is.tried;
        tries = does_both (PutsOnly in_no_cell) d l is.tried does is.tries;
        loads = is.loads;
        within = is.within;
        other = is.other;
      }

  -- the cell of a node's `next`
  pub next_cell : (l : DeskNow V) (node : Shared) (member : SharedAt)
      → IsMember (λ k (x : SharedAt). x.site ≡ shared.Of k Next) node.block node.place (Ok member)
      → shared_cell l member.site ≡ Member (object_of (node_in l node)) 1
  next_cell l node member is =
      let n : node_in l node ≡ handle_in l Owner (Some is.0.block) node.place = ap (λ k. handle_in l Owner k node.place) is.2 in
      ap (shared_cell l) is.3 ∙ sym (ap (λ (h : NumberedHandle). Member (object_of h) 1) n)

  -- one more node was passed
  pub reaches_on : (d l t e : DeskNow V) (c : Cell) (o : ℕ) (bs : List ℕ) (node h : Shared) (member : SharedAt)
      → IsMember (λ k (x : SharedAt). x.site ≡ shared.Of k Next) node.block node.place (Ok member) → ReachesNode d c o bs node l
      → Meets l (shared_cell l member.site) o h t → Does IsParting t e → SameNode t h e → ReachesNode d c o (object_of (node_in l node) ∷ bs) h e
  reaches_on d l t e c o bs node h member is reaches meets leaves same =
      (node, l, t, reaches, refl, subst (λ (k : Cell). Meets l k o h t) (next_cell l node member is) meets, leaves, same)

  -- and it was the last one
  pub seeks_on : (d l t e : DeskNow V) (c : Cell) (o : ℕ) (bs : List ℕ) (node : Shared) (member : SharedAt) (found : Bool)
      → IsMember (λ k (x : SharedAt). x.site ≡ shared.Of k Next) node.block node.place (Ok member) → ReachesNode d c o bs node l
      → IsEnd l (shared_cell l member.site) o found t → Does IsParting t e → Seeks d c o (object_of (node_in l node) ∷ bs) found e
  seeks_on d l t e c o bs node member found is reaches ends leaves =
      (node, l, t, reaches, refl, subst (λ (k : Cell). IsEnd l k o found t) (next_cell l node member is) ends, leaves)

  pub sought_left : (d t : DeskNow V) (base : List NumberedHandle) (node : Shared) (s : Sought) → HasHands base (node ∷ []) d
      → HandsSought (stacked (node ∷ []) base) s t → HeldSought d s t → Left base node (beyond s) t
  sought_left d t base node End has hands held = let f = has.few in record { bag = hands.bag; few = omega arith }
  sought_left d t base node Cut has hands held = let f = has.few in record { bag = hands.bag; few = omega arith }
  sought_left d t base node (Other h) has hands held = let f = has.few in record { bag = hands.bag; few = omega arith }

  -- what more than a list keeps, the list keeps
  pub these_fewer : (d e : DeskNow V) (hs : List Shared) (base : List NumberedHandle) → KeepsThese (stacked hs base) d e → KeepsThese base d e
  these_fewer d e hs base keeps k p b in' = keeps k p b (below_all hs base (handle k (Some b) p) in')

  -- an owner that points into its block is held where it is listed
  pub within_holds : (d : DeskNow V) (h : Shared) → IsWithin h.block h.place → Lists h.block h.place (bag_of d) → HoldsHandle d Owner h.block h.place
  within_holds d h within lists =
      subst (λ (b : Option Block). HoldsHandle d Owner b h.place) (sym within.2) (subst (λ (b : Option Block). Lists b h.place (bag_of d)) within.2 lists)

  -- one of those below as a handle in hand
  pub hands_above : (d e : DeskNow V) (base : List NumberedHandle) (h : Shared) → HasHands base (h ∷ []) d → HasHands (stacked (h ∷ []) base) [] e
      → e.held ≡ d.held → HasHands base (h ∷ []) e
  hands_above d e base h has below held = let f = has.few in record { bag = below.bag; few = omega arith }

  -- over a call by which none came and none went
  pub holds_kept : (d e : DeskNow V) (b : Option Block) (p : Option Place) → bag_of e ≡ bag_of d → e.held ≡ d.held → HoldsHandle d Owner b p
      → HoldsHandle e Owner b p
  holds_kept d e None p bag held holds = let a = ap length bag in let few : length (bag_of d) < d.held = holds in omega arith
  holds_kept d e (Some b) p bag held holds = subst (Has (handle Owner (Some b.0) p)) (sym bag) holds

  -- the node above left, and nothing came in its place
  pub below_left : (l t e : DeskNow V) (base : List NumberedHandle) (before : Shared) (s : Sought) → HasHands base (before ∷ []) l
      → HandsSought (stacked (before ∷ []) base) s t → HeldSought l s t → beyond s ≡ None
      → bag_of e ≡ without_handle Owner before.block before.place (bag_of t) → e.held + 1 ≡ t.held → HasHands base [] e
  below_left l t e base before s has hands held none bag less =
      hands_first t e base before [] (subst (λ (o : Option Shared). Left base before o t) none (sought_left l t base before s has hands held)) bag less

  pub below_these : (d l t e : DeskNow V) (base : List NumberedHandle) (before : Shared) (hs : List Shared) → KeepsThese base d l
      → KeepsThese (stacked (before ∷ []) base) l t → KeepsHeld t e → HasHands base hs e → KeepsThese base d e
  below_these d l t e base before hs one two three has =
      these_both d l e base one (these_both l t e base (these_fewer l t (before ∷ []) base two) (these_after t e base hs three has))

  pub first_cell : (l : DeskNow V) (node : Shared) (member : SharedAt)
      → IsMember (λ k (x : SharedAt). x.site ≡ shared.Of k First) node.block node.place (Ok member)
      → shared_cell l member.site ≡ Member (object_of (node_in l node)) 0
  first_cell l node member is =
      let n : node_in l node ≡ handle_in l Owner (Some is.0.block) node.place = ap (λ k. handle_in l Owner k node.place) is.2 in
      ap (shared_cell l) is.3 ∙ sym (ap (λ (h : NumberedHandle). Member (object_of h) 0) n)
