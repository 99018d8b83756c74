use Rattle.std.proofs.Common.{◌≡◌, ◌<◌, ◌+◌, ℕ, List, [], ◌∷◌, length, subst, sym, refl, arith}
use Rattle.std.specs.Prelude.{MatchOption, Option, Some, None, vec_len}
use Rattle.owner_graph.proofs.Prelude.{All, mark, Marks, marks_of, Vec}
use Rattle.owner_graph.proofs.Searches.{Searched, listed_in, none_begun, over, root_alone, round}
use Rattle.owner_graph.proofs.Searches.{row_inside}
use Rattle.owner_graph.proofs.directed_graph.reached.mark_reached.Goals.{then-root-graph+in_ok-mark}
use Rattle.owner_graph.proofs.directed_graph.reached.mark_reached.Goals.{else-root-graph}
use Rattle.owner_graph.proofs.directed_graph.reached.mark_reached.Goals as goal

pub loop-vertex-init : goal.loop-vertex-init
loop-vertex-init c =
    elim c.if-root-graph.branch [
      | then-root-graph+in_ok-mark w ↦
          subst (λ x. Searched c.args.graph.now c.args.root (marks_of x)) (sym w.search-is)
          (subst (Searched c.args.graph.now c.args.root) (sym w.in_ok-mark.ensures)
          (subst (λ (m : Marks). Searched c.args.graph.now c.args.root (mark m c.args.root)) (sym c.in_ok-search.ensures)
          (root_alone c.args.graph.now c.args.root (length c.args.graph.now) refl w.if-root-graph.true)))
      | else-root-graph w ↦
          subst (λ x. Searched c.args.graph.now c.args.root (marks_of x)) (sym w.search-is)
          (subst (Searched c.args.graph.now c.args.root) (sym c.in_ok-search.ensures)
          (none_begun c.args.graph.now c.args.root (length c.args.graph.now) refl w.if-root-graph.false))
    ]

pub bounds-graph-vertex : goal.bounds-graph-vertex
bounds-graph-vertex c =
    listed_in c.args.graph.now c.args.root c.in-Some.vertex c.loop-vertex.search.marked.items c.loop-vertex.search.pending.items _
    c.in-Some.ensures.items c.loop-vertex.invariant

pub offset_bounds-graph-vertex : goal.offset_bounds-graph-vertex
offset_bounds-graph-vertex c =
    let i = listed_in c.args.graph.now c.args.root c.in-Some.vertex c.loop-vertex.search.marked.items c.loop-vertex.search.pending.items _
    c.in-Some.ensures.items c.loop-vertex.invariant in
    omega (arith, i)

pub mark_all-requires : goal.mark_all-requires
mark_all-requires c =
    let i = listed_in c.args.graph.now c.args.root c.in-Some.vertex c.loop-vertex.search.marked.items c.loop-vertex.search.pending.items _
    c.in-Some.ensures.items c.loop-vertex.invariant in
    let n = c.loop-vertex.invariant.size in
    let r = row_inside c.args.graph.now c.in-Some.vertex (length c.loop-vertex.search.marked.items) c.index-graph-vertex.result c.requires i
    c.index-graph-vertex.is n in
    λ k d lt.
    let e = c.as_slice.ensures.value in
    let s = subst (λ (l : List ℕ). All (λ w. w < length c.loop-vertex.search.marked.items) l) (sym e) r k d lt in
    omega (arith, s, c.loop-vertex.search.marked.ok.0)

pub loop-vertex-smaller : goal.loop-vertex-smaller
loop-vertex-smaller c =
    (round c.args.graph.now c.args.root c.in-Some.vertex c.index-graph-vertex.result c.loop-vertex.search.marked.items
    c.loop-vertex.search.pending.items c.pop.new.self.items c.as_slice.result.now (marks_of c.mark_all.new.self) c.requires
    c.loop-vertex.invariant c.in-Some.ensures.items c.index-graph-vertex.is c.as_slice.ensures.value c.in_ok-mark_all.ensures).1

pub loop-vertex-preserved : goal.loop-vertex-preserved
loop-vertex-preserved c =
    (round c.args.graph.now c.args.root c.in-Some.vertex c.index-graph-vertex.result c.loop-vertex.search.marked.items
    c.loop-vertex.search.pending.items c.pop.new.self.items c.as_slice.result.now (marks_of c.mark_all.new.self) c.requires
    c.loop-vertex.invariant c.in-Some.ensures.items c.index-graph-vertex.is c.as_slice.ensures.value c.in_ok-mark_all.ensures).0

pub returns : goal.returns
returns c =
    over c.args.graph.now c.args.root c.loop-vertex.search.marked.items
    (subst (λ (l : List ℕ). Searched c.args.graph.now c.args.root (record { marked = c.loop-vertex.search.marked.items; pending = l }))
    (none_left c.loop-vertex.search.pending c.pop.new.self c.pop.result c.pop.ensures.cases c.in_default.is) c.loop-vertex.invariant)
  where
    none_left : (old new : Vec ℕ) (r : Option ℕ)
        → MatchOption r ((vec_len old ≡ 0) × (vec_len new ≡ 0)) (λ _. vec_len new + 1 ≡ vec_len old) → r ≡ None → old.items ≡ []
    none_left old new None h e = go old.items (let n = h.0 in omega (arith, n, old.ok.0))
      where
        go : (l : List ℕ) → length l ≡ 0 → l ≡ []
        go [] z = refl
        go (x ∷ xs) z = absurd (omega arith)
    none_left old new (Some x) h e = absurd (let q : Some x ≡ None = e in some_none q)
      where
        some_none : ◌≡◌ {A = Option ℕ} (Some x) None → ⊥
        some_none q = cc
