-- The lines of knots, and whole texts.
use Rattle.std.proofs.Common.{◌≡◌, ℕ, Bool, true, false, cond, ◌≢◌, List, [], ◌∷◌, ◌++◌, map}
use Rattle.std.proofs.Common.{length, ◌==◌, codes, refl, sym, ap, ◌∙◌, append-nil}
use Rattle.owner_text.proofs.Prelude.{counted, cut_lines, Draft, edge_lines, ended, Findings}
use Rattle.owner_text.proofs.Prelude.{flat_map, handle_text, Holding, is_leaked, is_object}
use Rattle.owner_text.proofs.Prelude.{knot_lines, lines_to, node_lines, object_lines, tie_text}
use Rattle.owner_text.proofs.Prelude.{vertices_of, weaken_text}
use Rattle.std.specs.List.{filter}
use Rattle.std.proofs.lemmas.Bool.{cond-false, cond-true}
use Rattle.owner_graph.specs.Fed.{marked}
use Rattle.owner_graph.specs.Findings.{pairs_at}
use Rattle.owner_graph.specs.Labels.{at}
use Rattle.owner_graph.specs.Members.{homes}
use Rattle.owner_graph.specs.Rows.{held_in, held_on, row_at}
use Rattle.owner_graph.specs.Ties.{is_tie}
use Rattle.owner_graph.specs.Weakenings.{knot_ties}
use Rattle.owner_graph.specs.declared.label_pairs.LabelPair.{LabelPair}
use Rattle.owner_graph.proofs.WeakeningLemmas.{ties_by_rows}
use Rattle.owner_text.specs.Drawing.{graph_lines, head_lines}
use Rattle.owner_text.specs.Lines.{all_lines, knot_text, object_label, object_text, status_text}
use Rattle.owner_text.specs.Lines.{tied_lines, totals_text}
use Rattle.owner_text.proofs.LineLemmas.{lines_then}

-- what has no lines
pub none_put : (is : Bool) (lines : List (List ℕ)) (a : List ℕ) → is ≡ false
    → a ≡ a ++ ended (cond is lines [])
none_put is lines a off =
    sym (append-nil a) ∙ ap (λ (l : List (List ℕ)). a ++ ended l) (sym (cond-false is lines [] off))

module _ (d : Draft) (f : Findings) where
  -- the lines of an object
  pub object_then : (number : ℕ) (keeps stays : Bool) (status label : List ℕ)
      (handles : List Holding) (a b c : List ℕ)
      → is_object d.objects number ≡ true → keeps ≡ marked f.kept.items number
      → stays ≡ marked f.index.stays.items number
      → status ≡ status_text keeps stays → label ≡ object_label d number
      → handles ≡ held_on d.handles number
      → b ≡ a ++ ended (object_text number status label ∷ [])
      → c ≡ b ++ ended (map (handle_text d.labels) handles)
      → c ≡ a ++ ended (object_lines d f number)
  object_then number keeps stays status label handles a b c is k_is s_is status_is label_is h_is p
      q =
      let S = status_text (marked f.kept.items number) (marked f.index.stays.items number) in
      let O = object_text number S (object_label d number) in
      let H = map (handle_text d.labels) (held_on d.handles number) in
      let same : status ≡ S = status_is ∙ ap (λ (k : Bool). status_text k stays) k_is
      ∙ ap (status_text (marked f.kept.items number)) s_is in
      lines_then (O ∷ []) H a b c
      (p ∙ ap (λ (t : List ℕ). a ++ ended (object_text number t label ∷ [])) same
      ∙ ap (λ (t : List ℕ). a ++ ended (object_text number S t ∷ [])) label_is)
      (q ∙ ap (λ (hs : List Holding). b ++ ended (map (handle_text d.labels) hs)) h_is)
      ∙ ap (λ (l : List (List ℕ)). a ++ ended l)
      (sym (cond-true (is_object d.objects number) (O ∷ H) [] is))

  -- the lines of a knot, by rows
  pub knot_then : (least : ℕ) (is : Bool) (ties : List Holding) (a c : List ℕ)
      → is ≡ (at f.knots.items least == least) → is ≡ true
      → ties ≡ flat_map (λ (m : Holding). filter (is_tie f.kept.items f.knots.items)
      (row_at f.sources.items m.from))
      (row_at f.index.members.items least)
      → row_at f.index.members.items least ≡ held_on (homes f.knots.items (vertices_of d)) least
      → ((b : ℕ) → row_at f.sources.items b ≡ held_in d.handles b)
      → c ≡ a ++ ended (tied_lines d f least ties)
      → c ≡ a ++ ended (knot_lines d f least)
  knot_then least is ties a c test is_so tied members sources p =
      let K = knot_ties f.kept.items f.knots.items (vertices_of d) d.handles least in
      let same : ties ≡ K =
      tied ∙ ties_by_rows (vertices_of d) d.handles f.kept.items f.knots.items f.sources.items
      (row_at f.index.members.items least) least sources
      members in
      p ∙ ap (λ (l : List Holding). a ++ ended (tied_lines d f least l)) same
      ∙ ap (λ (l : List (List ℕ)). a ++ ended l)
      (sym (cond-true (at f.knots.items least == least) (tied_lines d f least K) []
      (sym test ∙ is_so)))

  -- the lines of a knot that something ties
  pub tied_is : (least : ℕ) (members ties : List Holding) (pairs : List LabelPair)
      (a b c e g : List ℕ) → length ties ≢ 0
      → members ≡ held_on (homes f.knots.items (vertices_of d)) least
      → pairs ≡ pairs_at f.weakenings.items least
      → b ≡ a ++ ended (knot_text members ∷ [])
      → c ≡ b ++ ended (map (tie_text (codes "tie") d.labels) ties)
      → e ≡ c ++ ended (flat_map (cut_lines f.cuts.items d.labels) ties)
      → g ≡ e ++ ended (map (weaken_text d.labels) pairs)
      → g ≡ a ++ ended (tied_lines d f least ties)
  tied_is least members [] pairs a b c e g some are weak p q r s = absurd (some refl)
  tied_is least members (t ∷ ts) pairs a b c e g some are weak p q r s =
      let K = knot_text (held_on (homes f.knots.items (vertices_of d)) least) in
      let T = map (tie_text (codes "tie") d.labels) (t ∷ ts) in
      let C = flat_map (cut_lines f.cuts.items d.labels) (t ∷ ts) in
      let W = map (weaken_text d.labels) (pairs_at f.weakenings.items least) in
      lines_then ((K ∷ T) ++ C) W a e g
      (lines_then (K ∷ T) C a c e
      (lines_then (K ∷ []) T a b c (p
      ∙ ap (λ (l : List Holding). a ++ ended (knot_text l ∷ [])) are) q) r)
      (s ∙ ap (λ (l : List LabelPair). e ++ ended (map (weaken_text d.labels) l)) weak)

  -- all lines of a graph
  pub all_then : (n objects handles leaked : ℕ) (a b c e : List ℕ) → n ≡ vertices_of d
      → objects ≡ counted (is_object d.objects) n
      → handles ≡ length d.handles → leaked ≡ counted (is_leaked d f) n → a ≡ []
      → b ≡ a ++ ended (lines_to (object_lines d f) n)
      → c ≡ b ++ ended (lines_to (knot_lines d f) n)
      → e ≡ c ++ ended (totals_text objects handles leaked ∷ [])
      → e ≡ ended (all_lines d f)
  all_then n objects handles leaked a b c e n_is o_is h_is l_is a_is p q r =
      let X = lines_to (object_lines d f) (vertices_of d) in
      let Y = lines_to (knot_lines d f) (vertices_of d) in
      let o = o_is ∙ ap (counted (is_object d.objects)) n_is in
      let l = l_is ∙ ap (counted (is_leaked d f)) n_is in
      let T = totals_text (counted (is_object d.objects) (vertices_of d)) (length d.handles)
      (counted (is_leaked d f) (vertices_of d)) in
      lines_then (X ++ Y) (T ∷ []) a c e
      (lines_then X Y a b c (p ∙ ap (λ (m : ℕ). a ++ ended (lines_to (object_lines d f) m)) n_is)
      (q ∙ ap (λ (m : ℕ). b ++ ended (lines_to (knot_lines d f) m)) n_is))
      (r ∙ ap (λ (m : ℕ). c ++ ended (totals_text m handles leaked ∷ [])) o
      ∙ ap (λ (m : ℕ). c ++ ended (totals_text (counted (is_object d.objects) (vertices_of d)) m
      leaked ∷ [])) h_is
      ∙ ap (λ (m : ℕ). c ++ ended (totals_text (counted (is_object d.objects) (vertices_of d))
      (length d.handles) m ∷ [])) l)
      ∙ ap (λ (t : List ℕ). t ++ ended (all_lines d f)) a_is

  -- all lines of a drawing
  pub graph_then : (n : ℕ) (handles : List Holding) (a b c e g : List ℕ) → n ≡ vertices_of d
      → handles ≡ d.handles → a ≡ []
      → b ≡ a ++ ended head_lines → c ≡ b ++ ended (lines_to (node_lines d f) n)
      → e ≡ c ++ ended (flat_map (edge_lines d f) handles) → g ≡ e ++ codes "}\n"
      → g ≡ ended (graph_lines d f)
  graph_then n handles a b c e g n_is h_is a_is p q r s =
      let N = lines_to (node_lines d f) (vertices_of d) in
      let E = flat_map (edge_lines d f) d.handles in
      lines_then ((head_lines ++ N) ++ E) (codes "}" ∷ []) a e g
      (lines_then (head_lines ++ N) E a c e
      (lines_then head_lines N a b c p
      (q ∙ ap (λ (m : ℕ). b ++ ended (lines_to (node_lines d f) m)) n_is))
      (r ∙ ap (λ (hs : List Holding). c ++ ended (flat_map (edge_lines d f) hs)) h_is)) s
      ∙ ap (λ (t : List ℕ). t ++ ended (graph_lines d f)) a_is
