use Rattle.std.proofs.Common.{◌∙◌, ap, arith, length, map}
use Rattle.owner_graph.proofs.Prelude.{labels_of, pairs, twice}
use Rattle.owner_graph.proofs.WeakeningLemmas.{emptied, filled, none_suffices, one_suffices}
use Rattle.owner_graph.proofs.WeakeningLemmas.{two_suffice}
use Rattle.owner_graph.proofs.label_pairs.weakenings_of.Goals as goal

pub returns-then-not-is_empty : goal.returns-then-not-is_empty
returns-then-not-is_empty c =
    let size = c.in_ok-found.found.ok.0 in
    let some = filled c.in_ok-found.found.len c.is_empty.result c.is_empty.ensures
    c.if-not-is_empty.true in
    one_suffices c.args.vertices c.args.handles.now c.args.knots.now c.args.least
    (labels_of c.args.ties.now) c.as_slice-2.result.now
    c.in_ok-found.found.items
    (c.as_slice-2.ensures.value ∙ c.in_ok-ones.ensures
    ∙ ap (map twice) (c.as_slice.ensures.value ∙ c.in_ok-labels.ensures))
    (omega (arith, size, some)) c.in_ok-found.ensures

pub returns-then-len-gt-MOST_LABELS : goal.returns-then-len-gt-MOST_LABELS
returns-then-len-gt-MOST_LABELS c =
    let size = c.in_ok-found.found.ok.0 in
    let none = emptied c.in_ok-found.found.len c.is_empty.result c.is_empty.ensures
    c.if-not-is_empty.false in
    let many = c.if-len-gt-MOST_LABELS.true in
    let len = c.len.ensures in
    let labels = ap length c.in_ok-labels.ensures in
    none_suffices c.args.vertices c.args.handles.now c.args.knots.now c.args.least
    (labels_of c.args.ties.now) c.as_slice-2.result.now
    c.in_ok-found.found.items
    (c.as_slice-2.ensures.value ∙ c.in_ok-ones.ensures
    ∙ ap (map twice) (c.as_slice.ensures.value ∙ c.in_ok-labels.ensures))
    (omega (arith, size, none)) c.in_ok-found.ensures
    (omega (arith, many, len, labels))

pub returns : goal.returns
returns c =
    let size = c.in_ok-found.found.ok.0 in
    let none = emptied c.in_ok-found.found.len c.is_empty.result c.is_empty.ensures
    c.if-not-is_empty.false in
    let few = c.if-len-gt-MOST_LABELS.false in
    let len = c.len.ensures in
    let labels = ap length c.in_ok-labels.ensures in
    two_suffice c.args.vertices c.args.handles.now c.args.knots.now c.args.least
    (labels_of c.args.ties.now) c.as_slice-2.result.now
    c.in_ok-found.found.items c.as_slice-4.result.now c.in_ok-found-2.found.items
    (c.as_slice-2.ensures.value ∙ c.in_ok-ones.ensures
    ∙ ap (map twice) (c.as_slice.ensures.value ∙ c.in_ok-labels.ensures))
    (omega (arith, size, none)) c.in_ok-found.ensures
    (omega (arith, few, len, labels))
    (c.as_slice-4.ensures.value ∙ c.in_ok-twos.ensures
    ∙ ap pairs (c.as_slice-3.ensures.value ∙ c.in_ok-labels.ensures)) c.in_ok-found-2.ensures
