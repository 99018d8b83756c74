use Rattle.std.proofs.Common.{◌≡◌, ◌+◌, [], ◌++◌, sym, refl, ap, ◌∙◌, subst, append-nil}
use Rattle.scene_structures.proofs.Prelude.{Drops, Gone, HasRoomForEnds, IsSole, TearsDown}
use Rattle.shared_handle.specs.declared.pile.Gone.TheVariants.{Empty, Others}
use Rattle.scene_structures.specs.declared.tree.ended.Ended.{Ended}
use Rattle.scene_structures.proofs.RunsDown.{out_rest, out_root, tears_down}
use Rattle.scene_structures.proofs.Settles.{none_left}
use Rattle.scene_structures.proofs.Whole.{torn_down}
use Rattle.scene_structures.proofs.tree.teardown.tear_down.Given.{Over}
use Rattle.scene_structures.proofs.Others.{others_both, others_left}
use Rattle.scene_structures.proofs.tree.teardown.tear_down.Goals as goal
use Rattle.scene_structures.proofs.tree.teardown.tear_down.Goals.{in-Last, in-Empty, in-Others}

pub run_down-requires-clause-room : goal.run_down-requires-clause-room
run_down-requires-clause-room g c =
    let n = c.args.domain.now.shape.blocks + 1 in
    let first : HasRoomForEnds n c.in-Ok.ended = subst (λ k. HasRoomForEnds (k + 1) c.in-Ok.ended) c.blocks-2.ensures c.in-Ok.ensures.room in
    elim c.match-drop_shared.branch [
      | in-Last w ↦ subst (HasRoomForEnds n) (sym w.ended-is) (w.begin.ensures.room n first)
      | in-Empty w ↦ subst (HasRoomForEnds n) (sym w.ended-is) first
      | in-Others w ↦ subst (HasRoomForEnds n) (sym w.ended-is) first
    ]

pub returns-clause-ends : goal.returns-clause-ends
returns-clause-ends g c =
    let V = g.row.V.Denot in
    let d = c.args.desk.now in let m = c.drop_shared.new.desk in let e = c.run_down.new.desk in let root = c.args.root in
    let xs = c.args.pile.now.endings.items in let ps = c.drop_shared.new.pile.endings.items in let ys = c.run_down.new.pile.endings.items in
    let ss = c.match-drop_shared.ended.slots.items in let ts = c.run_down.new.ended.slots.items in let values = c.into_values.result.items in
    let shape = c.args.domain.now.shape in let none = c.in-Ok.ensures.none.0 in let left = c.drop_shared.ensures.left in
    let runs = c.run_down.ensures.rounds in
    elim c.match-drop_shared.branch [
      | in-Last w ↦ (
          let drops = subst (λ (k : Gone). Drops d xs root.block root.place k m ps) w.in-Last.is left in
          let more = ap (λ (x : Ended V). x.slots.items) w.ended-is ∙ w.begin.ensures.slots in
          let z = out_root d m xs ps root.block root.place c.in-Ok.ended.slots.items ss drops none more in
          tears_down shape d m e xs ps ys root _ ss ts values drops z.0 z.1 z.2 runs c.into_values.ensures
          )
      | in-Empty w ↦ (
          let drops = subst (λ (k : Gone). Drops d xs root.block root.place k m ps) w.in-Empty.is left in
          let z = out_rest d m xs ps root.block root.place Empty ss (λ same. cc same) drops (ap (λ (x : Ended V). x.slots.items) w.ended-is ∙ none) in
          tears_down shape d m e xs ps ys root _ ss ts values drops z.0 z.1 z.2 runs c.into_values.ensures
          )
      | in-Others w ↦ (
          let drops = subst (λ (k : Gone). Drops d xs root.block root.place k m ps) w.in-Others.is left in
          let z = out_rest d m xs ps root.block root.place Others ss (λ same. cc same) drops (ap (λ (x : Ended V). x.slots.items) w.ended-is ∙ none) in
          tears_down shape d m e xs ps ys root _ ss ts values drops z.0 z.1 z.2 runs c.into_values.ensures
          )
    ]

whole : (g : Over) (c : goal.After-into_values g)
    → TearsDown c.args.domain.now.shape c.args.desk.now c.args.pile.now.endings.items c.args.root c.into_values.result.items c.run_down.new.desk
    c.run_down.new.pile.endings.items
whole g c = returns-clause-ends g c

none : (g : Over) (c : goal.After-into_values g) → IsSole c.args.desk.now → (whole g c).rest ≡ []
none g c sole =
    none_left c.args.domain.now c.args.desk.now c.run_down.new.desk c.args.pile.now.endings.items c.run_down.new.pile.endings.items c.run_down.new.pile
    c.args.root c.into_values.result.items (whole g c) c.assert_invariant.ensures.legal sole c.requires.carries.ends
    c.run_down.ensures.carries refl

pub returns-clause-settled : goal.returns-clause-settled
returns-clause-settled g c sole =
    (whole g c).left ∙ (ap (λ l. c.args.pile.now.endings.items ++ l) (none g c sole) ∙ append-nil c.args.pile.now.endings.items)

pub returns-clause-whole : goal.returns-clause-whole
returns-clause-whole g c sole =
    torn_down c.args.domain.now.shape c.args.desk.now c.run_down.new.desk c.args.pile.now.endings.items c.run_down.new.pile.endings.items c.args.root
    c.into_values.result.items (whole g c) c.assert_invariant.ensures.legal sole (none g c sole)

pub returns-clause-others : goal.returns-clause-others
returns-clause-others g c =
    let d = c.args.desk.now in let t = c.drop_shared in let e = t.ensures in
    others_both (others_left d t.new.desk _ _ c.requires.carries.ends e.elsewhere e.keeps.endings) c.run_down.ensures.others
