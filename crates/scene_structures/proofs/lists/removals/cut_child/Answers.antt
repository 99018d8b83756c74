use Rattle.std.proofs.Common.{ℕ, List, [], sym, ap, subst, arith}
use Rattle.scene_structures.proofs.Prelude.{Cell, CutsOut, FindsNone, Meets, Member, node_in}
use Rattle.scene_structures.proofs.Prelude.{object_of, Seeks}
use Rattle.scene_structures.proofs.Adopting.{these_node}
use Rattle.scene_structures.proofs.Detached.{first_cell}
use Rattle.scene_structures.proofs.Others.{others_both}
use Rattle.scene_structures.proofs.Kept.{same_then, open_listed}
use Rattle.scene_structures.proofs.Sites.{these_both}
use Rattle.scene_structures.proofs.Orders.{order_both}
use Rattle.scene_structures.proofs.lists.removals.cut_child.Goals as goal

pub returns-in-Other-clause-own : goal.returns-in-Other-clause-own
returns-in-Other-clause-own g c =
    let d = c.args.desk.now in let m = c.cut.new.desk in let e = c.cut_below in let child = c.in-Other.child in let x = c.in-Other.ensures in
    let node = c.args.node.now in let parent = c.args.parent.now in let b = c.requires.bag in
    let k = Member (object_of (node_in d parent)) 0 in
    let number = ap object_of (these_node d m b.0 node (x.latest b.0 b.1) b.3) in
    let meets = subst (λ (n : ℕ). Meets d k n child m) (sym number)
    (subst (λ (j : Cell). Meets d j (object_of (node_in d node)) child m) (first_cell d parent c.in-Ok.first c.in-Ok.ensures) x.own) in
    subst (λ (n : ℕ). (passed : List ℕ) × Seeks d k n passed e.result e.new.desk) number (e.ensures.own d k [] meets)

pub returns-in-Other-clause-others : goal.returns-in-Other-clause-others
returns-in-Other-clause-others g c = others_both c.cut.ensures.others c.cut_below.ensures.others

pub returns-in-Other-clause-order : goal.returns-in-Other-clause-order
returns-in-Other-clause-order g c = order_both c.cut.ensures.order c.cut_below.ensures.order

pub cut-requires-clause-bag : goal.cut-requires-clause-bag
cut-requires-clause-bag g c =
    let b = c.requires.bag in (b.0, b.1, open_listed b.0 c.args.parent.now c.in-Ok.first _ c.args.desk.now.shape c.in-Ok.ensures b.2, b.3)

pub cut_below-requires-clause-bag : goal.cut_below-requires-clause-bag
cut_below-requires-clause-bag g c = let b = c.requires.bag in (b.0, c.in-Other.ensures.bag b.0 b.1, b.3)

pub cut_below-requires-clause-room : goal.cut_below-requires-clause-room
cut_below-requires-clause-room g c =
    let room = c.requires.room in let held = c.in-Other.ensures.held in let same = c.in-Other.ensures.desk.allowance in omega arith

pub cut_below-requires-clause-empty : goal.cut_below-requires-clause-empty
cut_below-requires-clause-empty g c = c.in-Other.ensures.none

pub returns-in-Other-clause-carries : goal.returns-in-Other-clause-carries
returns-in-Other-clause-carries g c = c.cut_below.ensures.carries

pub returns-in-Other-clause-none : goal.returns-in-Other-clause-none
returns-in-Other-clause-none g c = c.cut_below.ensures.none

pub returns-in-Other-clause-desk : goal.returns-in-Other-clause-desk
returns-in-Other-clause-desk g c = same_then c.in-Other.ensures.desk c.cut_below.ensures.desk

pub returns-in-Other-clause-held : goal.returns-in-Other-clause-held
returns-in-Other-clause-held g c = let one = c.in-Other.ensures.held in let two = c.cut_below.ensures.held in omega arith

pub returns-in-Other-clause-bag : goal.returns-in-Other-clause-bag
returns-in-Other-clause-bag g c base has = c.cut_below.ensures.bag base (c.in-Other.ensures.bag base has)

pub returns-in-Other-clause-latest : goal.returns-in-Other-clause-latest
returns-in-Other-clause-latest g c base has =
    let x = c.in-Other.ensures in let y = c.cut_below in
    these_both c.args.desk.now c.cut.new.desk y.new.desk base (x.latest base has) (y.ensures.latest base (x.bag base has))

pub returns-in-Cut-clause-latest : goal.returns-in-Cut-clause-latest
returns-in-Cut-clause-latest g c base has = c.in-Cut.ensures.latest base has

pub returns-in-Cut-clause-others : goal.returns-in-Cut-clause-others
returns-in-Cut-clause-others g c = c.in-Cut.ensures.others

pub returns-in-Cut-clause-order : goal.returns-in-Cut-clause-order
returns-in-Cut-clause-order g c = c.in-Cut.ensures.order

pub returns-in-Cut-clause-own : goal.returns-in-Cut-clause-own
returns-in-Cut-clause-own g c =
    let d = c.args.desk.now in let m = c.cut.new.desk in let o = object_of (node_in d c.args.node.now) in
    ([], subst (λ (j : Cell). CutsOut d j o m) (first_cell d c.args.parent.now c.in-Ok.first c.in-Ok.ensures) c.in-Cut.ensures.own)

pub returns-in-End-clause-latest : goal.returns-in-End-clause-latest
returns-in-End-clause-latest g c base has = c.in-End.ensures.latest base has

pub returns-in-End-clause-others : goal.returns-in-End-clause-others
returns-in-End-clause-others g c = c.in-End.ensures.others

pub returns-in-End-clause-order : goal.returns-in-End-clause-order
returns-in-End-clause-order g c = c.in-End.ensures.order

pub returns-in-End-clause-own : goal.returns-in-End-clause-own
returns-in-End-clause-own g c =
    let d = c.args.desk.now in let m = c.cut.new.desk in
    ([], subst (λ (j : Cell). FindsNone d j m) (first_cell d c.args.parent.now c.in-Ok.first c.in-Ok.ensures) c.in-End.ensures.own)
