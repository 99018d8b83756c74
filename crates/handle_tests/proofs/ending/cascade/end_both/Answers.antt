use Rattle.std.proofs.Common.{◌≡◌, ◌≢◌, [], ap, sym, subst, ◌∙◌}
use Rattle.shared_handle.proofs.Beside.{ends_around, ends_beside}
use Rattle.shared_handle.proofs.PiledEndings.{clearing_comes}
use Rattle.shared_handle.proofs.Piles.{some_left}
use Rattle.shared_handle.specs.declared.endings.Left.TheVariants.{Last}
use Rattle.control_word.specs.declared.place.Block.{Block}
use Rattle.handle_tests.proofs.ending.cascade.end_both.Goals as goal

pub clear_next-requires-clause-some : goal.clear_next-requires-clause-some
clear_next-requires-clause-some c =
    some_left c.args.around c.is_clear.result c.requires.ends.few c.is_clear.ensures.1 c.if-is_clear.false

pub end_of-inner-requires-clause-ends : goal.end_of-inner-requires-clause-ends
end_of-inner-requires-clause-ends c =
    let first = c.clear_next in let next = c.clear-next in let x = c.in-Last.within in
    let one : c.args.around.block.0 ≡ first.new.self.block.0 = sym (ap (λ (y : Block). y.0) first.ensures.object.0) in
    ends_beside first.new.desk next.new.desk x first.new.self.block.0 next.ensures.endings (subst (λ k. x.block.0 ≢ k) one c.in-Last.ensures.beside)
    (clearing_comes c.args.desk.now first.new.desk c.args.around [] (Last x) tt c.in-Last.ensures.clears).0

pub end_of-up-requires-clause-ends : goal.end_of-up-requires-clause-ends
end_of-up-requires-clause-ends c =
    let first = c.clear_next in let next = c.clear-next in let x = c.in-Last.within in
    let one : c.args.around.block.0 ≡ next.new.ending.block.0 =
    sym (ap (λ (y : Block). y.0) next.ensures.block ∙ ap (λ (y : Block). y.0) first.ensures.object.0) in
    ends_around next.new.desk c.end_of-inner.new.desk next.new.ending x.block.0 c.end_of-inner.ensures.endings
    (subst (λ k. x.block.0 ≢ k) one c.in-Last.ensures.beside)
    next.ensures.ends
