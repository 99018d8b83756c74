use denote.Param.Always.{always_mut}
use Rattle.control_word.specs.declared.model.handle.Kind.TheVariants.{Owner}
use Rattle.pointers.specs.Places.{cell_at}
use Rattle.pointers.specs.Sites.{owner_of}
use Rattle.pointers.specs.Compares.{Shows}
use Rattle.pointers.proofs.cells.member.Member.update.Given as goal

abbrev pub invariant-loop : goal.invariant-loop
invariant-loop g l =
    (always_mut g.F.FnMut l.initial.f → always_mut g.F.FnMut l.f)
    × Shows g.D.Domain.opened (owner_of l.fn.self) (cell_at g.D.Domain.opened Owner l.fn.self) l.now
