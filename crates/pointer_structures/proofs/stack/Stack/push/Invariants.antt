use Rattle.std.specs.Prelude.{◌≡◌, Some}
use Rattle.pointer_structures.proofs.stack.Stack.push.Given as goal

abbrev pub invariant-loop : goal.invariant-loop
invariant-loop g l = l.new ≡ Some l.fn.node
