use Rattle.control_block.proofs.retries.loads.load_with_retries.Goals as goal

pub try_load-requires-clause-seen : goal.try_load-requires-clause-seen
try_load-requires-clause-seen g c = c.loop.invariant.4
