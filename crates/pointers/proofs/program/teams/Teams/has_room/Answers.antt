use Rattle.std.proofs.Common.{rules}
use Rattle.pointers.proofs.Leading.{few_pointers, few_workers, room_given, room_shown}
use Rattle.pointers.proofs.program.teams.Teams.has_room.Goals as goal

pub returns-clause-yes : goal.returns-clause-yes
returns-clause-yes g c = search (rules, room_shown)

pub returns-clause-no : goal.returns-clause-no
returns-clause-no g c = search (rules, room_given)

pub returns-clause-few : goal.returns-clause-few
returns-clause-few g c = search (rules, few_pointers, room_shown)

pub returns-clause-workers : goal.returns-clause-workers
returns-clause-workers g c = search (rules, few_workers, room_shown)
