use Rattle.script_runner.proofs.Rounds as round
use Rattle.script_runner.proofs.Celled as celled
use Rattle.script_runner.proofs.Comparing as comparing
use Rattle.script_runner.proofs.Differing as differing
use Rattle.script_runner.proofs.Exchanging as exchanging
use Rattle.script_runner.proofs.Fields as field
use Rattle.script_runner.proofs.Going as going
use Rattle.script_runner.proofs.Lockings as locking
use Rattle.script_runner.proofs.Takings as taking
use Rattle.script_runner.proofs.Uncelled as uncelled
use Rattle.script_runner.proofs.TableLaws as table
use Rattle.script_runner.proofs.laws.table_calls.Goals as goal

pub returns-clause-copies : goal.returns-clause-copies
returns-clause-copies g c = taking.copies_taken

pub returns-clause-downgrades : goal.returns-clause-downgrades
returns-clause-downgrades g c = taking.downgrades

pub returns-clause-aliases : goal.returns-clause-aliases
returns-clause-aliases g c = taking.aliases

pub returns-clause-locks : goal.returns-clause-locks
returns-clause-locks g c = locking.locks_taken

pub returns-clause-upgrades : goal.returns-clause-upgrades
returns-clause-upgrades g c = locking.upgrades

pub returns-clause-upgrades_not : goal.returns-clause-upgrades_not
returns-clause-upgrades_not g c = locking.upgrades_not

pub returns-clause-makes : goal.returns-clause-makes
returns-clause-makes g c = locking.makes

pub returns-clause-makes_null : goal.returns-clause-makes_null
returns-clause-makes_null g c = locking.makes_null

pub returns-clause-makes_not : goal.returns-clause-makes_not
returns-clause-makes_not g c = locking.makes_not

pub returns-clause-puts : goal.returns-clause-puts
returns-clause-puts g c = table.puts

pub returns-clause-puts_idle : goal.returns-clause-puts_idle
returns-clause-puts_idle g c = table.puts_idle

pub returns-clause-empties : goal.returns-clause-empties
returns-clause-empties g c = table.empties

pub returns-clause-resets : goal.returns-clause-resets
returns-clause-resets g c = table.resets

pub returns-clause-moves : goal.returns-clause-moves
returns-clause-moves g c = table.moves

pub returns-clause-counts : goal.returns-clause-counts
returns-clause-counts g c = table.counts

pub returns-clause-expires : goal.returns-clause-expires
returns-clause-expires g c = table.expires

pub returns-clause-reads : goal.returns-clause-reads
returns-clause-reads g c = table.reads

pub returns-clause-reads_not : goal.returns-clause-reads_not
returns-clause-reads_not g c = table.reads_not

pub returns-clause-this : goal.returns-clause-this
returns-clause-this g c = table.shares_this

pub returns-clause-weak_this : goal.returns-clause-weak_this
returns-clause-weak_this g c = table.shares_this_weakly

pub returns-clause-this_not : goal.returns-clause-this_not
returns-clause-this_not g c = table.gives_not

pub returns-clause-places : goal.returns-clause-places
returns-clause-places g c = table.places

pub returns-clause-alike : goal.returns-clause-alike
returns-clause-alike g c = table.alike

pub returns-clause-in_order : goal.returns-clause-in_order
returns-clause-in_order g c = table.in_order

pub returns-clause-rounds : goal.returns-clause-rounds
returns-clause-rounds g c = round.rounds

pub returns-clause-loads : goal.returns-clause-loads
returns-clause-loads g c = celled.loads

pub returns-clause-exchanges : goal.returns-clause-exchanges
returns-clause-exchanges g c = exchanging.exchanges

pub returns-clause-offers : goal.returns-clause-offers
returns-clause-offers g c = exchanging.offers

pub returns-clause-acts_on : goal.returns-clause-acts_on
returns-clause-acts_on g c = going.acts_on

pub returns-clause-passes_over : goal.returns-clause-passes_over
returns-clause-passes_over g c = going.passes_over

pub returns-clause-compares : goal.returns-clause-compares
returns-clause-compares g c = comparing.compares_swap

pub returns-clause-differs : goal.returns-clause-differs
returns-clause-differs g c = differing.compares_differ

pub returns-clause-cells_not : goal.returns-clause-cells_not
returns-clause-cells_not g c = uncelled.cells_not

pub returns-clause-remains : goal.returns-clause-remains
returns-clause-remains g c = field.remains_in

pub returns-clause-holds : goal.returns-clause-holds
returns-clause-holds g c = exchanging.holds
