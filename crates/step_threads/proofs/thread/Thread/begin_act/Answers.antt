use Rattle.step_threads.proofs.thread.Thread.begin_act.Goals as goal

pub begin-requires-clause-begins : goal.begin-requires-clause-begins
begin-requires-clause-begins c = c.requires

pub returns-in-Make-clause-stepped : goal.returns-in-Make-clause-stepped
returns-in-Make-clause-stepped c = c.begin.ensures.stepped

pub returns-in-Make-clause-fits : goal.returns-in-Make-clause-fits
returns-in-Make-clause-fits c = c.begin.ensures.fits

pub share-requires-clause-begins : goal.share-requires-clause-begins
share-requires-clause-begins c = c.requires

pub returns-in-Share-clause-stepped : goal.returns-in-Share-clause-stepped
returns-in-Share-clause-stepped c = c.share.ensures.stepped

pub returns-in-Share-clause-fits : goal.returns-in-Share-clause-fits
returns-in-Share-clause-fits c = c.share.ensures.fits

pub put-requires-clause-begins : goal.put-requires-clause-begins
put-requires-clause-begins c = c.requires

pub returns-in-Put-clause-stepped : goal.returns-in-Put-clause-stepped
returns-in-Put-clause-stepped c = c.put.ensures.stepped

pub returns-in-Put-clause-fits : goal.returns-in-Put-clause-fits
returns-in-Put-clause-fits c = c.put.ensures.fits

pub count-requires-clause-begins : goal.count-requires-clause-begins
count-requires-clause-begins c = c.requires

pub returns-in-Count-clause-stepped : goal.returns-in-Count-clause-stepped
returns-in-Count-clause-stepped c = c.count.ensures.stepped

pub returns-in-Count-clause-fits : goal.returns-in-Count-clause-fits
returns-in-Count-clause-fits c = c.count.ensures.fits

pub downgrade-requires-clause-begins : goal.downgrade-requires-clause-begins
downgrade-requires-clause-begins c = c.requires

pub returns-in-Downgrade-clause-stepped : goal.returns-in-Downgrade-clause-stepped
returns-in-Downgrade-clause-stepped c = c.downgrade.ensures.stepped

pub returns-in-Downgrade-clause-fits : goal.returns-in-Downgrade-clause-fits
returns-in-Downgrade-clause-fits c = c.downgrade.ensures.fits

pub lock-requires-clause-begins : goal.lock-requires-clause-begins
lock-requires-clause-begins c = c.requires

pub returns-in-Lock-clause-stepped : goal.returns-in-Lock-clause-stepped
returns-in-Lock-clause-stepped c = c.lock.ensures.stepped

pub returns-in-Lock-clause-fits : goal.returns-in-Lock-clause-fits
returns-in-Lock-clause-fits c = c.lock.ensures.fits

pub expired-requires-clause-begins : goal.expired-requires-clause-begins
expired-requires-clause-begins c = c.requires

pub returns-in-Expired-clause-stepped : goal.returns-in-Expired-clause-stepped
returns-in-Expired-clause-stepped c = c.expired.ensures.stepped

pub returns-in-Expired-clause-fits : goal.returns-in-Expired-clause-fits
returns-in-Expired-clause-fits c = c.expired.ensures.fits

pub read-requires-clause-begins : goal.read-requires-clause-begins
read-requires-clause-begins c = c.requires

pub returns-in-Read-clause-stepped : goal.returns-in-Read-clause-stepped
returns-in-Read-clause-stepped c = c.read.ensures.stepped

pub returns-in-Read-clause-fits : goal.returns-in-Read-clause-fits
returns-in-Read-clause-fits c = c.read.ensures.fits

pub from_this-requires-clause-begins : goal.from_this-requires-clause-begins
from_this-requires-clause-begins c = c.requires

pub returns-in-FromThis-clause-stepped : goal.returns-in-FromThis-clause-stepped
returns-in-FromThis-clause-stepped c = c.from_this.ensures.stepped

pub returns-in-FromThis-clause-fits : goal.returns-in-FromThis-clause-fits
returns-in-FromThis-clause-fits c = c.from_this.ensures.fits

pub alias-requires-clause-begins : goal.alias-requires-clause-begins
alias-requires-clause-begins c = c.requires

pub returns-in-Alias-clause-stepped : goal.returns-in-Alias-clause-stepped
returns-in-Alias-clause-stepped c = c.alias.ensures.stepped

pub returns-in-Alias-clause-fits : goal.returns-in-Alias-clause-fits
returns-in-Alias-clause-fits c = c.alias.ensures.fits

pub pull-requires-clause-begins : goal.pull-requires-clause-begins
pull-requires-clause-begins c = c.requires

pub returns-in-Move-clause-stepped : goal.returns-in-Move-clause-stepped
returns-in-Move-clause-stepped c = c.pull.ensures.stepped

pub returns-in-Move-clause-fits : goal.returns-in-Move-clause-fits
returns-in-Move-clause-fits c = c.pull.ensures.fits

pub reply-requires-clause-begins : goal.reply-requires-clause-begins
reply-requires-clause-begins c = c.requires

pub returns-in-Ask-clause-stepped : goal.returns-in-Ask-clause-stepped
returns-in-Ask-clause-stepped c = c.reply.ensures.stepped

pub returns-in-Ask-clause-fits : goal.returns-in-Ask-clause-fits
returns-in-Ask-clause-fits c = c.reply.ensures.fits

pub offer-requires-clause-begins : goal.offer-requires-clause-begins
offer-requires-clause-begins c = c.requires

pub returns-in-Offer-clause-stepped : goal.returns-in-Offer-clause-stepped
returns-in-Offer-clause-stepped c = c.offer.ensures.stepped

pub returns-in-Offer-clause-fits : goal.returns-in-Offer-clause-fits
returns-in-Offer-clause-fits c = c.offer.ensures.fits

pub store-requires-clause-begins : goal.store-requires-clause-begins
store-requires-clause-begins c = c.requires

pub returns-in-Swap-clause-stepped : goal.returns-in-Swap-clause-stepped
returns-in-Swap-clause-stepped c = c.store.ensures.stepped

pub returns-in-Swap-clause-fits : goal.returns-in-Swap-clause-fits
returns-in-Swap-clause-fits c = c.store.ensures.fits

pub send-requires-clause-begins : goal.send-requires-clause-begins
send-requires-clause-begins c = c.requires

pub returns-in-Exchange-clause-stepped : goal.returns-in-Exchange-clause-stepped
returns-in-Exchange-clause-stepped c = c.send.ensures.stepped

pub returns-in-Exchange-clause-fits : goal.returns-in-Exchange-clause-fits
returns-in-Exchange-clause-fits c = c.send.ensures.fits

pub holds-requires-clause-begins : goal.holds-requires-clause-begins
holds-requires-clause-begins c = c.requires

pub returns-in-Holds-clause-stepped : goal.returns-in-Holds-clause-stepped
returns-in-Holds-clause-stepped c = c.holds.ensures.stepped

pub returns-in-Holds-clause-fits : goal.returns-in-Holds-clause-fits
returns-in-Holds-clause-fits c = c.holds.ensures.fits

pub load-requires-clause-begins : goal.load-requires-clause-begins
load-requires-clause-begins c = c.requires

pub returns-in-Load-clause-stepped : goal.returns-in-Load-clause-stepped
returns-in-Load-clause-stepped c = c.load.ensures.stepped

pub returns-in-Load-clause-fits : goal.returns-in-Load-clause-fits
returns-in-Load-clause-fits c = c.load.ensures.fits

pub compare-requires-clause-begins : goal.compare-requires-clause-begins
compare-requires-clause-begins c = c.requires

pub returns-in-Compare-clause-stepped : goal.returns-in-Compare-clause-stepped
returns-in-Compare-clause-stepped c = c.compare.ensures.stepped

pub returns-in-Compare-clause-fits : goal.returns-in-Compare-clause-fits
returns-in-Compare-clause-fits c = c.compare.ensures.fits

pub drop_other-requires-clause-begins : goal.drop_other-requires-clause-begins
drop_other-requires-clause-begins c = c.requires

pub returns-in-Drop-clause-stepped : goal.returns-in-Drop-clause-stepped
returns-in-Drop-clause-stepped c = c.drop_other.ensures.stepped

pub returns-in-Drop-clause-fits : goal.returns-in-Drop-clause-fits
returns-in-Drop-clause-fits c = c.drop_other.ensures.fits

pub returns-in-Leave-clause-fits : goal.returns-in-Leave-clause-fits
returns-in-Leave-clause-fits c = c.leave.ensures.fits

pub on_shelf-requires-clause-begins : goal.on_shelf-requires-clause-begins
on_shelf-requires-clause-begins c = c.requires

pub returns-in-OnShelf-clause-stepped : goal.returns-in-OnShelf-clause-stepped
returns-in-OnShelf-clause-stepped c = c.on_shelf.ensures.stepped

pub returns-in-OnShelf-clause-fits : goal.returns-in-OnShelf-clause-fits
returns-in-OnShelf-clause-fits c = c.on_shelf.ensures.fits
