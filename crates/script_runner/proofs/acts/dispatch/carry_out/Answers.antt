use Rattle.script_runner.proofs.Dealing.{asked, dealt_free}
use Rattle.script_runner.proofs.acts.dispatch.carry_out.Goals as goal

pub returns-in-Make-clause-dealt : goal.returns-in-Make-clause-dealt
returns-in-Make-clause-dealt g c =
    let asks = asked c.args.kinds.now.items c.args.hand c.args.table.now c.args.taken c.args.act c.requires.asks _ c.in-Make.is in
    dealt_free c.args.hand c.args.table.now c.make_any.new.table c.args.taken c.args.act _ c.make_any.result c.in-Make.is asks.0 c.make_any.ensures.acts

pub returns-in-Share-clause-dealt : goal.returns-in-Share-clause-dealt
returns-in-Share-clause-dealt g c =
    let asks = asked c.args.kinds.now.items c.args.hand c.args.table.now c.args.taken c.args.act c.requires.asks _ c.in-Share.is in
    dealt_free c.args.hand c.args.table.now c.share.new.table c.args.taken c.args.act _ c.share.result c.in-Share.is asks.0 c.share.ensures.acts

pub returns-in-Alias-clause-dealt : goal.returns-in-Alias-clause-dealt
returns-in-Alias-clause-dealt g c =
    let asks = asked c.args.kinds.now.items c.args.hand c.args.table.now c.args.taken c.args.act c.requires.asks _ c.in-Alias.is in
    dealt_free c.args.hand c.args.table.now c.alias.new.table c.args.taken c.args.act _ c.alias.result c.in-Alias.is asks.0 c.alias.ensures.acts

pub returns-in-Move-clause-dealt : goal.returns-in-Move-clause-dealt
returns-in-Move-clause-dealt g c =
    let asks = asked c.args.kinds.now.items c.args.hand c.args.table.now c.args.taken c.args.act c.requires.asks _ c.in-Move.is in
    dealt_free c.args.hand c.args.table.now c.move_out.new.table c.args.taken c.args.act _ c.move_out.result c.in-Move.is asks.0 c.move_out.ensures.acts

pub returns-in-Downgrade-clause-dealt : goal.returns-in-Downgrade-clause-dealt
returns-in-Downgrade-clause-dealt g c =
    let asks = asked c.args.kinds.now.items c.args.hand c.args.table.now c.args.taken c.args.act c.requires.asks _ c.in-Downgrade.is in
    dealt_free c.args.hand c.args.table.now c.downgrade.new.table c.args.taken c.args.act _ c.downgrade.result c.in-Downgrade.is asks.0 c.downgrade.ensures.acts

pub returns-in-FromThis-clause-dealt : goal.returns-in-FromThis-clause-dealt
returns-in-FromThis-clause-dealt g c =
    let asks = asked c.args.kinds.now.items c.args.hand c.args.table.now c.args.taken c.args.act c.requires.asks _ c.in-FromThis.is in
    dealt_free c.args.hand c.args.table.now c.from_this.new.table c.args.taken c.args.act _ c.from_this.result c.in-FromThis.is asks.0 c.from_this.ensures.acts

pub returns-in-Offer-clause-dealt : goal.returns-in-Offer-clause-dealt
returns-in-Offer-clause-dealt g c =
    let asks = asked c.args.kinds.now.items c.args.hand c.args.table.now c.args.taken c.args.act c.requires.asks _ c.in-Offer.is in
    dealt_free c.args.hand c.args.table.now c.offer.new.table c.args.taken c.args.act _ c.offer.result c.in-Offer.is asks.0 c.offer.ensures.acts

pub returns-in-Load-clause-dealt : goal.returns-in-Load-clause-dealt
returns-in-Load-clause-dealt g c =
    let asks = asked c.args.kinds.now.items c.args.hand c.args.table.now c.args.taken c.args.act c.requires.asks _ c.in-Load.is in
    dealt_free c.args.hand c.args.table.now c.load.new.table c.args.taken c.args.act _ c.load.result c.in-Load.is asks.0 c.load.ensures.acts
