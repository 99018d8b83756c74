use Rattle.std.proofs.Common.{◌+◌, ◌-◌, length, arith}
use Rattle.owner_text.proofs.RoomLemmas.{room_is, room_more, room_none}
use Rattle.owner_text.proofs.draft.make_room.Goals as goal

pub loop-object-init : goal.loop-object-init
loop-object-init c =
    let size = c.args.objects.now.ok.0 in
    let len = c.len-object.ensures in
    record {
      items = room_none c.args.objects.now.items
          (c.len-object.result - length c.args.objects.now.items) (omega (arith, size, len));
      most = omega (arith, size, len);
    }

pub loop-object-preserved : goal.loop-object-preserved
loop-object-preserved c =
    let before = length c.args.objects.now.items in
    let size = c.args.objects.now.ok.0 in
    let len = c.len-object.ensures in
    let from = c.loop-object.auto._object in
    let test = c.loop-object-test.true in
    record {
      items = room_more c.args.objects.now.items c.loop-object.objects.items c.push.new.self.items
          (c.loop-object._object - before)
          (c.loop-object._object + 1 - before) c.loop-object.invariant.items
          c.in_ok-push.ensures.items (omega (arith, size, len, from));
      most = omega (arith, test);
    }

pub returns : goal.returns
returns c =
    let before = length c.args.objects.now.items in
    let test = c.loop-object-test.false in
    let most = c.loop-object.invariant.most in
    room_is c.args.objects.now.items c.loop-object.objects.items (c.loop-object._object - before)
    (c.args.number + 1 - before)
    c.loop-object.invariant.items (omega (arith, test, most))
