use Rattle.std.proofs.Common.{refl}
use Rattle.owner_text.proofs.Prelude.{draft_of, with_label}
use Rattle.owner_text.proofs.DraftLemmas.{object_added}
use Rattle.owner_text.proofs.draft.add_object.Goals as goal

pub returns : goal.returns
returns c =
    object_added (draft_of c.args.draft.now) c.args.number c.in_ok-label.label c.number.new.self
    (with_label c.args.label.now (draft_of c.args.draft.now).labels) c.make_room.new.objects.items _
    c.in_ok-label.ensures c.in_ok-make_room.ensures refl
