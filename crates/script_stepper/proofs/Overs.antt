-- All threads at their ends.
use Rattle.std.proofs.Common.{◌≡◌, []}
use Rattle.script_stepper.proofs.Prelude.{abstraction, AllOver, AllRest, frame_of, FrameView}
use Rattle.script_stepper.proofs.Prelude.{IsAtEnd, nowhere, PendingCall, Rest, WorldState}
use Rattle.std.proofs.lemmas.List.Elements.{All-from_get_or}
use Rattle.script_stepper.proofs.TraceLemmas.{none_endings, none_todo}

pub at_end : (u : WorldState) → AllRest u → AllOver u → IsAtEnd u
at_end u rests over =
    record {
      frame_views = All-from_get_or (λ (w : FrameView). w.todo ≡ []) u.frame_views nowhere (λ i lt. none_todo (frame_of (abstraction u) i) (over i));
      endings = All-from_get_or (λ (w : FrameView). w.endings ≡ []) u.frame_views nowhere (λ i lt. none_endings (frame_of (abstraction u) i) (over i));
      pending_calls = All-from_get_or (λ (h : PendingCall). h ≡ Rest) u.pending_calls Rest (λ i lt. rests.pending_calls i);
    }
