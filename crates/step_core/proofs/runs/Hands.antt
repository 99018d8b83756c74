-- Where each thread is at its end, no desk has a handle.
use Rattle.std.proofs.Common.{◌≡◌, ℕ, zero, suc, ◌<◌, ◌≤◌, Bool, false, ◌≢◌, List, [], ◌∷◌, map}
use Rattle.std.proofs.Common.{length, get_or, nat_lt, ◌==◌, slice_get, Some, None, sym, refl, ap}
use Rattle.std.proofs.Common.{◌∙◌, subst, inl, ⊎_elim, arith, eq-eqb}
use Rattle.step_core.proofs.Prelude
use Prelude.{AllFit, cases_eq, cases_lt, cond-false, Empty, Ending, filter, FrameView, Full, full}
use Prelude.{GhostState, hand, IsAtEnd, IsReady, length-map, model_state, nowhere, num, opening}
use Prelude.{other, plain, pointer_of, Slot, slot_pointer, slot_value, Slots, TableInvariant, Task}
use Prelude.{TasksMayCome, Thread, thread_frame, TotalsAreTold, world_state, WorldState}
use Rattle.control_word.proofs.history.Allowances.{allowed}
use Rattle.control_word.proofs.lists.Tallies.{num_has}
use Rattle.control_word.specs.State.{Held, bag_size}
use Rattle.step_table.specs.Registers.{slot_has_object}
use Rattle.step_table.specs.Openings.{share_of}
use Rattle.step_threads.specs.Frames.{DropsInTime}
use Rattle.step_threads.proofs.Frames.{free_plain}
use Rattle.step_core.proofs.runs.Measures.{empty_names}

not_full : (x : Slot) → pointer_of x ≡ None → slot_has_object x ≡ false
not_full (Empty p) e = refl
not_full (Full x) e = cc

none_full : (slots : Slots) → ((i : ℕ) → i < length slots → slot_pointer slots i ≡ None) → full slots ≡ 0
none_full [] f = refl
none_full (x ∷ xs) f =
    let e = not_full x (f 0 (omega arith)) in
    ap (length {A = Slot}) (cond-false (slot_has_object x) (x ∷ filter slot_has_object xs) (filter slot_has_object xs) e)
    ∙ none_full xs (λ i lt. f (suc i) (omega (arith, lt)))

-- with no task left nothing was taken, and nothing is to be dropped
empty_slots : (slots : Slots) (taken : Bool) (es : List Ending) (ts : List Task) → IsReady slots taken es ts → ts ≡ [] → es ≡ []
    → ((i : ℕ) → i < other slots → slot_pointer slots i ≡ None) → (i : ℕ) → i < length slots → slot_pointer slots i ≡ None
empty_slots slots taken es ts ready none over names i lt =
    let not : taken ≡ false = subst (λ (l : List Task). TasksMayCome (other slots) taken l) none ready.ready in
    let mine : slot_value slots (hand slots) ≡ plain = free_plain slots taken es ready.free over not in
    let owed : slot_value slots (other slots) ≡ plain =
    ⊎_elim (λ (p : slot_value slots (other slots) ≡ plain). p) (λ (d : DropsInTime ts). absurd (subst DropsInTime none d)) ready.owes in
    let some = ready.some in
    ⊎_elim (λ (e : i ≡ hand slots). ap (slot_pointer slots) e ∙ ap pointer_of mine)
    (λ (ne : i ≢ hand slots).
    ⊎_elim (λ (e : i ≡ other slots). ap (slot_pointer slots) e ∙ ap pointer_of owed)
    (λ (no : i ≢ other slots). names i (omega (arith, lt, some, ne, no))) (cases_eq i (other slots)))
    (cases_eq i (hand slots))

at_thread : (threads : List Thread) (d : ℕ) → d < length threads
    → (t : Thread) × (slice_get threads d ≡ Some t) × (get_or (map thread_frame threads) d nowhere ≡ thread_frame t)
at_thread [] d lt = absurd (omega (arith, lt))
at_thread (t ∷ ts) zero lt = (t, refl, refl)
at_thread (t ∷ ts) (suc d) lt = at_thread ts d (omega (arith, lt))

-- a thread at its end has nothing
empty_bag : (v : GhostState) (threads : List Thread) (m e d : ℕ) → AllFit v threads → TotalsAreTold (world_state v threads) m e → IsAtEnd
    (world_state v threads)
    → d < length threads → bag_size (model_state v) d ≡ 0
empty_bag v threads m e d fit told end lt =
    let r = at_thread threads d lt in
    let t = r.0 in
    let f = fit.each d t r.1 in
    let l = length-map threads thread_frame in
    let ws = map thread_frame threads in
    let within : d < length ws = omega (arith, lt, l) in
    let todo : (thread_frame t).todo ≡ [] = sym (ap (λ (w : FrameView). w.todo) r.2) ∙ end.frame_views d nowhere within in
    let over : (thread_frame t).endings ≡ [] = sym (ap (λ (w : FrameView). w.endings) r.2) ∙ end.endings d nowhere within in
    let names = subst (λ (w : FrameView). (i : ℕ) → i < other w.slots → slot_pointer w.slots i ≡ None) r.2
    (empty_names (get_or ws d nowhere) (told.tidy d) (end.frame_views d nowhere within)) in
    f.holds.size
    ∙ none_full (thread_frame t).slots (empty_slots (thread_frame t).slots (thread_frame t).taken (thread_frame t).endings (thread_frame t).todo
    f.ready todo over names)

-- a desk that isn't a thread's has no allowance
no_bag : (v : GhostState) (d : ℕ) → TableInvariant v → v.extent.actors ≤ d → bag_size (model_state v) d ≡ 0
no_bag v d kept le =
    let r = (allowed (opening v.extent) v.history kept.stands.legal).rooms d in
    let a = ap (λ (f : ℕ → ℕ). f d) kept.allowed in
    let z : share_of v.extent d ≡ 0 = cond-false (nat_lt d v.extent.actors) _ 0 (grind arith) in
    omega (arith, r, a, z)

no_hands : (l : List Held) → ((d : ℕ) → num (λ (x : Held). x.desk == d) l ≡ 0) → l ≡ []
no_hands [] f = refl
no_hands (x ∷ xs) f =
    let some = num_has (λ (y : Held). y.desk == x.desk) x (x ∷ xs) (inl refl) (eq-eqb x.desk x.desk refl) in
    let none = f x.desk in absurd (omega (arith, some, none))

all_empty : (v : GhostState) (threads : List Thread) (m e : ℕ) → AllFit v threads → TotalsAreTold (world_state v threads) m e → TableInvariant v
    → IsAtEnd (world_state v threads)
    → (model_state v).hands ≡ []
all_empty v threads m e fit told kept end =
    let l = length-map threads thread_frame in
    let n = told.threads in
    no_hands (model_state v).hands
    (λ d. ⊎_elim (λ (lt : d < length threads). empty_bag v threads m e d fit told end lt)
    (λ (ge : length threads ≤ d). no_bag v d kept (omega (arith, l, n, ge))) (cases_lt d (length threads)))

pub hands_now : (u : WorldState) (v : GhostState) (threads : List Thread) (m e : ℕ) → world_state v threads ≡ u → AllFit v threads
    → TotalsAreTold (world_state v threads) m e → TableInvariant v → IsAtEnd u → (model_state u.ghost_state).hands ≡ []
hands_now u v threads m e is fit told kept =
    subst (λ (x : WorldState). IsAtEnd x → (model_state x.ghost_state).hands ≡ []) is (all_empty v threads m e fit told kept)
