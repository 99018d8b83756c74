-- What endings do that go on by themselves.
use Rattle.std.proofs.Common.{◌≡◌, ℕ, zero, suc, ◌-◌, ◌<◌, ◌≤◌, true, false, ◌⊎◌, List, [], ◌∷◌}
use Rattle.std.proofs.Common.{length, slice_set, Some, None, Option, sym, refl, ap, ◌∙◌, subst}
use Rattle.std.proofs.Common.{inl, inr, arith, length-set, get_or-set_same}
use Rattle.script_stepper.proofs.Prelude
use Prelude.{ahead_of, AnEnd, cond_both, ended_in, Ending, FrameView, hand, has_object, History}
use Prelude.{history_clears, is_full, leads, Leave, made_in, next_of, NumberedHandle, Opening}
use Prelude.{parts_left, plain, rest_of, rested_frame, same_Some, Slot, slot_of, slot_pointer}
use Prelude.{Slots, State, stops, Task, unwinds_on, unwound, Wound}
use Rattle.std.proofs.lemmas.Bool.{cond-true}
use Rattle.step_table.specs.Registers.{pointer_of}
use Rattle.step_table.specs.Contents.{slot_as}
use Rattle.step_threads.specs.TraceLabels.{AnAct}
use Rattle.script_stepper.proofs.Acting.{IsFree}

-- ---- an ending that goes on by itself

-- what came out of a member has an object, and there are fewer members behind it
abbrev pub IsOut : ℕ → Option (ℕ × Slot) → Type 0
IsOut n None = Unit {0}
IsOut n (Some p) = (p.0 < n) × (is_full (pointer_of p.1) ≡ true)

full_as : (s : State) (h : NumberedHandle) (o : Option ℕ) → elim (o) [ None ↦ false | Some n ↦ true ] ≡ true → is_full (pointer_of (slot_as s h o)) ≡ true
full_as s h None e = absurd cc
full_as s h (Some o) e = refl

full_of : (s : State) (h : NumberedHandle) → has_object h ≡ true → is_full (pointer_of (slot_of s h)) ≡ true
full_of s h e = full_as s h h.object e

out_more : (n : ℕ) (o : Option (ℕ × Slot)) → IsOut n o → IsOut (suc n) o
out_more n None h = tt
out_more n (Some p) h = let l = h.0 in (omega (arith, l), h.1)

stops_out : (z : Opening) (d o n : ℕ) (h : History) → IsOut n (stops z d o n h).out
stops_out z d o zero h = tt
stops_out z d o (suc k) h =
    let s = leads z h in
    let x = (s.object o).member (2 - k) in
    cond_both (has_object x) (record { history = history_clears z d o (2 - k) h; out = Some (k, slot_of s x) })
    (stops z d o k (history_clears z d o (2 - k) h)) (λ c. IsOut (suc k) c.out) (λ e. (omega arith, full_of s x e))
    (λ _. out_more k (stops z d o k (history_clears z d o (2 - k) h)).out (stops_out z d o k (history_clears z d o (2 - k) h)))

-- the end of an object makes none, and leaves none to its end
abbrev pub SameTotals : History → History → Type 0
SameTotals h h' = (made_in h' ≡ made_in h) × (ended_in h' ≡ ended_in h)

same_then : (a b c : History) → SameTotals a b → SameTotals b c → SameTotals a c
same_then a b c p q = (q.0 ∙ p.0, q.1 ∙ p.1)

stops_totals : (z : Opening) (d o n : ℕ) (h : History) → SameTotals h (stops z d o n h).history
stops_totals z d o zero h = (refl, refl)
stops_totals z d o (suc k) h =
    let s = leads z h in
    let x = (s.object o).member (2 - k) in
    cond_both (has_object x) (record { history = history_clears z d o (2 - k) h; out = Some (k, slot_of s x) })
    (stops z d o k (history_clears z d o (2 - k) h)) (λ c. SameTotals h c.history) (λ e. (refl, refl))
    (λ _. same_then h (history_clears z d o (2 - k) h) (stops z d o k (history_clears z d o (2 - k) h)).history (refl, refl)
    (stops_totals z d o k (history_clears z d o (2 - k) h)))

-- ---- endings that go on

goes_totals : (e : Ending) (es : List Ending) (h m : History) (slots : Slots) (others : Wound) (o : Option (ℕ × Slot)) → SameTotals h m
    → SameTotals m others.history → SameTotals h (unwinds_on e es m slots others o).history
goes_totals e es h m slots others None p q = same_then h m others.history p q
goes_totals e es h m slots others (Some x) p q = p

pub unwound_totals : (z : Opening) (d : ℕ) (slots : Slots) (es : List Ending) (h : History) → SameTotals h (unwound z d slots es h).history
unwound_totals z d slots [] h = (refl, refl)
unwound_totals z d slots (e ∷ es) h =
    let o = (leads z h).latest e.block.0 in
    let c = stops z d o (3 - e.stage) h in
    goes_totals e es h c.history slots (unwound z d slots es c.history) c.out (stops_totals z d o (3 - e.stage) h)
    (unwound_totals z d slots es c.history)

goes_size : (e : Ending) (es : List Ending) (m : History) (slots : Slots) (others : Wound) (o : Option (ℕ × Slot))
    → length others.slots ≡ length slots → length (unwinds_on e es m slots others o).slots ≡ length slots
goes_size e es m slots others None p = p
goes_size e es m slots others (Some x) p = length-set slots (hand slots) x.1

pub unwound_size : (z : Opening) (d : ℕ) (slots : Slots) (es : List Ending) (h : History) → length (unwound z d slots es h).slots ≡ length slots
unwound_size z d slots [] h = refl
unwound_size z d slots (e ∷ es) h =
    let c = stops z d ((leads z h).latest e.block.0) (3 - e.stage) h in
    goes_size e es c.history slots (unwound z d slots es c.history) c.out (unwound_size z d slots es c.history)

goes_less : (e : Ending) (es : List Ending) (m : History) (slots : Slots) (others : Wound) (o : Option (ℕ × Slot)) → IsOut (3 - e.stage) o
    → parts_left others.endings ≤ parts_left es → parts_left (unwinds_on e es m slots others o).endings < parts_left (e ∷ es)
goes_less e es m slots others None h p = omega (arith, p)
goes_less e es m slots others (Some x) h p = let l = h.0 in omega (arith, l)

unwound_parts : (z : Opening) (d : ℕ) (slots : Slots) (es : List Ending) (h : History) → parts_left (unwound z d slots es h).endings ≤ parts_left es
unwound_parts z d slots [] h = omega arith
unwound_parts z d slots (e ∷ es) h =
    let o = (leads z h).latest e.block.0 in
    let c = stops z d o (3 - e.stage) h in
    let l = goes_less e es c.history slots (unwound z d slots es c.history) c.out (stops_out z d o (3 - e.stage) h)
    (unwound_parts z d slots es c.history) in
    omega (arith, l)

unwound_less : (z : Opening) (d : ℕ) (slots : Slots) (es : List Ending) (h : History) → 0 < parts_left es
    → parts_left (unwound z d slots es h).endings < parts_left es
unwound_less z d slots [] h some = absurd (omega (arith, some))
unwound_less z d slots (e ∷ es) h some =
    let o = (leads z h).latest e.block.0 in
    let c = stops z d o (3 - e.stage) h in
    goes_less e es c.history slots (unwound z d slots es c.history) c.out (stops_out z d o (3 - e.stage) h)
    (unwound_parts z d slots es c.history)

-- no ending is left, or what came out of a member is in hand
abbrev pub IsWaiting : Slots → List Ending → Type 0
IsWaiting slots es = (es ≡ []) ⊎ (is_full (slot_pointer slots (hand slots)) ≡ true)

hand_full : (slots : Slots) (x : Slot) → 0 < length slots → is_full (pointer_of x) ≡ true
    → is_full (slot_pointer (slice_set slots (hand slots) x) (hand (slice_set slots (hand slots) x))) ≡ true
hand_full slots x some full =
    let n = length-set slots (hand slots) x in
    let same : hand slots ≡ hand (slice_set slots (hand slots) x) = omega (arith, n) in
    subst (λ (j : ℕ). is_full (slot_pointer (slice_set slots (hand slots) x) j) ≡ true) same
    (ap (λ (y : Slot). is_full (pointer_of y)) (get_or-set_same slots (hand slots) x plain (omega (arith, some))) ∙ full)

goes_waits : (e : Ending) (es : List Ending) (m : History) (slots : Slots) (others : Wound) (o : Option (ℕ × Slot)) (n : ℕ) → 0 < length slots
    → IsOut n o → IsWaiting others.slots others.endings
    → IsWaiting (unwinds_on e es m slots others o).slots (unwinds_on e es m slots others o).endings
goes_waits e es m slots others None n some h p = p
goes_waits e es m slots others (Some x) n some h p = inr (hand_full slots x.1 some h.1)

unwound_waits : (z : Opening) (d : ℕ) (slots : Slots) (es : List Ending) (h : History) → 0 < length slots
    → IsWaiting (unwound z d slots es h).slots (unwound z d slots es h).endings
unwound_waits z d slots [] h some = inl refl
unwound_waits z d slots (e ∷ es) h some =
    let o = (leads z h).latest e.block.0 in
    let c = stops z d o (3 - e.stage) h in
    goes_waits e es c.history slots (unwound z d slots es c.history) c.out (3 - e.stage) some (stops_out z d o (3 - e.stage) h)
    (unwound_waits z d slots es c.history some)

-- ---- the endings of a thread

abbrev pub still : History → FrameView → Wound
still h w = record { history = h; slots = w.slots; endings = w.endings }

pub rested_totals : (z : Opening) (d : ℕ) (h : History) (w : FrameView) → SameTotals h (rested_frame z d h w).history
rested_totals z d h w =
    cond_both (is_full (slot_pointer w.slots (hand w.slots))) (still h w) (unwound z d w.slots w.endings h) (λ c. SameTotals h c.history)
    (λ _. (refl, refl)) (λ _. unwound_totals z d w.slots w.endings h)

pub rested_size : (z : Opening) (d : ℕ) (h : History) (w : FrameView) → length (rested_frame z d h w).slots ≡ length w.slots
rested_size z d h w =
    cond_both (is_full (slot_pointer w.slots (hand w.slots))) (still h w) (unwound z d w.slots w.endings h) (λ c. length c.slots ≡ length w.slots)
    (λ _. refl) (λ _. unwound_size z d w.slots w.endings h)

pub rested_parts : (z : Opening) (d : ℕ) (h : History) (w : FrameView) → parts_left (rested_frame z d h w).endings ≤ parts_left w.endings
rested_parts z d h w =
    cond_both (is_full (slot_pointer w.slots (hand w.slots))) (still h w) (unwound z d w.slots w.endings h)
    (λ c. parts_left c.endings ≤ parts_left w.endings) (λ _. omega arith) (λ _. unwound_parts z d w.slots w.endings h)

-- with nothing in hand they get one part further or more
pub rested_less : (z : Opening) (d : ℕ) (h : History) (w : FrameView) → IsFree w.slots → 0 < parts_left w.endings
    → parts_left (rested_frame z d h w).endings < parts_left w.endings
rested_less z d h w free some =
    cond_both (is_full (slot_pointer w.slots (hand w.slots))) (still h w) (unwound z d w.slots w.endings h)
    (λ c. parts_left c.endings < parts_left w.endings)
    (λ full. let none = ap (λ (x : Slot). is_full (pointer_of x)) free in absurd cc) (λ _. unwound_less z d w.slots w.endings h some)

pub rested_waits : (z : Opening) (d : ℕ) (h : History) (w : FrameView) → 0 < length w.slots
    → IsWaiting (rested_frame z d h w).slots (rested_frame z d h w).endings
rested_waits z d h w some =
    cond_both (is_full (slot_pointer w.slots (hand w.slots))) (still h w) (unwound z d w.slots w.endings h) (λ c. IsWaiting c.slots c.endings)
    (λ full. inr full) (λ _. unwound_waits z d w.slots w.endings h some)

-- endings that wait go on no further
wound_none : (z : Opening) (d : ℕ) (h : History) (w : FrameView) (es : List Ending) → w.endings ≡ es → es ≡ [] → unwound z d w.slots es h ≡ still h w
wound_none z d h w [] e none = ap (λ (l : List Ending). record { history = h; slots = w.slots; endings = l }) (sym e)
wound_none z d h w (x ∷ es) e none = absurd cc

pub rested_still : (z : Opening) (d : ℕ) (h : History) (w : FrameView) → IsWaiting w.slots w.endings → rested_frame z d h w ≡ still h w
rested_still z d h w (inl none) =
    cond_both (is_full (slot_pointer w.slots (hand w.slots))) (still h w) (unwound z d w.slots w.endings h) (λ c. c ≡ still h w)
    (λ _. refl) (λ _. wound_none z d h w w.endings refl none)
rested_still z d h w (inr full) =
    cond_both (is_full (slot_pointer w.slots (hand w.slots))) (still h w) (unwound z d w.slots w.endings h) (λ c. c ≡ still h w)
    (λ _. refl) (λ no. absurd cc)

-- the next act of a thread whose endings wait
pub ahead_next : (l : Slots) (es : List Ending) (ts : List Task) (t : Task) → (es ≡ []) ⊎ (is_full (slot_pointer l (hand l)) ≡ true)
    → next_of l es ts ≡ Some t → ahead_of l es ts ≡ AnAct t (rest_of es ts)
ahead_next l [] [] t waits e = absurd cc
ahead_next l [] (y ∷ ts) t waits e = ap (λ (q : Task). AnAct q ts) (same_Some _ _ e)
ahead_next l (x ∷ es) ts t (inl none) e = absurd cc
ahead_next l (x ∷ es) ts t (inr full) e =
    cond-true (is_full (slot_pointer l (hand l))) (AnAct (record { statement = x.statement; act = Leave (hand l) }) ts) (AnEnd x es) full
    ∙ ap (λ (q : Task). AnAct q ts) (same_Some _ _ e)
