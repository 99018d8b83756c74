-- A thread that passes over acts, with endings under way.
use Rattle.std.proofs.Common.{◌≡◌, ℕ, zero, suc, ◌-◌, Bool, true, false, cond, List, [], ◌∷◌}
use Rattle.std.proofs.Common.{length, slice_set, sym, refl, ap, ◌∙◌, length-set}
use Rattle.script_runner.proofs.Prelude.{Act, cond-false, cond_both, Ending, frame_settled}
use Rattle.script_runner.proofs.Prelude.{FrameView, hand, idle, Leave, other, placed, plain}
use Rattle.script_runner.proofs.Prelude.{slot_value, Slots, slots_idle, taken_idle, Task}
use Rattle.step_threads.specs.declared.programs.act.Act.TheVariants.{Make, Share, Downgrade, Lock}
use Rattle.step_threads.specs.declared.programs.act.Act.TheVariants.{Put, Clear, Count, Expired}
use Rattle.step_threads.specs.declared.programs.act.Act.TheVariants.{Read, FromThis, Alias, Move}
use Rattle.step_threads.specs.declared.programs.act.Act.TheVariants.{Ask, Offer, Swap, Exchange}
use Rattle.step_threads.specs.declared.programs.act.Act.TheVariants.{Load, Compare, Holds, Drop}
use Rattle.step_threads.specs.declared.programs.act.Act.TheVariants.{OnShelf}

-- one of two walks, with these endings or none
either : (b : Bool) (es : List Ending) (f g : List Ending → FrameView) → f es ≡ record (f []) { endings = es } → g es ≡ record (g []) { endings = es }
    → cond b (f es) (g es) ≡ record (cond b (f []) (g [])) { endings = es }
either true es f g p q = p
either false es f g p q = q

-- a settled walk with other endings
pub with_endings : (l : Slots) (taken : Bool) (es : List Ending) (ts : List Task)
    → frame_settled l taken es ts ≡ record (frame_settled l taken [] ts) { endings = es }
with_endings l taken es [] = refl
with_endings l taken es (t ∷ ts) =
    either (idle t.act l taken) es (λ e. frame_settled (slots_idle t.act l taken) (taken_idle t.act taken) e ts)
    (λ e. record { slots = l; taken = taken; endings = e; todo = t ∷ ts })
    (with_endings (slots_idle t.act l taken) (taken_idle t.act taken) es ts) refl

-- a settled walk is settled
pub settled_again : (l : Slots) (taken : Bool) (es fs : List Ending) (ts : List Task)
    → let w = frame_settled l taken es ts in frame_settled w.slots w.taken fs w.todo ≡ record w { endings = fs }
settled_again l taken es fs [] = refl
settled_again l taken es fs (t ∷ ts) =
    cond_both (idle t.act l taken) (frame_settled (slots_idle t.act l taken) (taken_idle t.act taken) es ts)
    (record { slots = l; taken = taken; endings = es; todo = t ∷ ts })
    (λ (w : FrameView). frame_settled w.slots w.taken fs w.todo ≡ record w { endings = fs })
    (λ is. settled_again (slots_idle t.act l taken) (taken_idle t.act taken) es fs ts)
    (λ is. cond-false (idle t.act l taken) (frame_settled (slots_idle t.act l taken) (taken_idle t.act taken) fs ts)
    (record { slots = l; taken = taken; endings = fs; todo = t ∷ ts }) is)

-- a slot that is empty stays so where another is made so
still_plain : (l : Slots) (i h : ℕ) → slot_value l h ≡ plain → slot_value (slice_set l i plain) h ≡ plain
still_plain [] i h e = refl
still_plain (x ∷ l) zero zero e = refl
still_plain (x ∷ l) zero (suc h) e = e
still_plain (x ∷ l) (suc i) zero e = e
still_plain (x ∷ l) (suc i) (suc h) e = still_plain l i h e

now_plain : (l : Slots) (i : ℕ) → slot_value (slice_set l i plain) i ≡ plain
now_plain [] i = refl
now_plain (x ∷ l) zero = refl
now_plain (x ∷ l) (suc i) = now_plain l i

-- where acts are passed over there are as many slots, and the hand stays empty
pub record Empty (l r : Slots) : Type 0 where
  pub many : length r ≡ length l
  pub hand : slot_value r (hand l) ≡ plain

put_empty : (l : Slots) (k : ℕ) → slot_value l (hand l) ≡ plain → Empty l (placed k l)
put_empty l k e =
    let q = slice_set l k (slot_value l (hand l)) in
    record { many = length-set q (hand l) plain ∙ length-set l k (slot_value l (hand l)); hand = now_plain q (hand l) }

cond_empty : (b : Bool) (l : Slots) (k : ℕ) → slot_value l (hand l) ≡ plain → Empty l (cond b (placed k l) l)
cond_empty true l k e = put_empty l k e
cond_empty false l k e = record { many = refl; hand = e }

idle_empty : (a : Act) (l : Slots) (taken : Bool) → slot_value l (hand l) ≡ plain → Empty l (slots_idle a l taken)
idle_empty (Put k) l taken e = cond_empty taken l k e
idle_empty (Swap c) l taken e = cond_empty taken l (other l) e
idle_empty (Compare k c weak) l taken e = cond_empty taken l (other l) e
idle_empty Drop l taken e = record { many = length-set l (other l) plain; hand = still_plain l (other l) (hand l) e }
idle_empty (Make form) l taken e = record { many = refl; hand = e }
idle_empty (Share k) l taken e = record { many = refl; hand = e }
idle_empty (Alias k j field) l taken e = record { many = refl; hand = e }
idle_empty (Move k) l taken e = record { many = refl; hand = e }
idle_empty (Downgrade k) l taken e = record { many = refl; hand = e }
idle_empty (Lock k must) l taken e = record { many = refl; hand = e }
idle_empty (Leave k) l taken e = record { many = refl; hand = e }
idle_empty (Clear k) l taken e = record { many = refl; hand = e }
idle_empty (Count k) l taken e = record { many = refl; hand = e }
idle_empty (Expired k) l taken e = record { many = refl; hand = e }
idle_empty (Read k) l taken e = record { many = refl; hand = e }
idle_empty (FromThis k kind) l taken e = record { many = refl; hand = e }
idle_empty (Ask q) l taken e = record { many = refl; hand = e }
idle_empty (Offer k c) l taken e = record { many = refl; hand = e }
idle_empty (Exchange k c) l taken e = record { many = refl; hand = e }
idle_empty (Holds k c) l taken e = record { many = refl; hand = e }
idle_empty (Load c) l taken e = record { many = refl; hand = e }
idle_empty (OnShelf x) l taken e = record { many = refl; hand = e }

pub settled_empty : (l : Slots) (taken : Bool) (es : List Ending) (ts : List Task) → slot_value l (hand l) ≡ plain
    → Empty l (frame_settled l taken es ts).slots
settled_empty l taken es [] e = record { many = refl; hand = e }
settled_empty l taken es (t ∷ ts) e =
    let x = idle_empty t.act l taken e in
    let h : hand (slots_idle t.act l taken) ≡ hand l = ap (λ n. n - 1) x.many in
    let y = settled_empty (slots_idle t.act l taken) (taken_idle t.act taken) es ts
    (ap (λ n. slot_value (slots_idle t.act l taken) n) h ∙ x.hand) in
    cond_both (idle t.act l taken) (frame_settled (slots_idle t.act l taken) (taken_idle t.act taken) es ts)
    (record { slots = l; taken = taken; endings = es; todo = t ∷ ts })
    (λ (w : FrameView). Empty l w.slots)
    (λ is. record {
      many = y.many ∙ x.many;
      hand = ap (λ n. slot_value (frame_settled (slots_idle t.act l taken) (taken_idle t.act taken) es ts).slots n) (sym h) ∙ y.hand;
    })
    (λ is. record { many = refl; hand = e })
