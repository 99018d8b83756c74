-- How many calls of a kind are under way, counted thread by thread.
use Rattle.std.proofs.Common.{◌≡◌, ℕ, ◌+◌, ◌<◌, ◌≤◌, Bool, true, false, cond, List, [], ◌∷◌, map}
use Rattle.std.proofs.Common.{length, get_or, take, sum_by, sym, refl, ap, ◌∙◌, subst, arith}
use Rattle.step_core.proofs.Prelude.{cond_both, get_or-map, GhostState, length-map, PendingCall}
use Rattle.step_core.proofs.Prelude.{Rest, sum_by-cons, sum_by-take-le, Thread, thread_pending}
use Rattle.step_core.proofs.Prelude.{world_state, WorldState}
use mir.Val.{bool_byte}
use Rattle.std.proofs.lemmas.List.Sums.{sum_by_more}

-- each thread has one call under way
pub few_calls : (f : PendingCall → Bool) (hs : List PendingCall) → sum_by (λ (h : PendingCall). cond {A = ℕ} (f h) 1 0) hs ≤ length hs
few_calls f [] = omega arith
few_calls f (h ∷ hs) =
    let t = few_calls f hs in
    let c = sum_by-cons (λ (x : PendingCall). cond {A = ℕ} (f x) 1 0) h hs in
    let one = cond_both (f h) 1 0 (λ (n : ℕ). n ≤ 1) (λ e. omega arith) (λ e. omega arith) in omega (arith, t, c, one)

pub few_taken : (f : PendingCall → Bool) (hs : List PendingCall) (i : ℕ) → length hs ≤ 64
    → sum_by (λ (h : PendingCall). cond {A = ℕ} (f h) 1 0) (take i hs) ≤ 64
few_taken f hs i le =
    let t = few_calls f hs in
    let m = sum_by-take-le (λ (h : PendingCall). cond {A = ℕ} (f h) 1 0) hs i in omega (arith, t, m, le)

byte_is : (b : Bool) → ◌≡◌ {A = ℕ} (bool_byte b) (cond b 1 0)
byte_is true = refl
byte_is false = refl

-- one thread more, whose call was looked at
pub one_thread : (f : PendingCall → Bool) (u : WorldState) (v : GhostState) (threads items : List Thread) (i : ℕ) (t : Thread) (n m : ℕ) (is : Bool)
    → world_state v threads ≡ u → items ≡ threads → i < length items → t ≡ get_or items i t
    → n ≡ sum_by (λ (h : PendingCall). cond {A = ℕ} (f h) 1 0) (take i u.pending_calls) → m ≡ bool_byte is → is ≡ f t.pending_call
    → n + m ≡ sum_by (λ (h : PendingCall). cond {A = ℕ} (f h) 1 0) (take (i + 1) u.pending_calls)
one_thread f u v threads items i t n m is same all lt read so byte at =
    let g : PendingCall → ℕ = λ (h : PendingCall). cond {A = ℕ} (f h) 1 0 in
    let hs = map thread_pending threads in
    let here : i < length threads = subst (λ (l : List Thread). i < length l) all lt in
    let there : t ≡ get_or threads i t = subst (λ (l : List Thread). t ≡ get_or l i t) all read in
    let many = length-map threads thread_pending in
    let call : get_or hs i Rest ≡ t.pending_call = get_or-map thread_pending threads i t Rest here ∙ ap thread_pending (sym there) in
    let one : m ≡ g (get_or hs i Rest) = byte ∙ byte_is is ∙ ap (λ (b : Bool). cond {A = ℕ} b 1 0) at ∙ ap g (sym call) in
    let more : sum_by g (take (i + 1) hs) ≡ sum_by g (take i hs) + g (get_or hs i Rest) = sum_by_more g hs i Rest (omega (arith, here, many)) in
    let before : n ≡ sum_by g (take i hs) = so ∙ ap (λ (x : WorldState). sum_by g (take i x.pending_calls)) (sym same) in
    subst (λ (x : WorldState). n + m ≡ sum_by g (take (i + 1) x.pending_calls)) same (omega (arith, one, more, before))

-- so many calls fit a number
pub fits_more : (f : PendingCall → Bool) (hs : List PendingCall) (i n m : ℕ) (is : Bool) → length hs ≤ 64
    → n ≡ sum_by (λ (h : PendingCall). cond {A = ℕ} (f h) 1 0) (take i hs) → m ≡ bool_byte is → n + m ≤ 65
fits_more f hs i n m is le so byte =
    let few = few_taken f hs i le in
    let one : m ≡ cond is 1 0 = byte ∙ byte_is is in
    let most = cond_both is 1 0 (λ (n : ℕ). n ≤ 1) (λ e. omega arith) (λ e. omega arith) in omega (arith, few, so, one, most)
