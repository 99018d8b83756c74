-- One more thread of a world at its start.
use Rattle.std.proofs.Common.{◌≡◌, ℕ, zero, suc, ◌+◌, ◌<◌, ◌⊎◌, List, [], ◌∷◌, ◌++◌, map, length}
use Rattle.std.proofs.Common.{get_or, take, slice_get, Some, sym, refl, ap, ◌∙◌, subst, inl, inr}
use Rattle.std.proofs.Common.{⊎_elim}
use Rattle.step_core.proofs.Prelude.{Actor, AllFit, first_frame, FitsThread, frame_view}
use Rattle.step_core.proofs.Prelude.{GhostState, map_push, Part, part_of, PendingCall, Rest}
use Rattle.step_core.proofs.Prelude.{same_Some, take_more, Thread}
use Rattle.std.proofs.lemmas.List.{length_push}

at_pushed : {A : Type 0} (xs : List A) (y a : A) (i : ℕ) → slice_get (xs ++ y ∷ []) i ≡ Some a → (slice_get xs i ≡ Some a) ⊎
    ((i ≡ length xs) × (y ≡ a))
at_pushed [] y a zero e = inr (refl, same_Some y a e)
at_pushed [] y a (suc i) e = cc
at_pushed (x ∷ xs) y a zero e = inl e
at_pushed (x ∷ xs) y a (suc i) e = ⊎_elim (λ r. inl r) (λ r. inr (ap suc r.0, r.1)) (at_pushed xs y a i e)

push_fit : (v : GhostState) (threads : List Thread) (t : Thread) (n : ℕ) → length threads ≡ n → AllFit v threads → FitsThread n t v → AllFit v
    (threads ++ t ∷ [])
push_fit v threads t n size all fits =
    record {
      each = λ d u at.
          ⊎_elim (λ r. all.each d u r)
          (λ r. subst (λ (z : Thread). FitsThread d z v) r.1 (subst (λ (z : ℕ). FitsThread z t v) (sym (r.0 ∙ size)) fits)) (at_pushed threads t u d at);
    }

push_mapped : {W : Type 0} (f : Thread → W) (g : Part → W) (threads : List Thread) (t : Thread) (actors : List Actor) (i : ℕ) (a : Actor)
    → i < length actors → a ≡ get_or actors i a → map f threads ≡ map g (map part_of (take i actors)) → f t ≡ g (part_of a)
    → map f (threads ++ t ∷ []) ≡ map g (map part_of (take (i + 1) actors))
push_mapped f g threads t actors i a lt is same one =
    let m = map_push f threads t in
    let k = ap (λ (l : List Actor). map g (map part_of l)) (take_more actors i a lt) in
    let p = ap (λ (l : List Part). map g l) (map_push part_of (take i actors) (get_or actors i a)) in
    let q = map_push g (map part_of (take i actors)) (part_of (get_or actors i a)) in
    m ∙ ap (λ l. l ++ f t ∷ []) same ∙ ap (λ w. map g (map part_of (take i actors)) ++ w ∷ []) (one ∙ ap (λ (x : Actor). g (part_of x)) is)
    ∙ sym q ∙ sym p ∙ sym k

-- the threads of the first n actors
pub record AreStarted (v : GhostState) (threads : List Thread) (actors : List Actor) (n : ℕ) : Type 0 where
  pub count : length threads ≡ n
  pub frame_views : map (λ t. frame_view t.frame) threads ≡ map first_frame (map part_of (take n actors))
  pub pending_calls : map (λ t. t.pending_call) threads ≡ map {B = PendingCall} (λ (part : Part). Rest) (map part_of (take n actors))
  pub fit : AllFit v threads

pub push_started : (v : GhostState) (threads new : List Thread) (t : Thread) (actors : List Actor) (n : ℕ) (a : Actor) → n < length actors
    → a ≡ get_or actors n a → AreStarted v threads actors n → new ≡ threads ++ t ∷ []
    → frame_view t.frame ≡ first_frame (part_of a) → t.pending_call ≡ Rest
    → FitsThread n t v → AreStarted v new actors (n + 1)
push_started v threads new t actors n a lt is started more w h fits =
    subst (λ (l : List Thread). AreStarted v l actors (n + 1)) (sym more)
    (record {
      count = length_push threads t ∙ ap (λ (k : ℕ). k + 1) started.count;
      frame_views = push_mapped (λ x. frame_view x.frame) first_frame threads t actors n a lt is started.frame_views w;
      pending_calls = push_mapped (λ x. x.pending_call) (λ part. Rest) threads t actors n a lt is started.pending_calls h;
      fit = push_fit v threads t n started.count started.fit fits;
    })
