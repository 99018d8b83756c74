-- Of two replies of an act that are right and chosen one is as the other, as far as the reply matters.
use Rattle.std.proofs.Common.{◌≡◌, ℕ, Bool, true, false, cond, slice_set, Some, None, Option, sym}
use Rattle.std.proofs.Common.{refl, ap, ◌∙◌, subst}
use Rattle.script_stepper.proofs.Prelude
use Prelude.{Act, Alias, Answer, Ask, Clear, Compare, copies, Count, Downgrade, Drop, Exchange}
use Prelude.{Expired, Form, FromThis, hand, Handle, Hands, History, Holds, inside, is_there, leads}
use Prelude.{Leave, Load, Lock, Make, may_go, Move, no_worth, Offer, OnShelf, Opening, other}
use Prelude.{place_in, placed, plain, Put, put_on, Read, row, Share, Shelve, Slot, slot_pointer}
use Prelude.{Slots, State, Swap, Unshelve, weak_slot}
use Rattle.control_word.specs.declared.model.event.Event.TheVariants as event
use Rattle.control_word.specs.Events.{place_at}
use Rattle.control_word.specs.Histories.{IsLegal}
use Rattle.step_table.specs.Contents.{slots_swapped}
use Rattle.step_table.specs.AtomicSteps.{is_enabled}
use Rattle.step_threads.specs.TraceLabels.{IsMakeEvent}
use Rattle.step_threads.specs.Rows.{Reply, Plain, Found, Got, Told, Came, Compared, Left, having}
use Rattle.step_threads.specs.Rows.{full_answer, holding, outside, refusal}
use Rattle.script_stepper.proofs.OneEvent.{Chosen, Comes, Events, Right, compares_once}
use Rattle.script_stepper.proofs.OneEvent.{counts_once, expires_once, gives_once, leaving_once}
use Rattle.script_stepper.proofs.OneEvent.{loads_once, locks_once, reads_once, same_once}
use Rattle.script_stepper.proofs.OneEvent.{swaps_once}
use Rattle.script_stepper.proofs.LeastBlocks.{least_is_one, least_of_none}

module _ (s : State) (d : ℕ) where
  module _ (l : Slots) (taken : Bool) where
    abbrev Same : Act → Reply → Reply → Events → Events → Type 0
    Same a r q e f = (row a l taken r ≡ row a l taken q) × (e ≡ f)

    makes_once : (form : Form) (o p : Option ℕ) (e f : Events) → IsMakeEvent no_worth s d l (Make form) (Found o) e
        → IsMakeEvent no_worth s d l (Make form) (Found p) f
        → Chosen s d e → Chosen s d f → Same (Make form) (Found o) (Found p) e f
    makes_once form None None e f m n u v = (refl, m.1 ∙ sym n.1)
    makes_once form None (Some b) e f m n u v =
        absurd (least_of_none d s.stores b m.0 (subst (Chosen s d) n v))
    makes_once form (Some b) None e f m n u v =
        absurd (least_of_none d s.stores b n.0 (subst (Chosen s d) m u))
    makes_once form (Some b) (Some c) e f m n u v =
        let same : b ≡ c = least_is_one d s.stores b c (subst (Chosen s d) m u) (subst (Chosen s d) n v) in (
          ap (λ (k : ℕ). having (holding l form.null (Some k)) (full_answer (Some k))) same,
          m ∙ ap (λ (k : ℕ). Some (event.Make (record { 0 = k }) form.enabled form.null form.fields tt)) same ∙ sym n,
        )

    shelves_once : (o p : Option ℕ) (e f : Events) → IsMakeEvent no_worth s d l (OnShelf Shelve) (Found o) e
        → IsMakeEvent no_worth s d l (OnShelf Shelve) (Found p) f → Chosen s d e → Chosen s d f → e ≡ f
    shelves_once None None e f m n u v = m.1 ∙ sym n.1
    shelves_once None (Some b) e f m n u v = absurd (least_of_none d s.stores b m.0 (subst (Chosen s d) n v))
    shelves_once (Some b) None e f m n u v = absurd (least_of_none d s.stores b n.0 (subst (Chosen s d) m u))
    shelves_once (Some b) (Some c) e f m n u v =
        let same : b ≡ c = least_is_one d s.stores b c (subst (Chosen s d) m u) (subst (Chosen s d) n v) in
        m ∙ ap (λ (k : ℕ). Some (event.Shelve (record { 0 = k }))) same ∙ sym n

    pub one_reply : (a : Act) (r q : Reply) (e f : Events) → IsMakeEvent no_worth s d l a r e → IsMakeEvent no_worth s d l a q f → Comes s d e → Right s d f
        → Chosen s d e → Chosen s d f
        → Same a r q e f
    one_reply (Make form) (Found o) (Found p) e f m n u v g h = makes_once form o p e f m n g h
    one_reply (Make form) (Found o) _ e f m n u v g h = absurd n
    one_reply (Make form) _ q e f m n u v g h = absurd m
    one_reply (Share k) Plain Plain e f m n u v g h = (refl, m ∙ sym n)
    one_reply (Share k) Plain _ e f m n u v g h = absurd n
    one_reply (Share k) _ q e f m n u v g h = absurd m
    one_reply (Put k) (Left b x) (Left c y) e f m n u v g h = leaving_once s d (placed k (slice_set l k plain), false) (slot_pointer l k) b c x y e f m n u v
    one_reply (Put k) (Left b x) _ e f m n u v g h = absurd n
    one_reply (Put k) _ q e f m n u v g h = absurd m
    one_reply (Leave k) (Left b x) (Left c y) e f m n u v g h = leaving_once s d (slice_set l k plain, taken) (slot_pointer l k) b c x y e f m n u v
    one_reply (Leave k) (Left b x) _ e f m n u v g h = absurd n
    one_reply (Leave k) _ q e f m n u v g h = absurd m
    one_reply (Clear k) (Left b x) (Left c y) e f m n u v g h = leaving_once s d (slice_set l k plain, taken) (slot_pointer l k) b c x y e f m n u v
    one_reply (Clear k) (Left b x) _ e f m n u v g h = absurd n
    one_reply (Clear k) _ q e f m n u v g h = absurd m
    one_reply Drop (Left b x) (Left c y) e f m n u v g h =
        leaving_once s d (slice_set l (other l) plain, taken) (slot_pointer l (other l)) b c x y e f m n u v
    one_reply Drop (Left b x) _ e f m n u v g h = absurd n
    one_reply Drop _ q e f m n u v g h = absurd m
    one_reply (OnShelf Shelve) (Found o) (Found p) e f m n u v g h = (refl, shelves_once o p e f m n g h)
    one_reply (OnShelf Shelve) (Found o) _ e f m n u v g h = absurd n
    one_reply (OnShelf Shelve) _ q e f m n u v g h = absurd m
    one_reply (OnShelf (Unshelve b)) (Got x) (Got y) e f m n u v g h =
        (refl, m.1 ∙ ap (λ (t : Bool). cond t (Some (event.Unshelve b)) None) (m.0 ∙ sym n.0) ∙ sym n.1)
    one_reply (OnShelf (Unshelve b)) (Got x) _ e f m n u v g h = absurd n
    one_reply (OnShelf (Unshelve b)) _ q e f m n u v g h = absurd m
    one_reply (Count k) (Told x) (Told y) e f m n u v g h =
        let r = counts_once s d (slot_pointer l k) x y e f m n g h in (ap (λ (t : ℕ). row (Count k) l taken (Told t)) r.0, r.1)
    one_reply (Count k) (Told x) _ e f m n u v g h = absurd n
    one_reply (Count k) _ q e f m n u v g h = absurd m
    one_reply (Downgrade k) Plain Plain e f m n u v g h = (refl, m ∙ sym n)
    one_reply (Downgrade k) Plain _ e f m n u v g h = absurd n
    one_reply (Downgrade k) _ q e f m n u v g h = absurd m
    one_reply (Lock k must) (Got b) (Got c) e f m n u v g h =
        let r = locks_once s d (weak_slot (slot_pointer l k)) b c e f m n u v in (ap (λ (t : Bool). row (Lock k must) l taken (Got t)) r.0, r.1)
    one_reply (Lock k must) (Got b) _ e f m n u v g h = absurd n
    one_reply (Lock k must) _ q e f m n u v g h = absurd m
    one_reply (Expired k) (Got b) (Got c) e f m n u v g h =
        let r = expires_once s d (slot_pointer l k) b c e f m n u v in (ap (λ (t : Bool). row (Expired k) l taken (Got t)) r.0, r.1)
    one_reply (Expired k) (Got b) _ e f m n u v g h = absurd n
    one_reply (Expired k) _ q e f m n u v g h = absurd m
    one_reply (Read k) (Told x) (Told y) e f m n u v g h =
        let r = reads_once s d (inside (slot_pointer l k)) (outside (place_in l k)) x y e f m n u v in (
          ap (λ (a : Answer). having (l, taken) (Some a)) r.0,
          r.1,
        )
    one_reply (Read k) (Told x) _ e f m n u v g h = absurd n
    one_reply (Read k) _ q e f m n u v g h = absurd m
    one_reply (FromThis k kind) (Got b) (Got c) e f m n u v g h =
        let r =
        gives_once s d (inside (slot_pointer l k)) (λ (y : Bool) (x : Handle). cond y (Some (copies s kind (place_at x.block.0) x)) None) (is_enabled s)
        b c e f m n in
        (ap (λ (t : Bool). row (FromThis k kind) l taken (Got t)) r.0, r.1)
    one_reply (FromThis k kind) (Got b) _ e f m n u v g h = absurd n
    one_reply (FromThis k kind) _ q e f m n u v g h = absurd m
    one_reply (Alias k j field) Plain Plain e f m n u v g h = (refl, m ∙ sym n)
    one_reply (Alias k j field) Plain _ e f m n u v g h = absurd n
    one_reply (Alias k j field) _ q e f m n u v g h = absurd m
    one_reply (Move k) Plain Plain e f m n u v g h = (refl, m ∙ sym n)
    one_reply (Move k) Plain _ e f m n u v g h = absurd n
    one_reply (Move k) _ q e f m n u v g h = absurd m
    one_reply (Ask t) (Got b) (Got c) e f m n u v g h = (ap (λ (y : Bool). row (Ask t) l taken (Got y)) (m.0 ∙ sym n.0), m.1 ∙ sym n.1)
    one_reply (Ask t) (Got b) _ e f m n u v g h = absurd n
    one_reply (Ask t) _ q e f m n u v g h = absurd m
    one_reply (Offer k c) Plain Plain e f m n u v g h = (refl, m ∙ sym n)
    one_reply (Offer k c) Plain _ e f m n u v g h = absurd n
    one_reply (Offer k c) _ q e f m n u v g h = absurd m
    one_reply (Swap c) (Came x) (Came y) e f m n u v g h =
        let r = swaps_once s d l Slots (λ z. slots_swapped (hand l) (other l) l z) l (may_go l c (hand l)) c (hand l) x y e f m n u v in
        (ap (λ (z : Slots). having (z, false) None) r.0, r.1)
    one_reply (Swap c) (Came x) _ e f m n u v g h = absurd n
    one_reply (Swap c) _ q e f m n u v g h = absurd m
    one_reply (Exchange k c) (Came x) (Came y) e f m n u v g h =
        let r = swaps_once s d l Slots (λ z. slice_set l k z) l (may_go l c k) c k x y e f m n u v in
        (ap (λ (z : Slots). having (z, taken) (refusal l c)) r.0, r.1)
    one_reply (Exchange k c) (Came x) _ e f m n u v g h = absurd n
    one_reply (Exchange k c) _ q e f m n u v g h = absurd m
    one_reply (Load c) (Came x) (Came y) e f m n u v g h =
        let r = loads_once s d l Hands (λ z. (slice_set l (hand l) z, true)) (l, taken) (is_there l c) c x y e f m n u v in
        (ap (λ (z : Hands). having z (refusal l c)) r.0, r.1)
    one_reply (Load c) (Came x) _ e f m n u v g h = absurd n
    one_reply (Load c) _ q e f m n u v g h = absurd m
    one_reply (Compare k c weak) (Compared b x) (Compared y z) e f m n u v g h =
        let r = compares_once s d l c k weak b y x z e f m n u v g h in (
          ap (λ (t : Slot). row (Compare k c weak) l taken (Compared b t)) r.0 ∙ ap (λ (t : Bool). row (Compare k c weak) l taken (Compared t z)) r.1,
          r.2,
        )
    one_reply (Compare k c weak) (Compared b x) _ e f m n u v g h = absurd n
    one_reply (Compare k c weak) _ q e f m n u v g h = absurd m
    one_reply (Holds k c) (Got b) (Got x) e f m n u v g h =
        let r = same_once s d l (may_go l c k) c k b x e f m n u v in (ap (λ (t : Bool). row (Holds k c) l taken (Got t)) r.0, r.1)
    one_reply (Holds k c) (Got b) _ e f m n u v g h = absurd n
    one_reply (Holds k c) _ q e f m n u v g h = absurd m

-- an event that stands in a legal history may come
pub comes : (z : Opening) (d : ℕ) (h : History) (e : Events) → IsLegal z (put_on d e h) → Comes (leads z h) d e
comes z d h None p = tt
comes z d h (Some e) p = p.1.asks
