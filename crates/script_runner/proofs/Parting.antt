-- Acts by which a slot becomes empty, as a worker does them.
use Rattle.std.proofs.Common.{◌≡◌, ℕ, zero, suc, ◌+◌, ◌<◌, Bool, true, false, not, [], ◌∷◌, IfSome}
use Rattle.std.proofs.Common.{IfNone, slice_get, slice_set, Some, None, Option, sym, refl, ap, ◌∙◌}
use Rattle.std.proofs.Common.{subst, inl, inr, arith}
use Rattle.script_runner.proofs.Prelude
use Prelude.{Act, ActResult, Block, block_of_held, Ended, field_0, Gone, idle, is_full, IsActed}
use Prelude.{IsDealt, IsEmptied, IsQuiet, IsSeated, IsToldEnding, IsTop, Kind, kind_of_held}
use Prelude.{Leaving, Left, object_in, other, Place, place_of_held, plain, pointer_of, remains}
use Prelude.{row, shown_slots, slot_by, slot_pointer, slot_value, Slots, TableNow, thread_slots}
use Rattle.script_runner.specs.SlotCalls as calls
use Rattle.script_runner.proofs.Acting.{below}
use Rattle.script_runner.proofs.Putting.{quiet_left}
use Rattle.script_runner.proofs.Seating as seating
use Rattle.script_runner.proofs.Stages.{last_same, some_last}
use Rattle.script_runner.proofs.TableLaws as law
use Rattle.shared_handle.specs.declared.endings.Ending as pile
use Rattle.step_threads.specs.declared.programs.act.Act.TheVariants as act

abbrev pub left : Bool → Option Ended → ActResult
left taken e = record { taken = taken; answer = None; ended = e }

-- what is told of what an act left to end
pub top_told : (t u : TableNow ℕ) (l e : Option Ended) → t.endings ≡ [] → IsToldEnding t.endings l u.desk u.endings → IfNone e (u.endings ≡ [])
    → IfSome e (IsTop u) → e ≡ l
top_told t u None None none is bare some = refl
top_told t u None (Some r) none is bare some =
    absurd (some_last some.0 some.1 (sym (is ∙ none) ∙ some.2))
top_told t u (Some r) None none is bare some =
    absurd (some_last t.endings is.0 (sym bare ∙ is.1))
top_told t u (Some r) (Some q) none is bare some =
    let same = (last_same some.0 t.endings some.1 is.0 (sym some.2 ∙ is.1)).1 in
    ap Some (some.3 ∙ (ap (λ (x : pile.Ending ℕ). remains (object_in u.desk x.block.0)) same ∙ sym is.2))

-- an act that leaves a slot
pub left_by : (hand : ℕ) (t u : TableNow ℕ) (taken after : Bool) (a : Act) (e : Option Ended) → idle a (thread_slots hand t) taken ≡ false
    → ((last : Bool) (l : Option Ended) → (row a (thread_slots hand t) taken (Left last l)).taken ≡ after)
    → ((last : Bool) (l : Option Ended) → (row a (thread_slots hand t) taken (Left last l)).answer ≡ None)
    → ((last : Bool) (l : Option Ended) → (row a (thread_slots hand t) taken (Left last l)).ended ≡ l)
    → t.endings ≡ [] → Leaving field_0 (hand + 1) t taken a u → IfNone e (u.endings ≡ []) → IfSome e (IsTop u)
    → IsActed hand t taken a (left after e) u
left_by hand t u taken after a e busy takes says tells none y bare some =
    record {
      busy = busy;
      reply = Left y.last y.left;
      acts = y.acts;
      takes = sym (takes y.last y.left);
      says = sym (says y.last y.left);
      tells = top_told t u y.left e none y.told bare some ∙ sym (tells y.last y.left);
    }

stays : (t : TableNow ℕ) → IsQuiet t.desk t.desk
stays t = record { shape = refl; name = refl; seen = refl }

-- an act that is none where nothing is in hand
pub put_none : (hand i : ℕ) (t : TableNow ℕ) → IsDealt hand t false (act.Put i) (left false None) t
put_none hand i t =
    inr (record { free = refl; quiet = stays t; slots = refl; endings = refl; takes = refl; silent = (refl, refl) })

module _ (hand : ℕ) (t u : TableNow ℕ) (is : IsSeated (hand + 1) hand t) (none : t.endings ≡ []) where
  pub put_busy : (i : ℕ) (e : Option Ended) → i < hand → is_full (slot_pointer (thread_slots hand t) i) ≡ true → calls.MovesSlot t hand i u
      → IfNone e (u.endings ≡ []) → IfSome e (IsTop u)
      → IsDealt hand t true (act.Put i) (left false e) u
  put_busy i e lt full moves bare some =
      inl (left_by hand t u true false (act.Put i) e (ap not full) (λ last l. refl) (λ last l. refl) (λ last l. refl) none
      (law.puts field_0 (hand + 1) i hand true t u is lt moves) bare some)

  pub put_free : (i : ℕ) → i < hand → is_full (slot_pointer (thread_slots hand t) i) ≡ false → calls.MovesSlot t hand i u
      → IsDealt hand t true (act.Put i) (left false None) u
  put_free i lt free moves =
      let x = law.puts_idle (hand + 1) i hand t u is lt moves free in
      inr (record { free = ap not free; quiet = x.0; slots = x.1; endings = x.2; takes = refl; silent = (refl, refl) })

  pub leave_busy : (i : ℕ) (taken : Bool) (e : Option Ended) → i < hand → IsEmptied t i u
      → IfNone e (u.endings ≡ []) → IfSome e (IsTop u)
      → IsActed hand t taken (act.Leave i) (left taken e) u
  leave_busy i taken e lt c bare some =
      left_by hand t u taken taken (act.Leave i) e refl (λ last l. refl) (λ last l. refl) (λ last l. refl) none
      (law.empties field_0 (hand + 1) i taken t u is.fits (below hand i lt) c).0 bare some

  pub clear_busy : (i : ℕ) (taken : Bool) (e : Option Ended) → i < hand → is_full (slot_pointer (thread_slots hand t) i) ≡ true → IsEmptied t i u
      → IfNone e (u.endings ≡ []) → IfSome e (IsTop u)
      → IsDealt hand t taken (act.Clear i) (left taken e) u
  clear_busy i taken e lt full c bare some =
      inl (left_by hand t u taken taken (act.Clear i) e (ap not full) (λ last l. refl) (λ last l. refl) (λ last l. refl) none
      (law.empties field_0 (hand + 1) i taken t u is.fits (below hand i lt) c).1 bare some)

  other_is : (i : ℕ) → i + 1 ≡ hand → other (thread_slots hand t) ≡ i
  other_is i at = let many = seating.shown_many (hand + 1) t.slots is.many in omega (arith, many, at)

  pub drop_busy : (i : ℕ) (taken : Bool) (e : Option Ended) (gone : Gone) → i + 1 ≡ hand → is_full (slot_pointer (thread_slots hand t) i) ≡ true
      → calls.Resets t i gone u → IfNone e (u.endings ≡ []) → IfSome e (IsTop u)
      → IsDealt hand t taken act.Drop (left taken e) u
  drop_busy i taken e gone at full c bare some =
      inl (left_by hand t u taken taken act.Drop e
      (ap (λ k. not (is_full (slot_pointer (thread_slots hand t) k))) (other_is i at) ∙ ap not full)
      (λ last l. refl) (λ last l. refl) (λ last l. refl) none
      (law.resets field_0 (hand + 1) hand i taken t u is (omega (arith, at)) gone c) bare some)

-- a slot that is empty is made so
pub plain_again : (l : Slots) (i : ℕ) → slot_value l i ≡ plain → slice_set l i plain ≡ l
plain_again [] i e = refl
plain_again (x ∷ l) zero e = ap (λ y. y ∷ l) (sym e)
plain_again (x ∷ l) (suc i) e = ap (λ k. x ∷ k) (plain_again l i e)

-- an empty handle's slot has no object
owns_none : (k : Kind) (b : Option Block) (p : Option Place) → is_full (pointer_of (slot_by k b p)) ≡ false → b ≡ None
owns_none k None p e = refl
owns_none k (Some b) p e = absurd cc

module _ (hand : ℕ) (t u : TableNow ℕ) (is : IsSeated (hand + 1) hand t) where
  pub drop_none : (i : ℕ) (taken : Bool) → i + 1 ≡ hand → slice_get t.slots i ≡ Some None → IsDealt hand t taken act.Drop (left taken None) t
  drop_none i taken at vacant =
      let o : other (thread_slots hand t) ≡ i = let many = seating.shown_many (hand + 1) t.slots is.many in omega (arith, many, at) in
      let v : slot_value (thread_slots hand t) (other (thread_slots hand t)) ≡ plain =
      ap (λ k. slot_value (thread_slots hand t) k) o ∙ seating.shown_at (hand + 1) t.slots i None (omega (arith, at)) vacant in
      inr (record {
        free = ap (λ x. not (is_full (pointer_of x))) v;
        quiet = stays t;
        slots = sym (plain_again (thread_slots hand t) (other (thread_slots hand t)) v);
        endings = refl;
        takes = refl;
        silent = (refl, refl);
      })

  pub drop_free : (i : ℕ) (taken : Bool) (gone : Gone) → i + 1 ≡ hand → is_full (slot_pointer (thread_slots hand t) i) ≡ false
      → calls.Resets t i gone u
      → IsDealt hand t taken act.Drop (left taken None) u
  drop_free i taken gone at free c =
      let o : other (thread_slots hand t) ≡ i = let many = seating.shown_many (hand + 1) t.slots is.many in omega (arith, many, at) in
      let v = seating.shown_at (hand + 1) t.slots i (Some c.of) (omega (arith, at)) c.was in
      let none : block_of_held c.of ≡ None =
      owns_none (kind_of_held c.of) (block_of_held c.of) (place_of_held c.of) (sym (ap (λ x. is_full (pointer_of x)) v) ∙ free) in
      let x = quiet_left t.desk u.desk t.endings u.endings c.of gone none c.leaves in
      inr (record {
        free = ap (λ k. not (is_full (slot_pointer (thread_slots hand t) k))) o ∙ ap not free;
        quiet = x.0;
        slots = ap (shown_slots (hand + 1)) c.slots ∙
            (seating.shown_set (hand + 1) t.slots i None ∙ ap (λ k. slice_set (thread_slots hand t) k plain) (sym o));
        endings = x.1;
        takes = refl;
        silent = (refl, refl);
      })

-- the same, where what was left to end was looked at
module _ (hand : ℕ) (t u v : TableNow ℕ) (is : IsSeated (hand + 1) hand t) (none : t.endings ≡ []) where
  pub put_top : (i : ℕ) (e : Option Ended) → i < hand → is_full (slot_pointer (thread_slots hand t) i) ≡ true → calls.MovesSlot t hand i u
      → IfNone e (u.endings ≡ []) → IfSome e (IsTop u) → v ≡ u
      → IsDealt hand t true (act.Put i) (left false e) v
  put_top i e lt full moves bare some same =
      subst (λ w. IsDealt hand t true (act.Put i) (left false e) w) (sym same) (put_busy hand t u is none i e lt full moves bare some)

  pub leave_top : (i : ℕ) (taken : Bool) (e : Option Ended) → i < hand → IsEmptied t i u
      → IfNone e (u.endings ≡ []) → IfSome e (IsTop u) → v ≡ u
      → IsActed hand t taken (act.Leave i) (left taken e) v
  leave_top i taken e lt c bare some same =
      subst (λ w. IsActed hand t taken (act.Leave i) (left taken e) w) (sym same) (leave_busy hand t u is none i taken e lt c bare some)

  pub clear_top : (i : ℕ) (taken : Bool) (e : Option Ended) → i < hand → is_full (slot_pointer (thread_slots hand t) i) ≡ true → IsEmptied t i u
      → IfNone e (u.endings ≡ []) → IfSome e (IsTop u) → v ≡ u
      → IsDealt hand t taken (act.Clear i) (left taken e) v
  clear_top i taken e lt full c bare some same =
      subst (λ w. IsDealt hand t taken (act.Clear i) (left taken e) w) (sym same) (clear_busy hand t u is none i taken e lt full c bare some)

  pub drop_top : (i : ℕ) (taken : Bool) (e : Option Ended) (gone : Gone) → i + 1 ≡ hand → is_full (slot_pointer (thread_slots hand t) i) ≡ true
      → calls.Resets t i gone u
      → IfNone e (u.endings ≡ []) → IfSome e (IsTop u) → v ≡ u
      → IsDealt hand t taken act.Drop (left taken e) v
  drop_top i taken e gone at full c bare some same =
      subst (λ w. IsDealt hand t taken act.Drop (left taken e) w) (sym same) (drop_busy hand t u is none i taken e gone at full c bare some)
