-- A thread whose act is on a member of no object.
use Rattle.std.proofs.Common.{◌≡◌, ℕ, ◌<◌, Bool, true, false, ◌⊎◌, length, sym, refl, subst, inl}
use Rattle.std.proofs.Common.{⊎_elim}
use Rattle.step_threads.proofs.Prelude.{Act, CellName, dropping, DropsInTime, Exchange, Frame}
use Rattle.step_threads.proofs.Prelude.{FrameReady, Holds, IsReady, Load, MayComeNext, Offer}
use Rattle.step_threads.proofs.Prelude.{other, rest, taken_after, task_at, TasksMayCome}
use Rattle.step_threads.proofs.Frames.{owed_by, ready_any, ready_head}

-- the first act of a statement on a cell
abbrev pub IsOn : Act → CellName → Type 0
IsOn a c = (a ≡ Load c) ⊎ ((k : ℕ) × ((a ≡ Offer k c) ⊎ ((a ≡ Exchange k c) ⊎ (a ≡ Holds k c))))

module _ (c : Frame) (x : CellName) (lt : c.at < length c.tasks.items) (ready : FrameReady c) where
  -- nothing is to be dropped at it, and the rest is ready for what was taken
  on_ready : (a : Act) → IsOn a x → (dropping (DropsInTime (rest c)) a → ⊥)
      × (MayComeNext (other c.registers.slots.items) c.taken a → TasksMayCome (other c.registers.slots.items) (taken_after a c.taken) (rest c)
      → TasksMayCome (other c.registers.slots.items) c.taken (rest c))
  on_ready a on =
      let n = other c.registers.slots.items in
      let P : Act → Type 0 = λ (b : Act). (dropping (DropsInTime (rest c)) b → ⊥)
      × (MayComeNext n c.taken b → TasksMayCome n (taken_after b c.taken) (rest c) → TasksMayCome n c.taken (rest c)) in
      let none : c.taken ≡ false → TasksMayCome n true (rest c) → TasksMayCome n c.taken (rest c) =
      λ e r. subst (λ (b : Bool). TasksMayCome n b (rest c)) (sym e) (ready_any n (rest c) r) in
      ⊎_elim (λ (e : a ≡ Load x). subst P (sym e) ((λ z. z), (λ b r. none b.1 r)))
      (λ (q : (k : ℕ) × ((a ≡ Offer k x) ⊎ ((a ≡ Exchange k x) ⊎ (a ≡ Holds k x)))).
      ⊎_elim (λ (e : a ≡ Offer q.0 x). subst P (sym e) ((λ z. z), (λ b r. none b.2 r)))
      (⊎_elim (λ (e : a ≡ Exchange q.0 x). subst P (sym e) ((λ z. z), (λ b r. r)))
      (λ (e : a ≡ Holds q.0 x). subst P (sym e) ((λ z. z), (λ b r. r)))) q.1) on

  -- an act that is refused takes nothing
  pub passed_over : IsOn (task_at c).act x → IsReady c.registers.slots.items c.taken c.endings.list (rest c)
  passed_over on =
      let h = ready_head c lt ready in
      let o = on_ready (task_at c).act on in
      record {
        some = ready.some;
        free = ready.free;
        owes = inl (owed_by c (task_at c).act lt ready refl o.0);
        ready = o.1 h.0 h.2;
      }
