-- What a thread does leaves its desk's shape and allowance as they are: only splits and joins change an allowance, and
-- these are no acts.
use Rattle.std.proofs.Common.{◌≡◌, ℕ, ◌+◌, ◌-◌, Bool, true, false, List, [], ◌∷◌, ◌++◌, Some, None}
use Rattle.std.proofs.Common.{Option, sym, refl, ap, ◌∙◌, subst, inl, inr}
use Rattle.script_runner.proofs.Prelude
use Prelude.{Act, ActResult, Acts, AddsEvent, after, allowance_of, AreRounds, Block, ByCompare, ClearsOf}
use Prelude.{ByDiffering, CellName, Cleared, Compare, Compared, DeskNow, Done, Entry, entry, Event}
use Prelude.{field_0, Form, idle, IsCompared, IsDealt, IsLeft, IsQuiet, IsRound}
use Prelude.{Join, KeepsDesks, Kind, leads, LeavesWeakly, Left, NoneBy, Opening}
use Prelude.{opening_of, Past, Place, Reply, Round, same_kept, Settled, shown_slots, Slots, Split}
use Prelude.{State, state_before_event, Swap, TableNow}
use Rattle.control_word.specs.State.{kind_of_member}
use Rattle.control_word.specs.declared.model.event.Cell.TheVariants as cell
use Rattle.control_word.specs.declared.model.handle.Kind.TheVariants as kind
use Rattle.script_runner.proofs.Tallying.{act_counts}
use Rattle.shared_handle.specs.declared.endings.Ending.{Ending}
use Rattle.shared_handle.specs.declared.endings.Left as out
use Rattle.shared_handle.specs.declared.endings.Left.TheVariants as left
use Rattle.shared_handle.specs.declared.pile.Round.TheVariants.{Ended}
use Rattle.step_threads.specs.declared.programs.act.Act.TheVariants as act

module _ {V : Type 0} where
  allowance_after : (s : State) (d : ℕ) (a : Event V) → KeepsDesks a → (after s d a).allowance ≡ s.allowance
  allowance_after s d (Split to n hs bs) keeps = absurd keeps
  allowance_after s d (Join other) keeps = absurd keeps
  allowance_after s d (Swap (cell.Free c) x y) keeps = refl
  allowance_after s d (Swap (cell.Member o m) x y) keeps = refl
  allowance_after s d (Compare (cell.Free c) e x y true w) keeps = refl
  allowance_after s d (Compare (cell.Member o m) e x y true w) keeps = refl
  allowance_after s d a keeps = refl

  -- nor do events of others change it, which don't name the desk
  allowance_kept : (z : Opening) (later seen : List (Entry V)) (d : ℕ) (x : Event V) → NoneBy d later → KeepsDesks x
      → (leads z (entry d x ∷ (later ++ seen))).allowance d ≡ (leads z seen).allowance d
  allowance_kept z later seen d x none keeps =
      ap (λ (f : ℕ → ℕ). f d) (allowance_after (leads z (later ++ seen)) d x keeps) ∙ (same_kept z later seen d none).may_hold

  -- the desk has the shape and the allowance that it had
  pub record Stays (d e : DeskNow V) : Type 0 where
    pub shape : e.shape ≡ d.shape
    pub allowance : allowance_of e ≡ allowance_of d

  stay_both : (d e f : DeskNow V) → Stays d e → Stays e f → Stays d f
  stay_both d e f a b = record { shape = b.shape ∙ a.shape; allowance = b.allowance ∙ a.allowance }

  stays_counting : (d e : DeskNow V) (n : ℕ) → e ≡ record d { held = n } → Stays d e
  stays_counting d e n is = subst (λ (u : DeskNow V). Stays d u) (sym is) (record { shape = refl; allowance = refl })

  pub stays_added : (d : DeskNow V) (x : Event V) (e : DeskNow V) → AddsEvent d x e → KeepsDesks x → Stays d e
  stays_added d x e adds keeps =
      record {
        shape = adds.same.1;
        allowance = (λ i. (leads (opening_of (adds.same.1 i)) (adds.seen i)).allowance (adds.same.2 i))
            ∙ allowance_kept (opening_of d.shape) adds.between d.seen d.name x adds.quiet keeps;
      }

  pub stays_quiet : (d e : DeskNow V) → IsQuiet d e → Stays d e
  stays_quiet d e quiet =
      record { shape = quiet.shape; allowance = λ i. (leads (opening_of (quiet.shape i)) (quiet.seen i)).allowance (quiet.name i) }

  -- an act
  pub stays_done : (worth : Form → V) (d : DeskNow V) (l : Slots) (a : Act) (r : Reply) (e : DeskNow V) → Done worth d l a r e → Stays d e
  stays_done worth d l a r e (inl done) = stays_quiet d e done.0
  stays_done worth d l a r e (inr done) =
      let adds = done.1 in
      stays_added d done.0 e adds
      (act_counts worth (state_before_event V adds) d.name l false a r (Some done.0) done.2).keeps

  pub stays_acted : (worth : Form → V) (m : ℕ) (t : TableNow V) (taken : Bool) (a : Act) (r : Reply) (u : TableNow V)
      → Acts worth m t taken a r u → Stays t.desk u.desk
  stays_acted worth m t taken a r u acts = stays_done worth t.desk (shown_slots m t.slots) a r u.desk acts.done

  -- a handle that leaves
  stays_left : (d : DeskNow V) (b : Option Block) (p : Option Place) (x : out.Left V) (e : DeskNow V) → IsLeft d b p x e → Stays d e
  stays_left d b p left.Empty e leaves = stays_counting d e (d.held - 1) leaves.1
  stays_left d b p left.Others e leaves = stays_added d _ e leaves.2 tt
  stays_left d b p (left.Last x) e leaves = stays_added d _ e leaves.1 tt

  stays_left_weakly : (d : DeskNow V) (b : Option Block) (p : Option Place) (vacant : Bool) (e : DeskNow V) → LeavesWeakly d b p vacant e
      → Stays d e
  stays_left_weakly d None p vacant e leaves = stays_counting d e (d.held - 1) leaves.0
  stays_left_weakly d (Some b) p vacant e leaves = stays_added d _ e leaves tt

  -- a member that is emptied
  stays_cleared : (k : Kind) (d : DeskNow V) (x : Ending V) (m : ℕ) (y : out.Left V) (e : DeskNow V) → ClearsOf k d x m y e → Stays d e
  stays_cleared kind.Owner d x m y e clears =
      let c = clears.0 in
      stay_both d c.between e (stays_added d _ c.between c.takes.event tt) (stays_left c.between c.block c.place y e c.leaves)
  stays_cleared kind.Weak d x m y e c =
      stay_both d c.between e (stays_added d _ c.between c.takes.event tt) (stays_left_weakly c.between c.block c.place c.vacant e c.leaves)

  -- a round of what is left to end, and some in a row
  pub stays_round : (d : DeskNow V) (xs : List (Ending V)) (round : Round V) (e : DeskNow V) (ys : List (Ending V)) → IsRound d xs round e ys
      → Stays d e
  stays_round d xs Settled e ys is = stays_counting d e d.held is.2
  stays_round d xs (Cleared m gone) e ys is = stays_cleared (kind_of_member d.shape.owners is.top.cleared) d is.top is.top.cleared is.left e is.clears
  stays_round d xs (Ended v) e ys is = stays_added d _ e is.finish.event tt

  pub stays_rounds : (d : DeskNow V) (xs : List (Ending V)) (rs : List (Past V)) (e : DeskNow V) (ys : List (Ending V))
      → AreRounds d xs rs e ys → Stays d e
  stays_rounds d xs [] e ys are = stays_counting d e d.held are.0
  stays_rounds d xs (r ∷ rs) e ys are =
      stay_both d r.desk e (stays_rounds d xs rs r.desk r.pile are.0) (stays_round r.desk r.pile r.round e ys are.1)

  -- a comparison that goes on at once
  stays_by_compare : (worth : Form → V) (m k : ℕ) (t u : TableNow V) (c : CellName) (weak : Bool) → ByCompare V worth m k t u c weak
      → Stays t.desk u.desk
  stays_by_compare worth m k t u c weak x = go (idle act.Drop (shown_slots m x.between.slots) false) refl
    where
      first : Stays t.desk x.between.desk
      first = stays_acted worth m t true (act.Compare k c weak) (Compared true x.held) x.between x.compares

      go : (b : Bool) → idle act.Drop (shown_slots m x.between.slots) false ≡ b → Stays t.desk u.desk
      go false is =
          let drops = x.drops is in
          subst (λ (e : DeskNow V). Stays t.desk e) x.same.0
          (stay_both t.desk x.between.desk x.after.desk first
          (stays_acted worth m x.between false act.Drop (Left drops.last drops.left) x.after drops.acts))
      go true is =
          subst (λ (e : DeskNow V). Stays t.desk e) x.same.0
          (stay_both t.desk x.between.desk x.after.desk first (stays_quiet x.between.desk x.after.desk (x.passes is).0))

  stays_by_differing : (worth : Form → V) (m k : ℕ) (t u : TableNow V) (c : CellName) (weak : Bool) → ByDiffering V worth m k t u c weak
      → Stays t.desk u.desk
  stays_by_differing worth m k t u c weak x = go (idle (act.Put k) (shown_slots m x.between.slots) true) refl
    where
      first : Stays t.desk x.between.desk
      first = stays_acted worth m t true (act.Compare k c weak) (Compared false x.held) x.between x.compares

      go : (b : Bool) → idle (act.Put k) (shown_slots m x.between.slots) true ≡ b → Stays t.desk u.desk
      go false is =
          let puts = x.puts is in
          stay_both t.desk x.between.desk u.desk first
          (stays_acted worth m x.between true (act.Put k) (Left puts.last puts.left) u puts.acts)
      go true is = stay_both t.desk x.between.desk u.desk first (stays_quiet x.between.desk u.desk (x.passes is).0)

pub stays_dealt : (hand : ℕ) (t : TableNow ℕ) (taken : Bool) (a : Act) (x : ActResult) (u : TableNow ℕ) → IsDealt hand t taken a x u
    → Stays t.desk u.desk
stays_dealt hand t taken a x u (inl acted) = stays_acted field_0 (hand + 1) t taken a acted.reply u acted.acts
stays_dealt hand t taken a x u (inr passed) = stays_quiet t.desk u.desk passed.quiet

pub stays_compared : (hand : ℕ) (t : TableNow ℕ) (k : ℕ) (c : CellName) (weak swapped : Bool) (u : TableNow ℕ)
    → IsCompared hand t k c weak swapped u → Stays t.desk u.desk
stays_compared hand t k c weak true u x = stays_by_compare field_0 (hand + 1) k t u c weak x.1
stays_compared hand t k c weak false u x = stays_by_differing field_0 (hand + 1) k t u c weak x.1
