-- What a domain's history has of each thread of a script.
use Rattle.std.proofs.Common.{◌≡◌, ℕ, suc, ◌-◌, ◌<◌, Bool, true, List, [], ◌∷◌, ◌++◌, Some, None}
use Rattle.std.proofs.Common.{Option, sym, refl, ap, ◌∙◌, subst, arith}
use Rattle.script_runner.proofs.Prelude
use Prelude.{AbsorbsAll, AddsEvent, ahead, AllAbove, AllBare, AllMarked, AllPlay, AreRising}
use Prelude.{AreRounds, Block, Cleared, ClearsOf, counting, desk_names, DeskNow, Event, Form}
use Prelude.{FrameView, Gone, Held, IsClearing, IsLeft, IsLegal, IsPartedInto, IsQuiet, IsRound, Kind}
use Prelude.{leads, LeavesSlot, LeavesWeakly, LetsGo, Marked, opening_of, Over}
use Prelude.{Owner, Part, Past, Place, put_same, Round, Said, Settled, Shape, state_of, TableNow}
use Prelude.{TellsThread, Weak}
use Rattle.control_block.proofs.Own.{goes_by_call, goes_by_join, goes_by_none, goes_in_turn}
use Rattle.control_block.specs.Own as own
use Rattle.control_word.specs.State.{kind_of_member}
use Rattle.control_word.specs.declared.model.event.Event.TheVariants as event
use Rattle.control_word.specs.declared.model.handle.Kind.TheVariants as kind
use Rattle.script_runner.specs.Parting.{LeaveSlots, WindsUp}
use Rattle.script_runner.specs.Tables as table
use Rattle.script_runner.proofs.Ending.{by_quiet}
use Rattle.script_runner.proofs.Logging as log
use Rattle.script_runner.proofs.Putting.{quiet_left}
use Rattle.script_runner.proofs.Seating.{quietly}
use Rattle.script_runner.proofs.Stages.{some_last}
use Rattle.script_runner.specs.Teams.{TeamsPlay}
use Rattle.shared_handle.specs.declared.endings.Ending as pile
use Rattle.shared_handle.specs.declared.endings.Left.TheVariants as left
use Rattle.shared_handle.specs.declared.endings.Left.{Left}
use Rattle.shared_handle.specs.declared.pile.Round.TheVariants.{Ended}

module _ {V : Type 0} where
  -- the desk's history goes on, by some events of its own
  abbrev GoesOn : DeskNow V → DeskNow V → Type 0
  GoesOn d e = (mine : List (Event V)) × own.Goes d mine e

  turn : (d e f : DeskNow V) → GoesOn d e → GoesOn e f → GoesOn d f
  turn d e f x y = (y.0 ++ x.0, goes_in_turn d x.0 e y.0 f x.1 y.1)

  stay : (d e : DeskNow V) → e ≡ d → GoesOn d e
  stay d e is = ([], subst (λ (x : DeskNow V). own.Goes d [] x) (sym is) (goes_by_none d))

  count_on : (d e : DeskNow V) (n : ℕ) → e ≡ counting n d → GoesOn d e
  count_on d e n is = (
    [],
    subst (λ (x : DeskNow V). own.Goes d [] x) (sym is)
        (record { same = (refl, refl, refl); later = []; seen = refl; mine = refl; legal = λ l. l }),
  )

  by_call : (d e : DeskNow V) (v : Event V) → AddsEvent d v e → GoesOn d e
  by_call d e v adds = (v ∷ [], goes_by_call d v e adds)

  left_on : (d e : DeskNow V) (b : Option Block) (p : Option Place) (y : Left V) → IsLeft d b p y e → GoesOn d e
  left_on d e b p left.Empty leaves = count_on d e (d.held - 1) leaves.1
  left_on d e b p left.Others leaves = by_call d e _ leaves.2
  left_on d e b p (left.Last x) leaves = by_call d e _ leaves.1

  weak_on : (d e : DeskNow V) (b : Option Block) (p : Option Place) (vacant : Bool) → LeavesWeakly d b p vacant e → GoesOn d e
  weak_on d e None p vacant leaves = count_on d e (d.held - 1) leaves.0
  weak_on d e (Some b) p vacant leaves = by_call d e _ leaves

  let_on : (d e : DeskNow V) (xs ys : List (pile.Ending V)) (h : Held) (gone : Gone) → LetsGo d xs h gone e ys → GoesOn d e
  let_on d e xs ys (Owner h) gone drops = left_on d e h.block h.place drops.left drops.leaves
  let_on d e xs ys (Weak w) gone leaves = weak_on d e w.block w.place leaves.2.0 leaves.2.1

  slot_on : (d e : DeskNow V) (xs ys : List (pile.Ending V)) (s : table.Slot) → LeavesSlot d xs s e ys → GoesOn d e
  slot_on d e xs ys None leaves = stay d e leaves.0
  slot_on d e xs ys (Some h) leaves = let_on d e xs ys h leaves.0 leaves.1

  slots_on : (d e : DeskNow V) (xs ys : List (pile.Ending V)) (ss : List table.Slot) → LeaveSlots d xs ss e ys → GoesOn d e
  slots_on d e xs ys [] leaves = stay d e leaves.0
  slots_on d e xs ys (s ∷ ss) leaves =
      turn d leaves.0 e (slots_on d leaves.0 xs leaves.1 ss leaves.2) (slot_on leaves.0 e leaves.1 ys s leaves.3)

  clears_on : (k : Kind) (d e : DeskNow V) (x : pile.Ending V) (m : ℕ) (y : Left V) → ClearsOf k d x m y e → GoesOn d e
  clears_on kind.Owner d e x m y c =
      turn d c.0.between e (by_call d c.0.between _ c.0.takes.event) (left_on c.0.between e c.0.block c.0.place y c.0.leaves)
  clears_on kind.Weak d e x m y c =
      turn d c.between e (by_call d c.between _ c.takes.event) (weak_on c.between e c.block c.place c.vacant c.leaves)

  clearing_on : (d e : DeskNow V) (x : pile.Ending V) (y : Left V) → IsClearing d x y e → GoesOn d e
  clearing_on d e x y c = clears_on (kind_of_member d.shape.owners x.cleared) d e x x.cleared y c

  round_on : (d e : DeskNow V) (ys zs : List (pile.Ending V)) (r : Round V) → IsRound d ys r e zs → GoesOn d e
  round_on d e ys zs Settled r = stay d e r.2
  round_on d e ys zs (Cleared q gone) c = clearing_on d e c.top c.left c.clears
  round_on d e ys zs (Ended v) c = by_call d e _ c.finish.event

  rounds_on : (d e : DeskNow V) (ys zs : List (pile.Ending V)) (rs : List (Past V)) → AreRounds d ys rs e zs → GoesOn d e
  rounds_on d e ys zs [] are = stay d e are.0
  rounds_on d e ys zs (r ∷ rs) are = turn d r.desk e (rounds_on d r.desk ys r.pile rs are.0) (round_on r.desk e r.pile zs r.round are.1)

  wound_on : (t : TableNow V) (e : DeskNow V) → WindsUp t e → GoesOn t.desk e
  wound_on t e w =
      turn t.desk w.between e (slots_on t.desk w.between t.endings w.pile t.slots w.handles) (rounds_on w.between e w.pile [] w.rounds w.ends)

  -- a table without an object's handle and with nothing left to end is wound up by no event
  quiet_turn : (d e f : DeskNow V) → IsQuiet d e → IsQuiet e f → IsQuiet d f
  quiet_turn d e f x y = record { shape = y.shape ∙ x.shape; name = y.name ∙ x.name; seen = y.seen ∙ x.seen }

  quiet_same : (d e : DeskNow V) → e ≡ d → IsQuiet d e
  quiet_same d e is = quietly d e d.held is

  quiet_slots : (d e : DeskNow V) (xs ys : List (pile.Ending V)) (ss : List table.Slot) → AllBare ss → LeaveSlots d xs ss e ys
      → IsQuiet d e × (ys ≡ xs)
  quiet_slots d e xs ys [] bare leaves = (quiet_same d e leaves.0, leaves.1)
  quiet_slots d e xs ys (None ∷ ss) bare leaves =
      let x = quiet_slots d leaves.0 xs leaves.1 ss bare.1 leaves.2 in
      (quiet_turn d leaves.0 e x.0 (quiet_same leaves.0 e leaves.3.0), leaves.3.1 ∙ x.1)
  quiet_slots d e xs ys (Some h ∷ ss) bare leaves =
      let x = quiet_slots d leaves.0 xs leaves.1 ss bare.1 leaves.2 in
      let y = quiet_left leaves.0 e leaves.1 ys h leaves.3.0 bare.0 leaves.3.1 in
      (quiet_turn d leaves.0 e x.0 y.0, y.1 ∙ x.1)

  quiet_round : (d e : DeskNow V) (ys zs : List (pile.Ending V)) (r : Round V) → ys ≡ [] → IsRound d ys r e zs → IsQuiet d e × (zs ≡ [])
  quiet_round d e ys zs Settled none r = (quiet_same d e r.2, r.1)
  quiet_round d e ys zs (Cleared q gone) none c = absurd (some_last c.below c.top (sym none ∙ c.were))
  quiet_round d e ys zs (Ended v) none c = absurd (some_last zs c.top (sym none ∙ c.were))

  quiet_rounds : (d e : DeskNow V) (ys zs : List (pile.Ending V)) (rs : List (Past V)) → ys ≡ [] → AreRounds d ys rs e zs → IsQuiet d e × (zs ≡ [])
  quiet_rounds d e ys zs [] none are = (quiet_same d e are.0, are.1 ∙ none)
  quiet_rounds d e ys zs (r ∷ rs) none are =
      let x = quiet_rounds d r.desk ys r.pile rs none are.0 in
      let y = quiet_round r.desk e r.pile zs r.round x.1 are.1 in
      (quiet_turn d r.desk e x.0 y.0, y.1)

  pub quiet_wound : (t : TableNow V) (e : DeskNow V) → AllBare t.slots → t.endings ≡ [] → WindsUp t e → IsQuiet t.desk e
  quiet_wound t e bare none w =
      let x = quiet_slots t.desk w.between t.endings w.pile t.slots bare w.handles in
      quiet_turn t.desk w.between e x.0 (quiet_rounds w.between e w.pile [] w.rounds (x.1 ∙ none) w.ends).0

-- a table that is ready to be absorbed: its thread is over, and nothing is left
record IsReady {V : Type 0} (worth : Form → V) (z : Shape) (name : ℕ) (part : Part) (u : TableNow V) (lines : List Said) : Type 0 where
  pub last : FrameView
  pub tells : TellsThread worth part name u.desk last lines
  pub over : ahead last ≡ Over
  pub bare : AllBare u.slots
  pub settled : u.endings ≡ []
  pub shape : u.desk.shape ≡ z

module _ {V : Type 0} (worth : Form → V) (z : Shape) where
  abbrev AllReady : List Part → List (TableNow V) → List (TableNow V) → List (List Said) → Type 0
  AllReady [] [] [] [] = Unit {0}
  AllReady (p ∷ ps) (t ∷ ts) (u ∷ us) (l ∷ ls) = IsReady worth z t.desk.name p u l × AllReady ps ts us ls
  AllReady _ _ _ _ = ⊥

  played : (d between : DeskNow V) (a k : ℕ) (parts : List Part) (lent left : List (TableNow V)) (lines : List (List Said))
      → d.shape ≡ z → IsPartedInto d a k lent between → AllPlay worth parts lent left lines → AllReady parts lent left lines
  played d between a k [] [] [] [] of parted all = tt
  played d between a k (p ∷ ps) (t ∷ ts) (u ∷ us) (l ∷ ls) of parted all =
      let splits = parted.1 in
      let y = all.0 in (
        record {
          last = y.last;
          tells = y.takes p t.desk.name (log.begins worth p d a k [] parted.0 t.desk splits);
          over = y.over;
          bare = y.bare;
          settled = y.settled;
          shape = y.shape ∙ (splits.beside.1 ∙ of);
        },
        played parted.0 between a k ps ts us ls (splits.event.same.1 ∙ of) parted.2 all.1,
      )
  played d between a k [] [] [] (l ∷ ls) of parted all = absurd all
  played d between a k [] [] (u ∷ us) lines of parted all = absurd all
  played d between a k [] (t ∷ ts) left lines of parted all = absurd all
  played d between a k (p ∷ ps) [] left lines of parted all = absurd all
  played d between a k (p ∷ ps) (t ∷ ts) [] lines of parted all = absurd all
  played d between a k (p ∷ ps) (t ∷ ts) (u ∷ us) [] of parted all = absurd all

  same_shape : (t u : TableNow V) (left : List (TableNow V)) → AbsorbsAll t left u → u.desk.shape ≡ t.desk.shape
  same_shape t u [] is = ap (λ (x : TableNow V). x.desk.shape) is
  same_shape t u (x ∷ xs) all = all.2.desks.same.1 ∙ same_shape t all.0 xs all.1

  absorbed : (t u : TableNow V) (last : DeskNow V) (parts : List Part) (lent left : List (TableNow V)) (lines : List (List Said))
      → t.desk.shape ≡ z → AbsorbsAll t left u → AllReady parts lent left lines → GoesOn u.desk last
      → AllMarked worth (opening_of z) last.seen (desk_names lent) parts lines
  absorbed t u last [] [] [] [] of all ready goes = tt
  absorbed t u last (p ∷ ps) (q ∷ qs) (x ∷ xs) (l ∷ ls) of all ready goes =
      let m = all.0 in
      let joins = all.2.desks in
      let bare = all.2.bare in
      let r = ready.0 in
      let n = q.desk.name in
      let quiet = quiet_wound x bare r.bare r.settled all.2.winds_up in
      let there = by_quiet worth x.desk bare quiet r.last l p n r.tells in
      let shape : m.desk.shape ≡ z = same_shape t m xs all.1 ∙ of in
      let marked : Marked worth (opening_of u.desk.shape) u.desk.seen n p l =
      subst (λ k. Marked worth (opening_of k) u.desk.seen n p l) (sym joins.same.1)
      (log.is_joined worth p n m.desk bare u.desk r.last l there r.over (quiet.shape ∙ (r.shape ∙ sym shape)) joins) in
      let legal : IsLegal (opening_of u.desk.shape) u.desk.seen =
      subst (λ k. IsLegal (opening_of k) u.desk.seen) (sym joins.same.1) joins.legal in
      let joined : (state_of u.desk).joined n ≡ true =
      ap (λ k. (leads (opening_of k) u.desk.seen).joined n) joins.same.1
      ∙ (ap (λ h. (leads (opening_of m.desk.shape) h).joined n) joins.seen
      ∙ put_same (leads (opening_of m.desk.shape) joins.before).joined bare.name true n (sym there.name)) in
      let then : Marked worth (opening_of last.shape) last.seen n p l =
      log.stays_joined worth p n u.desk last goes.0 l legal joined goes.1 marked in
      let to : last.shape ≡ z = goes.1.same.1 ∙ (joins.same.1 ∙ shape) in (
        subst (λ k. Marked worth (opening_of k) last.seen n p l) to then,
        absorbed t m last ps qs xs ls of all.1 ready.1 (turn m.desk u.desk last (event.Join bare.name ∷ [], goes_by_join m.desk bare u.desk joins) goes),
      )
  absorbed t u last [] [] [] (l ∷ ls) of all ready goes = absurd ready
  absorbed t u last [] [] (x ∷ xs) [] of all ready goes = absurd ready
  absorbed t u last [] [] (x ∷ xs) (l ∷ ls) of all ready goes = absurd ready
  absorbed t u last [] (q ∷ qs) [] [] of all ready goes = absurd ready
  absorbed t u last [] (q ∷ qs) [] (l ∷ ls) of all ready goes = absurd ready
  absorbed t u last [] (q ∷ qs) (x ∷ xs) [] of all ready goes = absurd ready
  absorbed t u last [] (q ∷ qs) (x ∷ xs) (l ∷ ls) of all ready goes = absurd ready
  absorbed t u last (p ∷ ps) [] [] [] of all ready goes = absurd ready
  absorbed t u last (p ∷ ps) [] [] (l ∷ ls) of all ready goes = absurd ready
  absorbed t u last (p ∷ ps) [] (x ∷ xs) [] of all ready goes = absurd ready
  absorbed t u last (p ∷ ps) [] (x ∷ xs) (l ∷ ls) of all ready goes = absurd ready
  absorbed t u last (p ∷ ps) (q ∷ qs) [] [] of all ready goes = absurd ready
  absorbed t u last (p ∷ ps) (q ∷ qs) [] (l ∷ ls) of all ready goes = absurd ready
  absorbed t u last (p ∷ ps) (q ∷ qs) (x ∷ xs) [] of all ready goes = absurd ready

module _ {V : Type 0} where
  parted_shape : (d e : DeskNow V) (a k : ℕ) (ts : List (TableNow V)) → IsPartedInto d a k ts e → e.shape ≡ d.shape
  parted_shape d e a k [] is = ap (λ (x : DeskNow V). x.shape) is
  parted_shape d e a k (t ∷ ts) parted = parted_shape parted.0 e a k ts parted.2 ∙ parted.1.event.same.1

  -- the tables' names rise
  names_above : (d e : DeskNow V) (a k : ℕ) (ts : List (TableNow V)) → IsPartedInto d a k ts e
      → ((n : ℕ) → n < (state_of d).names → AllAbove n (desk_names ts)) × AreRising (desk_names ts)
  names_above d e a k [] parted = (λ n lt. tt, tt)
  names_above d e a k (t ∷ ts) parted =
      let m = parted.0 in
      let splits = parted.1 in
      let adds = splits.event in
      let z = opening_of d.shape in
      let ih = names_above m e a k ts parted.2 in
      let legal = subst (IsLegal z) adds.seen adds.legal in
      let to : t.desk.name ≡ (leads z (adds.between ++ d.seen)).names = legal.1.asks.0 in
      let more : (state_of m).names ≡ suc t.desk.name =
      ap (λ k. (leads (opening_of k) m.seen).names) adds.same.1 ∙ (ap (λ h. (leads z h).names) adds.seen ∙ ap suc (sym to)) in
      let above = ih.0 t.desk.name (omega (arith, more)) in
      let low = splits.named in
      (λ n lt. (omega (arith, lt, low), ih.0 n (omega (arith, lt, low, more))), (above, ih.1))

  pub teams_play : TeamsPlay V
  teams_play worth parts lines t u between last lent left a k parted all absorbs winds =
      let z = t.desk.shape in (
        absorbed worth z (record t { desk = between }) u last parts lent left lines (parted_shape t.desk between a k lent parted) absorbs
            (played worth z t.desk between a k parts lent left lines refl parted all) (wound_on u last winds),
        (names_above t.desk between a k lent parted).1,
      )
