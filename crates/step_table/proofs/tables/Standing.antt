-- Each atomic step keeps the table.
use Rattle.std.proofs.Common.{◌≡◌, ℕ, zero, suc, ◌<◌, false, ◌≢◌, List, [], ◌∷◌, length, get_or}
use Rattle.std.proofs.Common.{set, sym, refl, ap, ◌∙◌, subst, ⊎_elim, arith, length-set}
use Rattle.std.proofs.Common.{get_or-set_other, get_or-set_same}
use Rattle.step_table.proofs.Prelude
use Prelude.{AtomicStep, cases_eq, Claim, Clear, Count, Entry, Expired, Extent, Finish}
use Prelude.{ghost_after_step, GhostState, history_after, Leave, Lock, model_state, Nothing}
use Prelude.{OnCell, OnShelf, opening, Pending, pending, pending_after, Prepare, Read, Ready}
use Prelude.{sees_as, Share, Stands, State, TableInvariant, used_up, View, view_in, views_after}
use Prelude.{WeakLeave, WeakShare, words_after, Write}
use mathlib.Core.Option.{some}
use lib.ListN.{get_elem?}
use Rattle.control_word.specs.Steps.{Point}
use Rattle.step_table.specs.GhostStates.{Seats}
use Rattle.step_table.proofs.tables.CellAtomicSteps.{framed}
use Rattle.step_table.proofs.tables.ShelfAtomicSteps.{shelf_framed}
use Rattle.step_table.proofs.tables.Doors.{doors_after, whole_after}

at_get : {A : Type 0} (l : List A) (i : ℕ) (d : A) → i < length l → get_elem? l i ≡ some (get_or l i d)
at_get [] i d lt = absurd (omega arith)
at_get (x ∷ xs) zero d lt = refl
at_get (x ∷ xs) (suc i) d lt = at_get xs i d (omega arith)

-- the table as desk d finds it
abbrev pub point : GhostState → ℕ → Point Nothing
point v d = record { opening = opening v.extent; words = v.words; views = v.views; history = v.history; seat = d; view = view_in v.views d }

pub ready : (v : GhostState) (d : ℕ) (p : Pending Nothing) → TableInvariant v → d < v.extent.actors → pending v d ≡ p → Ready (point v d) p
ready v d p kept lt is =
    record {
      stands = kept.stands;
      seated = at_get v.views d used_up (let s = kept.seats.size in omega arith);
      awake = kept.seats.awake d lt;
      pending = is;
    }

-- a desk's view is another
pub seats_set : (views : List (View Nothing)) (n d : ℕ) (w : View Nothing) → Seats views n → d < n → w.name ≡ d → w.spent ≡ false
    → Seats (set views d w) n
seats_set views n d w seats lt name awake =
    let inside : d < length views = let s = seats.size in omega arith in
    record {
      size = length-set views d w ∙ seats.size;
      names = λ e le.
          ⊎_elim (λ (is : e ≡ d). subst (λ (q : ℕ). (view_in (set views d w) q).name ≡ q) (sym is) (ap (λ (x : View Nothing). x.name)
          (get_or-set_same views d w used_up inside) ∙ name))
          (λ (ne : e ≢ d). ap (λ (x : View Nothing). x.name) (get_or-set_other views d e w used_up ne) ∙ seats.names e le) (cases_eq e d);
      awake = λ e le.
          ⊎_elim (λ (is : e ≡ d). subst (λ (q : ℕ). (view_in (set views d w) q).spent ≡ false) (sym is) (ap (λ (x : View Nothing). x.spent)
          (get_or-set_same views d w used_up inside) ∙ awake))
          (λ (ne : e ≢ d). ap (λ (x : View Nothing). x.spent) (get_or-set_other views d e w used_up ne) ∙ seats.awake e le) (cases_eq e d);
    }

-- no atomic step changes an allowance
same_allowance : (v : GhostState) (d : ℕ) (x : AtomicStep) → (model_state (ghost_after_step v d x)).allowance ≡ (model_state v).allowance
same_allowance v d (Prepare b) = refl
same_allowance v d (Write b j n) = refl
same_allowance v d (Claim b enabled null fields) = refl
same_allowance v d (Share b p q) = refl
same_allowance v d (Leave b p last) = refl
same_allowance v d (WeakShare b p) = refl
same_allowance v d (WeakLeave b p vacant) = refl
same_allowance v d (Lock b p got) = refl
same_allowance v d (Count k b p n) = refl
same_allowance v d (Expired k b p e) = refl
same_allowance v d (Read b p n) = refl
same_allowance v d (Clear b m) = refl
same_allowance v d (Finish b vacant) = refl
same_allowance v d (OnShelf b x) = ap (λ (s : State). s.allowance) (shelf_framed v d b x).2
same_allowance v d (OnCell x) = (framed v d x).allowance

-- what an atomic step leaves
pub kept_after : (v : GhostState) (d : ℕ) (x : AtomicStep) → TableInvariant v → d < v.extent.actors
    → Stands (opening v.extent) (words_after v x) (views_after v d x) (history_after v d x) → TableInvariant (ghost_after_step v d x)
kept_after v d x kept lt stands =
    record {
      stands = stands;
      seats = seats_set v.views v.extent.actors d (sees_as (view_in v.views d) (pending_after v d x) (history_after v d x)) kept.seats lt
          (kept.seats.names d lt)
          (kept.seats.awake d lt);
      doors = doors_after v d x (let s = kept.seats.size in omega arith) kept.doors;
      whole = whole_after v d x kept.whole stands.legal;
      proper = kept.proper;
      allowed = same_allowance v d x ∙ kept.allowed;
    }

-- the table as the code leaves it
pub ghost_as : (v : GhostState) (d : ℕ) (x : AtomicStep) (words : List ℕ) (history : List (Entry Nothing)) (views : List (View Nothing))
    → words ≡ words_after v x → (history ≡ history_after v d x) × (views ≡ views_after v d x)
    → ◌≡◌ {A = GhostState} (record { extent = v.extent; words = words; views = views; history = history }) (ghost_after_step v d x)
ghost_as v d x words history views same past =
    ap (λ (w : List ℕ). record { extent = v.extent; words = w; views = views; history = history }) same
    ∙ ap (λ (h : List (Entry Nothing)). record { extent = v.extent; words = words_after v x; views = views; history = h }) past.0
    ∙ ap (λ (u : List (View Nothing)). record { extent = v.extent; words = words_after v x; views = u; history = history_after v d x }) past.1

-- what the code leaves stands for the history
pub kept_as : (v : GhostState) (d : ℕ) (x : AtomicStep) (extent : Extent) (words : List ℕ) (history : List (Entry Nothing)) (views : List (View Nothing))
    → TableInvariant (ghost_after_step v d x) → extent ≡ v.extent → words ≡ words_after v x → (history ≡ history_after v d x)
    × (views ≡ views_after v d x)
    → TableInvariant (record { extent = extent; words = words; views = views; history = history })
kept_as v d x extent words history views kept at same past =
    subst (λ (e : Extent). TableInvariant (record { extent = e; words = words; views = views; history = history })) (sym at)
    (subst (λ (w : GhostState). TableInvariant w) (sym (ghost_as v d x words history views same past)) kept)

-- the table that a function is given, as its clauses see it
pub kept_now : (extent : Extent) (words : List ℕ) (history : List (Entry Nothing)) (views : List (View Nothing)) (v : GhostState)
    → TableInvariant (record { extent = extent; words = words; views = views; history = history })
    → ◌≡◌ {A = GhostState} (record { extent = extent; words = words; views = views; history = history }) v → TableInvariant v
kept_now extent words history views v kept is = subst (λ (w : GhostState). TableInvariant w) is kept

-- a word that the code reads
pub found : (items words : List ℕ) (i j x : ℕ) → items ≡ words → i ≡ j → x ≡ get_or items i 0 → x ≡ get_or words j 0
found items words i j x same is read = read ∙ ap (λ (l : List ℕ). get_or l i 0) same ∙ ap (λ (k : ℕ). get_or words k 0) is
