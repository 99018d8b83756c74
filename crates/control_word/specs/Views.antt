-- What the desks know, and what holds between any two steps. All of it is own.
use Rattle.std.specs.Prelude.{◌≡◌, ℕ, zero, suc, ◌+◌, ◌*◌, ◌<◌, ◌≤◌, true, false, cond}
use Rattle.std.specs.Prelude.{◌==◌, ◌⊎◌, List, [], ◌∷◌, ◌++◌, length, nat_lt, slice_index}
use Rattle.std.specs.Prelude.{Option, Some, None}
use mathlib.Core.Option.{some}
use lib.ListN.{get_elem?}
use Rattle.control_word.specs.declared.model.event.Event.{Event}
use Rattle.control_word.specs.declared.model.event.Event.TheVariants.{Split, Join}
use Rattle.control_word.specs.declared.model.event.Entry.{Entry}
use Rattle.control_word.specs.declared.model.handle.Kind.TheVariants.{Owner}
use Rattle.control_word.specs.declared.model.view.View.{View}
use Rattle.control_word.specs.declared.model.view.Pending.{Pending}
use Rattle.control_word.specs.declared.model.view.Pending.TheVariants.{Idle, Making, Paying, Visiting, Parting, Merging}
use Rattle.control_word.specs.Handles.{handle}
use Rattle.control_word.specs.Layout.{spot}
use Rattle.control_word.specs.State.{Opening, State, ending, Has, held, stored, IsActing, InShape}
use Rattle.control_word.specs.Histories.{leads, value, IsLegal}
use Rattle.control_word.specs.Words.{Shows, cell_spot, counts_at, blocks_of, bank}
use Rattle.control_word.specs.Limits.{most_members, cell_funds, one_fund, one_taken}

abbrev pub total : {A : Type 0} → (A → ℕ) → List A → ℕ
total f [] = 0
total f (x ∷ xs) = f x + total f xs

module _ {V : Type 0} where
  -- what a half-done Make or visit has added to a word: the weak word's 1, or the shut door
  abbrev pub adds : Pending V → ℕ → ℕ
  adds (Making b known) i = cond (i == spot b.0 1) 1 0
  adds (Visiting o p word v) i = cond (i == word) 4 0
  adds _ i = 0

  -- the funds that a half-done cell call has out on a word
  abbrev pub pays : Pending V → ℕ → ℕ
  pays (Paying k o p word funds loads) i = cond (i == word) funds 0
  pays _ i = 0

  -- the loads under way on a word: handles that are not in its number yet
  abbrev pub owes : Pending V → ℕ → ℕ
  owes (Paying k o p word funds loads) i = cond (i == word) loads 0
  owes _ i = 0

  abbrev pub added : List (View V) → ℕ → ℕ
  added views i = total (λ v. adds v.pending i) views

  abbrev pub paid : List (View V) → ℕ → ℕ
  paid views i = total (λ v. pays v.pending i) views

  abbrev pub owed : List (View V) → ℕ → ℕ
  owed views i = total (λ v. owes v.pending i) views

  -- what is on a word besides the state's number: what half-done calls added, the funds, and in a cell's word how many
  -- were taken
  abbrev pub more : Opening → State → List (View V) → (ℕ → ℕ) → ℕ → ℕ
  more z s views taken i = added views i + one_fund * (paid views i + bank z s taken i) + one_taken * taken i

  -- What a half-done call of desk d knows. One that has funds out or shut a door holds a handle of their block
  abbrev pub Fits : List ℕ → State → (ℕ → Option V) → ℕ → Pending V → Type 0
  Fits words s values d (Making b known) = Has (stored d b.0) s.stores
      × ((j : ℕ) → j < 5 → slice_index words (spot b.0 (2 + j)) ≡ slice_index known j)
  Fits words s values d (Paying k o p word funds loads) =
      Has (held d (handle k (Some o) p)) s.hands × (word ≡ counts_at (blocks_of s) k o) × (loads ≤ funds)
      × (loads ≤ 1) × (funds ≤ cell_funds)
  Fits words s values d (Visiting o p word v) =
      Has (held d (handle Owner (Some o) p)) s.hands × (word ≡ spot (blocks_of s o) 2) × (values o ≡ Some v)
  Fits words s values d _ = Unit {0}

  -- the other desk of a split or a join
  abbrev pub Names : Event V → ℕ → Type 0
  Names (Split to n hs bs) d = to ≡ d
  Names (Join other) d = other ≡ d
  Names _ d = ⊥

  -- no event of the list is d's, and none names d
  abbrev pub NoneBy : ℕ → List (Entry V) → Type 0
  NoneBy d [] = Unit {0}
  NoneBy d (e ∷ h) = (e.desk ≡ d → ⊥) × (Names e.event d → ⊥) × NoneBy d h

  -- the list seen is the earlier part of the history, and has all events of the desk
  abbrev pub Knows : ℕ → List (Entry V) → List (Entry V) → Type 0
  Knows d history seen = (later : List (Entry V)) × (history ≡ later ++ seen) × NoneBy d later

  -- the second desk of a half-done split or join
  abbrev pub IsSecond : Pending V → ℕ → Type 0
  IsSecond (Parting to) d = to ≡ d
  IsSecond (Merging other mine others) d = other ≡ d
  IsSecond _ d = ⊥

  abbrev pub StandsFor : View V → ℕ → Type 0
  StandsFor v d = (v.name ≡ d) ⊎ IsSecond v.pending d

  -- a half-done join has seen all that each of the two had
  abbrev pub HasBoth : ℕ → List (Entry V) → Pending V → Type 0
  HasBoth d seen (Merging other mine others) = Knows d seen mine × Knows other seen others
  HasBoth d seen _ = Unit {0}

  -- what is so of one desk's view
  pub record Seated (words : List ℕ) (z : Opening) (history : List (Entry V)) (v : View V) : Type 0 where
    pub knows : (d : ℕ) → StandsFor v d → Knows d history v.seen
    pub acts : (d : ℕ) → StandsFor v d → IsActing (leads z history) d
    pub apart : (d : ℕ) → IsSecond v.pending d → v.name ≡ d → ⊥
    pub both : HasBoth v.name v.seen v.pending
    pub fits : Fits words (leads z history) (value z history) v.name v.pending

  -- what is so of all views: unspent ones stand for different desks, and one has seen all
  pub record Team (z : Opening) (words : List ℕ) (views : List (View V)) (history : List (Entry V)) : Type 0 where
    pub seated : (i : ℕ) (v : View V) → get_elem? views i ≡ some v → v.spent ≡ false
        → Seated words z history v
    pub rests : (i : ℕ) (v : View V) → get_elem? views i ≡ some v → v.spent ≡ true → v.pending ≡ Idle
    pub names : (i j : ℕ) (v w : View V) → get_elem? views i ≡ some v → get_elem? views j ≡ some w
        → v.spent ≡ false → w.spent ≡ false
        → (d : ℕ) → StandsFor v d → StandsFor w d → i ≡ j
    pub whole : (i : ℕ) × (v : View V) × (get_elem? views i ≡ some v)
        × (v.spent ≡ false) × (v.seen ≡ history)

-- of a cell that holds no object nothing was taken
pub record Bare (z : Opening) (s : State) (taken : ℕ → ℕ) : Type 0 where
  pub members : (b m : ℕ) → InShape z b → m < most_members → ((s.object (s.latest b)).member m).object ≡ None
      → taken (spot b (7 + m)) ≡ 0
  pub frees : (c : ℕ) → c < z.cells → (s.cell c).object ≡ None → taken (cell_spot z c) ≡ 0

module _ {V : Type 0} where
  -- between any two steps
  pub record Stands (z : Opening) (words : List ℕ) (views : List (View V)) (history : List (Entry V)) : Type 0 where
    pub taken : ℕ → ℕ
    pub legal : IsLegal z history
    pub shows : Shows z words (owed views) (more z (leads z history) views taken) (leads z history)
    pub most : (i : ℕ) → taken i ≤ cell_funds
    pub blank : (b k : ℕ) → InShape z b → k < 7 → taken (spot b k) ≡ 0
    pub bare : Bare z (leads z history) taken
    pub doors : (b : ℕ) → InShape z b → added views (spot b 2) ≤ 4
    pub team : Team z words views history

  -- the desk has seen all of the history, and its half-done call is this
  abbrev pub sees_as : View V → Pending V → List (Entry V) → View V
  sees_as v p h = record v { pending = p; seen = h }

  abbrev pub sees : View V → List (Entry V) → View V
  sees v h = sees_as v Idle h

  -- the half-done call names the block: its own vacant one, or that of a handle or a cell's value of its
  abbrev pub NamesBlock : State → Pending V → ℕ → Type 0
  NamesBlock s (Making c known) b = c.0 ≡ b
  NamesBlock s (Paying k o p word funds loads) b = (s.object o).block ≡ b
  NamesBlock s (Visiting o p word v) b = (s.object o).block ≡ b
  NamesBlock s _ b = ⊥

  -- no object of the block is ending, and no half-done call names it
  pub record IsAtRest (s : State) (views : List (View V)) (b : ℕ) : Type 0 where
    pub still : (o d : ℕ) → (s.object o).block ≡ b → (s.object o).phase ≡ ending d → ⊥
    pub unnamed : (i : ℕ) (v : View V) → get_elem? views i ≡ some v → NamesBlock s v.pending b → ⊥

  -- the views of desks with the names d to d + n - 1 at the start
  abbrev pub fresh : ℕ → ℕ → List (View V)
  fresh d zero = []
  fresh d (suc n) = record { name = d; spent = false; pending = Idle; seen = [] } ∷ fresh (suc d) n

  -- the longer of two lists
  abbrev pub longer : List (Entry V) → List (Entry V) → List (Entry V)
  longer xs ys = cond (nat_lt (length xs) (length ys)) ys xs

  -- a view that is cut in two after a split: what stays, and what comes
  abbrev pub stays : View V → View V
  stays v = sees v v.seen

  abbrev pub comes : View V → ℕ → View V
  comes v to = record { name = to; spent = false; pending = Idle; seen = v.seen }

  -- two views that are joined: the first goes on, and the other is spent
  abbrev pub together : View V → View V → View V
  together v w = sees_as v (Merging w.name v.seen w.seen) (longer v.seen w.seen)

  abbrev pub used_up : View V
  used_up = record { name = 0; spent = true; pending = Idle; seen = [] }
