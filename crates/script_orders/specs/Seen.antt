-- How many states a search has seen. All of it is own.
use Rattle.std.specs.Prelude.{◌≡◌, ℕ, ◌+◌, ◌≤◌, Bool, if◌then◌else◌}
use Rattle.indexmap.specs.IndexSet.{index_set_len}
use Rattle.script_orders.specs.declared.search.Search.{Search}
use Rattle.script_orders.specs.declared.states.States.{States}

-- the states that were put into the set of all, each once
abbrev pub seen : States → ℕ
seen states = index_set_len states.keys

abbrev pub one_where : Bool → ℕ
one_where is_so = if is_so then 1 else 0

-- a search went on: so many states more were seen at least, and no more in all than it may see
pub record GoesOn (more : ℕ) (old new : Search) : Type 0 where
  pub sees : seen old.states + more ≤ seen new.states
  pub within : seen new.states ≤ new.most
  pub most : new.most ≡ old.most

-- no state was seen meanwhile
abbrev pub SeesNone : Search → Search → Type 0
SeesNone old new = (seen new.states ≡ seen old.states) × (new.most ≡ old.most)

-- the states that were seen are no fewer than the outcomes, and no more than there may be
abbrev pub IsCount : ℕ → ℕ → ℕ → Type 0
IsCount outcomes most states = (outcomes ≤ states) × (states ≤ most)
