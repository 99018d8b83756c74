-- Nothing that a map or an entry owns belongs to one thread.
use Rattle.std.proofs.Common.{ℕ, zero, suc, List, [], ◌∷◌, Some, None, Option}
use Rattle.ghost_map.proofs.Prelude.{Cell, chain, Gv, path, state, tokens}
use base.Shift.{Keyless}
use Rattle.ghost_map.specs.Chain.{blank_owns, entry_path, map_owns}

pub blank_keyless : (name : ℕ) → Keyless (blank_owns name)
unfolding blank_owns
blank_keyless name = (tt, tt)

pub tokens_keyless : (a k : ℕ) → Keyless (tokens a k)
tokens_keyless a k = λ e c. tt

module _ {A : Type 0} (code : A → Gv) where
  state_keyless : (e : Option A) (c : Cell A) → Keyless (state e c)
  state_keyless (Some x) c = λ _. tt
  state_keyless None c = tt

  chain_keyless : (es : List (Option A)) (γ : ℕ) → Keyless (chain code es γ)
  chain_keyless [] γ = (tt, tt)
  chain_keyless (e ∷ es) γ = λ c. (tt, (tt, (state_keyless e c, chain_keyless es c.1.0)))

  path_keyless : (i a : ℕ) (x : A) (γ : ℕ) → Keyless (path code i a x γ)
  path_keyless zero a x γ = λ c. (tt, λ _. tt)
  path_keyless (suc i) a x γ = λ c. (tt, path_keyless i a x c.1.0)

  pub map_keyless : (name : ℕ) (es : List (Option A)) → Keyless (map_owns code name es)
  unfolding map_owns
  map_keyless name es = chain_keyless es name

  pub entry_keyless : (name i a : ℕ) (x : A) → Keyless (entry_path code name i a x)
  unfolding entry_path
  entry_keyless name i a x = path_keyless i a x name
