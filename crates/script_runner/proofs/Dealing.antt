-- What is done for an act that asks for an empty hand.
use Rattle.std.proofs.Common.{◌≡◌, ℕ, Bool, false, List, sym, subst, inl}
use Rattle.script_runner.proofs.Prelude.{Act, ActResult, IsActed, IsDealt, Kind, TableNow}
use Rattle.script_runner.specs.Handling.{Asks}

module _ (ks : List Kind) (hand : ℕ) (t : TableNow ℕ) (taken : Bool) (a : Act) (asks : Asks ks hand taken t a) where
  pub asked : (b : Act) → a ≡ b → Asks ks hand taken t b
  asked b is = subst (λ (c : Act). Asks ks hand taken t c) is asks

pub dealt_free : (hand : ℕ) (t u : TableNow ℕ) (taken : Bool) (a b : Act) (x : ActResult) → a ≡ b → taken ≡ false → IsActed hand t false b x u
    → IsDealt hand t taken a x u
dealt_free hand t u taken a b x is free h =
    inl (subst (λ (c : Act). IsActed hand t taken c x u) (sym is) (subst (λ (full : Bool). IsActed hand t full b x u) (sym free) h))
