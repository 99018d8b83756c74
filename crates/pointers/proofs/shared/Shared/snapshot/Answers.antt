use Rattle.std.proofs.Common.{Some, None, Ok, Option, rules}
use Rattle.pointers.proofs.Prelude.{Block, DeskNow, IsVisit, Place}
use Rattle.pointers.proofs.shared.Shared.snapshot.Goals as goal

-- a visit that answered so much, where this follows of its answer
visit_map : {V A F : Type 0} (P : V → A → V → Type 0) (Q : V → V → V → Type 0) (f : F) (d : DeskNow V) (b : Option Block) (p : Option Place) (e : DeskNow V)
    (a : A) (v : V) → ((was becomes : V) → P was a becomes → Q was v becomes) → IsVisit P f d b p (Ok a) e → IsVisit Q v d b p (Ok v) e
visit_map P Q f d None p e a v then is = absurd is
visit_map P Q f d (Some b) p e a v then is = (is.0, is.1, then is.0 is.1 is.2, is.3)

pub returns-in-Ok-clause-copy : goal.returns-in-Ok-clause-copy
returns-in-Ok-clause-copy g c =
    let says = c.in_ok-value.ensures.done in
    record {
      before = says.before;
      after = says.after;
      lives = says.lives;
      holds = says.holds;
      allowance = says.allowance;
      does = visit_map _ _ _ says.before _ _ says.after _ _ (λ was becomes is. search rules) says.does;
    }
