-- Tables are absorbed one after the other, the last first.
use Rattle.std.proofs.Common.{◌≡◌, List, [], ◌∷◌, ◌++◌, sym, refl, ap, ◌∙◌, subst, append_assoc}
use Rattle.std.proofs.Common.{append-nil}
use Rattle.script_runner.proofs.TablePrelude.{Absorbs, AbsorbsAll, TableNow}

module _ {V : Type 0} where
  -- of all tables these are left
  pub record Absorbing (before t : TableNow V) (all rest : List (TableNow V)) : Type 0 where
    pub out : List (TableNow V)
    pub parts : all ≡ rest ++ out
    pub gone : AbsorbsAll before out t

  pub begins : (t : TableNow V) (all : List (TableNow V)) → Absorbing t t all all
  begins t all = record { out = []; parts = sym (append-nil all); gone = refl }

  pub goes : (before t u : TableNow V) (all now rest : List (TableNow V)) (x : TableNow V) → Absorbing before t all now
      → now ≡ rest ++ x ∷ [] → Absorbs t x u
      → Absorbing before u all rest
  goes before t u all now rest x a is absorbs =
      record {
        out = x ∷ a.out;
        parts = a.parts ∙ (ap (λ (l : List (TableNow V)). l ++ a.out) is ∙ append_assoc rest (x ∷ []) a.out);
        gone = (t, a.gone, absorbs);
      }

  pub all_gone : (before t : TableNow V) (all now : List (TableNow V)) → Absorbing before t all now → now ≡ [] → AbsorbsAll before all t
  all_gone before t all now a none =
      subst (λ (l : List (TableNow V)). AbsorbsAll before l t) (sym (a.parts ∙ ap (λ (l : List (TableNow V)). l ++ a.out) none)) a.gone
