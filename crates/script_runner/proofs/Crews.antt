-- Tables for a team, and how the desk that has all they leave closes its domain.
use Rattle.std.proofs.Common.{◌≡◌, ℕ, List, [], ◌∷◌, ◌++◌, sym, refl, ap, ◌∙◌, subst}
use Rattle.script_runner.proofs.TablePrelude.{allowance_of, bag_of, Belongs, CanClose, DeskNow}
use Rattle.script_runner.proofs.TablePrelude.{DomainNow, endings_of, FitsSlots, IsLegal, IsPartedInto}
use Rattle.script_runner.proofs.TablePrelude.{nil_from_length, opening_of, Shape, SplitsOff, TableNow}
use Rattle.control_block.specs.Standing.{Standing}
use Rattle.script_runner.proofs.Filling.{total_one}

module _ {V : Type 0} where
  -- one table more
  pub parted_more : (d m e : DeskNow V) (a k : ℕ) (ts : List (TableNow V)) (t : TableNow V) → IsPartedInto d a k ts m → SplitsOff m a k [] e t.desk
      → IsPartedInto d a k (ts ++ t ∷ []) e
  parted_more d m e a k [] t is parts = (e, subst (λ (x : DeskNow V). SplitsOff x a k [] e t.desk) is parts, refl)
  parted_more d m e a k (s ∷ ts) t is parts = (is.0, is.1, parted_more is.0 m e a k ts t is.2 parts)

  -- a sole desk without handles can close its domain
  pub can_close : (domain : DomainNow) (d : DeskNow V) → Belongs d domain → Standing d → FitsSlots d [] → endings_of d ≡ 0
      → allowance_of d ≡ domain.shape.allowance → CanClose d domain.shape
  can_close domain d here stands fits none sole =
      record {
        of = here.shape;
        sole = sole ∙ sym (ap (λ (s : Shape). s.allowance) here.shape);
        legal = subst (λ (s : Shape). IsLegal (opening_of s) d.seen) here.shape stands.legal;
        bare = (nil_from_length (bag_of d) (sym (total_one (bag_of d)) ∙ fits.bag (λ h. 1)), fits.held, none);
      }
