-- What one desk has, where another gets or loses something.
use Rattle.std.proofs.Common.{◌≡◌, ℕ, Bool, ◌≢◌, List, ◌∷◌, map, ◌==◌, sym, refl, ap, ◌∙◌, ne_eqb}
use Rattle.control_word.proofs.Prelude.{bag, cond-false, cond_both, gets, has_object, Held, held}
use Rattle.control_word.proofs.Prelude.{loses, NumberedHandle, renamed, same_held, State, stock}
use Rattle.control_word.proofs.Prelude.{Stored, stored, without}
use Rattle.control_word.proofs.lists.Parts.{part, part_map, part_other, part_without}
use Rattle.control_word.proofs.lists.Tallies.{held_true}
use Rattle.control_word.specs.Events.{vacates}

abbrev pub desk_of : Held → ℕ
desk_of x = x.desk

abbrev pub keeper : Stored → ℕ
keeper x = x.desk

-- a handle that another desk gets or loses is not in the bag
pub bag_gets : (s : State) (e d : ℕ) (x : NumberedHandle) → e ≢ d → bag (gets e x s) d ≡ bag s d
bag_gets s e d x n = cond_both (has_object x) (held e x ∷ s.hands) s.hands (λ l. part desk_of d l ≡ part desk_of d s.hands)
    (λ t. part_other desk_of d (held e x) s.hands n) (λ t. refl)

pub bag_loses : (s : State) (e d : ℕ) (x : NumberedHandle) → e ≢ d → bag (loses e x s) d ≡ bag s d
bag_loses s e d x n =
    cond_both (has_object x) (without same_held (held e x) s.hands) s.hands (λ l. part desk_of d l ≡ part desk_of d s.hands)
    (λ t. part_without desk_of d same_held held_true (held e x) s.hands n) (λ t. refl)

renamed_else : (other e x : ℕ) → x ≢ other → renamed other e x ≡ x
renamed_else other e x n = cond-false _ e x (ne_eqb x other n)

-- who isn't d is not renamed to d
pub renamed_apart : (other e d x : ℕ) → e ≢ d → x ≢ d → renamed other e x ≢ d
renamed_apart other e d x n m = cond_both (x == other) e x (λ y. y ≢ d) (λ t. n) (λ t. m)

pub bag_renamed : (l : List Held) (d e other : ℕ) → e ≢ d → d ≢ other
    → part desk_of d (map (λ (y : Held). held (renamed other e y.desk) y.handle) l) ≡ part desk_of d l
bag_renamed l d e other n m =
    part_map desk_of d (λ (y : Held). held (renamed other e y.desk) y.handle) l
    (λ x q. ap (λ k. held k x.handle) (renamed_else other e x.desk (λ r. m (sym q ∙ r)))) (λ x q. renamed_apart other e d x.desk n q)

pub stock_renamed : (l : List Stored) (d e other : ℕ) → e ≢ d → d ≢ other
    → part keeper d (map (λ (y : Stored). stored (renamed other e y.desk) y.block) l) ≡ part keeper d l
stock_renamed l d e other n m =
    part_map keeper d (λ (y : Stored). stored (renamed other e y.desk) y.block) l
    (λ x q. ap (λ k. stored k x.block) (renamed_else other e x.desk (λ r. m (sym q ∙ r)))) (λ x q. renamed_apart other e d x.desk n q)

pub stock_vacates : (s : State) (v : Bool) (e d b : ℕ) → e ≢ d → stock (vacates v e b s) d ≡ stock s d
stock_vacates s v e d b n = cond_both v (stored e b ∷ s.stores) s.stores (λ l. part keeper d l ≡ part keeper d s.stores)
    (λ t. part_other keeper d (stored e b) s.stores n) (λ t. refl)
