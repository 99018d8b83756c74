-- What a look at a word tells of the desks that made it.
use Rattle.std.proofs.Common.{◌≡◌, ℕ, zero, suc, List, [], ◌∷◌, All, sym, refl, ap, ◌∙◌, inl}
use Rattle.std.proofs.Common.{arith}
use Rattle.control_block.proofs.Prelude.{desk_now, Entry, get_elem?, Inside, IsDesk, Observed}
use Rattle.control_block.proofs.Prelude.{ObservedBoth, Opening, opening_of, ShowsOneHistory, some}
use Rattle.control_block.proofs.Prelude.{StandsFunded, View}
use Rattle.control_block.specs.Observations.{HasSeen}
use Rattle.control_block.proofs.kept.Observation.{at_ease}

all_of_one : {A : Type 0} (P : A → Type 0) (a : A) → P a → All P (a ∷ [])
all_of_one P a p zero x lt = p
all_of_one P a p (suc k) x lt = absurd (omega arith)

all_of_two : {A : Type 0} (P : A → Type 0) (a b : A) → P a → P b → All P (a ∷ b ∷ [])
all_of_two P a b p q zero x lt = p
all_of_two P a b p q (suc zero) x lt = q
all_of_two P a b p q (suc (suc k)) x lt = absurd (omega arith)

module _ {V : Type 0} where
  -- a desk whose seat is among the views of a state between two steps
  has_seen : (k : Opening) (words : List ℕ) (views : List (View V)) (h : List (Entry V)) → StandsFunded k words views h → (d : Inside V) → IsDesk d
      → (at : (i : ℕ) × (get_elem? views i ≡ some d.seat.me.0.view)) → HasSeen views h (desk_now d)
  has_seen k words views h stands d is at = record {
    among = (at.0, at.1 ∙ ap some (sym (at_ease d.seat.me.0.view is.rests.awake is.rests.idle)));
    beginning = (stands.stands.team.seated at.0 d.seat.me.0.view at.1 is.rests.awake).knows d.seat.me.0.view.name (inl refl);
  }

  pub shows_one : (d : Inside V) → IsDesk d → (word n : ℕ) → Observed d.seat.me.0 word n
      → ShowsOneHistory d.seat.me.0.shape (desk_now d ∷ []) word n
  shows_one d is word n o = record {
    history = o.history;
    words = o.words;
    views = o.views;
    stands = o.stands;
    found = o.found;
    seen = all_of_one (HasSeen o.views o.history) (desk_now d)
        (has_seen (opening_of d.seat.me.0.shape) o.words o.views o.history o.stands d is o.here);
  }

  pub shows_both : (d e : Inside V) → IsDesk d → IsDesk e → (word n : ℕ) → ObservedBoth d.seat.me.0 e.seat.me.0 word n
      → ShowsOneHistory d.seat.me.0.shape (desk_now d ∷ desk_now e ∷ []) word n
  shows_both d e is too word n o =
      let seen = has_seen (opening_of d.seat.me.0.shape) o.words o.views o.history o.stands in
      record {
        history = o.history;
        words = o.words;
        views = o.views;
        stands = o.stands;
        found = o.found;
        seen = all_of_two (HasSeen o.views o.history) (desk_now d) (desk_now e) (seen d is o.first) (seen e too o.second);
      }
