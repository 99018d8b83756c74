-- Workers that get parts of a desk one after the other, and give them back, the last one first.
use Rattle.std.proofs.Common.{◌≡◌, ℕ, suc, ◌+◌, ◌-◌, ◌*◌, ◌<◌, ◌≤◌, min, max, List, [], ◌∷◌, ◌++◌}
use Rattle.std.proofs.Common.{map, length, Result, sym, refl, ap, ◌∙◌, subst, inl, inr}
use Rattle.std.proofs.Common.{append_assoc, append-nil, arith}
use Rattle.pointers.proofs.Prelude.{allowance_of, AreHired, Belongs, DeskNow, DomainNow, Fault}
use Rattle.pointers.proofs.Prelude.{held_of, IsPartedInto, IsTooMuch, JoinsAll, map-append}
use Rattle.pointers.proofs.Prelude.{suc-mul, Worker}
use Rattle.control_block.specs.Parting.{SplitsOff}
use Rattle.pointers.specs.Shares.{Joins}
use Rattle.pointers.specs.Staffs.{IsHired}

module _ {V : Type 0} where
  more_parts : (d m e x : DeskNow V) (a : ℕ) (xs : List (DeskNow V)) → IsPartedInto d a xs m → SplitsOff m a 0 [] e x → IsPartedInto d a (xs ++ x ∷ []) e
  more_parts d m e x a [] p s = (e, subst (λ (k : DeskNow V). SplitsOff k a 0 [] e x) p s, refl)
  more_parts d m e x a (y ∷ ys) p s = (p.0, p.1, more_parts p.0 m e x a ys p.2 s)

  -- the desk that gave a part is one of the domain's still, and holds what it held
  pub split_here : (d e x : DeskNow V) (a : ℕ) (y : DomainNow) → SplitsOff d a 0 [] e x → Belongs d y → Belongs e y
  split_here d e x a y s here = record { table = s.event.same.0 ∙ here.table; shape = s.event.same.1 ∙ here.shape }

  pub split_held : (d e x : DeskNow V) (a h : ℕ) → SplitsOff d a 0 [] e x → held_of d ≡ h → held_of e ≡ h
  split_held d e x a h s is =
      let held : e.held ≡ d.held = (let k = s.held.1 in omega arith) in
      (λ i. held i + min 1 (s.count.0 i)) ∙ is

  pub has_room : (d : DeskNow V) (w n e h : ℕ) → n < w → 0 < e → held_of d ≡ h → (w - n) * e + max 1 h ≤ allowance_of d → IsTooMuch d e 0 → ⊥
  has_room d w n e h less some held room (inl none) = omega arith
  has_room d w n e h less some held room (inr (inl below)) = omega arith
  has_room d w n e h less some held room (inr (inr much)) =
      let k = w - suc n in
      let is : w - n ≡ suc k = omega arith in
      let all : suc k * e + max 1 h ≤ allowance_of d = subst (λ (j : ℕ). j * e + max 1 h ≤ allowance_of d) is room in
      let same : held_of d - 0 ≡ h = omega (arith, held) in
      let over : allowance_of d - max 1 h < e = subst (λ (j : ℕ). allowance_of d - max 1 j < e) same much in
      let more = suc-mul k e in
      omega (arith, all, over, more)

  pub room_left : (d e x : DeskNow V) (w n a h : ℕ) → n < w → SplitsOff d a 0 [] e x → (w - n) * a + h ≤ allowance_of d → (w - suc n) * a + h ≤ allowance_of e
  room_left d e x w n a h less s room =
      let k = w - suc n in
      let is : w - n ≡ suc k = omega arith in
      let all : suc k * a + h ≤ allowance_of d = subst (λ (j : ℕ). j * a + h ≤ allowance_of d) is room in
      let given = s.allowance.1 in
      let more = suc-mul k a in
      omega (arith, all, given, more)

  module _ {P : Type 0} where
    abbrev pub desks_of : List (Worker V P) → List (DeskNow V)
    desks_of ws = map (λ (w : Worker V P). w.part.desk) ws

    -- one more has its part
    pub parted_more : (d m e : DeskNow V) (a : ℕ) (ws vs : List (Worker V P)) (w : Worker V P) → IsPartedInto d a (desks_of ws) m
        → SplitsOff m a 0 [] e w.part.desk → vs ≡ ws ++ w ∷ []
        → IsPartedInto d a (desks_of vs) e
    parted_more d m e a ws vs w p s is =
        subst (λ (l : List (DeskNow V)). IsPartedInto d a l e)
        (sym (ap desks_of is ∙ map-append (λ (w : Worker V P). w.part.desk) ws (w ∷ [])))
        (more_parts d m e w.part.desk a (desks_of ws) p s)

    more_hired : (y : DomainNow) (p : P) (n k : ℕ) (ws : List (Worker V P)) (w : Worker V P) → AreHired y p n ws → k ≡ n + length ws → IsHired y p k w
        → AreHired y p n (ws ++ w ∷ [])
    more_hired y p n k [] w h is one = (subst (λ (j : ℕ). IsHired y p j w) (omega (arith, is)) one, tt)
    more_hired y p n k (x ∷ ws) w h is one = (h.0, more_hired y p (suc n) k ws w h.1 (omega (arith, is)) one)

    pub hired_more : (y : DomainNow) (p : P) (k : ℕ) (ws vs : List (Worker V P)) (w : Worker V P) → AreHired y p 0 ws → k ≡ length ws → IsHired y p k w
        → vs ≡ ws ++ w ∷ [] → AreHired y p 0 vs
    hired_more y p k ws vs w h at one is = subst (AreHired y p 0) (sym is) (more_hired y p 0 k ws w h (omega (arith, at)) one)

    -- of all workers these have their parts still
    pub record Joining (before d : DeskNow V) (all rest : List (Worker V P)) : Type 0 where
      pub out : List (DeskNow V)
      pub parts : desks_of all ≡ desks_of rest ++ out
      pub gone : JoinsAll before out d

    pub begins : (d : DeskNow V) (all : List (Worker V P)) → Joining d d all all
    begins d all = record { out = []; parts = sym (append-nil (desks_of all)); gone = refl }

    pub goes : (before d e : DeskNow V) (all now rest : List (Worker V P)) (w : Worker V P) → Joining before d all now → now ≡ rest ++ w ∷ []
        → Joins d w.part.desk e → Joining before e all rest
    goes before d e all now rest w a is joins =
        record {
          out = w.part.desk ∷ a.out;
          parts = a.parts
              ∙ (ap (λ (l : List (Worker V P)). desks_of l ++ a.out) is
              ∙ (ap (λ (l : List (DeskNow V)). l ++ a.out) (map-append (λ (w : Worker V P). w.part.desk) rest (w ∷ []))
              ∙ append_assoc (desks_of rest) (w.part.desk ∷ []) a.out));
          gone = (d, a.gone, joins);
        }

    pub all_gone : (before d : DeskNow V) (all now : List (Worker V P)) → Joining before d all now → now ≡ [] → JoinsAll before (desks_of all) d
    all_gone before d all now a none =
        subst (λ (l : List (DeskNow V)). JoinsAll before l d) (sym (a.parts ∙ ap (λ (l : List (Worker V P)). desks_of l ++ a.out) none)) a.gone

    abbrev pub dones_of : List (Worker V P) → List (Result (Unit {0}) Fault)
    dones_of ws = map (λ (w : Worker V P). w.done) ws
