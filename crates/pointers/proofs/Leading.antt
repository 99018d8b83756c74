-- Leaders, and the teams that they start.
use Rattle.std.proofs.Common.{◌≡◌, ℕ, zero, suc, ◌+◌, ◌*◌, ◌^◌, ◌<◌, ◌≤◌, max, List, [], ◌∷◌}
use Rattle.std.proofs.Common.{length, IfErr, OnOk, Some, None, Ok, Err, Option, Result, sym, refl}
use Rattle.std.proofs.Common.{ap, ◌∙◌, subst, inr, arith}
use Rattle.pointers.proofs.Prelude.{allowance_of, Answer, AreTeams, DeskNow, EachWorked}
use Rattle.pointers.proofs.Prelude.{Failed, Fault, faults_from, Fits, HasShares, held_of}
use Rattle.pointers.proofs.Prelude.{Led, led_by, Lends, Shape, Stay, suc-mul, Team}
use Rattle.pointers.proofs.Runs.{fits_few}
use Rattle.pointers.specs.Leading.{Ends, Follows, IsAsBefore, IsOver, Lead, LeadsOn, Starts, led_with}
use Rattle.pointers.specs.declared.known.Known.{Known}
use Rattle.pointers.specs.Teams.{handles_of}
use Rattle.pointers.specs.declared.program.teams.Teams.{Teams}

-- of each worker one fault at most is told
faults_few : (n : ℕ) (rs : List (Result (Unit {0}) Fault)) → length (faults_from n rs) ≤ length rs
faults_few n [] = omega arith
faults_few n (Ok done ∷ rs) = let k = faults_few (suc n) rs in omega (arith, k)
faults_few n (Err why ∷ rs) = let k = faults_few (suc n) rs in omega (arith, k)

module _ {V : Type 0} where
  each_many : (answers : ℕ → Answer) (n : ℕ) (ts : List (DeskNow V)) (rs : List (Result (Unit {0}) Fault)) (us : List (DeskNow V))
      → EachWorked answers n ts rs us → length rs ≡ length ts
  each_many answers n [] [] [] e = refl
  each_many answers n [] [] (u ∷ us) e = absurd e
  each_many answers n [] (r ∷ rs) us e = absurd e
  each_many answers n (t ∷ ts) [] us e = absurd e
  each_many answers n (t ∷ ts) (r ∷ rs) [] e = absurd e
  each_many answers n (t ∷ ts) (r ∷ rs) (u ∷ us) e = ap suc (each_many answers (suc n) ts rs us e.1)

  pub lends_few : (answers : ℕ → Answer) (team : Team) (d e : DeskNow V) (failed : List Failed) → Lends answers team d failed e
      → length failed ≤ team.workers
  lends_few answers team d e failed l =
      let few = faults_few 0 l.answered in let many = each_many answers 0 l.lent l.answered l.left l.each in let all = l.many in
      let is = ap length l.faults in omega (arith, few, many, all, is)

  -- whether there is room for the team, by the numbers that tell
  pub room_shown : (d : DeskNow V) (t : Team) (h : ℕ) → h ≤ handles_of t → (h < 18446744073709551615 → h ≡ handles_of t) → allowance_of d < 2 ^ 32
      → h + max (held_of d) 1 ≤ allowance_of d + 1 → HasShares d (t.pointers + 2) t.workers
  room_shown d t h most few small room =
      let is : h ≡ t.workers * (t.pointers + 2) + 1 = few (omega (arith, small, room)) in
      record { some = omega arith; room = omega (arith, is, room) }

  pub room_given : (d : DeskNow V) (t : Team) (h : ℕ) → h ≤ handles_of t → HasShares d (t.pointers + 2) t.workers
      → h + max (held_of d) 1 ≤ allowance_of d + 1
  room_given d t h most shares = let room = shares.room in omega (arith, most, room)

  pub few_pointers : (d : DeskNow V) (t : Team) → allowance_of d < 2 ^ 32 → HasShares d (t.pointers + 2) t.workers → 0 < t.workers → t.pointers + 2 < 2 ^ 32
  few_pointers d t small shares some = go t.workers t.pointers some (let room = shares.room in omega (arith, small, room))
    where
      go : (w p : ℕ) → 0 < w → w * (p + 2) < 2 ^ 32 → p + 2 < 2 ^ 32
      go zero p some few = omega arith
      go (suc k) p some few = let all = suc-mul k (p + 2) in omega (arith, all, few)

  pub few_workers : (d : DeskNow V) (t : Team) → HasShares d (t.pointers + 2) t.workers → t.workers ≤ allowance_of d
  few_workers d t shares = let few = go t.workers t.pointers in let room = shares.room in omega (arith, few, room)
    where
      go : (w p : ℕ) → w ≤ w * (p + 2)
      go zero p = omega arith
      go (suc k) p = let all = suc-mul k (p + 2) in let less = go k p in omega (arith, all, less)

  pub stay_still : (t : Teams V) → Stay t t
  stay_still t = record { domain = refl; allowance = refl; endings = refl }

  pub stay_then : (t u v : Teams V) → Stay t u → Stay u v → Stay t v
  stay_then t u v a b = record { domain = b.domain ∙ a.domain; allowance = b.allowance ∙ a.allowance; endings = b.endings ∙ a.endings }

  module _ {P : Type 0} (leads : Lead P V) (answers : P → ℕ → Answer) where
    starts : (p q : P) (ks ms : List (Known V)) (next : Option Team) (t u : Teams V) → leads p t.before ks (Ok next) q ms
        → Follows (answers q) next t u → Starts leads answers (led_with p ks t) (led_with q ms u)
    starts p q ks ms None t u call s = absurd s
    starts p q ks ms (Some team) t u call s =
        record {
          team = team;
          manned = s.manned;
          faults = s.faults;
          call = call;
          room = s.room;
          works = s.works;
          told = s.told;
          workers = s.workers;
          fewer = s.fewer;
          failed = s.failed;
        }

    -- a call started a team, where one was started that it answered
    pub started : (p q : P) (ks ms : List (Known V)) (r : Result (Option Team) Fault) (next : Option Team) (t u : Teams V)
        (done : Result (Unit {0}) (Option Fault)) → leads p t.before ks r q ms → r ≡ Ok next → OnOk done (Follows (answers q) next t u)
        → OnOk done (Starts leads answers (led_with p ks t) (led_with q ms u))
    started p q ks ms r next t u (Ok x) call is s =
        starts p q ks ms next t u (subst (λ (a : Result (Option Team) Fault). leads p t.before ks a q ms) is call) s
    started p q ks ms r next t u (Err fault) call is s = tt

    ends : (p q : P) (ks ms : List (Known V)) (next : Option Team) (t : Teams V) (fault : Option Fault) → leads p t.before ks (Ok next) q ms
        → IsOver t.desk next fault → Ends leads (led_with p ks t) q ms fault
    ends p q ks ms None t None call over = call
    ends p q ks ms None t (Some why) call over = absurd over
    ends p q ks ms (Some team) t None call over = absurd over
    ends p q ks ms (Some team) t (Some why) call over = inr (team, call, over)

    -- or none
    pub ended : (p q : P) (ks ms : List (Known V)) (r : Result (Option Team) Fault) (next : Option Team) (t : Teams V)
        (done : Result (Unit {0}) (Option Fault)) → leads p t.before ks r q ms → r ≡ Ok next → IfErr done (IsOver t.desk next)
        → IfErr done (Ends leads (led_with p ks t) q ms)
    ended p q ks ms r next t (Ok x) call is over = tt
    ended p q ks ms r next t (Err fault) call is over =
        ends p q ks ms next t fault (subst (λ (a : Result (Option Team) Fault). leads p t.before ks a q ms) is call) over

    -- a call by which no team was started was the last one
    pub leads_on : (l : Led P V) (past : List (Led P V)) (p q : P) (ks ms : List (Known V)) (t u : Teams V) (fault : Option Fault)
        → AreTeams leads answers l past (led_with p ks t) → Ends leads (led_with p ks t) q ms fault → IsAsBefore t u
        → LeadsOn leads answers l (led_by q u) fault
    leads_on l past p q ks ms t u fault teams over same =
        record {
          past = past;
          last = led_with p ks t;
          teams = teams;
          kept = ms;
          over = over;
          left = λ i. record {
            leader = q;
            kept = [];
            before = sym same.before i;
            desk = sym same.desk i;
            workers = sym same.workers i;
            fewer = sym same.fewer i;
            failed = sym same.failed i;
          };
        }

-- the leader has few enough pointers
pub few_handles : (shape : Shape) (n : ℕ) → Fits shape (record { workers = 1; pointers = n }) → n + 2 < 2 ^ 32
few_handles shape n fits = fits_few shape (record { workers = 1; pointers = n }) fits (omega arith)
