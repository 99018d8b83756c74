-- How what an act left to end does so, and how a worker plays its thread from the first act to the last.
use Rattle.std.proofs.Common.{◌≡◌, ℕ, ◌+◌, Bool, false, List, [], ◌++◌, length, Some, None, Option}
use Rattle.std.proofs.Common.{sym, refl, ap, ◌∙◌, subst}
use Rattle.script_runner.proofs.Prelude
use Prelude.{AllBare, Cleared, field_0, first_frame, frame_settled, GoesOnWith, HasScriptMembers, IsHand}
use Prelude.{IsHandOfTable, IsOnward, IsPartlySettled, IsQuiet, IsRound, IsRoundTold, IsSettledBy}
use Prelude.{no_slots, object_in, Part, remains, Round, RoundSays, Said, Settled, TableNow}
use Prelude.{TakesThread, Task, tasks_from, TellsThread, thread_slots, told_line}
use Rattle.script_runner.proofs.Ending.{by_quiet}
use Rattle.script_runner.proofs.Onward.{none_piled}
use Rattle.script_runner.proofs.Rounds.{rounds}
use Rattle.script_runner.proofs.Stages.{last_same, some_last}
use Rattle.script_runner.specs.Teams.{PlaysThread}
use Rattle.shared_handle.specs.declared.endings.Ending as pile
use Rattle.shared_handle.specs.declared.pile.Gone.TheVariants as gone
use Rattle.shared_handle.specs.declared.pile.Round.TheVariants.{Ended}
use Rattle.step_table.specs.declared.memory.ended.Ended as ended

pub in_seat : (hand : ℕ) (t : TableNow ℕ) → IsHandOfTable hand t false → IsHand (hand + 1) hand t
in_seat hand t s =
    let is = s.seated in
    record { fits = is.fits; stands = is.stands; many = is.many; last = is.last; vacant = s.vacant refl }

-- what a round says is what is told of it
round_line : (k : ℕ) (u : TableNow ℕ) (round : Round ℕ) (e : Option ended.Ended) (lines : List Said) → RoundSays k u.desk u.endings round lines
    → IsRoundTold u round e → lines ≡ told_line (record { statement = k; answer = None; ended = e })
round_line k u Settled e lines says is = says ∙ ap (λ q. told_line (record { statement = k; answer = None; ended = q })) (sym is)
round_line k u (Ended v) e lines says is = says ∙ ap (λ q. told_line (record { statement = k; answer = None; ended = q })) (sym is)
round_line k u (Cleared m gone.Empty) e lines says is = says ∙ ap (λ q. told_line (record { statement = k; answer = None; ended = q })) (sym is)
round_line k u (Cleared m gone.Others) e lines says is = says ∙ ap (λ q. told_line (record { statement = k; answer = None; ended = q })) (sym is)
round_line k u (Cleared m gone.Last) None lines says is = absurd (some_last says.0 says.1 (sym is.0 ∙ says.2))
round_line k u (Cleared m gone.Last) (Some r) lines says is =
    let top = is.1 in
    let same = (last_same says.0 top.0 says.1 top.1 (sym says.2 ∙ top.2)).1 in
    let what : remains (object_in u.desk says.1.block.0) ≡ r =
    ap (λ (x : pile.Ending ℕ). remains (object_in u.desk x.block.0)) same ∙ sym top.3 in
    says.3 ∙ ap (λ q. told_line (record { statement = k; answer = None; ended = Some q })) what

module _ (hand k : ℕ) (t u : TableNow ℕ) (taken : Bool) (script : HasScriptMembers t.desk.shape)
    (s : IsHandOfTable hand t false) (same : u.slots ≡ t.slots) where
  pub round_on : (round : Round ℕ) → IsRound t.desk t.endings round u.desk u.endings → (e : Option ended.Ended) → IsRoundTold u round e
      → (log lines : List Said) → lines ≡ log ++ told_line (record { statement = k; answer = None; ended = e })
      → IsPartlySettled hand k taken t log u lines
  round_on round r e is log lines more es p =
      let x = rounds field_0 (hand + 1) hand k t u (in_seat hand t s) same script s.ends round r es p in (
        x.endings,
        x.piled,
        λ todo. subst (λ l. TakesThread field_0 t.desk (frame_settled (thread_slots hand t) taken es todo) log u.desk
            (frame_settled (thread_slots hand u) taken x.endings todo) l)
            (ap (λ l. log ++ l) (round_line k u round e x.lines x.says is) ∙ sym more) (x.takes taken todo log),
      )

pub no_round : (hand k : ℕ) (t : TableNow ℕ) (taken : Bool) (log : List Said) → IsPartlySettled hand k taken t log t log
no_round hand k t taken log es p = (es, p, λ todo part n tells. tells)

pub rounds_then : (hand k : ℕ) (t v u : TableNow ℕ) (taken : Bool) (log said lines : List Said) → IsPartlySettled hand k taken t log v said
    → IsPartlySettled hand k taken v said u lines → IsPartlySettled hand k taken t log u lines
rounds_then hand k t v u taken log said lines x y es p =
    let a = x es p in
    let b = y a.0 a.1 in
    (b.0, b.1, λ todo part n tells. b.2 todo part n (a.2 todo part n tells))

pub all_ended : (hand k : ℕ) (t u : TableNow ℕ) (taken : Bool) (log lines : List Said) → IsPartlySettled hand k taken t log u lines → u.endings ≡ []
    → IsSettledBy hand k taken t log u lines
all_ended hand k t u taken log lines x none es p todo =
    let a = x es p in
    subst (λ fs. TakesThread field_0 t.desk (frame_settled (thread_slots hand t) taken es todo) log u.desk
    (frame_settled (thread_slots hand u) taken fs todo) lines)
    (none_piled k u.endings a.0 a.1 none) (a.2 todo)

-- an act, and what ended by it
pub then_settled : (hand k : ℕ) (t v u : TableNow ℕ) (taken takes : Bool) (ts : List Task) (log more lines said : List Said)
    → IsOnward hand k t taken ts takes more v → said ≡ log ++ more → IsSettledBy hand k takes v said u lines
    → (todo : List Task) → GoesOnWith hand t taken (ts ++ todo) log u takes todo lines
then_settled hand k t v u taken takes ts log more lines said on is s todo part n tells =
    s on.endings on.piled todo part n
    (subst (λ l. TellsThread field_0 part n v.desk (frame_settled (thread_slots hand v) takes on.endings todo) l) (sym is) (on.goes todo log part n tells))

pub played : (hand : ℕ) (part : Part) (t v u : TableNow ℕ) (taken : Bool) (tasks : List Task) (lines : List Said)
    → hand ≡ length part.kinds + 1 → tasks ≡ tasks_from 1 part.calls (length part.kinds)
    → IsQuiet t.desk v.desk → thread_slots hand v ≡ no_slots (length part.kinds)
    → GoesOnWith hand v false tasks [] u taken [] lines → u.desk.shape ≡ t.desk.shape → AllBare u.slots → u.endings ≡ []
    → PlaysThread field_0 part t u lines
played hand part t v u taken tasks lines seat is quiet names goes shape bare none =
    record {
      last = frame_settled (thread_slots hand u) taken [] [];
      shape = shape;
      takes = λ p n tells. goes p n
          (subst (λ w. TellsThread field_0 p n v.desk w [])
          (λ j. frame_settled (sym names j) false [] (sym is j))
          (by_quiet field_0 t.desk v.desk quiet (first_frame part) [] p n tells));
      over = refl;
      bare = bare;
      settled = none;
    }
