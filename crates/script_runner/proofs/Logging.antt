-- How a worker's lines go on with its desk's history.
use Rattle.std.proofs.Common.{◌≡◌, ℕ, Bool, true, false, cond, ◌||◌, ◌≢◌, List, [], ◌∷◌, ◌++◌}
use Rattle.std.proofs.Common.{is_some, ◌==◌, Some, None, sym, refl, ap, ◌∙◌, subst, inl, inr}
use Rattle.std.proofs.Common.{append-nil, arith, eq-eqb}
use Rattle.script_runner.proofs.Prelude
use Prelude.{cond-false, cond-true, cond_both, DoesNext, Entry, entry, first_frame, Form}
use Prelude.{FrameView, GoesThrough, IsLegal, Join, leads, lines, Marked, NoneBy, onto, Opening}
use Prelude.{opening_of, Part, Said, said_on, silent, spoken, told_line, trace_label, TraceLabel}
use Rattle.control_word.proofs.history.Names.{joined_is_quiet, unnamed_is_quiet}
use Rattle.script_runner.specs.Laws.{BeginsThread, GoesOnByCall, GoesOnByMark, IsJoined}
use Rattle.script_runner.specs.Laws.{StaysJoined}

-- lines of two lists
pub said_append : (n : ℕ) (xs ys : List (ℕ × Said)) → said_on n (xs ++ ys) ≡ said_on n xs ++ said_on n ys
said_append n [] ys = refl
said_append n (x ∷ xs) ys =
    let ih = said_append n xs ys in
    cond_both (x.0 == n) (x.1 ∷ said_on n (xs ++ ys)) (said_on n (xs ++ ys))
    (λ l. l ≡ cond (x.0 == n) (x.1 ∷ said_on n xs) (said_on n xs) ++ said_on n ys)
    (λ e. ap (λ l. x.1 ∷ l) ih ∙ ap (λ l. l ++ said_on n ys) (sym (cond-true (x.0 == n) (x.1 ∷ said_on n xs) (said_on n xs) e)))
    (λ e. ih ∙ ap (λ l. l ++ said_on n ys) (sym (cond-false (x.0 == n) (x.1 ∷ said_on n xs) (said_on n xs) e)))

pub own_said : (n : ℕ) (x : Said) (b : Bool) → said_on n (cond b ((n, x) ∷ []) []) ≡ cond b (x ∷ []) []
own_said n x true = cond-true (n == n) (x ∷ []) [] (eq-eqb n n refl)
own_said n x false = refl

own_line : (n : ℕ) (x : Said) (l : List (ℕ × Said)) (log : List Said) → said_on n l ≡ log → said_on n (l ++ spoken n x) ≡ log ++ told_line x
own_line n x l log e =
    said_append n l (spoken n x)
    ∙ (ap (λ k. k ++ said_on n (spoken n x)) e ∙ ap (λ k. log ++ k) (own_said n x (is_some x.answer || is_some x.ended)))

module _ {V : Type 0} where
  -- events of others, as what they do
  abbrev foreign : List (Entry V) → List (TraceLabel V) → List (TraceLabel V)
  foreign [] l = l
  foreign (e ∷ h) l = record { desk = e.desk; event = Some e.event; said = silent 0 } ∷ foreign h l

  foreign_events : (h : List (Entry V)) (l : List (TraceLabel V)) → onto [] (foreign h l) ≡ h ++ onto [] l
  foreign_events [] l = refl
  foreign_events (e ∷ h) l = ap (λ k. e ∷ k) (foreign_events h l)

  -- no event of the list is the name's
  abbrev Others : ℕ → List (Entry V) → Type 0
  Others n [] = Unit {0}
  Others n (e ∷ h) = (e.desk ≢ n) × Others n h

  others_by : (n : ℕ) (h : List (Entry V)) → NoneBy n h → Others n h
  others_by n [] none = tt
  others_by n (e ∷ h) none = (none.0, others_by n h none.2)

  foreign_goes : (worth : Form → V) (z : Opening) (n : ℕ) (w u : FrameView) (h : List (Entry V)) (l : List (TraceLabel V)) → Others n h
      → GoesThrough worth z [] n w l u → GoesThrough worth z [] n w (foreign h l) u
  foreign_goes worth z n w u [] l none goes = goes
  foreign_goes worth z n w u (e ∷ h) l none goes = inl (none.0, foreign_goes worth z n w u h l none.1 goes)

  foreign_lines : (h : List (Entry V)) (l : List (TraceLabel V)) → lines (foreign h l) ≡ lines l
  foreign_lines [] l = refl
  foreign_lines (e ∷ h) l = append-nil (lines (foreign h l)) ∙ foreign_lines h l

  module _ (worth : Form → V) (part : Part) (n : ℕ) where
    -- a history that goes on without the thread has what it did
    marked_on : (z : Opening) (later h : List (Entry V)) (log : List Said) → Others n later
        → Marked worth z h n part log → Marked worth z (later ++ h) n part log
    marked_on z later h log none m =
        record {
          trace_labels = foreign later m.trace_labels;
          events = foreign_events later m.trace_labels ∙ ap (λ l. later ++ l) m.events;
          last = m.last;
          goes = foreign_goes worth z n (first_frame part) m.last later m.trace_labels none m.goes;
          over = m.over;
          says = ap (said_on n) (foreign_lines later m.trace_labels) ∙ m.says;
        }

  pub goes_on_by_mark : GoesOnByMark V
  goes_on_by_mark worth part n d w u log x t does =
      let z = opening_of d.shape in
      let i : TraceLabel V = trace_label n None x in
      record {
        name = t.name;
        trace_labels = i ∷ t.trace_labels;
        events = t.events;
        goes = inr (refl, (w, t.goes, subst (λ h. DoesNext worth (leads z h) w i u) (sym t.events) does));
        says = own_line n x (lines t.trace_labels) log t.says;
      }

  pub goes_on_by_call : GoesOnByCall V
  goes_on_by_call worth part n d e v w u log x t adds does =
      let z = opening_of d.shape in
      let quiet = others_by n adds.between (subst (λ k. NoneBy k adds.between) t.name adds.quiet) in
      let before = foreign adds.between t.trace_labels in
      let same : onto [] before ≡ adds.between ++ d.seen =
      foreign_events adds.between t.trace_labels ∙ ap (λ l. adds.between ++ l) t.events in
      let i : TraceLabel V = trace_label n (Some v) x in
      let went : GoesThrough worth z [] n (first_frame part) (i ∷ before) u =
      inr (
        refl,
        (
          w,
          foreign_goes worth z n (first_frame part) w adds.between t.trace_labels quiet t.goes,
          subst (λ h. DoesNext worth (leads z h) w i u) (sym same) does,
        ),
      ) in
      record {
        name = adds.same.2 ∙ t.name;
        trace_labels = i ∷ before;
        events = ap (λ l. entry n v ∷ l) same ∙ (ap (λ k. entry k v ∷ (adds.between ++ d.seen)) (sym t.name) ∙ sym adds.seen);
        goes = subst (λ k. GoesThrough worth (opening_of k) [] n (first_frame part) (i ∷ before) u) (sym adds.same.1) went;
        says = own_line n x (lines before) log (ap (said_on n) (foreign_lines adds.between t.trace_labels) ∙ t.says);
      }

  pub begins : BeginsThread V
  begins worth part d a k hs e new splits =
      let adds = splits.event in
      let z = opening_of d.shape in
      let legal = subst (IsLegal z) adds.seen adds.legal in
      let to = legal.1.asks.0 in
      let low = legal.1.acting.0 in
      let first : d.name ≢ new.name = λ q. omega arith in
      let rest = others_by new.name (adds.between ++ d.seen) (unnamed_is_quiet z (adds.between ++ d.seen) legal.0 new.name (omega arith)) in
      let others : Others new.name new.seen =
      subst (Others new.name) (sym (splits.beside.2 ∙ adds.seen)) (first, rest) in
      record {
        name = refl;
        trace_labels = foreign new.seen [];
        events = foreign_events new.seen [] ∙ append-nil new.seen;
        goes = foreign_goes worth (opening_of new.shape) new.name (first_frame part) (first_frame part) new.seen [] others refl;
        says = ap (said_on new.name) (foreign_lines new.seen []);
      }

  pub is_joined : IsJoined V
  is_joined worth part n d other e w log t over shape joins =
      let z = opening_of d.shape in
      let legal = subst (IsLegal z) joins.seen joins.legal in
      let later = joins.others.0 in
      let first : d.name ≢ n = λ q. legal.1.asks.0 (t.name ∙ sym q) in
      let rest = others_by n later (subst (λ k. NoneBy k later) t.name joins.others.2) in
      let mine : Marked worth z other.seen n part log = record {
        trace_labels = t.trace_labels;
        events = t.events;
        last = w;
        goes = subst (λ k. GoesThrough worth (opening_of k) [] n (first_frame part) t.trace_labels w) shape t.goes;
        over = over;
        says = t.says;
      } in
      subst (λ h. Marked worth z h n part log) (ap (λ l. entry d.name (Join other.name) ∷ l) (sym joins.others.1) ∙ sym joins.seen)
      (marked_on worth part n z (entry d.name (Join other.name) ∷ later) other.seen log (first, rest) mine)

  pub stays_joined : StaysJoined V
  stays_joined worth part n d e events log legal joined goes m =
      let z = opening_of d.shape in
      let quiet = joined_is_quiet z goes.later d.seen (subst (IsLegal z) goes.seen (goes.legal legal)) n joined in
      subst (λ k. Marked worth (opening_of k) e.seen n part log) (sym goes.same.1)
      (subst (λ h. Marked worth z h n part log) (sym goes.seen) (marked_on worth part n z goes.later d.seen log (others_by n goes.later quiet) m))
