-- How a thread goes on by what its worker does, act by act.
use Rattle.std.proofs.Common.{◌≡◌, ℕ, ◌+◌, Bool, true, false, List, [], ◌∷◌, ◌++◌, IfSome, IfNone}
use Rattle.std.proofs.Common.{Some, None, Option, sym, refl, ap, ◌∙◌, subst, inl, inr}
use Rattle.std.proofs.Common.{append_assoc, append-nil}
use Rattle.script_runner.proofs.Prelude.{Act, ActResult, Acts, Answer, ByCompare, ByDiffering}
use Rattle.script_runner.proofs.Prelude.{CellName, Ending, field_0, frame_settled, idle, IsDealt}
use Rattle.script_runner.proofs.Prelude.{IsOnward, IsQuiet, IsToldEnding, IsTop, Piled, Reply, row}
use Rattle.script_runner.proofs.Prelude.{Said, said_by_row, statement_says, TableNow, TakesThread}
use Rattle.script_runner.proofs.Prelude.{Task, task, TellsThread, thread_slots, told_line}
use Rattle.script_runner.proofs.Going.{acts_on, passes_over}
use Rattle.script_runner.proofs.Parting.{top_told}
use Rattle.script_runner.proofs.Stages.{some_last}
use Rattle.shared_handle.specs.declared.endings.Ending as pile
use Rattle.step_table.specs.declared.memory.ended.Ended as ended
use Rattle.step_threads.specs.declared.programs.act.Act.TheVariants as act
use Rattle.step_threads.specs.declared.said.Answer.TheVariants as answer

abbrev pub line : ℕ → Option Answer → Option ended.Ended → List Said
line k a e = told_line (record { statement = k; answer = a; ended = e })

-- an act with nothing to say has no line
no_line : (k : ℕ) (a : Option Answer) (e : Option ended.Ended) → a ≡ None → e ≡ None → line k a e ≡ []
no_line k None None p q = refl
no_line k (Some a) e p q = absurd cc
no_line k None (Some e) p q = absurd cc

stays : (t : TableNow ℕ) → IsQuiet t.desk t.desk
stays t = record { shape = refl; name = refl; seen = refl }

-- an act, whatever tasks come after it
acts_any : (hand k : ℕ) (t u : TableNow ℕ) (taken : Bool) (a : Act) (r : Reply) → t.endings ≡ [] → idle a (thread_slots hand t) taken ≡ false
    → Acts field_0 (hand + 1) t taken a r u
    → (es : List Ending) × Piled k u.endings es × ((todo : List Task) (log : List Said)
    → TakesThread field_0 t.desk (frame_settled (thread_slots hand t) taken [] (task k a ∷ todo)) log u.desk
    (frame_settled (thread_slots hand u) (row a (thread_slots hand t) taken r).taken es todo)
    (log ++ told_line (said_by_row k (row a (thread_slots hand t) taken r))))
acts_any hand k t u taken a r none busy acts =
    let g = acts_on field_0 (hand + 1) k t u taken a r none busy acts in (g.endings, g.piled, g.takes)

-- nothing is left to end
pub none_piled : (k : ℕ) (xs : List (pile.Ending ℕ)) (es : List Ending) → Piled k xs es → xs ≡ [] → es ≡ []
none_piled k xs [] p none = refl
none_piled k xs (e ∷ es) p none = absurd (some_last p.0 p.1 (sym none ∙ p.2))

-- an act that leaves nothing to end
acts_clear : (hand k : ℕ) (t u : TableNow ℕ) (taken : Bool) (a : Act) (r : Reply) → t.endings ≡ [] → idle a (thread_slots hand t) taken ≡ false
    → Acts field_0 (hand + 1) t taken a r u → u.endings ≡ [] → (todo : List Task) (log : List Said)
    → TakesThread field_0 t.desk (frame_settled (thread_slots hand t) taken [] (task k a ∷ todo)) log u.desk
    (frame_settled (thread_slots hand u) (row a (thread_slots hand t) taken r).taken [] todo)
    (log ++ told_line (said_by_row k (row a (thread_slots hand t) taken r)))
acts_clear hand k t u taken a r none busy acts clear todo log =
    let g = acts_any hand k t u taken a r none busy acts in
    subst (λ es. TakesThread field_0 t.desk (frame_settled (thread_slots hand t) taken [] (task k a ∷ todo)) log u.desk
    (frame_settled (thread_slots hand u) (row a (thread_slots hand t) taken r).taken es todo)
    (log ++ told_line (said_by_row k (row a (thread_slots hand t) taken r))))
    (none_piled k u.endings g.0 g.1 clear) (g.2 todo log)

module _ (hand k : ℕ) (t u : TableNow ℕ) (none : t.endings ≡ []) where
  pub deal_on : (taken : Bool) (a : Act) (x : ActResult) → IsDealt hand t taken a x u
      → IsOnward hand k t taken (task k a ∷ []) x.taken (told_line (statement_says k x)) u
  deal_on taken a x (inl y) =
      let r = row a (thread_slots hand t) taken y.reply in
      let g = acts_any hand k t u taken a y.reply none y.busy y.acts in
      record {
        endings = g.0;
        piled = g.1;
        goes = λ todo log.
            subst (λ b. TakesThread field_0 t.desk (frame_settled (thread_slots hand t) taken [] (task k a ∷ todo)) log u.desk
            (frame_settled (thread_slots hand u) b g.0 todo) (log ++ told_line (statement_says k x))) (sym y.takes)
            (subst (λ s. TakesThread field_0 t.desk (frame_settled (thread_slots hand t) taken [] (task k a ∷ todo)) log u.desk
            (frame_settled (thread_slots hand u) r.taken g.0 todo) (log ++ told_line s))
            (λ j. record { statement = k; answer = sym y.says j; ended = sym y.tells j })
            (g.2 todo log));
      }
  deal_on taken a x (inr y) =
      record {
        endings = [];
        piled = y.endings ∙ none;
        goes = λ todo log.
            subst (λ b. TakesThread field_0 t.desk (frame_settled (thread_slots hand t) taken [] (task k a ∷ todo)) log u.desk
            (frame_settled (thread_slots hand u) b [] todo) (log ++ told_line (statement_says k x))) (sym y.takes)
            (subst (λ l. TakesThread field_0 t.desk (frame_settled (thread_slots hand t) taken [] (task k a ∷ todo)) log u.desk
            (frame_settled (thread_slots hand u) _ [] todo) l) (sym (ap (λ l. log ++ l) (no_line k x.answer x.ended y.silent.0 y.silent.1) ∙ append-nil log))
            (passes_over field_0 (hand + 1) k t u taken a todo log y.quiet y.free y.slots));
      }

  module _ (i : ℕ) (c : CellName) (weak : Bool) (e : Option ended.Ended) (bare : IfNone e (u.endings ≡ [])) (some : IfSome e (IsTop u))
      (busy : idle (act.Compare i c weak) (thread_slots hand t) true ≡ false) where
    abbrev said : Bool → List Said
    said b = line k (Some (answer.Compared b)) None

    pub compared_on : ByCompare ℕ field_0 (hand + 1) i t u c weak
        → IsOnward hand k t true (task k (act.Compare i c weak) ∷ task k (act.Put i) ∷ task k act.Drop ∷ []) false (said true ++ line k None e) u
    compared_on y = go (idle act.Drop (thread_slots hand y.between) false) refl
      where
        begun : (todo : List Task) (log : List Said)
            → TakesThread field_0 t.desk
            (frame_settled (thread_slots hand t) true [] (task k (act.Compare i c weak) ∷ task k (act.Put i) ∷ task k act.Drop ∷ todo)) log
            y.between.desk (frame_settled (thread_slots hand y.between) false [] (task k act.Drop ∷ todo)) (log ++ said true)
        begun todo log part n tells =
            passes_over field_0 (hand + 1) k y.between y.between false (act.Put i) (task k act.Drop ∷ todo) (log ++ said true) (stays y.between) refl
            refl part n
            (acts_clear hand k t y.between true (act.Compare i c weak) _ none busy y.compares (y.compares.ends ∙ none)
            (task k (act.Put i) ∷ task k act.Drop ∷ todo) log part n tells)

        clear : y.between.endings ≡ []
        clear = y.compares.ends ∙ none

        go : (b : Bool) → idle act.Drop (thread_slots hand y.between) false ≡ b
            → IsOnward hand k t true (task k (act.Compare i c weak) ∷ task k (act.Put i) ∷ task k act.Drop ∷ []) false (said true ++ line k None e) u
        go false is =
            let x = y.drops is in
            let on = acts_any hand k y.between y.after false act.Drop _ clear is x.acts in
            let after : y.after ≡ record u { slots = y.after.slots } = λ j. record { desk = y.same.0 j; slots = y.after.slots; endings = y.same.2 j } in
            let told_is : e ≡ x.left =
            top_told y.between (record u { slots = y.after.slots }) x.left e clear
            (subst (λ (v : TableNow ℕ). IsToldEnding y.between.endings x.left v.desk v.endings) after x.told) bare some in
            record {
              endings = on.0;
              piled = subst (λ zs. Piled k zs on.0) y.same.2 on.1;
              goes = λ todo log part n tells.
                  subst (λ l. TellsThread field_0 part n u.desk (frame_settled (thread_slots hand u) false on.0 todo) l)
                  (append_assoc log (said true) (line k None x.left) ∙ ap (λ q. log ++ (said true ++ line k None q)) (sym told_is))
                  (subst (λ d. TellsThread field_0 part n d (frame_settled (thread_slots hand u) false on.0 todo)
                  ((log ++ said true) ++ line k None x.left)) y.same.0
                  (subst (λ l. TellsThread field_0 part n y.after.desk (frame_settled l false on.0 todo)
                  ((log ++ said true) ++ line k None x.left)) y.same.1
                  (on.2 todo (log ++ said true) part n (begun todo log part n tells))));
            }
        go true is =
            let x = y.passes is in
            let ended_none : u.endings ≡ [] = sym y.same.2 ∙ (x.2 ∙ clear) in
            let nothing : e ≡ None = top_told t u None e none (ended_none ∙ sym none) bare some in
            record {
              endings = [];
              piled = ended_none;
              goes = λ todo log part n tells.
                  subst (λ l. TellsThread field_0 part n u.desk (frame_settled (thread_slots hand u) false [] todo) l)
                  (sym (ap (λ q. log ++ (said true ++ line k None q)) nothing ∙ ap (λ l. log ++ l) (append-nil (said true))))
                  (subst (λ d. TellsThread field_0 part n d (frame_settled (thread_slots hand u) false [] todo) (log ++ said true)) y.same.0
                  (subst (λ l. TellsThread field_0 part n y.after.desk (frame_settled l false [] todo) (log ++ said true)) y.same.1
                  (passes_over field_0 (hand + 1) k y.between y.after false act.Drop todo (log ++ said true) x.0 is x.1 part n
                  (begun todo log part n tells))));
            }

    pub differs_on : ByDiffering ℕ field_0 (hand + 1) i t u c weak
        → IsOnward hand k t true (task k (act.Compare i c weak) ∷ task k (act.Put i) ∷ []) false (said false ++ line k None e) u
    differs_on y = go (idle (act.Put i) (thread_slots hand y.between) true) refl
      where
        clear : y.between.endings ≡ []
        clear = y.compares.ends ∙ none

        begun : (todo : List Task) (log : List Said)
            → TakesThread field_0 t.desk (frame_settled (thread_slots hand t) true [] (task k (act.Compare i c weak) ∷ task k (act.Put i) ∷ todo)) log
            y.between.desk (frame_settled (thread_slots hand y.between) true [] (task k (act.Put i) ∷ todo)) (log ++ said false)
        begun todo log =
            acts_clear hand k t y.between true (act.Compare i c weak) _ none busy y.compares (y.compares.ends ∙ none) (task k (act.Put i) ∷ todo) log

        go : (b : Bool) → idle (act.Put i) (thread_slots hand y.between) true ≡ b
            → IsOnward hand k t true (task k (act.Compare i c weak) ∷ task k (act.Put i) ∷ []) false (said false ++ line k None e) u
        go false is =
            let x = y.puts is in
            let on = acts_any hand k y.between u true (act.Put i) _ clear is x.acts in
            let told_is : e ≡ x.left = top_told y.between u x.left e clear x.told bare some in
            record {
              endings = on.0;
              piled = on.1;
              goes = λ todo log part n tells.
                  subst (λ l. TellsThread field_0 part n u.desk (frame_settled (thread_slots hand u) false on.0 todo) l)
                  (append_assoc log (said false) (line k None x.left) ∙ ap (λ q. log ++ (said false ++ line k None q)) (sym told_is))
                  (on.2 todo (log ++ said false) part n (begun todo log part n tells));
            }
        go true is =
            let x = y.passes is in
            let ended_none : u.endings ≡ [] = x.2 ∙ clear in
            let nothing : e ≡ None = top_told t u None e none (ended_none ∙ sym none) bare some in
            record {
              endings = [];
              piled = ended_none;
              goes = λ todo log part n tells.
                  subst (λ l. TellsThread field_0 part n u.desk (frame_settled (thread_slots hand u) false [] todo) l)
                  (sym (ap (λ q. log ++ (said false ++ line k None q)) nothing ∙ ap (λ l. log ++ l) (append-nil (said false))))
                  (passes_over field_0 (hand + 1) k y.between u true (act.Put i) todo (log ++ said false) x.0 is x.1 part n (begun todo log part n tells));
            }
