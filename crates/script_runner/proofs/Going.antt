-- How a thread goes on by an act that its table made, and where an act is passed over.
use Rattle.std.proofs.Common.{◌≡◌, ℕ, List, [], ◌∷◌, ◌++◌, Some, None, Option, sym, refl, ap, ◌∙◌}
use Rattle.std.proofs.Common.{subst, inl, inr}
use Rattle.script_runner.proofs.Prelude.{Begun, Block, cond-true, Done, frame_after_act}
use Rattle.script_runner.proofs.Prelude.{frame_settled, idle, Piled, row, Said, said_by_row}
use Rattle.script_runner.proofs.Prelude.{shown_slots, slots_idle, taken_idle, TakesThread, Task}
use Rattle.script_runner.proofs.Prelude.{task, TellsThread, told_line, with_end}
use Rattle.script_runner.proofs.Ending.{by_event, by_mark, by_quiet}
use Rattle.script_runner.specs.Goings.{ActsOn, PassesOver}
use Rattle.shared_handle.specs.declared.endings.Ending as pile
use Rattle.step_threads.proofs.Frames.{settled_still}

module _ {V : Type 0} where
  begun_piled : (k : ℕ) (xs ys : List (pile.Ending V)) (b : Option Block) → xs ≡ [] → Begun xs b ys → Piled k ys (with_end k b [])
  begun_piled k xs ys None none same = same ∙ none
  begun_piled k xs ys (Some b) none begun = (xs, begun.0, begun.1, sym begun.2, refl, begun.3, none)

  pub acts_on : ActsOn V
  acts_on worth m k t u taken a r none busy acts =
      let l = shown_slots m t.slots in
      let y = row a l taken r in
      record {
        endings = with_end k y.ending [];
        piled = begun_piled k t.endings u.endings y.ending none acts.ends;
        takes = λ todo log part n tells.
            subst (λ q. TellsThread worth part n u.desk q (log ++ told_line (said_by_row k y)))
            (ap (λ s. frame_settled s y.taken (with_end k y.ending []) todo) (sym acts.slots))
            (did acts.done todo log part n (subst (λ q. TellsThread worth part n t.desk q log) (settled_still l taken [] (task k a) todo busy) tells));
      }
    where
      did : Done worth t.desk (shown_slots m t.slots) a r u.desk → (todo : List Task) (log : List Said)
          → TakesThread worth t.desk (record { slots = shown_slots m t.slots; taken = taken; endings = []; todo = task k a ∷ todo }) log u.desk
          (frame_after_act (record {
            slots = shown_slots m t.slots;
            taken = taken;
            endings = [];
            todo =
                task k a ∷ todo;
          }) k todo (row a (shown_slots m t.slots) taken r))
          (log ++ told_line (said_by_row k (row a (shown_slots m t.slots) taken r)))
      did (inl x) todo log =
          by_mark worth t.desk u.desk x.0 _ _ log (said_by_row k (row a (shown_slots m t.slots) taken r))
          (record { reply = r; makes = x.1; says = refl; goes = refl })
      did (inr x) todo log =
          by_event worth t.desk u.desk x.0 x.1 _ _ log (said_by_row k (row a (shown_slots m t.slots) taken r))
          (record { reply = r; makes = x.2; says = refl; goes = refl })

  pub passes_over : PassesOver V
  passes_over worth m k t u taken a todo log quiet free same part n tells =
      let l = shown_slots m t.slots in
      subst (λ q. TellsThread worth part n u.desk q log)
      (cond-true (idle a l taken) (frame_settled (slots_idle a l taken) (taken_idle a taken) [] todo) _ free
      ∙ ap (λ s. frame_settled s (taken_idle a taken) [] todo) (sym same))
      (by_quiet worth t.desk u.desk quiet (frame_settled l taken [] (task k a ∷ todo)) log part n tells)
