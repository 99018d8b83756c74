use Rattle.std.proofs.Common.{List, [], ◌∷◌, ◌++◌, sym, refl, ◌∙◌, subst, of_calls}
use Rattle.shared_handle.proofs.Prelude.{FoldsBack, IsParting}
use Rattle.shared_handle.proofs.Goings.{does_both, does_none}
use Rattle.shared_handle.proofs.Piles.{elsewhere_both, elsewhere_none, same_both, same_desk}
use Rattle.shared_handle.proofs.Rounds.{came_last, rounds_append, values_after}
use Rattle.shared_handle.proofs.pile.Pile.settle_with.Goals as goal

pub loop-init : goal.loop-init
loop-init g c =
    let d = c.args.desk.now in (
      c.requires.carries,
      elsewhere_none d c.args.self.now.endings.items,
      ([], (refl, refl), refl),
      does_none IsParting d,
      refl,
      refl,
      same_desk d,
      c.requires.callable,
    )

pub loop-preserved-in-Some-next_value : goal.loop-preserved-in-Some-next_value
loop-preserved-in-Some-next_value g c =
    let w = c.next_value in let e = c.in-Some-next_value.ensures in let i = c.loop.invariant in let d = c.args.desk.now in
    let was = c.args.self.now.endings.items in let xs = c.loop.self.endings.items in let ys = w.new.self.endings.items in (
      e.carries,
      elsewhere_both d c.loop.desk w.new.desk was xs ys i.1 e.elsewhere,
      (
        e.rounds.0 ++ i.2.0,
        rounds_append d c.loop.desk w.new.desk was xs ys i.2.0 e.rounds.0 i.2.1 e.rounds.1,
        subst (λ (vs : List g.row.V.Denot). FoldsBack (λ p x q. goal.F-step g p x tt q) c.args.take vs c.take.new.self)
            (sym (values_after (c.in-Some-next_value.value ∷ []) e.rounds.0 i.2.0 (came_last c.in-Some-next_value.value e.rounds.0 e.rounds.3)))
            (c.loop.take, i.2.2, c.take.ensures),
      ),
      does_both IsParting d c.loop.desk w.new.desk i.3 e.parting,
      e.bag ∙ i.4,
      e.held ∙ i.5,
      same_both d c.loop.desk w.new.desk i.6 e.desk,
      let always = i.7 in search of_calls,
    )

pub loop-preserved : goal.loop-preserved
loop-preserved g c =
    let w = c.next_value in let e = c.in-None-next_value.ensures in let i = c.loop.invariant in let d = c.args.desk.now in
    let was = c.args.self.now.endings.items in let xs = c.loop.self.endings.items in let ys = w.new.self.endings.items in (
      e.carries,
      elsewhere_both d c.loop.desk w.new.desk was xs ys i.1 e.elsewhere,
      (
        e.rounds.0 ++ i.2.0,
        rounds_append d c.loop.desk w.new.desk was xs ys i.2.0 e.rounds.0 i.2.1 e.rounds.1,
        subst (λ (vs : List g.row.V.Denot). FoldsBack (λ p x q. goal.F-step g p x tt q) c.args.take vs c.loop.take)
            (sym (values_after [] e.rounds.0 i.2.0 e.rounds.3)) i.2.2,
      ),
      does_both IsParting d c.loop.desk w.new.desk i.3 e.parting,
      e.bag ∙ i.4,
      e.held ∙ i.5,
      same_both d c.loop.desk w.new.desk i.6 e.desk,
      i.7,
    )

pub returns-then-rounds-gt0-clause-rounds : goal.returns-then-rounds-gt0-clause-rounds
returns-then-rounds-gt0-clause-rounds g c =
    let w = c.next_value in let e = c.in-None-next_value.ensures in let i = c.loop.invariant.2 in let d = c.args.desk.now in
    let was = c.args.self.now.endings.items in let xs = c.loop.self.endings.items in let ys = w.new.self.endings.items in (
      e.rounds.0 ++ i.0,
      rounds_append d c.loop.desk w.new.desk was xs ys i.0 e.rounds.0 i.1 e.rounds.1,
      (
        c.loop.take,
        subst (λ (vs : List g.row.V.Denot). FoldsBack (λ p x q. goal.F-step g p x tt q) c.args.take vs c.loop.take)
            (sym (values_after [] e.rounds.0 i.0 e.rounds.3)) i.2,
      ),
    )

pub returns-then-rounds-gt0-clause-parting : goal.returns-then-rounds-gt0-clause-parting
returns-then-rounds-gt0-clause-parting g c =
    does_both IsParting c.args.desk.now c.loop.desk c.next_value.new.desk c.loop.invariant.3 c.in-None-next_value.ensures.parting

pub returns-then-rounds-gt0-clause-elsewhere : goal.returns-then-rounds-gt0-clause-elsewhere
returns-then-rounds-gt0-clause-elsewhere g c =
    elsewhere_both c.args.desk.now c.loop.desk c.next_value.new.desk c.args.self.now.endings.items c.loop.self.endings.items
    c.next_value.new.self.endings.items c.loop.invariant.1 c.in-None-next_value.ensures.elsewhere

pub returns-then-rounds-gt0-clause-desk : goal.returns-then-rounds-gt0-clause-desk
returns-then-rounds-gt0-clause-desk g c =
    same_both c.args.desk.now c.loop.desk c.next_value.new.desk c.loop.invariant.6 c.in-None-next_value.ensures.desk
