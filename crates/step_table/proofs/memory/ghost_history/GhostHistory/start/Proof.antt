-- `start` picks an empty history. Assumes `Logic`.
use Rattle.std.proofs.Common.{List, [], ◌∷◌, ◌++◌, refl}
use Rattle.step_table.proofs.Prelude
use Prelude.{agg, alive, alloc_all, Calls, Clauses, closing, done, drop, Ended, ends_at, ent}
use Prelude.{enter, entered, feq_l, fjoin, Fn, free_all, fresh, fsplit, Fun, Goes-dropped, keep}
use Prelude.{Logic, look_at, Loops, Meets, Memory, move, no_more, nothing, owns, pass_all, prop}
use Prelude.{qed, raw, RefOf, regoal, returns, Routine, says, sets, split, SProp, stay_dropped}
use Prelude.{Stays, suffices, Tables, tables, triple_of, types_at, Ura, Val, vptr, walk_Meets}
use Prelude.{walk_of, WpFn, yes, !, ‵, ◌$◌, ◌∵◌, ◌⊛◌}
use contract.Running.{tables_of}
use sound.WpLaws.{WpFn-mono}
use denote.Signature.{plain}
use Rattle.step_table.proofs.FrameViews.{none, none_made}
use Rattle.step_table.specs.contracts.memory.ghost_history.GhostHistory as GhostHistory
use Rattle.step_table.specs.contracts.memory.extent.Extent as Extent
use Rattle.step_table.specs.contracts.memory.ghost_history.GhostHistory.start as F
use Rattle.step_table.specs.contracts.memory.ghost_history.GhostHistory.start.Key.{name as #self}
use Rattle.step_table.proofs.memory.ghost_history.GhostHistory.start.Statement as stated
use Rattle.step_table.proofs.memory.ghost_history.GhostHistory.start.Code as code

abbrev function : Fn
function = code.function

abbrev ended : Ended
ended = F.ended

abbrev stayed : Stays ended.signature.params ended.kept
stayed = (stay_dropped _ yes, tt)

module _ {M : Type 1} {𝓤 : Ura M} (𝓛 : Logic 𝓤) (at_mem : Memory → SProp 𝓤) (run : Routine → Fun 𝓤) where
  open 𝓛 use {H}

  abbrev held : Clauses 𝓤 ended
  held = F.clauses 𝓛 at_mem run

  module _ (C : Calls 𝓤 H) (Λ : Loops 𝓤 H) (z : (walk_of 𝓛 ended stayed held).Ghost) where
    abbrev Post : Val → SProp 𝓤
    Post = (walk_of 𝓛 ended stayed held).post z

    abbrev toks : SProp 𝓤
    toks = alive 𝓛 ended.signature z.0.0 z.0.1

    frame_views : ent 𝓤 ((walk_of 𝓛 ended stayed held).pre z) (WpFn 𝓤 H C Λ function ((walk_of 𝓛 ended stayed held).args z) Post)
    frame_views =
        let a = z.0.3 in
        let vss = z.0.4 in
        let u : Val = vptr a.0.ref_ptr.0 a.0.ref_ptr.1 in
        let log : (GhostHistory.the_row).Denot = record { history = []; views = fresh 0 a.0.now.actors } in
        qed 𝓛 ((raw toks ⊛ ‵ (owns (types_at ended.signature.params z.0.0) a vss)) ∷ raw ((held z.0.0 a).requires z.1) ∷ []) ∵
        keep ! (0 ∷ []) $ split ! $ move ! (1 ∷ []) $ fsplit ! $ fsplit ! $ feq_l ! (λ is₀. drop ! $ drop ! $
        regoal ! (λ (us : List Val). prop (WpFn 𝓤 H C Λ function (us ++ []) Post)) is₀ refl $
        enter ! C Λ function (u ∷ []) Post $ alloc_all ! (λ l. pass_all ! refl ((tt, tt), tt) $
        sets ! (agg ! (no_more !)) refl (tt, tt) $
        nothing ! $ none_made ! $ fjoin ! $
        returns ! (look_at ! 0 refl) $ free_all ! refl $
        suffices ! _ (ends_at 𝓛 ended stayed held z none log (tt, tt) (tt, tt)) $ says ! (refl, refl) $
        nothing ! $ nothing ! $ fjoin ! $ move ! (2 ∷ 0 ∷ 1 ∷ []) $ done !))

  meets : (𝓣 : Tables 𝓤 H) → Meets 𝓛 ended.signature (WpFn 𝓤 H 𝓣.C 𝓣.Λ function) (closing 𝓛 ended held)
  meets 𝓣 =
      walk_Meets 𝓛 ended stayed (Goes-dropped 𝓛 1 (RefOf (0 ∷ []) tt (plain (λ _. Extent.the_row)) (λ _. tt)) yes (λ κs x f. refl), tt) held
      (WpFn 𝓤 H 𝓣.C 𝓣.Λ function) (WpFn-mono 𝓤 H 𝓛.laws 𝓣 function) (frame_views 𝓣.C 𝓣.Λ)

pub start_spec : {M : Type 1} → stated.statement M
unfolding tables_of
start_spec 𝓤 𝓛 𝓜 𝓡 wired =
    let 𝓣 : Tables 𝓤 𝓛.H = tables_of 𝓤 𝓛.H 𝓜 (tables 𝓤 𝓛.H 𝓜 𝓡 𝓡.env) in
    entered 𝓤 𝓛.H (triple_of 𝓛 ended.signature (closing 𝓛 ended (held 𝓛 𝓜.mem 𝓡.returns))) 𝓣.C 𝓣.Λ #self function
    (code.unfolded 𝓤 𝓛.H 𝓜 𝓡 wired) (meets 𝓛 𝓜.mem 𝓡.returns 𝓣)
