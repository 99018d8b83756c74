-- `open` hands out the map at the brand's name.
use Rattle.std.proofs.Common.{ℕ, [], ◌∷◌, refl}
use Rattle.ghost_map.proofs.Prelude
use Prelude.{a_type, agg, alive, alloc_all, and_then, blank_owns, bounded, by, dcons, dnil, drop}
use Prelude.{enter, fact, fact_i, fjoin, free_all, fsplit, ftrue, get, given, Goes-dropped}
use Prelude.{inst_fn, keep, learn, look_at, map_owns, move, no_more, nothing, owns, param}
use Prelude.{pass_all, plain, proved, qed, RattleType, raw, returns, rewrite, sets, split, SProp}
use Prelude.{stay_dropped, Stays, tables, Tuple, types_at, unit, use0, use1, Val, walk_of, yes, ! }
use Prelude.{‵, ◌$◌, ◌∵◌, ◌⊛◌}
use Rattle.ghost_map.specs.contracts.map.Blank.open.{clauses, ended}
use Rattle.ghost_map.proofs.Walks.{ends, Token, token, token_made, token_told}
use Rattle.ghost_map.proofs.map.Blank.open.Statement.{statement}
use Rattle.ghost_map.specs.contracts.map.Blank as Blank
use Rattle.ghost_map.specs.contracts.map.GhostMap as GhostMap
use Rattle.ghost_map.specs.contracts.entry.GhostEntry as GhostEntry
use Rattle.ghost_map.proofs.Steps as steps
use Rattle.ghost_map.specs.contracts.map.Blank.open.Key.{name as #self}
use Rattle.ghost_map.proofs.map.Blank.open.Code as code

pub open_spec : {M : Type 1} → statement M
open_spec 𝓤 𝓛 𝓜 𝓡 wired N T _ _ g d _ =
    let H = 𝓛.H in let 𝓣 = tables 𝓤 H 𝓜 𝓡 𝓡.env in let En = ended N T g d in let N' : RattleType = param 0 N in let T' : RattleType = param 1 T in
    let Pair : RattleType = Tuple (N' ∷ T' ∷ []) in
    let inst = bounded (a_type ∷ a_type ∷ []) (N, (T, tt)) (dcons d dnil) in let fn = inst_fn inst code.function in
    let c = clauses N T g d 𝓛 𝓜.mem 𝓡.returns in
    let A : RattleType = GhostMap.the_row N' T' g in let B : RattleType = GhostEntry.the_row N' T' g in
    let hs : Stays En.signature.params En.kept = (stay_dropped (plain (λ _. Blank.the_row)) yes, tt) in
    proved 𝓛 En hs c 𝓜 𝓡 (Goes-dropped 𝓛 2 (plain (λ _. Blank.the_row)) yes (λ κs x f. refl), tt) (#self inst) fn (code.unfolded 𝓤 H 𝓜 𝓡 wired (N, (T, tt)) d)
    (λ κs. ((λ x. token ∷ []), tt)) (λ κs. ((λ x vs is. token_told unit vs is.0), tt)) (λ κs qs bounds a gh are.
    let y : (walk_of 𝓛 En hs c).Ghost = ((κs, qs, bounds, a, (token ∷ [], tt)), gh) in let Post : Val → SProp 𝓤 = (walk_of 𝓛 En hs c).post y in
    let m : A.Denot = record { marker = record {}; entries = [] } in
    qed 𝓛 ((raw (alive 𝓛 En.signature κs qs) ⊛ ‵ (owns (types_at En.signature.params κs) a y.0.4)) ∷ raw (fact 𝓤 _) ∷ raw (fact 𝓤 _) ∷ given _ (‵ ftrue)
    ∷ []) ∵ keep ! (3 ∷ 0 ∷ []) $ learn ! (λ asked. drop ! $ split ! $
    move ! (1 ∷ []) $ fsplit ! $ fsplit ! $ keep ! (1 ∷ 3 ∷ []) $ rewrite ! 0 (λ (n : ℕ). ‵ (blank_owns n)) {x = g.name} {y = a.0.name} asked refl $
    use1 𝓛 (‵ (map_owns T'.coded.code g.name [])) (steps.names T'.coded 𝓛 g.name) $
    enter ! 𝓣.C 𝓣.Λ fn (token ∷ []) Post $ alloc_all ! (λ l. pass_all ! refl ((tt, (tt, tt)), tt) $ sets ! (agg ! (no_more !)) refl (tt, tt) $
    sets ! (agg ! (and_then ! (get ! refl) (no_more !))) refl (tt, (tt, tt)) $
    use0 𝓛 (‵ ((Token Pair).own_val (record {}, tt) (token ∷ []))) (token_made Pair 𝓛) $ fjoin ! $ nothing ! $ nothing ! $ fjoin ! $
    returns ! (look_at ! 0 refl) $ free_all ! refl $ move ! (2 ∷ 0 ∷ 1 ∷ []) $
    by ! (ends 𝓛 En hs c y token m (tt, tt) (tt, tt) (fact_i 𝓤 _ (base.Logic.emp 𝓤) refl)))))
