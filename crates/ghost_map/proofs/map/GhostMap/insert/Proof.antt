-- `insert` names the last cell and opens another.
use Rattle.std.proofs.Common.{◌≡◌, ℕ, List, [], ◌∷◌, ◌++◌, length, Some, refl}
use Rattle.ghost_map.proofs.Prelude
use Prelude.{a_type, agg, alloc_all, and_then, await, bounded, by, closes, dcons, dnil, enter}
use Prelude.{entry_owns, feq_i, fjoin, fjoin3, flft, Fml, free_all, fsep, fsplit, fsplit3, ftrue}
use Prelude.{get, Goes-dropped, Goes-ref, inst_fn, join, keep, later, look_at, map_owns, move}
use Prelude.{mut_Tells, mut_vals, named, no, no_more, nothing, opens, owns, param, pass_all, pick}
use Prelude.{plain, proved, qed, RattleType, raw, returns, sets, some, split, SProp, stay_dropped}
use Prelude.{stay_ref, Stays, tables, Tuple, types_at, use0, use1, Val, vptr, walk_of, !, ‵, ◌$◌}
use Prelude.{◌∵◌, ◌⊛◌}
use Rattle.ghost_map.specs.contracts.map.GhostMap.insert.{clauses, ended}
use Rattle.ghost_map.proofs.Walks.{ends, tells_all, Token, token, token_made, token_told}
use Rattle.ghost_map.proofs.map.GhostMap.insert.Statement.{statement}
use Rattle.ghost_map.specs.contracts.map.GhostMap as GhostMap
use Rattle.ghost_map.specs.contracts.entry.GhostEntry as GhostEntry
use Rattle.ghost_map.specs.contracts.value.Ghost as Ghost
use Rattle.ghost_map.proofs.Steps as steps
use Rattle.ghost_map.specs.contracts.map.GhostMap.insert.Key.{name as #self}
use Rattle.ghost_map.proofs.map.GhostMap.insert.Code as code

pub insert_spec : {M : Type 1} → statement M
insert_spec 𝓤 𝓛 𝓜 𝓡 wired N T _ _ g d _ =
    let H = 𝓛.H in let 𝓣 = tables 𝓤 H 𝓜 𝓡 𝓡.env in let En = ended N T g d in let N' : RattleType = param 0 N in let T' : RattleType = param 1 T in
    let Pair : RattleType = Tuple (N' ∷ T' ∷ []) in
    let inst = bounded (a_type ∷ a_type ∷ []) (N, (T, tt)) (dcons d dnil) in let fn = inst_fn inst code.function in
    let c = clauses N T g d 𝓛 𝓜.mem 𝓡.returns in
    let A : RattleType = GhostMap.the_row N' T' g in let B : RattleType = GhostEntry.the_row N' T' g in
    let G : RattleType = Ghost.the_row T' in let hs : Stays En.signature.params En.kept = (
      stay_ref (0
          ∷ []) tt (plain (λ _. A)),
      (stay_dropped (plain (λ _. G)) no, tt),
    ) in
    proved 𝓛 En hs c 𝓜 𝓡 (Goes-ref 𝓛 3 0 tt (plain (λ _. A)), (Goes-dropped 𝓛 3 (plain (λ _. G)) no (λ κs x f. refl), tt)) (#self inst) fn
    (code.unfolded 𝓤 H 𝓜 𝓡 wired (N, (T, tt)) d)
    (λ κs. (mut_vals, ((λ x. token ∷ []), tt))) (λ κs. (mut_Tells (named 0) κs.0 A, ((λ x vs is. token_told T' vs is.0), tt))) (λ κs qs bounds a gh are.
    let b : ℕ = a.0.ref_ptr.0 in let o : ℕ = a.0.ref_ptr.1 in let u : Val = vptr b o in let m : A.Denot = a.0.now in let x : T'.Denot = a.1.0.value in
    let m' : A.Denot = record { marker = m.marker; entries = m.entries ++ Some x ∷ [] } in
    let y : (walk_of 𝓛 En hs c).Ghost = ((κs, qs, bounds, a, (u ∷ [], (token ∷ [], tt))), gh) in let Post : Val → SProp 𝓤 = (walk_of 𝓛 En hs c).post y in
    let rest : Fml = fsep (flft κs.1.0 qs.1.0) (fsep (flft κs.1.1.0 qs.1.1.0) ftrue) in
    qed 𝓛 (((‵ (flft κs.0 qs.0) ⊛ ‵ rest) ⊛ ‵ (owns (types_at En.signature.params κs) a y.0.4)) ∷ raw ((c κs a).requires gh) ∷ []) ∵ split ! $ split ! $
    move ! (2 ∷ []) $ fsplit ! $ fsplit3 ! $ keep ! (1 ∷ 2 ∷ 4 ∷ 5 ∷ []) $
    enter ! 𝓣.C 𝓣.Λ fn (u ∷ token ∷ []) Post $ alloc_all ! (λ l. pass_all ! refl ((tt, tt), ((tt, (tt, tt)), tt)) $ opens ! tt A b o (λ cs. move ! (1 ∷ []) $
    fsplit ! $ move ! (1 ∷ []) $
    use1 𝓛 (later (some (λ (n : ℕ). ‵ (fsep (map_owns T'.coded.code g.name m'.entries) (entry_owns T'.coded.code g.name (length m.entries) n x)))))
    (steps.adds T'.coded 𝓛 g.name m.entries x) $ await ! tt $ pick ! (λ n. fsplit ! $
    let e : B.Denot = record { marker = record {}; at = length m.entries; life = n; value = x } in move ! (2 ∷ 0 ∷ []) $ fjoin ! $
    move ! (2 ∷ 0 ∷ 3 ∷ 4 ∷ 5 ∷ []) $ closes ! tt A m' cs b o $
    sets ! (agg ! (no_more !)) refl (tt, tt) $ sets ! (agg ! (and_then ! (get ! refl) (no_more !))) refl (tt, (tt, tt)) $
    returns ! (look_at ! 0 refl) $ free_all ! refl $ feq_i ! (List Val) (u ∷ []) (u ∷ []) refl $ fjoin3 ! $ nothing ! $ nothing ! $ fjoin ! $
    move ! (1 ∷ 0 ∷ []) $ fjoin ! $ move ! (2 ∷ []) $
    use0 𝓛 (‵ ((Token Pair).own_val (record {}, tt) (token ∷ []))) (token_made Pair 𝓛) $ fjoin ! $ move ! (2 ∷ 3 ∷ 1 ∷ 0 ∷ []) $ join ! $
    by ! (ends 𝓛 En hs c y token e (m', (tt, tt)) (tt, (tt, tt))
    (tells_all 𝓤 ((m'.entries ≡ m.entries ++ Some e.value ∷ []) ∷ (e.at ≡ length m.entries) ∷ (e.value ≡ x) ∷ []) (refl, (refl, refl))))))))
