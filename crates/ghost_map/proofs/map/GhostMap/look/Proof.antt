-- `look` reads the map beside the entry that is lent.
use Rattle.std.proofs.Common.{◌≡◌, ℕ, List, [], ◌∷◌, refl}
use Rattle.ghost_map.proofs.Prelude
use Prelude.{a_type, alloc_all, await, bounded, by, closes, dcons, dnil, drop, enter, feq_i, fjoin}
use Prelude.{fjoin3, flft, Fml, free_all, fsep, fsplit, fsplit3, ftrue, given, Goes-dropped}
use Prelude.{Goes-ref, inst_fn, join, keep, later, learn, look_at, map_owns, move, mut_Tells}
use Prelude.{mut_vals, named, nothing, of_opd, opens, owns, param, pass_all, plain, proved, qed}
use Prelude.{RattleType, raw, RefOf, returns, sets, shr_Tells, shr_vals, split, SProp}
use Prelude.{stay_dropped, stay_ref, Stays, tables, Tuple, types_at, unit_lit, use3, Val, vptr}
use Prelude.{vunit, walk_of, yes, !, ‵, ◌$◌, ◌∵◌, ◌⊛◌}
use denote.Opens.{unhide}
use Rattle.ghost_map.specs.contracts.map.GhostMap.look.{clauses, ended}
use Rattle.ghost_map.proofs.Walks.{ends, tells_all}
use Rattle.ghost_map.proofs.map.GhostMap.look.Statement.{statement}
use Rattle.ghost_map.specs.contracts.map.GhostMap as GhostMap
use Rattle.ghost_map.specs.contracts.entry.GhostEntry as GhostEntry
use Rattle.ghost_map.proofs.Steps as steps
use Rattle.ghost_map.specs.contracts.map.GhostMap.look.Key.{name as #self}
use Rattle.ghost_map.proofs.map.GhostMap.look.Code as code

pub look_spec : {M : Type 1} → statement M
look_spec 𝓤 𝓛 𝓜 𝓡 wired N T _ _ g d _ =
    let H = 𝓛.H in let 𝓣 = tables 𝓤 H 𝓜 𝓡 𝓡.env in let En = ended N T g d in let N' : RattleType = param 0 N in let T' : RattleType = param 1 T in
    let Pair : RattleType = Tuple (N' ∷ T' ∷ []) in
    let inst = bounded (a_type ∷ a_type ∷ []) (N, (T, tt)) (dcons d dnil) in let fn = inst_fn inst code.function in
    let c = clauses N T g d 𝓛 𝓜.mem 𝓡.returns in
    let A : RattleType = GhostMap.the_row N' T' g in let B : RattleType = GhostEntry.the_row N' T' g in
    let R = RefOf (1 ∷ []) tt (plain (λ _. B)) (λ _. tt) in let hs : Stays En.signature.params En.kept = (
      stay_ref (0
          ∷ []) tt (plain (λ _. A)),
      (stay_dropped R yes, tt),
    ) in
    proved 𝓛 En hs c 𝓜 𝓡 (Goes-ref 𝓛 4 0 tt (plain (λ _. A)), (Goes-dropped 𝓛 4 R yes (λ κs x f. refl), tt)) (#self inst) fn (code.unfolded 𝓤 H 𝓜 𝓡 wired
    (N, (T, tt)) d)
    (λ κs. (mut_vals, (shr_vals, tt))) (λ κs. (mut_Tells (named 0) κs.0 A, (shr_Tells (named 1) κs.1.0 B, tt))) (λ κs qs bounds a gh are.
    let b : ℕ = a.0.ref_ptr.0 in let o : ℕ = a.0.ref_ptr.1 in let u : Val = vptr b o in let v : Val = vptr a.1.0.ref_ptr.0 a.1.0.ref_ptr.1 in
    let m : A.Denot = a.0.now in let e : B.Denot = a.1.0.now in let κ₁ = κs.1.0 in let q₁ = qs.1.0 in
    let y : (walk_of 𝓛 En hs c).Ghost = ((κs, qs, bounds, a, (u ∷ [], (v ∷ [], tt))), gh) in let Post : Val → SProp 𝓤 = (walk_of 𝓛 En hs c).post y in
    let rest : Fml = fsep (flft κs.1.1.0 qs.1.1.0) (fsep (flft κs.1.1.1.0 qs.1.1.1.0) ftrue) in
    qed 𝓛 (((‵ (flft κs.0 qs.0) ⊛ ‵ (flft κ₁ q₁) ⊛ ‵ rest) ⊛ ‵ (owns (types_at En.signature.params κs) a y.0.4)) ∷ raw ((c κs a).requires gh) ∷ []) ∵
    split ! $ split ! $ move ! (1 ∷ []) $ split ! $ move ! (3 ∷ []) $ fsplit ! $ fsplit3 ! $ drop ! $ move ! (2 ∷ []) $ fsplit ! $ fsplit ! $ drop ! $
    unhide ! $ fsplit ! $ drop ! $ keep ! (2 ∷ 3 ∷ 6 ∷ 0 ∷ 4 ∷ 5 ∷ []) $
    enter ! 𝓣.C 𝓣.Λ fn (u ∷ v ∷ []) Post $ alloc_all ! (λ l. pass_all ! refl ((tt, tt), ((tt, tt), tt)) $ opens ! tt A b o (λ cs. move ! (1 ∷ []) $
    fsplit ! $ move ! (1 ∷ 6 ∷ 7 ∷ []) $
    use3 𝓛 (later (given (steps.Has m.entries e.at e.value) (‵ (map_owns T'.coded.code g.name m.entries) ⊛ ‵ (flft κ₁ q₁))))
    (steps.seen T'.coded 𝓛 g.name m.entries e.at e.life e.value κ₁ q₁) $
    await ! tt $ learn ! (λ has. split ! $ move ! (2 ∷ 0 ∷ []) $ fjoin ! $ move ! (2 ∷ 0 ∷ 3 ∷ 4 ∷ 5 ∷ []) $ closes ! tt A m cs b o $
    sets ! (of_opd ! (unit_lit !)) refl (tt, tt) $ returns ! (look_at ! 0 refl) $ free_all ! refl $ feq_i ! (List Val) (u ∷ []) (u ∷ []) refl $ fjoin3 ! $
    nothing ! $ nothing ! $ fjoin ! $ move ! (1 ∷ 0 ∷ []) $ fjoin ! $
    feq_i ! (List Val) (vunit ∷ []) (vunit ∷ []) refl $ move ! (1 ∷ 0 ∷ []) $ join ! $ move ! (2 ∷ 3 ∷ []) $ join ! $ move ! (2 ∷ 0 ∷ []) $ join ! $
    move ! (1 ∷ []) $ split ! $ move ! (2 ∷ 0 ∷ 1 ∷ []) $
    by ! (ends 𝓛 En hs c y vunit tt (m, (tt, tt)) (tt, (tt, tt)) (tells_all 𝓤 ((m.entries ≡ m.entries) ∷ steps.Has m.entries e.at e.value
    ∷ []) (refl, has)))))))
