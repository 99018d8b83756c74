-- `of` makes a value of no bytes: what it says is read off the argument.
use Rattle.std.proofs.Common.{[], ◌∷◌, refl}
use Rattle.ghost_map.proofs.Prelude
use Prelude.{a_type, agg, alive, alloc_all, and_then, bounded, by, dcons, dnil, enter, fact_i}
use Prelude.{fjoin, free_all, get, Goes-dropped, inst_fn, keep, look_at, move, named, no_more}
use Prelude.{nothing, owns, param, pass_all, plain, proved, qed, RattleType, raw, RefOf, returns}
use Prelude.{sets, shr_Tells, shr_vals, split, SProp, stay_dropped, Stays, tables, types_at, use0}
use Prelude.{Val, vptr, walk_of, yes, !, ‵, ◌$◌, ◌∵◌, ◌⊛◌}
use Rattle.ghost_map.specs.contracts.value.Ghost.of.{clauses, ended}
use Rattle.ghost_map.proofs.Walks.{ends, Token, token, token_made}
use Rattle.ghost_map.proofs.value.Ghost.of.Statement.{statement}
use Rattle.ghost_map.specs.contracts.value.Ghost as Ghost
use Rattle.ghost_map.specs.contracts.value.Ghost.of.Key.{name as #self}
use Rattle.ghost_map.proofs.value.Ghost.of.Code as code

pub of_spec : {M : Type 1} → statement M
of_spec 𝓤 𝓛 𝓜 𝓡 wired T X F _ _ _ g d _ =
    let H = 𝓛.H in let 𝓣 = tables 𝓤 H 𝓜 𝓡 𝓡.env in let En = ended T X F g d in let T' : RattleType = param 0 T in let X' : RattleType = param 1 X in
    let R = RefOf (0 ∷ []) tt (plain (λ _. X')) (λ _. tt) in
    let inst = bounded (a_type ∷ a_type ∷ a_type ∷ []) (T, (X, (F, tt))) (dcons d dnil) in let fn = inst_fn inst code.function in
    let c = clauses T X F g d 𝓛 𝓜.mem 𝓡.returns in
    let hs : Stays En.signature.params En.kept = (stay_dropped R yes, tt) in
    proved 𝓛 En hs c 𝓜 𝓡 (Goes-dropped 𝓛 4 R yes (λ κs x f. refl), tt) (#self inst) fn (code.unfolded 𝓤 H 𝓜 𝓡 wired (T, (X, (F, tt))) d)
    (λ κs. (shr_vals, tt)) (λ κs. (shr_Tells (named 0) κs.0 X', tt)) (λ κs qs bounds a gh are.
    let p : Val = vptr a.0.ref_ptr.0 a.0.ref_ptr.1 in let r : (Ghost.the_row T').Denot = record { marker = record {}; value = g.told a.0.now } in
    let y : (walk_of 𝓛 En hs c).Ghost = ((κs, qs, bounds, a, (p ∷ [], tt)), gh) in let Post : Val → SProp 𝓤 = (walk_of 𝓛 En hs c).post y in
    qed 𝓛 ((raw (alive 𝓛 En.signature κs qs) ⊛ ‵ (owns (types_at En.signature.params κs) a y.0.4)) ∷ raw ((c κs a).requires gh) ∷ []) ∵ split ! $
    keep ! (0 ∷ []) $
    enter ! 𝓣.C 𝓣.Λ fn (p ∷ []) Post $ alloc_all ! (λ l. pass_all ! refl ((tt, tt), tt) $ sets ! (agg ! (no_more !)) refl (tt, tt) $
    sets ! (agg ! (and_then ! (get ! refl) (no_more !))) refl (tt, (tt, tt)) $
    nothing ! $ use0 𝓛 (‵ ((Token T').own_val (record {}, tt) (token ∷ []))) (token_made T' 𝓛) $ fjoin ! $ nothing ! $ nothing ! $ fjoin ! $
    returns ! (look_at ! 0 refl) $ free_all ! refl $ move ! (2 ∷ 0 ∷ 1 ∷ []) $
    by ! (ends 𝓛 En hs c y token r (tt, tt) (tt, tt) (fact_i 𝓤 _ (base.Logic.emp 𝓤) refl))))
