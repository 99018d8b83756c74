-- `new` makes one open cell.
use Rattle.std.proofs.Common.{ℕ, [], ◌∷◌, refl}
use Rattle.ghost_map.proofs.Prelude.{agg, alive, alloc_all, and_then, await, blank_owns, by, enter}
use Rattle.ghost_map.proofs.Prelude.{fjoin, free_all, get, id⊢, keep, later, look_at, move}
use Rattle.ghost_map.proofs.Prelude.{no_more, nothing, owns, pass_all, pick, proved, qed, raw}
use Rattle.ghost_map.proofs.Prelude.{returns, sets, some, split, SProp, Stays, tables, types_at}
use Rattle.ghost_map.proofs.Prelude.{unit, use0, Val, walk_of, !, ‵, ◌$◌, ◌∵◌, ◌⊛◌}
use Rattle.ghost_map.specs.contracts.map.Blank.new.{clauses, ended}
use Rattle.ghost_map.proofs.Walks.{ends, Token, token, token_made}
use Rattle.ghost_map.proofs.map.Blank.new.Statement.{statement}
use Rattle.ghost_map.proofs.Steps as steps
use Rattle.ghost_map.specs.contracts.map.Blank.new.Key.{name as #self}
use Rattle.ghost_map.proofs.map.Blank.new.Code as code

pub new_spec : {M : Type 1} → statement M
new_spec 𝓤 𝓛 𝓜 𝓡 wired =
    let H = 𝓛.H in let 𝓣 = tables 𝓤 H 𝓜 𝓡 𝓡.env in let fn = code.function in let c = clauses 𝓛 𝓜.mem 𝓡.returns in
    let hs : Stays ended.signature.params ended.kept = tt in
    proved 𝓛 ended hs c 𝓜 𝓡 tt #self fn (code.unfolded 𝓤 H 𝓜 𝓡 wired) (λ κs. tt) (λ κs. tt) (λ κs qs bounds a gh are.
    let y : (walk_of 𝓛 ended hs c).Ghost = ((κs, qs, bounds, a, tt), gh) in let Post : Val → SProp 𝓤 = (walk_of 𝓛 ended hs c).post y in
    qed 𝓛 ((raw (alive 𝓛 ended.signature κs qs) ⊛ ‵ (owns (types_at ended.signature.params κs) a tt)) ∷ raw ((c κs a).requires gh) ∷ []) ∵ split ! $
    keep ! (0 ∷ []) $
    enter ! 𝓣.C 𝓣.Λ fn [] Post $ alloc_all ! (λ l. pass_all ! refl tt $
    use0 𝓛 (later (some (λ (γ : ℕ). ‵ (blank_owns γ)))) (steps.begins 𝓛) $ await ! tt $ pick ! (λ γ.
    sets ! (agg ! (no_more !)) refl (tt, tt) $ sets ! (agg ! (and_then ! (get ! refl) (no_more !))) refl (tt, (tt, tt)) $
    use0 𝓛 (‵ ((Token unit).own_val (record {}, tt) (token ∷ []))) (token_made unit 𝓛) $ fjoin ! $ nothing ! $
    returns ! (look_at ! 0 refl) $ free_all ! refl $ move ! (2 ∷ 0 ∷ 1 ∷ []) $
    by ! (ends 𝓛 ended hs c y token (record { marker = record {}; name = γ }) tt tt (id⊢ 𝓤 _)))))
