-- What the walks share: the one machine value of every type here, and how a walk ends. Assumes `Logic`.
use Rattle.std.proofs.Common.{◌≡◌, List, [], ◌∷◌, ◌++◌, refl, ap, ◌∙◌}
use Rattle.ghost_map.proofs.Prelude.{alive, by, emp, ent, fact, fact_i, id⊢, Logic, move, qed}
use Rattle.ghost_map.proofs.Prelude.{RattleType, raw, sem, sep, SProp, Stays, Struct, Ura, use0}
use Rattle.ghost_map.proofs.Prelude.{Val, via, walk_of, !, ‵, ◌$◌, ◌∵◌}
use Rattle.atomic_table.proofs.Walks.{leaves}
use base.Logic.{emp∗, mono∗}
use borrow.Fn.Claims.{AllOf}
use denote.Laws.{Is}
use denote.Shadow.{makes_shadow}
use denote.Signature.{type_at}
use denote.Triple.Clauses.{at_exit, Clauses, Ended, Lasts}
use denote.Triple.Entry.{Res}
use denote.Triple.Walked.{Fit, has_of}
use mir.Val.{of_list, vcons, vnil, vstruct}
use Rattle.std.specs.contracts.marker.PhantomData as marker

abbrev pub token : Val
token = vstruct (vcons (vstruct vnil) vnil)

module _ (X : RattleType) where
  abbrev pub Token : RattleType
  Token = Struct record { name = []; args = []; types = []; fields = marker.the_row X ∷ [] }

  pub token_told : (vs : List Val) → Is Token (record {}, tt) vs → vs ≡ token ∷ []
  token_told vs is = is.1.0 ∙ ap (λ (ws : List Val). vstruct (of_list (ws ++ [])) ∷ []) is.1.1.0.1.0

  pub token_made : {M : Type 1} {𝓤 : Ura M} (𝓛 : Logic 𝓤) → ent 𝓤 (emp 𝓤) (sem 𝓛 (Token.own_val (record {}, tt) (token ∷ [])))
  token_made 𝓛 = makes_shadow 𝓛 (Token.own_val (record {}, tt) (token ∷ [])) (λ vss. (tt, ((λ uss. (tt, tt)), tt))) (
    (
      vstruct vnil
          ∷ [],
      tt,
    ),
    (refl, ((tt, (refl, tt)), tt)),
  )

pub ends : {M : Type 1} {𝓤 : Ura M} (𝓛 : Logic 𝓤) (T : Ended) (hs : Stays T.signature.params T.kept) (c : Clauses 𝓤 T) (y : (walk_of 𝓛 T hs c).Ghost)
    (v : Val) (r : Res T.signature y.0.0) (ws : Lasts T y.0.0 y.0.3)
    → Fit T hs y.0.0 y.0.3 ws → ent 𝓤 (emp 𝓤) ((c y.0.0 y.0.3).ensures y.1 r (at_exit T y.0.0 y.0.3 ws))
    → ent 𝓤 (sep 𝓤 (alive 𝓛 T.signature y.0.0 y.0.1) (sep 𝓤 (sem 𝓛 (has_of y.0.0 T.signature.params T.kept hs y.0.3 ws y.0.4)) (sem 𝓛
    ((type_at T.signature.result y.0.0).own_val r (v ∷ []))))) ((walk_of 𝓛 T hs c).post y v)
ends 𝓛 T hs c y v r ws fit told = qed 𝓛 (raw (alive 𝓛 T.signature y.0.0 y.0.1) ∷ ‵ (has_of y.0.0 T.signature.params T.kept hs y.0.3 ws y.0.4)
    ∷ ‵ ((type_at T.signature.result y.0.0).own_val r (v ∷ [])) ∷ []) ∵
    use0 𝓛 (raw ((c y.0.0 y.0.3).ensures y.1 r (at_exit T y.0.0 y.0.3 ws))) told $ move ! (1 ∷ 2 ∷ 3 ∷ []) $ by ! (leaves 𝓛 T hs c y v r ws fit)

-- the clauses, each a fact
module _ {M : Type 1} (𝓤 : Ura M) where
  abbrev pub facts : List (Type 0) → SProp 𝓤
  facts [] = emp 𝓤
  facts (φ ∷ []) = fact 𝓤 φ
  facts (φ ∷ ψ ∷ φs) = sep 𝓤 (fact 𝓤 φ) (facts (ψ ∷ φs))

  pub tells_all : (φs : List (Type 0)) → AllOf φs → ent 𝓤 (emp 𝓤) (facts φs)
  tells_all [] all = id⊢ 𝓤 (emp 𝓤)
  tells_all (φ ∷ []) all = fact_i 𝓤 φ (emp 𝓤) all
  tells_all (φ ∷ ψ ∷ φs) all = via 𝓤 (sep 𝓤 (emp 𝓤) (emp 𝓤)) (emp∗ 𝓤 (emp 𝓤)) (mono∗ 𝓤 (fact_i 𝓤 φ (emp 𝓤) all.0) (tells_all (ψ ∷ φs) all.1))
