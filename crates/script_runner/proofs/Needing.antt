-- What workers need of the tables that they are lent.
use Rattle.std.proofs.Common.{◌≡◌, List, [], ◌∷◌, ◌++◌, map, reverse, All, sym, refl, ◌∙◌, subst}
use Rattle.script_runner.proofs.TablePrelude.{DeskNow, IsNew, IsPartedInto, reverse-append, Shape, Share}
use Rattle.script_runner.proofs.TablePrelude.{TableNow}
use Rattle.std.proofs.lemmas.List.Elements.{All-from_recursion, All-weaker, recursion_from_All}
use Rattle.std.specs.List.{AllByRecursion}
use Rattle.script_runner.specs.Staffs.{IsLent, MeetsNeeds, WorkerNeeds}

module _ {V : Type 0} where
  -- the new tables of a desk's parts can be lent
  lent_each : (d e : DeskNow V) (shape : Shape) (share : Share) (ts : List (TableNow V)) → d.shape ≡ shape
      → IsPartedInto d share.allowance share.blocks ts e → AllByRecursion (IsNew share.slots) ts → AllByRecursion (IsLent shape share) ts
  lent_each d e shape share [] of parts new = tt
  lent_each d e shape share (t ∷ ts) of parts new =
      let off = parts.1 in (
        record {
          new = new.0;
          of = off.beside.1 ∙ of;
          allowance = off.allowance.0;
          stock = off.stock.0;
          bare = (off.bag.0, off.held.0, off.count.1);
        },
        lent_each parts.0 e shape share ts (off.event.same.1 ∙ of) parts.2 new.1,
      )

  -- so each worker has what it needs in each of them
  pub lent_meet : {W : Type 0} (needs : WorkerNeeds V W) (d e : DeskNow V) (share : Share) (ts : List (TableNow V)) (ws : List W)
      → IsPartedInto d share.allowance share.blocks ts e → All (IsNew share.slots) ts → MeetsNeeds needs d.shape share ws
      → All (λ w. All (needs w) ts) ws
  lent_meet needs d e share ts ws parts new meets =
      let lent = lent_each d e d.shape share ts refl parts (recursion_from_All (IsNew share.slots) ts new) in
      All-weaker (λ w. (t : TableNow V) → IsLent d.shape share t → needs w t) (λ w. All (needs w) ts)
      (λ w has. All-weaker (IsLent d.shape share) (needs w) has ts (All-from_recursion (IsLent d.shape share) ts lent)) ws meets

  -- the condition is the same by another name of the shape
  pub same_needs : {W : Type 0} (needs : WorkerNeeds V W) (shape other : Shape) (share : Share) (ws : List W) → other ≡ shape
      → MeetsNeeds needs shape share ws → MeetsNeeds needs other share ws
  same_needs needs shape other share ws is meets = subst (λ (z : Shape). MeetsNeeds needs z share ws) (sym is) meets

-- what is so of each is so of the list from its end
split_last : {X : Type 0} (P : X → Type 0) (xs : List X) (x : X) → AllByRecursion P (xs ++ x ∷ []) → AllByRecursion P xs × P x
split_last P [] x all = (tt, all.0)
split_last P (y ∷ ys) x all = let rest = split_last P ys x all.1 in ((all.0, rest.0), rest.1)

turned_back : {X : Type 0} (P : X → Type 0) (xs : List X) → AllByRecursion P (reverse xs) → AllByRecursion P xs
turned_back P [] all = tt
turned_back P (x ∷ xs) all =
    let both = split_last P (reverse xs) x (subst (AllByRecursion P) (reverse-append (x ∷ []) xs) all) in (both.1, turned_back P xs both.0)

module _ {X W T : Type 0} (worker : X → W) (table : X → T) (needs : W → T → Type 0) where
  fewer : (t : T) (ts : List T) (ws : List W) → AllByRecursion (λ w. AllByRecursion (needs w) (t ∷ ts)) ws
      → AllByRecursion (λ w. AllByRecursion (needs w) ts) ws
  fewer t ts [] all = tt
  fewer t ts (w ∷ ws) all = (all.0.1, fewer t ts ws all.1)

  each_own : (xs : List X) → AllByRecursion (λ w. AllByRecursion (needs w) (map table xs)) (map worker xs)
      → AllByRecursion (λ x. needs (worker x) (table x)) xs
  each_own [] all = tt
  each_own (x ∷ xs) all = (all.0.0, each_own xs (fewer (table x) (map table xs) (map worker xs) all.1))

  -- and at its post, with one of them
  pub posts_meet : (had : List W) (lent : List T) (posts : List X) → lent ≡ reverse (map table posts) → had ≡ reverse (map worker posts)
      → All (λ w. All (needs w) lent) had → All (λ x. needs (worker x) (table x)) posts
  posts_meet had lent posts a b all =
      let each = All-weaker (λ w. All (needs w) lent) (λ w. AllByRecursion (needs w) (map table posts))
      (λ w has. turned_back (needs w) (map table posts) (subst (AllByRecursion (needs w)) a (recursion_from_All (needs w) lent has))) had all in
      let ws = subst (All (λ w. AllByRecursion (needs w) (map table posts))) b each in
      All-from_recursion (λ x. needs (worker x) (table x)) posts
      (each_own posts (turned_back (λ w. AllByRecursion (needs w) (map table posts)) (map worker posts)
      (recursion_from_All (λ w. AllByRecursion (needs w) (map table posts)) (reverse (map worker posts)) ws)))
