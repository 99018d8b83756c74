-- What is shown, piece by piece.
pub use Rattle.run_picture.proofs.Elements.{shows_more, shows_none}
pub use Rattle.run_picture.proofs.Elements.{shows_then}
use Rattle.std.proofs.Common.{◌≡◌, ℕ, suc, ◌+◌, ◌<◌, List, [], ◌∷◌, ◌++◌, ap, arith, codes, decimal}
use Rattle.std.proofs.Common.{get_or, length, map, refl, subst, sym, take}
use Rattle.std.specs.List.{flat_map}
use Rattle.std.proofs.lemmas.List.{append-nil}
use Rattle.run_picture.specs.Elements.{Shows}
use Rattle.run_picture.specs.declared.lanes.Lane.{Lane}
use Rattle.run_picture.specs.declared.picture.Picture.{Picture}
use Rattle.run_picture.specs.Shown.{ShowsPicture, block_words, cell_words, lane_words, left_words}
use Rattle.run_picture.specs.Shown.{row_words, thread_titles, top_words}

-- nothing is read on the first part
pub shows_after : (a b c : List ℕ) (ws : List (List ℕ)) → Shows a b [] → Shows b c ws → Shows a c ws
shows_after a b c ws p q = shows_then a b c [] ws p q

-- the same word
pub shows_is : (a b v w : List ℕ) → v ≡ w → Shows a b (v ∷ []) → Shows a b (w ∷ [])
shows_is a b v w e p = subst (λ (t : List ℕ). Shows a b (t ∷ [])) e p

-- the same list
pub shows_list : {A : Type 0} (f : A → List (List ℕ)) (xs ys : List A) (a b : List ℕ) → xs ≡ ys
    → Shows a b (flat_map f xs)
    → Shows a b (flat_map f ys)
shows_list {A} f xs ys a b e p = subst (λ (l : List A). Shows a b (flat_map f l)) e p

-- one more of a list, which this is
pub shows_item : {A : Type 0} (f : A → List (List ℕ)) (xs : List A) (i : ℕ) (x : A) (a b c : List ℕ)
    → i < length xs → x ≡ get_or xs i x
    → Shows a b (flat_map f (take i xs)) → Shows b c (f x)
    → Shows a c (flat_map f (take (i + 1) xs))
shows_item {A} f xs i x a b c lt is p q =
    shows_more f xs i x a b c lt p (subst (λ (y : A). Shows b c (f y)) is q)

-- nothing is read on the last part
pub shows_before : (a b c : List ℕ) (ws : List (List ℕ)) → Shows a b ws → Shows b c [] → Shows a c ws
shows_before a b c ws p q =
    subst (λ (vs : List (List ℕ)). Shows a c vs) (append-nil ws) (shows_then a b c ws [] p q)

-- the title of one thread more
pub titles_more : (n : ℕ) (a b c : List ℕ) → Shows a b (thread_titles n)
    → Shows b c ((codes "thread " ++ decimal (n + 1)) ∷ []) → Shows a c (thread_titles (n + 1))
titles_more n a b c p q =
    let next : n + 1 ≡ suc n = omega arith in
    subst (λ (k : ℕ). Shows a c (thread_titles k)) (sym next)
    (shows_then a b c (thread_titles n) _ p
    (subst (λ (k : ℕ). Shows b c ((codes "thread " ++ decimal k) ∷ [])) next q))

pub lanes_numbered : (lanes : List Lane)
    → flat_map lane_words lanes ≡ flat_map block_words (map (λ (l : Lane). l.block) lanes)
lanes_numbered [] = refl
lanes_numbered (l ∷ ls) = ap (λ (ws : List (List ℕ)). block_words l.block ++ ws) (lanes_numbered ls)

-- rows between what stands above and below them
pub shows_picture : (p : Picture) (cells : List ℕ) (lanes : List Lane) (a b c d : List ℕ)
    → Shows a b (top_words p.threads) → Shows b c (flat_map row_words p.rows.items)
    → Shows c d (flat_map (cell_words p.shared_cells) cells
    ++ (flat_map lane_words lanes ++ left_words p.left))
    → ShowsPicture p a d
shows_picture p cells lanes a b c d top rows bottom =
    record {
      cells = cells;
      blocks = map (λ (l : Lane). l.block) lanes;
      shows = shows_then a b d _ _ top (shows_then b c d _ _ rows
          (subst (λ (ws : List (List ℕ)). Shows c d (flat_map (cell_words p.shared_cells) cells
          ++ (ws ++ left_words p.left))) (lanes_numbered lanes) bottom));
    }

-- a picture that stands in a group
pub picture_within : (p : Picture) (b c : List ℕ) → ShowsPicture p [] b
    → ((ws : List (List ℕ)) → Shows [] b ws → Shows [] c ws) → ShowsPicture p [] c
picture_within p b c h q = record { cells = h.cells; blocks = h.blocks; shows = q _ h.shows }
