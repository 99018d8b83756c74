-- Lines that ask for a picture.
use Rattle.std.proofs.Common.{◌≡◌, ◌∙◌, Bool, true, false, refl, sym, ap, ap₂, List, [], ◌∷◌}
use Rattle.std.proofs.Common.{◌++◌, Option, Some, None, codes, decimal, inl, inr}
use Rattle.std.specs.Str.{bytes_eq}
use Rattle.clap.specs.Words.{Text}
use Rattle.clap.specs.Lexer.{long_of, short_of}
use Rattle.script_picture.specs.declared.part.Part.{Part}
use Rattle.sptr.specs.CommandLine.{IsDrawLine, IsJoinedLine, IsLine, fine_given, fine_words}
use Rattle.sptr.specs.CommandLine.{page_given, part_given, part_words, word_given}
use Rattle.sptr.specs.Parts.{part_named}
use Rattle.sptr.proofs.OnLiterals.{sptr_on_literals}
use Rattle.sptr.proofs.PartWords.{part_written}
use Rattle.sptr.proofs.PlainTurns.{IsFor, with_joined, with_turns}

-- the line has no fault, and asks for a picture, of what these words are
record IsForDraw (is_fine is_page : Bool) (from to : Option Text) (list : Text) (words : List Text)
    : Type 0 where
  line : IsFor (codes "draw") list words
  fine : fine_given words ≡ is_fine
  page : page_given words ≡ is_page
  from_is : word_given (codes "from") words ≡ from
  to_is : word_given (codes "to") words ≡ to

whole_alone : (name : Text)
    → IsForDraw false false None None [] (name ∷ codes "draw" ∷ [])
unfolding sptr_on_literals
whole_alone name =
    record { line = (refl, refl, refl, (refl, refl)); fine = refl; page = refl; from_is = refl; to_is = refl }

whole_joined : (name list : Text)
    → IsForDraw false false None None list
    (name ∷ codes "draw" ∷ (codes "--turns=" ++ list) ∷ [])
unfolding sptr_on_literals
whole_joined name list =
    record { line = (refl, refl, refl, (refl, refl)); fine = refl; page = refl; from_is = refl; to_is = refl }

whole_apart : (name list : Text) → bytes_eq list (45 ∷ 45 ∷ []) ≡ false
    → long_of list ≡ None → short_of list ≡ None
    → IsForDraw false false None None list
    (name ∷ codes "draw" ∷ codes "--turns" ∷ list ∷ [])
unfolding sptr_on_literals
whole_apart name list dashes long short =
    record {
      line = (
        rw (dashes, long, short) refl,
        refl,
        rw (dashes, long, short) refl,
        (rw (dashes, long, short) refl, rw (dashes, long, short) refl),
      );
      fine = rw (dashes, long, short) refl;
      page = rw (dashes, long, short) refl;
      from_is = rw (dashes, long, short) refl;
      to_is = rw (dashes, long, short) refl;
    }

fine_alone : (name : Text)
    → IsForDraw true false None None [] (name ∷ codes "draw" ∷ codes "--fine" ∷ [])
unfolding sptr_on_literals
fine_alone name =
    record { line = (refl, refl, refl, (refl, refl)); fine = refl; page = refl; from_is = refl; to_is = refl }

fine_joined : (name list : Text)
    → IsForDraw true false None None list
    (name ∷ codes "draw" ∷ codes "--fine" ∷ (codes "--turns=" ++ list) ∷ [])
unfolding sptr_on_literals
fine_joined name list =
    record { line = (refl, refl, refl, (refl, refl)); fine = refl; page = refl; from_is = refl; to_is = refl }

fine_apart : (name list : Text) → bytes_eq list (45 ∷ 45 ∷ []) ≡ false
    → long_of list ≡ None → short_of list ≡ None
    → IsForDraw true false None None list
    (name ∷ codes "draw" ∷ codes "--fine" ∷ codes "--turns" ∷ list ∷ [])
unfolding sptr_on_literals
fine_apart name list dashes long short =
    record {
      line = (
        rw (dashes, long, short) refl,
        refl,
        rw (dashes, long, short) refl,
        (rw (dashes, long, short) refl, rw (dashes, long, short) refl),
      );
      fine = rw (dashes, long, short) refl;
      page = rw (dashes, long, short) refl;
      from_is = rw (dashes, long, short) refl;
      to_is = rw (dashes, long, short) refl;
    }

page_alone : (name : Text)
    → IsForDraw false true None None [] (name ∷ codes "draw" ∷ codes "--page" ∷ [])
unfolding sptr_on_literals
page_alone name =
    record { line = (refl, refl, refl, (refl, refl)); fine = refl; page = refl; from_is = refl; to_is = refl }

page_joined : (name list : Text)
    → IsForDraw false true None None list
    (name ∷ codes "draw" ∷ codes "--page" ∷ (codes "--turns=" ++ list) ∷ [])
unfolding sptr_on_literals
page_joined name list =
    record { line = (refl, refl, refl, (refl, refl)); fine = refl; page = refl; from_is = refl; to_is = refl }

page_apart : (name list : Text) → bytes_eq list (45 ∷ 45 ∷ []) ≡ false
    → long_of list ≡ None → short_of list ≡ None
    → IsForDraw false true None None list
    (name ∷ codes "draw" ∷ codes "--page" ∷ codes "--turns" ∷ list ∷ [])
unfolding sptr_on_literals
page_apart name list dashes long short =
    record {
      line = (
        rw (dashes, long, short) refl,
        refl,
        rw (dashes, long, short) refl,
        (rw (dashes, long, short) refl, rw (dashes, long, short) refl),
      );
      fine = rw (dashes, long, short) refl;
      page = rw (dashes, long, short) refl;
      from_is = rw (dashes, long, short) refl;
      to_is = rw (dashes, long, short) refl;
    }

fine_page_alone : (name : Text)
    → IsForDraw true true None None [] (name ∷ codes "draw" ∷ codes "--fine" ∷ codes "--page" ∷ [])
unfolding sptr_on_literals
fine_page_alone name =
    record { line = (refl, refl, refl, (refl, refl)); fine = refl; page = refl; from_is = refl; to_is = refl }

fine_page_joined : (name list : Text)
    → IsForDraw true true None None list
    (name ∷ codes "draw" ∷ codes "--fine" ∷ codes "--page" ∷ (codes "--turns=" ++ list) ∷ [])
unfolding sptr_on_literals
fine_page_joined name list =
    record { line = (refl, refl, refl, (refl, refl)); fine = refl; page = refl; from_is = refl; to_is = refl }

fine_page_apart : (name list : Text) → bytes_eq list (45 ∷ 45 ∷ []) ≡ false
    → long_of list ≡ None → short_of list ≡ None
    → IsForDraw true true None None list
    (name ∷ codes "draw" ∷ codes "--fine" ∷ codes "--page" ∷ codes "--turns" ∷ list ∷ [])
unfolding sptr_on_literals
fine_page_apart name list dashes long short =
    record {
      line = (
        rw (dashes, long, short) refl,
        refl,
        rw (dashes, long, short) refl,
        (rw (dashes, long, short) refl, rw (dashes, long, short) refl),
      );
      fine = rw (dashes, long, short) refl;
      page = rw (dashes, long, short) refl;
      from_is = rw (dashes, long, short) refl;
      to_is = rw (dashes, long, short) refl;
    }

part_alone : (from to name : Text)
    → IsForDraw false false (Some from) (Some to) []
    (name ∷ codes "draw" ∷ (codes "--from=" ++ from) ∷ (codes "--to=" ++ to) ∷ [])
unfolding sptr_on_literals
part_alone from to name =
    record { line = (refl, refl, refl, (refl, refl)); fine = refl; page = refl; from_is = refl; to_is = refl }

part_joined : (from to name list : Text)
    → IsForDraw false false (Some from) (Some to) list
    (name ∷ codes "draw" ∷ (codes "--from=" ++ from) ∷ (codes "--to=" ++ to)
    ∷ (codes "--turns=" ++ list) ∷ [])
unfolding sptr_on_literals
part_joined from to name list =
    record { line = (refl, refl, refl, (refl, refl)); fine = refl; page = refl; from_is = refl; to_is = refl }

fine_part_alone : (from to name : Text)
    → IsForDraw true false (Some from) (Some to) []
    (name ∷ codes "draw" ∷ codes "--fine" ∷ (codes "--from=" ++ from) ∷ (codes "--to=" ++ to) ∷ [])
unfolding sptr_on_literals
fine_part_alone from to name =
    record { line = (refl, refl, refl, (refl, refl)); fine = refl; page = refl; from_is = refl; to_is = refl }

fine_part_joined : (from to name list : Text)
    → IsForDraw true false (Some from) (Some to) list
    (name ∷ codes "draw" ∷ codes "--fine" ∷ (codes "--from=" ++ from) ∷ (codes "--to=" ++ to)
    ∷ (codes "--turns=" ++ list) ∷ [])
unfolding sptr_on_literals
fine_part_joined from to name list =
    record { line = (refl, refl, refl, (refl, refl)); fine = refl; page = refl; from_is = refl; to_is = refl }

whole_asked : (is_fine : Bool) (name list : Text) (words : List Text)
    → IsLine (codes "draw") (fine_words is_fine) name list words
    → IsForDraw is_fine false None None list words
whole_asked false =
    with_turns (codes "draw") [] (IsForDraw false false None None) whole_alone whole_joined whole_apart
whole_asked true =
    with_turns (codes "draw") (codes "--fine" ∷ []) (IsForDraw true false None None) fine_alone
    fine_joined fine_apart

page_asked : (is_fine : Bool) (name list : Text) (words : List Text)
    → IsLine (codes "draw") (fine_words is_fine ++ codes "--page" ∷ []) name list words
    → IsForDraw is_fine true None None list words
page_asked false =
    with_turns (codes "draw") (codes "--page" ∷ []) (IsForDraw false true None None) page_alone
    page_joined page_apart
page_asked true =
    with_turns (codes "draw") (codes "--fine" ∷ codes "--page" ∷ [])
    (IsForDraw true true None None) fine_page_alone fine_page_joined fine_page_apart

part_asked : (is_fine : Bool) (part : Part) (name list : Text) (words : List Text)
    → IsJoinedLine (codes "draw") (fine_words is_fine ++ part_words part) name list words
    → IsForDraw is_fine false (Some (decimal part.first)) (Some (decimal part.last)) list words
part_asked false part =
    let from = decimal part.first in
    let to = decimal part.last in
    with_joined (codes "draw") (part_words part) (IsForDraw false false (Some from) (Some to))
    (part_alone from to) (part_joined from to)
part_asked true part =
    let from = decimal part.first in
    let to = decimal part.last in
    with_joined (codes "draw") (codes "--fine" ∷ part_words part)
    (IsForDraw true false (Some from) (Some to)) (fine_part_alone from to) (fine_part_joined from to)

-- the line has no fault, and asks for a picture of this part
pub record DrawsPlainly (is_fine is_page : Bool) (part : Option Part) (list : Text) (words : List Text)
    : Type 0 where
  pub line : IsFor (codes "draw") list words
  pub fine : fine_given words ≡ is_fine
  pub page : page_given words ≡ is_page
  pub part_is : part_given words ≡ part

draws_plainly : (is_fine is_page : Bool) (from to : Option Text) (part : Option Part) (list : Text)
    (words : List Text) → part_named from to ≡ part → IsForDraw is_fine is_page from to list words
    → DrawsPlainly is_fine is_page part list words
draws_plainly is_fine is_page from to part list words is h =
    record {
      line = h.line;
      fine = h.fine;
      page = h.page;
      part_is = ap₂ part_named h.from_is h.to_is ∙ is;
    }

pub draw_asked : (words : List Text) (is_fine is_page : Bool) (part : Option Part)
    (name list : Text)
    → IsDrawLine is_fine is_page part name list words → DrawsPlainly is_fine is_page part list words
draw_asked words is_fine true None name list none = absurd none
draw_asked words is_fine false None name list none = absurd none
draw_asked words is_fine true (Some part) name list h =
    draws_plainly is_fine true None None (Some part) list words (ap Some (sym h.0))
    (page_asked is_fine name list words h.1)
draw_asked words is_fine false (Some part) name list (inl h) =
    draws_plainly is_fine false None None (Some part) list words (ap Some (sym h.0))
    (whole_asked is_fine name list words h.1)
draw_asked words is_fine false (Some part) name list (inr h) =
    draws_plainly is_fine false (Some (decimal part.first)) (Some (decimal part.last)) (Some part)
    list words (part_written part h.0) (part_asked is_fine part name list words h.1)
