-- A statement that was read is read again from its canonical words.
use Rattle.std.proofs.Common.{◌≡◌, ℕ, true, false, List, ◌∷◌, ◌++◌, length, Some, None, Ok, codes}
use Rattle.std.proofs.Common.{sym, refl, ap, ◌∙◌, subst}
use Rattle.script_text.proofs.Prelude.{AllByRecursion, Call, call_words, IsDeclared, Keyword}
use Rattle.script_text.proofs.Prelude.{kinds_in, NameList, names_of, Owner, spelling_of}
use Rattle.script_text.proofs.Prelude.{takes_words, Weak}
use Rattle.step_threads.specs.declared.programs.call.Call.TheVariants as call
use Rattle.script_text.specs.declared.words.keyword.Keyword.TheVariants as key
use Rattle.script_text.specs.declared.words.keyword.PlaceKeyword.{PlaceKeyword}
use Rattle.script_text.specs.declared.words.keyword.PlaceKeyword.TheVariants as place
use Rattle.script_text.specs.declared.words.keyword.CellKeyword.{CellKeyword}
use Rattle.script_text.specs.declared.words.keyword.CellKeyword.TheVariants as cell
use Rattle.script_text.specs.declared.words.keyword.WeakKeyword.{WeakKeyword}
use Rattle.script_text.specs.declared.words.keyword.WeakKeyword.TheVariants as weak
use Rattle.script_text.specs.Shapes.{alias_at, cell_and_other, cell_and_source, cell_and_sources}
use Rattle.script_text.specs.Shapes.{target_and_cell, one_target, one_source, target_and_source}
use Rattle.script_text.specs.Shapes.{two_sources, target_and_fields}
use Rattle.script_text.specs.Calls.{alias_call, as_call, call_at, cell_call_at, place_call_at}
use Rattle.script_text.specs.Calls.{weak_call_at}
use Rattle.script_text.proofs.TidyWords.{IsTidy}
use Rattle.script_text.proofs.ReadNames.{both_give, given, same_given, with_names, Grows}
use Rattle.script_text.proofs.Reversible.{Reader, Writer, Asker, Sizer, IsReversible, always}
use Rattle.script_text.proofs.Reversible.{write_one, asks_one, target_reversible}
use Rattle.script_text.proofs.Reversible.{source_reversible, write_two, asks_two}
use Rattle.script_text.proofs.Reversible.{target_and_source_reversible, asks_both}
use Rattle.script_text.proofs.Reversible.{two_sources_reversible, write_fields, asks_first}
use Rattle.script_text.proofs.Reversible.{target_and_fields_reversible}
use Rattle.script_text.proofs.Aliases.{Parts, write_alias, asks_alias, alias_size}
use Rattle.script_text.proofs.Aliases.{alias_reversible}
use Rattle.script_text.proofs.CellShapes.{Fits, asks_cell, cell_reversible, holds_fits, store_fits}
use Rattle.script_text.proofs.CellShapes.{other_reversible, exchange_fits, write_cell, asks_load}
use Rattle.script_text.proofs.CellShapes.{load_reversible, load_fits, write_load}
use Rattle.script_text.proofs.CellCompares.{asks_compare, compare_reversible, compare_fits}
use Rattle.script_text.proofs.CellCompares.{write_compare}

-- later names change no word of the statement
abbrev pub IsSettled : NameList → Call → Type 0
IsSettled names c = (more : NameList) → call_words (names ++ more) c ≡ call_words names c

-- the canonical words of a statement, after the first, are read as the statement
pub record Rewrites (names : NameList) (k : Keyword) (c : Call) (new : NameList) : Type 0 where
  pub words : List (List ℕ)
  pub first : call_words new c ≡ (spelling_of k).word ∷ words
  pub tidy : AllByRecursion IsTidy words
  pub takes : takes_words k (length words) ≡ true
  pub again : call_at names k words ≡ Ok (c, new)
  pub grows : Grows names new
  pub settled : IsSettled new c
  pub named : AllByRecursion (IsDeclared (kinds_in new)) (names_of c)
  pub fits : Fits c

-- the words of an alias, the names that it asks for and how many words it has, by where it points
alias_written : (names : NameList) (p : Parts)
    → call_words names (alias_call p) ≡ codes "alias" ∷ write_alias names p
alias_written names (p, None) = refl
alias_written names (p, Some aim) = refl

alias_asked : (p : Parts) → names_of (alias_call p) ≡ asks_alias p
alias_asked (p, None) = refl
alias_asked (p, Some aim) = refl

alias_fits : (p : Parts) → Fits (alias_call p)
alias_fits (p, None) = (tt, tt)
alias_fits (p, Some aim) = (tt, tt)

alias_takes : (p : Parts) → takes_words (key.Place place.Alias) (alias_size p) ≡ true
alias_takes (p, None) = refl
alias_takes (p, Some aim) = refl

-- a keyword whose words are read, written and asked for as a shape says
module _ {A : Type 0} (k : Keyword) (make : A → Call) (read : Reader A) (write : Writer A)
    (asks : Asker A)
    (size : Sizer A)
    (reads : (names : NameList) (words : List (List ℕ))
    → call_at names k words ≡ as_call make (read names words))
    (writes : (names : NameList) (x : A)
    → call_words names (make x) ≡ (spelling_of k).word ∷ write names x)
    (asked : (x : A) → names_of (make x) ≡ asks x) (takes : (x : A) → takes_words k (size x) ≡ true)
    (reversible : (names new : NameList) (words : List (List ℕ)) (x : A)
    → read names words ≡ Ok (with_names x new) → IsReversible read write asks size names new x)
    (fits : (names new : NameList) (words : List (List ℕ)) (x : A)
    → read names words ≡ Ok (with_names x new) → Fits (make x)) where
  rewrites_from : (names new : NameList) (words : List (List ℕ)) (x : A)
      → read names words ≡ Ok (with_names x new) → Rewrites names k (make x) new
  rewrites_from names new words x h =
      let r = reversible names new words x h in
      record {
        words = write new x;
        first = writes new x;
        tidy = r.tidy;
        takes = rw r.size_is (takes x);
        again = reads names (write new x) ∙ ap (as_call make) r.again;
        grows = r.grows;
        settled = λ more.
            writes (new ++ more) x ∙ ap (λ (ws : List (List ℕ)). (spelling_of k).word ∷ ws)
            (r.settled more)
            ∙ sym (writes new x);
        named = rw (asked x) r.named;
        fits = fits names new words x h;
      }

  rewrites_by : (names new : NameList) (words : List (List ℕ)) (c : Call)
      → call_at names k words ≡ Ok (with_names c new) → Rewrites names k c new
  rewrites_by names new words c h =
      let b = both_give (read names words) (λ r. given (with_names (make r.0) r.1))
      (with_names c new)
      (sym (reads names words) ∙ h) in
      let e = same_given (with_names (make b.value.0) b.value.1) (with_names c new) b.second in
      subst (λ (p : Call × NameList). Rewrites names k p.0 p.1) e
      (rewrites_from names b.value.1 words b.value.0 b.first)

-- each keyword on where owners point, or on what they own, by its shape
place_rewrites : (k : PlaceKeyword) (names new : NameList) (words : List (List ℕ)) (c : Call)
    → call_at names (key.Place k) words ≡ Ok (with_names c new) → Rewrites names (key.Place k) c new
unfolding call_at place_call_at
place_rewrites place.Move =
    rewrites_by (key.Place place.Move) (λ p. call.Move p.0 p.1)
    (λ ns ws. target_and_source ns Owner Owner ws) write_two
    (asks_two Owner Owner) (always 2)
    (λ ns ws. refl) (λ ns x. refl) (λ x. refl) (λ x. refl)
    (target_and_source_reversible Owner Owner) (λ ns ms ws x h. (tt, tt))
place_rewrites place.Alias =
    rewrites_by (key.Place place.Alias) alias_call alias_at write_alias asks_alias alias_size
    (λ ns ws. refl) alias_written alias_asked alias_takes alias_reversible
    (λ ns ms ws x h. alias_fits x)
place_rewrites place.This =
    rewrites_by (key.Place place.This) (λ p. call.This p.0 p.1)
    (λ ns ws. target_and_source ns Owner Owner ws) write_two
    (asks_two Owner Owner) (always 2)
    (λ ns ws. refl) (λ ns x. refl) (λ x. refl) (λ x. refl)
    (target_and_source_reversible Owner Owner) (λ ns ms ws x h. (tt, tt))
place_rewrites place.WeakThis =
    rewrites_by (key.Place place.WeakThis) (λ p. call.WeakThis p.0 p.1)
    (λ ns ws. target_and_source ns Weak Owner ws) write_two
    (asks_two Weak Owner) (always 2)
    (λ ns ws. refl) (λ ns x. refl) (λ x. refl) (λ x. refl) (target_and_source_reversible Weak Owner)
    (λ ns ms ws x h. (tt, tt))
place_rewrites place.Read =
    rewrites_by (key.Place place.Read) call.Read (λ ns ws. one_source ns Owner ws) write_one
    (asks_one Owner) (always 1)
    (λ ns ws. refl) (λ ns x. refl) (λ x. refl) (λ x. refl) (source_reversible Owner)
    (λ ns ms ws x h. (tt, tt))
place_rewrites place.Place =
    rewrites_by (key.Place place.Place) call.Place (λ ns ws. one_source ns Owner ws) write_one
    (asks_one Owner) (always 1)
    (λ ns ws. refl) (λ ns x. refl) (λ x. refl) (λ x. refl) (source_reversible Owner)
    (λ ns ms ws x h. (tt, tt))
place_rewrites place.Same =
    rewrites_by (key.Place place.Same) (λ p. call.Same p.0 p.1)
    (λ ns ws. two_sources ns (Some Owner) ws) write_two
    (asks_both (Some Owner)) (always 2)
    (λ ns ws. refl) (λ ns x. refl) (λ x. refl) (λ x. refl) (two_sources_reversible (Some Owner))
    (λ ns ms ws x h. (tt, tt))
place_rewrites place.Before =
    rewrites_by (key.Place place.Before) (λ p. call.Before p.0 p.1)
    (λ ns ws. two_sources ns None ws) write_two
    (asks_both None) (always 2)
    (λ ns ws. refl) (λ ns x. refl) (λ x. refl) (λ x. refl) (two_sources_reversible None)
    (λ ns ms ws x h. (tt, tt))

-- each keyword on a cell by its shape
cell_rewrites : (k : CellKeyword) (names new : NameList) (words : List (List ℕ)) (c : Call)
    → call_at names (key.Cell k) words ≡ Ok (with_names c new) → Rewrites names (key.Cell k) c new
unfolding call_at cell_call_at
cell_rewrites cell.Load =
    rewrites_by (key.Cell cell.Load) (λ p. call.Load p.0 p.1) target_and_cell write_load asks_load
    (always 2)
    (λ ns ws. refl) (λ ns x. refl) (λ x. refl) (λ x. refl) load_reversible load_fits
cell_rewrites cell.Store =
    rewrites_by (key.Cell cell.Store) (λ p. call.Store p.0 p.1) cell_and_source write_cell asks_cell
    (always 2)
    (λ ns ws. refl) (λ ns x. refl) (λ x. refl) (λ x. refl) cell_reversible store_fits
cell_rewrites cell.Exchange =
    rewrites_by (key.Cell cell.Exchange) (λ p. call.Exchange p.0 p.1) cell_and_other write_cell
    asks_cell (always 2)
    (λ ns ws. refl) (λ ns x. refl) (λ x. refl) (λ x. refl) other_reversible exchange_fits
cell_rewrites cell.Compare =
    rewrites_by (key.Cell cell.Compare) (λ p. call.Compare p.0 p.1 p.2 false) cell_and_sources
    write_compare asks_compare (always 3)
    (λ ns ws. refl) (λ ns x. refl) (λ x. refl) (λ x. refl) compare_reversible (compare_fits false)
cell_rewrites cell.CompareWeak =
    rewrites_by (key.Cell cell.CompareWeak) (λ p. call.Compare p.0 p.1 p.2 true) cell_and_sources
    write_compare asks_compare (always 3)
    (λ ns ws. refl) (λ ns x. refl) (λ x. refl) (λ x. refl) compare_reversible (compare_fits true)
cell_rewrites cell.Holds =
    rewrites_by (key.Cell cell.Holds) (λ p. call.Holds p.0 p.1) cell_and_source write_cell asks_cell
    (always 2)
    (λ ns ws. refl) (λ ns x. refl) (λ x. refl) (λ x. refl) cell_reversible holds_fits

-- each keyword on weak names by its shape
weak_rewrites : (k : WeakKeyword) (names new : NameList) (words : List (List ℕ)) (c : Call)
    → call_at names (key.Weak k) words ≡ Ok (with_names c new) → Rewrites names (key.Weak k) c new
unfolding call_at weak_call_at
weak_rewrites weak.Weak =
    rewrites_by (key.Weak weak.Weak) (λ p. call.Weak p.0 p.1)
    (λ ns ws. target_and_source ns Weak Owner ws) write_two
    (asks_two Weak Owner) (always 2)
    (λ ns ws. refl) (λ ns x. refl) (λ x. refl) (λ x. refl) (target_and_source_reversible Weak Owner)
    (λ ns ms ws x h. (tt, tt))
weak_rewrites weak.Copy =
    rewrites_by (key.Weak weak.Copy) (λ p. call.WeakCopy p.0 p.1)
    (λ ns ws. target_and_source ns Weak Weak ws) write_two
    (asks_two Weak Weak) (always 2)
    (λ ns ws. refl) (λ ns x. refl) (λ x. refl) (λ x. refl) (target_and_source_reversible Weak Weak)
    (λ ns ms ws x h. (tt, tt))
weak_rewrites weak.Empty =
    rewrites_by (key.Weak weak.Empty) call.WeakEmpty (λ ns ws. one_target ns Weak ws) write_one
    (asks_one Weak) (always 1)
    (λ ns ws. refl) (λ ns x. refl) (λ x. refl) (λ x. refl) (target_reversible Weak)
    (λ ns ms ws x h. (tt, tt))
weak_rewrites weak.Reset =
    rewrites_by (key.Weak weak.Reset) call.WeakReset (λ ns ws. one_source ns Weak ws) write_one
    (asks_one Weak) (always 1)
    (λ ns ws. refl) (λ ns x. refl) (λ x. refl) (λ x. refl) (source_reversible Weak)
    (λ ns ms ws x h. (tt, tt))
weak_rewrites weak.Lock =
    rewrites_by (key.Weak weak.Lock) (λ p. call.Lock p.0 p.1)
    (λ ns ws. target_and_source ns Owner Weak ws) write_two
    (asks_two Owner Weak) (always 2)
    (λ ns ws. refl) (λ ns x. refl) (λ x. refl) (λ x. refl) (target_and_source_reversible Owner Weak)
    (λ ns ms ws x h. (tt, tt))
weak_rewrites weak.Upgrade =
    rewrites_by (key.Weak weak.Upgrade) (λ p. call.Upgrade p.0 p.1)
    (λ ns ws. target_and_source ns Owner Weak ws) write_two
    (asks_two Owner Weak) (always 2)
    (λ ns ws. refl) (λ ns x. refl) (λ x. refl) (λ x. refl) (target_and_source_reversible Owner Weak)
    (λ ns ms ws x h. (tt, tt))
weak_rewrites weak.Count =
    rewrites_by (key.Weak weak.Count) call.WeakCount (λ ns ws. one_source ns Weak ws) write_one
    (asks_one Weak) (always 1)
    (λ ns ws. refl) (λ ns x. refl) (λ x. refl) (λ x. refl) (source_reversible Weak)
    (λ ns ms ws x h. (tt, tt))
weak_rewrites weak.Expired =
    rewrites_by (key.Weak weak.Expired) call.Expired (λ ns ws. one_source ns Weak ws) write_one
    (asks_one Weak) (always 1)
    (λ ns ws. refl) (λ ns x. refl) (λ x. refl) (λ x. refl) (source_reversible Weak)
    (λ ns ms ws x h. (tt, tt))

-- each keyword by its shape
pub rewrites : (k : Keyword) (names new : NameList) (words : List (List ℕ)) (c : Call)
    → call_at names k words ≡ Ok (with_names c new) → Rewrites names k c new
unfolding call_at
rewrites key.Make =
    rewrites_by key.Make (λ p. call.Make p.0 p.1) target_and_fields write_fields (asks_first Owner)
    (always 5)
    (λ ns ws. refl) (λ ns x. refl) (λ x. refl) (λ x. refl) target_and_fields_reversible
    (λ ns ms ws x h. (tt, tt))
rewrites key.MakeThis =
    rewrites_by key.MakeThis (λ p. call.MakeThis p.0 p.1) target_and_fields write_fields
    (asks_first Owner) (always 5)
    (λ ns ws. refl) (λ ns x. refl) (λ x. refl) (λ x. refl) target_and_fields_reversible
    (λ ns ms ws x h. (tt, tt))
rewrites key.Null =
    rewrites_by key.Null call.Null (λ ns ws. one_target ns Owner ws) write_one (asks_one Owner)
    (always 1)
    (λ ns ws. refl) (λ ns x. refl) (λ x. refl) (λ x. refl) (target_reversible Owner)
    (λ ns ms ws x h. (tt, tt))
rewrites key.Empty =
    rewrites_by key.Empty call.Empty (λ ns ws. one_target ns Owner ws) write_one (asks_one Owner)
    (always 1)
    (λ ns ws. refl) (λ ns x. refl) (λ x. refl) (λ x. refl) (target_reversible Owner)
    (λ ns ms ws x h. (tt, tt))
rewrites key.Reset =
    rewrites_by key.Reset call.Reset (λ ns ws. one_source ns Owner ws) write_one (asks_one Owner)
    (always 1)
    (λ ns ws. refl) (λ ns x. refl) (λ x. refl) (λ x. refl) (source_reversible Owner)
    (λ ns ms ws x h. (tt, tt))
rewrites key.Copy =
    rewrites_by key.Copy (λ p. call.Copy p.0 p.1) (λ ns ws. target_and_source ns Owner Owner ws)
    write_two
    (asks_two Owner Owner) (always 2)
    (λ ns ws. refl) (λ ns x. refl) (λ x. refl) (λ x. refl)
    (target_and_source_reversible Owner Owner) (λ ns ms ws x h. (tt, tt))
rewrites key.Count =
    rewrites_by key.Count call.Count (λ ns ws. one_source ns Owner ws) write_one (asks_one Owner)
    (always 1)
    (λ ns ws. refl) (λ ns x. refl) (λ x. refl) (λ x. refl) (source_reversible Owner)
    (λ ns ms ws x h. (tt, tt))
rewrites (key.Place k) = place_rewrites k
rewrites (key.Cell k) = cell_rewrites k
rewrites (key.Weak k) = weak_rewrites k
