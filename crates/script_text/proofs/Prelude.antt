-- The words that many of this crate's proofs cite, passed on from one place. Declares nothing.
pub use Rattle.std.proofs.lemmas.Bool.Decides.{nat_tests}
pub use Rattle.std.proofs.lemmas.Fmt.{digits_decimal}
pub use Rattle.std.proofs.lemmas.List.{length-map, take_rest}
pub use Rattle.std.proofs.lemmas.List.Elements.{All-from_recursion}
pub use Rattle.std.proofs.lemmas.List.Folds.{list_all-append}
pub use Rattle.std.proofs.lemmas.Slice.Eq.{bytes_eq-Decides}
pub use Rattle.std.specs.List.{AllByRecursion, flat_map, list_all, position, position_or_len}
pub use Rattle.std.specs.Option.{option_map}
pub use Rattle.std.specs.Str.{bytes_eq}
pub use Rattle.control_word.specs.declared.model.handle.Kind.{Kind}
pub use Rattle.control_word.specs.declared.model.handle.Kind.TheVariants.{Owner, Weak}
pub use Rattle.control_word.specs.declared.shape.Shape.{Shape}
pub use Rattle.step_table.specs.AtomicSteps.{field_number}
pub use Rattle.step_threads.specs.Programs.{as_in, Asked, cells_of, IsApartFromCell, IsDeclared}
pub use Rattle.step_threads.specs.Programs.{IsIn, IsNameFound, kind_at, names_of, through}
pub use Rattle.step_threads.specs.declared.programs.call.Call.{Call}
pub use Rattle.step_threads.specs.declared.programs.call.CellName.{CellName}
pub use Rattle.step_threads.specs.declared.programs.call.Name.{Name}
pub use Rattle.text_lines.proofs.ByteTests.{and_both}
pub use Rattle.text_lines.proofs.NumberLemmas.{numerals}
pub use Rattle.text_lines.specs.Reading.{◌>>=◌}
pub use Rattle.script_text.specs.Canonical.{begun_lines, call_line, call_words, header_words}
pub use Rattle.script_text.specs.Canonical.{number_after, section_lines, spaced, thread_lines}
pub use Rattle.script_text.specs.Canonical.{word_after}
pub use Rattle.script_text.specs.Cells.{cell_text, member_text, split_dot}
pub use Rattle.script_text.specs.Drafts.{after_line, after_words, Draft, draft_in, draft_of}
pub use Rattle.script_text.specs.Drafts.{header_line, new_draft, next_call, no_section, script_of}
pub use Rattle.script_text.specs.Drafts.{ScriptView, Section, section_of, sections, with_call}
pub use Rattle.script_text.specs.Grammar.{Answers, BeginsWithDraft, ended, HasNoFeed, Leads}
pub use Rattle.script_text.specs.Grammar.{ReadsAs}
pub use Rattle.script_text.specs.Keywords.{spelling_of, takes_words}
pub use Rattle.script_text.specs.Names.{asked_source_at, find_name, name_text, NameList, names_in}
pub use Rattle.script_text.specs.Names.{numbered}
pub use Rattle.script_text.specs.Scripts.{converted, HasTextCells, kinds_in, program_in}
pub use Rattle.script_text.specs.Versions.{most_threads}
pub use Rattle.script_text.specs.Words.{is_clean_byte, is_digit, is_lower, is_name, is_name_byte}
pub use Rattle.script_text.specs.Words.{line_content, number_at, words_of}
pub use Rattle.script_text.specs.declared.fault.Cause.{Cause}
pub use Rattle.script_text.specs.declared.fault.Cause.TheVariants.{BadCell, BadNumber}
pub use Rattle.script_text.specs.declared.fault.Cause.TheVariants.{UnfinishedLine}
pub use Rattle.script_text.specs.declared.fault.Fault.{Fault}
pub use Rattle.script_text.specs.declared.parts.version.Version.{Version}
pub use Rattle.script_text.specs.declared.parts.version.Version.TheVariants.{One, Two}
pub use Rattle.script_text.specs.declared.words.keyword.Keyword.{Keyword}
