-- Commands that replace a file by one that bears no mark are safe, and change the original of one name.
use Rattle.std.proofs.Common.{◌≡◌, ℕ, true, List, Option, Some, None, Result, Ok, Err, refl, sym, ap, subst, ◌∙◌}
use Rattle.std.specs.FinMap.{get}
use Rattle.std.specs.List.{AllByRecursion}
use Rattle.std.specs.Option.{option_map}
use Rattle.pl_base.specs.Answers.{◌>>=◌}
use Rattle.pl_base.specs.Files.{Files}
use Rattle.pl_base.specs.Names.{is_valid_name}
use Rattle.pl_base.proofs.AnswerLaws.{bind_ok, ok_same, refuse_ok}
use Rattle.pl_conflict.specs.Format.{mark_in, mark_of}
use Rattle.pl_pie.specs.Placed.{placed}
use Rattle.pl_pie.specs.declared.placing.Placing.{Placing}
use Rattle.pl_pie.specs.declared.placing.Placing.TheVariants as placings
use Rattle.pl_pie.proofs.BareLaws.{fixed_bare}
use Rattle.pl_pie.proofs.LooseLaws.{unfixed_bare}
use Rattle.pl_pie.specs.Fix.{unfixed}
use Rattle.pl_form.specs.Files.{file_in, marked_in, original_in}
use Rattle.pl_form.specs.declared.file.Marked.{Marked}
use Rattle.pl_journal.specs.Laws.{IsRecoverable}
use Rattle.pl_journal.specs.Meaning.{applied, rows_for}
use Rattle.pl_journal.specs.Spelling.{are_rows}
use Rattle.pl_journal.specs.declared.change.Change.{Change}
use Rattle.pl_place.specs.Policy.{Choice}
use Rattle.pl_change.specs.Commands.{ready_for}
use Rattle.pl_change.specs.Names.{file_of}
use Rattle.pl_change.specs.Replace.{fixed_as, fixed_by, fixed_of, loosened_by, loosened_of, original_of, put_fitting, replacement_of, replacing_meant}
use Rattle.pl_change.specs.Store.{put, stored_as}
use Rattle.pl_change.specs.declared.cause.Cause.{Cause}
use Rattle.pl_change.specs.declared.cause.Cause.TheVariants as causes
use Rattle.law_folder.specs.Laws.{FixingMakesBare, LooseningMakesBare, MakesBare, ReplacementsAreSafe, ReplacementsKeepOriginals}
use Rattle.law_folder.proofs.EditLemmas.{IsBare, bare_safe, put_bare, recoverable_for}
use Rattle.law_folder.proofs.OriginalLemmas.{installed_original}
use Rattle.law_folder.proofs.RowLemmas.{bare_original, fitted}

-- ---- what a replacement is

-- the rows of one, of a valid name, by what was made of its original
pub record IsReplaced (make : List ℕ → Result (List ℕ) Cause) (name : List ℕ) (fs : Files) (rows : List Change) : Type 0 where
  pub original : List ℕ
  pub bytes : List ℕ
  pub valid : is_valid_name name ≡ true
  pub made : make original ≡ Ok bytes
  pub are : rows ≡ put fs name bytes
  pub fits : are_rows (rows_for rows) ≡ true

pub replaced_is : (make : List ℕ → Result (List ℕ) Cause) (name : List ℕ) (fs : Files) (rows : List Change) → replacement_of make fs name ≡ Ok rows → IsReplaced make name fs rows
unfolding replacement_of original_of
replaced_is make name fs rows is =
    let a = bind_ok (original_of fs name) (λ original. make original >>= put_fitting fs name) rows is in
    let b = bind_ok (make a.0) (put_fitting fs name) rows a.2 in
    let v = refuse_ok (is_valid_name name) causes.BadName (file_of fs name >>= λ bytes. stored_as name bytes (file_in bytes)) a.0 a.1 in
    let f = fitted (Ok (put fs name b.0)) rows b.2 in
    record { original = a.0; bytes = b.0; valid = v.0; made = b.1; are = sym (ok_same (put fs name b.0) rows f.0); fits = f.1 }

pub replacing_parts : (make : List ℕ → Result (List ℕ) Cause) (name : List ℕ) (fs : Files) (rows : List Change) → replacing_meant make name fs ≡ Ok rows → IsRecoverable (get fs) × IsReplaced make name fs rows
replacing_parts make name fs rows is =
    let a = bind_ok (ready_for name fs) (λ none. replacement_of make fs name) rows is in
    (recoverable_for name fs a.0 a.1, replaced_is make name fs rows a.2)

pub bare_mark : (bytes : List ℕ) → marked_in bytes ≡ None → mark_in bytes ≡ None
unfolding mark_in
bare_mark bytes e = ap (λ (m : Option Marked). option_map mark_of m) e

-- ---- safe

pub replacements_safe : ReplacementsAreSafe
replacements_safe make name bare = record {
  fits = λ fs rows is. (replacing_parts make name fs rows is).1.fits;
  ready = λ fs rows is. (replacing_parts make name fs rows is).0;
  safe = λ fs rows is rule.
      let a = (replacing_parts make name fs rows is).1 in
      bare_safe rows (get fs) (subst (AllByRecursion IsBare) (sym a.are) (put_bare fs name a.bytes (bare_mark a.bytes (bare a.original a.bytes a.made)))) rule;
}

-- ---- originals

pub replacements_originals : ReplacementsKeepOriginals
replacements_originals make name bare fs rows is =
    let a = (replacing_parts make name fs rows is).1 in
    let own : a.bytes ≡ original_in a.bytes = sym (bare_original a.bytes (bare_mark a.bytes (bare a.original a.bytes a.made))) in
    (original_in a.bytes, installed_original fs name a.bytes rows a.valid (a.are ∙ ap (put fs name) own))

-- ---- what is made

pub fixing_bare : FixingMakesBare
unfolding fixed_as fixed_of
fixing_bare choose name original bytes e = by_placing (placed choose original) refl e
  where
    by_placing : (p : Placing) → placed choose original ≡ p → (fixed_by name p >>= λ fixed. Ok fixed.bytes) ≡ Ok bytes → marked_in bytes ≡ None
    by_placing placings.NotPie is h = absurd cc
    by_placing placings.NoPlace is h = absurd cc
    by_placing (placings.Fixed at file) is h = subst (λ (xs : List ℕ). marked_in xs ≡ None) (ok_same file bytes h) (fixed_bare choose original file at is)

pub loosening_bare : LooseningMakesBare
unfolding loosened_of
loosening_bare name original bytes e = by_found (unfixed original) refl e
  where
    by_found : (m : Option (List ℕ)) → unfixed original ≡ m → loosened_by name m ≡ Ok bytes → marked_in bytes ≡ None
    by_found None is h = absurd cc
    by_found (Some found) is h = subst (λ (xs : List ℕ). marked_in xs ≡ None) (ok_same found bytes h) (unfixed_bare original found is)
