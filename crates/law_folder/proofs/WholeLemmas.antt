-- What whole commands are: safe, and what they do to originals.
use Rattle.std.proofs.Common.{◌≡◌, List, None, Ok, ap, subst, sym}
use Rattle.std.specs.FinMap.{get}
use Rattle.std.specs.List.{AllByRecursion}
use Rattle.pl_base.specs.Files.{Files}
use Rattle.pl_form.specs.Files.{original_in}
use Rattle.pl_journal.specs.Meaning.{applied}
use Rattle.pl_journal.specs.declared.change.Change.{Change}
use Rattle.pl_batch.specs.Changes.{changes_by}
use Rattle.pl_batch.specs.declared.run.Run.{Run}
use Rattle.pl_batch.specs.declared.run.Run.TheVariants.{All, UndoAll, Undo, Install}
use Rattle.law_folder.specs.Laws.{RemovalsAreSafe, RemovalsKeepOriginals, RunsAreSafe, RunsKeepOriginals}
use Rattle.law_folder.specs.Safe.{AreSafe}
use Rattle.law_folder.specs.Sound.{KeepsTheRule}
use Rattle.law_folder.proofs.AllLemmas.{all_originals, all_safe}
use Rattle.law_folder.proofs.EditLemmas.{IsBare, bare_safe, put_bare, removal_parts, run_parts, undone_bare}
use Rattle.law_folder.proofs.OriginalLemmas.{KeepsOriginal, has_original, installed_original, rows_keep, undone_keeps}
use Rattle.law_folder.proofs.RowLemmas.{all_undone_has, installed_is, original_bare, removed_is, undone_rows_have}

-- ---- safe

changes_safe : (fs : Files) (asked : Run) (rows : List Change) → changes_by fs asked ≡ Ok rows → KeepsTheRule (get fs) → AreSafe rows (get fs)
changes_safe fs (All p) rows is rule = all_safe fs p rows is rule
changes_safe fs UndoAll rows is rule = bare_safe rows (get fs) (all_undone_has IsBare fs (undone_bare fs) rows is) rule
changes_safe fs (Undo names) rows is rule = bare_safe rows (get fs) (undone_rows_have IsBare fs (undone_bare fs) names rows is) rule
changes_safe fs (Install name bytes) rows is rule =
    bare_safe rows (get fs) (subst (AllByRecursion IsBare) (sym (installed_is fs name bytes rows is).1) (put_bare fs name (original_in bytes) (original_bare bytes))) rule

pub runs_safe : RunsAreSafe
runs_safe asked = record {
  fits = λ fs rows is. (run_parts asked fs rows is).2;
  ready = λ fs rows is. (run_parts asked fs rows is).0;
  safe = λ fs rows is rule. changes_safe fs asked rows (run_parts asked fs rows is).1 rule;
}

pub removals_safe : RemovalsAreSafe
removals_safe name = record {
  fits = λ fs rows is. (removal_parts name fs rows is).2;
  ready = λ fs rows is. (removal_parts name fs rows is).0;
  safe = λ fs rows is rule. bare_safe rows (get fs) (subst (AllByRecursion IsBare) (sym (removed_is fs name rows (removal_parts name fs rows is).1).1) (tt, tt)) rule;
}

-- ---- originals

pub runs_originals : RunsKeepOriginals
runs_originals (All p) fs rows is = all_originals fs p rows (run_parts (All p) fs rows is).1
runs_originals UndoAll fs rows is = rows_keep rows (get fs) (all_undone_has (KeepsOriginal (get fs)) fs (undone_keeps fs) rows (run_parts UndoAll fs rows is).1)
runs_originals (Undo names) fs rows is = rows_keep rows (get fs) (undone_rows_have (KeepsOriginal (get fs)) fs (undone_keeps fs) names rows (run_parts (Undo names) fs rows is).1)
runs_originals (Install name bytes) fs rows is =
    let a = installed_is fs name bytes rows (run_parts (Install name bytes) fs rows is).1 in
    installed_original fs name bytes rows a.0 a.1

pub removals_originals : RemovalsKeepOriginals
removals_originals name fs rows is =
    let a = removed_is fs name rows (removal_parts name fs rows is).1 in
    has_original name None (get fs) (applied rows (get fs)) a.0 (λ n. ap (λ (xs : List Change). applied xs (get fs) n) a.1)
