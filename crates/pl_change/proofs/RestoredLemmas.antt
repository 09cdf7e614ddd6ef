-- The files that a folder stands for.
use Rattle.std.proofs.Common.{◌≡◌, ℕ, ◌+◌, ◌&&◌, Bool, true, false, cond, List, [], ◌∷◌, Option, Some, None, is_some, refl, sym, ◌∙◌, ap}
use Rattle.std.specs.Prelude.{not}
use Rattle.std.specs.FinMap.{get, get-insert, get-remove, get-retain_keys, nat_cmp-IsAntisymmetric, retain_keys, slice_cmp-IsAntisymmetric}
use Rattle.std.specs.Cmp.Lexicographic.{nat_list_cmp_total}
use Rattle.pl_base.specs.Files.{Files}
use Rattle.pl_folder.specs.Disk.{Name, same}
use Rattle.pl_journal.specs.Names.{beside, is_journal_name, journal}
use Rattle.pl_journal.specs.Rows.{all_done, clean, done_from, recovered, rows_in}
use Rattle.pl_journal.specs.declared.row.Row.{Row}
use Rattle.pl_journal.specs.declared.row.Row.TheVariants.{Put, Drop}
use Rattle.pl_change.specs.Restored.{OneIsBefore, RestoredIsBefore, restored, restored_by, with_done, with_file}
use Rattle.pl_change.proofs.StartLemmas.{before_is}

no_file : (b : Bool) (x y : Option (List ℕ)) → cond (b && false) x y ≡ y
no_file true x y = refl
no_file false x y = refl

a_file : (b : Bool) (x y : Option (List ℕ)) → cond (b && true) x y ≡ cond b x y
a_file true x y = refl
a_file false x y = refl

moved : (o : Option (List ℕ)) (name : Name) (m : Files) (n : Name) → get (with_file o name m) n ≡ cond (same n name && is_some o) o (get m n)
moved None name m n = sym (no_file (same n name) None (get m n))
moved (Some bytes) name m n = get-insert nat_list_cmp_total m name bytes n ∙ sym (a_file (same n name) (Some bytes) (get m n))

all_rows : (i : ℕ) (rows : List Row) (files : Files) (n : Name) → get (with_done i rows files) n ≡ done_from i rows (λ _. true) (get files) n
all_rows i [] files n = refl
all_rows i (Put name ∷ rows) files n =
    get-remove nat_list_cmp_total (with_file (get files (beside i)) name (with_done (i + 1) rows files)) (beside i) n
    ∙ ap (λ (x : Option (List ℕ)). cond (same n (beside i)) None x) (moved (get files (beside i)) name (with_done (i + 1) rows files) n
    ∙ ap (λ (x : Option (List ℕ)). cond (same n name && is_some (get files (beside i))) (get files (beside i)) x) (all_rows (i + 1) rows files n))
all_rows i (Drop name ∷ rows) files n =
    get-remove nat_list_cmp_total (with_done (i + 1) rows files) name n ∙ ap (λ (x : Option (List ℕ)). cond (same n name) None x) (all_rows (i + 1) rows files n)

turned : (b : Bool) (x : Option (List ℕ)) → cond (not b) x None ≡ cond b None x
turned true x = refl
turned false x = refl

cleaned_files : (m : Files) (n : Name) → get (retain_keys m (λ n. not (is_journal_name n))) n ≡ clean (get m) n
cleaned_files m n = get-retain_keys m (λ n. not (is_journal_name n)) n (λ x tie. ap (λ (y : Name). not (is_journal_name y)) (sym (slice_cmp-IsAntisymmetric nat_cmp-IsAntisymmetric n x tie))) ∙ turned (is_journal_name n) (get m n)

by_rows : (o : Option (List Row)) (files : Files) (n : Name) → get (restored_by o files) n ≡ all_done o (get files) n
by_rows None files n = refl
by_rows (Some rows) files n = cleaned_files (with_done 0 rows files) n ∙ ap (λ (x : Option (List ℕ)). cond (is_journal_name n) None x) (all_rows 0 rows files n)

pub restored_before : RestoredIsBefore
unfolding restored recovered
restored_before files n = by_rows (rows_in (get files journal)) files n

pub one_before : OneIsBefore
one_before files before is = before_is (get files) before (restored files) is (restored_before files)
