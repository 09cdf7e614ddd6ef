-- A program's file bears the conflict rows that were made.
use Rattle.std.proofs.Common.{◌≡◌, ℕ, ◌≤◌, true, false, List, ◌∷◌, length, map, Some, Result, Ok, refl, sym, ap, subst, ◌∙◌}
use Rattle.pl_base.proofs.AnswerLaws.{ok_same}
use Rattle.pl_conflict.specs.Conflicts.{conflicts}
use Rattle.pl_conflict.specs.Prelinked.{Firm, are_set, objects_of, parts_of, program_file, slots_of, stored}
use Rattle.pl_conflict.proofs.MadeLaws.{program_is_form, program_made, program_of, stored_some}
use Rattle.pl_conflict.proofs.MemberLaws.{set_is}
use Rattle.pl_elf.specs.Kinds.{is_library}
use Rattle.pl_form.specs.Files.{marked_in}
use Rattle.pl_form.specs.Marks.{IsFormOf}
use Rattle.pl_form.proofs.BytesLaws.{forms_are_bytes}
use Rattle.pl_form.proofs.FilesLaws.{forms_are_read}
use Rattle.pl_lists.specs.declared.conflict_row.ConflictRow.{ConflictRow}
use Rattle.pl_tls.specs.Layout.{offsets}
use Rattle.pl_tls.specs.declared.module.Module.{Module}
use Rattle.pl_value.specs.declared.fault.LinkFault.{LinkFault}
use Rattle.pl_rewrite.specs.Contents.{conflicts_in, count_in, rows_count}
use Rattle.pl_rewrite.specs.Fills.{conflicts_with, result_ok}
use Rattle.pl_rewrite.specs.Sources.{AreSources}
use Rattle.pl_rewrite.proofs.FirmLaws.{own_all}

made_rows : (r : Firm) (rs : List Firm) (rows : List ConflictRow) → (program_made r rs rows).conflicts ≡ rows
unfolding program_made
made_rows r rs rows = refl

-- so many as the conflicts of its scope
pub rows_counted : (r : Firm) (rs : List Firm) (file : List ℕ) (modules : List Module) → AreSources (r ∷ rs) → is_library r.object.kind ≡ false → are_set (r ∷ rs) ≡ true → Some file ≡ stored (program_file (r ∷ rs)) → offsets (map (λ o. o.tls) (objects_of (r ∷ rs))) ≡ Ok modules
    → conflicts_in file ≡ rows_count (conflicts_with (r ∷ rs) modules)
rows_counted r rs file modules are other set made numbered =
    let s = stored_some (program_file (r ∷ rs)) file (sym made) in
    let p = program_of r rs file s.0 in
    let form : IsFormOf file (program_made r rs p.rows) = program_is_form r rs file p (own_all (r ∷ rs) are) other (set_is r rs set) s.1 in
    let read : marked_in file ≡ Some (program_made r rs p.rows) = forms_are_read file (program_made r rs p.rows) (forms_are_bytes file (program_made r rs p.rows) form) form in
    let same : p.modules ≡ modules = ok_same p.modules modules (sym p.numbered ∙ numbered) in
    let given : conflicts (objects_of (r ∷ rs)) (parts_of (r ∷ rs)) (slots_of (r ∷ rs)) modules ≡ Ok p.rows = subst (λ (ms : List Module). conflicts (objects_of (r ∷ rs)) (parts_of (r ∷ rs)) (slots_of (r ∷ rs)) ms ≡ Ok p.rows) same p.conflicts in
    ap count_in read ∙ (ap length (made_rows r rs p.rows) ∙ sym (ap (λ (c : Result (List ConflictRow) LinkFault). rows_count (result_ok c)) given))
