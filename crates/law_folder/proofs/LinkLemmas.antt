-- The members of a program's walk whose originals link make a file for it.
use Rattle.std.proofs.Common.{◌≡◌, ℕ, true, false, List, ◌∷◌, length, map, replicate, Some, Result, Ok, Err, refl, ◌∙◌}
use Rattle.std.specs.Result.{is_ok}
use Rattle.std.proofs.lemmas.Bool.{false≢true}
use Rattle.pl_tls.specs.Layout.{offsets}
use Rattle.pl_tls.specs.declared.fault.TlsFault.{TlsFault}
use Rattle.pl_tls.specs.declared.module.Module.{Module}
use Rattle.pl_lists.specs.declared.conflict_row.ConflictRow.{ConflictRow}
use Rattle.pl_object.specs.declared.object.Object.{Object}
use Rattle.pl_form.specs.Program.{program_with}
use Rattle.pl_value.specs.Meanings.{meanings}
use Rattle.pl_value.specs.Ordinary.{loaded_objects}
use Rattle.pl_value.specs.declared.meaning.Meaning.{Meaning}
use Rattle.pl_conflict.specs.Conflicts.{ascending, conflicts, rows_of}
use Rattle.pl_conflict.specs.Prelinked as prelinked
use Rattle.pl_conflict.specs.Prelinked.{Firm, list_of, objects_of, parts_of, program_file, slots_of, version_of}
use Rattle.pl_rewrite.specs.Fits.{resolves}
use Rattle.law_folder.proofs.AlikeLemmas.{meanings_alike}

-- ---- the links at the slots

ok_is : {X E : Type 0} (r : Result X E) → is_ok r ≡ true → (x : X) × (r ≡ Ok x)
ok_is (Ok x) e = (x, refl)
ok_is (Err f) e = absurd (false≢true e)

modules_of : (objects : List Object) (r : Result (List Module) TlsFault) → resolves objects r ≡ true → (modules : List Module) × (r ≡ Ok modules) × (is_ok (meanings objects (replicate (length objects) 0) modules) ≡ true)
modules_of objects (Ok modules) e = (modules, refl, e)
modules_of objects (Err f) e = absurd (false≢true e)

-- what the members' relocations give at their slots, and the conflict rows
pub record Links (rs : List Firm) : Type 0 where
  pub modules : List Module
  pub storage : offsets (map (λ o. o.tls) (objects_of rs)) ≡ Ok modules
  pub gives : List Meaning
  pub given : meanings (objects_of rs) (slots_of rs) modules ≡ Ok gives
  pub rows : List ConflictRow
  pub made : conflicts (objects_of rs) (parts_of rs) (slots_of rs) modules ≡ Ok rows

conflicts_are : (objects : List Object) (parts : List (List ℕ)) (places : List ℕ) (modules : List Module) (gs : List Meaning) → meanings objects places modules ≡ Ok gs → conflicts objects parts places modules ≡ Ok (ascending (rows_of (loaded_objects places parts objects) gs))
unfolding conflicts
conflicts_are objects parts places modules gs e = rw e refl

pub links_at : (rs : List Firm) → resolves (objects_of rs) (offsets (map (λ o. o.tls) (objects_of rs))) ≡ true → Links rs
links_at rs e =
    let m = modules_of (objects_of rs) (offsets (map (λ o. o.tls) (objects_of rs))) e in
    let modules : List Module = m.0 in
    let slots : List ℕ = slots_of rs in
    let some = ok_is (meanings (objects_of rs) slots modules) (meanings_alike (objects_of rs) slots (replicate (length (objects_of rs)) 0) modules ∙ m.2) in
    record {
      modules = modules;
      storage = m.1;
      gives = some.0;
      given = some.1;
      rows = ascending (rows_of (loaded_objects slots (parts_of rs) (objects_of rs)) some.0);
      made = conflicts_are (objects_of rs) (parts_of rs) slots modules some.0 some.1;
    }

-- ---- the file

pub file_is : (r : Firm) (rs : List Firm) (l : Links (r ∷ rs)) → program_file (r ∷ rs) ≡ Some (program_with r.member.original (list_of rs) (prelinked.flat_of (r ∷ rs) l.gives) l.rows (version_of r.member.version))
unfolding program_file
file_is r rs l = rw (l.storage, l.given, l.made) refl
