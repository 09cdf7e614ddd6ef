-- The conflict rows that are made of a program are those of its file.
use Rattle.std.proofs.Common.{◌≡◌, ℕ, List, Some, None, Result, sym, ap, subst, ◌∙◌}
use Rattle.pl_cone.specs.Links.{objects_of}
use Rattle.pl_cone.specs.declared.scopes.WalkLinking.{WalkLinking}
use Rattle.pl_conflict.specs.Compared.{AreCompared}
use Rattle.pl_conflict.specs.Conflicts.{conflicts}
use Rattle.pl_conflict.specs.Prelinked as firm
use Rattle.pl_conflict.specs.Prelinked.{Firm, parts_of, slots_of}
use Rattle.pl_lists.specs.declared.conflict_row.ConflictRow.{ConflictRow}
use Rattle.pl_object.specs.declared.object.Object.{Object}
use Rattle.pl_value.specs.Meanings.{meanings}
use Rattle.pl_value.specs.Ordinary.{loaded_objects}
use Rattle.pl_value.specs.declared.fault.LinkFault.{LinkFault}
use Rattle.pl_value.specs.declared.fault.OrdinaryFault.TheVariants as faults
use Rattle.pl_rewrite.specs.Fills.{conflicts_with, result_ok}
use Rattle.pl_rewrite.specs.RemainingRows.{AreAllTold, AreConflictRows, RefusesAll}
use Rattle.pl_rewrite.specs.declared.row_words.RowWords.{RowWords}
use Rattle.pl_rewrite.proofs.ProgramLaws.{link_none, no_conflicts}

-- a walk that is linked holds these members at their slots
pub record Holds (l : WalkLinking) (rs : List Firm) : Type 0 where
  pub objects : objects_of l ≡ firm.objects_of rs
  pub places : l.places.now ≡ slots_of rs

same_rows : (l : WalkLinking) (rs : List Firm) → Holds l rs → conflicts (objects_of l) (parts_of rs) l.places.now l.modules.now ≡ conflicts (firm.objects_of rs) (parts_of rs) (slots_of rs) l.modules.now
same_rows l rs is =
    ap (λ (os : List Object). conflicts os (parts_of rs) l.places.now l.modules.now) is.objects ∙ ap (λ (ps : List ℕ). conflicts (firm.objects_of rs) (parts_of rs) ps l.modules.now) is.places

compared : (l : WalkLinking) (rs : List Firm) → Holds l rs → AreCompared (firm.objects_of rs) (slots_of rs) (parts_of rs) → AreCompared (objects_of l) l.places.now (parts_of rs)
compared l rs is are = subst (λ (os : List Object). AreCompared os l.places.now (parts_of rs)) (sym is.objects) (subst (λ (ps : List ℕ). AreCompared (firm.objects_of rs) ps (parts_of rs)) (sym is.places) are)

pub rows_made : (l : WalkLinking) (rs : List Firm) (walk : List ℕ) (row_words : List RowWords) (rows : List ConflictRow) → Holds l rs → AreCompared (firm.objects_of rs) (slots_of rs) (parts_of rs) → AreConflictRows l walk row_words rows
    → AreAllTold l (loaded_objects l.places.now (parts_of rs) (objects_of l)) walk row_words → conflicts_with rs l.modules.now ≡ Some rows
rows_made l rs walk row_words rows is are made told =
    ap (λ (r : Result (List ConflictRow) LinkFault). result_ok r) (sym (same_rows l rs is) ∙ made (parts_of rs) (compared l rs is are) told)

pub rows_refused : (l : WalkLinking) (rs : List Firm) (fault : LinkFault) → Holds l rs → RefusesAll l (faults.Link fault) → conflicts_with rs l.modules.now ≡ None
rows_refused l rs fault is refuses =
    let none : None ≡ result_ok (meanings (objects_of l) l.places.now l.modules.now) = link_none faults.Link (meanings (objects_of l) l.places.now l.modules.now) (faults.Link fault) refuses in
    sym (no_conflicts rs l.modules.now (none
    ∙ ap (λ (os : List Object). result_ok (meanings os l.places.now l.modules.now)) is.objects
    ∙ ap (λ (ps : List ℕ). result_ok (meanings (firm.objects_of rs) ps l.modules.now)) is.places))
