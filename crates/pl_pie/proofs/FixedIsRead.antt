-- A fixed file is accepted, as the fixed program.
use Rattle.std.proofs.Common.{◌≡◌, ℕ, ◌%◌, List, Some, Result, Ok, ap, ◌∙◌}
use Rattle.pl_base.specs.Answers.{◌>>=◌}
use Rattle.pl_base.specs.Bytes.{IsBytes}
use Rattle.pl_object.specs.TableClauses.{check_tables}
use Rattle.pl_object.specs.Reads.{checked, dynamic_object, layout, linking, object}
use Rattle.pl_object.specs.declared.layout.Layout.{Layout}
use Rattle.pl_object.specs.declared.linking.Linking.{Linking}
use Rattle.pl_object.specs.declared.object.Object.{Object}
use Rattle.pl_object.specs.declared.refusal.Refusal.{Refusal}
use Rattle.law_fixed.specs.Fixed.{fixed}
use Rattle.pl_pie.specs.Fix.{MayBeFixed, fixed_bytes}
use Rattle.pl_pie.specs.Laws.{FixedFileIsRead}
use Rattle.pl_pie.specs.Pie.{pie}
use Rattle.pl_pie.proofs.AtLaws.{IsAt, dynamic_of, file_at, headers_of, is_at, layout_of, linking_of, new_tags}
use Rattle.pl_pie.proofs.CheckAgain.{check_again}
use Rattle.pl_pie.proofs.LayoutAgain.{layout_again}
use Rattle.pl_pie.proofs.LinkingAgain.{linking_again}
use Rattle.pl_pie.proofs.ObjectAgain.{is_fixed, object_again}
use Rattle.pl_pie.proofs.PartsAgain.{reads_again}
use Rattle.pl_pie.proofs.TablesAgain.{tables_again}

-- ---- clause by clause

module _ (bytes : List ℕ) (o : Object) (at : ℕ) (is : IsAt bytes o at) where
  -- clauses 12 to 14 of the fixed object's parts
  tables_pass : check_tables (file_at at o bytes) (headers_of (fixed at o)).header (headers_of (fixed at o)).segments (headers_of (fixed at o)).sections (new_tags at bytes o) ≡ Ok tt
  unfolding fixed
  tables_pass = tables_again bytes o at is

  pub parts_again : (aligned : at % o.align ≡ 0) → dynamic_object (file_at at o bytes) (headers_of (fixed at o)) (dynamic_of (new_tags at bytes o) (fixed at o)) ≡ Ok (object_again bytes o at is aligned)
  unfolding dynamic_object checked object_again
  parts_again aligned =
      let file = file_at at o bytes in
      let f = headers_of (fixed at o) in
      let ts = new_tags at bytes o in
      let l : Linking = linking_of (fixed at o) in
      let places : Layout = layout_of ts (fixed at o) in
      ap (λ (r : Result (Unit {0}) Refusal). r >>= λ _. linking file f ts >>= λ k. checked file f (dynamic_of ts (fixed at o)) k (layout file f ts k)) tables_pass
      ∙ ap (λ (r : Result Linking Refusal). r >>= λ k. checked file f (dynamic_of ts (fixed at o)) k (layout file f ts k)) (linking_again bytes o at is)
      ∙ ap (λ (w : Layout). checked file f (dynamic_of ts (fixed at o)) l w) (layout_again bytes o at is)
      ∙ ap (λ (r : Result (Unit {0}) Refusal). r >>= λ _. Ok (object f (dynamic_of ts (fixed at o)) l places)) (check_again bytes o at is)

pub at_place : (bytes : List ℕ) (o : Object) (at : ℕ) → IsBytes bytes → pie bytes ≡ Some o → MayBeFixed o at → IsAt bytes o at
at_place bytes o at b some may = is_at bytes o at b some may.aligned may.ends

pub fixed_is_read : FixedFileIsRead
unfolding fixed_bytes
fixed_is_read bytes o at b some may =
    let is : IsAt bytes o at = at_place bytes o at b some may in (
      object_again bytes o at is may.aligned,
      reads_again bytes o at some may.aligned may.ends is ∙ parts_again bytes o at is may.aligned,
      is_fixed bytes o at is may.aligned,
    )
