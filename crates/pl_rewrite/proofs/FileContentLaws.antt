-- The file of a row's program by what it is made of, in a version.
use Rattle.std.proofs.Common.{◌≡◌, ℕ, true, List, Option, Some, None, Ok, Err, refl, sym, ap, subst, ◌∙◌}
use Rattle.pl_base.specs.Answers.{because}
use Rattle.pl_cone.specs.declared.scopes.WalkLinking.{WalkLinking}
use Rattle.pl_conflict.specs.Conflicts.{conflicts}
use Rattle.pl_conflict.specs.Prelinked.{Firm, are_set, objects_of, parts_of, slots_of, stored}
use Rattle.pl_form.specs.declared.file.Fill.{Fill}
use Rattle.pl_form.specs.declared.version.Version.{Version}
use Rattle.pl_object.specs.declared.object.Object.{Object}
use Rattle.pl_scope.specs.Scope.{objects}
use Rattle.pl_scope.specs.declared.folder.Among.{Among}
use Rattle.pl_tls.specs.declared.module.Module.{Module}
use Rattle.pl_value.specs.Meanings.{meanings}
use Rattle.pl_value.specs.declared.fault.LinkFault.{LinkFault}
use Rattle.pl_value.specs.declared.fault.OrdinaryFault.TheVariants.{Link}
use Rattle.pl_rewrite.specs.Contents.{HasContents, HasSoMany, IsLinkingOfRow, IsProgramForm, IsProgramRow, IsProgramWith, IsWork, rows_count}
use Rattle.pl_rewrite.specs.Fills.{IsProgramSet, conflicts_with, fills_of, form_of, memory_of}
use Rattle.pl_rewrite.specs.RemainingRows.{RefusesAll}
use Rattle.pl_rewrite.specs.Rows.{IsPlacedWalk, firms_of}
use Rattle.pl_rewrite.specs.Sources.{AreSources}
use Rattle.pl_rewrite.specs.declared.numbers.PlacedWalk.{PlacedWalk}
use Rattle.pl_rewrite.specs.declared.outcomes.NewProgram.{NewProgram}
use Rattle.pl_rewrite.specs.declared.program.Contents.{Contents}
use Rattle.pl_rewrite.specs.declared.program.Work.{Work}
use Rattle.pl_rewrite.proofs.ProgramContentLaws.{contents_refused, whole_versions}
use Rattle.pl_rewrite.proofs.ProgramFormLaws.{linking_of}
use Rattle.pl_rewrite.proofs.ProgramLaws.{made_with, ok_of, without_rows}
use Rattle.pl_rewrite.proofs.VersionLaws.{fills_versions, objects_versions, slots_versions, sources_versions}

module _ (w : Work) (row : ℕ) (l : WalkLinking) (work : IsWork w) (program : IsProgramRow w row) (linking : IsLinkingOfRow w row l) (set : are_set (firms_of w.numbered.now row) ≡ true) where
  abbrev rs : List Firm
  rs = firms_of w.numbered.now row

  abbrev modules : List Module
  modules = l.modules.now

  -- the file of its form, with its conflict rows
  file_of_form : (c : Contents) (version : Version) (made : Option NewProgram) → HasContents w row l c → IsProgramForm w row version c made → IsProgramWith w row version modules made
  file_of_form c version made has form = λ ss are.
      let sources : AreSources ss = sources_versions rs ss are.0 program.walk.sources in
      let whole : IsProgramSet ss = whole_versions w row l work program linking set ss are.0 in
      let os : objects_of ss ≡ objects_of rs = objects_versions rs ss are.0 in
      let ps : slots_of ss ≡ slots_of rs = slots_versions rs ss are.0 in
      let given : meanings (objects_of ss) (slots_of ss) modules ≡ Ok has.given =
      subst (λ (xs : List Object). meanings xs (slots_of ss) modules ≡ Ok has.given) (sym os) (subst (λ (xs : List ℕ). meanings (objects_of rs) xs modules ≡ Ok has.given) (sym ps) has.values) in
      let rows : conflicts_with ss modules ≡ Some c.rows.items = has.rows ss are.0 in
      let listed : conflicts (objects_of ss) (parts_of ss) (slots_of ss) modules ≡ Ok c.rows.items = ok_of (conflicts (objects_of ss) (parts_of ss) (slots_of ss) modules) c.rows.items (sym rows) in
      let fills : c.fills.items ≡ fills_of ss (memory_of ss has.given) = has.fills ∙ sym (fills_versions rs ss has.given are.0) in (
        form.1 ss are
            ∙ (ap (λ (fs : List Fill). stored (form_of ss fs c.rows.items)) fills ∙ made_with ss modules has.given c.rows.items sources whole given listed),
        subst (HasSoMany made) (sym (ap rows_count rows)) form.0,
      )

  -- none where a relocation has no value
  no_file : (fault : LinkFault) (version : Version) → RefusesAll l (Link fault) → IsProgramWith w row version modules None
  no_file fault version refuses = λ ss are. (without_rows ss modules (sym (contents_refused w row l work program linking set fault ss are.0 refuses)), tt)

-- ---- of a walk that is linked at its places

pub file_of_linking : (w : Work) (row : ℕ) (l : WalkLinking) (p : PlacedWalk) (c : Contents) (version : Version) (made : Option NewProgram) → HasContents w row l c → IsWork w → IsProgramRow w row → IsPlacedWalk w.numbered.now row p → are_set (firms_of w.numbered.now row) ≡ true
    → l.scope.now ≡ p.walk.scope → l.places.now ≡ p.places → l.among.index.now ≡ w.numbered.now.index.now → l.among.positions.now ≡ p.walk.positions.items → IsProgramForm w row version c made → IsProgramWith w row version l.modules.now made
file_of_linking w row l p c version made has work program placed set scope places index positions form =
    file_of_form w row l work program (linking_of w row p l work.numbered program.walk placed scope places index positions) set c version made has form

-- by its parts, where a relocation has no value
pub no_linking : (w : Work) (row : ℕ) (p : PlacedWalk) (among : Among) (modules : List Module) (fault : LinkFault) (version : Version) → IsWork w → IsProgramRow w row → IsPlacedWalk w.numbered.now row p → are_set (firms_of w.numbered.now row) ≡ true
    → among.index.now ≡ w.numbered.now.index.now → among.positions.now ≡ p.walk.positions.items → because Link (meanings (objects p.walk.scope) p.places modules) ≡ Err (Link fault) → IsProgramWith w row version modules None
no_linking w row p among modules fault version work program placed set index positions refuses =
    let l : WalkLinking = record { scope = record { ref_ptr = (0, 0); now = p.walk.scope }; places = record { ref_ptr = (0, 0); now = p.places }; modules = record { ref_ptr = (0, 0); now = modules }; among = among } in
    no_file w row l work program (linking_of w row p l work.numbered program.walk placed refl refl index positions) set fault version refuses
