-- The form of the program of a row, in a version.
use Rattle.std.proofs.Common.{◌≡◌, ℕ, ◌<◌, false, List, [], ◌∷◌, length, get_or, Some, None, Ok, Err, sym, ap, subst, ◌∙◌}
use Rattle.std.specs.Prelude.{drop}
use Rattle.std.proofs.lemmas.List.{length-map}
use Rattle.std.proofs.lemmas.Option.{none-some, same_Some}
use Rattle.pl_cone.specs.Table.{IsIndexOfScope, IsWalkScope, walked_by}
use Rattle.pl_cone.specs.Taken.{files_in, object_by}
use Rattle.pl_cone.specs.WalkRows.{HasOwnWalk}
use Rattle.pl_cone.specs.Skipped.{skip_causes}
use Rattle.pl_cone.specs.Skips.{of_walk}
use Rattle.pl_cone.specs.declared.scopes.WalkScope.{WalkScope}
use Rattle.pl_cone.specs.declared.taken.Taken.{Taken}
use Rattle.pl_cone.specs.declared.scopes.WalkLinking.{WalkLinking}
use Rattle.pl_cone.proofs.AmongLaws.{index_among}
use Rattle.pl_cone.proofs.MembersLaws.{AreOnce, once_members}
use Rattle.pl_conflict.specs.Format.{format}
use Rattle.pl_conflict.specs.Prelinked as firm
use Rattle.pl_conflict.specs.Prelinked.{Firm, list_of}
use Rattle.pl_elf.specs.Kinds.{is_library}
use Rattle.pl_form.specs.Files.{original_in}
use Rattle.pl_form.specs.Program as form
use Rattle.pl_form.specs.Program.{IsFirmProgram}
use Rattle.pl_form.specs.Words.{AreFills}
use Rattle.pl_form.specs.declared.fault.FormFault.{FormFault}
use Rattle.pl_form.specs.declared.file.Fill.{Fill}
use Rattle.pl_form.specs.declared.version.Version.{Version}
use Rattle.pl_lists.specs.declared.conflict_row.ConflictRow.{ConflictRow}
use Rattle.pl_lists.specs.declared.list_row.ListRow.{ListRow}
use Rattle.pl_object.specs.declared.object.Object.{Object}
use Rattle.pl_scope.specs.Folder.{IsIndexAmong}
use Rattle.pl_scope.specs.Scope.{objects}
use Rattle.pl_scope.specs.Walk.{Walked}
use Rattle.pl_scope.proofs.WalkedLaws.{walk_distinct}
use Rattle.law_sound.specs.Rule as sound
use Rattle.pl_rewrite.specs.Contents.{AreMembersIn, IsLinkingOfRow, IsProgramRow}
use Rattle.pl_rewrite.specs.Fills.{AreFirstFills, form_of}
use Rattle.pl_rewrite.specs.Rows.{IsFirmAt, IsNumbered, IsPlacedWalk, IsWalkRow, firm_at, firm_by, firms_of, number_at, of_firm, places_of, walk_of}
use Rattle.pl_rewrite.specs.Sources.{AreSources, AreVersionsOf, BeginsIn}
use Rattle.pl_rewrite.specs.declared.numbers.Numbered.{Numbered}
use Rattle.pl_rewrite.specs.declared.numbers.PlacedWalk.{PlacedWalk}
use Rattle.pl_rewrite.specs.declared.program.Work.{Work}
use Rattle.pl_rewrite.proofs.LibraryAtLaws.{told_walk}
use Rattle.pl_rewrite.proofs.NewLibraryLaws.{IsFirst, first_is}
use Rattle.pl_rewrite.proofs.NumberedLaws.{has_walk, row_within}
use Rattle.pl_rewrite.proofs.ProgramLaws.{first_program, form_firm, form_stored, form_too_large}
use Rattle.pl_rewrite.proofs.RowTestLaws.{file_at, firm_of_file, firm_there}
use Rattle.pl_rewrite.proofs.VersionLaws.{lists_versions}

-- ---- the file of a row and its object

pub record IsProgramFile (n : Numbered) (row : ℕ) (t : Taken) (o : Object) : Type 0 where
  pub first : IsFirst n row
  pub same : first.firm ≡ firm_by n row t o

pub program_row : (n : Numbered) (row : ℕ) (t : Taken) (o : Object) → IsWalkRow n row → t ≡ get_or n.files.now row t → Some o ≡ object_by t.entry → IsProgramFile n row t o
program_row n row t o walk at is =
    let first : IsFirst n row = first_is n row walk in
    let there : IsFirmAt n row (firm_by n row t o) = firm_there n row t o (file_at n row t (row_within n row walk) at) is in
    record { first = first; same = same_Some first.firm (firm_by n row t o) (sym first.at ∙ there) }

-- it has one
pub no_object : (n : Numbered) (row : ℕ) (t : Taken) → IsWalkRow n row → t ≡ get_or n.files.now row t → None ≡ object_by t.entry → ⊥
no_object n row t walk at none =
    let first : IsFirst n row = first_is n row walk in
    let nothing : firm_at n row ≡ None = firm_of_file n row t None (file_at n row t (row_within n row walk) at) none in
    none-some first.firm (sym nothing ∙ first.at)

-- ---- what its form asks

pub program_firm : (w : Work) (row : ℕ) (t : Taken) (o : Object) (original : List ℕ) → IsProgramRow w row → (f : IsProgramFile w.numbered.now row t o) → original ≡ original_in t.bytes → IsFirmProgram original o
program_firm w row t o original program f is =
    let other : is_library f.first.firm.object.kind ≡ false = sym (ap (of_firm false (λ (r : Firm). is_library r.object.kind)) f.first.at) ∙ program.program in
    let made : IsFirmProgram f.first.firm.member.original f.first.firm.object = first_program f.first.firm f.first.others (subst AreSources f.first.is program.walk.sources) other in
    subst (λ (b : List ℕ). IsFirmProgram b o) (sym is) (subst (λ (r : Firm). IsFirmProgram r.member.original r.object) f.same made)

pub fills_are : (n : Numbered) (row : ℕ) (t : Taken) (o : Object) (given fs : List Fill) → (f : IsProgramFile n row t o) → AreFirstFills (firms_of n row) fs → given ≡ fs → AreFills given o.relocations
fills_are n row t o given fs f are same =
    let here : AreFills fs f.first.firm.object.relocations = subst (λ (rs : List Firm). AreFirstFills rs fs) f.first.is are in
    subst (λ (gs : List Fill). AreFills gs o.relocations) (sym same) (subst (λ (r : Firm). AreFills fs r.object.relocations) f.same here)

-- ---- the form of the members in those versions

form_in : (r : Firm) (rs ss : List Firm) (fs : List Fill) (rows : List ConflictRow) (list : List ListRow) (original : List ℕ) (v : Version) → AreVersionsOf (r ∷ rs) ss → BeginsIn v ss → original ≡ r.member.original → list ≡ list_of rs
    → Some (form.program_form original list fs rows v) ≡ form_of ss fs rows
form_in r rs [] fs rows list original v are begins same is = absurd are
form_in r rs (s ∷ ss) fs rows list original v are begins same is =
    let originals : original ≡ s.member.original = same ∙ sym (ap (λ (x : Firm). x.member.original) are.0.2) in
    ap (λ (bytes : List ℕ). Some (form.program_form bytes list fs rows v)) originals
    ∙ form_firm s ss fs rows list v begins (is ∙ sym (lists_versions rs ss are.1))

row_form : (n : Numbered) (row : ℕ) (t : Taken) (o : Object) (fs : List Fill) (rows : List ConflictRow) (list : List ListRow) (original : List ℕ) (v : Version) (ss : List Firm) → (f : IsProgramFile n row t o) → original ≡ original_in t.bytes → list ≡ list_of (drop 1 (firms_of n row))
    → AreMembersIn n row v ss → Some (form.program_form original list fs rows v) ≡ form_of ss fs rows
row_form n row t o fs rows list original v ss f same is are =
    let zip : AreVersionsOf (f.first.firm ∷ f.first.others) ss = subst (λ (rs : List Firm). AreVersionsOf rs ss) f.first.is are.0 in
    let listed : list ≡ list_of f.first.others = is ∙ ap (λ (rs : List Firm). list_of (drop 1 rs)) f.first.is in
    let first : original ≡ f.first.firm.member.original = same ∙ sym (ap (λ (r : Firm). r.member.original) f.same) in
    form_in f.first.firm f.first.others ss fs rows list original v zip are.1 first listed

pub form_made : (n : Numbered) (row : ℕ) (t : Taken) (o : Object) (fs : List Fill) (rows : List ConflictRow) (list : List ListRow) (original : List ℕ) (v : Version) (file made : List ℕ) (ss : List Firm) → (f : IsProgramFile n row t o) → original ≡ original_in t.bytes
    → list ≡ list_of (drop 1 (firms_of n row)) → form.stored (form.program_form original list fs rows v) ≡ Ok file → made ≡ file → AreMembersIn n row v ss → Some made ≡ firm.stored (form_of ss fs rows)
form_made n row t o fs rows list original v file made ss f same is stored trimmed are =
    ap (λ (bytes : List ℕ). Some bytes) trimmed
    ∙ (form_stored (form.program_form original list fs rows v) file stored ∙ ap firm.stored (row_form n row t o fs rows list original v ss f same is are))

pub form_large : (n : Numbered) (row : ℕ) (t : Taken) (o : Object) (fs : List Fill) (rows : List ConflictRow) (list : List ListRow) (original : List ℕ) (v : Version) (e : FormFault) (ss : List Firm) → (f : IsProgramFile n row t o) → original ≡ original_in t.bytes
    → list ≡ list_of (drop 1 (firms_of n row)) → form.stored (form.program_form original list fs rows v) ≡ Err e → AreMembersIn n row v ss → None ≡ firm.stored (form_of ss fs rows)
form_large n row t o fs rows list original v e ss f same is refused are =
    form_too_large (form.program_form original list fs rows v) e refused ∙ ap firm.stored (row_form n row t o fs rows list original v ss f same is are)

-- ---- the walk that is placed is linked

-- no row stands twice in a walk
rows_once : (n : Numbered) (row : ℕ) → IsNumbered n → (walk : IsWalkRow n row) → AreOnce (walk_of n row)
rows_once n row numbered walk =
    let h : HasOwnWalk n.files.now n.walks.now row = has_walk n row numbered walk in
    once_members n.files.now (walk_of n row) walk.rows.each (walk_distinct of_walk (sound.objects (format skip_causes) (files_in n.files.now)) h.taken.name (walked_by n.files.now (walk_of n row)) (told_walk n row h))

-- the index tells of the scope of a walk
pub index_of_walk : (n : Numbered) (row : ℕ) (w : WalkScope) → IsNumbered n → (walk : IsWalkRow n row) → IsWalkScope n.files.now (walk_of n row) w → IsIndexOfScope w n.index.now
index_of_walk n row w numbered walk is = index_among n.files.now (walk_of n row) n.index.now w walk.rows (rows_once n row numbered walk) numbered.index is

pub linking_of : (w : Work) (row : ℕ) (p : PlacedWalk) (l : WalkLinking) → IsNumbered w.numbered.now → (walk : IsWalkRow w.numbered.now row) → IsPlacedWalk w.numbered.now row p → l.scope.now ≡ p.walk.scope → l.places.now ≡ p.places
    → l.among.index.now ≡ w.numbered.now.index.now → l.among.positions.now ≡ p.walk.positions.items → IsLinkingOfRow w row l
linking_of w row p l numbered walk placed scope places index positions =
    let n : Numbered = w.numbered.now in
    let members : l.scope.now ≡ walked_by n.files.now (walk_of n row) = scope ∙ placed.walk.scope in
    let at : l.places.now ≡ places_of n.places.now (walk_of n row) = places ∙ placed.places in
    let among : IsIndexOfScope p.walk n.index.now = index_of_walk n row p.walk numbered walk placed.walk in
    record {
      is = record {
        one_each = ap length at ∙ (length-map (walk_of n row) (number_at n.places.now) ∙ (sym walk.rows.each ∙ sym (ap length members)));
        index = subst (λ (ms : Walked). IsIndexAmong (objects ms) l.among) (sym scope) (among l.among index positions);
      };
      scope = members;
      places = at;
    }
