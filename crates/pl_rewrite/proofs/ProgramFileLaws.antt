-- The prelinked file of a row's program, in a version.
use Rattle.std.proofs.Common.{◌≡◌, ℕ, Bool, true, false, List, [], ◌∷◌, map, Option, Some, None, Ok, Err, refl, sym, ap, subst, ◌∙◌}
use Rattle.pl_cone.specs.Candidates.{blocks}
use Rattle.pl_conflict.specs.Prelinked.{Firm, are_set, objects_of, prelinked, program_file, stored}
use Rattle.pl_elf.specs.Kinds.{is_library}
use Rattle.pl_form.specs.declared.version.Version.{Version}
use Rattle.pl_object.specs.declared.object.Object.{Object}
use Rattle.pl_scope.specs.Scope.{objects}
use Rattle.pl_scope.specs.Walk.{Walked}
use Rattle.pl_tls.specs.Layout.{offsets}
use Rattle.pl_tls.specs.declared.fault.TlsFault.{TlsFault}
use Rattle.pl_tls.specs.declared.module.Module.{Module}
use Rattle.pl_rewrite.specs.Contents.{IsFileWith, IsNewProgram, IsProgramRow, IsProgramWith, conflicts_in, file_in, rows_count}
use Rattle.pl_rewrite.specs.Fills.{conflicts_with}
use Rattle.pl_rewrite.specs.Rows.{IsFileMeant, IsPlacedWalk, firms_of, of_firm}
use Rattle.pl_rewrite.specs.Sources.{AreVersionsOf, members}
use Rattle.pl_rewrite.specs.declared.numbers.Numbered.{Numbered}
use Rattle.pl_rewrite.specs.declared.numbers.PlacedWalk.{PlacedWalk}
use Rattle.pl_rewrite.specs.declared.outcomes.NewProgram.{NewProgram}
use Rattle.pl_rewrite.specs.declared.program.Work.{Work}
use Rattle.pl_rewrite.proofs.CountLaws.{rows_counted}
use Rattle.pl_rewrite.proofs.FirmRowLaws.{firm_objects}
use Rattle.pl_rewrite.proofs.NewLibraryLaws.{IsFirst, first_is}
use Rattle.pl_rewrite.proofs.ProgramLaws.{blocks_same, modules_file, modules_none}
use Rattle.pl_rewrite.proofs.VersionLaws.{all_in, begins_in, firms_in_two, in_versions, objects_versions, set_versions, sources_versions}
use Rattle.pl_rewrite.proofs.WholeLaws.{file_program, prelinked_none, prelinked_set}

module _ (w : Work) (row : ℕ) (program : IsProgramRow w row) where
  abbrev n : Numbered
  n = w.numbered.now

  abbrev rs : List Firm
  rs = firms_of w.numbered.now row

  first : IsFirst n row
  first = first_is n row program.walk

  other : is_library first.firm.object.kind ≡ false
  other = sym (ap (of_firm false (λ (r : Firm). is_library r.object.kind)) first.at) ∙ program.program

  same_set : (ss : List Firm) (b : Bool) → AreVersionsOf rs ss → are_set rs ≡ b → are_set ss ≡ b
  same_set ss b are is = set_versions rs ss are (firms_in_two n row program.walk) ∙ is

  -- members that cannot be prelinked together
  pub not_set : (version : Version) → are_set rs ≡ false → IsNewProgram n row version None
  not_set version apart = λ ss are begins. prelinked_none ss (sources_versions rs ss are program.walk.sources) (same_set ss false are apart)

  -- the file of the members in other versions is a program's
  program_whole : (ss : List Firm) → AreVersionsOf rs ss → are_set rs ≡ true → stored (program_file ss) ≡ prelinked (members ss)
  program_whole [] are set = absurd (subst (λ (xs : List Firm). AreVersionsOf xs []) first.is are)
  program_whole (s ∷ ss) are set =
      let zip : AreVersionsOf (first.firm ∷ first.others) (s ∷ ss) = subst (λ (xs : List Firm). AreVersionsOf xs (s ∷ ss)) first.is are in
      let kind : is_library s.object.kind ≡ false = ap (λ (x : Firm). is_library x.object.kind) zip.0.2 ∙ other in
      file_program (s ∷ ss) s ss refl kind ∙ prelinked_set (s ∷ ss) (sources_versions rs (s ∷ ss) are program.walk.sources) (same_set (s ∷ ss) true are set)

  -- thread-local storage of the walk is that of the members
  blocks_are : (scope : Walked) (p : PlacedWalk) (ss : List Firm) → IsPlacedWalk n row p → scope ≡ p.walk.scope → AreVersionsOf rs ss → blocks scope ≡ map (λ r. r.object.tls) ss
  blocks_are scope p ss placed is are =
      let os : objects scope ≡ objects_of ss = ap objects (is ∙ placed.walk.scope) ∙ (firm_objects n row ∙ sym (objects_versions rs ss are)) in
      ap (λ (xs : List Object). map (λ (o : Object). o.tls) xs) os ∙ sym (blocks_same ss)

  -- it is too large
  pub too_large : (version : Version) (scope : Walked) (p : PlacedWalk) (e : TlsFault) → are_set rs ≡ true → IsPlacedWalk n row p → scope ≡ p.walk.scope → offsets (blocks scope) ≡ Err e → IsNewProgram n row version None
  too_large version scope p e set placed is refused = λ ss are begins. modules_none ss (blocks scope) e (blocks_are scope p ss placed is are) refused ∙ program_whole ss are set

  meant : (version : Version) (scope : Walked) (p : PlacedWalk) (modules given : List Module) (made : Option NewProgram) → are_set rs ≡ true → IsPlacedWalk n row p → scope ≡ p.walk.scope → offsets (blocks scope) ≡ Ok modules → given ≡ modules → IsProgramWith w row version given made
      → IsFileMeant n row version (file_in made)
  meant version scope p modules given made set placed is numbered same files = λ ss are begins.
      (files ss (are, begins)).0 ∙ (modules_file ss (blocks scope) modules given (blocks_are scope p ss placed is are) numbered same ∙ program_whole ss are set)

  -- so many conflict rows as the file bears
  counted : (version : Version) (scope : Walked) (p : PlacedWalk) (modules given : List Module) (made : NewProgram) (ss : List Firm) → are_set rs ≡ true → IsPlacedWalk n row p → scope ≡ p.walk.scope → offsets (blocks scope) ≡ Ok modules → given ≡ modules
      → AreVersionsOf rs ss → IsFileWith ss given (Some made) → made.conflicts ≡ conflicts_in made.file.items
  counted version scope p modules given made [] set placed is numbered same are files = absurd (subst (λ (xs : List Firm). AreVersionsOf xs []) first.is are)
  counted version scope p modules given made (s ∷ ss) set placed is numbered same are files =
      let zip : AreVersionsOf (first.firm ∷ first.others) (s ∷ ss) = subst (λ (xs : List Firm). AreVersionsOf xs (s ∷ ss)) first.is are in
      let kind : is_library s.object.kind ≡ false = ap (λ (x : Firm). is_library x.object.kind) zip.0.2 ∙ other in
      let told : blocks scope ≡ map (λ r. r.object.tls) (s ∷ ss) = blocks_are scope p (s ∷ ss) placed is are in
      let file : Some made.file.items ≡ stored (program_file (s ∷ ss)) = files.0 ∙ modules_file (s ∷ ss) (blocks scope) modules given told numbered same in
      let layout : offsets (map (λ o. o.tls) (objects_of (s ∷ ss))) ≡ Ok modules = ap offsets (sym (told ∙ blocks_same (s ∷ ss))) ∙ numbered in
      files.1 ∙ (ap (λ (ms : List Module). rows_count (conflicts_with (s ∷ ss) ms)) same
      ∙ sym (rows_counted s ss made.file.items modules (sources_versions rs (s ∷ ss) are program.walk.sources) kind (same_set (s ∷ ss) true are set) file layout))

  -- the new file
  pub new_program : (version : Version) (scope : Walked) (p : PlacedWalk) (modules given : List Module) (made : Option NewProgram) → are_set rs ≡ true → IsPlacedWalk n row p → scope ≡ p.walk.scope → offsets (blocks scope) ≡ Ok modules → given ≡ modules → IsProgramWith w row version given made
      → IsNewProgram n row version made
  new_program version scope p modules given None set placed is numbered same files = meant version scope p modules given None set placed is numbered same files
  new_program version scope p modules given (Some made) set placed is numbered same files = (
    meant version scope p modules given (Some made) set placed is numbered same files,
    counted version scope p modules given made (all_in version rs) set placed is numbered same (in_versions version rs) (files (all_in version rs) (in_versions version rs, begins_in version rs)),
  )
