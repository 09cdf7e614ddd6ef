-- `--load` of a program whose list tells the files of its walk.
use Rattle.std.proofs.Common.{◌≡◌, ℕ, ◌≤◌, Bool, true, false, List, length, Option, Some, None, Result, Ok, Err, refl, sym, ap, subst, ◌∙◌, arith}
use Rattle.std.specs.Prelude.{◌&&◌, ◌||◌, ◌==◌, nat_lt, not, if◌then◌else◌}
use Rattle.std.specs.FinMap.{get}
use Rattle.std.specs.Option.{is_some}
use Rattle.std.specs.Str.{bytes_eq}
use Rattle.std.proofs.lemmas.Bool.{true≢false}
use Rattle.std.proofs.lemmas.Bool.Decides.{nat_tests}
use Rattle.std.proofs.lemmas.Option.{none-some, same_Some}
use Rattle.pl_base.specs.Answers.{◌>>=◌, because, unless}
use Rattle.pl_base.specs.Files.{Files}
use Rattle.pl_base.specs.Names.{is_valid_name}
use Rattle.pl_base.proofs.AnswerLaws.{bind_ok, ok_same, unless_ok}
use Rattle.pl_cli.specs.Demo.{is_fast}
use Rattle.pl_cli.specs.Files.{file_in, of_file, valid_file}
use Rattle.pl_loader.specs.Given.{first_by, first_of, given_from}
use Rattle.pl_cli.specs.Load.{choice, given_file, load_result, loading_file}
use Rattle.pl_cli.specs.Cause.{Cause}
use Rattle.pl_cli.specs.Cause.TheVariants as cause
use Rattle.pl_conflict.specs.Format.{Causes, format}
use Rattle.pl_dyn.specs.declared.constants.TheConstants.{DF_1_PIE, DT_FLAGS_1, DT_SONAME}
use Rattle.pl_elf.specs.Headers.{header, segment_of_kind}
use Rattle.pl_elf.specs.Kinds.{is_library, is_program, is_static}
use Rattle.pl_elf.specs.declared.constants.TheConstants.{ET_DYN, PT_INTERP}
use Rattle.pl_elf.specs.declared.header.Header.{Header}
use Rattle.pl_elf.specs.declared.kind.Kind.{Kind}
use Rattle.pl_elf.specs.declared.kind.Kind.TheVariants.{Library, Program, Static}
use Rattle.pl_pie.specs.Placed.{placed, placed_by}
use Rattle.pl_folder.specs.declared.TheConstants as folders
use Rattle.pl_form.specs.Marks.{IsFormOf}
use Rattle.pl_form.specs.declared.constants.TheConstants as forms
use Rattle.pl_form.specs.declared.file.Marked.{Marked}
use Rattle.pl_form.proofs.FilesLaws.{nothing_else_is_read}
use Rattle.pl_form.proofs.FirmLaws.{program_two}
use Rattle.pl_form.proofs.PlannedLaws.{form_planned}
use Rattle.pl_loader.specs.Started.{Start, load}
use Rattle.pl_object.specs.Accepted.{tags_of}
use Rattle.pl_object.specs.Reads as reads
use Rattle.pl_object.specs.Reads.{has_flag}
use Rattle.pl_object.specs.Tables.{has_tag}
use Rattle.pl_object.specs.declared.object.Object.{Object}
use Rattle.pl_object.specs.declared.refusal.Refusal.{Refusal}
use Rattle.pl_form.specs.Forms.{original_of}
use Rattle.pl_form.specs.Parts.{new_header}
use Rattle.pl_form.specs.declared.parts.FormPlan.{FormPlan}
use Rattle.pl_form.proofs.FormLaws.{form_header}
use Rattle.law_loads.specs.Paths.{GivesFrom}
use Rattle.pl_pie.specs.Pie.{as_program, is_laid_out, is_linked, is_marked, is_pie, pie, pie_by}
use Rattle.pl_scope.proofs.ClosureLaws.{walk_is}
use Rattle.pl_scope.proofs.NameLaws.{same_name}
use Rattle.law_sound.specs.Rule.{Mark, mark_at, objects}
use Rattle.law_sound.proofs.Matching.{Matches, tells_is}
use Rattle.pl_words.specs.declared.command.Policy.{Policy}
use Rattle.law_demo.specs.Clear.{IsProgram}
use Rattle.law_demo.specs.Fast.{MatchedLoadsAreFast}
use Rattle.law_demo.proofs.FastLaws.{IsClear, IsFastLoad, loads_fast}
use Rattle.law_demo.proofs.TakenLaws.{IsPrelinkedAt, IsTold, made_object, marked_there}

-- ---- what a load is told of files

folder_limit : folders.STORED ≡ 268435456
folder_limit = refl

form_limit : forms.STORED ≡ 268435456
form_limit = refl

not_below : (a b : ℕ) → b ≤ a → nat_lt a b ≡ false
not_below a b h = grind (arith, nat_tests)

gives_from : (files : Files) → GivesFrom (valid_file files) (file_in files)
unfolding file_in
gives_from files n bytes is = by_file (valid_file files n) is
  where
    by_file : (g : Option (List ℕ)) → of_file n g ≡ Ok bytes → g ≡ Some bytes
    by_file None e = absurd cc
    by_file (Some file) e = ap Some (ok_same file bytes (unless_ok (nat_lt folders.STORED (length file)) (cause.FileTooLarge n) (Ok file) bytes e).1)

-- a prelinked file is no longer than a folder gives
told : (files : Files) (m : List ℕ) (p : IsPrelinkedAt (valid_file files) m) → file_in files m ≡ Ok p.file
unfolding file_in
told files m p =
    let of : IsFormOf p.file p.made = nothing_else_is_read p.file p.made p.is in
    let small : nat_lt folders.STORED (length p.file) ≡ false = not_below folders.STORED (length p.file) (omega (arith, of.small, folder_limit, form_limit)) in
    ap (of_file m) p.there ∙ ap (λ (b : Bool). unless b (cause.FileTooLarge m) (Ok p.file)) small

-- ---- a prelinked program is no position-independent one

program_of : (kind : Kind) → is_library kind ≡ false → is_static kind ≡ false → is_program kind ≡ true
program_of Program other dynamic = refl
program_of Library other dynamic = absurd (true≢false other)
program_of Static other dynamic = absurd (true≢false dynamic)

kept_kind : (p : FormPlan) (o : List ℕ) (undo : ℕ) → (new_header p o undo).kind ≡ (header o).kind
unfolding new_header
kept_kind p o undo = refl

form_kind : (file : List ℕ) (m : Marked) → IsFormOf file m → is_library m.object.kind ≡ false → (header file).kind ≡ 2
form_kind file m of other =
    let by = form_planned file m of in
    ap (λ (xs : List ℕ). (header xs).kind) by.is
    ∙ (ap (λ (h : Header). h.kind) (form_header by.plan (original_of m.original) by.flat by.undo by.fits)
    ∙ (kept_kind by.plan m.original (length by.undo)
    ∙ program_two m.original m.object of.firm.accepted (program_of m.object.kind other of.firm.dynamic)))

off : (a c d : Bool) → (a && false && c && d) ≡ false
off true c d = refl
off false c d = refl

unmarked : (file : List ℕ) (o : Object) → (header file).kind ≡ 2 → is_marked file o ≡ false
unfolding is_marked reads.is_pie
unmarked file o kind = ap (λ (n : ℕ). n == ET_DYN && (has_flag DT_FLAGS_1 DF_1_PIE (tags_of (as_program file) o) || is_some (segment_of_kind PT_INTERP o.segments) && not (has_tag DT_SONAME (tags_of (as_program file) o)))) kind

not_pie : (file : List ℕ) (o : Object) → (header file).kind ≡ 2 → is_pie file o ≡ false
unfolding is_pie
not_pie file o kind = ap (λ (b : Bool). is_program o.kind && b && is_laid_out file o && is_linked o) (unmarked file o kind) ∙ off (is_program o.kind) (is_laid_out file o) (is_linked o)

no_pie : (file : List ℕ) → (header file).kind ≡ 2 → pie file ≡ None
unfolding pie
no_pie file kind = by_object (reads.reads (as_program file))
  where
    by_object : (r : Result Object Refusal) → pie_by file r ≡ None
    by_object (Err fault) = refl
    by_object (Ok o) = ap (λ (b : Bool). if b then Some o else None) (not_pie file o kind)

as_it_is : (policy : Policy) (name file : List ℕ) → (header file).kind ≡ 2 → first_of (choice policy) name file ≡ Ok file
unfolding first_of placed
as_it_is policy name file kind = ap (λ (o : Option Object). first_by name file (placed_by (choice policy) file o)) (no_pie file kind)

-- ---- what the load of a program is told

-- a program's file, which is loaded as it is
record IsProgramFile (policy : Policy) (files : Files) (name : List ℕ) : Type 0 where
  file : List ℕ
  there : valid_file files name ≡ Some file
  loads : first_of (choice policy) name file ≡ Ok file

module _ (policy : Policy) (files : Files) (name : List ℕ) (own : IsProgramFile policy files name) where
  one_file : (file : List ℕ) → valid_file files name ≡ Some file → own.file ≡ file
  one_file file there = same_Some own.file file (sym own.there ∙ there)

  given_told : (m file : List ℕ) → valid_file files m ≡ Some file → given_file policy name m file ≡ Ok file
  given_told m file there = ap (because cause.Load) (by_test (bytes_eq m name) refl)
    where
      by_test : (b : Bool) → bytes_eq m name ≡ b → (if b then first_of (choice policy) name file else Ok file) ≡ Ok file
      by_test true hit = subst (λ (xs : List ℕ). first_of (choice policy) name xs ≡ Ok xs) (one_file file (subst (λ (k : List ℕ). valid_file files k ≡ Some file) (same_name m name hit) there)) own.loads
      by_test false miss = refl

  program_told : IsTold (valid_file files) (loading_file policy files name)
  unfolding loading_file given_from
  program_told = record {
    gives = λ n bytes is.
        let a = bind_ok (file_in files n) (given_file policy name n) bytes is in
        let there : valid_file files n ≡ Some a.0 = gives_from files n a.0 a.1 in
        there ∙ ap (λ (xs : List ℕ). Some xs) (ok_same a.0 bytes (sym (given_told n a.0 there) ∙ a.2));
    told = λ m p. ap (λ (r : Result (List ℕ) Cause). r >>= given_file policy name m) (told files m p) ∙ given_told m p.file p.there;
  }

-- ---- the answer

valid_of : (files : Files) (n file : List ℕ) → valid_file files n ≡ Some file → is_valid_name n ≡ true
valid_of files n file there = by_test (is_valid_name n) refl there
  where
    by_test : (b : Bool) → is_valid_name n ≡ b → (if b then get files n else None) ≡ Some file → is_valid_name n ≡ true
    by_test true is e = is
    by_test false is e = absurd (none-some file e)

fast_is : (r : Result Start Cause) → IsFastLoad r → is_fast r ≡ true
fast_is r is = ap is_fast is.loads ∙ is.fast

-- the file of a program whose list tells the files of its walk
program_file : {E : Type 0} (causes : Causes E) (policy : Policy) (files : Files) (name : List ℕ) (m : Matches (format causes) (valid_file files) name) → IsProgram causes (valid_file files) name → IsProgramFile policy files name
program_file causes policy files name m program =
    let marked : is_some (mark_at (format causes) (valid_file files name)) ≡ true = ap (λ (g : Option (List ℕ)). is_some (mark_at (format causes) g)) m.there ∙ ap (λ (k : Option Mark). is_some k) m.marked in
    let p : IsPrelinkedAt (valid_file files) name = marked_there causes (valid_file files) name marked in
    let tells = walk_is causes.walk (objects (format causes) (valid_file files)) name m.walked m.walks in
    let other : is_library p.made.object.kind ≡ false = ap (λ (o : Object). is_library o.kind) (made_object causes (valid_file files) name tells.object p tells.file) ∙ program tells.object tells.file in
    record { file = p.file; there = p.there; loads = as_it_is policy name p.file (form_kind p.file p.made (nothing_else_is_read p.file p.made p.is) other) }

pub matched_fast : {E : Type 0} → MatchedLoadsAreFast E
unfolding load_result
matched_fast causes files policy busy name rule match program free =
    let c : IsClear causes (valid_file files) busy name = record { rule = rule; match = match; program = program; free = free } in
    let m : Matches (format causes) (valid_file files) name = tells_is (format causes) (valid_file files) name match in
    let valid : is_valid_name name ≡ true = valid_of files name m.file m.there in
    let own : IsProgramFile policy files name = program_file causes policy files name m program in
    ap (λ (b : Bool). is_fast (unless (not b) cause.BadName (load (choice policy) busy cause.Load (loading_file policy files name) name))) valid
    ∙ fast_is (load (choice policy) busy cause.Load (loading_file policy files name) name)
    (loads_fast causes (valid_file files) cause.Load (loading_file policy files name) (program_told policy files name own) (choice policy) busy name c)
