-- What is made of the rows of files, row by row.
use Rattle.std.proofs.Common.{◌≡◌, ℕ, Bool, true, false, List, [], ◌∷◌, ◌++◌, length, Option, Some, None, refl, sym, ap, subst, ◌∙◌}
use Rattle.std.specs.Prelude.{◌&&◌, not, slice_get}
use Rattle.std.specs.Option.{option_flatten, option_or}
use Rattle.std.proofs.lemmas.Option.{none-some, same_Some}
use Rattle.pl_cone.specs.declared.skip.Skip.{Skip}
use Rattle.pl_cone.specs.declared.taken.Taken.{Taken}
use Rattle.pl_conflict.specs.Prelinked.{are_set}
use Rattle.pl_form.specs.declared.version.Version.{Version}
use Rattle.pl_form.specs.declared.version.Version.TheVariants.{Two}
use Rattle.pl_rewrite.specs.Contents.{IsNewProgram}
use Rattle.pl_rewrite.specs.Libraries.{IsNewIfAny}
use Rattle.pl_rewrite.specs.Outcomes.{AreAll, AreProgramsMade, IsIf, IsLibraryIf, IsMadeAt, IsOutcomeFor, IsProgramIf, IsTooLarge, is_library_at, is_stale, too_large}
use Rattle.pl_rewrite.specs.Rows.{IsFileMeant, IsWalkRow, firms_of, is_library_row}
use Rattle.pl_rewrite.specs.declared.numbers.Numbered.{Numbered}
use Rattle.pl_rewrite.specs.declared.outcomes.NewLibrary.{NewLibrary}
use Rattle.pl_rewrite.specs.declared.outcomes.NewProgram.{NewProgram}
use Rattle.pl_rewrite.specs.declared.outcomes.RowOutcome.{RowOutcome}
use Rattle.pl_rewrite.proofs.RowByRowLaws.{each_pushed}
use Rattle.pl_rewrite.proofs.VersionLaws.{firms_in_two, set_versions, sources_versions}
use Rattle.pl_rewrite.proofs.WholeLaws.{prelinked_none}

-- ---- a row

pub too_large_at : (n : Numbered) (row : ℕ) (t : Taken) (cause : Skip) → slice_get n.files.now row ≡ Some t → cause ≡ too_large t → IsTooLarge n row cause
too_large_at n row t cause at is = λ u there. is ∙ ap too_large (same_Some t u (sym at ∙ there))

-- members that cannot be prelinked together have no file
pub none_meant : (n : Numbered) (row : ℕ) (version : Version) → IsWalkRow n row → are_set (firms_of n row) ≡ false → IsFileMeant n row version None
none_meant n row version walk apart = λ ss are begins.
    prelinked_none ss (sources_versions (firms_of n row) ss are walk.sources) (set_versions (firms_of n row) ss are (firms_in_two n row walk) ∙ apart)

pub program_there : (n : Numbered) (row : ℕ) (made : Option NewProgram) (p : NewProgram) → is_library_row n row ≡ false → made ≡ Some p → IsNewProgram n row Two made → (is_library_row n row ≡ false) × IsNewProgram n row Two (Some p)
program_there n row made p other is new = (other, subst (IsNewProgram n row Two) is new)

pub program_none : (n : Numbered) (row : ℕ) (made : Option NewProgram) (t : Taken) (cause : Skip) → made ≡ None → IsNewProgram n row Two made → slice_get n.files.now row ≡ Some t → cause ≡ too_large t → IsTooLarge n row cause × IsFileMeant n row Two None
program_none n row made t cause is new at large = (too_large_at n row t cause at large, subst (IsNewProgram n row Two) is new)

pub library_there : (n : Numbered) (row : ℕ) (made : Option NewLibrary) (parts : NewLibrary) → is_library_row n row ≡ true → made ≡ Some parts → IsNewIfAny n row made → (is_library_row n row ≡ true) × IsNewIfAny n row (Some parts)
library_there n row made parts library is new = (library, subst (IsNewIfAny n row) is new)

pub library_none : (n : Numbered) (row : ℕ) (made : Option NewLibrary) (t : Taken) (cause : Skip) → IsWalkRow n row → made ≡ None → IsNewIfAny n row made → slice_get n.files.now row ≡ Some t → cause ≡ too_large t → IsTooLarge n row cause × IsFileMeant n row Two None
library_none n row made t cause walk is new at large = (too_large_at n row t cause at large, none_meant n row Two walk (subst (IsNewIfAny n row) is new))

-- ---- where one is asked for

pub if_not : (P : RowOutcome → Type 0) (b : Bool) → b ≡ false → IsIf b P None
if_not P b is = subst (λ (x : Bool). IsIf x P None) (sym is) refl

pub if_so : (P : RowOutcome → Type 0) (b : Bool) (o : RowOutcome) → b ≡ true → P o → IsIf b P (Some o)
if_so P b o is so = subst (λ (x : Bool). IsIf x P (Some o)) (sym is) so

-- of a library, and of a file that is none
made_if : (P : RowOutcome → Type 0) (b c : Bool) (l p : Option RowOutcome) → IsIf (b && c) P l → IsIf (b && not c) P p → IsIf b P (option_or l p)
made_if P true true None p one two = absurd one
made_if P true true (Some o) p one two = one
made_if P true false None p one two = two
made_if P true false (Some o) p one two = absurd (none-some o (sym one))
made_if P false c None p one two = two
made_if P false c (Some o) p one two = absurd (none-some o (sym one))

-- ---- row by row

abbrev pub IsMadeIf : Numbered → List Bool → ℕ → Option RowOutcome → Type 0
IsMadeIf n stale row o = IsIf (is_stale stale row) (IsMadeAt n row) o

abbrev pub MadeTo : Numbered → List Bool → List (Option RowOutcome) → Type 0
MadeTo n stale all = (row : ℕ) (o : Option RowOutcome) → slice_get all row ≡ Some o → IsMadeIf n stale row o

abbrev pub ProgramsTo : Numbered → List Bool → List (Option RowOutcome) → Type 0
ProgramsTo n stale all = (row : ℕ) (o : Option RowOutcome) → slice_get all row ≡ Some o → IsProgramIf n stale row o

pub programs_more : (n : Numbered) (stale : List Bool) (all after : List (Option RowOutcome)) (o : Option RowOutcome) (row : ℕ) → length all ≡ row → IsProgramIf n stale row o → after ≡ all ++ o ∷ [] → ProgramsTo n stale all → ProgramsTo n stale after
programs_more n stale all after o row same is more so_far = each_pushed (IsProgramIf n stale) all after o more (subst (λ (k : ℕ). IsProgramIf n stale k o) (sym same) is) so_far

pub made_more : (n : Numbered) (stale : List Bool) (programs all after : List (Option RowOutcome)) (row : ℕ) (l p o item : Option RowOutcome) (next : Option (Option RowOutcome)) → row ≡ length all → AreProgramsMade n stale programs → next ≡ Some item → slice_get programs row ≡ Some item
    → IsLibraryIf n stale row l → p ≡ option_flatten next → o ≡ option_or l p → after ≡ all ++ o ∷ [] → MadeTo n stale all → MadeTo n stale after
made_more n stale programs all after row l p o item next same are is at library taken made more so_far =
    let program : IsProgramIf n stale row p = subst (IsProgramIf n stale row) (sym (taken ∙ ap option_flatten is)) (are.each row item at) in
    let one : IsMadeIf n stale row (option_or l p) = made_if (IsMadeAt n row) (is_stale stale row) (is_library_at n row) l p library program in
    let here : IsMadeIf n stale (length all) o = subst (λ (k : ℕ). IsMadeIf n stale k o) same (subst (IsMadeIf n stale row) (sym made) one) in
    each_pushed (IsMadeIf n stale) all after o more here so_far

-- ---- all files

abbrev pub IsAllAt : List Taken → List (Option Skip) → List (Option RowOutcome) → ℕ → RowOutcome → Type 0
IsAllAt ts causes made row o = (t : Taken) (c : Option Skip) (m : Option RowOutcome) → slice_get ts row ≡ Some t → slice_get causes row ≡ Some c → slice_get made row ≡ Some m → IsOutcomeFor t c m o

abbrev pub AllTo : List Taken → List (Option Skip) → List (Option RowOutcome) → List RowOutcome → Type 0
AllTo ts causes made os = (row : ℕ) (o : RowOutcome) → slice_get os row ≡ Some o → IsAllAt ts causes made row o

pub all_more : (ts : List Taken) (causes : List (Option Skip)) (made : List (Option RowOutcome)) (os after : List RowOutcome) (row : ℕ) (t : Taken) (c : Option Skip) (m item : Option RowOutcome) (next : Option (Option RowOutcome)) (o : RowOutcome) → row ≡ length os
    → slice_get ts row ≡ Some t → slice_get causes row ≡ Some c → next ≡ Some item → slice_get made row ≡ Some item → m ≡ option_flatten next → IsOutcomeFor t c m o → after ≡ os ++ o ∷ [] → AllTo ts causes made os → AllTo ts causes made after
all_more ts causes made os after row t c m item next o same file cause is at taken so more so_far =
    let item_is : m ≡ item = taken ∙ ap option_flatten is in
    let one : IsAllAt ts causes made row o = λ u d n there that those.
    subst (λ (x : Taken). IsOutcomeFor x d n o) (same_Some t u (sym file ∙ there))
    (subst (λ (x : Option Skip). IsOutcomeFor t x n o) (same_Some c d (sym cause ∙ that))
    (subst (λ (x : Option RowOutcome). IsOutcomeFor t c x o) (item_is ∙ same_Some item n (sym at ∙ those)) so)) in
    each_pushed (IsAllAt ts causes made) os after o more (subst (λ (k : ℕ). IsAllAt ts causes made k o) same one) so_far

pub all_are : (ts : List Taken) (causes : List (Option Skip)) (made : List (Option RowOutcome)) (os : List RowOutcome) → length os ≡ length ts → AllTo ts causes made os → AreAll ts causes made os
all_are ts causes made os count to = record { count = count; each = λ row t c m o file cause that there. to row o there t c m file cause that }
