-- A whole load, as whoever takes the files from a folder follows it: after each file the load is under way, and its end or its first fault is what the definition means.
use Rattle.std.proofs.Common.{◌≡◌, ℕ, true, false, List, Option, Some, None, Result, Ok, Err, refl, ap, ◌∙◌}
use Rattle.std.specs.Prelude.{MatchBool, ⊤}
use Rattle.pl_base.specs.Answers.{because}
use Rattle.pl_elf.specs.declared.range.Range.{Range}
use Rattle.pl_place.specs.Policy.{Choice}
use Rattle.pl_scope.specs.Walking.{wants}
use Rattle.pl_loader.specs.Faults.{is_memory}
use Rattle.pl_loader.specs.Loading.{Loading}
use Rattle.pl_loader.specs.Walk.{give, files, IsUnderWay, IsFile}
use Rattle.pl_loader.specs.Started.{Start, IsStart, Starts, started, load}
use Rattle.pl_loader.specs.declared.object_file.ObjectFile.{ObjectFile}
use Rattle.pl_loader.specs.declared.started.Started as code
use Rattle.pl_loader.specs.declared.fault.LoadFault.{LoadFault}
use Rattle.pl_loader.proofs.LoadLaws.{load_lacks, load_stops, load_ends}

refused : {E : Type 0} (choose : Choice) (busy : Option Range) (fault : LoadFault → E) (file : List ℕ → Result (List ℕ) E) (name : List ℕ) (e : E) → files fault file name ≡ Err e → load choose busy fault file name ≡ Err e
unfolding load
refused choose busy fault file name e is = rw is refl

ended : {E : Type 0} (choose : Choice) (busy : Option Range) (fault : LoadFault → E) (file : List ℕ → Result (List ℕ) E) (name : List ℕ) (fs : List ObjectFile) → files fault file name ≡ Ok fs → load choose busy fault file name ≡ because fault (started choose busy fs)
unfolding load
ended choose busy fault file name fs is = rw is refl

-- the wanted name has no file
pub whole_lacks : {E : Type 0} (choose : Choice) (busy : Option Range) (fault : LoadFault → E) (file : List ℕ → Result (List ℕ) E) (name n : List ℕ) (l : Loading) (e : E) → wants l.order ≡ Some n → file n ≡ Err e → IsUnderWay fault file name l → load choose busy fault file name ≡ Err e
whole_lacks choose busy fault file name n l e is lacks way = refused choose busy fault file name e (load_lacks fault file name n l e is lacks way)

-- the wanted name's file is refused, or there was no memory
pub whole_stops : {E : Type 0} (choose : Choice) (busy : Option Range) (fault : LoadFault → E) (file : List ℕ → Result (List ℕ) E) (name n : List ℕ) (given : Option (List ℕ)) (l : Loading) (f : LoadFault) → wants l.order ≡ Some n → IsFile fault file n given
    → MatchBool (is_memory f) ⊤ (give l given ≡ Err f) → IsUnderWay fault file name l → MatchBool (is_memory f) ⊤ (load choose busy fault file name ≡ Err (fault f))
whole_stops choose busy fault file name n given l f is there stops way =
    elim (is_memory f) as (λ b. MatchBool b ⊤ (give l given ≡ Err f) → MatchBool b ⊤ (load choose busy fault file name ≡ Err (fault f))) [
      | true ↦ λ _. tt
      | false ↦ λ stop. refused choose busy fault file name (fault f) (load_stops fault file name n given l f is there stop way)
    ] stops

-- no name is wanted, and the files that were given have no start, or there was no memory
pub whole_fails : {E : Type 0} (choose : Choice) (busy : Option Range) (fault : LoadFault → E) (file : List ℕ → Result (List ℕ) E) (name : List ℕ) (l : Loading) (f : LoadFault) → wants l.order ≡ None
    → MatchBool (is_memory f) ⊤ (started choose busy l.files ≡ Err f) → IsUnderWay fault file name l → MatchBool (is_memory f) ⊤ (load choose busy fault file name ≡ Err (fault f))
whole_fails {E} choose busy fault file name l f is fails way =
    elim (is_memory f) as (λ b. MatchBool b ⊤ (started choose busy l.files ≡ Err f) → MatchBool b ⊤ (load choose busy fault file name ≡ Err (fault f))) [
      | true ↦ λ _. tt
      | false ↦ λ fail. ended choose busy fault file name l.files (load_ends fault file name l is way) ∙ ap (because fault) fail
    ] fails

-- no name is wanted, and the files that were given have a start
pub whole_starts : {E : Type 0} (choose : Choice) (busy : Option Range) (fault : LoadFault → E) (file : List ℕ → Result (List ℕ) E) (name : List ℕ) (l : Loading) (s : code.Started) → wants l.order ≡ None → Starts s (started choose busy l.files) → IsUnderWay fault file name l
    → (whole : Start) × (load choose busy fault file name ≡ Ok whole) × IsStart s whole
whole_starts {E} choose busy fault file name l s is starts way =
    (starts.0, ended choose busy fault file name l.files (load_ends fault file name l is way) ∙ ap (because fault) starts.1, starts.2)
