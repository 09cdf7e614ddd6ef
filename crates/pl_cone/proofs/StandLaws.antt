-- Which names may be prelinked, by what is known and in the folder.
use Rattle.std.proofs.Common.{◌≡◌, ℕ, List, [], ◌∷◌, Option, Some, None, Result, Ok, Err, refl, sym, ap, ◌∙◌}
use Rattle.std.specs.Prelude.{if◌then◌else◌}
use Rattle.pl_base.specs.Answers.{◌>>=◌, unless, unless_found}
use Rattle.pl_base.specs.Each.{run}
use Rattle.pl_cone.specs.Candidates.{kind_of, formed, all_formed, check_links, fit}
use Rattle.pl_cone.specs.declared.skip.Skip.{Skip}
use Rattle.pl_cone.specs.declared.skip.Skip.TheVariants as skips
use Rattle.pl_elf.specs.Kinds.{is_program, is_static}
use Rattle.pl_elf.specs.declared.range.Range.{Range}
use Rattle.pl_scope.specs.Members.{names}
use Rattle.pl_scope.specs.Walk.{Walked}
use Rattle.pl_cone.specs.Skipped.{fault_at, skip_of}
use Rattle.pl_cone.specs.Table.{faults_of, walk_for}
use Rattle.pl_cone.specs.Taken.{AreTaken, files_in}
use Rattle.pl_cone.specs.declared.taken.Taken.{Taken}
use Rattle.pl_cone.proofs.RowLaws.{faults_same}

pub then_same : {S A E : Type 0} (r : Result A E) (h k : A → Result S E) → ((x : A) → h x ≡ k x) → (r >>= h) ≡ (r >>= k)
then_same (Ok x) h k same = same x
then_same (Err e) h k same = refl

-- one name more
formed_step : (faults others : List ℕ → Option ℕ) (n : List ℕ) (ns : List (List ℕ)) → run (λ v m. formed faults m) tt ns ≡ run (λ v m. formed others m) tt ns → (fault : Option ℕ)
    → (unless_found fault (skips.Form n) (Ok tt) >>= λ u. run (λ v m. formed faults m) u ns) ≡ (unless_found fault (skips.Form n) (Ok tt) >>= λ u. run (λ v m. formed others m) u ns)
formed_step faults others n ns rest None = rest
formed_step faults others n ns rest (Some number) = refl

formed_same : (faults others : List ℕ → Option ℕ) → ((n : List ℕ) → faults n ≡ others n) → (ns : List (List ℕ)) → all_formed faults ns ≡ all_formed others ns
unfolding all_formed run
formed_same faults others same [] = refl
formed_same faults others same (n ∷ ns) =
    ap (λ (fault : Option ℕ). unless_found fault (skips.Form n) (Ok tt) >>= λ u. run (λ v m. formed faults m) u ns) (same n)
    ∙ formed_step faults others n ns (formed_same faults others same ns) (others n)

fit_same : (faults others : List ℕ → Option ℕ) → ((n : List ℕ) → faults n ≡ others n) → (n : List ℕ) (ws : Walked) → fit faults n ws ≡ fit others n ws
unfolding fit
fit_same faults others same n ws =
    ap (λ (r : Result (Unit {0}) Skip). unless (is_static (kind_of ws)) (skips.Static n) (r >>= λ _. if is_program (kind_of ws) then check_links ws else Ok tt)) (formed_same faults others same (names ws))

-- why a name is not prelinked, by the files
pub skip_is : (region : Range) (ts : List Taken) (n : List ℕ) → AreTaken region ts → skip_of (files_in ts) region n ≡ (walk_for ts n >>= fit (faults_of ts) n)
unfolding skip_of
skip_is region ts n taken =
    then_same (walk_for ts n) (fit (fault_at region (files_in ts)) n) (fit (faults_of ts) n) (fit_same (fault_at region (files_in ts)) (faults_of ts) (λ m. sym (faults_same region ts taken m)) n)

-- a name whose walk is refused has that cause
pub cause_refused : (region : Range) (ts : List Taken) (n : List ℕ) (cause : Skip) → AreTaken region ts → walk_for ts n ≡ Err cause → skip_of (files_in ts) region n ≡ Err cause
cause_refused region ts n cause taken walk = skip_is region ts n taken ∙ ap (λ (r : Result Walked Skip). r >>= fit (faults_of ts) n) walk

pub cause_fit : (region : Range) (ts : List Taken) (n : List ℕ) (ws : Walked) → AreTaken region ts → walk_for ts n ≡ Ok ws → skip_of (files_in ts) region n ≡ fit (faults_of ts) n ws
cause_fit region ts n ws taken walk = skip_is region ts n taken ∙ ap (λ (r : Result Walked Skip). r >>= fit (faults_of ts) n) walk
