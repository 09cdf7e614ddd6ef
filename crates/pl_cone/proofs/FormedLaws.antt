-- Whether the members of a walk have forms, row by row.
use Rattle.std.proofs.Common.{◌≡◌, ℕ, suc, ◌+◌, ◌<◌, List, [], ◌∷◌, length, drop, get_or, Option, Some, None, Result, Ok, Err, refl, sym, ap, subst, ◌∙◌, arith}
use Rattle.std.specs.Prelude.{MatchBool, ⊤, slice_get}
use Rattle.std.specs.List.{All}
use Rattle.std.proofs.lemmas.List.{get_or_default}
use Rattle.std.proofs.lemmas.Option.{slice_get_read}
use Rattle.pl_base.proofs.RunLaws.{run_more, run_fails}
use Rattle.pl_base.specs.Answers.{◌>>=◌, unless_found}
use Rattle.pl_base.specs.Each.{run}
use Rattle.pl_elf.specs.declared.range.Range.{Range}
use Rattle.pl_scope.specs.Members.{names}
use Rattle.pl_scope.specs.Walk.{Walked}
use Rattle.pl_cone.specs.Candidates.{formed, all_formed}
use Rattle.pl_cone.specs.Linking.{formed_by}
use Rattle.pl_cone.specs.Skips.{skip_is_memory}
use Rattle.pl_cone.specs.Table.{faults_of, names_by, walked_by}
use Rattle.pl_cone.specs.Taken.{AreTaken}
use Rattle.pl_cone.specs.declared.skip.Skip.{Skip}
use Rattle.pl_cone.specs.declared.skip.Skip.TheVariants as skips
use Rattle.pl_cone.specs.declared.taken.Taken.{Taken}
use Rattle.pl_cone.proofs.MembersLaws.{HasMember, has_member_at, walked_cons}
use Rattle.pl_cone.proofs.RowLaws.{row_is}

abbrev pub by_file : Option Taken → Result (Unit {0}) Skip
by_file None = Ok tt
by_file (Some t) = formed_by t

abbrev pub by_row : List Taken → Unit {0} → ℕ → Result (Unit {0}) Skip
by_row ts u r = by_file (slice_get ts r)

one_more : (ts : List Taken) (rows : List ℕ) (faults : List ℕ → Option ℕ) (n : List ℕ) (ns : List (List ℕ)) → run (by_row ts) tt rows ≡ run (λ u m. formed faults m) tt ns → (fault : Option ℕ)
    → (unless_found fault (skips.Form n) (Ok tt) >>= λ u. run (by_row ts) u rows) ≡ (unless_found fault (skips.Form n) (Ok tt) >>= λ u. run (λ v m. formed faults m) u ns)
one_more ts rows faults n ns rest None = rest
one_more ts rows faults n ns rest (Some number) = refl

pub rows_formed : (region : Range) (ts : List Taken) (rows : List ℕ) → AreTaken region ts → length (walked_by ts rows) ≡ length rows → run (by_row ts) tt rows ≡ all_formed (faults_of ts) (names_by ts rows)
unfolding run all_formed
rows_formed region ts [] taken each = refl
rows_formed region ts (r ∷ rows) taken each =
    let h : HasMember ts (r ∷ rows) 0 r = has_member_at ts (r ∷ rows) 0 r each refl in
    let t : Taken = h.taken in
    let walked : walked_by ts (r ∷ rows) ≡ (t.name, h.object) ∷ walked_by ts rows = walked_cons ts r rows t h.object h.file h.is in
    let size : length (walked_by ts (r ∷ rows)) ≡ suc (length (walked_by ts rows)) = ap length walked in
    let rest : length (walked_by ts rows) ≡ length rows = omega (arith, each, size) in
    let told : faults_of ts t.name ≡ t.fault = (row_is region ts r t taken h.file).told in
    ap (λ (x : Option Taken). by_file x >>= λ u. run (by_row ts) u rows) h.file
    ∙ (one_more ts rows (faults_of ts) t.name (names_by ts rows) (rows_formed region ts rows taken rest) t.fault
    ∙ (ap (λ (fault : Option ℕ). unless_found fault (skips.Form t.name) (Ok tt) >>= λ u. run (λ v m. formed (faults_of ts) m) u (names_by ts rows)) (sym told)
    ∙ ap (λ (ws : Walked). all_formed (faults_of ts) (names ws)) (sym walked)))

-- ---- one row after the other

row_formed : (ts : List Taken) (r : ℕ) (t : Taken) → r < length ts → t ≡ get_or ts r t → by_row ts tt r ≡ formed_by t
row_formed ts r t lt is = ap by_file (slice_get_read ts (length ts) r t refl lt is)

pub formed_more : (ts : List Taken) (walk : List ℕ) (i : ℕ) (t : Taken) (whole : Result (Unit {0}) Skip) → i < length walk → All (λ r. r < length ts) walk → t ≡ get_or ts (get_or walk i 0) t → formed_by t ≡ Ok tt
    → run (by_row ts) tt (drop i walk) ≡ whole → run (by_row ts) tt (drop (i + 1) walk) ≡ whole
formed_more ts walk i t whole lt within is formed so_far =
    run_more (by_row ts) tt tt walk i (get_or walk i 0) whole lt (get_or_default walk i 0 (get_or walk i 0) lt) (row_formed ts (get_or walk i 0) t (within i 0 lt) is ∙ formed) so_far

pub formed_stops : (ts : List Taken) (walk : List ℕ) (i : ℕ) (t : Taken) (e : Skip) (whole : Result (Unit {0}) Skip) → i < length walk → All (λ r. r < length ts) walk → t ≡ get_or ts (get_or walk i 0) t → MatchBool (skip_is_memory e) ⊤ (formed_by t ≡ Err e)
    → run (by_row ts) tt (drop i walk) ≡ whole → MatchBool (skip_is_memory e) ⊤ (whole ≡ Err e)
formed_stops ts walk i t e whole lt within is formed so_far =
    run_fails skip_is_memory (by_row ts) tt walk i (get_or walk i 0) e whole lt (get_or_default walk i 0 (get_or walk i 0) lt)
    (subst (λ (r : Result (Unit {0}) Skip). MatchBool (skip_is_memory e) ⊤ (r ≡ Err e)) (sym (row_formed ts (get_or walk i 0) t (within i 0 lt) is)) formed) so_far

-- ---- by the fault that a file has, or none

pub fault_none : (t : Taken) → t.fault ≡ None → formed_by t ≡ Ok tt
fault_none t none = ap (λ (fault : Option ℕ). unless_found fault (skips.Form t.name) (Ok tt)) none

pub fault_some : (t : Taken) (number : ℕ) (name : List ℕ) → t.fault ≡ Some number → name ≡ t.name → formed_by t ≡ Err (skips.Form name number)
fault_some t number name some same =
    ap (λ (fault : Option ℕ). unless_found fault (skips.Form t.name) (Ok tt)) some ∙ ap (λ (n : List ℕ). Err (skips.Form n number)) (sym same)
