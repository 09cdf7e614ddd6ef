-- Reading rows one after the other, as a loop does.
use Rattle.std.proofs.Common.{◌≡◌, ℕ, suc, ◌-◌, ◌+◌, ◌≤◌, ◌<◌, List, [], ◌∷◌, ◌++◌, Result, Ok, Err, refl, sym, ap, ◌∙◌, append_assoc, arith}
use Rattle.std.proofs.lemmas.List.{append-nil}
use Rattle.std.specs.Prelude.{MatchBool, ⊤}
use Rattle.pl_base.specs.Answers.{◌>>=◌}
use Rattle.pl_journal.specs.declared.row.Row.{Row}
use Rattle.pl_journal.specs.declared.fault.JournalFault.{JournalFault}
use Rattle.pl_journal.specs.declared.fault.JournalFault.TheVariants.{Failed, BadJournal, NoMemory}
use Rattle.pl_journal.specs.Reading.{row_at, rows_at, is_memory}

-- what was read before, and what is still read
abbrev pub with_rows : List Row → Result (List Row × List ℕ) JournalFault → Result (List Row × List ℕ) JournalFault
with_rows front read = read >>= λ x. Ok (front ++ x.0, x.1)

regroup : (front : List Row) (row : Row) (read : Result (List Row × List ℕ) JournalFault) → with_rows front (read >>= λ x. Ok (row ∷ x.0, x.1)) ≡ with_rows (front ++ row ∷ []) read
regroup front row (Ok x) = ap (λ (rows : List Row). Ok (rows, x.1)) (simp append_assoc)
regroup front row (Err f) = refl

pub goes_on : (front : List Row) (count i : ℕ) (bytes : List ℕ) (row : Row) (after : List ℕ) (total : Result (List Row × List ℕ) JournalFault) → i < count → row_at bytes ≡ Ok (row, after)
    → with_rows front (rows_at (count - i) bytes) ≡ total → with_rows (front ++ row ∷ []) (rows_at (count - (i + 1)) after) ≡ total
unfolding rows_at
goes_on front count i bytes row after total lt h so_far =
    let k : count - i ≡ suc (count - (i + 1)) = omega arith in
    let one : with_rows front (rows_at (count - i) bytes) ≡ with_rows (front ++ row ∷ []) (rows_at (count - (i + 1)) after) = rw (k, h) (regroup front row (rows_at (count - (i + 1)) after)) in
    sym one ∙ so_far

stops : (e : JournalFault) (front : List Row) (count i : ℕ) (bytes : List ℕ) (total : Result (List Row × List ℕ) JournalFault) → i < count → row_at bytes ≡ Err e
    → with_rows front (rows_at (count - i) bytes) ≡ total → total ≡ Err e
unfolding rows_at
stops e front count i bytes total lt h so_far =
    let k : count - i ≡ suc (count - (i + 1)) = omega arith in
    let one : with_rows front (rows_at (count - i) bytes) ≡ Err e = rw (k, h) refl in
    sym so_far ∙ one

pub ends : (e : JournalFault) (front : List Row) (count i : ℕ) (bytes : List ℕ) (total : Result (List Row × List ℕ) JournalFault) → i < count → MatchBool (is_memory e) ⊤ (row_at bytes ≡ Err e)
    → with_rows front (rows_at (count - i) bytes) ≡ total → MatchBool (is_memory e) ⊤ (total ≡ Err e)
ends NoMemory front count i bytes total lt h so_far = tt
ends Failed front count i bytes total lt h so_far = stops Failed front count i bytes total lt h so_far
ends BadJournal front count i bytes total lt h so_far = stops BadJournal front count i bytes total lt h so_far

pub is_done : (front : List Row) (count i : ℕ) (bytes : List ℕ) (total : Result (List Row × List ℕ) JournalFault) → count ≤ i → with_rows front (rows_at (count - i) bytes) ≡ total → total ≡ Ok (front, bytes)
unfolding rows_at
is_done front count i bytes total le so_far =
    let k : count - i ≡ 0 = omega arith in
    let one : with_rows front (rows_at (count - i) bytes) ≡ Ok (front, bytes) = rw k (ap (λ (rows : List Row). Ok (rows, bytes)) (append-nil front)) in
    sym so_far ∙ one
