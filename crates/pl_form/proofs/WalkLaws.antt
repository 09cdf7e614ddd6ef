-- Walks over places and tables that stop at the first that does not fit.
use Rattle.std.proofs.Common.{◌≡◌, ℕ, ◌+◌, ◌-◌, ◌<◌, ◌≤◌, Bool, true, false, List, ◌++◌, length, get_or, drop, sym, ap, ◌∙◌, append_assoc, arith, inl, inr}
use Rattle.std.specs.Prelude.{◌&&◌, ◌==◌, nat_le}
use Rattle.std.proofs.lemmas.List.{append-nil}
use Rattle.std.proofs.lemmas.Bool.{cases_Bool, eq-eqb, ne_eqb, eqb-true, true≢false}
use Rattle.pl_base.specs.Bytes.{part}
use Rattle.pl_base.specs.Windows.{are_in, end_of}
use Rattle.pl_move.specs.Moves.{table_window, table_windows}
use Rattle.pl_move.specs.declared.table.Table.{Table}
use Rattle.pl_form.specs.Back.{spot_windows, wanted}
use Rattle.pl_form.specs.declared.parts.Spot.{Spot}
use Rattle.pl_form.proofs.PlaceLaws.{rest_is, rest_none}
use Rattle.pl_form.specs.Reading.{standing}

-- ---- how many bytes stand at places

pub wanted_next : (ps : List Spot) (i : ℕ) (d : Spot) → i < length ps → wanted (drop i ps) ≡ (get_or ps i d).size + ((get_or ps i d).hidden + wanted (drop (i + 1) ps))
wanted_next ps i d lt = ap wanted (rest_is ps i d lt)

pub wanted_last : (ps : List Spot) (i : ℕ) → length ps ≤ i → wanted (drop i ps) ≡ 0
wanted_last ps i le = ap wanted (rest_none ps i le)

pub wanted_more : (ps : List Spot) (i : ℕ) (d : Spot) (size total here rest : ℕ) → i < length ps → here ≡ (get_or ps i d).size + (get_or ps i d).hidden → here ≤ rest
    → size + wanted (drop i ps) ≡ rest + total → size + wanted (drop (i + 1) ps) ≡ rest - here + total
wanted_more ps i d size total here rest lt is le so_far = omega (arith, wanted_next ps i d lt, is, le, so_far)

pub wanted_short : (ps : List Spot) (i : ℕ) (d : Spot) (size total here rest : ℕ) → i < length ps → here ≡ (get_or ps i d).size + (get_or ps i d).hidden → rest < here
    → size + wanted (drop i ps) ≡ rest + total → false ≡ (size == total)
wanted_short ps i d size total here rest lt is less so_far = sym (ne_eqb size total (λ same. absurd (omega (arith, wanted_next ps i d lt, is, less, so_far, same))))

zero_same : (rest size total : ℕ) → size ≡ rest + total → (rest == 0) ≡ (size == total)
zero_same rest size total same = elim (cases_Bool (rest == 0)) [
  | inl none ↦ let is = eqb-true rest 0 none in none ∙ sym (eq-eqb size total (omega (arith, same, is)))
  | inr some ↦ some ∙ sym (ne_eqb size total (λ e. true≢false (sym (eq-eqb rest 0 (omega (arith, same, e))) ∙ some)))
]

pub wanted_done : (ps : List Spot) (i size total rest : ℕ) → length ps ≤ i → size + wanted (drop i ps) ≡ rest + total → (rest == 0) ≡ (size == total)
wanted_done ps i size total rest le so_far =
    let none = wanted_last ps i le in
    let same : size ≡ rest + total = omega (arith, none, so_far) in
    zero_same rest size total same

-- ---- windows that lie in so many bytes

pub spots_next : (n : ℕ) (ps : List Spot) (i : ℕ) (d : Spot) → i < length ps → are_in n (spot_windows (drop i ps)) ≡ (nat_le ((get_or ps i d).at + (get_or ps i d).size) n && are_in n (spot_windows (drop (i + 1) ps)))
spots_next n ps i d lt = ap (λ (xs : List Spot). are_in n (spot_windows xs)) (rest_is ps i d lt)

pub spots_more : (n : ℕ) (ps : List Spot) (i : ℕ) (d : Spot) (whole : Bool) → i < length ps → nat_le ((get_or ps i d).at + (get_or ps i d).size) n ≡ true → are_in n (spot_windows (drop i ps)) ≡ whole → are_in n (spot_windows (drop (i + 1) ps)) ≡ whole
spots_more n ps i d whole lt fits so_far = sym (spots_next n ps i d lt ∙ ap (λ (b : Bool). b && are_in n (spot_windows (drop (i + 1) ps))) fits) ∙ so_far

pub spots_stop : (n : ℕ) (ps : List Spot) (i : ℕ) (d : Spot) (whole : Bool) → i < length ps → nat_le ((get_or ps i d).at + (get_or ps i d).size) n ≡ false → are_in n (spot_windows (drop i ps)) ≡ whole → false ≡ whole
spots_stop n ps i d whole lt fits so_far = sym (spots_next n ps i d lt ∙ ap (λ (b : Bool). b && are_in n (spot_windows (drop (i + 1) ps))) fits) ∙ so_far

pub spots_end : (n : ℕ) (ps : List Spot) (i : ℕ) (whole : Bool) → length ps ≤ i → are_in n (spot_windows (drop i ps)) ≡ whole → true ≡ whole
spots_end n ps i whole le so_far = sym (ap (λ (xs : List Spot). are_in n (spot_windows xs)) (rest_none ps i le)) ∙ so_far

pub tables_next : (n : ℕ) (ts : List Table) (i : ℕ) (d : Table) → i < length ts → are_in n (table_windows (drop i ts)) ≡ (nat_le (end_of (table_window (get_or ts i d))) n && are_in n (table_windows (drop (i + 1) ts)))
tables_next n ts i d lt = ap (λ (xs : List Table). are_in n (table_windows xs)) (rest_is ts i d lt)

pub tables_more : (n : ℕ) (ts : List Table) (i : ℕ) (d : Table) (whole : Bool) → i < length ts → nat_le (end_of (table_window (get_or ts i d))) n ≡ true → are_in n (table_windows (drop i ts)) ≡ whole → are_in n (table_windows (drop (i + 1) ts)) ≡ whole
tables_more n ts i d whole lt fits so_far = sym (tables_next n ts i d lt ∙ ap (λ (b : Bool). b && are_in n (table_windows (drop (i + 1) ts))) fits) ∙ so_far

pub tables_stop : (n : ℕ) (ts : List Table) (i : ℕ) (d : Table) (whole : Bool) → i < length ts → nat_le (end_of (table_window (get_or ts i d))) n ≡ false → are_in n (table_windows (drop i ts)) ≡ whole → false ≡ whole
tables_stop n ts i d whole lt fits so_far = sym (tables_next n ts i d lt ∙ ap (λ (b : Bool). b && are_in n (table_windows (drop (i + 1) ts))) fits) ∙ so_far

pub tables_end : (n : ℕ) (ts : List Table) (i : ℕ) (whole : Bool) → length ts ≤ i → are_in n (table_windows (drop i ts)) ≡ whole → true ≡ whole
tables_end n ts i whole le so_far = sym (ap (λ (xs : List Table). are_in n (table_windows xs)) (rest_none ts i le)) ∙ so_far

-- ---- the bytes at places

pub standing_more : (ps : List Spot) (i : ℕ) (d : Spot) (front zeros out new whole : List ℕ) → i < length ps
    → new ≡ out ++ part (get_or ps i d).at (get_or ps i d).size front ++ part (get_or ps i d).behind (get_or ps i d).hidden zeros
    → out ++ standing (drop i ps) front zeros ≡ whole → new ++ standing (drop (i + 1) ps) front zeros ≡ whole
standing_more ps i d front zeros out new whole lt step so_far =
    let p = get_or ps i d in
    let a : List ℕ = part p.at p.size front in
    let b : List ℕ = part p.behind p.hidden zeros in
    let rest : List ℕ = standing (drop (i + 1) ps) front zeros in
    ap (λ (u : List ℕ). u ++ rest) step ∙ append_assoc (out ++ a) b rest ∙ append_assoc out a (b ++ rest)
    ∙ sym (ap (λ (xs : List Spot). out ++ standing xs front zeros) (rest_is ps i d lt)) ∙ so_far

pub standing_done : (ps : List Spot) (i : ℕ) (front zeros out whole : List ℕ) → length ps ≤ i → out ++ standing (drop i ps) front zeros ≡ whole → out ≡ whole
standing_done ps i front zeros out whole le so_far = sym (append-nil out) ∙ sym (ap (λ (xs : List Spot). out ++ standing xs front zeros) (rest_none ps i le)) ∙ so_far
