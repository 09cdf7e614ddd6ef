-- The tables of an accepted object lie in its file.
use Rattle.std.proofs.Common.{inl, inr, ◌≡◌, ℕ, zero, suc, ◌+◌, ◌-◌, ◌*◌, ◌/◌, ◌^◌, ◌<◌, ◌≤◌, Bool, true, false, List, [], ◌∷◌, ◌++◌, length, map, get_or, take, drop, refl, sym, ap, subst, ◌∙◌, arith}
use Rattle.std.specs.Prelude.{◌==◌, if◌then◌else◌}
use Rattle.std.specs.List.{All}
use Rattle.std.proofs.Math.Nat.{mul-div-le}
use Rattle.std.proofs.lemmas.Bool.{cases_Bool, leb-true}
use Rattle.std.proofs.lemmas.List.{get_or-map, length-map, drop_all}
use Rattle.pl_base.specs.Windows.{Window, end_of, IsIn, AllIn}
use Rattle.pl_elf.specs.Kinds.{is_static}
use Rattle.pl_elf.specs.Headers.{header}
use Rattle.pl_elf.specs.declared.range.Range.{Range}
use Rattle.pl_dyn.specs.declared.tags.Tag.{Tag}
use Rattle.pl_object.specs.Accepted.{Accepted, HasHead, IsTabled}
use Rattle.pl_object.specs.FilePart.{file_window}
use Rattle.pl_object.specs.Named.{range_window, dynamic_of, symbols_of, rela_of, jmprel_of, packed_of, symtabs_of}
use Rattle.pl_object.specs.Tables.{window_range, link_windows}
use Rattle.pl_object.specs.declared.object.Object.{Object}
use Rattle.pl_object.proofs.ExtentLaws.{file_window_in}
use Rattle.pl_move.specs.Moves.{row_size, table_window, table_windows, moved, all_moved, all_back}
use Rattle.pl_move.proofs.TableLaws.{windows_at, tables_more, back_more, all_moved-append, all_back-append, all_back-none}
use Rattle.pl_move.specs.Objects.{rows_of, symbol_rows, main_tables, tables_of, LieIn, TablesLieInTheFile}
use Rattle.pl_move.specs.declared.kind.RowKind.{RowKind}
use Rattle.pl_move.specs.declared.kind.RowKind.TheVariants.{TagValue, SymbolValue, RelocationPlace, RelativeAddend, PackedAddress}
use Rattle.pl_move.specs.declared.table.Table.{Table}

-- whole rows of a window are in it
pub rows_in : (n : ℕ) (kind : RowKind) (w : Window) → IsIn n w → IsIn n (table_window (rows_of kind w))
rows_in n kind w fits = let le : row_size kind * (w.size / row_size kind) ≤ w.size = mul-div-le w.size (row_size kind) in omega (arith, le, fits)

pub table_windows-append : (ts us : List Table) → table_windows (ts ++ us) ≡ table_windows ts ++ table_windows us
table_windows-append [] us = refl
table_windows-append (t ∷ ts) us = ap (λ (ws : List Window). table_window t ∷ ws) (table_windows-append ts us)

pub all_in-append : (n : ℕ) (vs ws : List Window) → AllIn n vs → AllIn n ws → AllIn n (vs ++ ws)
all_in-append n [] ws a b = b
all_in-append n (v ∷ vs) ws a b = (a.0, all_in-append n vs ws a.1 b)

pub all_in_parts : (n : ℕ) (vs ws : List Window) → AllIn n (vs ++ ws) → AllIn n vs × AllIn n ws
all_in_parts n [] ws h = (tt, h)
all_in_parts n (v ∷ vs) ws h = let p = all_in_parts n vs ws h.1 in ((h.0, p.0), p.1)

symbols_in : (n : ℕ) (rs : List Range) → AllIn n (map range_window rs) → AllIn n (table_windows (map symbol_rows rs))
symbols_in n [] h = tt
symbols_in n (r ∷ rs) h = (rows_in n SymbolValue (range_window r) h.0, symbols_in n rs h.1)

range_in : (n : ℕ) (w : Window) → w.at + w.size ≤ n → IsIn n (range_window (window_range w))
range_in n w le = omega (arith, le)

ranges_in : (n k : ℕ) (ws : List Window) → All (λ (range : Range). range.end ≤ n) (map window_range ws) → AllIn n (map range_window (drop k (map window_range ws)))
ranges_in n zero [] all = tt
ranges_in n (suc k) [] all = tt
ranges_in n zero (w ∷ ws) all = (range_in n w (all 0 (window_range w) (omega arith)), ranges_in n zero ws (λ i d lt. all (suc i) d (omega (arith, lt))))
ranges_in n (suc k) (w ∷ ws) all = ranges_in n k ws (λ i d lt. all (suc i) d (omega (arith, lt)))

entry_in : (n entry : ℕ) → 64 ≤ n → 0 + 64 * (if entry == 0 then 0 else 1) ≤ n
entry_in n entry long = elim (cases_Bool (entry == 0)) [
  | inl none ↦ rw none (omega arith)
  | inr some ↦ rw some (omega (arith, long))
]

-- a window of memory in the file
pub window_in : (bytes : List ℕ) (o : Object) (ts : List Tag) (m v : Window) → IsTabled bytes o ts → v ≡ file_window o.segments m → IsIn (length bytes) v
window_in bytes o ts m v is same = subst (λ (w : Window). IsIn (length bytes) w) (sym same) (leb-true (end_of (file_window o.segments m)) (length bytes) (file_window_in bytes o.segments m is.files))

main_in : (bytes : List ℕ) (o : Object) (ts : List Tag) → HasHead bytes o → IsTabled bytes o ts → AllIn (length bytes) (table_windows (main_tables o))
unfolding main_tables
main_in bytes o ts head is =
    let n = length bytes in
    let dynamic : IsIn n (dynamic_of o) = window_in bytes o ts _ (dynamic_of o) is is.named.dynamic in
    let symbols : IsIn n (symbols_of o) = window_in bytes o ts _ (symbols_of o) is is.named.symbols in
    let rela : IsIn n (rela_of o) = window_in bytes o ts _ (rela_of o) is is.named.rela in
    let jmprel : IsIn n (jmprel_of o) = window_in bytes o ts _ (jmprel_of o) is is.named.jmprel in
    let packed : IsIn n (packed_of o) = window_in bytes o ts _ (packed_of o) is is.named.packed in (
      entry_in n o.entry head.long,
      (
        omega (arith, head.segments_in),
        (
          omega (arith, head.segments_in),
          (
            rows_in n TagValue (dynamic_of o) dynamic,
            (
              rows_in n SymbolValue (symbols_of o) symbols,
              (
                rows_in n RelocationPlace (rela_of o) rela,
                (
                  rows_in n RelativeAddend (rela_of o) rela,
                  (
                    rows_in n RelocationPlace (jmprel_of o) jmprel,
                    (
                      rows_in n RelativeAddend (jmprel_of o) jmprel,
                      (rows_in n PackedAddress (packed_of o) packed, tt),
                    ),
                  ),
                ),
              ),
            ),
          ),
        ),
      ),
    )

pub symtabs_in : (bytes : List ℕ) (o : Object) (ts : List Tag) → Accepted bytes o → IsTabled bytes o ts → AllIn (length bytes) (map range_window (symtabs_of o))
unfolding symtabs_of
symtabs_in bytes o ts is tabled =
    let ws = link_windows o.header o.segments o.sections ts in
    let all : All (λ (range : Range). range.end ≤ length bytes) (map window_range ws) = subst (λ (rs : List Range). All (λ (range : Range). range.end ≤ length bytes) rs) tabled.shape is.tables in
    subst (λ (rs : List Range). AllIn (length bytes) (map range_window (drop 13 rs))) (sym tabled.shape) (ranges_in (length bytes) 13 ws all)

pub tables_in : TablesLieInTheFile
unfolding tables_of
tables_in bytes o is other =
    let tabled = is.tabled other in
    let n = length bytes in
    subst (λ (ws : List Window). AllIn n ws) (sym (table_windows-append (main_tables o) (map symbol_rows (symtabs_of o))))
    (all_in-append n (table_windows (main_tables o)) (table_windows (map symbol_rows (symtabs_of o))) (main_in bytes o _ is.head tabled) (symbols_in n (symtabs_of o) (symtabs_in bytes o _ is tabled)))

-- ---- the SYMTAB sections one at a time

symtab_table : (rs : List Range) (i : ℕ) (d : Range) (w : Window) (t : Table) → w ≡ range_window (get_or rs i d) → t ≡ rows_of SymbolValue w → i < length rs → t ≡ get_or (map symbol_rows rs) i t
symtab_table rs i d w t window told lt = told ∙ ap (rows_of SymbolValue) window ∙ sym (get_or-map symbol_rows rs i d t lt)

symtab_in : (rs : List Range) (i : ℕ) → i < length rs → i < length (map symbol_rows rs)
symtab_in rs i lt = omega (arith, lt, length-map rs symbol_rows)

pub symtab_room : (n : ℕ) (rs : List Range) (i : ℕ) (d : Range) (w : Window) (t : Table) → w ≡ range_window (get_or rs i d) → t ≡ rows_of SymbolValue w → i < length rs → AllIn n (table_windows (map symbol_rows rs)) → IsIn n (table_window t)
symtab_room n rs i d w t window told lt fits =
    subst (λ (x : Table). IsIn n (table_window x)) (sym (symtab_table rs i d w t window told lt)) (windows_at n (map symbol_rows rs) i t fits (symtab_in rs i lt))

pub symtab_more : (slot : ℕ) (rs : List Range) (i : ℕ) (d : Range) (w : Window) (t : Table) (xs ys new : List ℕ) → w ≡ range_window (get_or rs i d) → t ≡ rows_of SymbolValue w → i < length rs
    → ys ≡ all_moved slot (take i (map symbol_rows rs)) xs → new ≡ moved slot t ys → new ≡ all_moved slot (take (i + 1) (map symbol_rows rs)) xs
symtab_more slot rs i d w t xs ys new window told lt is written =
    tables_more slot (map symbol_rows rs) i t xs ys new (symtab_in rs i lt) is (written ∙ ap (λ (x : Table). moved slot x ys) (symtab_table rs i d w t window told lt))

pub symtab_back : (slot : ℕ) (rs : List Range) (i : ℕ) (d : Range) (w : Window) (t : Table) (xs ys new : List ℕ) → w ≡ range_window (get_or rs (i - 1) d) → t ≡ rows_of SymbolValue w → 0 < i → i ≤ length rs
    → ys ≡ all_back slot (drop i (map symbol_rows rs)) xs → new ≡ moved (2 ^ 64 - slot) t ys → new ≡ all_back slot (drop (i - 1) (map symbol_rows rs)) xs
symtab_back slot rs i d w t xs ys new window told some le is written =
    back_more slot (map symbol_rows rs) i t xs ys new some (omega (arith, le, length-map rs symbol_rows)) is
    (written ∙ ap (λ (x : Table). moved (2 ^ 64 - slot) x ys) (symtab_table rs (i - 1) d w t window told (omega (arith, some, le))))

pub none_back : (slot : ℕ) (rs : List Range) (xs : List ℕ) → xs ≡ all_back slot (drop (length rs) (map symbol_rows rs)) xs
none_back slot rs xs =
    sym (all_back-none slot xs) ∙ ap (λ (ts : List Table). all_back slot ts xs) (sym (drop_all (length rs) (map symbol_rows rs) (omega (arith, length-map rs symbol_rows))))

-- ---- an object as a whole

pub main_part : (n : ℕ) (o : Object) → LieIn n o → AllIn n (table_windows (main_tables o))
unfolding tables_of
main_part n o fits = (all_in_parts n (table_windows (main_tables o)) (table_windows (map symbol_rows (symtabs_of o))) (subst (AllIn n) (table_windows-append (main_tables o) (map symbol_rows (symtabs_of o))) fits)).0

pub symtab_part : (n : ℕ) (o : Object) → LieIn n o → AllIn n (table_windows (map symbol_rows (symtabs_of o)))
unfolding tables_of
symtab_part n o fits = (all_in_parts n (table_windows (main_tables o)) (table_windows (map symbol_rows (symtabs_of o))) (subst (AllIn n) (table_windows-append (main_tables o) (map symbol_rows (symtabs_of o))) fits)).1

pub both_moved : (slot : ℕ) (o : Object) (ms : List Table) (rs : List Range) (xs ys new : List ℕ) → ms ≡ main_tables o → rs ≡ symtabs_of o → ys ≡ all_moved slot ms xs → new ≡ all_moved slot (map symbol_rows rs) ys
    → new ≡ all_moved slot (tables_of o) xs
unfolding tables_of
both_moved slot o ms rs xs ys new main symtabs first last =
    last ∙ ap (λ (qs : List Range). all_moved slot (map symbol_rows qs) ys) symtabs
    ∙ ap (all_moved slot (map symbol_rows (symtabs_of o))) (first ∙ ap (λ (ts : List Table). all_moved slot ts xs) main)
    ∙ sym (all_moved-append slot (main_tables o) (map symbol_rows (symtabs_of o)) xs)

pub both_back : (slot : ℕ) (o : Object) (ms : List Table) (rs : List Range) (xs ys new : List ℕ) → ms ≡ main_tables o → rs ≡ symtabs_of o → ys ≡ all_back slot (map symbol_rows rs) xs → new ≡ all_back slot ms ys
    → new ≡ all_back slot (tables_of o) xs
unfolding tables_of
both_back slot o ms rs xs ys new main symtabs first last =
    last ∙ ap (λ (ts : List Table). all_back slot ts ys) main
    ∙ ap (all_back slot (main_tables o)) (first ∙ ap (λ (qs : List Range). all_back slot (map symbol_rows qs) xs) symtabs)
    ∙ sym (all_back-append slot (main_tables o) (map symbol_rows (symtabs_of o)) xs)
