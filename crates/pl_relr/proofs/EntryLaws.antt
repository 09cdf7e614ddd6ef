-- The entries of a table, and the table of entries.
use Rattle.std.proofs.Common.{◌≡◌, ℕ, zero, suc, ◌+◌, ◌*◌, ◌^◌, ◌<◌, List, [], ◌∷◌, ◌++◌, length, drop, map, get_or, refl, sym, ap, ◌∙◌, append_assoc, arith, length-append, length-drop}
use Rattle.std.specs.List.{range_with_len}
use Rattle.std.proofs.lemmas.List.FromFn.{length-map-range_with_len, get_or-map-range_with_len, fill_by_all}
use Rattle.pl_base.specs.Bytes.{IsBytes, word64, bytes64}
use Rattle.pl_base.proofs.WordLaws.{length_bytes64, word64_below, word64_back, word64_behind, split64}
use Rattle.pl_relr.specs.declared.entries.TheConstants.{ENTRY_SIZE}
use Rattle.pl_relr.specs.Entries.{entry, entry_count, entries, table_of}

-- each entry is a word of 64 bits
abbrev pub AreWords : List ℕ → Type 0
AreWords es = (i : ℕ) → i < length es → get_or es i 0 < 2 ^ 64

-- how many entries there are
pub length-entries : (table : List ℕ) → length (entries table) ≡ entry_count table
unfolding entries
length-entries table = length-map-range_with_len (entry table) 0 (entry_count table)

-- the entry at an index
pub get_or-entries : (table : List ℕ) (i d : ℕ) → i < entry_count table → get_or (entries table) i d ≡ entry table i
unfolding entries
get_or-entries table i d lt = get_or-map-range_with_len (entry table) 0 (entry_count table) i i d lt (omega arith)

-- entries of bytes are words
pub entries_are_words : (table : List ℕ) → IsBytes table → AreWords (entries table)
entries_are_words table bytes i lt =
    rw (get_or-entries table i 0 (omega (arith, lt, length-entries table))) (word64_below (ENTRY_SIZE * i) table bytes)

-- how many bytes entries have
pub length-table_of : (es : List ℕ) → length (table_of es) ≡ ENTRY_SIZE * length es
unfolding table_of
length-table_of [] = refl
length-table_of (e ∷ es) = length-append (bytes64 e) (table_of es) ∙ omega (arith, length_bytes64 e, length-table_of es)

-- the table of two lists of entries
pub table_of-append : (es fs : List ℕ) → table_of (es ++ fs) ≡ table_of es ++ table_of fs
unfolding table_of
table_of-append [] fs = refl
table_of-append (e ∷ es) fs = ap (λ (rest : List ℕ). bytes64 e ++ rest) (table_of-append es fs) ∙ sym (append_assoc (bytes64 e) (table_of es) (table_of fs))

-- an entry of the table of entries
pub entry-table_of : (es tail : List ℕ) (k : ℕ) → AreWords es → k < length es → entry (table_of es ++ tail) k ≡ get_or es k 0
unfolding table_of
entry-table_of [] tail k words lt = absurd (omega arith)
entry-table_of (e ∷ es) tail zero words lt =
    ap (word64 0) (append_assoc (bytes64 e) (table_of es) tail) ∙ word64_back e (table_of es ++ tail) (words 0 lt)
entry-table_of (e ∷ es) tail (suc k) words lt =
    let at : ENTRY_SIZE * suc k ≡ length (bytes64 e) + ENTRY_SIZE * k = omega (arith, length_bytes64 e) in
    ap (word64 (ENTRY_SIZE * suc k)) (append_assoc (bytes64 e) (table_of es) tail)
    ∙ ap (λ (n : ℕ). word64 n (bytes64 e ++ (table_of es ++ tail))) at
    ∙ word64_behind (bytes64 e) (table_of es ++ tail) (ENTRY_SIZE * k)
    ∙ entry-table_of es tail k (λ i below. words (suc i) (omega arith)) (omega arith)

-- how many entries the table of entries has
pub count-table_of : (es tail : List ℕ) → length tail < ENTRY_SIZE → entry_count (table_of es ++ tail) ≡ length es
count-table_of es tail short = omega (arith, length-append (table_of es) tail, length-table_of es, short)

-- the entries of the table of entries
pub entries-table_of : (es tail : List ℕ) → AreWords es → length tail < ENTRY_SIZE → entries (table_of es ++ tail) ≡ es
unfolding entries
entries-table_of es tail words short =
    let count = count-table_of es tail short in
    sym (fill_by_all (entry (table_of es ++ tail)) es (entry_count (table_of es ++ tail)) 0 (sym count) (λ k lt. sym (entry-table_of es tail k words (omega (arith, count, lt)))))

-- the bytes from an entry on
pub split_entry : (table : List ℕ) (i : ℕ) → IsBytes table → i < entry_count table → drop (ENTRY_SIZE * i) table ≡ bytes64 (entry table i) ++ drop (ENTRY_SIZE * (i + 1)) table
split_entry table i bytes lt = split64 (ENTRY_SIZE * i) (ENTRY_SIZE * (i + 1)) table bytes (omega arith) (omega arith)

from_entry : (table : List ℕ) (n i : ℕ) → IsBytes table → i + n ≡ entry_count table
    → table_of (map (entry table) (range_with_len i n)) ++ drop (ENTRY_SIZE * entry_count table) table ≡ drop (ENTRY_SIZE * i) table
unfolding table_of
from_entry table zero i bytes is = ap (λ (k : ℕ). drop (ENTRY_SIZE * k) table) (omega arith)
from_entry table (suc n) i bytes is =
    let rest = table_of (map (entry table) (range_with_len (i + 1) n)) in
    append_assoc (bytes64 (entry table i)) rest (drop (ENTRY_SIZE * entry_count table) table)
    ∙ ap (λ (xs : List ℕ). bytes64 (entry table i) ++ xs) (from_entry table n (i + 1) bytes (omega arith))
    ∙ sym (split_entry table i bytes (omega arith))

-- a table is its entries and the bytes after the last one
pub table_whole : (table : List ℕ) → IsBytes table → table_of (entries table) ++ drop (ENTRY_SIZE * entry_count table) table ≡ table
unfolding entries
table_whole table bytes = from_entry table (entry_count table) 0 bytes (omega arith)

-- fewer bytes than an entry has stand after the last one
pub tail_short : (table : List ℕ) → length (drop (ENTRY_SIZE * entry_count table) table) < ENTRY_SIZE
tail_short table = omega (arith, length-drop (ENTRY_SIZE * entry_count table) table)
