-- How a table's entries move, and what it then names.
use Rattle.std.proofs.Common.{◌≡◌, ℕ, zero, suc, ◌+◌, ◌-◌, ◌*◌, ◌%◌, ◌^◌, ◌<◌, ◌≤◌, List, [], ◌∷◌, ◌++◌, length, take, drop, map, get_or, refl, sym, ap, ◌∙◌, append_assoc, arith, length-append, true, false, inl, inr}
use Rattle.std.proofs.Math.Seq.{drop-append-add}
use Rattle.std.proofs.lemmas.Bool.{cases_Bool, not-false, eqb-true, eq-eqb}
use Rattle.std.proofs.lemmas.List.{append-nil, length-take-le, drop_at, take_at, take_all, take_more, drop-drop, map-append, length-map}
use Rattle.std.proofs.lemmas.List.FromFn.{fill_by_all}
use Rattle.std.specs.List.{filter}
use Rattle.pl_base.specs.Bytes.{IsBytes, word64, bytes64, put}
use Rattle.pl_base.specs.Sums.{plus}
use Rattle.pl_base.proofs.WordLaws.{length_bytes64, word64_behind, word64_front}
use Rattle.pl_relr.specs.declared.entries.TheConstants.{ENTRY_SIZE}
use Rattle.pl_relr.specs.Entries.{entry, entry_count, entries, table_of, is_even}
use Rattle.pl_relr.specs.Places.{place_bits, odd_places, place_of_bit, has_bit, entry_places, following, places_from, places, begins_odd}
use Rattle.pl_relr.specs.Moved.{moved_entry, moved}
use Rattle.pl_relr.proofs.EntryLaws.{AreWords, length-entries, get_or-entries, entries_are_words, length-table_of, table_of-append, count-table_of, entries-table_of, table_whole, tail_short}

-- ---- the loop over entries

-- the table as far as it has moved
abbrev pub part_moved : ℕ → List ℕ → ℕ → List ℕ
part_moved more table i = table_of (map (moved_entry more) (take i (entries table))) ++ drop (ENTRY_SIZE * i) table

length-front : (more : ℕ) (table : List ℕ) (i : ℕ) → i ≤ entry_count table → length (table_of (map (moved_entry more) (take i (entries table)))) ≡ ENTRY_SIZE * i
length-front more table i le =
    length-table_of (map (moved_entry more) (take i (entries table)))
    ∙ ap (λ (n : ℕ). ENTRY_SIZE * n) (length-map (take i (entries table)) (moved_entry more) ∙ length-take-le i (entries table) (omega (arith, le, length-entries table)))

-- the next entry stands where it stood
pub entry_left : (more : ℕ) (table : List ℕ) (i : ℕ) → i < entry_count table → entry (part_moved more table i) i ≡ entry table i
unfolding word64
entry_left more table i lt =
    let front = table_of (map (moved_entry more) (take i (entries table))) in
    let at : ENTRY_SIZE * i ≡ length front + 0 = omega (arith, length-front more table i (omega arith)) in
    ap (λ (n : ℕ). word64 n (front ++ drop (ENTRY_SIZE * i) table)) at ∙ word64_behind front (drop (ENTRY_SIZE * i) table) 0

-- one entry more has moved
pub moved_more : (more : ℕ) (table : List ℕ) (i new : ℕ) → i < entry_count table → new ≡ moved_entry more (entry table i) → put (ENTRY_SIZE * i) (bytes64 new) (part_moved more table i) ≡ part_moved more table (i + 1)
unfolding put table_of
moved_more more table i new lt is =
    let es = entries table in
    let front = table_of (map (moved_entry more) (take i es)) in
    let rest = drop (ENTRY_SIZE * i) table in
    let size = length-front more table i (omega arith) in
    let next : ENTRY_SIZE * i + length (bytes64 new) ≡ length front + ENTRY_SIZE = omega (arith, size, length_bytes64 new) in
    let behind : drop (ENTRY_SIZE * i + length (bytes64 new)) (front ++ rest) ≡ drop (ENTRY_SIZE * (i + 1)) table =
    ap (λ (n : ℕ). drop n (front ++ rest)) next ∙ drop-append-add front rest ENTRY_SIZE ∙ drop-drop ENTRY_SIZE (ENTRY_SIZE * i) table ∙ ap (λ (n : ℕ). drop n table) (omega arith) in
    let one : table_of (map (moved_entry more) (take (i + 1) es)) ≡ front ++ bytes64 new =
    ap (λ (xs : List ℕ). table_of (map (moved_entry more) xs)) (take_more es i (entry table i) (omega (arith, lt, length-entries table)))
    ∙ ap table_of (map-append (moved_entry more) (take i es) (get_or es i (entry table i) ∷ []))
    ∙ table_of-append (map (moved_entry more) (take i es)) (moved_entry more (get_or es i (entry table i)) ∷ [])
    ∙ ap (λ (x : ℕ). front ++ (bytes64 (moved_entry more x) ++ [])) (get_or-entries table i (entry table i) lt)
    ∙ ap (λ (xs : List ℕ). front ++ xs) (append-nil (bytes64 (moved_entry more (entry table i))) ∙ ap bytes64 (sym is)) in
    ap (λ (xs : List ℕ). xs ++ bytes64 new ++ drop (ENTRY_SIZE * i + length (bytes64 new)) (front ++ rest)) (take_at front rest (ENTRY_SIZE * i) size)
    ∙ ap (λ (xs : List ℕ). front ++ bytes64 new ++ xs) behind
    ∙ ap (λ (xs : List ℕ). xs ++ drop (ENTRY_SIZE * (i + 1)) table) (sym one)

-- nothing has moved
pub moved_none : (more : ℕ) (table : List ℕ) → table ≡ part_moved more table 0
unfolding table_of
moved_none more table = refl

-- all entries have moved
pub moved_done : (more : ℕ) (table : List ℕ) (i : ℕ) → i ≡ entry_count table → part_moved more table i ≡ moved more table
unfolding moved
moved_done more table i is =
    ap (λ (n : ℕ). part_moved more table n) is
    ∙ ap (λ (xs : List ℕ). table_of (map (moved_entry more) xs) ++ drop (ENTRY_SIZE * entry_count table) table) (take_all (entry_count table) (entries table) (omega (arith, length-entries table)))

-- ---- the entries of a moved table

moved_entry_below : (more e : ℕ) → e < 2 ^ 64 → moved_entry more e < 2 ^ 64
unfolding moved_entry
moved_entry_below more e small = elim (cases_Bool (is_even e)) [
  | inl even ↦ rw even (omega arith)
  | inr odd ↦ rw odd small
]

moved_are_words : (more : ℕ) (es : List ℕ) → AreWords es → AreWords (map (moved_entry more) es)
moved_are_words more [] words i lt = absurd (omega arith)
moved_are_words more (e ∷ es) words zero lt = moved_entry_below more e (words 0 (omega arith))
moved_are_words more (e ∷ es) words (suc i) lt = moved_are_words more es (λ k below. words (suc k) (omega arith)) i (omega arith)

pub entries-moved : (more : ℕ) (table : List ℕ) → IsBytes table → entries (moved more table) ≡ map (moved_entry more) (entries table)
unfolding moved
entries-moved more table bytes =
    entries-table_of (map (moved_entry more) (entries table)) (drop (ENTRY_SIZE * entry_count table) table) (moved_are_words more (entries table) (entries_are_words table bytes)) (tail_short table)

pub count-moved : (more : ℕ) (table : List ℕ) → entry_count (moved more table) ≡ entry_count table
unfolding moved
count-moved more table =
    count-table_of (map (moved_entry more) (entries table)) (drop (ENTRY_SIZE * entry_count table) table) (tail_short table)
    ∙ length-map (entries table) (moved_entry more) ∙ length-entries table

get_or-map : (f : ℕ → ℕ) (xs : List ℕ) (i : ℕ) → i < length xs → get_or (map f xs) i 0 ≡ f (get_or xs i 0)
get_or-map f [] i lt = absurd (omega arith)
get_or-map f (x ∷ xs) zero lt = refl
get_or-map f (x ∷ xs) (suc i) lt = get_or-map f xs i (omega arith)

-- each entry of a moved table
pub entry-moved : (more : ℕ) (table : List ℕ) (i : ℕ) → IsBytes table → i < entry_count table → entry (moved more table) i ≡ moved_entry more (entry table i)
entry-moved more table i bytes lt =
    let n = length-entries table in
    sym (get_or-entries (moved more table) i 0 (omega (arith, lt, count-moved more table)))
    ∙ ap (λ (es : List ℕ). get_or es i 0) (entries-moved more table bytes)
    ∙ get_or-map (moved_entry more) (entries table) i (omega (arith, lt, n))
    ∙ ap (moved_entry more) (get_or-entries table i 0 lt)

-- ---- back again

pub moved_entry_back : (slot e : ℕ) → slot % 2 ≡ 0 → slot ≤ 2 ^ 64 → e < 2 ^ 64 → moved_entry (2 ^ 64 - slot) (moved_entry slot e) ≡ e
unfolding moved_entry
moved_entry_back slot e even small word = elim (cases_Bool (is_even e)) [
  | inl even_e ↦
      let parity : e % 2 ≡ 0 = eqb-true (e % 2) 0 even_e in
      let still : is_even (plus e slot) ≡ true = eq-eqb (plus e slot % 2) 0 (omega arith) in
      rw even_e (rw still (omega arith))
  | inr odd_e ↦ rw odd_e (rw odd_e refl)
]

all_back : (slot : ℕ) (es : List ℕ) → slot % 2 ≡ 0 → slot ≤ 2 ^ 64 → AreWords es → map (moved_entry (2 ^ 64 - slot)) (map (moved_entry slot) es) ≡ es
all_back slot [] even small words = refl
all_back slot (e ∷ es) even small words =
    ap (λ (x : ℕ). x ∷ map (moved_entry (2 ^ 64 - slot)) (map (moved_entry slot) es)) (moved_entry_back slot e even small (words 0 (omega arith)))
    ∙ ap (λ (xs : List ℕ). e ∷ xs) (all_back slot es even small (λ i lt. words (suc i) (omega arith)))

pub moved_back : (slot : ℕ) (table : List ℕ) → slot % 2 ≡ 0 → slot ≤ 2 ^ 64 → IsBytes table → moved (2 ^ 64 - slot) (moved slot table) ≡ table
unfolding moved
moved_back slot table even small bytes =
    let es = entries table in
    let tail = drop (ENTRY_SIZE * entry_count table) table in
    let there = table_of (map (moved_entry slot) es) in
    let size : ENTRY_SIZE * entry_count (there ++ tail) ≡ length there = omega (arith, count-moved slot table, length-table_of (map (moved_entry slot) es), length-map es (moved_entry slot), length-entries table) in
    ap (λ (xs : List ℕ). table_of (map (moved_entry (2 ^ 64 - slot)) xs) ++ drop (ENTRY_SIZE * entry_count (there ++ tail)) (there ++ tail)) (entries-moved slot table bytes)
    ∙ ap (λ (xs : List ℕ). table_of xs ++ drop (ENTRY_SIZE * entry_count (there ++ tail)) (there ++ tail)) (all_back slot es even small (entries_are_words table bytes))
    ∙ ap (λ (xs : List ℕ). table_of es ++ xs) (drop_at there tail (ENTRY_SIZE * entry_count (there ++ tail)) (sym size))
    ∙ table_whole table bytes

-- ---- the places of a moved table

abbrev up : ℕ → ℕ → ℕ
up more place = plus place more

odd-moved : (more next e : ℕ) (ks : List ℕ) → map (place_of_bit (plus next more)) ks ≡ map (up more) (map (place_of_bit next) ks)
odd-moved more next e [] = refl
odd-moved more next e (k ∷ ks) =
    let one : place_of_bit (plus next more) k ≡ up more (place_of_bit next k) = omega arith in
    ap (λ (x : ℕ). x ∷ map (place_of_bit (plus next more)) ks) one ∙ ap (λ (xs : List ℕ). up more (place_of_bit next k) ∷ xs) (odd-moved more next e ks)

even-moved : (more e : ℕ) → more % 2 ≡ 0 → is_even e ≡ true → is_even (plus e more) ≡ true
even-moved more e even even_e =
    let parity : e % 2 ≡ 0 = eqb-true (e % 2) 0 even_e in
    eq-eqb (plus e more % 2) 0 (omega arith)

entry_places-moved : (more next e : ℕ) → more % 2 ≡ 0 → entry_places (plus next more) (moved_entry more e) ≡ map (up more) (entry_places next e)
unfolding entry_places moved_entry odd_places
entry_places-moved more next e even = elim (cases_Bool (is_even e)) [
  | inl even_e ↦ rw even_e (rw (even-moved more e even even_e) refl)
  | inr odd_e ↦ rw odd_e (rw odd_e (odd-moved more next e (filter (has_bit e) (place_bits))))
]

following-moved : (more next e : ℕ) → more % 2 ≡ 0 → following (plus next more) (moved_entry more e) ≡ plus (following next e) more
unfolding following moved_entry
following-moved more next e even = elim (cases_Bool (is_even e)) [
  | inl even_e ↦ rw even_e (rw (even-moved more e even even_e) (omega arith))
  | inr odd_e ↦ rw odd_e (rw odd_e (omega arith))
]

places_from-moved : (more next : ℕ) (es : List ℕ) → more % 2 ≡ 0 → places_from (plus next more) (map (moved_entry more) es) ≡ map (up more) (places_from next es)
unfolding places_from
places_from-moved more next [] even = refl
places_from-moved more next (e ∷ es) even =
    ap (λ (xs : List ℕ). xs ++ places_from (following (plus next more) (moved_entry more e)) (map (moved_entry more) es)) (entry_places-moved more next e even)
    ∙ ap (λ (n : ℕ). map (up more) (entry_places next e) ++ places_from n (map (moved_entry more) es)) (following-moved more next e even)
    ∙ ap (λ (xs : List ℕ). map (up more) (entry_places next e) ++ xs) (places_from-moved more (following next e) es even)
    ∙ sym (map-append (up more) (entry_places next e) (places_from (following next e) es))

-- the next place before an even entry does not count
even_first : (next next' e : ℕ) (es : List ℕ) → is_even e ≡ true → places_from next (e ∷ es) ≡ places_from next' (e ∷ es)
unfolding places_from entry_places following
even_first next next' e es even_e = rw even_e refl

from_start : (more : ℕ) (es : List ℕ) → more % 2 ≡ 0 → begins_odd es ≡ false → places_from 0 (map (moved_entry more) es) ≡ map (up more) (places_from 0 es)
unfolding places_from moved_entry
from_start more [] even first = refl
from_start more (e ∷ es) even first =
    let even_e : is_even e ≡ true = not-false (is_even e) first in
    let still : is_even (moved_entry more e) ≡ true = rw even_e (even-moved more e even even_e) in
    even_first 0 (plus 0 more) (moved_entry more e) (map (moved_entry more) es) still ∙ places_from-moved more 0 (e ∷ es) even

-- a moved table names each place moved
pub places-moved : (more : ℕ) (table : List ℕ) → more % 2 ≡ 0 → IsBytes table → begins_odd (entries table) ≡ false → places (moved more table) ≡ map (up more) (places table)
unfolding places
places-moved more table even bytes first = ap (places_from 0) (entries-moved more table bytes) ∙ from_start more (entries table) even first

-- ---- a moved table, row after row

entries-row : (row rest : List ℕ) → length row ≡ ENTRY_SIZE → entries (row ++ rest) ≡ word64 0 row ∷ entries rest
unfolding entries
entries-row row rest size =
    let t = row ++ rest in
    let count : entry_count t ≡ suc (entry_count rest) = omega (arith, length-append row rest, size) in
    let len : length (word64 0 row ∷ entries rest) ≡ entry_count t = omega (arith, count, length-entries rest) in
    sym (fill_by_all (entry t) (word64 0 row ∷ entries rest) (entry_count t) 0 len (row_at row rest size))
  where
    row_at : (row rest : List ℕ) → length row ≡ ENTRY_SIZE → (k : ℕ) → k < entry_count (row ++ rest) → get_or (word64 0 row ∷ entries rest) k 0 ≡ entry (row ++ rest) k
    row_at row rest size zero lt = sym (word64_front 0 row rest (omega (arith, size)))
    row_at row rest size (suc k) lt =
        let at : ENTRY_SIZE * suc k ≡ length row + ENTRY_SIZE * k = omega (arith, size) in
        get_or-entries rest k 0 (omega (arith, lt, length-append row rest, size))
        ∙ sym (word64_behind row rest (ENTRY_SIZE * k))
        ∙ sym (ap (λ (n : ℕ). word64 n (row ++ rest)) at)

-- the first row's entry moves, and so do the others
pub moved-row : (more : ℕ) (row rest : List ℕ) → length row ≡ ENTRY_SIZE → moved more (row ++ rest) ≡ bytes64 (moved_entry more (word64 0 row)) ++ moved more rest
unfolding moved table_of
moved-row more row rest size =
    let t = row ++ rest in
    let e = moved_entry more (word64 0 row) in
    let es = map (moved_entry more) (entries rest) in
    let at : ENTRY_SIZE * entry_count t ≡ length row + ENTRY_SIZE * entry_count rest = omega (arith, length-append row rest, size) in
    ap (λ (xs : List ℕ). table_of (map (moved_entry more) xs) ++ drop (ENTRY_SIZE * entry_count t) t) (entries-row row rest size)
    ∙ ap (λ (n : ℕ). table_of (e ∷ es) ++ drop n t) at
    ∙ ap (λ (xs : List ℕ). table_of (e ∷ es) ++ xs) (drop-append-add row rest (ENTRY_SIZE * entry_count rest))
    ∙ append_assoc (bytes64 e) (table_of es) (drop (ENTRY_SIZE * entry_count rest) rest)
