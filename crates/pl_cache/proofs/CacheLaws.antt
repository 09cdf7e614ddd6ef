-- The two laws: what is read is spelled so, and what is spelled so is read.
use Rattle.std.proofs.Common.{◌≡◌, ℕ, suc, ◌+◌, ◌^◌, ◌<◌, ◌≤◌, Bool, true, false, cond, ltb, eqb, List, [], ◌∷◌, ◌++◌, length, take, drop, Result, Ok, Err, refl, sym, ap, subst, ◌∙◌, append_assoc, arith}
use Rattle.std.specs.Prelude.{if◌then◌else◌, ◌&&◌, nat_lt, nat_le, IfOk, All}
use Rattle.std.specs.Str.{bytes_eq}
use Rattle.std.specs.List.{flat_map, list_all, AllByRecursion}
use Rattle.std.specs.Cmp.Lexicographic.{bytes_decides}
use Rattle.std.proofs.lemmas.Bool.{le-ltb, ltb-true, leb-true, eqb-true, and_parts}
use Rattle.std.proofs.lemmas.List.{take-append-drop, append-nil, nil_from_length}
use Rattle.std.proofs.lemmas.List.Elements.{All-from_recursion}
use Rattle.pl_base.specs.Answers.{◌>>=◌, Answers}
use Rattle.pl_base.specs.Bytes.{IsBytes, bytes32}
use Rattle.pl_base.specs.Sums.{is_aligned}
use Rattle.pl_base.specs.Names.{is_valid_name}
use Rattle.pl_base.proofs.NameLaws.{valid_length}
use Rattle.pl_base.proofs.WordLaws.{is_bytes_drop}
use Rattle.pl_slots.specs.declared.slot.Slot.{Slot}
use Rattle.pl_slots.specs.Apart.{are_apart}
use Rattle.pl_cache.specs.declared.cache.Cache.{Cache}
use Rattle.pl_cache.specs.declared.constants.TheConstants.{MAGIC, SHARED_MAGIC, MAX_ROWS}
use Rattle.pl_elf.specs.declared.constants.TheConstants.{PAGE, ADDRESS_LIMIT}
use Rattle.pl_cache.specs.declared.fault.CacheFault.{CacheFault}
use Rattle.pl_cache.specs.declared.fault.CacheFault.TheVariants.{BadCache}
use Rattle.pl_cache.specs.Spelling.{cache_bytes, row_bytes, is_row, is_cache, ascend, magic_of, IsCacheOf}
use Rattle.pl_cache.specs.Reading.{number32_at, rows_at, behind_magic, all_rows, fields, has_magic, checked, read, is_memory}
use Rattle.pl_base.proofs.AnswerLaws.{bind_ok, ok_same}
use Rattle.pl_cache.proofs.Fields.{passed, guard_ok, guard_then, Takes, Takes-then, number32_takes, number32_again, rows_take, rows_again, RowFits, all_fit}

-- ---- what is read

magic_takes : (bytes rest : List ℕ) → IsBytes bytes → behind_magic bytes ≡ Ok rest → Takes bytes (take 8 bytes) rest
unfolding behind_magic
magic_takes bytes rest fits e =
    let g = guard_ok (ltb (length bytes) 8) BadCache (drop 8 bytes) rest e in
    subst (Takes bytes (take 8 bytes)) g.1 (record { parts = sym (take-append-drop 8 bytes); rest_fits = is_bytes_drop 8 bytes fits })

all_rows_take : (count : ℕ) (bytes : List ℕ) (rows : List Slot) → IsBytes bytes → all_rows count bytes ≡ Ok rows → (bytes ≡ flat_map row_bytes rows) × (length rows ≡ count)
unfolding all_rows
all_rows_take count bytes rows fits e =
    let g = guard_then (ltb MAX_ROWS count) BadCache _ rows e in
    let b = bind_ok (rows_at count bytes) (λ x. cond (eqb (length x.1) 0) (Ok x.0) (Err BadCache)) rows g.1 in
    let p = passed (eqb (length b.0.1) 0) BadCache b.0.0 rows b.2 in
    let t = rows_take count bytes b.0 fits b.1 in
    let nothing : b.0.1 ≡ [] = nil_from_length b.0.1 (eqb-true _ _ p.0) in
    subst (λ (xs : List Slot). (bytes ≡ flat_map row_bytes xs) × (length xs ≡ count)) p.1 (t.0.parts ∙ ap (λ (r : List ℕ). flat_map row_bytes b.0.0 ++ r) nothing ∙ append-nil (flat_map row_bytes b.0.0), t.1)

-- the fields behind a magic
abbrev behind : List ℕ → Cache → List ℕ
behind magic cache = magic ++ bytes32 cache.last ++ bytes32 (length cache.rows) ++ flat_map row_bytes cache.rows

fields_take : (bytes : List ℕ) (cache : Cache) → IsBytes bytes → fields bytes ≡ Ok cache → bytes ≡ behind (take 8 bytes) cache
unfolding fields
fields_take bytes cache fits e =
    let a = bind_ok (behind_magic bytes) (λ stamp. number32_at stamp >>= λ last. number32_at last.1 >>= λ count. all_rows count.0 count.1 >>= λ rows. Ok (record { last = last.0; rows = rows })) cache e in
    let b = bind_ok (number32_at a.0) (λ last. number32_at last.1 >>= λ count. all_rows count.0 count.1 >>= λ rows. Ok (record { last = last.0; rows = rows })) cache a.2 in
    let c = bind_ok (number32_at b.0.1) (λ count. all_rows count.0 count.1 >>= λ rows. Ok (record { last = b.0.0; rows = rows })) cache b.2 in
    let d = bind_ok (all_rows c.0.0 c.0.1) (λ rows. Ok (record { last = b.0.0; rows = rows })) cache c.2 in
    let t0 = magic_takes bytes a.0 fits a.1 in
    let t1 = number32_takes a.0 b.0 t0.rest_fits b.1 in
    let t2 = number32_takes b.0.1 c.0 t1.rest_fits c.1 in
    let rows = all_rows_take c.0.0 c.0.1 d.0 t2.rest_fits d.1 in
    let t01 = Takes-then bytes (take 8 bytes) a.0 (bytes32 b.0.0) b.0.1 t0 t1 in
    let t02 = Takes-then bytes (take 8 bytes ++ bytes32 b.0.0) b.0.1 (bytes32 c.0.0) c.0.1 t01 t2 in
    let whole : bytes ≡ (take 8 bytes ++ bytes32 b.0.0 ++ bytes32 (length d.0)) ++ flat_map row_bytes d.0 =
    t02.parts ∙ ap (λ (r : List ℕ). (take 8 bytes ++ bytes32 b.0.0 ++ bytes32 c.0.0) ++ r) rows.0 ∙ ap (λ (k : ℕ). (take 8 bytes ++ bytes32 b.0.0 ++ bytes32 k) ++ flat_map row_bytes d.0) (sym rows.1) in
    let made : Cache = record { last = b.0.0; rows = d.0 } in
    subst (λ (y : Cache). bytes ≡ take 8 bytes ++ bytes32 y.last ++ bytes32 (length y.rows) ++ flat_map row_bytes y.rows) (ok_same made cache d.2) whole

pub read_takes : (bytes : List ℕ) (cache : Cache) → IsBytes bytes → read bytes ≡ Ok cache → (is_cache cache ≡ true) × (bytes ≡ cache_bytes cache)
unfolding read cache_bytes has_magic
read_takes bytes cache fits e =
    let a = bind_ok (fields bytes) (checked bytes) cache e in
    let p = passed (is_cache a.0 && has_magic bytes a.0) BadCache a.0 cache a.2 in
    let parts = and_parts (is_cache a.0) (has_magic bytes a.0) p.0 in
    let front : take 8 bytes ≡ magic_of a.0.rows = (bytes_decides (take 8 bytes) (magic_of a.0.rows)).0 parts.1 in
    let whole : bytes ≡ behind (magic_of a.0.rows) a.0 = fields_take bytes a.0 fits a.1 ∙ ap (λ (magic : List ℕ). behind magic a.0) front in
    subst (λ (y : Cache). (is_cache y ≡ true) × (bytes ≡ behind (magic_of y.rows) y)) p.1 (parts.0, whole)

pub is_found : (bytes : List ℕ) (r : Result Cache CacheFault) → IsBytes bytes → Answers is_memory r (read bytes) → IfOk r (IsCacheOf bytes)
is_found bytes (Ok cache) fits given =
    let taken = read_takes bytes cache fits given in
    record { in_bytes = taken.1; is_spelled = taken.0 }
is_found bytes (Err e) fits given = tt

-- ---- what is spelled

row_fits : (slot : Slot) → is_row slot ≡ true → RowFits slot
unfolding is_row
row_fits slot good =
    let p4 = and_parts (is_valid_name slot.name && is_aligned slot.start PAGE && is_aligned slot.span PAGE && nat_lt 0 slot.span) (nat_le (slot.start + slot.span) ADDRESS_LIMIT) good in
    let p3 = and_parts (is_valid_name slot.name && is_aligned slot.start PAGE && is_aligned slot.span PAGE) (nat_lt 0 slot.span) p4.0 in
    let p2 = and_parts (is_valid_name slot.name && is_aligned slot.start PAGE) (is_aligned slot.span PAGE) p3.0 in
    let p1 = and_parts (is_valid_name slot.name) (is_aligned slot.start PAGE) p2.0 in
    let end : slot.start + slot.span ≤ ADDRESS_LIMIT = leb-true (slot.start + slot.span) ADDRESS_LIMIT p4.1 in
    record { valid = p1.0; start = omega (arith, end); span = omega (arith, end) }

rows_fit : (slots : List Slot) → list_all is_row slots ≡ true → all_fit slots
rows_fit [] all = tt
rows_fit (slot ∷ slots) all =
    let parts = and_parts (is_row slot) (list_all is_row slots) all in
    (row_fits slot parts.0, rows_fit slots parts.1)

pub record CacheFits (cache : Cache) : Type 0 where
  pub last : cache.last < 2 ^ 32
  pub few : length cache.rows ≤ MAX_ROWS
  pub rows : all_fit cache.rows

pub cache_fits : (cache : Cache) → is_cache cache ≡ true → CacheFits cache
unfolding is_cache
cache_fits cache good =
    let p2 = and_parts (nat_lt cache.last (2 ^ 32) && nat_le (length cache.rows) MAX_ROWS && list_all is_row cache.rows) (ascend cache.rows) good in
    let p1 = and_parts (nat_lt cache.last (2 ^ 32) && nat_le (length cache.rows) MAX_ROWS) (list_all is_row cache.rows) p2.0 in
    let p0 = and_parts (nat_lt cache.last (2 ^ 32)) (nat_le (length cache.rows) MAX_ROWS) p1.0 in
    record { last = ltb-true cache.last (2 ^ 32) p0.0; few = leb-true (length cache.rows) MAX_ROWS p0.1; rows = rows_fit cache.rows p1.1 }

-- both kinds of magic have eight bytes
magic_front : (b : Bool) (rest : List ℕ) → (take 8 ((if b then MAGIC else SHARED_MAGIC) ++ rest) ≡ (if b then MAGIC else SHARED_MAGIC)) × (behind_magic ((if b then MAGIC else SHARED_MAGIC) ++ rest) ≡ Ok rest)
unfolding behind_magic
magic_front true rest = (refl, rw (long (length rest)) refl)
  where
    long : (n : ℕ) → ltb (suc (suc (suc (suc (suc (suc (suc (suc n)))))))) 8 ≡ false
    long n = le-ltb _ _ (omega arith)
magic_front false rest = (refl, rw (long (length rest)) refl)
  where
    long : (n : ℕ) → ltb (suc (suc (suc (suc (suc (suc (suc (suc n)))))))) 8 ≡ false
    long n = le-ltb _ _ (omega arith)

magic_taken : (rows : List Slot) (rest : List ℕ) → take 8 (magic_of rows ++ rest) ≡ magic_of rows
unfolding magic_of
magic_taken rows rest = (magic_front (are_apart rows) rest).0

magic_again : (rows : List Slot) (rest : List ℕ) → behind_magic (magic_of rows ++ rest) ≡ Ok rest
unfolding magic_of
magic_again rows rest = (magic_front (are_apart rows) rest).1

all_rows_again : (rows : List Slot) → length rows ≤ MAX_ROWS → all_fit rows → all_rows (length rows) (flat_map row_bytes rows) ≡ Ok rows
unfolding all_rows
all_rows_again rows few fits =
    let long : ltb MAX_ROWS (length rows) ≡ false = le-ltb _ _ few in
    let read_again : rows_at (length rows) (flat_map row_bytes rows) ≡ Ok (rows, []) = ap (rows_at (length rows)) (sym (append-nil (flat_map row_bytes rows))) ∙ rows_again rows [] fits in
    rw (long, read_again) refl

regrouped : (cache : Cache) → cache_bytes cache ≡ magic_of cache.rows ++ (bytes32 cache.last ++ (bytes32 (length cache.rows) ++ flat_map row_bytes cache.rows))
unfolding cache_bytes
regrouped cache =
    append_assoc (magic_of cache.rows ++ bytes32 cache.last) (bytes32 (length cache.rows)) (flat_map row_bytes cache.rows) ∙ append_assoc (magic_of cache.rows) (bytes32 cache.last) (bytes32 (length cache.rows) ++ flat_map row_bytes cache.rows)

-- the first eight bytes are the magic
magic_there : (cache : Cache) → has_magic (cache_bytes cache) cache ≡ true
unfolding has_magic
magic_there cache = (bytes_decides (take 8 (cache_bytes cache)) (magic_of cache.rows)).1 (ap (take 8) (regrouped cache) ∙ magic_taken cache.rows (bytes32 cache.last ++ (bytes32 (length cache.rows) ++ flat_map row_bytes cache.rows)))

fields_again : (cache : Cache) → CacheFits cache → fields (cache_bytes cache) ≡ Ok cache
unfolding fields
fields_again cache fits =
    let rows = flat_map row_bytes cache.rows in
    let count = bytes32 (length cache.rows) in
    ap fields (regrouped cache) ∙ rw (magic_again cache.rows (bytes32 cache.last ++ (count ++ rows)), number32_again cache.last (count ++ rows) fits.last, number32_again (length cache.rows) rows (omega (arith, fits.few)), all_rows_again cache.rows fits.few fits.rows) refl

pub read_again : (cache : Cache) → is_cache cache ≡ true → read (cache_bytes cache) ≡ Ok cache
unfolding read
read_again cache good = rw (fields_again cache (cache_fits cache good), good, magic_there cache) refl

pub is_read : (bytes : List ℕ) (cache : Cache) → IsCacheOf bytes cache → read bytes ≡ Ok cache
is_read bytes cache of = ap read of.in_bytes ∙ read_again cache of.is_spelled

pub is_one : (bytes : List ℕ) (cache other : Cache) → IsCacheOf bytes cache → IsCacheOf bytes other → cache ≡ other
is_one bytes cache other one two = ok_same cache other (sym (is_read bytes cache one) ∙ is_read bytes other two)

-- ---- what a writer needs

names_short : (slots : List Slot) → all_fit slots → AllByRecursion (λ slot. length slot.name < 2 ^ 8) slots
names_short [] fits = tt
names_short (slot ∷ slots) fits = (omega (arith, (valid_length slot.name fits.0.valid).1), names_short slots fits.1)

pub name_short : (cache : Cache) → is_cache cache ≡ true → All (λ slot. length slot.name < 2 ^ 8) cache.rows
name_short cache good = All-from_recursion (λ slot. length slot.name < 2 ^ 8) cache.rows (names_short cache.rows (cache_fits cache good).rows)

pub few_rows : (cache : Cache) → is_cache cache ≡ true → length cache.rows ≤ MAX_ROWS
few_rows cache good = (cache_fits cache good).few
