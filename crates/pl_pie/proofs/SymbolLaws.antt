-- The symbols and the relocations of tables whose rows moved are those of the fixed program.
use Rattle.std.proofs.Common.{◌≡◌, ℕ, zero, suc, ◌+◌, ◌*◌, ◌/◌, ◌%◌, ◌<◌, ◌≤◌, Bool, List, [], ◌∷◌, length, map, Option, Some, None, Result, Ok, refl, sym, ap, subst, ◌∙◌, arith, inl, inr}
use Rattle.std.specs.Prelude.{◌==◌, slice_get, if◌then◌else◌}
use Rattle.std.specs.List.{range_with_len}
use Rattle.std.specs.Option.{option_map}
use Rattle.std.proofs.lemmas.Bool.{cases_Bool}
use Rattle.std.proofs.lemmas.Option.{slice_get-map}
use Rattle.pl_base.specs.Bytes.{IsBytes, part, word32, word64}
use Rattle.pl_base.specs.Each.{each}
use Rattle.pl_base.specs.Strings.{string_at}
use Rattle.pl_base.proofs.AnswerLaws.{bind_ok, ok_same}
use Rattle.pl_base.proofs.WindowLaws.{part_byte, length-part}
use Rattle.pl_base.proofs.WordLaws.{word16_part, word32_part, word64_part, is_bytes_part}
use Rattle.pl_sym.specs.Symbol.{is_tls, is_undefined, is_local, is_in_section}
use Rattle.pl_sym.specs.Definers.{is_canonical}
use Rattle.pl_sym.specs.Table.{named, symbol_at, symbol, symbols}
use Rattle.pl_sym.specs.declared.symbol.Symbol.{Symbol}
use Rattle.pl_ver.specs.declared.versions.Versions.{Versions}
use Rattle.pl_move.specs.Moves.{row_moved}
use Rattle.pl_move.specs.declared.kind.RowKind.TheVariants.{RelocationPlace, RelativeAddend}
use Rattle.pl_object.specs.Names.{with_version, with_versions, versioned}
use Rattle.pl_object.specs.Relocations.{size_of, width, reloc_at, reloc, relocs}
use Rattle.law_fixed.specs.Fixed.{moves, fixed_symbol, fixed_reloc}
use Rattle.law_fixed.proofs.LookupLaws.{size_kept}
use Rattle.pl_pie.specs.Words.{passes, is_address}
use Rattle.pl_pie.proofs.RowOfLaws.{of_row, symbol_row, symbol_moved, symbol_name, reloc_moved, range_same, range_mapped}

-- ---- answers one after the other

pub each_moved : {B E : Type 0} (f g : ℕ → Result B E) (h : B → B) (j m : ℕ) (ys : List B) → each f (range_with_len j m) ≡ Ok ys
    → ((i : ℕ) (y : B) → i < m → f (j + i) ≡ Ok y → slice_get ys i ≡ Some y → g (j + i) ≡ Ok (h y)) → each g (range_with_len j m) ≡ Ok (map h ys)
unfolding each
each_moved f g h j zero ys e moves_each = ap (λ (zs : List _). Ok (map h zs)) (ok_same [] ys e)
each_moved f g h j (suc m) ys e moves_each =
    let first = bind_ok (f j) _ ys e in
    let rest = bind_ok (each f (range_with_len (j + 1) m)) (λ zs. Ok (first.0 ∷ zs)) ys first.2 in
    let whole : first.0 ∷ rest.0 ≡ ys = ok_same _ ys rest.2 in
    let start : j + 0 ≡ j = omega arith in
    let one : g j ≡ Ok (h first.0) = subst (λ (i : ℕ). g i ≡ Ok (h first.0)) start (moves_each 0 first.0 (omega arith) (ap f start ∙ first.1) (ap (λ (zs : List _). slice_get zs 0) (sym whole))) in
    let others : each g (range_with_len (j + 1) m) ≡ Ok (map h rest.0) =
    each_moved f g h (j + 1) m rest.0 rest.1 (λ i y lt is there.
    let up : j + suc i ≡ j + 1 + i = omega arith in
    subst (λ (k : ℕ). g k ≡ Ok (h y)) up (moves_each (suc i) y (omega (arith, lt)) (ap f up ∙ is) (ap (λ (zs : List _). slice_get zs (suc i)) (sym whole) ∙ there))) in
    rw (one, others) (ap (λ (zs : List _). Ok (map h zs)) whole)

-- ---- one symbol by its row

named_by : (at : ℕ) (r : List ℕ) (m : Option (List ℕ)) → named r 0 m ≡ named r 0 m
named_by at r m = refl

symbol_part : (at : ℕ) (table strings : List ℕ) → at + 24 ≤ length table → symbol_at (part at 24 table) strings 0 ≡ symbol_at table strings at
unfolding symbol_at
symbol_part at table strings fits =
    let start : at + 0 ≡ at = omega arith in
    ap (λ (n : ℕ). named (part at 24 table) 0 (string_at n strings)) (word32_part at 24 0 table (omega arith) ∙ ap (λ (k : ℕ). word32 k table) start) ∙ by (string_at (word32 at table) strings)
  where
    by : (m : Option (List ℕ)) → named (part at 24 table) 0 m ≡ named table at m
    by None = refl
    by (Some name) =
        rw (word64_part at 24 8 table (omega arith), word64_part at 24 16 table (omega arith), part_byte at 24 table 4 (omega arith), part_byte at 24 table 5 (omega arith), word16_part at 24 6 table (omega arith)) refl

-- the answer for a row that moved
row_answer : (w : ℕ) (r strings : List ℕ) (address : Bool) (y : Symbol) → length r ≡ 24 → IsBytes r → symbol_at r strings 0 ≡ Ok y → is_address y ≡ address → symbol_at (symbol_row w address r) strings 0 ≡ Ok (fixed_symbol w y)
unfolding symbol_at
row_answer w r strings address y n bytes is told = ap (λ (k : ℕ). named (symbol_row w address r) 0 (string_at k strings)) (symbol_name w address r n) ∙ by (string_at (word32 0 r) strings) is
  where
    by : (m : Option (List ℕ)) → named r 0 m ≡ Ok y → named (symbol_row w address r) 0 m ≡ Ok (fixed_symbol w y)
    by None e = absurd cc
    by (Some name) e =
        let same : of_row r name ≡ y = ok_same (of_row r name) y e in
        let flag : address ≡ is_address (of_row r name) = sym told ∙ ap is_address (sym same) in
        ap (λ (b : Bool). Ok (of_row (symbol_row w b r) name)) flag ∙ ap (λ (s : Symbol). Ok s) (symbol_moved w r name n bytes ∙ ap (fixed_symbol w) same)

-- ---- the symbol table

pub symbols_moved : (w : ℕ) (old new strings : List ℕ) (q : ℕ → Bool) (bare : List Symbol) → length new ≡ length old → length old % 24 ≡ 0 → IsBytes old
    → ((i : ℕ) → i < length old / 24 → part (24 * i) 24 new ≡ symbol_row w (q i) (part (24 * i) 24 old)) → ((i : ℕ) (y : Symbol) → slice_get bare i ≡ Some y → is_address y ≡ q i)
    → symbols old strings ≡ Ok bare → symbols new strings ≡ Ok (map (fixed_symbol w) bare)
unfolding symbols
symbols_moved w old new strings q bare size whole bytes rows told e =
    ap (λ (n : ℕ). each (symbol new strings) (range_with_len 0 (n / 24))) size
    ∙ each_moved (symbol old strings) (symbol new strings) (fixed_symbol w) 0 (length old / 24) bare e (λ i y lt is there.
    let here : 0 + i ≡ i = omega arith in
    let room : 24 * i + 24 ≤ length old = omega (arith, lt, whole) in
    subst (λ (k : ℕ). symbol new strings k ≡ Ok (fixed_symbol w y)) (sym here)
    (sym (symbol_part (24 * i) new strings (omega (arith, room, size))) ∙ ap (λ (r : List ℕ). symbol_at r strings 0) (rows i lt)
    ∙ row_answer w (part (24 * i) 24 old) strings (q i) y (length-part (24 * i) 24 old room) (is_bytes_part (24 * i) 24 old bytes) (symbol_part (24 * i) old strings room ∙ ap (symbol old strings) (sym here) ∙ is) (told i y there)))

-- ---- with their versions

address_versioned : (s : Symbol) (word : ℕ) → is_address (with_version s word) ≡ is_address s
unfolding is_address is_tls is_canonical is_undefined is_local
address_versioned s word = refl

pub versions_told : (bare : List Symbol) (known : Option Versions) (i : ℕ) → passes is_address (slice_get (versioned bare known) i) ≡ passes is_address (slice_get bare i)
unfolding with_versions
versions_told bare None i = refl
versions_told bare (Some versions) i = by bare versions.index i
  where
    by : (ss : List Symbol) (words : List ℕ) (i : ℕ) → passes is_address (slice_get (with_versions ss words) i) ≡ passes is_address (slice_get ss i)
    by [] words i = refl
    by (s ∷ ss) [] i = refl
    by (s ∷ ss) (word ∷ words) zero = address_versioned s word
    by (s ∷ ss) (word ∷ words) (suc i) = by ss words i

version_moved : (w : ℕ) (s : Symbol) (word : ℕ) → with_version (fixed_symbol w s) word ≡ fixed_symbol w (with_version s word)
unfolding fixed_symbol moves is_tls is_in_section is_canonical is_undefined is_local
version_moved w s word = elim (cases_Bool (moves s)) [
  | inl hit ↦ rw hit refl
  | inr miss ↦ rw miss refl
]

pub versioned_moved : (w : ℕ) (bare : List Symbol) (known : Option Versions) → versioned (map (fixed_symbol w) bare) known ≡ map (fixed_symbol w) (versioned bare known)
unfolding with_versions
versioned_moved w bare None = refl
versioned_moved w bare (Some versions) = by bare versions.index
  where
    by : (ss : List Symbol) (words : List ℕ) → with_versions (map (fixed_symbol w) ss) words ≡ map (fixed_symbol w) (with_versions ss words)
    by [] words = refl
    by (s ∷ ss) [] = refl
    by (s ∷ ss) (word ∷ words) = rw (version_moved w s word, by ss words) refl

-- ---- the relocations

pub width_kept : (w : ℕ) (ss : List Symbol) (kind symbol : ℕ) → width (map (fixed_symbol w) ss) kind symbol ≡ width ss kind symbol
unfolding width
width_kept w ss kind symbol = ap (λ (n : ℕ). if kind == 0 then 0 else (if kind == 5 then n else 8)) (ap size_of (slice_get-map (fixed_symbol w) ss symbol) ∙ by (slice_get ss symbol))
  where
    by : (m : Option Symbol) → size_of (option_map (fixed_symbol w) m) ≡ size_of m
    by None = refl
    by (Some s) = size_kept w s

reloc_part : (ss : List Symbol) (at : ℕ) (table : List ℕ) → reloc_at ss (part at 24 table) 0 ≡ reloc_at ss table at
unfolding reloc_at
reloc_part ss at table =
    let start : at + 0 ≡ at = omega arith in
    rw (word64_part at 24 0 table (omega arith) ∙ ap (λ (k : ℕ). word64 k table) start, word32_part at 24 8 table (omega arith), word32_part at 24 12 table (omega arith), word64_part at 24 16 table (omega arith)) refl

pub relocs_moved : (w : ℕ) (ss : List Symbol) (old new : List ℕ) → length new ≡ length old → IsBytes old
    → ((i : ℕ) → i < length old / 24 → (length (part (24 * i) 24 old) ≡ 24) × (part (24 * i) 24 new ≡ row_moved w RelativeAddend (row_moved w RelocationPlace (part (24 * i) 24 old))))
    → relocs (map (fixed_symbol w) ss) new ≡ map (fixed_reloc w) (relocs ss old)
unfolding relocs
relocs_moved w ss old new size bytes rows =
    ap (λ (n : ℕ). map (reloc (map (fixed_symbol w) ss) new) (range_with_len 0 (n / 24))) size
    ∙ range_same (reloc (map (fixed_symbol w) ss) new) (λ i. fixed_reloc w (reloc ss old i)) 0 (length old / 24) (λ i lt.
    let r = rows i (omega (arith, lt)) in
    sym (reloc_part (map (fixed_symbol w) ss) (24 * i) new) ∙ ap (λ (x : List ℕ). reloc_at (map (fixed_symbol w) ss) x 0) r.1
    ∙ reloc_moved w ss (map (fixed_symbol w) ss) (part (24 * i) 24 old) r.0 (is_bytes_part (24 * i) 24 old bytes) (width_kept w ss) ∙ ap (fixed_reloc w) (reloc_part ss (24 * i) old))
    ∙ range_mapped (fixed_reloc w) (reloc ss old) 0 (length old / 24)
