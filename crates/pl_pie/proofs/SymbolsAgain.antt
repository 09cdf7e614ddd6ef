-- The hash tables of a fixed file are the program's, and acceptance clauses 20 to 22 and 28 take its symbols.
use Rattle.std.proofs.Common.{◌≡◌, ℕ, zero, suc, Bool, true, false, List, [], ◌∷◌, ◌++◌, length, map, Option, Some, None, Result, Ok, refl, ap, subst, ◌∙◌}
use Rattle.std.specs.Prelude.{◌&&◌, ◌||◌, ◌==◌, not, slice_get}
use Rattle.std.specs.List.{All, list_any, range_with_len}
use Rattle.std.specs.Option.{option_map}
use Rattle.std.specs.Result.{is_ok}
use Rattle.std.proofs.lemmas.Bool.{or_from, or_parts}
use Rattle.std.proofs.lemmas.List.{length-map}
use Rattle.std.proofs.lemmas.List.Elements.{All-head, All-tail}
use Rattle.std.proofs.lemmas.Option.{slice_get-map}
use Rattle.pl_base.specs.Pairs.{any_pair}
use Rattle.pl_base.proofs.AnswerLaws.{refuse_next, refuse_none}
use Rattle.pl_base.proofs.FindLaws.{any_map, any_same}
use Rattle.pl_base.proofs.PairLaws.{any_pair_map}
use Rattle.pl_dyn.specs.declared.constants.TheConstants.{DT_HASH, DT_GNU_HASH}
use Rattle.pl_dyn.specs.declared.tags.Tag.{Tag}
use Rattle.pl_elf.specs.declared.section.Section.{Section}
use Rattle.pl_elf.specs.declared.segment.Segment.{Segment}
use Rattle.pl_hash.specs.Chain.{well_formed}
use Rattle.pl_hash.specs.Table.{HashTable}
use Rattle.pl_object.specs.FilePart.{loaded}
use Rattle.pl_object.specs.SymbolClauses.{base_not_zero, check_symbols, defines, duplicate_definer, has_ifunc, hash_incomplete, hash_table, hash_tables, is_ifunc, is_incomplete, is_missed, is_same_version, is_twin, misses_one}
use Rattle.pl_object.specs.Tables.{has_tag, section_memory}
use Rattle.pl_object.specs.declared.object.Object.{Object}
use Rattle.pl_object.specs.declared.refusal.Refusal.{Refusal}
use Rattle.pl_object.specs.declared.refusal.Refusal.TheVariants.{Clause}
use Rattle.pl_sym.specs.Symbol.{is_undefined}
use Rattle.pl_sym.specs.declared.class.Class.TheVariants.{Jump, Other}
use Rattle.pl_sym.specs.declared.symbol.Symbol.{Symbol}
use Rattle.pl_ver.specs.declared.versions.Versions.{Versions}
use Rattle.law_fixed.specs.Fixed.{KeepsItsKind, fixed_section, fixed_segment, fixed_symbol}
use Rattle.law_fixed.proofs.LookupLaws.{definer_kept, fixed_is, name_kept, version_kept}
use Rattle.pl_pie.specs.Pie.{as_program}
use Rattle.pl_pie.proofs.AtLaws.{IsAt, file_at, new_tags, old_tags}
use Rattle.pl_pie.proofs.LinkingAgain.{gnu_hash_read, hash_read}
use Rattle.pl_pie.proofs.TagLaws.{has_moved}

-- ---- tests that say the same of rows of which a fact holds

pub any_all : {X : Type 0} (P : X → Type 0) (p q : X → Bool) (xs : List X) → All P xs → ((x : X) → P x → p x ≡ q x) → list_any p xs ≡ list_any q xs
any_all P p q [] all same = refl
any_all P p q (x ∷ xs) all same = rw (same x (All-head P x xs all), any_all P p q xs (All-tail P x xs all) same) refl

pub any_pair_all : {X : Type 0} (P : X → Type 0) (p q : X → X → Bool) (xs : List X) → All P xs → ((x y : X) → P x → P y → p x y ≡ q x y) → any_pair p xs ≡ any_pair q xs
any_pair_all P p q [] all same = refl
any_pair_all P p q (x ∷ xs) all same =
    let first = All-head P x xs all in
    let rest = All-tail P x xs all in
    rw (any_all P (p x) (q x) xs rest (λ y is. same x y first is), any_pair_all P p q xs rest same) refl

got : {X : Type 0} (P : X → Type 0) (xs : List X) (i : ℕ) (x : X) → All P xs → slice_get xs i ≡ Some x → P x
got P [] i x all e = absurd cc
got P (y ∷ ys) zero x all e = let same : y ≡ x = cc in subst P same (All-head P y ys all)
got P (y ∷ ys) (suc i) x all e = got P ys i x (All-tail P y ys all) e

-- ---- the hash tables

table_kept : (xs ys : List ℕ) (ss ss' : List Segment) (secs secs' : List Section) (ts : List Tag) (count number : ℕ) (gnu : Bool) (us : List Tag) → has_tag number us ≡ has_tag number ts
    → loaded ys ss' (section_memory number us secs') ≡ loaded xs ss (section_memory number ts secs) → hash_table ys ss' secs' us count gnu number ≡ hash_table xs ss secs ts count gnu number
unfolding hash_table
table_kept xs ys ss ss' secs secs' ts count number gnu us has same = rw (has, same) refl

pub hashes_again : (bytes : List ℕ) (o : Object) (at count : ℕ) → IsAt bytes o at
    → hash_tables (file_at at o bytes) (map (fixed_segment at) o.segments) (map (fixed_section at) o.sections) (new_tags at bytes o) count ≡ hash_tables (as_program bytes) o.segments o.sections (old_tags bytes o) count
unfolding hash_tables
hashes_again bytes o at count is =
    let p = as_program bytes in
    let file = file_at at o bytes in
    let ts = old_tags bytes o in
    let one = table_kept p file o.segments (map (fixed_segment at) o.segments) o.sections (map (fixed_section at) o.sections) ts count DT_HASH false (new_tags at bytes o) (has_moved at DT_HASH ts) (hash_read bytes o at is) in
    let two = table_kept p file o.segments (map (fixed_segment at) o.segments) o.sections (map (fixed_section at) o.sections) ts count DT_GNU_HASH true (new_tags at bytes o) (has_moved at DT_GNU_HASH ts) (gnu_hash_read bytes o at is) in
    ap (λ (hs : List HashTable). hs ++ hash_table file (map (fixed_segment at) o.segments) (map (fixed_section at) o.sections) (new_tags at bytes o) count true DT_GNU_HASH) one
    ∙ ap (λ (hs : List HashTable). hash_table p o.segments o.sections ts count false DT_HASH ++ hs) two

-- ---- 21: definers

defines_kept : (at : ℕ) (s : Symbol) → KeepsItsKind at s → defines (fixed_symbol at s) ≡ defines s
defines_kept at s keeps = definer_kept at s keeps Jump false

missed_kept : (at index : ℕ) (table : HashTable) (symbols : List Symbol) → All (KeepsItsKind at) symbols → is_missed table index (slice_get (map (fixed_symbol at) symbols) index) ≡ is_missed table index (slice_get symbols index)
missed_kept at index table symbols keeps = ap (is_missed table index) (slice_get-map (fixed_symbol at) symbols index) ∙ by (slice_get symbols index) refl
  where
    by : (m : Option Symbol) → slice_get symbols index ≡ m → is_missed table index (option_map (fixed_symbol at) m) ≡ is_missed table index m
    by None e = refl
    by (Some s) e = rw (defines_kept at s (got (KeepsItsKind at) symbols index s keeps e), name_kept at s) refl

incomplete_kept : (at : ℕ) (symbols : List Symbol) (table : HashTable) → All (KeepsItsKind at) symbols → is_incomplete (map (fixed_symbol at) symbols) table ≡ is_incomplete symbols table
unfolding is_incomplete misses_one
incomplete_kept at symbols table keeps =
    ap (λ (b : Bool). not (well_formed table) || b)
    (ap (λ (n : ℕ). list_any (λ index. is_missed table index (slice_get (map (fixed_symbol at) symbols) index)) (range_with_len 0 n)) (length-map symbols (fixed_symbol at))
    ∙ any_same (λ index. is_missed table index (slice_get (map (fixed_symbol at) symbols) index)) (λ index. is_missed table index (slice_get symbols index)) (range_with_len 0 (length symbols)) (λ index. missed_kept at index table symbols keeps))

hashed_kept : (at : ℕ) (tables : List HashTable) (symbols : List Symbol) → All (KeepsItsKind at) symbols → hash_incomplete tables (map (fixed_symbol at) symbols) ≡ hash_incomplete tables symbols
unfolding hash_incomplete
hashed_kept at tables symbols keeps =
    let one : list_any defines (map (fixed_symbol at) symbols) ≡ list_any defines symbols = any_map defines (fixed_symbol at) symbols ∙ any_all (KeepsItsKind at) (λ s. defines (fixed_symbol at s)) defines symbols keeps (defines_kept at) in
    let two : list_any (is_incomplete (map (fixed_symbol at) symbols)) tables ≡ list_any (is_incomplete symbols) tables = any_same (is_incomplete (map (fixed_symbol at) symbols)) (is_incomplete symbols) tables (λ table. incomplete_kept at symbols table keeps) in
    ap (λ (b : Bool). length tables == 0 && b || list_any (is_incomplete (map (fixed_symbol at) symbols)) tables) one ∙ ap (λ (b : Bool). length tables == 0 && list_any defines symbols || b) two

-- ---- 22: twins

twin_kept : (at : ℕ) (known : Option Versions) (program : Bool) (s t : Symbol) → KeepsItsKind at s → KeepsItsKind at t → is_twin known program (fixed_symbol at s) (fixed_symbol at t) ≡ is_twin known program s t
unfolding is_twin is_same_version
twin_kept at known program s t a b = rw (definer_kept at s a Other program, definer_kept at t b Other program, name_kept at s, name_kept at t, version_kept at s, version_kept at t) refl

twins_kept : (at : ℕ) (known : Option Versions) (program : Bool) (symbols : List Symbol) → All (KeepsItsKind at) symbols → duplicate_definer known program (map (fixed_symbol at) symbols) ≡ duplicate_definer known program symbols
unfolding duplicate_definer
twins_kept at known program symbols keeps =
    any_pair_map (is_twin known program) (fixed_symbol at) symbols
    ∙ any_pair_all (KeepsItsKind at) (λ s t. is_twin known program (fixed_symbol at s) (fixed_symbol at t)) (is_twin known program) symbols keeps (twin_kept at known program)

-- ---- 20 to 22

not_above : (ss : List Segment) → base_not_zero true ss ≡ false
unfolding base_not_zero
not_above ss = refl

pub symbols_pass : (at : ℕ) (ss ss' : List Segment) (tables : List HashTable) (known : Option Versions) (symbols : List Symbol) (u : Unit {0}) → All (KeepsItsKind at) symbols
    → check_symbols true ss tables known symbols ≡ Ok u → check_symbols true ss' tables known (map (fixed_symbol at) symbols) ≡ Ok tt
unfolding check_symbols
symbols_pass at ss ss' tables known symbols u keeps e =
    let none = refuse_none ((base_not_zero true ss, Clause 20 0) ∷ (hash_incomplete tables symbols, Clause 21 0) ∷ (duplicate_definer known true symbols, Clause 22 0) ∷ []) (Ok tt) (ap (λ (r : Result (Unit {0}) Refusal). is_ok r) e) in
    let a = or_parts (base_not_zero true ss) (hash_incomplete tables symbols || (duplicate_definer known true symbols || false)) none in
    let b = or_parts (hash_incomplete tables symbols) (duplicate_definer known true symbols || false) a.1 in
    let c = or_parts (duplicate_definer known true symbols) false b.1 in
    refuse_next ((base_not_zero true ss', Clause 20 0) ∷ (hash_incomplete tables (map (fixed_symbol at) symbols), Clause 21 0) ∷ (duplicate_definer known true (map (fixed_symbol at) symbols), Clause 22 0) ∷ []) (Ok tt)
    (or_from _ _ (not_above ss') (or_from _ _ (hashed_kept at tables symbols keeps ∙ b.0) (or_from _ _ (twins_kept at known true symbols keeps ∙ c.0) refl)))

-- ---- 28

ifunc_kept : (at : ℕ) (s : Symbol) → is_ifunc (fixed_symbol at s) ≡ is_ifunc s
unfolding is_ifunc is_undefined
ifunc_kept at s = fixed_is at s (λ (t : Symbol). is_ifunc t ≡ is_ifunc s) (λ _. refl) (λ _. refl)

pub ifuncs_kept : (at : ℕ) (symbols : List Symbol) → has_ifunc (map (fixed_symbol at) symbols) ≡ has_ifunc symbols
unfolding has_ifunc
ifuncs_kept at symbols = any_map is_ifunc (fixed_symbol at) symbols ∙ any_same (λ s. is_ifunc (fixed_symbol at s)) is_ifunc symbols (ifunc_kept at)
