-- How wide relocations are: by their symbols, and by the bytes of the symbol table.
use Rattle.std.proofs.Common.{◌≡◌, ℕ, zero, suc, ◌+◌, ◌*◌, ◌/◌, ◌<◌, Bool, false, List, [], ◌∷◌, ◌++◌, length, get_or, Option, Some, None, Result, Ok, refl, sym, ap, subst, ◌∙◌, arith, inl, inr}
use Rattle.std.specs.Prelude.{◌==◌, nat_le, slice_get, if◌then◌else◌, not}
use Rattle.std.specs.List.{All, list_any, range_with_len}
use Rattle.std.proofs.lemmas.Bool.{cases_Bool, or_parts, leb-false, false≢true}
use Rattle.std.proofs.lemmas.Option.{slice_get-get_or}
use Rattle.std.proofs.lemmas.List.Elements.{All-append, All-map}
use Rattle.std.proofs.lemmas.List.Folds.{list_any_at}
use Rattle.std.proofs.lemmas.List.FromFn.{length-range_with_len, get_or-range_with_len}
use Rattle.pl_base.specs.Answers.{◌>>=◌}
use Rattle.pl_base.specs.Bytes.{word32, word64}
use Rattle.pl_base.specs.Each.{each}
use Rattle.pl_base.specs.Strings.{string_at}
use Rattle.pl_base.proofs.AnswerLaws.{bind_ok, ok_same}
use Rattle.pl_base.proofs.EachLaws.{length-each}
use Rattle.pl_elf.specs.declared.constants.TheConstants.{RELA_SIZE, R_X86_64_NONE, R_X86_64_COPY, WORD64_SIZE}
use Rattle.pl_elf.specs.declared.segment.Segment.{Segment}
use Rattle.pl_sym.specs.Table as table
use Rattle.pl_sym.specs.declared.constants.TheConstants.{SYMBOL_SIZE}
use Rattle.pl_sym.specs.declared.symbol.Symbol.{Symbol}
use Rattle.pl_ver.specs.declared.versions.Versions.{Versions}
use Rattle.pl_object.specs.Names.{with_versions, versioned}
use Rattle.pl_object.specs.PlaceClauses.{is_known, is_bad}
use Rattle.pl_object.specs.Relocations.{size_of, width, raw_width, reloc, reloc_at, relocs, packed_reloc, packed_relocs}
use Rattle.pl_object.specs.declared.reloc.Reloc.{Reloc}
use Rattle.pl_object.proofs.NameLaws.{length-versioned}

-- a row at an index does not pass where none does
pub none_at : {X : Type 0} (p : X → Bool) (xs : List X) (k : ℕ) (d : X) → k < length xs → list_any p xs ≡ false → p (get_or xs k d) ≡ false
none_at p xs k d lt none = elim (cases_Bool (p (get_or xs k d))) [
  | inl hit ↦ absurd (false≢true (sym none ∙ list_any_at p xs k d lt hit))
  | inr miss ↦ miss
]

-- ---- by the symbols

-- a relocation is as wide as its kind and symbol say
abbrev pub HasWidth : List Symbol → Reloc → Type 0
HasWidth symbols r = r.width ≡ width symbols r.kind r.symbol

reloc_width : (symbols : List Symbol) (rows : List ℕ) (at : ℕ) → HasWidth symbols (reloc_at symbols rows at)
unfolding reloc_at
reloc_width symbols rows at = refl

relocs_widths : (symbols : List Symbol) (rows : List ℕ) → All (HasWidth symbols) (relocs symbols rows)
unfolding relocs
relocs_widths symbols rows =
    All-map (HasWidth symbols) (reloc symbols rows) (range_with_len 0 (length rows / RELA_SIZE)) (λ k d lt. reloc_width symbols rows (RELA_SIZE * get_or (range_with_len 0 (length rows / RELA_SIZE)) k d))

packed_width : (symbols : List Symbol) (bytes : List ℕ) (ss : List Segment) (address : ℕ) → HasWidth symbols (packed_reloc bytes ss address)
unfolding width
packed_width symbols bytes ss address = refl

packed_widths : (symbols : List Symbol) (bytes : List ℕ) (ss : List Segment) (addresses : List ℕ) → All (HasWidth symbols) (packed_relocs bytes ss addresses)
unfolding packed_relocs
packed_widths symbols bytes ss addresses = All-map (HasWidth symbols) (packed_reloc bytes ss) addresses (λ k d lt. packed_width symbols bytes ss (get_or addresses k d))

pub all_widths : (symbols : List Symbol) (rela jmprel bytes : List ℕ) (ss : List Segment) (addresses : List ℕ)
    → All (HasWidth symbols) (relocs symbols rela ++ relocs symbols jmprel ++ packed_relocs bytes ss addresses)
all_widths symbols rela jmprel bytes ss addresses =
    All-append (HasWidth symbols) (relocs symbols rela ++ relocs symbols jmprel) (packed_relocs bytes ss addresses)
    (All-append (HasWidth symbols) (relocs symbols rela) (relocs symbols jmprel) (relocs_widths symbols rela) (relocs_widths symbols jmprel))
    (packed_widths symbols bytes ss addresses)

-- ---- symbols as they stand in the table

each_at : {A B E : Type 0} (f : A → Result B E) (xs : List A) (ys : List B) (i : ℕ) (a : A) (b : B) → each f xs ≡ Ok ys → i < length ys → f (get_or xs i a) ≡ Ok (get_or ys i b)
unfolding each
each_at f [] ys i a b e lt = absurd (let none : 0 ≡ length ys = ap length (ok_same [] ys e) in omega (arith, lt, none))
each_at f (x ∷ xs) ys zero a b e lt =
    let p = bind_ok (f x) (λ y. each f xs >>= λ zs. Ok (y ∷ zs)) ys e in
    let q = bind_ok (each f xs) (λ zs. Ok (p.0 ∷ zs)) ys p.2 in
    let same : p.0 ∷ q.0 ≡ ys = ok_same (p.0 ∷ q.0) ys q.2 in
    p.1 ∙ ap (λ zs. Ok (get_or zs 0 b)) same
each_at f (x ∷ xs) ys (suc i) a b e lt =
    let p = bind_ok (f x) (λ y. each f xs >>= λ zs. Ok (y ∷ zs)) ys e in
    let q = bind_ok (each f xs) (λ zs. Ok (p.0 ∷ zs)) ys p.2 in
    let same : p.0 ∷ q.0 ≡ ys = ok_same (p.0 ∷ q.0) ys q.2 in
    let size : suc (length q.0) ≡ length ys = ap length same in
    each_at f xs q.0 i a b q.1 (omega (arith, lt, size)) ∙ ap (λ zs. Ok (get_or zs (suc i) b)) same

size_named : (t : List ℕ) (at : ℕ) (name : Option (List ℕ)) (s : Symbol) → table.named t at name ≡ Ok s → s.size ≡ word64 (at + 16) t
size_named t at None s e = absurd cc
size_named t at (Some name) s e = ap (λ (x : Symbol). x.size) (sym (ok_same _ s e))

size_versions : (ss : List Symbol) (words : List ℕ) (i : ℕ) (d : Symbol) → (get_or (with_versions ss words) i d).size ≡ (get_or ss i d).size
unfolding with_versions
size_versions [] words i d = refl
size_versions (s ∷ ss) [] i d = refl
size_versions (s ∷ ss) (w ∷ ws) zero d = refl
size_versions (s ∷ ss) (w ∷ ws) (suc i) d = size_versions ss ws i d

-- as many symbols as whole rows
pub length-symbols : (t strings : List ℕ) (ss : List Symbol) → table.symbols t strings ≡ Ok ss → length ss ≡ length t / SYMBOL_SIZE
unfolding table.symbols
length-symbols t strings ss e = length-each (table.symbol t strings) (range_with_len 0 (length t / SYMBOL_SIZE)) ss e ∙ length-range_with_len 0 (length t / SYMBOL_SIZE)

size_at : (t strings : List ℕ) (ss : List Symbol) (i : ℕ) (d : Symbol) → table.symbols t strings ≡ Ok ss → i < length ss → (get_or ss i d).size ≡ word64 (SYMBOL_SIZE * i + 16) t
unfolding table.symbols table.symbol_at
size_at t strings ss i d e lt =
    let n : length ss ≡ length t / SYMBOL_SIZE = length-symbols t strings ss e in
    let at = each_at (table.symbol t strings) (range_with_len 0 (length t / SYMBOL_SIZE)) ss i 0 d e lt in
    let is : get_or (range_with_len 0 (length t / SYMBOL_SIZE)) i 0 ≡ i = get_or-range_with_len 0 (length t / SYMBOL_SIZE) i 0 (omega (arith, n, lt)) ∙ omega arith in
    size_named t (SYMBOL_SIZE * i) (string_at (word32 (SYMBOL_SIZE * i) t) strings) (get_or ss i d) (subst (λ (k : ℕ). table.symbol t strings k ≡ Ok (get_or ss i d)) is at)

size_versioned : (ss : List Symbol) (versions : Option Versions) (i : ℕ) (d : Symbol) → (get_or (versioned ss versions) i d).size ≡ (get_or ss i d).size
size_versioned ss None i d = refl
size_versioned ss (Some versions) i d = size_versions ss versions.index i d

size_of_at : (ss : List Symbol) (i size : ℕ) → i < length ss → ((d : Symbol) → (get_or ss i d).size ≡ size) → size_of (slice_get ss i) ≡ size
size_of_at [] i size lt is = absurd (omega (arith, lt))
size_of_at (s ∷ ss) i size lt is = ap size_of (slice_get-get_or (s ∷ ss) i s lt) ∙ is s

-- the width of a relocation by a symbol that is there
pub width_is : (t strings : List ℕ) (bare : List Symbol) (versions : Option Versions) (kind symbol : ℕ) → table.symbols t strings ≡ Ok bare → symbol < length (versioned bare versions)
    → width (versioned bare versions) kind symbol ≡ raw_width t kind symbol
unfolding width raw_width
width_is t strings bare versions kind symbol e lt =
    ap (λ (n : ℕ). if kind == R_X86_64_NONE then 0 else (if kind == R_X86_64_COPY then n else WORD64_SIZE))
    (size_of_at (versioned bare versions) symbol (word64 (SYMBOL_SIZE * symbol + 16) t) lt
    (λ d. size_versioned bare versions symbol d ∙ size_at t strings bare symbol d e (omega (arith, lt, length-versioned bare versions))))

-- a relocation that is not bad has a symbol that is there
symbol_there : (count : ℕ) (r : Reloc) → is_bad count r ≡ false → r.symbol < count
unfolding is_bad
symbol_there count r e =
    let p = or_parts (not (is_known r.kind)) (nat_le count r.symbol) e in
    leb-false count r.symbol p.1

pub raw_widths : (t : List ℕ) (symbols : List Symbol) (rs : List Reloc) → list_any (is_bad (length symbols)) rs ≡ false → All (HasWidth symbols) rs
    → ((kind symbol : ℕ) → symbol < length symbols → width symbols kind symbol ≡ raw_width t kind symbol) → All (λ r. r.width ≡ raw_width t r.kind r.symbol) rs
raw_widths t symbols rs none wide same = λ k d lt.
    let r = get_or rs k d in
    wide k d lt ∙ same r.kind r.symbol (symbol_there (length symbols) r (none_at (is_bad (length symbols)) rs k d lt none))
