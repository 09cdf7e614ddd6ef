-- The faults of a recipe's lines.
use Rattle.std.specs.Prelude.{ℕ, ◌+◌, ◌%◌, Bool, true, false, not, ◌&&◌, ◌||◌, ◌==◌, nat_lt, List, [], length, take, map, find, Option, Some, None, slice_get, codes, if◌then◌else◌}
use Rattle.std.specs.List.{list_any, range_with_len}
use Rattle.std.specs.Str.{bytes_eq}
use Rattle.pl_elf.specs.declared.constants.TheConstants.{WORD64_SIZE}
use Rattle.pl_build.specs.declared.constants.TheConstants.{MAX_BUCKETS, MAX_SPARE, MAX_DATA, MAX_BSS, MAX_ADDEND}
use Rattle.pl_build.specs.declared.checks.Fault.{Fault}
use Rattle.pl_build.specs.declared.kind.FileKind.TheVariants.{Static}
use Rattle.pl_build.specs.declared.line.Line.{Line}
use Rattle.pl_build.specs.declared.line.Line.TheVariants.{Wrong, Empty, First, Usual, Hash, Buckets, Spare, Symbolic, Entry, Data, Bss, Put, Tls, Version, Names, Relocates, Packs}
use Rattle.pl_build.specs.declared.line.Addend.{Addend}
use Rattle.pl_build.specs.declared.line.PackedWord.{PackedWord}
use Rattle.pl_build.specs.declared.line.SymbolLine.{SymbolLine}
use Rattle.pl_build.specs.RelocationLines.{is_no_symbol}

-- ---- kind 1: the first line says what the file is, and no other does. A static program has no more than data and an entry

abbrev pub is_first : Line → Bool
is_first (First kind) = true
is_first _ = false

abbrev pub is_static_first : Option Line → Bool
is_static_first (Some (First Static)) = true
is_static_first _ = false

unfoldable pub is_static_recipe : List Line → Bool
is_static_recipe lines = is_static_first (slice_get lines 0)

unfoldable pub is_misplaced : Bool → Line → Bool
is_misplaced static Wrong = true
is_misplaced static (First kind) = true
is_misplaced static Empty = false
is_misplaced static (Data n) = false
is_misplaced static (Bss n) = false
is_misplaced static (Put w) = false
is_misplaced static (Entry n) = false
is_misplaced static _ = static

unfoldable pub is_wrong : List Line → ℕ → Line → Bool
is_wrong lines index line = if index == 0 then not (is_first line) else is_misplaced (is_static_recipe lines) line

-- ---- kind 2

unfoldable pub is_over_addend : Addend → Bool
is_over_addend a = nat_lt (if a.negative then MAX_ADDEND + 1 else MAX_ADDEND) a.magnitude

-- a word at an offset shares a byte with that of a packed line
abbrev pub shares : ℕ → Line → Bool
shares offset (Packs w) = nat_lt offset (w.offset + WORD64_SIZE) && nat_lt w.offset (offset + WORD64_SIZE)
shares offset _ = false

-- a packed word at an odd offset, one that passes so many bytes of data or shares a byte with that of an earlier line, or one with an addend over its limit
unfoldable pub is_over_packed : List Line → ℕ → PackedWord → Bool
is_over_packed before size w =
    w.offset % 2 == 1 || nat_lt size (w.offset + WORD64_SIZE) || list_any (shares w.offset) before || is_over_addend w.addend

-- a number over its limit, or a word that passes so many bytes of data; for a packed word the lines before it count
unfoldable pub is_over : List Line → ℕ → Line → Bool
is_over before size (Buckets n) = n == 0 || nat_lt MAX_BUCKETS n
is_over before size (Spare n) = nat_lt MAX_SPARE n
is_over before size (Data n) = nat_lt MAX_DATA n
is_over before size (Bss n) = nat_lt MAX_BSS n
is_over before size (Put w) = nat_lt size (w.offset + WORD64_SIZE)
is_over before size (Relocates r) = is_over_addend r.addend
is_over before size (Packs w) = is_over_packed before size w
is_over before size _ = false

-- ---- kind 3

abbrev pub writes : List ℕ → Line → Bool
writes name (Names s) = bytes_eq s.written name
writes name _ = false

abbrev pub defines : List ℕ → Line → Bool
defines name (Version v) = bytes_eq v name
defines name _ = false

-- a symbol with a version that the recipe is to define
unfoldable pub wants_version : SymbolLine → Bool
wants_version s = not (length s.version == 0) && length s.file == 0

-- a relocation by a symbol that no line names, or a symbol with a version that no line defines
unfoldable pub is_unknown : List Line → Line → Bool
is_unknown lines (Relocates r) = not (is_no_symbol r.name) && not (list_any (writes r.name) lines)
is_unknown lines (Names s) = wants_version s && not (list_any (defines s.version) lines)
is_unknown lines _ = false

-- ---- kind 4

-- the first word of a line that stands once
unfoldable pub keyword : Line → List ℕ
keyword Usual = codes "usual"
keyword (Hash h) = codes "hash"
keyword (Buckets n) = codes "buckets"
keyword (Spare n) = codes "spare"
keyword Symbolic = codes "symbolic"
keyword (Entry n) = codes "entry"
keyword (Data n) = codes "data"
keyword (Bss n) = codes "bss"
keyword (Tls t) = codes "tls"
keyword _ = []

unfoldable pub is_repeated : List Line → Line → Bool
is_repeated before (Names s) = list_any (writes s.written) before
is_repeated before line = not (length (keyword line) == 0) && list_any (λ l. bytes_eq (keyword l) (keyword line)) before

-- ---- the first line with a fault

abbrev pub is_data : Line → Bool
is_data (Data n) = true
is_data _ = false

abbrev pub data_in : Option Line → ℕ
data_in (Some (Data n)) = n
data_in _ = 0

-- how many bytes of data the recipe has: its first line `data` says that
unfoldable pub data_size : List Line → ℕ
data_size lines = data_in (find is_data lines)

-- the lowest kind of a line's faults, 0 for none
unfoldable pub lowest_kind : List Line → ℕ → ℕ → Line → ℕ
lowest_kind lines size index line =
    if is_wrong lines index line then 1
    else if is_over (take index lines) size line then 2
    else if is_unknown lines line then 3
    else if is_repeated (take index lines) line then 4
    else 0

abbrev pub kind_at : List Line → ℕ → ℕ → Option Line → ℕ
kind_at lines size index (Some line) = lowest_kind lines size index line
kind_at lines size index None = 0

-- lines count from 1
unfoldable pub fault_at : List Line → ℕ → ℕ → Fault
fault_at lines size index = record { line = index + 1; kind = kind_at lines size index (slice_get lines index) }

abbrev pub is_fault : Fault → Bool
is_fault fault = not (fault.kind == 0)

unfoldable pub faults : List Line → ℕ → List Fault
faults lines size = map (fault_at lines size) (range_with_len 0 (length lines))

unfoldable pub first_fault : List Line → Option Fault
first_fault lines = find is_fault (faults lines (data_size lines))
