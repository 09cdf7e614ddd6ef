-- The line `rel KIND OFF NAME ADDEND`.
use Rattle.std.specs.Prelude.{ℕ, Bool, not, ◌&&◌, ◌||◌, ◌==◌, List, [], ◌∷◌, Option, Some, None, codes, if◌then◌else◌}
use Rattle.std.specs.Option.{option_or}
use Rattle.std.specs.Str.{bytes_eq}
use Rattle.pl_elf.specs.declared.constants.TheConstants.{R_X86_64_NONE, R_X86_64_64, R_X86_64_COPY, R_X86_64_GLOB_DAT, R_X86_64_JUMP_SLOT, R_X86_64_RELATIVE, R_X86_64_DTPMOD64, R_X86_64_DTPOFF64, R_X86_64_TPOFF64, R_X86_64_TLSDESC, R_X86_64_IRELATIVE}
use Rattle.pl_build.specs.declared.line.Addend.{Addend}
use Rattle.pl_build.specs.declared.line.Line.{Line}
use Rattle.pl_build.specs.declared.line.Line.TheVariants.{Wrong, Relocates, Packs}
use Rattle.pl_build.specs.Words.{word, number, is_negative, magnitude, is_written}
use Rattle.pl_build.specs.Options.{or_wrong, look_up}

unfoldable pub symbol_kind : List ℕ → Option ℕ
symbol_kind text = look_up text (
    (codes "abs64", R_X86_64_64) ∷ (codes "copy", R_X86_64_COPY) ∷ (codes "globdat", R_X86_64_GLOB_DAT) ∷ (codes "jumpslot", R_X86_64_JUMP_SLOT)
    ∷ (codes "relative", R_X86_64_RELATIVE) ∷ (codes "none", R_X86_64_NONE) ∷ [])

unfoldable pub other_kind : List ℕ → Option ℕ
other_kind text = look_up text (
    (codes "dtpmod", R_X86_64_DTPMOD64) ∷ (codes "dtpoff", R_X86_64_DTPOFF64) ∷ (codes "tpoff", R_X86_64_TPOFF64)
    ∷ (codes "irelative", R_X86_64_IRELATIVE) ∷ (codes "tlsdesc", R_X86_64_TLSDESC) ∷ [])

unfoldable pub relocation_kind : List ℕ → Option ℕ
relocation_kind text = option_or (symbol_kind text) (other_kind text)

-- the name that stands for no symbol
unfoldable pub is_no_symbol : List ℕ → Bool
is_no_symbol text = bytes_eq text (codes "-")

-- a relative relocation has no symbol
unfoldable pub fits : ℕ → List ℕ → Bool
fits kind text = is_written text && (is_no_symbol text || not (kind == R_X86_64_RELATIVE))

abbrev pub addend_by : List ℕ → Option ℕ → Option Addend
addend_by text None = None
addend_by text (Some magnitude) = Some (record { negative = is_negative text; magnitude = magnitude })

unfoldable pub addend : List ℕ → Option Addend
addend text = addend_by text (magnitude text)

-- a packed one has no symbol
unfoldable pub packed_line : List (List ℕ) → Line
packed_line words =
    or_wrong (number (word 2 words)) (λ offset.
    or_wrong (addend (word 4 words)) (λ a.
    if is_no_symbol (word 3 words) then Packs (record { offset = offset; addend = a }) else Wrong))

unfoldable pub relocation_line : List (List ℕ) → Line
relocation_line words =
    or_wrong (relocation_kind (word 1 words)) (λ kind.
    or_wrong (number (word 2 words)) (λ offset.
    or_wrong (addend (word 4 words)) (λ a.
    if fits kind (word 3 words) then Relocates (record { kind = kind; offset = offset; name = word 3 words; addend = a }) else Wrong)))

unfoldable pub rel_line : List (List ℕ) → Line
rel_line words = if bytes_eq (word 1 words) (codes "packed") then packed_line words else relocation_line words
