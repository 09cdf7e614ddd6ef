-- The lines `def` and `ref`.
use Rattle.std.specs.Prelude.{ℕ, Bool, true, false, not, ◌&&◌, ◌||◌, ◌==◌, List, [], ◌∷◌, length, drop, Option, Some, codes, if◌then◌else◌}
use Rattle.std.specs.Str.{bytes_eq}
use Rattle.pl_base.specs.Names.{is_valid_name}
use Rattle.pl_sym.specs.declared.constants.TheConstants.{STB_GLOBAL, STB_WEAK, STB_GNU_UNIQUE, STT_NOTYPE, STT_OBJECT, STT_FUNC, STT_TLS, STT_GNU_IFUNC, STV_DEFAULT, STV_HIDDEN, STV_PROTECTED}
use Rattle.pl_build.specs.declared.line.Line.{Line}
use Rattle.pl_build.specs.declared.line.Line.TheVariants.{Wrong, Names}
use Rattle.pl_build.specs.Words.{word, number, name_of, has_version, is_doubled, version_of, is_written}
use Rattle.pl_build.specs.Options.{or_wrong, look_up}

unfoldable pub bind_of : List ℕ → Option ℕ
bind_of text = look_up text ((codes "global", STB_GLOBAL) ∷ (codes "weak", STB_WEAK) ∷ (codes "unique", STB_GNU_UNIQUE) ∷ [])

unfoldable pub symbol_type : List ℕ → Option ℕ
symbol_type text = look_up text (
    (codes "object", STT_OBJECT) ∷ (codes "func", STT_FUNC) ∷ (codes "tls", STT_TLS) ∷ (codes "abs", STT_NOTYPE) ∷ (codes "ifunc", STT_GNU_IFUNC) ∷ [])

-- ---- what may stand at the end: of a `def` a visibility, then `from LIB`; of a `ref` `from LIB`, then `at OFF`

unfoldable pub visibility_of : List (List ℕ) → ℕ
visibility_of rest =
    if bytes_eq (word 0 rest) (codes "protected") then STV_PROTECTED
    else if bytes_eq (word 0 rest) (codes "hidden") then STV_HIDDEN
    else STV_DEFAULT

unfoldable pub after_visibility : List (List ℕ) → List (List ℕ)
after_visibility rest = if visibility_of rest == STV_DEFAULT then rest else drop 1 rest

unfoldable pub has_file : List (List ℕ) → Bool
has_file rest = bytes_eq (word 0 rest) (codes "from")

unfoldable pub named_file : List (List ℕ) → List ℕ
named_file rest = if has_file rest then word 1 rest else []

unfoldable pub after_file : List (List ℕ) → List (List ℕ)
after_file rest = if has_file rest then drop 2 rest else rest

unfoldable pub has_place : List (List ℕ) → Bool
has_place rest = bytes_eq (word 0 rest) (codes "at")

unfoldable pub place_offset : List (List ℕ) → Option ℕ
place_offset rest = if has_place rest then number (word 1 rest) else Some 0

unfoldable pub after_place : List (List ℕ) → List (List ℕ)
after_place rest = if has_place rest then drop 2 rest else rest

-- ---- the lines

-- `def NAME BIND TYPE OFF SIZE`: a file stands only with a version
unfoldable pub is_def : List ℕ → List (List ℕ) → Bool
is_def text rest =
    is_written text
    && (not (has_file rest) || has_version text && is_valid_name (named_file rest))
    && length (after_file rest) == 0

unfoldable pub def_named : List ℕ → ℕ → ℕ → ℕ → ℕ → List (List ℕ) → Line
def_named text bind kind offset size rest =
    if is_def text (after_visibility rest) then Names (record {
      defined = true;
      written = text;
      name = name_of text;
      version = version_of text;
      default_version = is_doubled text;
      file = named_file (after_visibility rest);
      bind = bind;
      kind = kind;
      visibility = visibility_of rest;
      placed = true;
      offset = offset;
      size = size;
    }) else Wrong

unfoldable pub def_line : List (List ℕ) → Line
def_line words =
    or_wrong (bind_of (word 2 words)) (λ bind.
    or_wrong (symbol_type (word 3 words)) (λ kind.
    or_wrong (number (word 4 words)) (λ offset.
    or_wrong (number (word 5 words)) (λ size.
    def_named (word 1 words) bind kind offset size (drop 6 words)))))

-- a file stands exactly with a version
unfoldable pub has_fitting_version : List ℕ → List (List ℕ) → Bool
has_fitting_version text rest = if has_file rest then has_version text && is_valid_name (named_file rest) else not (has_version text)

-- `ref NAME BIND TYPE`, with one sign `@` at most
unfoldable pub is_ref : List ℕ → List (List ℕ) → Bool
is_ref text rest =
    is_written text
    && not (is_doubled text)
    && has_fitting_version text rest
    && length (after_place (after_file rest)) == 0

unfoldable pub ref_named : List ℕ → ℕ → ℕ → ℕ → List (List ℕ) → Line
ref_named text bind kind offset rest =
    if is_ref text rest then Names (record {
      defined = false;
      written = text;
      name = name_of text;
      version = version_of text;
      default_version = false;
      file = named_file rest;
      bind = bind;
      kind = kind;
      visibility = STV_DEFAULT;
      placed = has_place (after_file rest);
      offset = offset;
      size = 0;
    }) else Wrong

unfoldable pub ref_line : List (List ℕ) → Line
ref_line words =
    or_wrong (bind_of (word 2 words)) (λ bind.
    or_wrong (symbol_type (word 3 words)) (λ kind.
    or_wrong (place_offset (after_file (drop 4 words))) (λ offset.
    ref_named (word 1 words) bind kind offset (drop 4 words))))
