-- Names of files, as bytes.
use Rattle.std.specs.Prelude.{ℕ, ◌≤◌, Bool, ◌&&◌, ◌||◌, not, List, length, codes, ◌==◌, nat_le, nat_eq}
use Rattle.std.specs.List.{list_all, starts_with}
use Rattle.std.specs.Str.{bytes_eq}
use Rattle.std.specs.Char.{is_ascii_graphic}
use Rattle.pl_base.specs.declared.names.TheConstants.{MAX_NAME, SEPARATOR}

-- a name that a call of a folder may be given: 1 to 255 bytes
abbrev pub IsNameLength : List ℕ → Type 0
IsNameLength name = (1 ≤ length name) × (length name ≤ MAX_NAME)

-- the same as a test
abbrev pub has_name_length : List ℕ → Bool
has_name_length name = nat_le 1 (length name) && nat_le (length name) MAX_NAME

-- a byte from 0x21 to 0x7e that is no `/`
unfoldable pub is_name_byte : ℕ → Bool
is_name_byte byte = is_ascii_graphic byte && not (byte == SEPARATOR)

-- the program's own names begin so
unfoldable pub is_own_name : List ℕ → Bool
is_own_name name = starts_with nat_eq name (codes ".prelink.")

-- the names that stand for folders
unfoldable pub is_dots : List ℕ → Bool
is_dots name = bytes_eq name (codes ".") || bytes_eq name (codes "..")

-- a valid name has 1 to 255 bytes, each from 0x21 to 0x7e and no `/`, is not the program's own, and is neither `.` nor `..`
unfoldable pub is_valid_name : List ℕ → Bool
is_valid_name name =
    has_name_length name && list_all is_name_byte name && not (is_own_name name) && not (is_dots name)
