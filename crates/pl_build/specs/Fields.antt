-- Tables as lists of fields.
use Rattle.std.specs.Prelude.{ℕ, List}
use Rattle.std.specs.List.{flat_map}
use Rattle.byteorder.specs.Endian.{little_bytes}
use Rattle.pl_build.specs.declared.fields.Field.{Field}
use Rattle.pl_build.specs.declared.fields.Field.TheVariants.{Byte, Half, Word, Xword}

-- a number's lowest 1, 2, 4 or 8 bytes, little-endian
abbrev pub field_bytes : Field → List ℕ
field_bytes (Byte number) = little_bytes 1 number
field_bytes (Half number) = little_bytes 2 number
field_bytes (Word number) = little_bytes 4 number
field_bytes (Xword number) = little_bytes 8 number

-- fields one after the other
unfoldable pub fields : List Field → List ℕ
fields xs = flat_map field_bytes xs
