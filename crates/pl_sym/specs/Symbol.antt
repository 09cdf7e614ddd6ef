-- Tests of a symbol by its fields (gABI chapter 4, "Symbol Table").
use Rattle.std.specs.Prelude.{Bool, not, ◌&&◌, ◌==◌, nat_le}
use Rattle.pl_sym.specs.declared.constants.TheConstants.{SHN_UNDEF, SHN_LORESERVE, SHN_ABS, SHN_HIRESERVE, STB_LOCAL, STT_TLS}
use Rattle.pl_sym.specs.declared.symbol.Symbol.{Symbol}

unfoldable pub is_undefined : Symbol → Bool
is_undefined s = s.section == SHN_UNDEF

unfoldable pub is_absolute : Symbol → Bool
is_absolute s = s.section == SHN_ABS

-- a section of its object has the symbol: the index is not 0, and not one of those that stand for no section
unfoldable pub is_in_section : Symbol → Bool
is_in_section s = not (s.section == SHN_UNDEF) && not (nat_le SHN_LORESERVE s.section && nat_le s.section SHN_HIRESERVE)

unfoldable pub is_local : Symbol → Bool
is_local s = s.bind == STB_LOCAL

unfoldable pub is_tls : Symbol → Bool
is_tls s = s.kind == STT_TLS
