-- The lists that a tag may stand in (gABI chapter 5, "Dynamic Section"; GNU extensions).
use Rattle.std.specs.Prelude.{ℕ, Bool, not, ◌&&◌, ◌||◌, ◌==◌, nat_le}
use Rattle.std.specs.List.{list_any}
use Rattle.pl_dyn.specs.declared.constants.TheConstants.{ADDRESS_TAGS, VALUE_TAGS, PRELINK_TAGS, DT_VALRNGLO, DT_VALRNGHI, DT_ADDRRNGLO, DT_ADDRRNGHI}

-- a value that is an address
unfoldable pub is_address_tag : ℕ → Bool
is_address_tag number = list_any (λ tag. tag == number) ADDRESS_TAGS

-- a value that is no address
unfoldable pub is_value_tag : ℕ → Bool
is_value_tag number = list_any (λ tag. tag == number) VALUE_TAGS || nat_le DT_VALRNGLO number && nat_le number DT_VALRNGHI

-- one of the six of a prelinked file
unfoldable pub is_prelink_tag : ℕ → Bool
is_prelink_tag number = list_any (λ tag. tag == number) PRELINK_TAGS

-- a tag of one of the three kinds
unfoldable pub is_listed : ℕ → Bool
is_listed number = is_address_tag number || is_value_tag number || is_prelink_tag number

-- refused in an original: a tag that is not listed, or a prelink tag of the address range
unfoldable pub is_unknown : ℕ → Bool
is_unknown number = not (is_listed number) || is_prelink_tag number && nat_le DT_ADDRRNGLO number && nat_le number DT_ADDRRNGHI
