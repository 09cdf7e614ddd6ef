-- What a valid name is known to meet.
use Rattle.std.proofs.Common.{◌≡◌, ℕ, zero, suc, true, false, List, [], ◌∷◌, length, arith}
use Rattle.std.specs.Prelude.{◌&&◌, not, nat_le, ◌==◌}
use Rattle.std.specs.List.{list_all}
use Rattle.std.specs.Str.{IsUtf8, IsAscii}
use Rattle.std.specs.Char.{is_ascii_graphic}
use Rattle.std.proofs.lemmas.Bool.{and_parts, leb-true, false_from_ne_true}
use Rattle.std.proofs.lemmas.Bool.Decides.{nat_tests}
use Rattle.std.proofs.lemmas.Str.{IsUtf8-from_ascii}
use Rattle.pl_base.specs.declared.names.TheConstants.{MAX_NAME, SEPARATOR}
use Rattle.pl_base.specs.Names.{is_valid_name, is_name_byte, is_own_name, is_dots, has_name_length, IsNameLength}

-- the test of a name's length
pub name_length : (name : List ℕ) → has_name_length name ≡ true → IsNameLength name
name_length name passes =
    let parts = and_parts (nat_le 1 (length name)) (nat_le (length name) MAX_NAME) passes in
    (grind (arith, nat_tests, parts.0), grind (arith, nat_tests, parts.1))

-- what the parts of the test of a valid name are
record Parts (name : List ℕ) : Type 0 where
  length : has_name_length name ≡ true
  bytes : list_all is_name_byte name ≡ true

parts_of : (name : List ℕ) → is_valid_name name ≡ true → Parts name
unfolding is_valid_name
parts_of name valid =
    let p1 = and_parts (has_name_length name && list_all is_name_byte name && not (is_own_name name)) (not (is_dots name)) valid in
    let p2 = and_parts (has_name_length name && list_all is_name_byte name) (not (is_own_name name)) p1.0 in
    let p3 = and_parts (has_name_length name) (list_all is_name_byte name) p2.0 in
    record { length = p3.0; bytes = p3.1 }

-- a valid name is one that a call of a folder may be given
pub valid_length : (name : List ℕ) → is_valid_name name ≡ true → IsNameLength name
valid_length name valid = name_length name (parts_of name valid).length

name_bytes_ascii : (name : List ℕ) → list_all is_name_byte name ≡ true → IsAscii name
unfolding is_name_byte
name_bytes_ascii [] all i = omega arith
name_bytes_ascii (b ∷ name) all zero =
    let parts = and_parts (is_name_byte b) (list_all is_name_byte name) all in
    let front = and_parts (is_ascii_graphic b) (not (b == SEPARATOR)) parts.0 in
    omega (arith, leb-true b 126 (and_parts (nat_le 33 b) (nat_le b 126) front.0).1)
name_bytes_ascii (b ∷ name) all (suc i) = name_bytes_ascii name (and_parts (is_name_byte b) (list_all is_name_byte name) all).1 i

-- what is no UTF-8 text is no valid name
pub not_text : (name : List ℕ) → (IsUtf8 name → ⊥) → is_valid_name name ≡ false
not_text name none = false_from_ne_true (is_valid_name name) (λ valid. none (IsUtf8-from_ascii name (name_bytes_ascii name (parts_of name valid).bytes)))
