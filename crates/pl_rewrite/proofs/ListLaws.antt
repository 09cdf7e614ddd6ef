-- The list of members, and what makes them a set.
use Rattle.std.proofs.Common.{◌≡◌, ℕ, zero, suc, ◌+◌, ◌*◌, ◌/◌, ◌%◌, ◌^◌, ◌<◌, ◌≤◌, Bool, true, false, List, [], ◌∷◌, ◌++◌, length, refl, sym, ap, subst, ◌∙◌, arith, inl, inr}
use Rattle.std.specs.Prelude.{◌&&◌, ◌==◌, not, nat_le, nat_lt}
use Rattle.std.specs.Int.{byte_at, to_be_bytes, w32}
use Rattle.std.specs.List.{All, AllByRecursion, IsDistinct, flat_map, list_all, list_any}
use Rattle.std.specs.Str.{bytes_eq}
use Rattle.std.proofs.Math.Nat.{mod-lt}
use Rattle.std.proofs.lemmas.Bool.{cases_Bool, and_from, and_parts, lt-ltb, or_from}
use Rattle.std.proofs.lemmas.List.{length-append}
use Rattle.std.proofs.lemmas.List.Elements.{All-head, All-tail}
use Rattle.pl_base.specs.Bytes.{IsBytes, word32}
use Rattle.pl_base.specs.Names.{is_valid_name}
use Rattle.pl_base.specs.Windows.{any_share}
use Rattle.pl_base.specs.declared.names.TheConstants.{MAX_NAME}
use Rattle.pl_base.proofs.NameLaws.{valid_length}
use Rattle.pl_base.proofs.WordLaws.{is_bytes_nil, is_bytes_append, word32_below}
use Rattle.pl_conflict.specs.Prelinked.{Firm, are_set, has_numbers, is_version, list_of, list_row, windows_of}
use Rattle.pl_conflict.proofs.MemberLaws.{library_numbers, program_numbers}
use Rattle.pl_elf.specs.Kinds.{is_library}
use Rattle.pl_elf.specs.declared.constants.TheConstants.{ADDRESS_LIMIT}
use Rattle.pl_form.specs.Library.{IsListing}
use Rattle.pl_lists.specs.Lists.{are_distinct, is_list, is_row, list_strings}
use Rattle.pl_lists.specs.declared.list_row.ListRow.{ListRow}
use Rattle.pl_rewrite.specs.Forms.{HasNumbers, has_valid_name}
use Rattle.pl_rewrite.specs.Sources.{AreSources, member_names}
use Rattle.pl_scope.proofs.WalkedLaws.{limit_is}
use Rattle.sha2.specs.Sha256.{sha256, digest_bytes as hash_bytes}
use Rattle.pl_rewrite.proofs.FirmLaws.{true_all}

-- ---- a digest is bytes

one_byte : (j number : ℕ) → byte_at j number < 256
one_byte zero number = omega arith
one_byte (suc j) number = mod-lt (number / 256 ^ suc j) (omega arith)

four_bytes : (n : ℕ) → IsBytes (to_be_bytes w32 n)
four_bytes n zero = one_byte 3 n
four_bytes n (suc zero) = one_byte 2 n
four_bytes n (suc (suc zero)) = one_byte 1 n
four_bytes n (suc (suc (suc zero))) = one_byte 0 n
four_bytes n (suc (suc (suc (suc i)))) = is_bytes_nil i

hash_is_bytes : (h : List ℕ) (n : ℕ) → IsBytes (hash_bytes h n)
unfolding hash_bytes
hash_is_bytes h zero = is_bytes_nil
hash_is_bytes h (suc n) = is_bytes_append (hash_bytes h n) _ (hash_is_bytes h n) (four_bytes _)

sha_bytes : (o : List ℕ) → IsBytes (sha256 o)
unfolding sha256
sha_bytes o = hash_is_bytes _ 8

-- ---- numbers

pub library_is : (r : Firm) (b : Bool) → is_library r.object.kind ≡ true → is_version r.member.version ≡ true → r.member.stamp < 2 ^ 32 → b ≡ (r.member.slot % r.object.align == 0 && nat_le (r.member.slot + r.object.span) ADDRESS_LIMIT)
    → b ≡ has_numbers r
unfolding has_numbers
library_is r b library version stamp is =
    let low : nat_lt r.member.stamp (2 ^ 32) ≡ true = lt-ltb r.member.stamp (2 ^ 32) stamp in
    rw (version, library, low, ← is) (last b)
  where
    last : (b : Bool) → b ≡ (b && true)
    last true = refl
    last false = refl

pub program_is : (r : Firm) (b : Bool) → is_library r.object.kind ≡ false → is_version r.member.version ≡ true → b ≡ (r.member.slot == 0 && r.member.stamp == 0) → b ≡ has_numbers r
unfolding has_numbers
program_is r b other version is = rw (version, other) is

stamp_low : (r : Firm) → has_numbers r ≡ true → r.member.stamp < 2 ^ 32
stamp_low r e = elim (cases_Bool (is_library r.object.kind)) [
  | inl library ↦ (library_numbers r e library).stamp
  | inr other ↦ let none = (program_numbers r e other).1 in omega (arith, none)
]

-- ---- rows

kept : (a b c : Bool) → b ≡ true → c ≡ true → (a && b && c) ≡ a
kept true b c e f = rw (e, f) refl
kept false b c e f = refl

row_is : (r : Firm) → has_numbers r ≡ true → is_row (list_row r) ≡ has_valid_name r
unfolding is_row
row_is r e =
    kept (is_valid_name r.member.name) (nat_lt r.member.stamp (2 ^ 32)) (nat_lt (word32 0 (sha256 r.member.original)) (2 ^ 32)) (lt-ltb r.member.stamp (2 ^ 32) (stamp_low r e))
    (lt-ltb (word32 0 (sha256 r.member.original)) (2 ^ 32) (word32_below 0 (sha256 r.member.original) (sha_bytes r.member.original)))

rows_are : (rs : List Firm) → All HasNumbers rs → list_all is_row (list_of rs) ≡ list_all has_valid_name rs
rows_are [] numbers = refl
rows_are (r ∷ rs) numbers =
    ap (λ (b : Bool). b && list_all is_row (list_of rs)) (row_is r (All-head HasNumbers r rs numbers))
    ∙ ap (λ (b : Bool). has_valid_name r && b) (rows_are rs (All-tail HasNumbers r rs numbers))

none_same : (n : List ℕ) (rs : List Firm) → AllByRecursion (λ m. bytes_eq n m ≡ false) (member_names rs) → list_any (λ later. bytes_eq n later.name) (list_of rs) ≡ false
none_same n [] all = refl
none_same n (r ∷ rs) all = or_from (bytes_eq n r.member.name) (list_any (λ (later : ListRow). bytes_eq n later.name) (list_of rs)) all.0 (none_same n rs all.1)

rows_distinct : (rs : List Firm) → IsDistinct bytes_eq (member_names rs) → are_distinct (list_of rs) ≡ true
unfolding IsDistinct are_distinct
rows_distinct [] distinct = refl
rows_distinct (r ∷ rs) distinct =
    and_from (not (list_any (λ (later : ListRow). bytes_eq r.member.name later.name) (list_of rs))) (are_distinct (list_of rs)) (ap not (none_same r.member.name rs distinct.0)) (rows_distinct rs distinct.1)

list_is : (rs : List Firm) → All HasNumbers rs → IsDistinct bytes_eq (member_names rs) → is_list (list_of rs) ≡ list_all has_valid_name rs
list_is rs numbers distinct =
    ap (λ (b : Bool). list_all is_row (list_of rs) && b) (rows_distinct rs distinct) ∙ last (list_all is_row (list_of rs)) ∙ rows_are rs numbers
  where
    last : (b : Bool) → (b && true) ≡ b
    last true = refl
    last false = refl

-- the names of others, where no two of all are one
pub later_distinct : (r : Firm) (rs : List Firm) → AreSources (r ∷ rs) → IsDistinct bytes_eq (member_names rs)
unfolding IsDistinct
later_distinct r rs are = are.distinct.1

-- ---- how long the strings are

most_is : MAX_NAME ≡ 255
most_is = refl

strings_nil : length (list_strings []) ≡ 0
unfolding list_strings
strings_nil = refl

strings_cons : (row : ListRow) (rows : List ListRow) → list_strings (row ∷ rows) ≡ (row.name ++ 0 ∷ []) ++ list_strings rows
unfolding list_strings
strings_cons row rows = refl

strings_short : (rs : List Firm) → list_all has_valid_name rs ≡ true → length (list_strings (list_of rs)) ≤ 256 * length rs
strings_short [] valid = omega (arith, strings_nil)
strings_short (r ∷ rs) valid =
    let p = and_parts (has_valid_name r) (list_all has_valid_name rs) valid in
    let name : length r.member.name ≤ MAX_NAME = (valid_length r.member.name p.0).1 in
    let front = length-append (r.member.name ++ 0 ∷ []) (list_strings (list_of rs)) in
    let ended = length-append r.member.name (0 ∷ []) in
    let step = ap length (strings_cons (list_row r) (list_of rs)) in
    omega (arith, step, front, ended, name, most_is, strings_short rs p.1)

pub listing : (r : Firm) (rs : List Firm) → AreSources (r ∷ rs) → All HasNumbers (r ∷ rs) → list_all has_valid_name rs ≡ true → IsListing (list_of rs)
listing r rs are numbers valid = record {
  spelled = list_is rs (All-tail HasNumbers r rs numbers) (later_distinct r rs are) ∙ valid;
  names = omega (arith, strings_short rs valid, are.few, limit_is);
}

-- ---- a set

-- the names of a list that is spelled are valid
pub valid_of : (r : Firm) (rs : List Firm) → AreSources (r ∷ rs) → All HasNumbers (r ∷ rs) → is_list (list_of rs) ≡ true → list_all has_valid_name rs ≡ true
valid_of r rs are numbers list = sym (list_is rs (All-tail HasNumbers r rs numbers) (later_distinct r rs are)) ∙ list

pub set_nothing : (rs : List Firm) → length rs < 1 → are_set rs ≡ false
unfolding are_set
set_nothing [] none = refl
set_nothing (r ∷ rs) none = absurd (omega (arith, none))

set_cons : (r : Firm) (rs : List Firm) → AreSources (r ∷ rs) → (list_all has_numbers (r ∷ rs) && not (any_share (flat_map windows_of (r ∷ rs))) && list_all has_valid_name rs) ≡ are_set (r ∷ rs)
unfolding are_set
set_cons r rs are = elim (cases_Bool (list_all has_numbers (r ∷ rs))) [
  | inl good ↦
      let all : All HasNumbers (r ∷ rs) = true_all has_numbers (r ∷ rs) good in
      let list = list_is rs (All-tail HasNumbers r rs all) (later_distinct r rs are) in
      ap (λ (b : Bool). list_all has_numbers (r ∷ rs) && not (any_share (flat_map windows_of (r ∷ rs))) && b) (sym list)
  | inr bad ↦ rw bad refl
]

-- as the code tests it
pub set_tests : (all : List Firm) (r : Firm) (rs : List Firm) (numbers apart names : Bool) → all ≡ r ∷ rs → AreSources all → numbers ≡ list_all has_numbers all → apart ≡ not (any_share (flat_map windows_of all)) → names ≡ list_all has_valid_name rs
    → (numbers && apart && names) ≡ are_set all
set_tests all r rs numbers apart names is are first second third = rw (first, second, third, is) (set_cons r rs (subst AreSources is are))
