-- Each line is read as what it spells.
use Rattle.std.proofs.Common.{◌≡◌, ℕ, ◌^◌, ◌<◌, Bool, true, false, List, [], ◌∷◌, ◌++◌, Some, refl, ap, ◌∙◌, arith, inl, inr}
use Rattle.std.specs.Prelude.{◌==◌, ◌||◌, codes, cond}
use Rattle.std.specs.List.{list_all, list_any}
use Rattle.std.proofs.lemmas.Bool.{cases_Bool, and_parts}
use Rattle.std.proofs.lemmas.Bool.Decides.{nat_tests}
use Rattle.pl_base.specs.Names.{is_valid_name, is_name_byte, is_own_name, is_dots}
use Rattle.pl_build.specs.declared.line.Line.TheVariants.{Wrong, Needs, Names, Relocates}
use Rattle.pl_build.specs.Grammar.{line, line_of, pair, needs_line, longer}
use Rattle.pl_build.specs.RelocationLines.{symbol_kind, other_kind, relocation_kind, is_no_symbol, fits, addend, relocation_line, rel_line}
use Rattle.pl_build.specs.SymbolLines.{bind_of, symbol_type, visibility_of, after_visibility, has_file, named_file, after_file, has_place, place_offset, after_place, is_def, def_named, def_line, has_fitting_version, is_ref, ref_named, ref_line}
use Rattle.pl_build.specs.Words.{is_digit, digit, is_number, digit_more, value, number, is_negative, magnitude, cut, name_of, has_version, is_doubled, version_of, is_written}
use Rattle.law_demo.specs.Spelled.{IsPlainName, hexadecimal, defined, referred, recipe_relocation, NeedsAreRead, FunctionsAreRead, ObjectsAreRead, RefsAreRead, CopiesAreRead, RelativesAreRead, by_function, AbsolutesAreRead, GlobDatsAreRead, JumpSlotsAreRead}
use Rattle.law_demo.specs.Split.{split_by}
use Rattle.law_demo.proofs.NumberLaws.{hex_all, numbers_read}
use Rattle.law_demo.proofs.SplitLaws.{pieces_split, split_ended, split_last}

-- a line by its words
pub line_by : (text : List ℕ) (words : List (List ℕ)) → split_by 32 text ≡ words → line text ≡ line_of words
unfolding line
line_by text words e = ap line_of (pieces_split 32 text ∙ e)

-- ---- digits

no_blank : (xs : List ℕ) → list_all is_digit xs ≡ true → list_any (λ b. b == 32) xs ≡ false
unfolding is_digit
no_blank [] all = refl
no_blank (b ∷ xs) all =
    let parts = and_parts (is_digit b) (list_all is_digit xs) all in
    elim (cases_Bool (b == 32)) [
      | inl hit ↦ absurd (not_digit b hit parts.0)
      | inr miss ↦ rw miss (no_blank xs parts.1)
    ]
  where
    not_digit : (b : ℕ) → (b == 32) ≡ true → is_digit b ≡ true → ⊥
    not_digit b hit is = grind (arith, nat_tests)

no_sign : (xs : List ℕ) → list_all is_digit xs ≡ true → is_negative xs ≡ false
unfolding is_negative is_digit
no_sign [] all = refl
no_sign (b ∷ xs) all =
    let parts = and_parts (is_digit b) (list_all is_digit xs) all in
    elim (cases_Bool (45 == b)) [
      | inl hit ↦ absurd (not_digit b hit parts.0)
      | inr miss ↦ rw miss refl
    ]
  where
    not_digit : (b : ℕ) → (45 == b) ≡ true → is_digit b ≡ true → ⊥
    not_digit b hit is = grind (arith, nat_tests)

hex_whole : (n : ℕ) → list_any (λ b. b == 32) (hexadecimal n) ≡ false
hex_whole n = no_blank (hexadecimal n) (hex_all n)

eight : number (codes "8") ≡ Some 8
unfolding number is_number is_digit digit digit_more value
eight = refl

nothing : number (codes "0") ≡ Some 0
unfolding number is_number is_digit digit digit_more value
nothing = refl

half_page : number (codes "800") ≡ Some 0x800
unfolding number is_number is_digit digit digit_more value
half_page = refl

-- an addend without a sign
hex_addend : (n : ℕ) → n < 2 ^ 64 → addend (hexadecimal n) ≡ Some (record { negative = false; magnitude = n })
unfolding addend magnitude
hex_addend n small = rw (no_sign (hexadecimal n) (hex_all n), numbers_read n small, no_sign (hexadecimal n) (hex_all n)) refl

no_addend : addend (codes "0") ≡ Some (record { negative = false; magnitude = 0 })
unfolding addend magnitude is_negative number is_number is_digit digit digit_more value
no_addend = refl

plain_written : (name : List ℕ) → IsPlainName name → is_written name ≡ true
unfolding is_written name_of has_version
plain_written name plain = rw (plain.unsigned, plain.valid) refl

-- ---- needs

needs_words : (name : List ℕ) → list_any (λ b. b == 32) name ≡ false → split_by 32 (codes "needs " ++ name) ≡ codes "needs" ∷ name ∷ []
unfolding split_by
needs_words name whole = ap (λ (ws : List (List ℕ)). codes "needs" ∷ ws) (split_last 32 name whole)

needs_of_words : (name : List ℕ) → IsPlainName name → line_of (codes "needs" ∷ name ∷ []) ≡ Needs name
unfolding line_of pair needs_line
needs_of_words name plain = rw plain.valid refl

pub needs_read : NeedsAreRead
needs_read name plain = line_by (codes "needs " ++ name) (codes "needs" ∷ name ∷ []) (needs_words name plain.whole) ∙ needs_of_words name plain

-- ---- def

function_words : (name hex : List ℕ) → list_any (λ b. b == 32) name ≡ false → list_any (λ b. b == 32) hex ≡ false
    → split_by 32 (codes "def " ++ (name ++ (codes " global func " ++ (hex ++ codes " 8")))) ≡ codes "def" ∷ name ∷ codes "global" ∷ codes "func" ∷ hex ∷ codes "8" ∷ []
unfolding split_by
function_words name hex one two =
    ap (λ (ws : List (List ℕ)). codes "def" ∷ ws) (split_ended 32 name (codes "global func " ++ (hex ++ codes " 8")) one)
    ∙ ap (λ (ws : List (List ℕ)). codes "def" ∷ name ∷ codes "global" ∷ codes "func" ∷ ws) (split_ended 32 hex (codes "8") two)

function_of_words : (name hex : List ℕ) (offset : ℕ) → IsPlainName name → number hex ≡ Some offset → line_of (codes "def" ∷ name ∷ codes "global" ∷ codes "func" ∷ hex ∷ codes "8" ∷ []) ≡ Names (defined name 2 offset)
unfolding line_of longer def_line bind_of symbol_type def_named is_def visibility_of after_visibility has_file named_file after_file name_of version_of is_doubled defined
function_of_words name hex offset plain is = rw (is, eight, plain_written name plain, plain.unsigned) refl

pub functions_read : FunctionsAreRead
functions_read name offset plain small =
    line_by (codes "def " ++ (name ++ (codes " global func " ++ (hexadecimal offset ++ codes " 8")))) (codes "def" ∷ name ∷ codes "global" ∷ codes "func" ∷ hexadecimal offset ∷ codes "8" ∷ []) (function_words name (hexadecimal offset) plain.whole (hex_whole offset))
    ∙ function_of_words name (hexadecimal offset) offset plain (numbers_read offset small)

object_words : (name : List ℕ) → list_any (λ b. b == 32) name ≡ false → split_by 32 (codes "def " ++ (name ++ codes " global object 800 8")) ≡ codes "def" ∷ name ∷ codes "global" ∷ codes "object" ∷ codes "800" ∷ codes "8" ∷ []
unfolding split_by
object_words name one = ap (λ (ws : List (List ℕ)). codes "def" ∷ ws) (split_ended 32 name (codes "global object 800 8") one)

object_of_words : (name : List ℕ) → IsPlainName name → line_of (codes "def" ∷ name ∷ codes "global" ∷ codes "object" ∷ codes "800" ∷ codes "8" ∷ []) ≡ Names (defined name 1 0x800)
unfolding line_of longer def_line bind_of symbol_type def_named is_def visibility_of after_visibility has_file named_file after_file name_of version_of is_doubled defined
object_of_words name plain = rw (half_page, eight, plain_written name plain, plain.unsigned) refl

pub objects_read : ObjectsAreRead
objects_read name plain =
    line_by (codes "def " ++ (name ++ codes " global object 800 8")) (codes "def" ∷ name ∷ codes "global" ∷ codes "object" ∷ codes "800" ∷ codes "8" ∷ []) (object_words name plain.whole) ∙ object_of_words name plain

-- ---- ref

ref_words : (name : List ℕ) → list_any (λ b. b == 32) name ≡ false → split_by 32 (codes "ref " ++ (name ++ codes " weak func")) ≡ codes "ref" ∷ name ∷ codes "weak" ∷ codes "func" ∷ []
unfolding split_by
ref_words name one = ap (λ (ws : List (List ℕ)). codes "ref" ∷ ws) (split_ended 32 name (codes "weak func") one)

ref_of_words : (name : List ℕ) → IsPlainName name → line_of (codes "ref" ∷ name ∷ codes "weak" ∷ codes "func" ∷ []) ≡ Names (referred name)
unfolding line_of longer ref_line bind_of symbol_type place_offset after_file has_file has_place ref_named is_ref has_fitting_version named_file after_place name_of version_of is_doubled has_version referred
ref_of_words name plain = rw (plain_written name plain, plain.unsigned) refl

pub refs_read : RefsAreRead
refs_read name plain = line_by (codes "ref " ++ (name ++ codes " weak func")) (codes "ref" ∷ name ∷ codes "weak" ∷ codes "func" ∷ []) (ref_words name plain.whole) ∙ ref_of_words name plain

-- ---- rel

copy_words : (name : List ℕ) → list_any (λ b. b == 32) name ≡ false → split_by 32 (codes "rel copy 800 " ++ (name ++ codes " 0")) ≡ codes "rel" ∷ codes "copy" ∷ codes "800" ∷ name ∷ codes "0" ∷ []
unfolding split_by
copy_words name one = ap (λ (ws : List (List ℕ)). codes "rel" ∷ codes "copy" ∷ codes "800" ∷ ws) (split_ended 32 name (codes "0") one)

-- of a kind other than `relative`
by_name : (kind : List ℕ) (number_of : ℕ) (hex name : List ℕ) (offset : ℕ) → relocation_kind kind ≡ Some number_of → (number_of == 8) ≡ false → number hex ≡ Some offset → IsPlainName name
    → relocation_line (codes "rel" ∷ kind ∷ hex ∷ name ∷ codes "0" ∷ []) ≡ Relocates (recipe_relocation name number_of offset 0)
unfolding relocation_line fits recipe_relocation
by_name kind number_of hex name offset is other at plain = rw (is, at, no_addend, plain_written name plain, other) (either (is_no_symbol name))
  where
    either : (b : Bool) → cond (b || true) (Relocates (recipe_relocation name number_of offset 0)) Wrong ≡ Relocates (recipe_relocation name number_of offset 0)
    either true = refl
    either false = refl

copy_kind : relocation_kind (codes "copy") ≡ Some 5
unfolding relocation_kind symbol_kind other_kind
copy_kind = refl

copy_of_words : (name : List ℕ) → IsPlainName name → line_of (codes "rel" ∷ codes "copy" ∷ codes "800" ∷ name ∷ codes "0" ∷ []) ≡ Relocates (recipe_relocation name 5 0x800 0)
unfolding line_of longer rel_line
copy_of_words name plain = by_name (codes "copy") 5 (codes "800") name 0x800 copy_kind refl half_page plain

pub copies_read : CopiesAreRead
copies_read name plain =
    line_by (codes "rel copy 800 " ++ (name ++ codes " 0")) (codes "rel" ∷ codes "copy" ∷ codes "800" ∷ name ∷ codes "0" ∷ []) (copy_words name plain.whole) ∙ copy_of_words name plain

-- a kind in one word, a place, a name
kind_words : (kind hex name : List ℕ) → list_any (λ b. b == 32) kind ≡ false → list_any (λ b. b == 32) hex ≡ false → list_any (λ b. b == 32) name ≡ false
    → split_by 32 (codes "rel " ++ (kind ++ (codes " " ++ (hex ++ (codes " " ++ (name ++ codes " 0")))))) ≡ codes "rel" ∷ kind ∷ hex ∷ name ∷ codes "0" ∷ []
unfolding split_by
kind_words kind hex name one two three =
    ap (λ (ws : List (List ℕ)). codes "rel" ∷ ws) (split_ended 32 kind (hex ++ (codes " " ++ (name ++ codes " 0"))) one)
    ∙ ap (λ (ws : List (List ℕ)). codes "rel" ∷ kind ∷ ws) (split_ended 32 hex (name ++ codes " 0") two)
    ∙ ap (λ (ws : List (List ℕ)). codes "rel" ∷ kind ∷ hex ∷ ws) (split_ended 32 name (codes "0") three)

absolute_kind : relocation_kind (codes "abs64") ≡ Some 1
unfolding relocation_kind symbol_kind other_kind
absolute_kind = refl

absolute_of_words : (hex name : List ℕ) (offset : ℕ) → number hex ≡ Some offset → IsPlainName name → line_of (codes "rel" ∷ codes "abs64" ∷ hex ∷ name ∷ codes "0" ∷ []) ≡ Relocates (recipe_relocation name 1 offset 0)
unfolding line_of longer rel_line
absolute_of_words hex name offset is plain = by_name (codes "abs64") 1 hex name offset absolute_kind refl is plain

pub absolutes_read : AbsolutesAreRead
absolutes_read name offset plain small =
    line_by (by_function (codes "abs64") offset name) (codes "rel" ∷ codes "abs64" ∷ hexadecimal offset ∷ name ∷ codes "0" ∷ []) (kind_words (codes "abs64") (hexadecimal offset) name refl (hex_whole offset) plain.whole)
    ∙ absolute_of_words (hexadecimal offset) name offset (numbers_read offset small) plain

globdat_kind : relocation_kind (codes "globdat") ≡ Some 6
unfolding relocation_kind symbol_kind other_kind
globdat_kind = refl

globdat_of_words : (hex name : List ℕ) (offset : ℕ) → number hex ≡ Some offset → IsPlainName name → line_of (codes "rel" ∷ codes "globdat" ∷ hex ∷ name ∷ codes "0" ∷ []) ≡ Relocates (recipe_relocation name 6 offset 0)
unfolding line_of longer rel_line
globdat_of_words hex name offset is plain = by_name (codes "globdat") 6 hex name offset globdat_kind refl is plain

pub globdats_read : GlobDatsAreRead
globdats_read name offset plain small =
    line_by (by_function (codes "globdat") offset name) (codes "rel" ∷ codes "globdat" ∷ hexadecimal offset ∷ name ∷ codes "0" ∷ []) (kind_words (codes "globdat") (hexadecimal offset) name refl (hex_whole offset) plain.whole)
    ∙ globdat_of_words (hexadecimal offset) name offset (numbers_read offset small) plain

jumpslot_kind : relocation_kind (codes "jumpslot") ≡ Some 7
unfolding relocation_kind symbol_kind other_kind
jumpslot_kind = refl

jumpslot_of_words : (hex name : List ℕ) (offset : ℕ) → number hex ≡ Some offset → IsPlainName name → line_of (codes "rel" ∷ codes "jumpslot" ∷ hex ∷ name ∷ codes "0" ∷ []) ≡ Relocates (recipe_relocation name 7 offset 0)
unfolding line_of longer rel_line
jumpslot_of_words hex name offset is plain = by_name (codes "jumpslot") 7 hex name offset jumpslot_kind refl is plain

pub jumpslots_read : JumpSlotsAreRead
jumpslots_read name offset plain small =
    line_by (by_function (codes "jumpslot") offset name) (codes "rel" ∷ codes "jumpslot" ∷ hexadecimal offset ∷ name ∷ codes "0" ∷ []) (kind_words (codes "jumpslot") (hexadecimal offset) name refl (hex_whole offset) plain.whole)
    ∙ jumpslot_of_words (hexadecimal offset) name offset (numbers_read offset small) plain

relative_words : (hex more : List ℕ) → list_any (λ b. b == 32) hex ≡ false → list_any (λ b. b == 32) more ≡ false → split_by 32 (codes "rel relative " ++ (hex ++ (codes " - " ++ more))) ≡ codes "rel" ∷ codes "relative" ∷ hex ∷ codes "-" ∷ more ∷ []
unfolding split_by
relative_words hex more one two =
    ap (λ (ws : List (List ℕ)). codes "rel" ∷ codes "relative" ∷ ws) (split_ended 32 hex (codes "- " ++ more) one)
    ∙ ap (λ (ws : List (List ℕ)). codes "rel" ∷ codes "relative" ∷ hex ∷ codes "-" ∷ ws) (split_last 32 more two)

relative_kind : relocation_kind (codes "relative") ≡ Some 8
unfolding relocation_kind symbol_kind other_kind
relative_kind = refl

no_symbol_fits : fits 8 (codes "-") ≡ true
unfolding fits is_written name_of has_version cut is_no_symbol is_valid_name is_name_byte is_own_name is_dots
no_symbol_fits = refl

relative_of_words : (hex more : List ℕ) (offset amount : ℕ) → number hex ≡ Some offset → addend more ≡ Some (record { negative = false; magnitude = amount })
    → line_of (codes "rel" ∷ codes "relative" ∷ hex ∷ codes "-" ∷ more ∷ []) ≡ Relocates (recipe_relocation (codes "-") 8 offset amount)
unfolding line_of longer rel_line relocation_line recipe_relocation
relative_of_words hex more offset amount at by = rw (relative_kind, at, by, no_symbol_fits) refl

pub relatives_read : RelativesAreRead
relatives_read offset addend fits small =
    line_by (codes "rel relative " ++ (hexadecimal offset ++ (codes " - " ++ hexadecimal addend))) (codes "rel" ∷ codes "relative" ∷ hexadecimal offset ∷ codes "-" ∷ hexadecimal addend ∷ []) (relative_words (hexadecimal offset) (hexadecimal addend) (hex_whole offset) (hex_whole addend))
    ∙ relative_of_words (hexadecimal offset) (hexadecimal addend) offset addend (numbers_read offset fits) (hex_addend addend small)
