-- The file of a plain and modest recipe is bytes.
use Rattle.std.proofs.Common.{◌≡◌, ℕ, zero, suc, ◌+◌, ◌-◌, ◌<◌, Bool, true, List, [], ◌∷◌, ◌++◌, length, replicate, Ok, refl, sym, subst, arith, inl, inr}
use Rattle.std.specs.Prelude.{not, ◌==◌, ◌&&◌, ◌||◌, nat_le, nat_lt, fold}
use Rattle.std.specs.List.{AllByRecursion, flat_map, list_all, list_any}
use Rattle.std.specs.Str.{bytes_eq}
use Rattle.std.proofs.lemmas.Bool.{and_parts, cases_Bool}
use Rattle.std.proofs.lemmas.Bool.Decides.{nat_tests}
use Rattle.pl_base.specs.Bytes.{IsBytes, bytes16, bytes32, bytes64}
use Rattle.pl_base.specs.Each.{run}
use Rattle.pl_base.specs.Names.{has_name_length, is_dots, is_name_byte, is_own_name, is_valid_name}
use Rattle.pl_base.proofs.AnswerLaws.{bind_ok, ok_same}
use Rattle.pl_base.proofs.WordLaws.{is_bytes_append, is_bytes_bytes16, is_bytes_bytes32, is_bytes_bytes64, is_bytes_nil, is_bytes_put, is_bytes_take, is_bytes_zeros}
use Rattle.pl_dyn.specs.declared.tags.Tag.{Tag}
use Rattle.pl_elf.specs.Written as written
use Rattle.pl_elf.specs.declared.segment.Segment.{Segment}
use Rattle.pl_build.specs.declared.fields.Field.{Field}
use Rattle.pl_build.specs.declared.fields.Field.TheVariants.{Byte, Half, Word, Xword}
use Rattle.pl_build.specs.declared.line.DataWord.{DataWord}
use Rattle.pl_build.specs.declared.layout.Tables.{Tables}
use Rattle.pl_build.specs.declared.line.SymbolLine.{SymbolLine}
use Rattle.pl_build.specs.declared.layout_plan.LayoutPlan.{LayoutPlan}
use Rattle.pl_build.specs.declared.recipe.Recipe.{Recipe}
use Rattle.pl_build.specs.declared.recipe.Settings.{Settings}
use Rattle.pl_build.specs.declared.relocations.Rela.{Rela}
use Rattle.pl_build.specs.declared.roles.PlacedSection.{PlacedSection}
use Rattle.pl_build.specs.declared.roles.Role.{Role}
use Rattle.pl_build.specs.declared.roles.Role.TheVariants.{Null, Hash, GnuHash, Dynsym, Dynstr, RelaDyn, RelaPlt, Dynamic, Data, Bss, Shstrtab}
use Rattle.pl_build.specs.declared.string_table.StringTable.{StringTable}
use Rattle.pl_build.specs.Choices.{chosen}
use Rattle.pl_build.specs.Data.{data_bytes, word_put}
use Rattle.pl_build.specs.Dynamic.{dynamic_table, end_tag, needed_tags, packed_tags, relocation_tags, spare_tags, table_tags, tag_bytes, usual_tags, version_tags}
use Rattle.pl_build.specs.Fields.{field_bytes, fields}
use Rattle.pl_build.specs.File.{file_of, front, header_bytes, interp_of, places_of, sections_offset, up_to_data}
use Rattle.pl_build.specs.HashTables.{gnu_table, gnu_words, sysv_table, sysv_words}
use Rattle.pl_build.specs.Layout.{aligned, contents, end_of, filled_to, no_tables, role_added, table_added, tables}
use Rattle.pl_build.specs.LayoutPlan.{has_interp, is_jump_slot, is_other, plan_of}
use Rattle.pl_build.specs.Relocations.{jump_slots, others, rela_bytes}
use Rattle.pl_build.specs.Roles.{section_name}
use Rattle.pl_build.specs.Sections.{section_row_bytes, section_rows}
use Rattle.pl_build.specs.Segments.{data_offset}
use Rattle.pl_build.specs.StringTable.{has_text, section_names, start, symbol_added, symbols_added, text_added, texts_added}
use Rattle.pl_build.specs.SymbolTable.{entry_bytes, symbol_table}
use Rattle.law_demo.specs.Modest.{IsModest, IsModestSymbol, IsValidName}
use Rattle.law_demo.specs.Plain.{IsPlain}
use Rattle.law_demo.proofs.FileLaws.{file_by, made_is, names_of}
use Rattle.law_demo.proofs.HeadLaws.{sixteen}
use Rattle.law_demo.proofs.LaidLaws.{in_limit_ok}
use Rattle.law_demo.proofs.RelocLaws.{all_ordered, plan_symbols}
use Rattle.law_demo.proofs.RoleLaws.{all_chosen, plain_roles, plain_strings, roles_plain}
use Rattle.law_demo.specs.Forms.{PlainFilesAreBytes}

-- ---- fields

flat_bytes : {X : Type 0} (f : X → List ℕ) (xs : List X) → ((x : X) → IsBytes (f x)) → IsBytes (flat_map f xs)
flat_bytes f [] each = is_bytes_nil
flat_bytes f (x ∷ xs) each = is_bytes_append (f x) (flat_map f xs) (each x) (flat_bytes f xs each)

field_is : (x : Field) → IsBytes (field_bytes x)
unfolding bytes16 bytes32 bytes64
field_is (Byte n) = is_bytes_take 1 (bytes16 n) (is_bytes_bytes16 n)
field_is (Half n) = is_bytes_bytes16 n
field_is (Word n) = is_bytes_bytes32 n
field_is (Xword n) = is_bytes_bytes64 n

fields_are : (xs : List Field) → IsBytes (fields xs)
unfolding fields
fields_are xs = flat_bytes field_bytes xs field_is

filled_is : (offset : ℕ) (xs : List ℕ) → IsBytes xs → IsBytes (filled_to offset xs)
unfolding filled_to
filled_is offset xs h = is_bytes_append xs (replicate (offset - length xs) 0) h (is_bytes_zeros (offset - length xs))

-- ---- texts

below : (b : ℕ) → is_name_byte b ≡ true → b < 256
unfolding is_name_byte
below b h = grind (arith, nat_tests)

one_more : (b : ℕ) (xs : List ℕ) → b < 256 → IsBytes xs → IsBytes (b ∷ xs)
one_more b xs lt h zero = lt
one_more b xs lt h (suc i) = h i

name_bytes : (name : List ℕ) → list_all is_name_byte name ≡ true → IsBytes name
name_bytes [] all = is_bytes_nil
name_bytes (b ∷ name) all = let parts = and_parts (is_name_byte b) (list_all is_name_byte name) all in one_more b name (below b parts.0) (name_bytes name parts.1)

valid_bytes : (name : List ℕ) → is_valid_name name ≡ true → IsBytes name
unfolding is_valid_name
valid_bytes name valid =
    let p1 = and_parts (has_name_length name && list_all is_name_byte name && not (is_own_name name)) (not (is_dots name)) valid in
    let p2 = and_parts (has_name_length name && list_all is_name_byte name) (not (is_own_name name)) p1.0 in
    let p3 = and_parts (has_name_length name) (list_all is_name_byte name) p2.0 in
    name_bytes name p3.1

zero_end : IsBytes (0 ∷ [])
zero_end = one_more 0 [] (omega arith) is_bytes_nil

added_is : (s : StringTable) (text : List ℕ) → IsBytes s.bytes → IsBytes text → IsBytes (text_added s text).bytes
unfolding text_added
added_is s text h k = elim (cases_Bool (bytes_eq text [] || list_any (has_text text) s.entries)) [
  | inl old ↦ rw old h
  | inr new ↦ rw new (is_bytes_append (s.bytes ++ text) (0 ∷ []) (is_bytes_append s.bytes text h k) zero_end)
]

texts_are : (s : StringTable) (texts : List (List ℕ)) → IsBytes s.bytes → AllByRecursion IsValidName texts → IsBytes (texts_added s texts).bytes
unfolding texts_added
texts_are s [] h all = h
texts_are s (text ∷ texts) h all = texts_are (text_added s text) texts (added_is s text h (valid_bytes text all.0)) all.1

abbrev IsNamed : SymbolLine → Type 0
IsNamed x = is_valid_name x.name ≡ true

symbols_are : (s : StringTable) (symbols : List SymbolLine) → IsBytes s.bytes → AllByRecursion IsNamed symbols → IsBytes (symbols_added s symbols).bytes
unfolding symbols_added
symbols_are s [] h all = h
symbols_are s (x ∷ symbols) h all = symbols_are (symbol_added s x) symbols (added_is s x.name h (valid_bytes x.name all.0)) all.1

named_all : (s : Settings) (symbols : List SymbolLine) → AllByRecursion (IsModestSymbol s) symbols → AllByRecursion IsNamed symbols
named_all s [] all = tt
named_all s (x ∷ symbols) all = (all.0.name, named_all s symbols all.1)

strings_are : (r : Recipe) → IsPlain r → IsModest r → IsBytes (plan_of r).strings.bytes
strings_are r plain modest =
    subst (λ (s : StringTable). IsBytes s.bytes) (sym (plain_strings r plain))
    (symbols_are (texts_added start r.needs) (plan_of r).symbols (texts_are start r.needs zero_end modest.needs)
    (subst (AllByRecursion IsNamed) (sym (plan_symbols r)) (all_ordered IsNamed r.settings r.symbols (named_all r.settings r.symbols modest.symbols))))

-- the names of sections
names_shapes : (a b c d : Bool) → list_all (λ x. nat_lt x 256) (section_names (plain_roles a b c d)).bytes ≡ true
unfolding chosen section_names section_name text_added
names_shapes = sixteen (λ a b c d. list_all (λ x. nat_lt x 256) (section_names (plain_roles a b c d)).bytes) refl

all_below : (xs : List ℕ) → list_all (λ x. nat_lt x 256) xs ≡ true → IsBytes xs
all_below [] all = is_bytes_nil
all_below (x ∷ xs) all = let parts = and_parts (nat_lt x 256) (list_all (λ y. nat_lt y 256) xs) all in one_more x xs (less x parts.0) (all_below xs parts.1)
  where
    less : (b : ℕ) → nat_lt b 256 ≡ true → b < 256
    less b h = grind (arith, nat_tests)

names_are : (r : Recipe) → IsPlain r → IsBytes (names_of (plan_of r)).bytes
names_are r plain = subst (λ (l : List Role). IsBytes (section_names l).bytes) (sym (roles_plain r plain)) (all_below _ (names_shapes _ _ _ _))

-- ---- tables

sysv_is : (p : LayoutPlan) → IsBytes (sysv_table p)
unfolding sysv_table sysv_words
sysv_is p = is_bytes_append _ _ (is_bytes_append _ _ (is_bytes_append _ _ (fields_are _) (fields_are _)) (fields_are _)) (fields_are _)

gnu_is : (p : LayoutPlan) → IsBytes (gnu_table p)
unfolding gnu_table gnu_words
gnu_is p = is_bytes_append _ _ (is_bytes_append _ _ (fields_are _) (fields_are _)) (fields_are _)

entries_are : (p : LayoutPlan) → IsBytes (symbol_table p)
unfolding symbol_table entry_bytes
entries_are p = is_bytes_append _ _ (fields_are _) (flat_bytes entry_bytes _ (λ e. fields_are _))

relas_are : (rs : List Rela) → IsBytes (flat_map rela_bytes rs)
unfolding rela_bytes
relas_are rs = flat_bytes rela_bytes rs (λ r. fields_are _)

tags_are : (ts : List Tag) → IsBytes (flat_map tag_bytes ts)
unfolding tag_bytes
tags_are ts = flat_bytes tag_bytes ts (λ t. fields_are _)

dynamic_is : (p : LayoutPlan) (places : List PlacedSection) → IsBytes (dynamic_table p places)
unfolding dynamic_table
dynamic_is p places =
    let a : List ℕ = flat_map tag_bytes (needed_tags p) in
    let b : List ℕ = flat_map tag_bytes (table_tags p places) in
    let c : List ℕ = flat_map tag_bytes (relocation_tags places) in
    let d : List ℕ = flat_map tag_bytes (packed_tags places) in
    let e : List ℕ = flat_map tag_bytes (version_tags p places) in
    let f : List ℕ = flat_map tag_bytes (usual_tags p) in
    let g : List ℕ = flat_map tag_bytes (end_tag ∷ []) in
    let h : List ℕ = flat_map tag_bytes (spare_tags p) in
    is_bytes_append (a ++ b ++ c ++ d ++ e ++ f ++ g) h (is_bytes_append (a ++ b ++ c ++ d ++ e ++ f) g (is_bytes_append (a ++ b ++ c ++ d ++ e) f (is_bytes_append (a ++ b ++ c ++ d) e (is_bytes_append (a ++ b ++ c) d (is_bytes_append (a ++ b) c (is_bytes_append (a) b (tags_are (needed_tags p)) (tags_are (table_tags p places))) (tags_are (relocation_tags places))) (tags_are (packed_tags places))) (tags_are (version_tags p places))) (tags_are (usual_tags p))) (tags_are (end_tag ∷ []))) (tags_are (spare_tags p))

-- what a section holds
abbrev HoldsBytes : LayoutPlan → Role → Type 0
HoldsBytes p role = (places : List PlacedSection) → IsBytes (contents p places role)

roles_hold : (r : Recipe) → IsPlain r → IsModest r → AllByRecursion (HoldsBytes (plan_of r)) (plan_of r).roles
unfolding contents others jump_slots
roles_hold r plain modest =
    let p : LayoutPlan = plan_of r in
    let texts = strings_are r plain modest in
    subst (AllByRecursion (HoldsBytes p)) (sym (roles_plain r plain))
    (all_chosen (HoldsBytes p)
    ((true, Null) ∷ (r.settings.hashes.sysv, Hash) ∷ (r.settings.hashes.gnu, GnuHash) ∷ (true, Dynsym) ∷ (true, Dynstr) ∷ (list_any is_other r.relocations, RelaDyn) ∷ (list_any is_jump_slot r.relocations, RelaPlt)
    ∷ (true, Dynamic) ∷ (true, Data) ∷ (true, Bss) ∷ (true, Shstrtab) ∷ []) (
      λ e places. is_bytes_nil,
      (
        λ e places. sysv_is p,
        (
          λ e places. gnu_is p,
          (
            λ e places. entries_are p,
            (
              λ e places. texts,
              (
                λ e places. relas_are _,
                (
                  λ e places. relas_are _,
                  (λ e places. dynamic_is p places, (λ e places. is_bytes_nil, (λ e places. is_bytes_nil, (λ e places. is_bytes_nil, tt)))),
                ),
              ),
            ),
          ),
        ),
      ),
    ))

step_is : (p : LayoutPlan) (t u : Tables) (role : Role) → IsBytes t.bytes → HoldsBytes p role → role_added p t role ≡ Ok u → IsBytes u.bytes
unfolding role_added table_added aligned
step_is p t u role h k e = elim (cases_Bool (length (contents p t.places role) == 0)) [
  | inl none ↦ subst (λ (v : Tables). IsBytes v.bytes) (ok_same t u (rw none at e)) h
  | inr some ↦ subst (λ (v : Tables). IsBytes v.bytes) (in_limit_ok (table_added p t role (contents p t.places role)) u (rw some at e)).0
      (is_bytes_append (aligned t.bytes) (contents p t.places role) (filled_is _ t.bytes h) (k t.places))
]

run_is : (p : LayoutPlan) (roles : List Role) (t u : Tables) → IsBytes t.bytes → AllByRecursion (HoldsBytes p) roles → run (role_added p) t roles ≡ Ok u → IsBytes u.bytes
unfolding run
run_is p [] t u h all e = subst (λ (v : Tables). IsBytes v.bytes) (ok_same t u e) h
run_is p (role ∷ roles) t u h all e =
    let step = bind_ok (role_added p t role) (λ v. run (role_added p) v roles) u e in
    run_is p roles step.0 u (step_is p t step.0 role h all.0 step.1) all.1 step.2

tables_are : (r : Recipe) (t : Tables) → IsPlain r → IsModest r → tables (plan_of r) ≡ Ok t → IsBytes t.bytes
unfolding tables
tables_are r t plain modest e = run_is (plan_of r) (plan_of r).roles no_tables t is_bytes_nil (roles_hold r plain modest) e

-- ---- the file

segment_is : (s : Segment) → IsBytes (written.segment_bytes s)
unfolding written.segment_bytes
segment_is s =
    is_bytes_append _ _ (is_bytes_bytes32 s.kind) (is_bytes_append _ _ (is_bytes_bytes32 s.flags) (is_bytes_append _ _ (is_bytes_bytes64 s.offset) (is_bytes_append _ _ (is_bytes_bytes64 s.vaddr)
    (is_bytes_append _ _ (is_bytes_bytes64 s.paddr) (is_bytes_append _ _ (is_bytes_bytes64 s.filesz) (is_bytes_append _ _ (is_bytes_bytes64 s.memsz) (is_bytes_append _ _ (is_bytes_bytes64 s.align) is_bytes_nil)))))))

word_is : (bytes : List ℕ) (w : DataWord) → IsBytes bytes → IsBytes (word_put bytes w)
unfolding word_put
word_is bytes w h = elim (cases_Bool (nat_le (w.offset + 8) (length bytes))) [
  | inl there ↦ rw there (is_bytes_put w.offset (bytes64 w.value) bytes (is_bytes_bytes64 w.value) h)
  | inr past ↦ rw past h
]

words_are : (words : List DataWord) (bytes : List ℕ) → IsBytes bytes → IsBytes (fold word_put bytes words)
words_are [] bytes h = h
words_are (w ∷ words) bytes h = words_are words (word_put bytes w) (word_is bytes w h)

data_is : (size : ℕ) (words : List DataWord) → IsBytes (data_bytes size words)
unfolding data_bytes
data_is size words = words_are words (replicate size 0) (is_bytes_zeros size)

header_is : (p : LayoutPlan) (phnum shoff : ℕ) → IsBytes (header_bytes p phnum shoff)
unfolding header_bytes
header_is p phnum shoff = is_bytes_append _ _ (is_bytes_append _ _ (fields_are _) (fields_are _)) (fields_are _)

rows_are : (p : LayoutPlan) (t : Tables) → IsBytes (flat_map section_row_bytes (section_rows p (names_of p) (places_of p t (data_offset (end_of t)) (length (names_of p).bytes))))
unfolding section_row_bytes
rows_are p t = flat_bytes section_row_bytes _ (λ s. is_bytes_append _ _ (fields_are _) (fields_are _))

interp_none : (r : Recipe) → IsPlain r → interp_of (plan_of r).settings ≡ []
unfolding interp_of has_interp plan_of
interp_none r plain = rw plain.settings.bare refl

front_is : (r : Recipe) (t : Tables) (shoff : ℕ) → IsPlain r → IsBytes (front (plan_of r) t (end_of t) shoff)
unfolding front
front_is r t shoff plain =
    is_bytes_append _ (interp_of (plan_of r).settings) (filled_is _ _ (is_bytes_append _ _ (header_is (plan_of r) _ shoff) (flat_bytes written.segment_bytes _ segment_is))) (subst IsBytes (sym (interp_none r plain)) is_bytes_nil)

data_after_is : (r : Recipe) (t : Tables) (shoff : ℕ) → IsPlain r → IsBytes t.bytes → IsBytes (up_to_data (plan_of r) t (end_of t) shoff)
unfolding up_to_data
data_after_is r t shoff plain h = filled_is _ _ (is_bytes_append _ t.bytes (filled_is _ _ (front_is r t shoff plain)) h)

file_is : (r : Recipe) (t : Tables) → IsPlain r → IsModest r → tables (plan_of r) ≡ Ok t → IsBytes (file_by (plan_of r) t)
unfolding file_of
file_is r t plain modest e =
    let p : LayoutPlan = plan_of r in
    let shoff : ℕ = sections_offset p (end_of t) (names_of p) in
    is_bytes_append _ _ (filled_is shoff _ (is_bytes_append _ (names_of p).bytes (is_bytes_append (up_to_data p t (end_of t) shoff) (data_bytes p.settings.data_size p.words) (data_after_is r t shoff plain (tables_are r t plain modest e)) (data_is p.settings.data_size p.words)) (names_are r plain)))
    (rows_are p t)

pub plain_bytes : PlainFilesAreBytes
plain_bytes r bytes plain modest made_so =
    let file = made_is (plan_of r) bytes made_so in
    subst IsBytes (sym file.2) (file_is r file.0 plain modest file.1)
