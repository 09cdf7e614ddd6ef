-- Which tables there are.
use Rattle.std.proofs.Common.{◌≡◌, ℕ, ◌<◌, Bool, true, false, List, [], ◌∷◌, ◌++◌, length, map, Ok, refl, sym, ap, subst, ◌∙◌, append_assoc, length-append, arith, inl, inr}
use Rattle.std.specs.Prelude.{not, ◌==◌, ◌&&◌, filter, fold}
use Rattle.std.specs.List.{AllByRecursion, flat_map, list_any}
use Rattle.std.proofs.lemmas.Bool.{cases_Bool, false≢true}
use Rattle.std.proofs.lemmas.Bool.Decides.{nat_tests}
use Rattle.std.proofs.lemmas.List.{append-nil, map-append}
use Rattle.std.proofs.lemmas.List.Elements.{filter-append}
use Rattle.pl_base.specs.Each.{run}
use Rattle.pl_base.proofs.AnswerLaws.{ok_same, bind_ok}
use Rattle.pl_build.specs.declared.fields.Field.{Field}
use Rattle.pl_build.specs.declared.fields.Field.TheVariants.{Byte, Half, Word, Xword}
use Rattle.pl_build.specs.declared.layout.Tables.{Tables}
use Rattle.pl_build.specs.declared.line.Relocation.{Relocation}
use Rattle.pl_build.specs.declared.needed.Need.{Need}
use Rattle.pl_build.specs.declared.line.SymbolLine.{SymbolLine}
use Rattle.pl_build.specs.declared.layout_plan.LayoutPlan.{LayoutPlan}
use Rattle.pl_build.specs.declared.recipe.Recipe.{Recipe}
use Rattle.pl_build.specs.declared.relocations.Rela.{Rela}
use Rattle.pl_build.specs.declared.roles.PlacedSection.{PlacedSection}
use Rattle.pl_build.specs.declared.roles.Role.{Role}
use Rattle.pl_build.specs.declared.roles.Role.TheVariants.{Null, Interp, Hash, GnuHash, Dynsym, Dynstr, Versym, Verdef, Verneed, RelaDyn, RelaPlt, RelrDyn, Dynamic, Data, Bss, Shstrtab}
use Rattle.pl_build.specs.declared.string_table.StringTable.{StringTable}
use Rattle.pl_build.specs.Choices.{chosen}
use Rattle.pl_build.specs.Dynamic.{dynamic_table, tag_bytes, end_tag, needed_tags, table_tags, relocation_tags, packed_tags, version_tags, usual_tags, spare_tags}
use Rattle.pl_build.specs.Fields.{field_bytes, fields}
use Rattle.pl_build.specs.HashTables.{sysv_table, sysv_words, gnu_table, gnu_words}
use Rattle.pl_build.specs.Layout.{contents, role_added, table_added, tables, no_tables, place_at}
use Rattle.pl_build.specs.Needed.{needs_of, need_added, files_of}
use Rattle.pl_build.specs.LayoutPlan.{plan_of, roles_of, first_roles, next_roles, last_roles, has_interp, has_versions, is_versioned, is_jump_slot, is_other, strings_of}
use Rattle.pl_build.specs.Relocations.{rela_bytes, rela_of, jump_slots, others}
use Rattle.pl_build.specs.StringTable.{start, texts_added, symbols_added, symbol_added, versions_added, files_added}
use Rattle.pl_build.specs.SymbolTable.{symbol_table, entry_bytes}
use Rattle.law_demo.specs.Plain.{IsPlain, IsUnversioned}
use Rattle.law_demo.specs.Planned.{is_table}
use Rattle.law_demo.specs.Files.{RolesStand}
use Rattle.law_demo.proofs.BackLaws.{begins_long}
use Rattle.law_demo.proofs.LaidLaws.{in_limit_ok}
use Rattle.law_demo.proofs.TextLaws.{AreTexts, start_texts, added_texts, all_texts}

-- ---- rows that may be there

pub all_chosen : {T : Type 0} (P : T → Type 0) (choices : List (Bool × T)) → AllByRecursion (λ c. c.0 ≡ true → P c.1) choices → AllByRecursion P (chosen choices)
unfolding chosen
all_chosen P [] all = tt
all_chosen P (c ∷ choices) all = elim (cases_Bool c.0) [
  | inl there ↦ rw there (all.0 there, all_chosen P choices all.1)
  | inr missing ↦ rw missing (all_chosen P choices all.1)
]

-- the roles of a plain recipe
abbrev pub plain_roles : Bool → Bool → Bool → Bool → List Role
plain_roles sysv gnu others slots = chosen (
    (true, Null) ∷ (sysv, Hash) ∷ (gnu, GnuHash) ∷ (true, Dynsym) ∷ (true, Dynstr) ∷ (others, RelaDyn) ∷ (slots, RelaPlt)
    ∷ (true, Dynamic) ∷ (true, Data) ∷ (true, Bss) ∷ (true, Shstrtab) ∷ [])

-- ---- what a plain recipe needs no table for

unneeded : (needs : List Need) (symbols : List SymbolLine) → AllByRecursion IsUnversioned symbols → fold need_added needs symbols ≡ needs
unfolding need_added
unneeded needs [] all = refl
unneeded needs (s ∷ symbols) all =
    let one : need_added needs s ≡ needs = rw all.0.file refl in
    ap (λ (n : List Need). fold need_added n symbols) one ∙ unneeded needs symbols all.1

pub plain_needs : (r : Recipe) → IsPlain r → needs_of r.symbols ≡ []
unfolding needs_of
plain_needs r plain = unneeded [] r.symbols plain.symbols

unversioned : (symbols : List SymbolLine) → AllByRecursion IsUnversioned symbols → list_any is_versioned symbols ≡ false
unversioned [] all = refl
unversioned (s ∷ symbols) all = rw all.0.version (unversioned symbols all.1)

-- ---- its roles

joined : (a b c d : Bool) → chosen ((true, Null) ∷ (false, Interp) ∷ (true && a, Hash) ∷ (true && b, GnuHash) ∷ (true, Dynsym) ∷ (true, Dynstr) ∷ []) ++ chosen ((false, Versym) ∷ (false, Verdef) ∷ (false, Verneed) ∷ (c, RelaDyn) ∷ (d, RelaPlt) ∷ (false, RelrDyn) ∷ []) ++ chosen ((true, Dynamic) ∷ (true, Data) ∷ (true, Bss) ∷ (true, Shstrtab) ∷ []) ≡ plain_roles a b c d
unfolding chosen
joined true true true true = refl
joined true true true false = refl
joined true true false true = refl
joined true true false false = refl
joined true false true true = refl
joined true false true false = refl
joined true false false true = refl
joined true false false false = refl
joined false true true true = refl
joined false true true false = refl
joined false true false true = refl
joined false true false false = refl
joined false false true true = refl
joined false false true false = refl
joined false false false true = refl
joined false false false false = refl

roles_joined : (r : Recipe) → IsPlain r → roles_of r [] ≡ plain_roles r.settings.hashes.sysv r.settings.hashes.gnu (list_any is_other r.relocations) (list_any is_jump_slot r.relocations)
unfolding roles_of first_roles next_roles last_roles has_interp has_versions
roles_joined r plain =
    rw (plain.settings.linked, plain.settings.bare, plain.versions, plain.packed, unversioned r.symbols plain.symbols)
    (joined r.settings.hashes.sysv r.settings.hashes.gnu (list_any is_other r.relocations) (list_any is_jump_slot r.relocations))

pub roles_plain : (r : Recipe) → IsPlain r → (plan_of r).roles ≡ plain_roles r.settings.hashes.sysv r.settings.hashes.gnu (list_any is_other r.relocations) (list_any is_jump_slot r.relocations)
unfolding plan_of
roles_plain r plain = ap (roles_of r) (plain_needs r plain) ∙ roles_joined r plain

-- ---- its strings

symbols_texts : (s : StringTable) (symbols : List SymbolLine) → AreTexts s → AreTexts (symbols_added s symbols)
unfolding symbols_added
symbols_texts s [] h = h
symbols_texts s (x ∷ symbols) h = symbols_texts (symbol_added s x) symbols (added_texts s x.name h)

pub plain_strings : (r : Recipe) → IsPlain r → (plan_of r).strings ≡ symbols_added (texts_added start r.needs) (plan_of r).symbols
unfolding plan_of strings_of versions_added files_added files_of
plain_strings r plain = rw (plain_needs r plain, plain.versions) refl

pub plain_texts : (r : Recipe) → IsPlain r → AreTexts (plan_of r).strings
plain_texts r plain =
    subst AreTexts (sym (plain_strings r plain)) (symbols_texts (texts_added start r.needs) (plan_of r).symbols (all_texts start r.needs start_texts))

-- ---- tables that are not empty

some_bytes : (xs : List ℕ) → 0 < length xs → (length xs == 0) ≡ false
some_bytes xs lt = grind (arith, nat_tests)

front_some : (xs ys : List ℕ) → 0 < length xs → 0 < length (xs ++ ys)
front_some xs ys lt = omega (arith, lt, length-append xs ys)

behind_some : (xs ys : List ℕ) → 0 < length ys → 0 < length (xs ++ ys)
behind_some xs ys lt = omega (arith, lt, length-append xs ys)

some_field : (f : Field) → 0 < length (field_bytes f)
some_field (Byte n) = omega arith
some_field (Half n) = omega arith
some_field (Word n) = omega arith
some_field (Xword n) = omega arith

some_fields : (f : Field) (fs : List Field) → 0 < length (fields (f ∷ fs))
unfolding fields
some_fields f fs = front_some (field_bytes f) (flat_map field_bytes fs) (some_field f)

some_sysv : (p : LayoutPlan) → 0 < length (sysv_table p)
unfolding sysv_table sysv_words
some_sysv p = front_some _ _ (front_some _ _ (front_some _ _ (some_fields _ _)))

some_gnu : (p : LayoutPlan) → 0 < length (gnu_table p)
unfolding gnu_table gnu_words
some_gnu p = front_some _ _ (front_some _ _ (some_fields _ _))

some_symbols : (p : LayoutPlan) → 0 < length (symbol_table p)
unfolding symbol_table entry_bytes
some_symbols p = front_some _ _ (some_fields _ _)

some_end : 0 < length (flat_map tag_bytes (end_tag ∷ []))
unfolding tag_bytes
some_end = front_some (fields (Xword 0 ∷ Xword 0 ∷ [])) [] (some_fields (Xword 0) (Xword 0 ∷ []))

some_dynamic : (p : LayoutPlan) (places : List PlacedSection) → 0 < length (dynamic_table p places)
unfolding dynamic_table
some_dynamic p places =
    let before : List ℕ = flat_map tag_bytes (needed_tags p) ++ flat_map tag_bytes (table_tags p places) ++ flat_map tag_bytes (relocation_tags places) ++ flat_map tag_bytes (packed_tags places) ++ flat_map tag_bytes (version_tags p places) ++ flat_map tag_bytes (usual_tags p) in
    front_some (before ++ flat_map tag_bytes (end_tag ∷ [])) (flat_map tag_bytes (spare_tags p)) (behind_some before (flat_map tag_bytes (end_tag ∷ [])) some_end)

some_rela : (r : Rela) → 0 < length (rela_bytes r)
unfolding rela_bytes
some_rela r = some_fields _ _

some_relas : (p : LayoutPlan) (q : Relocation → Bool) (rs : List Relocation) → list_any q rs ≡ true → 0 < length (flat_map rela_bytes (map (rela_of p) (filter q rs)))
some_relas p q [] h = absurd (false≢true h)
some_relas p q (r ∷ rs) h = elim (cases_Bool (q r)) [
  | inl hit ↦ rw hit (front_some (rela_bytes (rela_of p r)) (flat_map rela_bytes (map (rela_of p) (filter q rs))) (some_rela (rela_of p r)))
  | inr miss ↦ rw miss (some_relas p q rs (rw miss at h))
]

some_others : (p : LayoutPlan) → list_any is_other p.relocations ≡ true → 0 < length (others p)
unfolding others
some_others p h = some_relas p is_other p.relocations h

some_slots : (p : LayoutPlan) → list_any is_jump_slot p.relocations ≡ true → 0 < length (jump_slots p)
unfolding jump_slots
some_slots p h = some_relas p is_jump_slot p.relocations h

-- ---- a section whose table is not empty has a place, and no other

abbrev pub IsTold : LayoutPlan → Role → Type 0
IsTold p role = (places : List PlacedSection) → (length (contents p places role) == 0) ≡ not (is_table role)

plain_told : (p : LayoutPlan) (a b : Bool) → 0 < length p.strings.bytes → AllByRecursion (IsTold p) (plain_roles a b (list_any is_other p.relocations) (list_any is_jump_slot p.relocations))
unfolding contents
plain_told p a b some = all_chosen (IsTold p) _ (
  λ _ places. refl,
  (
    λ _ places. some_bytes (sysv_table p) (some_sysv p),
    (
      λ _ places. some_bytes (gnu_table p) (some_gnu p),
      (
        λ _ places. some_bytes (symbol_table p) (some_symbols p),
        (
          λ _ places. some_bytes p.strings.bytes some,
          (
            λ h places. some_bytes (others p) (some_others p h),
            (
              λ h places. some_bytes (jump_slots p) (some_slots p h),
              (
                λ _ places. some_bytes (dynamic_table p places) (some_dynamic p places),
                (λ _ places. refl, (λ _ places. refl, (λ _ places. refl, tt))),
              ),
            ),
          ),
        ),
      ),
    ),
  ),
)

abbrev pub role_of : PlacedSection → Role
role_of place = place.role

added_roles : (p : LayoutPlan) (t : Tables) (role : Role) (content : List ℕ) → map role_of (table_added p t role content).places ≡ map role_of t.places ++ role ∷ []
unfolding table_added place_at
added_roles p t role content = map-append role_of t.places _

role_step : (p : LayoutPlan) (t u : Tables) (role : Role) → IsTold p role → role_added p t role ≡ Ok u → map role_of u.places ≡ map role_of t.places ++ filter is_table (role ∷ [])
unfolding role_added
role_step p t u role told e = elim (cases_Bool (is_table role)) [
  | inl table ↦
      let some : (length (contents p t.places role) == 0) ≡ false = told t.places ∙ ap not table in
      let done = in_limit_ok (table_added p t role (contents p t.places role)) u (rw some at e) in
      rw table (ap (λ (v : Tables). map role_of v.places) (sym done.0) ∙ added_roles p t role (contents p t.places role))
  | inr other ↦
      let none : (length (contents p t.places role) == 0) ≡ true = told t.places ∙ ap not other in
      rw other (ap (λ (v : Tables). map role_of v.places) (sym (ok_same t u (rw none at e))) ∙ sym (append-nil (map role_of t.places)))
]

roles_run : (p : LayoutPlan) (roles : List Role) (t u : Tables) → AllByRecursion (IsTold p) roles → run (role_added p) t roles ≡ Ok u → map role_of u.places ≡ map role_of t.places ++ filter is_table roles
unfolding run
roles_run p [] t u all e = ap (λ (v : Tables). map role_of v.places) (sym (ok_same t u e)) ∙ sym (append-nil (map role_of t.places))
roles_run p (role ∷ roles) t u all e =
    let step = bind_ok (role_added p t role) (λ (v : Tables). run (role_added p) v roles) u e in
    roles_run p roles step.0 u all.1 step.2
    ∙ ap (λ (l : List Role). l ++ filter is_table roles) (role_step p t step.0 role all.0 step.1)
    ∙ append_assoc (map role_of t.places) (filter is_table (role ∷ [])) (filter is_table roles)
    ∙ ap (λ (l : List Role). map role_of t.places ++ l) (sym (filter-append is_table (role ∷ []) roles))

-- the tables of a plain recipe are those of its sections that have one
pub roles_stand : RolesStand
unfolding tables plan_of
roles_stand r t plain e = roles_run (plan_of r) (plan_of r).roles no_tables t (subst (AllByRecursion (IsTold (plan_of r))) (sym (roles_plain r plain)) (told_of r plain)) e
  where
    told_of : (r : Recipe) (plain : IsPlain r) → AllByRecursion (IsTold (plan_of r)) (plain_roles r.settings.hashes.sysv r.settings.hashes.gnu (list_any is_other r.relocations) (list_any is_jump_slot r.relocations))
    told_of r plain = plain_told (plan_of r) r.settings.hashes.sysv r.settings.hashes.gnu (begins_long (0 ∷ []) (plan_of r).strings.bytes (plain_texts r plain).begins)
