-- The file of a plain and modest recipe has no mark.
use Rattle.std.proofs.Common.{◌≡◌, ◌-◌, ℕ, Bool, true, false, List, [], ◌∷◌, ◌++◌, length, drop, map, Option, Some, None, Ok, Err, refl, sym, ap, subst, ◌∙◌}
use Rattle.std.specs.Prelude.{◌&&◌, ◌||◌, not, nat_eq, if◌then◌else◌}
use Rattle.std.specs.List.{AllByRecursion, list_any, starts_with}
use Rattle.std.specs.Result.{is_ok}
use Rattle.std.proofs.lemmas.Bool.{false≢true, or_parts}
use Rattle.pl_base.specs.Answers.{unless, unless_found}
use Rattle.pl_dyn.specs.Entries.{is_ended, null_count, tags}
use Rattle.pl_dyn.specs.Kinds.{is_prelink_tag}
use Rattle.pl_dyn.specs.Read as dyn
use Rattle.pl_dyn.specs.declared.dynamic.Dynamic.{Dynamic}
use Rattle.pl_dyn.specs.declared.fault.DynFault.{DynFault}
use Rattle.pl_dyn.specs.declared.fault.DynFault.TheVariants.{NoEnd}
use Rattle.pl_dyn.specs.declared.tags.Tag.{Tag}
use Rattle.pl_elf.specs.Clauses.{names, read}
use Rattle.pl_elf.specs.Headers.{header, sections, segments}
use Rattle.pl_elf.specs.declared.header.Header.{Header}
use Rattle.pl_elf.specs.declared.section.Section.{Section}
use Rattle.pl_elf.specs.declared.segment.Segment.{Segment}
use Rattle.pl_object.specs.FilePart.{in_file_part, loaded}
use Rattle.pl_object.specs.Reads.{dynamic}
use Rattle.pl_object.specs.Tables.{dynamic_memory}
use Rattle.pl_form.specs.Found.{has_dynamic_table}
use Rattle.pl_form.specs.declared.section_names.TheConstants.{UNDO_NAME}
use Rattle.pl_form.specs.Files.{marked_in}
use Rattle.pl_form.specs.Marks.{has_mark, has_prelink_tag, has_undo_name, is_prelink, is_undo_name}
use Rattle.pl_form.specs.declared.file.Marked.{Marked}
use Rattle.pl_form.proofs.FilesLaws.{nothing_else_is_read}
use Rattle.pl_form.proofs.PlannedLaws.{undo_named}
use Rattle.pl_build.specs.declared.layout.Tables.{Tables}
use Rattle.pl_build.specs.declared.layout_plan.LayoutPlan.{LayoutPlan}
use Rattle.pl_build.specs.declared.recipe.Recipe.{Recipe}
use Rattle.pl_build.specs.declared.roles.PlacedSection.{PlacedSection}
use Rattle.pl_build.specs.declared.roles.Role.{Role}
use Rattle.pl_build.specs.declared.string_table.StringTable.{StringTable}
use Rattle.pl_build.specs.Choices.{chosen}
use Rattle.pl_build.specs.Dynamic.{needed_tags, tag}
use Rattle.pl_build.specs.File.{places_of}
use Rattle.pl_build.specs.Layout.{end_of, tables}
use Rattle.pl_build.specs.LayoutPlan.{plan_of}
use Rattle.pl_build.specs.Roles.{section_name}
use Rattle.pl_build.specs.Sections.{row_of, section_rows}
use Rattle.pl_build.specs.Segments.{data_offset}
use Rattle.pl_build.specs.StringTable.{section_names, text_added, text_at}
use Rattle.law_demo.specs.Accepted.{planned_dynamic}
use Rattle.law_demo.specs.Plain.{IsPlain}
use Rattle.law_demo.specs.Planned.{planned_header, planned_sections, planned_segments, section_of}
use Rattle.law_demo.specs.Tags.{planned_tags}
use Rattle.law_demo.proofs.FileLaws.{names_of}
use Rattle.law_demo.proofs.HeadLaws.{places_roles, sixteen}
use Rattle.law_demo.proofs.RoleLaws.{all_chosen, plain_roles, role_of, roles_plain}
use Rattle.law_demo.proofs.ValueLaws.{planned_rows, tags_are}
use Rattle.law_demo.proofs.WholeLaws.{IsWholeFile, whole_file}
use Rattle.law_demo.specs.Forms.{PlainFilesAreBare}

-- ---- no section is named as that of a form

-- the name of a section begins as the name of an undo section does
abbrev begins_so : StringTable → Role → Bool
begins_so names role = starts_with nat_eq (drop (text_at names (section_name role)) names.bytes) UNDO_NAME

no_undo_role : (a b c d : Bool) → not (list_any (begins_so (section_names (plain_roles a b c d))) (plain_roles a b c d)) ≡ true
unfolding chosen section_names section_name text_added text_at
no_undo_role = sixteen (λ a b c d. not (list_any (begins_so (section_names (plain_roles a b c d))) (plain_roles a b c d))) refl

not_true : (b : Bool) → not b ≡ true → b ≡ false
not_true true e = sym e
not_true false e = refl

no_undo_name : (r : Recipe) → IsPlain r → list_any (begins_so (names_of (plan_of r))) (plan_of r).roles ≡ false
no_undo_name r plain = subst (λ (l : List Role). list_any (begins_so (section_names l)) l ≡ false) (sym (roles_plain r plain)) (not_true _ (no_undo_role _ _ _ _))

by_roles : (p : LayoutPlan) (names : StringTable) (places : List PlacedSection) → list_any (is_undo_name names.bytes) (map section_of (section_rows p names places)) ≡ list_any (begins_so names) (map role_of places)
unfolding section_rows row_of section_of
by_roles p names [] = refl
by_roles p names (place ∷ places) = ap (λ (b : Bool). begins_so names place.role || b) (by_roles p names places)

no_undo_section : (r : Recipe) (t : Tables) → IsPlain r → tables (plan_of r) ≡ Ok t → list_any (is_undo_name (names_of (plan_of r)).bytes) (planned_sections (plan_of r) t) ≡ false
unfolding planned_sections
no_undo_section r t plain e =
    let p : LayoutPlan = plan_of r in
    let places : List PlacedSection = places_of p t (data_offset (end_of t)) (length (names_of p).bytes) in
    by_roles p (names_of p) places ∙ ap (list_any (begins_so (names_of p))) (places_roles r t (data_offset (end_of t)) (length (names_of p).bytes) plain e) ∙ no_undo_name r plain

unnamed : (r : Recipe) (bytes : List ℕ) (t : Tables) → IsPlain r → tables (plan_of r) ≡ Ok t → IsWholeFile r bytes t → has_undo_name bytes ≡ false
unfolding has_undo_name
unnamed r bytes t plain e whole =
    ap (λ (h : Header). list_any (is_undo_name (names bytes h)) (sections bytes h)) whole.headed.header
    ∙ ap (λ (ss : List Section). list_any (is_undo_name (names bytes (planned_header (plan_of r) t))) ss) whole.headed.sections
    ∙ ap (λ (ns : List ℕ). list_any (is_undo_name ns) (planned_sections (plan_of r) t)) whole.names
    ∙ no_undo_section r t plain e

-- ---- no tag is a form's

abbrev IsOther : Tag → Type 0
IsOther x = is_prelink x ≡ false

none_of_each : {X : Type 0} (p : X → Bool) (xs : List X) → AllByRecursion (λ x. p x ≡ false) xs → list_any p xs ≡ false
none_of_each p [] all = refl
none_of_each p (x ∷ xs) all = rw (all.0, none_of_each p xs all.1) refl

all_both : {X : Type 0} (P : X → Type 0) (xs ys : List X) → AllByRecursion P xs → AllByRecursion P ys → AllByRecursion P (xs ++ ys)
all_both P [] ys all more = more
all_both P (x ∷ xs) ys all more = (all.0, all_both P xs ys all.1 more)

needed_other : (p : LayoutPlan) → AllByRecursion IsOther (needed_tags p)
unfolding needed_tags is_prelink_tag
needed_other p = each p.needed
  where
    each : (ns : List (List ℕ)) → AllByRecursion IsOther (map (λ name. tag 1 (text_at p.strings name)) ns)
    each [] = tt
    each (n ∷ ns) = (refl, each ns)

-- of rows that may be there
rows_other : (rows : List (Bool × Tag)) → list_any (λ c. is_prelink c.1) rows ≡ false → AllByRecursion (λ c. c.0 ≡ true → IsOther c.1) rows
rows_other [] none = tt
rows_other (c ∷ rows) none = let parts = or_parts (is_prelink c.1) (list_any (λ d. is_prelink d.1) rows) none in (λ there. parts.0, rows_other rows parts.1)

numbers_other : (p : LayoutPlan) (places : List PlacedSection) → list_any (λ c. is_prelink c.1) (planned_rows p places) ≡ false
unfolding is_prelink_tag
numbers_other p places = refl

planned_other : (p : LayoutPlan) (places : List PlacedSection) → list_any is_prelink (planned_tags p places) ≡ false
planned_other p places =
    none_of_each is_prelink (planned_tags p places)
    (subst (AllByRecursion IsOther) (sym (tags_are p places)) (all_both IsOther (needed_tags p) (chosen (planned_rows p places)) (needed_other p) (all_chosen IsOther (planned_rows p places) (rows_other (planned_rows p places) (numbers_other p places)))))

-- what a table is read as
found_out : (a : Bool) (b c : Option Tag) (n : DynFault) (f g : Tag → DynFault) (x d : Dynamic) → unless a n (unless_found b f (unless_found c g (Ok x))) ≡ Ok d → x ≡ d
found_out true b c n f g x d e = absurd (cc)
found_out false (Some t) c n f g x d e = absurd (cc)
found_out false None (Some t) n f g x d e = absurd (cc)
found_out false None None n f g x d e = cc

tags_read : (table : List ℕ) (d : Dynamic) → dyn.read table ≡ Ok d → tags table ≡ d.tags
unfolding dyn.read
tags_read table d e = ap (λ (x : Dynamic). x.tags) (found_out (not (is_ended table)) (dyn.first_unknown (tags table)) (dyn.first_twice (tags table)) _ _ _ (record { tags = tags table; spare = null_count table - 1 }) d e)

table_read : (bytes : List ℕ) (ss : List Segment) (d : Dynamic) → dynamic bytes ss ≡ Ok d → dyn.read (loaded bytes ss (dynamic_memory ss)) ≡ Ok d
unfolding dynamic
table_read bytes ss d e = by (in_file_part ss (dynamic_memory ss)) refl e
  where
    by : (b : Bool) → in_file_part ss (dynamic_memory ss) ≡ b → (if b then dyn.read (loaded bytes ss (dynamic_memory ss)) else Err NoEnd) ≡ Ok d → dyn.read (loaded bytes ss (dynamic_memory ss)) ≡ Ok d
    by true there h = h
    by false missing h = absurd (cc)

untagged : (r : Recipe) (bytes : List ℕ) (t : Tables) → IsWholeFile r bytes t → has_prelink_tag bytes ≡ false
unfolding has_prelink_tag planned_dynamic
untagged r bytes t whole =
    let p : LayoutPlan = plan_of r in
    let ss : List Segment = planned_segments p t in
    let read_as : segments bytes (header bytes) ≡ ss = ap (segments bytes) whole.headed.header ∙ whole.headed.segments in
    let same : tags (loaded bytes ss (dynamic_memory ss)) ≡ planned_tags p whole.before = tags_read (loaded bytes ss (dynamic_memory ss)) (planned_dynamic p whole.before) (table_read bytes ss (planned_dynamic p whole.before) whole.dynamic) in
    let none : list_any is_prelink (tags (loaded bytes ss (dynamic_memory ss))) ≡ false = ap (list_any is_prelink) same ∙ planned_other p whole.before in
    ap (λ (xs : List Segment). has_dynamic_table xs && (is_ended (loaded bytes xs (dynamic_memory xs)) && list_any is_prelink (tags (loaded bytes xs (dynamic_memory xs))))) read_as
    ∙ (rw none (both_false (has_dynamic_table ss) (is_ended (loaded bytes ss (dynamic_memory ss)))))
  where
    both_false : (a b : Bool) → (a && (b && false)) ≡ false
    both_false true true = refl
    both_false true false = refl
    both_false false b = refl

-- ---- the whole

unmarked : (bytes : List ℕ) → has_undo_name bytes ≡ false → has_prelink_tag bytes ≡ false → has_mark bytes ≡ false
unfolding has_mark
unmarked bytes named tagged = rw (named, tagged) (and_false (is_ok (read bytes)))
  where
    and_false : (b : Bool) → (b && false) ≡ false
    and_false true = refl
    and_false false = refl

no_form : (bytes : List ℕ) → has_undo_name bytes ≡ false → (o : Option Marked) → marked_in bytes ≡ o → o ≡ None
no_form bytes named None e = refl
no_form bytes named (Some m) e = absurd (false≢true (sym named ∙ undo_named bytes m (nothing_else_is_read bytes m e)))

pub plain_bare : PlainFilesAreBare
plain_bare r bytes plain modest made_so =
    let whole = whole_file r bytes plain modest made_so in
    let named = unnamed r bytes whole.0 plain whole.1 whole.2 in
    record { unmarked = unmarked bytes named (untagged r bytes whole.0 whole.2); none = no_form bytes named (marked_in bytes) refl }
