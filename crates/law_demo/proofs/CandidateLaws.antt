-- Each name of a folder whose files plain and modest recipes describe can be prelinked, where its libraries need one another alone.
use Rattle.std.proofs.Common.{◌≡◌, ℕ, zero, suc, ◌+◌, ◌≤◌, Bool, true, false, List, [], ◌∷◌, length, map, Option, Some, None, Result, Ok, refl, sym, ap, subst, ◌∙◌, arith, inl, inr}
use Rattle.std.specs.Prelude.{◌⊎◌, not, ◌==◌, nat_lt, slice_get, codes, is_some, replicate, if◌then◌else◌}
use Rattle.std.specs.List.{AllByRecursion, list_all, list_any}
use Rattle.std.specs.Result.{is_ok}
use Rattle.std.proofs.lemmas.Bool.{and_from, false≢true}
use Rattle.std.proofs.lemmas.Bool.Decides.{nat_tests}
use Rattle.pl_base.specs.Bytes.{IsBytes}
use Rattle.pl_base.specs.Each.{each}
use Rattle.pl_base.proofs.AnswerLaws.{ok_same}
use Rattle.pl_base.specs.Sums.{plus}
use Rattle.pl_base.proofs.SumLaws.{plus_small, round_up-near}
use Rattle.pl_elf.specs.Headers.{loads}
use Rattle.pl_elf.specs.declared.kind.Kind as elf
use Rattle.pl_elf.specs.declared.kind.Kind.TheVariants as kinds
use Rattle.pl_elf.specs.declared.range.Range.{Range}
use Rattle.pl_elf.specs.declared.segment.Segment.{Segment}
use Rattle.pl_object.specs.PlaceClauses.{last_load}
use Rattle.pl_object.specs.Reads.{align, object, reads, span, tls}
use Rattle.pl_object.specs.declared.object.Object.{Object}
use Rattle.pl_object.specs.declared.refusal.Refusal.{Refusal}
use Rattle.pl_object.specs.declared.reloc.Reloc.{Reloc}
use Rattle.pl_tls.specs.Layout.{modules_from, offsets}
use Rattle.pl_tls.specs.declared.block.Block.{Block}
use Rattle.pl_form.specs.Faults.{form_fault}
use Rattle.pl_form.specs.Files.{original_or_file, original_in}
use Rattle.pl_form.specs.Marks.{has_mark}
use Rattle.pl_form.specs.declared.constants.TheConstants.{STORED}
use Rattle.pl_form.specs.declared.file.Marked.{Marked}
use Rattle.pl_scope.specs.Members.{has, names}
use Rattle.pl_scope.specs.Scope.{objects as objects_of}
use Rattle.pl_scope.specs.Walk.{Walked}
use Rattle.pl_scope.proofs.ClosureLaws.{WalkTells, walk_is}
use Rattle.pl_scope.proofs.NameLaws.{has_at, has_cons, has_head, has_step, has_tail}
use Rattle.pl_scope.proofs.WalkedLaws.{member_file}
use Rattle.law_sound.specs.Plan.{fits, is_candidate, links_as}
use Rattle.law_sound.specs.Rule.{Files, Format, object_at, objects, original_at, walk_in}
use Rattle.pl_conflict.specs.Format.{format, read_original}
use Rattle.pl_cone.specs.declared.skip.Skip.{Skip}
use Rattle.pl_cone.specs.Faults.{fault_in}
use Rattle.pl_cone.specs.Fits.{fit_in, links, resolves}
use Rattle.pl_cone.specs.Skipped.{skip_causes}
use Rattle.pl_cone.proofs.LinkLaws.{each_read}
use Rattle.pl_build.specs.declared.kind.FileKind.{FileKind}
use Rattle.pl_build.specs.declared.kind.FileKind.TheVariants.{Library, Pie, Program, Static}
use Rattle.pl_build.specs.declared.layout.Tables.{Tables}
use Rattle.pl_build.specs.declared.layout_plan.LayoutPlan.{LayoutPlan}
use Rattle.pl_build.specs.declared.recipe.Recipe.{Recipe}
use Rattle.pl_build.specs.declared.recipe.Settings.{Settings}
use Rattle.pl_build.specs.declared.roles.PlacedSection.{PlacedSection}
use Rattle.pl_build.specs.Dynamic.{place_of}
use Rattle.pl_build.specs.File.{made, type_of}
use Rattle.pl_build.specs.FileKinds.{is_position_independent}
use Rattle.pl_build.specs.Layout.{end_of, tables}
use Rattle.pl_build.specs.LayoutPlan.{data_address, plan_of}
use Rattle.pl_build.specs.Segments.{dynamic_segment, first_load, readable, second_load}
use Rattle.law_demo.specs.Accepted.{planned_dynamic, planned_heads, planned_linking, planned_object}
use Rattle.law_demo.specs.Plain.{ArePlain, IsPlain}
use Rattle.law_demo.specs.Planned.{planned_header, planned_segments}
use Rattle.law_demo.specs.Shape.{before_dynamic}
use Rattle.law_demo.proofs.AcceptedLaws.{plain_accepted}
use Rattle.law_demo.proofs.ClauseLaws.{shown}
use Rattle.law_demo.proofs.FileLaws.{made_is}
use Rattle.law_demo.proofs.HeadLaws.{base_small, data_small, plain_settings}
use Rattle.law_demo.proofs.HeadedLaws.{file_long, laid_tables}
use Rattle.law_demo.proofs.RelocLaws.{kind_is}
use Rattle.law_demo.specs.Candidates.{AreLibraries, HasFile, IsDefined, FilesAreKnown, IsKnownFile, IsProgramFile, LibrariesAreCandidates, ProgramsAreCandidates, kind_for}
use Rattle.law_demo.specs.Closed.{AreClosed, WalksWithin}
use Rattle.law_demo.specs.SetNames.{copies_name}
use Rattle.law_demo.specs.Described.{CopiesNamed, HasDefinition, IsDescribing, IsSettledObject}
use Rattle.law_demo.specs.Forms.{IsBare}
use Rattle.law_demo.specs.Links.{AreSettled, ChangesWord, CopiesGiven, HasSettledSymbols, IsGiven}
use Rattle.law_demo.proofs.BareLaws.{plain_bare}
use Rattle.law_demo.proofs.BytesLaws.{plain_bytes}
use Rattle.law_demo.proofs.ClosedLaws.{roots_walk}
use Rattle.law_demo.proofs.DescribedLaws.{described_settled, shown_by}
use Rattle.law_demo.proofs.FormLaws.{roomy_objects}
use Rattle.law_demo.proofs.LinkLaws.{scopes_link}

abbrev f : Format Skip
f = format skip_causes

-- ---- lists

all_from : {X : Type 0} (P : X → Type 0) (xs : List X) → ((k : ℕ) (x : X) → slice_get xs k ≡ Some x → P x) → AllByRecursion P xs
all_from P [] each_at = tt
all_from P (x ∷ xs) each_at = (each_at 0 x refl, all_from P xs (λ k y at. each_at (suc k) y at))

all_names : (p : List ℕ → Bool) (ns : List (List ℕ)) → ((m : List ℕ) → has ns m ≡ true → p m ≡ true) → list_all p ns ≡ true
all_names p [] each_at = refl
all_names p (n ∷ ns) each_at = and_from (p n) (list_all p ns) (each_at n (has_head n ns)) (all_names p ns (λ m t. each_at m (has_tail n m ns t)))

-- a member of an index, by its object
member_at : (ws : Walked) (m : ℕ) (o : Object) → slice_get (objects_of ws) m ≡ Some o → (p : List ℕ × Object) × (slice_get ws m ≡ Some p) × (p.1 ≡ o)
member_at [] m o at = absurd (cc)
member_at (p ∷ ws) zero o at = (p, refl, cc)
member_at (p ∷ ws) (suc m) o at = member_at ws m o at

object_here : (ws : Walked) (m : ℕ) (p : List ℕ × Object) → slice_get ws m ≡ Some p → slice_get (objects_of ws) m ≡ Some p.1
object_here [] m p at = absurd (cc)
object_here (q ∷ ws) zero p at = let same : q ≡ p = cc in ap (λ (x : List ℕ × Object). Some x.1) same
object_here (q ∷ ws) (suc m) p at = object_here ws m p at

named_at : (ws : Walked) (m : ℕ) (p : List ℕ × Object) → slice_get ws m ≡ Some p → slice_get (names ws) m ≡ Some p.0
named_at [] m p at = absurd (cc)
named_at (q ∷ ws) zero p at = let same : q ≡ p = cc in ap (λ (x : List ℕ × Object). Some x.0) same
named_at (q ∷ ws) (suc m) p at = named_at ws m p at

-- the index of a name
index_of : (ws : Walked) (n : List ℕ) → has (names ws) n ≡ true → (m : ℕ) × (p : List ℕ × Object) × (slice_get ws m ≡ Some p) × (p.0 ≡ n)
index_of [] n there = absurd (false≢true there)
index_of (p ∷ ws) n there = elim (has_cons p.0 n (names ws) there) [
  | inl here ↦ (0, p, refl, here)
  | inr later ↦ let rest = index_of ws n later in (suc rest.0, rest.1, rest.2, rest.3)
]

-- ---- the object of a file

-- what is known of a file that a recipe describes
record IsHeld (files : Files) (r : Recipe) (n : List ℕ) : Type 0 where
  bytes : List ℕ
  there : files n ≡ Some bytes
  object : Object
  accepted : reads bytes ≡ Ok object
  written : IsBytes bytes
  bare : IsBare bytes
  small : length bytes ≤ STORED
  settled : IsSettledObject r object
  needed : object.needed ≡ r.needs
  ordinary : object.tls ≡ None
  spare : 4 ≤ object.spare

needs_are : (r : Recipe) (t : Tables) (before : List PlacedSection) → (planned_object r t before).needed ≡ r.needs
unfolding planned_object object planned_linking
needs_are r t before = refl

settings_stay : (r : Recipe) → (plan_of r).settings ≡ r.settings
unfolding plan_of
settings_stay r = refl

spare_is : (r : Recipe) (t : Tables) (before : List PlacedSection) → (planned_object r t before).spare ≡ r.settings.spare
unfolding planned_object object planned_dynamic
spare_is r t before = ap (λ (s : Settings). s.spare) (settings_stay r)

no_storage : (s : Settings) (tables_end : ℕ) (d : PlacedSection) → tls (shown true (first_load s tables_end) (second_load s tables_end) (dynamic_segment d)) ≡ None
unfolding tls first_load second_load dynamic_segment readable
no_storage s tables_end d = refl

tls_is : (r : Recipe) (t : Tables) (before : List PlacedSection) → (planned_object r t before).tls ≡ tls (planned_segments (plan_of r) t)
unfolding planned_object object planned_heads
tls_is r t before = refl

long_at_most : (r : Recipe) (bytes : List ℕ) → IsPlain r → made (plan_of r) ≡ Ok bytes → length bytes ≤ STORED
long_at_most r bytes plain made_so =
    let file = made_is (plan_of r) bytes made_so in
    omega (arith, ap (λ (xs : List ℕ). length xs) file.2, file_long r file.0 plain file.1, file.3)

held : (files : Files) (all : List (List ℕ)) (kind : FileKind) (n : List ℕ) (r : Recipe) → HasFile files all kind n r → IsHeld files r n
held files all kind n r h =
    let d = h.describing in
    let a = plain_accepted r h.bytes d.plain d.modest h.made in
    let before : List PlacedSection = before_dynamic r a.2.extents in
    record {
      bytes = h.bytes;
      there = h.there;
      object = planned_object r a.0 before;
      accepted = a.2.reads;
      written = plain_bytes r h.bytes d.plain d.modest h.made;
      bare = plain_bare r h.bytes d.plain d.modest h.made;
      small = long_at_most r h.bytes d.plain h.made;
      settled = described_settled r a.0 before d a.1;
      needed = needs_are r a.0 before;
      ordinary = tls_is r a.0 before ∙ (ap tls (shown_by r a.0 d.plain d.some_data a.1) ∙ no_storage (plan_of r).settings (end_of a.0) (place_of a.0.places (codes ".dynamic")));
      spare = omega (arith, spare_is r a.0 before, h.room.spare);
    }

-- its kind
kind_library : (r : Recipe) (t : Tables) (before : List PlacedSection) → r.settings.kind ≡ Library → (planned_object r t before).kind ≡ kinds.Library
unfolding planned_object object planned_heads type_of
kind_library r t before library =
    let e : (planned_header (plan_of r) t).kind ≡ type_of (plan_of r).settings = kind_is (plan_of r) t in
    let s : type_of (plan_of r).settings ≡ 3 = ap type_of (settings_stay r) ∙ ap (λ (k : FileKind). if is_position_independent k then 3 else 2) library in
    ap (λ (k : ℕ). if k == 2 then kinds.Program else kinds.Library) (e ∙ s)

kind_program : (r : Recipe) (t : Tables) (before : List PlacedSection) → r.settings.kind ≡ Program → (planned_object r t before).kind ≡ kinds.Program
unfolding planned_object object planned_heads type_of
kind_program r t before program =
    let e : (planned_header (plan_of r) t).kind ≡ type_of (plan_of r).settings = kind_is (plan_of r) t in
    let s : type_of (plan_of r).settings ≡ 2 = ap type_of (settings_stay r) ∙ ap (λ (k : FileKind). if is_position_independent k then 3 else 2) program in
    ap (λ (k : ℕ). if k == 2 then kinds.Program else kinds.Library) (e ∙ s)

held_library : (files : Files) (all : List (List ℕ)) (n : List ℕ) (r : Recipe) (h : HasFile files all Library n r) → (held files all Library n r h).object.kind ≡ kinds.Library
unfolding held
held_library files all n r h = let a = plain_accepted r h.bytes h.describing.plain h.describing.modest h.made in kind_library r a.0 (before_dynamic r a.2.extents) h.same_kind

held_program : (files : Files) (all : List (List ℕ)) (n : List ℕ) (r : Recipe) (h : HasFile files all Program n r) → (held files all Program n r h).object.kind ≡ kinds.Program
unfolding held
held_program files all n r h = let a = plain_accepted r h.bytes h.describing.plain h.describing.modest h.made in kind_program r a.0 (before_dynamic r a.2.extents) h.same_kind

-- ---- where it lies

low_span : (s : Settings) (tables_end : ℕ) (d : PlacedSection) → ArePlain s → span (shown true (first_load s tables_end) (second_load s tables_end) (dynamic_segment d)) ≤ 67108864
unfolding span last_load first_load second_load dynamic_segment readable
low_span s tables_end d plain =
    let sum : plus s.data_size s.bss ≡ s.data_size + s.bss = plus_small s.data_size s.bss (omega (arith, plain.few_data, plain.few_bss)) in
    let near = round_up-near (data_address s + plus s.data_size s.bss) 4096 (omega arith) in
    omega (arith, sum, near, data_small s, plain.few_data, plain.few_bss)

page_align : (s : Settings) (tables_end : ℕ) (d : PlacedSection) → align (shown true (first_load s tables_end) (second_load s tables_end) (dynamic_segment d)) ≡ 4096
unfolding align first_load second_load dynamic_segment readable
page_align s tables_end d = refl

low_loads : (s : Settings) (tables_end : ℕ) (d : PlacedSection) → ArePlain s → tables_end ≤ 1048576 → AllByRecursion (λ x. x.vaddr + x.memsz ≤ 67108864) (loads (shown true (first_load s tables_end) (second_load s tables_end) (dynamic_segment d)))
unfolding first_load second_load dynamic_segment readable
low_loads s tables_end d plain le =
    let sum : plus s.data_size s.bss ≡ s.data_size + s.bss = plus_small s.data_size s.bss (omega (arith, plain.few_data, plain.few_bss)) in
    (omega (arith, base_small s, le), (omega (arith, sum, data_small s, plain.few_data, plain.few_bss), tt))

-- of the object that a recipe describes
record LiesLow (o : Object) : Type 0 where
  align : o.align ≡ 4096
  span : o.span ≤ 67108864
  loads : AllByRecursion (λ x. x.vaddr + x.memsz ≤ 67108864) (loads o.segments)

lies_low : (r : Recipe) (t : Tables) (before : List PlacedSection) → IsDescribing r → tables (plan_of r) ≡ Ok t → LiesLow (planned_object r t before)
unfolding planned_object object planned_heads
lies_low r t before is e =
    let p : LayoutPlan = plan_of r in
    let d : PlacedSection = place_of t.places (codes ".dynamic") in
    let are = shown_by r t is.plain is.some_data e in
    let plain : ArePlain p.settings = plain_settings r is.plain in
    record {
      align = ap align are ∙ page_align p.settings (end_of t) d;
      span = subst (λ (ss : List Segment). span ss ≤ 67108864) (sym are) (low_span p.settings (end_of t) d plain);
      loads = subst (λ (ss : List Segment). AllByRecursion (λ x. x.vaddr + x.memsz ≤ 67108864) (loads ss)) (sym are) (low_loads p.settings (end_of t) d plain (laid_tables p t e).0);
    }

held_low : (files : Files) (all : List (List ℕ)) (kind : FileKind) (n : List ℕ) (r : Recipe) (h : HasFile files all kind n r) → LiesLow (held files all kind n r h).object
unfolding held
held_low files all kind n r h = let a = plain_accepted r h.bytes h.describing.plain h.describing.modest h.made in lies_low r a.0 (before_dynamic r a.2.extents) h.describing a.1

-- no form fault
library_fault : (o : Object) (region : Range) → o.kind ≡ kinds.Library → 4 ≤ o.spare → form_fault o region ≡ Ok tt
unfolding form_fault
library_fault o region library spare = let enough : nat_lt o.spare 2 ≡ false = not_less o.spare 2 (omega (arith, spare)) in rw (library, enough) refl
  where
    not_less : (a b : ℕ) → b ≤ a → nat_lt a b ≡ false
    not_less a b le = grind (arith, nat_tests)

program_fault : (files : Files) (all : List (List ℕ)) (region : Range) (n : List ℕ) (is : IsProgramFile files all region n) → form_fault (held files all Program n is.recipe is.file).object region ≡ Ok tt
unfolding held
program_fault files all region n is =
    let h = is.file in
    let a = plain_accepted is.recipe h.bytes h.describing.plain h.describing.modest h.made in
    roomy_objects is.recipe a.0 (before_dynamic is.recipe a.2.extents) region h.describing.plain a.1 h.room is.above

-- ---- the folder's view of it

original_is : (files : Files) (r : Recipe) (n : List ℕ) (h : IsHeld files r n) → original_at f (files n) ≡ h.bytes
unfolding original_in
original_is files r n h = ap (original_at f) h.there ∙ ap (λ (m : Option Marked). original_or_file h.bytes m) h.bare.none

read_by : (n bytes : List ℕ) (o : Object) → length bytes ≤ STORED → has_mark bytes ≡ false → reads bytes ≡ Ok o → read_original skip_causes n bytes ≡ Ok o
unfolding read_original
read_by n bytes o small unmarked accepted = let low : nat_lt STORED (length bytes) ≡ false = not_less STORED (length bytes) small in rw (low, unmarked, accepted) refl
  where
    not_less : (a b : ℕ) → b ≤ a → nat_lt a b ≡ false
    not_less a b le = grind (arith, nat_tests)

object_is : (files : Files) (r : Recipe) (n : List ℕ) (h : IsHeld files r n) → objects f files n ≡ Ok h.object
object_is files r n h =
    ap (object_at f n) h.there
    ∙ (ap (read_original skip_causes n) (sym (ap (original_at f) h.there) ∙ original_is files r n h) ∙ read_by n h.bytes h.object h.small h.bare.unmarked h.accepted)

no_fault : (region : Range) (bytes : List ℕ) (o : Object) → has_mark bytes ≡ false → reads bytes ≡ Ok o → form_fault o region ≡ Ok tt → fault_in region bytes ≡ None
unfolding fault_in
no_fault region bytes o unmarked accepted free = rw (unmarked, accepted, free) refl

sound_at : (files : Files) (region : Range) (r : Recipe) (n : List ℕ) (h : IsHeld files r n) → form_fault h.object region ≡ Ok tt → not (is_some (fault_in region (original_at f (files n)))) ≡ true
sound_at files region r n h none =
    ap (λ (o : List ℕ). not (is_some (fault_in region o))) (original_is files r n h) ∙ ap (λ (x : Option ℕ). not (is_some x)) (no_fault region h.bytes h.object h.bare.unmarked h.accepted none)

-- ---- a walk among the libraries

is_closed : (files : Files) (all : List (List ℕ)) → AreLibraries files all → AreClosed (objects f files) all
is_closed files all libraries = record {
  few = libraries.few;
  each = λ n there. (let l = libraries.each n there in
      let h : IsHeld files l.recipe n = held files all Library n l.recipe l.file in
      record {
        object = h.object;
        file = object_is files l.recipe n h;
        kind = held_library files all n l.recipe l.file;
        needs = λ m needed. l.file.needs m (subst (λ (ns : List (List ℕ)). has ns m ≡ true) h.needed needed);
      });
}

-- a member of a walk: the file of a recipe, without form fault
record IsPart (files : Files) (region : Range) (m : List ℕ) : Type 0 where
  recipe : Recipe
  file : IsHeld files recipe m
  fault : form_fault file.object region ≡ Ok tt

abbrev library_part : (files : Files) (all : List (List ℕ)) (region : Range) (m : List ℕ) → AreLibraries files all → has all m ≡ true → IsPart files region m
library_part files all region m libraries there =
    let l = libraries.each m there in
    let h : IsHeld files l.recipe m = held files all Library m l.recipe l.file in
    record { recipe = l.recipe; file = h; fault = library_fault h.object region (held_library files all m l.recipe l.file) h.spare }

fits_by : (region : Range) (files : Files) (o : Object) (ws : Walked) (a : Result Object Skip) (b : Result Walked Skip) → a ≡ Ok o → b ≡ Ok ws → list_all (λ m. not (is_some (fault_in region (original_at f (files m))))) (names ws) ≡ true
    → links_as (fit_in region) o.kind (map (λ m. original_at f (files m)) (names ws)) ≡ true → fits f (fit_in region) files a b ≡ true
fits_by region files o ws a b ea eb sound linked =
    rw (ea, eb) (and_from (list_all (λ m. not (is_some (fault_in region (original_at f (files m))))) (names ws)) (links_as (fit_in region) o.kind (map (λ m. original_at f (files m)) (names ws))) sound linked)

pub libraries_ready : LibrariesAreCandidates
libraries_ready files all region n libraries there =
    let l = libraries.each n there in
    let h : IsHeld files l.recipe n = held files all Library n l.recipe l.file in
    let kind : h.object.kind ≡ kinds.Library = held_library files all n l.recipe l.file in
    let w : WalksWithin skip_causes.walk (objects f files) all n =
    roots_walk skip_causes.walk (objects f files) all n h.object (is_closed files all libraries) (record {
      file = object_is files l.recipe n h;
      linked = inl kind;
      needs = λ m needed. l.file.needs m (subst (λ (ns : List (List ℕ)). has ns m ≡ true) h.needed needed);
    }) in
    let part : (m : List ℕ) → has (names w.walked) m ≡ true → IsPart files region m =
    λ m t. elim (w.within m t) [ inl same ↦ library_part files all region m libraries (subst (λ (k : List ℕ). has all k ≡ true) (sym same) there) | inr inside ↦ library_part files all region m libraries inside ] in
    fits_by region files h.object w.walked (objects f files n) (walk_in f files n) (object_is files l.recipe n h) w.walks
    (all_names (λ m. not (is_some (fault_in region (original_at f (files m))))) (names w.walked) (λ m t. (let p = part m t in sound_at files region p.recipe m p.file p.fault)))
    (ap (λ (k : elf.Kind). links_as (fit_in region) k (map (λ m. original_at f (files m)) (names w.walked))) kind)

-- ---- the scope of a program

no_blocks : (member number reached : ℕ) (blocks : List (Option Block)) → AllByRecursion (λ b. b ≡ None) blocks → modules_from member number reached blocks ≡ []
unfolding modules_from
no_blocks member number reached [] all = refl
no_blocks member number reached (None ∷ blocks) all = no_blocks (member + 1) number reached blocks all.1
no_blocks member number reached (Some b ∷ blocks) all = let none : Some b ≡ None = all.0 in absurd (cc)

no_offsets : (blocks : List (Option Block)) → AllByRecursion (λ b. b ≡ None) blocks → offsets blocks ≡ Ok []
unfolding offsets
no_offsets blocks all = rw (no_blocks 0 1 0 blocks all) refl

mapped_none : (os : List Object) → AllByRecursion (λ o. o.tls ≡ None) os → AllByRecursion (λ b. b ≡ None) (map (λ o. o.tls) os)
mapped_none [] all = tt
mapped_none (o ∷ os) all = (all.0, mapped_none os all.1)

linked_by : (os : List Object) → AllByRecursion (λ o. o.tls ≡ None) os → AreSettled os → links {E = Refusal} (Ok os) ≡ true
linked_by os none settled =
    let gs = scopes_link os (replicate (length os) 0) [] settled in
    ap (resolves os) (no_offsets (map (λ o. o.tls) os) (mapped_none os none)) ∙ ap is_ok gs.1

kinds_apart : (k : elf.Kind) → k ≡ kinds.Program → k ≡ kinds.Library → ⊥
kinds_apart k a b = cc

module _ (files : Files) (all : List (List ℕ)) (region : Range) (n : List ℕ) (libraries : AreLibraries files all) (is : IsProgramFile files all region n) where
  abbrev own : IsHeld files is.recipe n
  own = held files all Program n is.recipe is.file

  own_kind : own.object.kind ≡ kinds.Program
  own_kind = held_program files all n is.recipe is.file

  -- no library is the program
  apart : (m : List ℕ) (r : Recipe) → HasFile files all Library m r → m ≡ n → ⊥
  apart m r h same =
      let l : IsHeld files r m = held files all Library m r h in
      let one : objects f files n ≡ Ok l.object = subst (λ (k : List ℕ). objects f files k ≡ Ok l.object) same (object_is files r m l) in
      let objects_same : own.object ≡ l.object = ok_same own.object l.object (sym (object_is files is.recipe n own) ∙ one) in
      kinds_apart own.object.kind own_kind (ap (λ (o : Object). o.kind) objects_same ∙ held_library files all m r h)

  abbrev walk_of : WalksWithin skip_causes.walk (objects f files) all n
  walk_of = roots_walk skip_causes.walk (objects f files) all n own.object (is_closed files all libraries) (record {
    file = object_is files is.recipe n own;
    linked = inr own_kind;
    needs = λ m needed. is.file.needs m (subst (λ (ns : List (List ℕ)). has ns m ≡ true) own.needed needed);
  })

  abbrev ws : Walked
  ws = walk_of.walked

  tells : WalkTells (objects f files) n ws
  tells = walk_is skip_causes.walk (objects f files) n ws walk_of.walks

  abbrev own_part : IsPart files region n
  own_part = record { recipe = is.recipe; file = own; fault = program_fault files all region n is }

  -- each member is the program or a library
  record IsPiece (m : List ℕ) : Type 0 where
    part : IsPart files region m
    defined : (name : List ℕ) → list_any (copies_name name) part.recipe.relocations ≡ true → IsDefined files all is.recipe name

  piece_of : (m : List ℕ) → has (names ws) m ≡ true → IsPiece m
  piece_of m t = elim (walk_of.within m t) [
    | inl same ↦ subst IsPiece (sym same) (record { part = own_part; defined = is.copies })
    | inr inside ↦ (let l = libraries.each m inside in record { part = library_part files all region m libraries inside; defined = λ name hit. absurd (false≢true (sym (l.copies name) ∙ hit)) })
  ]

  -- a member has the object of its file
  same_object : (i : ℕ) (p : List ℕ × Object) (r : Recipe) (h : IsHeld files r p.0) → slice_get ws i ≡ Some p → p.1 ≡ h.object
  same_object i p r h at = ok_same p.1 h.object (sym (member_file skip_causes.walk (objects f files) n ws walk_of.walks i p at) ∙ object_is files r p.0 h)

  piece_at : (i : ℕ) (p : List ℕ × Object) → slice_get ws i ≡ Some p → IsPiece p.0
  piece_at i p at = piece_of p.0 (has_at (names ws) i p.0 (named_at ws i p at))

  symbols_at : (i : ℕ) (o : Object) → slice_get (objects_of ws) i ≡ Some o → HasSettledSymbols o
  symbols_at i o at =
      let p = member_at ws i o at in
      let piece = piece_at i p.0 p.1 in
      subst HasSettledSymbols (sym (same_object i p.0 piece.part.recipe piece.part.file p.1) ∙ p.2) piece.part.file.settled.symbols

  -- a library that the program needs is a later member
  given_by : (name : List ℕ) → IsDefined files all is.recipe name → IsGiven (objects_of ws) name
  given_by name d =
      let h : IsHeld files d.recipe d.library = held files all Library d.library d.recipe d.file in
      let needed : has own.object.needed d.library ≡ true = subst (λ (ns : List (List ℕ)). has ns d.library ≡ true) (sym own.needed) d.needed in
      let first : has (names ws) n ≡ true = subst (λ (vs : Walked). has (names vs) n ≡ true) (sym tells.is) (has_head n (names tells.rest)) in
      let inside : has (names ws) d.library ≡ true = tells.needs n d.library own.object first (object_is files is.recipe n own) needed in
      let later : has (names tells.rest) d.library ≡ true = elim (has_step ws tells.rest n d.library tells.object tells.is inside) [ inl same ↦ absurd (apart d.library d.recipe d.file (sym same)) | inr rest ↦ rest ] in
      let at = index_of tells.rest d.library later in
      let here : slice_get ws (suc at.0) ≡ Some at.1 = ap (λ (vs : Walked). slice_get vs (suc at.0)) tells.is ∙ at.2 in
      let found : HasDefinition h.object name = h.settled.definers name d.defines in
      let same : at.1.1 ≡ h.object = ok_same at.1.1 h.object (sym (member_file skip_causes.walk (objects f files) n ws walk_of.walks (suc at.0) at.1 here) ∙ (ap (objects f files) at.3 ∙ object_is files d.recipe d.library h)) in
      let own_found : HasDefinition at.1.1 name = subst (λ (o : Object). HasDefinition o name) (sym same) found in
      record {
        member = at.0;
        object = at.1.1;
        there = object_here ws (suc at.0) at.1 here;
        index = own_found.index;
        symbol = own_found.symbol;
        at = own_found.at;
        definition = own_found.definition;
        named = own_found.named;
      }

  copy_given : (r : Recipe) (o : Object) (x : Reloc) → ((name : List ℕ) → list_any (copies_name name) r.relocations ≡ true → IsDefined files all is.recipe name) → ChangesWord o x ⊎ CopiesNamed r o x → ChangesWord o x ⊎ CopiesGiven (objects_of ws) o x
  copy_given r o x defined (inl word) = inl word
  copy_given r o x defined (inr copy) = inr (record { kind = copy.kind; index = copy.index; is = copy.is; symbol = copy.symbol; at = copy.at; own = copy.own; given = given_by copy.symbol.name (defined copy.symbol.name copy.named) })

  relocs_at : (i k : ℕ) (o : Object) (x : Reloc) → slice_get (objects_of ws) i ≡ Some o → slice_get o.relocations k ≡ Some x → ChangesWord o x ⊎ CopiesGiven (objects_of ws) o x
  relocs_at i k o x at here =
      let p = member_at ws i o at in
      let piece = piece_at i p.0 p.1 in
      let same : piece.part.file.object ≡ o = sym (same_object i p.0 piece.part.recipe piece.part.file p.1) ∙ p.2 in
      let settled : IsSettledObject piece.part.recipe o = subst (IsSettledObject piece.part.recipe) same piece.part.file.settled in
      copy_given piece.part.recipe o x piece.defined (settled.relocs k x here)

  none_at : (i : ℕ) (o : Object) → slice_get (objects_of ws) i ≡ Some o → o.tls ≡ None
  none_at i o at =
      let p = member_at ws i o at in
      let piece = piece_at i p.0 p.1 in
      subst (λ (x : Object). x.tls ≡ None) (sym (same_object i p.0 piece.part.recipe piece.part.file p.1) ∙ p.2) piece.part.file.ordinary

  read_at : (i : ℕ) (p : List ℕ × Object) → slice_get ws i ≡ Some p → reads (original_at f (files p.0)) ≡ Ok p.1
  read_at i p at =
      let piece = piece_at i p at in
      ap reads (original_is files piece.part.recipe p.0 piece.part.file) ∙ (piece.part.file.accepted ∙ ap (λ (o : Object). Ok o) (sym (same_object i p piece.part.recipe piece.part.file at)))

  program_links : links (each reads (map (λ m. original_at f (files m)) (names ws))) ≡ true
  program_links =
      ap (λ (os : Result (List Object) Refusal). links os) (each_read (λ m. original_at f (files m)) ws read_at)
      ∙ linked_by (objects_of ws) (all_from (λ o. o.tls ≡ None) (objects_of ws) none_at) (record { symbols = symbols_at; relocs = relocs_at })

  pub program_ready : is_candidate f (fit_in region) files n ≡ true
  program_ready =
      fits_by region files own.object ws (objects f files n) (walk_in f files n) (object_is files is.recipe n own) walk_of.walks
      (all_names (λ m. not (is_some (fault_in region (original_at f (files m))))) (names ws) (λ m t. (let p = (piece_of m t).part in sound_at files region p.recipe m p.file p.fault)))
      (ap (λ (k : elf.Kind). links_as (fit_in region) k (map (λ m. original_at f (files m)) (names ws))) own_kind ∙ program_links)

pub programs_ready : ProgramsAreCandidates
programs_ready files all region n libraries is = program_ready files all region n libraries is

-- ---- what else a run asks

known_by : (files : Files) (all : List (List ℕ)) (kind : FileKind) (n : List ℕ) (r : Recipe) (h : HasFile files all kind n r) → (held files all kind n r h).object.kind ≡ kind_for kind → IsKnownFile files (kind_for kind) n r
known_by files all kind n r h is =
    let own : IsHeld files r n = held files all kind n r h in
    let low = held_low files all kind n r h in
    record { bytes = own.bytes; file = own.there; written = own.written; bare = own.bare; object = own.object; there = object_is files r n own; accepted = own.accepted; same_kind = is; needed = own.needed; align = low.align; span = low.span; low = low.loads }

pub files_known : FilesAreKnown
files_known files all Program n r which h = known_by files all Program n r h (held_program files all n r h)
files_known files all Library n r which h = known_by files all Library n r h (held_library files all n r h)
files_known files all Pie n r which h = absurd (elim which [ inl e ↦ (let no : ⊥ = cc in no) | inr e ↦ (let no : ⊥ = cc in no) ])
files_known files all Static n r which h = absurd (elim which [ inl e ↦ (let no : ⊥ = cc in no) | inr e ↦ (let no : ⊥ = cc in no) ])
