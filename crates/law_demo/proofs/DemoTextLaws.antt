-- The text of `--demo`: its loads answer as by linking the originals, and its files have the relocations of their recipes.
use Rattle.std.proofs.Common.{◌≡◌, ◌++◌, ℕ, zero, suc, ◌+◌, ◌*◌, ◌%◌, ◌^◌, ◌<◌, ◌≤◌, Bool, true, false, List, [], ◌∷◌, length, map, Option, Some, None, Result, Ok, Err, refl, sym, ap, subst, ◌∙◌, arith, drop, length-append}
use Rattle.std.specs.Prelude.{filter, fold, if◌then◌else◌}
use Rattle.std.specs.FinMap.{get}
use Rattle.std.specs.List.{flat_map, range_with_len}
use Rattle.std.specs.Option.{is_some}
use Rattle.std.proofs.Math.Nat.{mul-suc, mul-zero}
use Rattle.std.proofs.lemmas.Bool.{false≢true, le-leb}
use Rattle.std.proofs.lemmas.List.{length-drop, length-map, length-take-le}
use Rattle.std.proofs.lemmas.List.Filters.{length-filter_both}
use Rattle.std.proofs.lemmas.List.Sums.{fold-append}
use Rattle.std.proofs.lemmas.Option.{same_Some}
use Rattle.pl_base.specs.Answers.{unless}
use Rattle.pl_base.specs.Files as base
use Rattle.pl_base.specs.Names.{is_valid_name}
use Rattle.pl_base.proofs.AnswerLaws.{ok_same}
use Rattle.pl_batch.specs.Folder.{named}
use Rattle.pl_build.specs.LayoutPlan.{plan_of, is_jump_slot, is_other}
use Rattle.pl_build.specs.Relocations.{rela_of}
use Rattle.pl_build.specs.declared.layout.Tables.{Tables}
use Rattle.pl_build.specs.declared.line.Relocation.{Relocation}
use Rattle.pl_build.specs.declared.layout_plan.LayoutPlan.{LayoutPlan}
use Rattle.pl_build.specs.declared.recipe.Recipe.{Recipe}
use Rattle.pl_build.specs.declared.roles.PlacedSection.{PlacedSection}
use Rattle.law_demo.specs.Accepted.{planned_layout, planned_object}
use Rattle.law_demo.specs.Relocs.{planned_relocs, planned_symbols, read_as}
use Rattle.law_demo.specs.Rows.{reloc_of}
use Rattle.law_demo.specs.SetRead.{IsRead}
use Rattle.law_demo.specs.SetRecipes.{copy_of, library_of, library_words, program_of, program_words, relocations_from}
use Rattle.law_demo.specs.Shape.{before_dynamic}
use Rattle.law_demo.proofs.DrawnLaws.{set_read}
use Rattle.law_demo.proofs.SetNameLaws.{files_named}
use Rattle.pl_cli.specs.Answer.{Answer, load_answer}
use Rattle.pl_cli.specs.Demo.{demo_text, fast_loads, lines, load, load_texts, text_of}
use Rattle.pl_cli.specs.Files.{valid_file}
use Rattle.pl_cli.specs.Cause.{Cause}
use Rattle.pl_conflict.specs.Format.{Rule}
use Rattle.pl_demo.specs.Counted.{all_counts, counts_if, counts_in, counts_of, none, plus}
use Rattle.pl_demo.specs.Demo.{counts, folder, programs}
use Rattle.pl_demo.specs.declared.counting.Counts.{Counts}
use Rattle.pl_demo.specs.declared.prelinking.TheConstants.{ASKED}
use Rattle.pl_demo.proofs.LawLemmas.{names_are, sizes}
use Rattle.law_demo.specs.Folder as demo
use Rattle.law_demo.specs.Folder.{files_of, made}
use Rattle.law_demo.proofs.FolderLaws.{words_long}
use Rattle.law_folder.specs.All.{HasNext}
use Rattle.law_folder.proofs.NextLemmas.{gives_next}
use Rattle.pl_folder.specs.Taken.{stored}
use Rattle.pl_folder.specs.declared.TheConstants as folders
use Rattle.pl_folder.specs.declared.fault.FolderFault.TheVariants.{TooLarge}
use Rattle.pl_form.specs.Files.{file_by, file_in, marked_in, original_or_file, original_in}
use Rattle.pl_form.specs.Marks.{IsFormOf, as_file}
use Rattle.pl_form.specs.declared.constants.TheConstants as forms
use Rattle.pl_form.specs.declared.fault.FileFault.{FileFault}
use Rattle.pl_form.specs.declared.fault.FileFault.TheVariants.{BadMark}
use Rattle.pl_form.specs.declared.file.File.{File}
use Rattle.pl_form.specs.declared.file.File.TheVariants.{Plain}
use Rattle.pl_form.specs.declared.file.Marked.{Marked}
use Rattle.pl_form.proofs.FilesLaws.{nothing_else_is_read}
use Rattle.pl_gen.specs.Draws.{after, at, seeded}
use Rattle.pl_gen.specs.Lines.{library_name, program_name}
use Rattle.pl_gen.specs.Set as drawn
use Rattle.pl_journal.specs.Meaning.{applied}
use Rattle.pl_cone.specs.Skipped.{skip_causes}
use Rattle.pl_loader.specs.Started.{Start}
use Rattle.pl_object.specs.Reads.{object, reads}
use Rattle.pl_object.specs.declared.object.Object.{Object}
use Rattle.pl_safe.specs.Ordinary.{ordinary}
use Rattle.pl_safe.proofs.AnswerLaws.{answers_are_ordinary}
use Rattle.law_demo.specs.Forms.{IsBare}
use Rattle.law_demo.specs.SetFiles.{HasLibrary, HasProgram}
use Rattle.law_demo.proofs.BareLaws.{plain_bare}
use Rattle.pl_rewrite.specs.Changes.{next}
use Rattle.pl_rewrite.proofs.SoundLaws.{names_stay, next_is_from_scratch, originals_stay}
use Rattle.pl_words.specs.declared.command.Policy.TheVariants.{Lowest}
use Rattle.law_demo.specs.DemoText.{DemoRelocationsAreDrawn, DemoTextIsDrawn, DemoTextsAreOrdinary, ordinary_text, relocations}
use Rattle.law_demo.proofs.DemoLaws.{IsRunOf, demo_fast, run_of}
use Rattle.law_demo.proofs.RunLaws.{after_next, view_keeps}

-- ---- the loads

rule_after : (number : ℕ) → Rule skip_causes (valid_file (folder number))
rule_after number =
    let r : IsRunOf number = run_of number in
    let h : HasNext (made number) ASKED (applied r.demo.rows (get (made number))) = gives_next (made number) ASKED r.demo.rows r.changes in
    view_keeps (named (made number)) (valid_file (folder number)) ASKED.region h.plan
    (λ m. after_next (made number) (folder number) ASKED r.demo.rows h r.are m ∙ next_is_from_scratch (named (made number)) ASKED.region h.plan r.keeps m)

answer_text : (r : Result Start Cause) → text_of r ≡ (load_answer r).text
answer_text (Ok start) = refl
answer_text (Err cause) = refl

one_text : (number : ℕ) (n : List ℕ) → text_of (load (folder number) n) ≡ ordinary_text number n
one_text number n =
    answer_text (load (folder number) n)
    ∙ (ap (λ (a : Answer). a.text) (answers_are_ordinary skip_causes (folder number) [] n None Lowest (λ m match there. rule_after number n m match there))
    ∙ sym (answer_text (ordinary skip_causes Lowest None (folder number) n)))

same_texts : (f g : List ℕ → List ℕ) (ns : List (List ℕ)) → ((n : List ℕ) → f n ≡ g n) → flat_map f ns ≡ flat_map g ns
same_texts f g [] same = refl
same_texts f g (n ∷ ns) same = rw (same n, same_texts f g ns same) refl

pub texts_ordinary : DemoTextsAreOrdinary
unfolding load_texts
texts_ordinary number = same_texts (λ name. text_of (load (folder number) name)) (ordinary_text number) (programs number) (one_text number)

-- ---- how many relocations a recipe has

read_long : (p : LayoutPlan) (rs : List Relocation) → length (read_as p rs) ≡ length rs
unfolding read_as
read_long p rs = length-map (map (rela_of p) rs) (reloc_of (planned_symbols p)) ∙ length-map rs (rela_of p)

planned_long : (r : Recipe) → length (planned_relocs (plan_of r)) ≡ length r.relocations
unfolding planned_relocs plan_of
planned_long r =
    let p : LayoutPlan = plan_of r in
    let long : length (read_as p (filter is_other r.relocations) ++ read_as p (filter is_jump_slot r.relocations)) ≡ length r.relocations = omega (
      arith,
      length-append (read_as p (filter is_other r.relocations)) (read_as p (filter is_jump_slot r.relocations)),
      read_long p (filter is_other r.relocations),
      read_long p (filter is_jump_slot r.relocations),
      length-filter_both is_jump_slot is_other (λ x. refl) r.relocations,
    ) in
    long

object_long : (r : Recipe) (t : Tables) (before : List PlacedSection) → length (planned_object r t before).relocations ≡ length r.relocations
unfolding planned_object planned_layout object
object_long r t before = planned_long r

-- two words have a relocation
from_long : (count place : ℕ) (ws : List ℕ) → length ws ≡ 2 * count → length (relocations_from place ws) ≡ count
unfolding relocations_from
from_long zero place [] long = refl
from_long (suc count) place (kind ∷ word ∷ more) long = ap suc (from_long count (place + 8) more (omega (arith, long)))
from_long zero place (kind ∷ more) long = absurd (omega (arith, long))
from_long (suc count) place [] long = absurd (omega (arith, long))
from_long (suc count) place (kind ∷ []) long = absurd (omega (arith, long))

library_long : (count i : ℕ) (ws : List ℕ) → length ws ≡ 322 → length (library_of count i ws).relocations ≡ 128
unfolding library_of
library_long count i ws long =
    let left : length (drop 66 ws) ≡ 256 = omega (arith, long, length-drop 66 ws) in
    from_long 128 0x808 (library_words ws) (length-take-le 256 (drop 66 ws) (omega (arith, left)))

program_long : (count : ℕ) (ws : List ℕ) → length ws ≡ 131 → length (program_of count ws).relocations ≡ 65
unfolding program_of
program_long count ws long =
    let left : length (drop 3 ws) ≡ 128 = omega (arith, long, length-drop 3 ws) in
    let drawn' : length (relocations_from 0 (program_words ws)) ≡ 64 = from_long 64 0 (program_words ws) (length-take-le 128 (drop 3 ws) (omega (arith, left))) in
    let more : length (relocations_from 0 (program_words ws) ++ copy_of (at ws 0 % count) ∷ []) ≡ 65 = omega (arith, drawn', length-append (relocations_from 0 (program_words ws)) (copy_of (at ws 0 % count) ∷ [])) in
    more

-- ---- what is counted of a file

folder_limit : folders.STORED ≡ 268435456
folder_limit = refl

form_limit : forms.STORED ≡ 268435456
form_limit = refl

told : (file : List ℕ) → file_in file ≡ file_by file (marked_in file)
unfolding file_in
told file = refl

own_of : (file : List ℕ) → original_in file ≡ original_or_file file (marked_in file)
unfolding original_in
own_of file = refl

stored_is : (file : List ℕ) → length file ≤ folders.STORED → counts_in (stored (Some file)) ≡ counts_if (file_in file)
stored_is file small = ap (λ (b : Bool). counts_in (if b then Ok file else Err TooLarge)) (le-leb (length file) folders.STORED small)

-- a file that is stored, whether or not it is prelinked, has the relocations of its original
counts_by_mark : (file bytes : List ℕ) (x : Object) (o : Option Marked) → marked_in file ≡ o → original_or_file file o ≡ bytes → IsBare bytes → reads bytes ≡ Ok x → length bytes ≤ 2 ^ 21 → (counts_in (stored (Some file))).relocations ≡ length x.relocations
counts_by_mark file bytes x None none same bare read short =
    let plain : file_by bytes None ≡ Ok (Plain x) = ap (λ (b : Bool). unless b BadMark (as_file (reads bytes))) bare.unmarked ∙ ap as_file read in
    let is : file_in file ≡ Ok (Plain x) = told file ∙ (ap (λ (o : Option Marked). file_by file o) none ∙ (ap (λ (z : List ℕ). file_by z None) same ∙ plain)) in
    let small : length file ≤ folders.STORED = subst (λ (z : List ℕ). length z ≤ folders.STORED) (sym same) (omega (arith, short, folder_limit)) in
    ap (λ (c : Counts). c.relocations) (stored_is file small) ∙ ap (λ (r : Result File FileFault). (counts_if r).relocations) is
counts_by_mark file bytes x (Some m) marked same bare read short =
    let of : IsFormOf file m = nothing_else_is_read file m marked in
    let object_is : m.object ≡ x = ok_same m.object x (sym of.firm.accepted ∙ (ap reads same ∙ read)) in
    let small : length file ≤ folders.STORED = omega (arith, of.small, folder_limit, form_limit) in
    ap (λ (c : Counts). c.relocations) (stored_is file small)
    ∙ (ap (λ (r : Result File FileFault). (counts_if r).relocations) (told file ∙ ap (λ (o : Option Marked). file_by file o) marked) ∙ ap (λ (o : Object). length o.relocations) object_is)

-- ---- the files after the run

-- a file of an original
record IsKept (number : ℕ) (n bytes : List ℕ) : Type 0 where
  file : List ℕ
  there : get (folder number) n ≡ Some file
  own : original_in file ≡ bytes

kept_at : (number : ℕ) (n bytes : List ℕ) → is_valid_name n ≡ true → files_of number n ≡ Some bytes → marked_in bytes ≡ None → IsKept number n bytes
kept_at number n bytes valid there bare = by (next (named (made number)) ASKED.region h.plan n) refl
  where
    r : IsRunOf number
    r = run_of number

    h : HasNext (made number) ASKED (applied r.demo.rows (get (made number)))
    h = gives_next (made number) ASKED r.demo.rows r.changes

    to : valid_file (folder number) n ≡ next (named (made number)) ASKED.region h.plan n
    to = after_next (made number) (folder number) ASKED r.demo.rows h r.are n

    some : is_some (next (named (made number)) ASKED.region h.plan n) ≡ true
    some = names_stay (named (made number)) ASKED.region h.plan n ∙ ap (λ (o : Option (List ℕ)). is_some o) there

    by : (o : Option (List ℕ)) → next (named (made number)) ASKED.region h.plan n ≡ o → IsKept number n bytes
    by None none = absurd (false≢true (ap (λ (o : Option (List ℕ)). is_some o) (sym none) ∙ some))
    by (Some file) is =
        let stays = originals_stay (named (made number)) ASKED.region h.plan n file is in
        let before : stays.0 ≡ bytes = same_Some stays.0 bytes (sym stays.1 ∙ there) in
        record {
          file = file;
          there = sym (ap (λ (b : Bool). if b then get (folder number) n else None) valid) ∙ (to ∙ is);
          own = stays.2 ∙ (ap original_in before ∙ (own_of bytes ∙ ap (λ (o : Option Marked). original_or_file bytes o) bare));
        }

one_counts : (number : ℕ) (n text : List ℕ) (r : Recipe) (is : IsRead text r) → is_valid_name n ≡ true → files_of number n ≡ Some is.bytes → (counts_of (folder number) n).relocations ≡ length r.relocations
unfolding counts_of
one_counts number n text r is valid there =
    let bare : IsBare is.bytes = plain_bare r is.bytes is.fine.plain is.fine.modest is.made in
    let k : IsKept number n is.bytes = kept_at number n is.bytes valid there bare.none in
    let before : List PlacedSection = before_dynamic r is.accepted.extents in
    ap (λ (b : Bool). (if b then counts_in (stored (get (folder number) n)) else none).relocations) valid
    ∙ (ap (λ (o : Option (List ℕ)). (counts_in (stored o)).relocations) k.there
    ∙ (counts_by_mark k.file is.bytes (planned_object r is.t before) (marked_in k.file) refl (sym (own_of k.file) ∙ k.own) bare is.accepted.reads is.small
    ∙ object_long r is.t before))

library_counts : (number i : ℕ) → i < drawn.libraries number → (counts_of (folder number) (library_name i)).relocations ≡ 128
library_counts number i lt =
    let l : ℕ = drawn.libraries number in
    let ws : List ℕ = demo.drawn_library_words number i in
    let has_it : HasLibrary (files_of number) l i ws = (run_of number).demo.folder.libraries i lt in
    let is : IsRead (drawn.library_recipe l i ws) (library_of l i ws) = set_read.libraries l i ws in
    let same : has_it.bytes ≡ is.bytes = ok_same has_it.bytes is.bytes (sym has_it.made ∙ is.made) in
    one_counts number (library_name i) (drawn.library_recipe l i ws) (library_of l i ws) is (files_named.libraries i) (has_it.there ∙ ap (λ (z : List ℕ). Some z) same)
    ∙ library_long l i ws (words_long 322 (after (322 * i) (after 2 (seeded number))))

program_counts : (number j : ℕ) → j < drawn.programs number → (counts_of (folder number) (program_name j)).relocations ≡ 65
program_counts number j lt =
    let l : ℕ = drawn.libraries number in
    let ws : List ℕ = demo.drawn_program_words number j in
    let has_it : HasProgram (files_of number) l (program_name j) ws = (run_of number).demo.folder.programs j lt in
    let is : IsRead (drawn.program_recipe l ws) (program_of l ws) = set_read.programs l ws in
    let same : has_it.bytes ≡ is.bytes = ok_same has_it.bytes is.bytes (sym has_it.made ∙ is.made) in
    one_counts number (program_name j) (drawn.program_recipe l ws) (program_of l ws) is (files_named.programs j) (has_it.there ∙ ap (λ (z : List ℕ). Some z) same)
    ∙ program_long l ws (words_long 131 (after (131 * j) (after (322 * l) (after 2 (seeded number)))))

-- ---- all files

abbrev step : base.Files → Counts → List ℕ → Counts
step files total name = plus total (counts_of files name)

counts_fold : (files : base.Files) (f : ℕ → List ℕ) (each count from : ℕ) (total : Counts) → ((i : ℕ) → i < from + count → (counts_of files (f i)).relocations ≡ each)
    → (fold (step files) total (map f (range_with_len from count))).relocations ≡ total.relocations + each * count
counts_fold files f each zero from total all = let none_more : total.relocations ≡ total.relocations + each * zero = omega (arith, mul-zero each) in none_more
counts_fold files f each (suc count) from total all =
    let rest : (fold (step files) (step files total (f from)) (map f (range_with_len (from + 1) count))).relocations ≡ (total.relocations + (counts_of files (f from)).relocations) + each * count =
    counts_fold files f each count (from + 1) (step files total (f from)) (λ i lt. all i (omega (arith, lt))) in
    let first : (counts_of files (f from)).relocations ≡ each = all from (omega arith) in
    let one_more : (total.relocations + (counts_of files (f from)).relocations) + each * count ≡ total.relocations + each * suc count = omega (arith, first, mul-suc each count) in
    rest ∙ one_more

both : (a b l g : ℕ) → a ≡ 0 + 128 * l → b ≡ a + 65 * g → b ≡ 128 * l + 65 * g
both a b l g first second = omega (arith, first, second)

pub relocations_drawn : DemoRelocationsAreDrawn
unfolding counts all_counts
relocations_drawn number =
    let l : ℕ = drawn.libraries number in
    let g : ℕ = drawn.programs number in
    let libraries : List (List ℕ) = map library_name (range_with_len 0 l) in
    let own : List (List ℕ) = map program_name (range_with_len 0 g) in
    let front : Counts = fold (step (folder number)) none libraries in
    let first : front.relocations ≡ 0 + 128 * l = counts_fold (folder number) library_name 128 l 0 none (λ i lt. library_counts number i (omega (arith, lt))) in
    let second : (fold (step (folder number)) front own).relocations ≡ front.relocations + 65 * g = counts_fold (folder number) program_name 65 g 0 front (λ j lt. program_counts number j (omega (arith, lt))) in
    ap (λ (ns : List (List ℕ)). (fold (step (folder number)) none ns).relocations) (names_are number)
    ∙ (ap (λ (c : Counts). c.relocations) (fold-append (step (folder number)) none libraries own) ∙ both front.relocations (fold (step (folder number)) front own).relocations l g first second)

-- ---- the text

counts_are : (c : Counts) (n : ℕ) → c.relocations ≡ n → c ≡ record { relocations = n; conflicts = c.conflicts }
counts_are c n is = ap (λ (m : ℕ). record { relocations = m; conflicts = c.conflicts }) is

pub text_drawn : DemoTextIsDrawn
unfolding demo_text
text_drawn number =
    let fast : ℕ = fast_loads (folder number) (programs number) in
    let texts : List ℕ = load_texts (folder number) (programs number) in
    let files : ℕ = drawn.libraries number + drawn.programs number in
    let c : Counts = record { relocations = relocations number; conflicts = (counts number).conflicts } in
    ap (λ (n : ℕ). lines n (counts number) fast texts) (sizes number)
    ∙ (ap (λ (d : Counts). lines files d fast texts) (counts_are (counts number) (relocations number) (relocations_drawn number))
    ∙ (ap (λ (n : ℕ). lines files c n texts) (demo_fast number) ∙ ap (λ (t : List ℕ). lines files c (drawn.programs number) t) (texts_ordinary number)))
