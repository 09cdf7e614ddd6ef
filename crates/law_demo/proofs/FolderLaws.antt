-- The folder of a generated set: its files are those of its recipes, and they are small.
use Rattle.std.proofs.Common.{◌≡◌, ℕ, zero, suc, ◌+◌, ◌*◌, ◌%◌, ◌^◌, ◌<◌, ◌≤◌, Bool, true, false, cond, List, [], ◌∷◌, ◌++◌, length, map, Option, Some, None, refl, sym, ap, subst, ◌∙◌, arith, inl, inr, length-append}
use Rattle.std.specs.Prelude.{◌⊎◌, ◌==◌, nat_lt, count_by, fold, if◌then◌else◌}
use Rattle.std.specs.Cmp.Lexicographic.{nat_list_cmp_total, slice_cmp}
use Rattle.std.specs.FinMap.{contains_key, entries, get, insert, keys, len, len-empty, len-entries, len-insert}
use Rattle.std.specs.List.{AllByRecursion, IsDistinct, range_with_len}
use Rattle.std.specs.Ordering.{nat_cmp}
use Rattle.std.specs.Str.{bytes_eq}
use Rattle.std.proofs.lemmas.Bool.{cases_lt}
use Rattle.std.proofs.lemmas.Bool.Decides.{nat_tests}
use Rattle.std.proofs.lemmas.List.{append-nil, length-map, map-append}
use Rattle.std.proofs.lemmas.List.Sums.{count_by-le-length}
use Rattle.std.proofs.lemmas.List.FromFn.{length-map-range_with_len}
use Rattle.std.proofs.Math.Nat.{mod-lt}
use Rattle.pl_base.specs.Bytes.{IsBytes}
use Rattle.pl_base.specs.Files.{Files}
use Rattle.pl_base.specs.Names.{is_valid_name}
use Rattle.pl_base.proofs.AnswerLaws.{ok_same}
use Rattle.pl_change.specs.Folder.{cache}
use Rattle.pl_journal.specs.Names.{journal}
use Rattle.pl_object.specs.Reads.{reads}
use Rattle.pl_object.specs.declared.object.Object.{Object}
use Rattle.pl_build.specs.declared.kind.FileKind.{FileKind}
use Rattle.pl_build.specs.declared.kind.FileKind.TheVariants.{Library, Program}
use Rattle.pl_build.specs.declared.recipe.Recipe.{Recipe}
use Rattle.law_demo.specs.SetNames.{NamesAreDistinct, IsNamed}
use Rattle.law_demo.specs.SetRead.{IsFine, IsRead}
use Rattle.law_demo.specs.SetRecipes.{library_of, program_of}
use Rattle.law_demo.proofs.DrawnLaws.{set_read}
use Rattle.law_demo.proofs.HeadLaws.{data_small}
use Rattle.law_demo.proofs.SetNameLaws.{files_named, recipes_named}
use Rattle.pl_demo.specs.Made as spec
use Rattle.pl_demo.specs.Made.{made_files}
use Rattle.pl_demo.specs.declared.prelinking.TheConstants.{ASKED}
use Rattle.pl_demo.proofs.LawLemmas.{File, libraries_in, programs_in}
use Rattle.law_folder.specs.Causes.{IsAsked}
use Rattle.law_demo.specs.Small.{HasRoomForFiles as HasRoomFor, IsSmall, IsSmallFolder}
use Rattle.law_demo.proofs.SetMadeLaws.{Makes, all_made, each_made, no_cache_made, no_journal_made, restored_made}
use Rattle.law_demo.proofs.SmallLaws.{small_taken}
use Rattle.pl_form.specs.Files.{marked_in}
use Rattle.pl_gen.specs.Draws.{after, at, seeded, words}
use Rattle.pl_gen.specs.Lines.{library_name, program_name}
use Rattle.pl_gen.specs.Set as drawn
use Rattle.pl_gen.specs.Set.{demo_set, library_recipe, program_recipe}
use Rattle.rand_pcg.specs.Lcg.{Lcg}
use Rattle.rand_pcg.specs.Pcg.{pcg64}
use Rattle.pl_scope.specs.Members.{has}
use Rattle.pl_scope.proofs.NameLaws.{has_head, has_tail}
use Rattle.law_demo.specs.Candidates.{AreLibraries, IsKnownFile, IsProgramFile, kind_for}
use Rattle.law_demo.specs.Described.{IsDescribing}
use Rattle.law_demo.specs.Forms.{HasRoom, IsAbove}
use Rattle.law_demo.specs.SetFiles.{HasLibrary, HasProgram, library_names}
use Rattle.law_demo.proofs.BytesLaws.{plain_bytes}
use Rattle.law_demo.proofs.CandidateLaws.{files_known, libraries_ready, programs_ready}
use Rattle.law_demo.proofs.SetFilesLaws.{set_libraries, set_programs}
use Rattle.law_demo.specs.Folder.{DemosAreReady, IsDemoFolder, bounds, files_of, drawn_library_words, made, drawn_program_words}

-- ---- lists

all_both : {X : Type 0} (P : X → Type 0) (xs ys : List X) → AllByRecursion P xs → AllByRecursion P ys → AllByRecursion P (xs ++ ys)
all_both P [] ys all more = more
all_both P (x ∷ xs) ys all more = (all.0, all_both P xs ys all.1 more)

all_front : {X : Type 0} (P : X → Type 0) (xs ys : List X) → AllByRecursion P (xs ++ ys) → AllByRecursion P xs
all_front P [] ys all = tt
all_front P (x ∷ xs) ys all = (all.0, all_front P xs ys all.1)

all_back : {X : Type 0} (P : X → Type 0) (xs ys : List X) → AllByRecursion P (xs ++ ys) → AllByRecursion P ys
all_back P [] ys all = all
all_back P (x ∷ xs) ys all = all_back P xs ys all.1

all_mapped : {X : Type 0} (P : X → Type 0) (f : ℕ → X) → ((i : ℕ) → P (f i)) → (xs : List ℕ) → AllByRecursion P (map f xs)
all_mapped P f each [] = tt
all_mapped P f each (i ∷ xs) = (each i, all_mapped P f each xs)

at_ranged : {X : Type 0} (P : X → Type 0) (f : ℕ → X) (count from i : ℕ) → from ≤ i → i < from + count → AllByRecursion P (map f (range_with_len from count)) → P (f i)
at_ranged P f zero from i le lt all = absurd (omega (arith, le, lt))
at_ranged P f (suc count) from i le lt all = elim (cases_lt from i) [
  | inl later ↦ at_ranged P f count (from + 1) i (omega (arith, later)) (omega (arith, lt)) all.1
  | inr past ↦ (let same : from ≡ i = omega (arith, le, past) in subst (λ (k : ℕ). P (f k)) same all.0)
]

-- ---- how many

libraries_few : (number : ℕ) → drawn.libraries number ≤ 64
libraries_few number = let lt : at (words 2 (seeded number)) 0 % 57 < 57 = mod-lt (at (words 2 (seeded number)) 0) (omega arith) in omega (arith, lt)

programs_few : (number : ℕ) → drawn.programs number ≤ 12
programs_few number = let lt : at (words 2 (seeded number)) 1 % 12 < 12 = mod-lt (at (words 2 (seeded number)) 1) (omega arith) in omega (arith, lt)

pub words_long : (count : ℕ) (g : Lcg) → length (words count g) ≡ count
unfolding words
words_long zero g = refl
words_long (suc count) g = ap suc (words_long count (pcg64 g).1)

set_is : (number : ℕ) → demo_set number ≡ libraries_in number ++ programs_in number
unfolding demo_set
set_is number = refl

set_long : (number : ℕ) → length (libraries_in number ++ programs_in number) ≤ 128
set_long number =
    omega (
      arith,
      length-append (libraries_in number) (programs_in number),
      libraries_few number,
      programs_few number,
      length-map-range_with_len (drawn.library (drawn.libraries number) (after 2 (seeded number))) 0 (drawn.libraries number),
      length-map-range_with_len (drawn.program (drawn.libraries number) (after (322 * drawn.libraries number) (after 2 (seeded number)))) 0 (drawn.programs number),
    )

-- ---- the names are valid, and no two are the same

unequal : (a b : ℕ) → a < b → (a == b) ≡ false
unequal a b lt = grind (arith, nat_tests)

later_apart : (name_of : ℕ → List ℕ) (rest : List (List ℕ)) (count from k : ℕ) → NamesAreDistinct name_of → k < from → from + count ≤ 1000 → AllByRecursion (λ n. bytes_eq (name_of k) n ≡ false) rest → AllByRecursion (λ n. bytes_eq (name_of k) n ≡ false) (map name_of (range_with_len from count) ++ rest)
later_apart name_of rest zero from k apart lt few all = all
later_apart name_of rest (suc count) from k apart lt few all =
    (apart k from (omega (arith, lt, few)) (omega (arith, few)) (unequal k from lt), later_apart name_of rest count (from + 1) k apart (omega (arith, lt)) (omega (arith, few)) all)

distinct_more : (name_of : ℕ → List ℕ) (rest : List (List ℕ)) (count from : ℕ) → NamesAreDistinct name_of → from + count ≤ 1000 → ((k : ℕ) → AllByRecursion (λ n. bytes_eq (name_of k) n ≡ false) rest) → IsDistinct bytes_eq rest
    → IsDistinct bytes_eq (map name_of (range_with_len from count) ++ rest)
unfolding IsDistinct
distinct_more name_of rest zero from apart few cross distinct = distinct
distinct_more name_of rest (suc count) from apart few cross distinct =
    (later_apart name_of rest count (from + 1) from apart (omega arith) (omega (arith, few)) (cross from), distinct_more name_of rest count (from + 1) apart (omega (arith, few)) cross distinct)

none_distinct : IsDistinct bytes_eq []
unfolding IsDistinct
none_distinct = tt

names_of : (f : ℕ → File) (name_of : ℕ → List ℕ) → ((i : ℕ) → (f i).0 ≡ name_of i) → (xs : List ℕ) → map (λ (file : File). file.0) (map f xs) ≡ map name_of xs
names_of f name_of same [] = refl
names_of f name_of same (i ∷ xs) = rw (same i, names_of f name_of same xs) refl

set_distinct : (number : ℕ) → IsDistinct bytes_eq (map (λ (file : File). file.0) (libraries_in number ++ programs_in number))
set_distinct number =
    let l : ℕ = drawn.libraries number in
    let g : ℕ = drawn.programs number in
    let programs : List (List ℕ) = map program_name (range_with_len 0 g) in
    let own : IsDistinct bytes_eq programs = subst (IsDistinct bytes_eq) (append-nil programs) (distinct_more program_name [] g 0 files_named.programs_apart (omega (arith, programs_few number)) (λ k. tt) none_distinct) in
    let whole : IsDistinct bytes_eq (map library_name (range_with_len 0 l) ++ programs) =
    distinct_more library_name programs l 0 files_named.apart (omega (arith, libraries_few number)) (λ k. all_mapped (λ n. bytes_eq (library_name k) n ≡ false) program_name (λ j. files_named.kinds_apart k j) (range_with_len 0 g)) own in
    let named_so : map (λ (file : File). file.0) (libraries_in number ++ programs_in number) ≡ map library_name (range_with_len 0 l) ++ programs =
    map-append (λ (file : File). file.0) (libraries_in number) (programs_in number)
    ∙ (ap (λ (z : List (List ℕ)). z ++ map (λ (file : File). file.0) (programs_in number)) (names_of (drawn.library l (after 2 (seeded number))) library_name (λ i. refl) (range_with_len 0 l))
    ∙ ap (λ (z : List (List ℕ)). map library_name (range_with_len 0 l) ++ z) (names_of (drawn.program l (after (322 * l) (after 2 (seeded number)))) program_name (λ j. refl) (range_with_len 0 g))) in
    subst (IsDistinct bytes_eq) (sym named_so) whole

set_valid : (number : ℕ) → AllByRecursion (λ f. is_valid_name f.0 ≡ true) (libraries_in number ++ programs_in number)
set_valid number =
    all_both (λ f. is_valid_name f.0 ≡ true) (libraries_in number) (programs_in number)
    (all_mapped (λ f. is_valid_name f.0 ≡ true) (drawn.library (drawn.libraries number) (after 2 (seeded number))) (λ i. files_named.libraries i) (range_with_len 0 (drawn.libraries number)))
    (all_mapped (λ f. is_valid_name f.0 ≡ true) (drawn.program (drawn.libraries number) (after (322 * drawn.libraries number) (after 2 (seeded number)))) (λ j. files_named.programs j) (range_with_len 0 (drawn.programs number)))

-- ---- the file of a text

not_less : (a b : ℕ) → b ≤ a → nat_lt a b ≡ false
not_less a b le = grind (arith, nat_tests)

text_made : (text : List ℕ) (r : Recipe) (is : IsRead text r) → spec.made text ≡ Some is.bytes
unfolding spec.made
text_made text r is = rw (not_less 1048576 (length text) (omega (arith, is.short)), is.built, not_less 268435456 (length is.bytes) (omega (arith, is.small))) refl

-- what is known of it, whatever folder has it
abbrev anywhere : List ℕ → List ℕ → Option (List ℕ)
anywhere bytes n = Some bytes

known_of : (text : List ℕ) (kind : FileKind) (r : Recipe) (is : IsRead text r) → (kind ≡ Library) ⊎ (kind ≡ Program) → r.settings.kind ≡ kind → IsDescribing r → HasRoom r.settings → IsKnownFile (anywhere is.bytes) (kind_for kind) [] r
known_of text kind r is which same describing room =
    files_known (anywhere is.bytes) r.needs kind [] r which (record { same_kind = same; describing = describing; room = room; bytes = is.bytes; made = is.made; there = refl; needs = λ m t. t })

same_some : (x y : List ℕ) → ◌≡◌ {A = Option (List ℕ)} (Some x) (Some y) → x ≡ y
same_some x y e = cc

small_of : (text : List ℕ) (kind : FileKind) (r : Recipe) (is : IsRead text r) → (kind ≡ Library) ⊎ (kind ≡ Program) → r.settings.kind ≡ kind → IsDescribing r → HasRoom r.settings → IsSmall bounds is.bytes
small_of text kind r is which same describing room =
    let known = known_of text kind r is which same describing room in
    let own : known.bytes ≡ is.bytes = sym (same_some is.bytes known.bytes known.file) in
    record {
      size = is.small;
      plain = subst (λ (bytes : List ℕ). marked_in bytes ≡ None) own known.bare.none;
      span = λ o read. (let object : o ≡ known.object = ok_same o known.object (sym read ∙ (ap reads (sym own) ∙ known.accepted)) in
          subst (λ (x : Object). x.span + x.align ≤ 2 ^ 27) (sym object) (omega (arith, known.span, known.align)));
    }

-- ---- the recipes of a set

describing_of : (count : ℕ) (r : Recipe) → IsFine r → IsNamed count r → 0 < r.settings.data_size → IsDescribing r
describing_of count r fine is some = record { plain = fine.plain; modest = fine.modest; bounded = fine.bounded; some_data = some; spelled = is.spelled }

library_small : (count i : ℕ) (ws : List ℕ) → IsSmall bounds (set_read.libraries count i ws).bytes
unfolding library_of
library_small count i ws =
    let is = set_read.libraries count i ws in
    small_of (library_recipe count i ws) Library (library_of count i ws) is (inl refl) refl (describing_of count (library_of count i ws) is.fine (recipes_named.libraries count i ws).named (omega arith)) (record { spare = omega arith; some_data = omega arith; zeros = omega arith })

program_small : (count : ℕ) (ws : List ℕ) → 0 < length ws → IsSmall bounds (set_read.programs count ws).bytes
unfolding program_of
program_small count ws some =
    let is = set_read.programs count ws in
    small_of (program_recipe count ws) Program (program_of count ws) is (inr refl) refl (describing_of count (program_of count ws) is.fine (recipes_named.programs count ws some).named (omega arith)) (record { spare = omega arith; some_data = omega arith; zeros = omega arith })

-- ---- how many files are made

put_len : (files : Files) (name bytes : List ℕ) → len (insert files name bytes) ≤ len files + 1
put_len files name bytes = by (contains_key files name) (len-insert nat_list_cmp_total files name bytes)
  where
    by : (b : Bool) → len (insert files name bytes) ≡ cond b (len files) (len files + 1) → len (insert files name bytes) ≤ len files + 1
    by true is = omega (arith, is)
    by false is = omega (arith, is)

file_len : (files : Files) (f : File) → len (spec.with_file files f) ≤ len files + 1
unfolding spec.with_file
file_len files f = by_valid (is_valid_name f.0) (spec.made f.1)
  where
    by_made : (o : Option (List ℕ)) → len (spec.with_made o f.0 files) ≤ len files + 1
    by_made None = omega arith
    by_made (Some bytes) = put_len files f.0 bytes

    by_valid : (b : Bool) (o : Option (List ℕ)) → len (if b then spec.with_made o f.0 files else files) ≤ len files + 1
    by_valid true o = by_made o
    by_valid false o = omega arith

files_len : (set : List File) (files : Files) → len (fold spec.with_file files set) ≤ len files + length set
files_len [] files = omega arith
files_len (f ∷ set) files = omega (arith, file_len files f, files_len set (spec.with_file files f))

count_made : (set : List File) → count_by is_valid_name (keys (made_files set)) ≤ length set
unfolding made_files
count_made set =
    let ks = keys (fold spec.with_file spec.no_files set) in
    let none : len spec.no_files ≡ 0 = len-empty (slice_cmp nat_cmp) (List ℕ) in
    let all : length ks ≤ length set = omega (arith, length-map (entries (fold spec.with_file spec.no_files set)) (λ (e : File). e.0), len-entries (fold spec.with_file spec.no_files set), files_len set spec.no_files, none) in
    omega (arith, count_by-le-length is_valid_name ks, all)

-- ---- the folder

folder_is : (number : ℕ) → made number ≡ made_files (libraries_in number ++ programs_in number)
folder_is number = restored_made (demo_set number) ∙ ap made_files (set_is number)

has_made : (number : ℕ) → AllByRecursion (λ f. get (made number) f.0 ≡ spec.made f.1) (libraries_in number ++ programs_in number)
has_made number = subst (λ (files : Files). AllByRecursion (λ f. get files f.0 ≡ spec.made f.1) (libraries_in number ++ programs_in number)) (sym (folder_is number)) (all_made (libraries_in number ++ programs_in number) (set_distinct number) (set_valid number))

named_is : (number : ℕ) (n bytes : List ℕ) → is_valid_name n ≡ true → get (made number) n ≡ Some bytes → files_of number n ≡ Some bytes
named_is number n bytes valid there = ap (λ (b : Bool). if b then get (made number) n else None) valid ∙ there

library_there : (number i : ℕ) → i < drawn.libraries number → HasLibrary (files_of number) (drawn.libraries number) i (drawn_library_words number i)
library_there number i lt =
    let l : ℕ = drawn.libraries number in
    let g : Lcg = after 2 (seeded number) in
    let ws : List ℕ = words 322 (after (322 * i) g) in
    let is = set_read.libraries l i ws in
    let all = all_front (λ f. get (made number) f.0 ≡ spec.made f.1) (libraries_in number) (programs_in number) (has_made number) in
    let at_name : get (made number) (library_name i) ≡ spec.made (library_recipe l i ws) = at_ranged (λ f. get (made number) f.0 ≡ spec.made f.1) (drawn.library l g) l 0 i (omega arith) (omega (arith, lt)) all in
    record { bytes = is.bytes; made = is.made; there = named_is number (library_name i) is.bytes (files_named.libraries i) (at_name ∙ text_made (library_recipe l i ws) (library_of l i ws) is) }

program_there : (number j : ℕ) → j < drawn.programs number → HasProgram (files_of number) (drawn.libraries number) (program_name j) (drawn_program_words number j)
program_there number j lt =
    let l : ℕ = drawn.libraries number in
    let g : Lcg = after (322 * l) (after 2 (seeded number)) in
    let ws : List ℕ = words 131 (after (131 * j) g) in
    let is = set_read.programs l ws in
    let all = all_back (λ f. get (made number) f.0 ≡ spec.made f.1) (libraries_in number) (programs_in number) (has_made number) in
    let at_name : get (made number) (program_name j) ≡ spec.made (program_recipe l ws) = at_ranged (λ f. get (made number) f.0 ≡ spec.made f.1) (drawn.program l g) (drawn.programs number) 0 j (omega arith) (omega (arith, lt)) all in
    record { some = omega (arith, words_long 131 (after (131 * j) g)); bytes = is.bytes; made = is.made; there = named_is number (program_name j) is.bytes (files_named.programs j) (at_name ∙ text_made (program_recipe l ws) (program_of l ws) is) }

abbrev IsSmallFile : List ℕ → List ℕ → Type 0
IsSmallFile n file = IsSmall bounds file

library_makes : (number i : ℕ) → Makes IsSmallFile (drawn.library (drawn.libraries number) (after 2 (seeded number)) i)
library_makes number i file valid is =
    let l : ℕ = drawn.libraries number in
    let ws : List ℕ = words 322 (after (322 * i) (after 2 (seeded number))) in
    let read = set_read.libraries l i ws in
    subst (IsSmall bounds) (same_some read.bytes file (sym (text_made (library_recipe l i ws) (library_of l i ws) read) ∙ is)) (library_small l i ws)

program_makes : (number j : ℕ) → Makes IsSmallFile (drawn.program (drawn.libraries number) (after (322 * drawn.libraries number) (after 2 (seeded number))) j)
program_makes number j file valid is =
    let l : ℕ = drawn.libraries number in
    let g : Lcg = after (131 * j) (after (322 * l) (after 2 (seeded number))) in
    let ws : List ℕ = words 131 g in
    let read = set_read.programs l ws in
    subst (IsSmall bounds) (same_some read.bytes file (sym (text_made (program_recipe l ws) (program_of l ws) read) ∙ is)) (program_small l ws (omega (arith, words_long 131 g)))

all_small : (number : ℕ) (n file : List ℕ) → get (made number) n ≡ Some file → IsSmall bounds file
all_small number n file there =
    each_made IsSmallFile (libraries_in number ++ programs_in number)
    (all_both (Makes IsSmallFile) (libraries_in number) (programs_in number)
    (all_mapped (Makes IsSmallFile) (drawn.library (drawn.libraries number) (after 2 (seeded number))) (library_makes number) (range_with_len 0 (drawn.libraries number)))
    (all_mapped (Makes IsSmallFile) (drawn.program (drawn.libraries number) (after (322 * drawn.libraries number) (after 2 (seeded number)))) (program_makes number) (range_with_len 0 (drawn.programs number))))
    n file (sym (ap (λ (files : Files). get files n) (folder_is number)) ∙ there)

abbrev IsWritten : List ℕ → List ℕ → Type 0
IsWritten n file = IsBytes file

library_writes : (number i : ℕ) → Makes IsWritten (drawn.library (drawn.libraries number) (after 2 (seeded number)) i)
library_writes number i file valid is =
    let l : ℕ = drawn.libraries number in
    let ws : List ℕ = words 322 (after (322 * i) (after 2 (seeded number))) in
    let read = set_read.libraries l i ws in
    subst IsBytes (same_some read.bytes file (sym (text_made (library_recipe l i ws) (library_of l i ws) read) ∙ is)) (plain_bytes (library_of l i ws) read.bytes read.fine.plain read.fine.modest read.made)

program_writes : (number j : ℕ) → Makes IsWritten (drawn.program (drawn.libraries number) (after (322 * drawn.libraries number) (after 2 (seeded number))) j)
program_writes number j file valid is =
    let l : ℕ = drawn.libraries number in
    let ws : List ℕ = words 131 (after (131 * j) (after (322 * l) (after 2 (seeded number)))) in
    let read = set_read.programs l ws in
    subst IsBytes (same_some read.bytes file (sym (text_made (program_recipe l ws) (program_of l ws) read) ∙ is)) (plain_bytes (program_of l ws) read.bytes read.fine.plain read.fine.modest read.made)

pub all_written : (number : ℕ) (n file : List ℕ) → get (made number) n ≡ Some file → IsBytes file
all_written number n file there =
    each_made IsWritten (libraries_in number ++ programs_in number)
    (all_both (Makes IsWritten) (libraries_in number) (programs_in number)
    (all_mapped (Makes IsWritten) (drawn.library (drawn.libraries number) (after 2 (seeded number))) (library_writes number) (range_with_len 0 (drawn.libraries number)))
    (all_mapped (Makes IsWritten) (drawn.program (drawn.libraries number) (after (322 * drawn.libraries number) (after 2 (seeded number)))) (program_writes number) (range_with_len 0 (drawn.programs number))))
    n file (sym (ap (λ (files : Files). get files n) (folder_is number)) ∙ there)

small_folder : (number : ℕ) → IsSmallFolder bounds (made number)
small_folder number = record {
  no_journal = ap (λ (files : Files). get files journal) (folder_is number) ∙ no_journal_made (libraries_in number ++ programs_in number);
  no_cache = ap (λ (files : Files). get files cache) (folder_is number) ∙ no_cache_made (libraries_in number ++ programs_in number);
  few = subst (λ (files : Files). count_by is_valid_name (keys files) ≤ 128) (sym (folder_is number)) (omega (arith, count_made (libraries_in number ++ programs_in number), set_long number));
  each = all_small number;
}

demo_folder : (number : ℕ) → IsDemoFolder number
demo_folder number = record { libraries = library_there number; programs = program_there number; small = small_folder number }

-- ---- the run

named_from : (count from k : ℕ) → from ≤ k → k < from + count → has (map library_name (range_with_len from count)) (library_name k) ≡ true
named_from zero from k le lt = absurd (omega (arith, le, lt))
named_from (suc count) from k le lt = elim (cases_lt from k) [
  | inl later ↦ has_tail (library_name from) (library_name k) (map library_name (range_with_len (from + 1) count)) (named_from count (from + 1) k (omega (arith, later)) (omega (arith, lt)))
  | inr past ↦ (let same : from ≡ k = omega (arith, le, past) in
      subst (λ (n : ℕ). has (map library_name (range_with_len from (suc count))) (library_name n) ≡ true) same (has_head (library_name from) (map library_name (range_with_len (from + 1) count))))
]

library_named : (count k : ℕ) → k < count → has (library_names count) (library_name k) ≡ true
library_named count k lt = named_from count 0 k (omega arith) (omega (arith, lt))

pub asked_is : IsAsked ASKED
asked_is = record { region = omega arith; moment = omega arith }

room_is : HasRoomFor bounds ASKED
room_is = record { few = omega arith; stored = omega arith; together = omega arith; some = omega arith; room = omega arith; alone = refl }

above_is : (count : ℕ) (ws : List ℕ) → IsAbove (program_of count ws).settings ASKED.region
unfolding program_of
above_is count ws = inl (omega (arith, data_small (program_of count ws).settings))

pub demo_libraries : (number : ℕ) → AreLibraries (files_of number) (library_names (drawn.libraries number))
demo_libraries number = set_libraries (files_of number) (drawn.libraries number) (drawn_library_words number) (omega arith) (omega (arith, libraries_few number)) (demo_folder number).libraries

pub demo_program : (number j : ℕ) → j < drawn.programs number → IsProgramFile (files_of number) (library_names (drawn.libraries number)) ASKED.region (program_name j)
demo_program number j lt =
    let l : ℕ = drawn.libraries number in
    let own : List ℕ = drawn_program_words number j in
    set_programs (files_of number) l (drawn_library_words number) ASKED.region (program_name j) own (omega arith) (demo_folder number).libraries ((demo_folder number).programs j lt) (above_is l own)

pub demo_ready : DemosAreReady
demo_ready number =
    let folder : IsDemoFolder number = demo_folder number in
    let l : ℕ = drawn.libraries number in
    let run = small_taken (made number) ASKED bounds folder.small asked_is room_is in
    let libraries : AreLibraries (files_of number) (library_names l) = demo_libraries number in
    record {
      folder = folder;
      rows = run.0;
      runs = run.1;
      libraries = λ i lt. libraries_ready (files_of number) (library_names l) ASKED.region (library_name i) libraries (library_named l i lt);
      programs = λ j lt. programs_ready (files_of number) (library_names l) ASKED.region (program_name j) libraries (demo_program number j lt);
    }
