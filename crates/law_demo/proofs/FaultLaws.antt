-- The lines of a generated set's recipes have no fault.
use Rattle.std.proofs.Common.{◌≡◌, ℕ, ◌+◌, ◌*◌, ◌%◌, ◌<◌, Bool, true, false, List, [], ◌∷◌, ◌++◌, length, map, take, Some, None, refl, sym, ap, subst, ◌∙◌, append_assoc, length-append, arith}
use Rattle.std.proofs.Math.Seq.{take-append_seam}
use Rattle.std.specs.Prelude.{not, ◌==◌, ◌&&◌, ◌||◌, nat_lt, codes, cond, slice_get}
use Rattle.std.specs.List.{AllByRecursion, find, list_any, range_with_len}
use Rattle.std.specs.Str.{bytes_eq}
use Rattle.std.proofs.lemmas.Bool.{or_from, or_parts}
use Rattle.std.proofs.lemmas.Bool.Decides.{nat_tests}
use Rattle.std.proofs.lemmas.List.{append-nil}
use Rattle.std.proofs.lemmas.List.Folds.{list_any-append}
use Rattle.pl_base.specs.Pairs.{any_pair}
use Rattle.pl_build.specs.declared.kind.FileKind.{FileKind}
use Rattle.pl_build.specs.declared.kind.FileKind.TheVariants.{Program, Library}
use Rattle.pl_build.specs.declared.line.Line.{Line}
use Rattle.pl_build.specs.declared.line.Line.TheVariants.{Empty, First, Hash, Buckets, Needs, Data, Bss, Names, Relocates}
use Rattle.pl_build.specs.declared.line.Relocation.{Relocation}
use Rattle.pl_build.specs.declared.line.SymbolLine.{SymbolLine}
use Rattle.pl_build.specs.Checks.{is_misplaced, is_static_recipe, is_wrong, is_over_addend, is_over, writes, wants_version, is_unknown, keyword, is_repeated, lowest_kind, fault_at, is_fault, faults, data_size, first_fault}
use Rattle.pl_build.specs.RelocationLines.{is_no_symbol}
use Rattle.pl_build.specs.Relocations.{is_written_as}
use Rattle.pl_gen.specs.Draws.{at}
use Rattle.pl_gen.specs.Lines.{library_name, function_name, object_name, has, kind_of, known_after}
use Rattle.pl_gen.specs.Set.{functions, needed}
use Rattle.pl_gen.specs.declared.relocation_kind.RelocationKind.{RelocationKind}
use Rattle.pl_gen.specs.declared.relocation_kind.RelocationKind.TheVariants.{Relative, Abs64, GlobDat, JumpSlot}
use Rattle.law_demo.specs.Modest.{is_namesake}
use Rattle.law_demo.specs.SetLines.{first_lines, relocation_lines, all_relocation_lines, library_lines, program_lines}
use Rattle.law_demo.specs.SetRecipes.{once, needed_names, own_functions, own_object, reference, references, relocation_of, relocations_from, copy_of, library_words, program_words}
use Rattle.law_demo.specs.Spelled.{defined, referred, recipe_relocation}
use Rattle.law_demo.proofs.CoverLaws.{IsKnown, any_first, any_second, by_there, own_there, all_known}
use Rattle.law_demo.proofs.NameLaws.{same_name}

-- ---- lines behind the first, each with those before it

pub record IsSpotless (lines before : List Line) (l : Line) : Type 0 where
  pub placed : is_misplaced false l ≡ false
  pub within : (size : ℕ) → is_over before size l ≡ false
  pub known : is_unknown lines l ≡ false
  pub once_there : is_repeated before l ≡ false

abbrev pub AreSpotless : List Line → List Line → List Line → Type 0
AreSpotless lines before [] = Unit {0}
AreSpotless lines before (l ∷ ls) = IsSpotless lines before l × AreSpotless lines (before ++ l ∷ []) ls

spotless_both : (lines before xs ys : List Line) → AreSpotless lines before xs → AreSpotless lines (before ++ xs) ys → AreSpotless lines before (xs ++ ys)
spotless_both lines before [] ys one two = subst (λ (b : List Line). AreSpotless lines b ys) (append-nil before) two
spotless_both lines before (x ∷ xs) ys one two =
    (one.0, spotless_both lines (before ++ x ∷ []) xs ys one.1 (subst (λ (b : List Line). AreSpotless lines b ys) (sym (append_assoc before (x ∷ []) xs)) two))

line_there : (before : List Line) (l : Line) (after : List Line) → slice_get (before ++ l ∷ after) (length before) ≡ Some l
line_there [] l after = refl
line_there (x ∷ xs) l after = line_there xs l after

spotless_here : (lines before after : List Line) (l : Line) (size : ℕ) → lines ≡ before ++ l ∷ after → (length before == 0) ≡ false → is_static_recipe lines ≡ false → IsSpotless lines before l → is_fault (fault_at lines size (length before)) ≡ false
unfolding fault_at lowest_kind is_wrong
spotless_here lines before after l size e later static fine =
    let got : slice_get lines (length before) ≡ Some l = ap (λ (ls : List Line). slice_get ls (length before)) e ∙ line_there before l after in
    let first : take (length before) lines ≡ before = ap (λ (ls : List Line). take (length before) ls) e ∙ take-append_seam before (l ∷ after) in
    rw (got, later, static, fine.placed, first, fine.within size, fine.known, fine.once_there) refl

more_than_none : (before : List Line) (l : Line) → (length (before ++ l ∷ []) == 0) ≡ false
more_than_none before l = rw (length-append before (l ∷ [])) (not_zero (length before))
  where
    not_zero : (n : ℕ) → (n + 1 == 0) ≡ false
    not_zero n = grind (arith, nat_tests)

no_faults : (lines before after : List Line) (size : ℕ) → lines ≡ before ++ after → (length before == 0) ≡ false → is_static_recipe lines ≡ false → AreSpotless lines before after → find is_fault (map (fault_at lines size) (range_with_len (length before) (length after))) ≡ None
no_faults lines before [] size e later static fine = refl
no_faults lines before (l ∷ after) size e later static fine =
    let more = no_faults lines (before ++ l ∷ []) after size (e ∙ sym (append_assoc before (l ∷ []) after)) (more_than_none before l) static fine.1 in
    rw (spotless_here lines before after l size e later static fine.0)
    (ap (λ (n : ℕ). find is_fault (map (fault_at lines size) (range_with_len n (length after)))) (sym (length-append before (l ∷ []))) ∙ more)

no_fault : (kind : FileKind) (rest : List Line) → is_static_recipe (First kind ∷ rest) ≡ false → AreSpotless (First kind ∷ rest) (First kind ∷ []) rest → first_fault (First kind ∷ rest) ≡ None
unfolding first_fault faults fault_at lowest_kind is_wrong is_over is_unknown is_repeated keyword
no_fault kind rest static fine = no_faults (First kind ∷ rest) (First kind ∷ []) rest (data_size (First kind ∷ rest)) refl refl static fine

-- ---- lines that say nothing twice

needs_spotless : (lines before : List Line) (name : List ℕ) → IsSpotless lines before (Needs name)
unfolding is_misplaced is_over is_unknown is_repeated keyword
needs_spotless lines before name = record { placed = refl; within = λ size. refl; known = refl; once_there = refl }

all_needs_spotless : (lines before : List Line) (xs : List (List ℕ)) → AreSpotless lines before (map Needs xs)
all_needs_spotless lines before [] = tt
all_needs_spotless lines before (x ∷ xs) = (needs_spotless lines before x, all_needs_spotless lines (before ++ Needs x ∷ []) xs)

end_spotless : (lines before : List Line) → IsSpotless lines before Empty
unfolding is_misplaced is_over is_unknown is_repeated keyword
end_spotless lines before = record { placed = refl; within = λ size. refl; known = refl; once_there = refl }

-- ---- lines that stand once

abbrev has_keyword : List ℕ → List Line → Bool
has_keyword word ls = list_any (λ l. bytes_eq (keyword l) word) ls

no_keyword_both : (word : List ℕ) (xs ys : List Line) → has_keyword word xs ≡ false → has_keyword word ys ≡ false → has_keyword word (xs ++ ys) ≡ false
no_keyword_both word xs ys one two = list_any-append (λ l. bytes_eq (keyword l) word) xs ys ∙ or_from (has_keyword word xs) (has_keyword word ys) one two

needs_no_keyword : (b : ℕ) (word : List ℕ) (xs : List (List ℕ)) → has_keyword (b ∷ word) (map Needs xs) ≡ false
unfolding keyword
needs_no_keyword b word [] = refl
needs_no_keyword b word (x ∷ xs) = needs_no_keyword b word xs

names_no_keyword : (b : ℕ) (word : List ℕ) (xs : List SymbolLine) → has_keyword (b ∷ word) (map Names xs) ≡ false
unfolding keyword
names_no_keyword b word [] = refl
names_no_keyword b word (x ∷ xs) = names_no_keyword b word xs

relocations_no_keyword : (b : ℕ) (word known : List ℕ) (place : ℕ) (words : List ℕ) → has_keyword (b ∷ word) (all_relocation_lines known place words) ≡ false
unfolding all_relocation_lines relocation_lines keyword
relocations_no_keyword b word known place (kind ∷ (w ∷ more)) =
    let mine : List SymbolLine = reference known (kind_of kind) w in
    no_keyword_both (b ∷ word) (map Names mine ++ Relocates (relocation_of place (kind_of kind) w) ∷ []) (all_relocation_lines (known_after known (kind_of kind) w) (place + 8) more)
    (no_keyword_both (b ∷ word) (map Names mine) (Relocates (relocation_of place (kind_of kind) w) ∷ []) (names_no_keyword b word mine) refl)
    (relocations_no_keyword b word (known_after known (kind_of kind) w) (place + 8) more)
relocations_no_keyword b word known place (kind ∷ []) = refl
relocations_no_keyword b word known place [] = refl

hash_spotless : (lines : List Line) (kind : FileKind) (sysv gnu : Bool) → IsSpotless lines (First kind ∷ []) (Hash (record { sysv = sysv; gnu = gnu }))
unfolding is_misplaced is_over is_unknown is_repeated keyword
hash_spotless lines kind sysv gnu = record { placed = refl; within = λ size. refl; known = refl; once_there = refl }

buckets_spotless : (lines : List Line) (kind : FileKind) (sysv gnu : Bool) → IsSpotless lines (First kind ∷ Hash (record { sysv = sysv; gnu = gnu }) ∷ []) (Buckets 8)
unfolding is_misplaced is_over is_unknown is_repeated keyword
buckets_spotless lines kind sysv gnu = record { placed = refl; within = λ size. refl; known = refl; once_there = refl }

data_spotless : (lines before : List Line) (n : ℕ) → nat_lt 0x800000 n ≡ false → has_keyword (codes "data") before ≡ false → IsSpotless lines before (Data n)
unfolding is_misplaced is_over is_unknown is_repeated keyword
data_spotless lines before n small none = record { placed = refl; within = λ size. small; known = refl; once_there = none }

bss_spotless : (lines before : List Line) → has_keyword (codes "bss") before ≡ false → IsSpotless lines before (Bss 8)
unfolding is_misplaced is_over is_unknown is_repeated keyword
bss_spotless lines before none = record { placed = refl; within = λ size. refl; known = refl; once_there = none }

-- ---- names

-- the lines say these symbols
abbrev AreSymbolsOf : List Line → List SymbolLine → Type 0
AreSymbolsOf ls symbols = (name : List ℕ) → list_any (writes name) ls ≡ list_any (is_written_as name) symbols

tells_both : (xs ys : List Line) (ss ts : List SymbolLine) → AreSymbolsOf xs ss → AreSymbolsOf ys ts → AreSymbolsOf (xs ++ ys) (ss ++ ts)
tells_both xs ys ss ts one two = λ name.
    list_any-append (writes name) xs ys
    ∙ ap (λ (b : Bool). b || list_any (writes name) ys) (one name)
    ∙ ap (λ (b : Bool). list_any (is_written_as name) ss || b) (two name)
    ∙ sym (list_any-append (is_written_as name) ss ts)

tells_needs : (xs : List (List ℕ)) → AreSymbolsOf (map Needs xs) []
tells_needs [] = λ name. refl
tells_needs (x ∷ xs) = tells_needs xs

tells_names : (ss : List SymbolLine) → AreSymbolsOf (map Names ss) ss
tells_names [] = λ name. refl
tells_names (s ∷ ss) = λ name. ap (λ (b : Bool). bytes_eq s.written name || b) (tells_names ss name)

-- with a line that says none
tells_quiet : (ls : List Line) (l : Line) (symbols : List SymbolLine) → ((name : List ℕ) → writes name l ≡ false) → AreSymbolsOf ls symbols → AreSymbolsOf (ls ++ l ∷ []) symbols
tells_quiet ls l symbols quiet tells =
    subst (λ (ss : List SymbolLine). AreSymbolsOf (ls ++ l ∷ []) ss) (append-nil symbols) (tells_both ls (l ∷ []) symbols [] tells (λ name. rw (quiet name) refl))

tells_relocations : (known : List ℕ) (place : ℕ) (words : List ℕ) → AreSymbolsOf (all_relocation_lines known place words) (references known words)
unfolding all_relocation_lines relocation_lines references
tells_relocations known place (kind ∷ (word ∷ more)) =
    let mine : List SymbolLine = reference known (kind_of kind) word in
    let next : Line = Relocates (relocation_of place (kind_of kind) word) in
    tells_both (map Names mine ++ next ∷ []) (all_relocation_lines (known_after known (kind_of kind) word) (place + 8) more) mine (references (known_after known (kind_of kind) word) more)
    (tells_quiet (map Names mine) next mine (λ name. refl) (tells_names mine)) (tells_relocations (known_after known (kind_of kind) word) (place + 8) more)
tells_relocations known place (kind ∷ []) = λ name. refl
tells_relocations known place [] = λ name. refl

-- a symbol under its own name alone
pub record IsBare (s : SymbolLine) : Type 0 where
  pub version : s.version ≡ []
  pub same : s.written ≡ s.name

pub bare_both : (xs ys : List SymbolLine) → AllByRecursion IsBare xs → AllByRecursion IsBare ys → AllByRecursion IsBare (xs ++ ys)
bare_both [] ys one two = two
bare_both (x ∷ xs) ys one two = (one.0, bare_both xs ys one.1 two)

bare_first : (xs ys : List SymbolLine) → AllByRecursion IsBare (xs ++ ys) → AllByRecursion IsBare xs
bare_first [] ys all = tt
bare_first (x ∷ xs) ys all = (all.0, bare_first xs ys all.1)

bare_second : (xs ys : List SymbolLine) → AllByRecursion IsBare (xs ++ ys) → AllByRecursion IsBare ys
bare_second [] ys all = all
bare_second (x ∷ xs) ys all = bare_second xs ys all.1

-- a symbol has the name of none before it
apart : (ss : List SymbolLine) (s : SymbolLine) (more : List SymbolLine) → AllByRecursion IsBare ss → IsBare s → any_pair is_namesake (ss ++ s ∷ more) ≡ false → list_any (is_written_as s.written) ss ≡ false
apart [] s more all bare distinct = refl
apart (x ∷ xs) s more all bare distinct =
    let parts = or_parts (list_any (is_namesake x) (xs ++ s ∷ more)) (any_pair is_namesake (xs ++ s ∷ more)) distinct in
    let behind = or_parts (list_any (is_namesake x) xs) (list_any (is_namesake x) (s ∷ more)) (sym (list_any-append (is_namesake x) xs (s ∷ more)) ∙ parts.0) in
    let here = or_parts (is_namesake x s) (list_any (is_namesake x) more) behind.1 in
    or_from (is_written_as s.written x) (list_any (is_written_as s.written) xs)
    (ap (λ (name : List ℕ). bytes_eq name s.written) all.0.same ∙ ap (bytes_eq x.name) bare.same ∙ here.0) (apart xs s more all.1 bare parts.1)

name_spotless : (lines before : List Line) (x : SymbolLine) → IsBare x → list_any (writes x.written) before ≡ false → IsSpotless lines before (Names x)
unfolding is_misplaced is_over is_unknown wants_version is_repeated
name_spotless lines before x bare fresh = record { placed = refl; within = λ size. refl; known = rw bare.version refl; once_there = fresh }

names_spotless : (lines before : List Line) (ss xs more : List SymbolLine) → AreSymbolsOf before ss → AllByRecursion IsBare (ss ++ xs) → any_pair is_namesake (ss ++ (xs ++ more)) ≡ false → AreSpotless lines before (map Names xs)
names_spotless lines before ss [] more tells all distinct = tt
names_spotless lines before ss (x ∷ xs) more tells all distinct =
    let bare : IsBare x = (bare_second ss (x ∷ xs) all).0 in
    let fresh : list_any (writes x.written) before ≡ false = tells x.written ∙ apart ss x (xs ++ more) (bare_first ss (x ∷ xs) all) bare distinct in
    let moved : AllByRecursion IsBare ((ss ++ x ∷ []) ++ xs) = subst (λ (l : List SymbolLine). AllByRecursion IsBare l) (sym (append_assoc ss (x ∷ []) xs)) all in
    let still : any_pair is_namesake ((ss ++ x ∷ []) ++ (xs ++ more)) ≡ false = ap (any_pair is_namesake) (append_assoc ss (x ∷ []) (xs ++ more)) ∙ distinct in
    (name_spotless lines before x bare fresh, names_spotless lines (before ++ Names x ∷ []) (ss ++ x ∷ []) xs more (tells_both before (Names x ∷ []) ss (x ∷ []) tells (tells_names (x ∷ []))) moved still)

-- ---- relocations

-- a relocation by no symbol, or by one that a line says
relocation_spotless : (lines before : List Line) (symbols : List SymbolLine) (x : Relocation) → AreSymbolsOf lines symbols → IsKnown symbols x → is_over_addend x.addend ≡ false → IsSpotless lines before (Relocates x)
unfolding is_misplaced is_over is_unknown is_repeated keyword
relocation_spotless lines before symbols x tells known small = record {
  placed = refl;
  within = λ size. small;
  known = rw (tells x.name) (named (is_no_symbol x.name) (list_any (is_written_as x.name) symbols) known);
  once_there = refl;
}
  where
    named : (a b : Bool) → (a || b) ≡ true → (not a && not b) ≡ false
    named true b h = refl
    named false b h = rw h refl

small_addend : (place : ℕ) (kind : RelocationKind) (word : ℕ) → is_over_addend (relocation_of place kind word).addend ≡ false
unfolding is_over_addend relocation_of recipe_relocation
small_addend place Relative word = below (word % 64) (omega arith)
  where
    below : (n : ℕ) → n < 64 → nat_lt 9223372036854775807 (8 * n) ≡ false
    below n lt = grind (arith, nat_tests)
small_addend place Abs64 word = refl
small_addend place GlobDat word = refl
small_addend place JumpSlot word = refl

relocations_spotless : (lines before : List Line) (symbols ss : List SymbolLine) (known : List ℕ) (place : ℕ) (words : List ℕ) (more : List SymbolLine)
    → AreSymbolsOf lines symbols → AllByRecursion (IsKnown symbols) (relocations_from place words)
    → AreSymbolsOf before ss → AllByRecursion IsBare (ss ++ references known words) → any_pair is_namesake (ss ++ (references known words ++ more)) ≡ false
    → AreSpotless lines before (all_relocation_lines known place words)
unfolding all_relocation_lines relocation_lines references relocations_from
relocations_spotless lines before symbols ss known place (kind ∷ (word ∷ rest)) more all_told knowns tells all distinct =
    let mine : List SymbolLine = reference known (kind_of kind) word in
    let next : Relocation = relocation_of place (kind_of kind) word in
    let later : List ℕ = known_after known (kind_of kind) word in
    let others : List SymbolLine = references later rest in
    let first : List Line = map Names mine ++ Relocates next ∷ [] in
    let moved : AllByRecursion IsBare ((ss ++ mine) ++ others) = subst (λ (l : List SymbolLine). AllByRecursion IsBare l) (sym (append_assoc ss mine others)) all in
    let ahead : any_pair is_namesake (ss ++ (mine ++ (others ++ more))) ≡ false = ap (λ (l : List SymbolLine). any_pair is_namesake (ss ++ l)) (sym (append_assoc mine others more)) ∙ distinct in
    let still : any_pair is_namesake ((ss ++ mine) ++ (others ++ more)) ≡ false = ap (any_pair is_namesake) (append_assoc ss mine (others ++ more)) ∙ ahead in
    let names = names_spotless lines before ss mine (others ++ more) tells (bare_first (ss ++ mine) others moved) ahead in
    let one = relocation_spotless lines (before ++ map Names mine) symbols next all_told knowns.0 (small_addend place (kind_of kind) word) in
    let told : AreSymbolsOf (before ++ first) (ss ++ mine) = tells_both before first ss mine tells (tells_quiet (map Names mine) (Relocates next) mine (λ name. refl) (tells_names mine)) in
    spotless_both lines before first (all_relocation_lines later (place + 8) rest)
    (spotless_both lines before (map Names mine) (Relocates next ∷ []) names (one, tt))
    (relocations_spotless lines (before ++ first) symbols (ss ++ mine) later (place + 8) rest more all_told knowns.1 told moved still)
relocations_spotless lines before symbols ss known place (kind ∷ []) more all_told knowns tells all distinct = tt
relocations_spotless lines before symbols ss known place [] more all_told knowns tells all distinct = tt

-- ---- the symbols of the recipes

once_bare : (before : List ℕ) (n : ℕ) (s : SymbolLine) → IsBare s → AllByRecursion IsBare (once before n s)
once_bare before n s bare = by_test (has before n)
  where
    by_test : (b : Bool) → AllByRecursion IsBare (cond b [] (s ∷ []))
    by_test true = tt
    by_test false = (bare, tt)

pub defined_bare : (name : List ℕ) (kind offset : ℕ) → IsBare (defined name kind offset)
unfolding defined
defined_bare name kind offset = record { version = refl; same = refl }

referred_bare : (name : List ℕ) → IsBare (referred name)
unfolding referred
referred_bare name = record { version = refl; same = refl }

pub own_bare : (before : List ℕ) (offset : ℕ) (xs : List ℕ) → AllByRecursion IsBare (own_functions before offset xs)
unfolding own_functions
own_bare before offset [] = tt
own_bare before offset (n ∷ more) =
    bare_both (once before n (defined (function_name n) 2 offset)) (own_functions (before ++ n ∷ []) (offset + 8) more)
    (once_bare before n (defined (function_name n) 2 offset) (defined_bare (function_name n) 2 offset)) (own_bare (before ++ n ∷ []) (offset + 8) more)

reference_bare : (known : List ℕ) (kind : RelocationKind) (word : ℕ) → AllByRecursion IsBare (reference known kind word)
unfolding reference
reference_bare known Relative word = tt
reference_bare known Abs64 word = once_bare known (word % 1000) (referred (function_name (word % 1000))) (referred_bare (function_name (word % 1000)))
reference_bare known GlobDat word = once_bare known (word % 1000) (referred (function_name (word % 1000))) (referred_bare (function_name (word % 1000)))
reference_bare known JumpSlot word = once_bare known (word % 1000) (referred (function_name (word % 1000))) (referred_bare (function_name (word % 1000)))

pub references_bare : (known words : List ℕ) → AllByRecursion IsBare (references known words)
unfolding references
references_bare known (kind ∷ (word ∷ more)) =
    bare_both (reference known (kind_of kind) word) (references (known_after known (kind_of kind) word) more) (reference_bare known (kind_of kind) word) (references_bare (known_after known (kind_of kind) word) more)
references_bare known (kind ∷ []) = tt
references_bare known [] = tt

-- ---- a library

needing_no_data : (kind : FileKind) (sysv : Bool) (a b c : ℕ) → has_keyword (codes "data") (first_lines kind sysv ++ (Needs (library_name a) ∷ Needs (library_name b) ∷ Needs (library_name c) ∷ [])) ≡ false
unfolding keyword
needing_no_data kind sysv a b c = refl

pub library_faultless : (count i : ℕ) (words : List ℕ) → any_pair is_namesake (own_functions [] 0 (functions words) ++ own_object i ∷ references (functions words) (library_words words)) ≡ false
    → first_fault (library_lines count i words ++ Empty ∷ []) ≡ None
unfolding library_lines is_static_recipe
library_faultless count i words distinct =
    let lines : List Line = library_lines count i words ++ Empty ∷ [] in
    let known : List ℕ = functions words in
    let own : List SymbolLine = own_functions [] 0 known in
    let object : SymbolLine = own_object i in
    let others : List SymbolLine = references known (library_words words) in
    let symbols : List SymbolLine = own ++ object ∷ others in
    let relocations : List Line = all_relocation_lines known 0x808 (library_words words) in
    let head : List Line =
    First Library ∷ Hash (record { sysv = true; gnu = true }) ∷ Buckets 8 ∷ Needs (library_name ((i + 1) % count)) ∷ Needs (library_name (at words 0 % count)) ∷ Needs (library_name (at words 1 % count)) ∷ Data 0x1000 ∷ [] in
    let defs : List Line = head ++ map Names own in
    let front : List Line = defs ++ Names object ∷ [] in
    let told_head : AreSymbolsOf head [] = λ name. refl in
    let told_defs : AreSymbolsOf defs own = tells_both head (map Names own) [] own told_head (tells_names own) in
    let told_front : AreSymbolsOf front (own ++ object ∷ []) = tells_both defs (Names object ∷ []) own (object ∷ []) told_defs (tells_names (object ∷ [])) in
    let rest_told : AreSymbolsOf (map Names own ++ (Names object ∷ relocations)) symbols =
    tells_both (map Names own) (Names object ∷ relocations) own (object ∷ others) (tells_names own) (tells_both (Names object ∷ []) relocations (object ∷ []) others (tells_names (object ∷ [])) (tells_relocations known 0x808 (library_words words))) in
    let told : AreSymbolsOf lines symbols = tells_quiet (library_lines count i words) Empty symbols (λ name. refl) (tells_both head (map Names own ++ (Names object ∷ relocations)) [] symbols told_head rest_told) in
    let bare_object : AllByRecursion IsBare (object ∷ []) = (defined_bare (object_name i) 1 0x800, tt) in
    let bare_front : AllByRecursion IsBare (own ++ object ∷ []) = bare_both own (object ∷ []) (own_bare [] 0 known) bare_object in
    let bare_all : AllByRecursion IsBare ((own ++ object ∷ []) ++ others) = bare_both (own ++ object ∷ []) others bare_front (references_bare known (library_words words)) in
    let shifted : (own ++ object ∷ []) ++ others ≡ symbols = append_assoc own (object ∷ []) others in
    let no_more : any_pair is_namesake ((own ++ object ∷ []) ++ (others ++ [])) ≡ false =
    ap (λ (l : List SymbolLine). any_pair is_namesake ((own ++ object ∷ []) ++ l)) (append-nil others) ∙ ap (any_pair is_namesake) shifted ∙ distinct in
    let knowns : AllByRecursion (IsKnown symbols) (relocations_from 0x808 (library_words words)) =
    subst (λ (l : List SymbolLine). AllByRecursion (IsKnown l) (relocations_from 0x808 (library_words words))) (append-nil ((own ++ object ∷ []) ++ others) ∙ shifted)
    (all_known known 0x808 (library_words words) (own ++ object ∷ []) [] (λ n hit. any_first (is_written_as (function_name n)) own (object ∷ []) (own_there [] 0 known [] (λ k none. none) n hit))) in
    let rest : List Line = map Names own ++ (Names object ∷ relocations) in
    let body : List Line =
    Hash (record { sysv = true; gnu = true }) ∷ Buckets 8 ∷ Needs (library_name ((i + 1) % count)) ∷ Needs (library_name (at words 0 % count)) ∷ Needs (library_name (at words 1 % count)) ∷ Data 0x1000 ∷ rest in
    let tail : AreSpotless lines head rest =
    spotless_both lines head (map Names own) (Names object ∷ relocations)
    (names_spotless lines head [] own (object ∷ others) told_head (own_bare [] 0 known) distinct) (
      (names_spotless lines defs own (object ∷ []) others told_defs bare_front distinct).0,
      relocations_spotless lines front symbols (own ++ object ∷ []) known 0x808 (library_words words) [] told knowns told_front bare_all no_more,
    ) in
    let fine : AreSpotless lines (First Library ∷ []) body =
    (hash_spotless lines Library true true, (buckets_spotless lines Library true true, (needs_spotless lines _ _, (needs_spotless lines _ _, (needs_spotless lines _ _, (data_spotless lines _ 0x1000 refl (needing_no_data Library true ((i + 1) % count) (at words 0 % count) (at words 1 % count)), tail)))))) in
    no_fault Library (body ++ Empty ∷ []) refl (spotless_both lines (First Library ∷ []) body (Empty ∷ []) fine (end_spotless lines (First Library ∷ body), tt))

-- ---- a program

head_no_data : (kind : FileKind) (sysv : Bool) → has_keyword (codes "data") (first_lines kind sysv) ≡ false
unfolding keyword
head_no_data kind sysv = refl

head_no_bss : (kind : FileKind) (sysv : Bool) → has_keyword (codes "bss") (first_lines kind sysv) ≡ false
unfolding keyword
head_no_bss kind sysv = refl

data_no_bss : (n : ℕ) → has_keyword (codes "bss") (Data n ∷ []) ≡ false
unfolding keyword
data_no_bss n = refl

copy_known : (others : List SymbolLine) (i : ℕ) → IsKnown (others ++ own_object i ∷ []) (copy_of i)
unfolding defined recipe_relocation
copy_known others i = by_there (others ++ own_object i ∷ []) (copy_of i) (any_second (is_written_as (object_name i)) others (own_object i ∷ []) (rw (same_name (object_name i)) refl))

copy_small : (i : ℕ) → is_over_addend (copy_of i).addend ≡ false
unfolding is_over_addend recipe_relocation
copy_small i = refl

pub program_faultless : (count : ℕ) (words : List ℕ) → any_pair is_namesake (references [] (program_words words) ++ own_object (at words 0 % count) ∷ []) ≡ false
    → first_fault (program_lines count words ++ Empty ∷ []) ≡ None
unfolding program_lines is_static_recipe
program_faultless count words distinct =
    let lines : List Line = program_lines count words ++ Empty ∷ [] in
    let i : ℕ = at words 0 % count in
    let needs : List (List ℕ) = needed_names [] (needed count words) in
    let object : SymbolLine = own_object i in
    let others : List SymbolLine = references [] (program_words words) in
    let symbols : List SymbolLine = others ++ object ∷ [] in
    let relocations : List Line = all_relocation_lines [] 0 (program_words words) in
    let last : List Line = Bss 8 ∷ Names object ∷ Relocates (copy_of i) ∷ [] in
    let head : List Line = first_lines Program false in
    let needing : List Line = head ++ map Needs needs in
    let front : List Line = needing ++ Data 0x800 ∷ [] in
    let placed : List Line = front ++ relocations in
    let zeros : List Line = placed ++ Bss 8 ∷ [] in
    let told_front : AreSymbolsOf front [] = tells_quiet needing (Data 0x800) [] (λ name. refl) (tells_both head (map Needs needs) [] [] (λ name. refl) (tells_needs needs)) in
    let told_placed : AreSymbolsOf placed others = tells_both front relocations [] others told_front (tells_relocations [] 0 (program_words words)) in
    let told_zeros : AreSymbolsOf zeros others = tells_quiet placed (Bss 8) others (λ name. refl) told_placed in
    let told_last : AreSymbolsOf last (object ∷ []) = λ name. refl in
    let told_rest : AreSymbolsOf (relocations ++ last) symbols = tells_both relocations last others (object ∷ []) (tells_relocations [] 0 (program_words words)) told_last in
    let told_data : AreSymbolsOf (Data 0x800 ∷ (relocations ++ last)) symbols = λ name. told_rest name in
    let told_body : AreSymbolsOf (map Needs needs ++ (Data 0x800 ∷ (relocations ++ last))) symbols = tells_both (map Needs needs) (Data 0x800 ∷ (relocations ++ last)) [] symbols (tells_needs needs) told_data in
    let told_all : AreSymbolsOf (program_lines count words) symbols = λ name. told_body name in
    let told : AreSymbolsOf lines symbols = tells_quiet (program_lines count words) Empty symbols (λ name. refl) told_all in
    let bare_others : AllByRecursion IsBare others = references_bare [] (program_words words) in
    let bare_all : AllByRecursion IsBare (others ++ object ∷ []) = bare_both others (object ∷ []) bare_others (defined_bare (object_name i) 1 0x800, tt) in
    let knowns : AllByRecursion (IsKnown symbols) (relocations_from 0 (program_words words)) = all_known [] 0 (program_words words) [] (object ∷ []) (λ n none. none) in
    let no_data : has_keyword (codes "data") needing ≡ false = no_keyword_both (codes "data") head (map Needs needs) (head_no_data Program false) (needs_no_keyword 100 (codes "ata") needs) in
    let no_bss : has_keyword (codes "bss") placed ≡ false =
    no_keyword_both (codes "bss") front relocations
    (no_keyword_both (codes "bss") needing (Data 0x800 ∷ []) (no_keyword_both (codes "bss") head (map Needs needs) (head_no_bss Program false) (needs_no_keyword 98 (codes "ss") needs)) (data_no_bss 0x800))
    (relocations_no_keyword 98 (codes "ss") [] 0 (program_words words)) in
    let ending : AreSpotless lines placed last =
    (bss_spotless lines placed no_bss, ((names_spotless lines zeros others (object ∷ []) [] told_zeros bare_all distinct).0, (relocation_spotless lines (zeros ++ Names object ∷ []) symbols (copy_of i) told (copy_known others i) (copy_small i), tt))) in
    let tail : AreSpotless lines front (relocations ++ last) =
    spotless_both lines front relocations last (relocations_spotless lines front symbols [] [] 0 (program_words words) (object ∷ []) told knowns told_front bare_others distinct) ending in
    let body : List Line = Hash (record { sysv = false; gnu = true }) ∷ Buckets 8 ∷ (map Needs needs ++ (Data 0x800 ∷ (relocations ++ last))) in
    let fine : AreSpotless lines (First Program ∷ []) body = (
      hash_spotless lines Program false true,
      (
        buckets_spotless lines Program false true,
        spotless_both lines head (map Needs needs) (Data 0x800 ∷ (relocations ++ last)) (all_needs_spotless lines head needs) (data_spotless lines needing 0x800 refl no_data, tail),
      ),
    ) in
    no_fault Program (body ++ Empty ∷ []) refl (spotless_both lines (First Program ∷ []) body (Empty ∷ []) fine (end_spotless lines (First Program ∷ body), tt))
