-- The files of a generated set are such that a run can prelink them.
use Rattle.std.proofs.Common.{◌≡◌, ℕ, zero, suc, ◌+◌, ◌%◌, ◌<◌, ◌≤◌, true, List, map, refl, sym, subst, arith, inl, inr}
use Rattle.std.specs.Prelude.{◌⊎◌}
use Rattle.std.specs.List.{list_any, range_with_len}
use Rattle.std.proofs.lemmas.Bool.{cases_lt, false≢true}
use Rattle.std.proofs.lemmas.List.FromFn.{length-map-range_with_len}
use Rattle.std.proofs.Math.Nat.{mod-lt}
use Rattle.pl_build.specs.declared.kind.FileKind.TheVariants.{Library, Program}
use Rattle.pl_build.specs.declared.recipe.Recipe.{Recipe}
use Rattle.law_demo.specs.SetNames.{IsLibraryAmong, IsLibraryNamed, IsNamed, IsProgramNamed, defines_name}
use Rattle.law_demo.specs.SetRead.{IsFine}
use Rattle.law_demo.specs.SetRecipes.{library_of, program_of}
use Rattle.law_demo.proofs.FineLaws.{library_fine, program_fine}
use Rattle.law_demo.proofs.SetNameLaws.{recipes_named}
use Rattle.pl_gen.specs.Draws.{at}
use Rattle.pl_gen.specs.Lines.{library_name}
use Rattle.pl_scope.specs.Members.{has}
use Rattle.pl_scope.proofs.NameLaws.{has_cons, has_head, has_tail}
use Rattle.pl_scope.proofs.WalkedLaws.{limit_is}
use Rattle.law_sound.specs.Rule.{Files}
use Rattle.law_demo.specs.Candidates.{HasFile, IsLibraryFile}
use Rattle.law_demo.specs.Described.{IsDescribing}
use Rattle.law_demo.specs.Forms.{HasRoom}
use Rattle.law_demo.specs.SetFiles.{HasLibrary, SetLibrariesAreReady, SetProgramsAreReady, library_names}

-- ---- names

split : (a b : ℕ) → a ≤ b → (a ≡ b) ⊎ (a < b)
split a b le = elim (cases_lt a b) [ inl lt ↦ inr lt | inr past ↦ inl (omega (arith, le, past)) ]

named : (count from k : ℕ) → from ≤ k → k < from + count → has (map library_name (range_with_len from count)) (library_name k) ≡ true
named zero from k le lt = absurd (omega (arith, le, lt))
named (suc count) from k le lt = elim (split from k le) [
  | inl same ↦ subst (λ (n : ℕ). has (map library_name (range_with_len from (suc count))) (library_name n) ≡ true) same (has_head (library_name from) (map library_name (range_with_len (from + 1) count)))
  | inr later ↦ has_tail (library_name from) (library_name k) (map library_name (range_with_len (from + 1) count)) (named count (from + 1) k (omega (arith, later)) (omega (arith, lt)))
]

library_there : (count k : ℕ) → k < count → has (library_names count) (library_name k) ≡ true
library_there count k lt = named count 0 k (omega arith) (omega (arith, lt))

-- a name of a library
record IsNumbered (count : ℕ) (n : List ℕ) : Type 0 where
  number : ℕ
  below : number < count
  is : library_name number ≡ n

numbered : (count from most : ℕ) (n : List ℕ) → from + count ≤ most → has (map library_name (range_with_len from count)) n ≡ true → IsNumbered most n
numbered zero from most n le there = absurd (false≢true there)
numbered (suc count) from most n le there = elim (has_cons (library_name from) n (map library_name (range_with_len (from + 1) count)) there) [
  | inl same ↦ record { number = from; below = omega (arith, le); is = same }
  | inr later ↦ numbered count (from + 1) most n (omega (arith, le)) later
]

library_numbered : (count : ℕ) (n : List ℕ) → has (library_names count) n ≡ true → IsNumbered count n
library_numbered count n there = numbered count 0 count n (omega arith) there

among_there : (count : ℕ) (m : List ℕ) → IsLibraryAmong count m → has (library_names count) m ≡ true
among_there count m is = subst (λ (n : List ℕ). has (library_names count) n ≡ true) (sym is.named) (library_there count is.index is.few)

-- ---- recipes

describing_of : (count : ℕ) (r : Recipe) → IsFine r → IsNamed count r → 0 < r.settings.data_size → IsDescribing r
describing_of count r fine is some = record { plain = fine.plain; modest = fine.modest; bounded = fine.bounded; some_data = some; spelled = is.spelled }

library_some : (count i : ℕ) (words : List ℕ) → 0 < (library_of count i words).settings.data_size
unfolding library_of
library_some count i words = omega arith

program_some : (count : ℕ) (words : List ℕ) → 0 < (program_of count words).settings.data_size
unfolding program_of
program_some count words = omega arith

library_room : (count i : ℕ) (words : List ℕ) → HasRoom (library_of count i words).settings
unfolding library_of
library_room count i words = record { spare = omega arith; some_data = omega arith; zeros = omega arith }

program_room : (count : ℕ) (words : List ℕ) → HasRoom (program_of count words).settings
unfolding program_of
program_room count words = record { spare = omega arith; some_data = omega arith; zeros = omega arith }

library_kind : (count i : ℕ) (words : List ℕ) → (library_of count i words).settings.kind ≡ Library
unfolding library_of
library_kind count i words = refl

program_kind : (count : ℕ) (words : List ℕ) → (program_of count words).settings.kind ≡ Program
unfolding program_of
program_kind count words = refl

-- ---- the files

library_file : (files : Files) (count i : ℕ) (words : List ℕ) → 0 < count → HasLibrary files count i words → HasFile files (library_names count) Library (library_name i) (library_of count i words)
library_file files count i words some h =
    let is : IsLibraryNamed count i (library_of count i words) = recipes_named.libraries count i words in
    record {
      same_kind = library_kind count i words;
      describing = describing_of count (library_of count i words) (library_fine count i words) is.named (library_some count i words);
      room = library_room count i words;
      bytes = h.bytes;
      made = h.made;
      there = h.there;
      needs = λ m needed. among_there count m (is.named.needs m some needed);
    }

library_ready : (files : Files) (count i : ℕ) (words : List ℕ) → 0 < count → HasLibrary files count i words → IsLibraryFile files (library_names count) (library_name i)
library_ready files count i words some h = record { recipe = library_of count i words; file = library_file files count i words some h; copies = (recipes_named.libraries count i words).copies }

pub set_libraries : SetLibrariesAreReady
set_libraries files count words some few has_all = record {
  few = omega (arith, length-map-range_with_len library_name 0 count, few, limit_is);
  each = λ n there. (let k = library_numbered count n there in subst (IsLibraryFile files (library_names count)) k.is (library_ready files count k.number (words k.number) some (has_all k.number k.below)));
}

pub set_programs : SetProgramsAreReady
set_programs files count words region n own some has_all p above =
    let r : Recipe = program_of count own in
    let k : ℕ = at own 0 % count in
    let is : IsProgramNamed count k r = recipes_named.programs count own p.some in
    let lib : HasLibrary files count k (words k) = has_all k (mod-lt (at own 0) some) in
    record {
      recipe = r;
      file = record {
        same_kind = program_kind count own;
        describing = describing_of count r (program_fine count own) is.named (program_some count own);
        room = program_room count own;
        bytes = p.bytes;
        made = p.made;
        there = p.there;
        needs = λ m needed. among_there count m (is.named.needs m some needed);
      };
      above = above;
      copies = λ name hit. record {
        library = library_name k;
        needed = is.needed;
        recipe = library_of count k (words k);
        file = library_file files count k (words k) some lib;
        defines = subst (λ (name : List ℕ). list_any (defines_name name) (library_of count k (words k)).symbols ≡ true) (sym (is.copies name hit)) (recipes_named.libraries count k (words k)).defines;
      };
    }
