-- The loads of `--demo`.
use Rattle.std.proofs.Common.{◌≡◌, ℕ, zero, suc, ◌+◌, ◌^◌, ◌<◌, ◌≤◌, Bool, true, false, List, [], ◌∷◌, length, map, Option, Some, None, Result, Ok, refl, sym, ap, subst, arith, inl, inr, ◌∙◌}
use Rattle.std.specs.Prelude.{count_by, nat_lt, if◌then◌else◌}
use Rattle.std.specs.FinMap.{get, keys}
use Rattle.std.specs.List as lists
use Rattle.std.specs.List.{AllByRecursion, range_with_len}
use Rattle.std.specs.Option.{is_some, option_map}
use Rattle.std.proofs.lemmas.Bool.{false≢true}
use Rattle.std.proofs.lemmas.Bool.Decides.{nat_tests}
use Rattle.std.proofs.lemmas.List.Elements.{All-cons, All-nil}
use Rattle.std.proofs.lemmas.List.FromFn.{length-map-range_with_len}
use Rattle.std.proofs.lemmas.List.Sums.{sum_by-cons}
use Rattle.pl_base.specs.Files as base
use Rattle.pl_base.specs.Names.{is_valid_name}
use Rattle.pl_base.proofs.AnswerLaws.{because_ok, bind_ok, ok_same}
use Rattle.pl_batch.specs.Changes.{changes_of, run_meant}
use Rattle.pl_change.specs.Commands.{ready}
use Rattle.pl_change.specs.Folder.{bad_cache, cache, cache_by, cache_file, cache_in, no_cache}
use Rattle.pl_batch.specs.Folder.{named}
use Rattle.pl_change.specs.Names.{are_many}
use Rattle.pl_change.specs.declared.cause.Cause.{Cause}
use Rattle.pl_change.specs.declared.room.TheConstants.{FILES}
use Rattle.pl_batch.specs.declared.run.Run.TheVariants.{All}
use Rattle.pl_change.proofs.CacheLemmas.{empty_spelled}
use Rattle.pl_build.specs.declared.kind.FileKind.TheVariants as kinds
use Rattle.pl_cache.specs.Reading.{read}
use Rattle.pl_cache.specs.Spelling.{cache_bytes, is_cache}
use Rattle.pl_cache.specs.declared.cache.Cache.{Cache}
use Rattle.pl_cache.proofs.CacheLaws.{read_again}
use Rattle.pl_cli.specs.Demo as cli
use Rattle.pl_cli.specs.Demo.{fast_loads, is_fast}
use Rattle.pl_cli.specs.Files.{valid_file}
use Rattle.pl_conflict.specs.Format.{Rule, format, mark_in, mark_of}
use Rattle.pl_demo.specs.Demo.{folder, programs}
use Rattle.pl_demo.specs.Prelinked.{after, prelinked, with_rows}
use Rattle.pl_demo.specs.declared.prelinking.TheConstants.{ASKED}
use Rattle.pl_demo.proofs.LawLemmas.{programs_drawn}
use Rattle.pl_demo.proofs.PrelinkingLemmas.{rows_get}
use Rattle.pl_elf.specs.Headers.{loads}
use Rattle.pl_elf.specs.declared.kind.Kind.TheVariants as elf
use Rattle.pl_elf.specs.declared.segment.Segment.{Segment}
use Rattle.law_folder.specs.All.{HasNext}
use Rattle.law_folder.proofs.NextLemmas.{gives_next}
use Rattle.pl_form.specs.Files.{marked_in, original_or_file, original_in}
use Rattle.pl_gen.specs.Lines.{program_name}
use Rattle.pl_gen.specs.Set as drawn
use Rattle.pl_journal.specs.Meaning.{applied}
use Rattle.pl_journal.specs.declared.change.Change.{Change}
use Rattle.pl_cone.specs.Skipped.{skip_causes}
use Rattle.pl_rewrite.specs.Changes.{from_scratch}
use Rattle.pl_rewrite.proofs.SoundLaws.{next_is_from_scratch}
use Rattle.pl_scope.specs.Members.{has}
use Rattle.pl_scope.proofs.NameLaws.{has_cons, has_head, has_tail}
use Rattle.law_sound.specs.Rule.{Files, Mark, original_at}
use Rattle.law_sound.proofs.Matching.{Matches, rule_in}
use Rattle.pl_words.specs.declared.command.Policy.TheVariants.{Lowest}
use Rattle.law_demo.specs.Candidates.{IsKnownFile, IsProgramFile}
use Rattle.law_demo.specs.SetFiles.{library_names}
use Rattle.law_demo.proofs.CandidateLaws.{files_known}
use Rattle.law_demo.specs.Folder.{IsDemoReady, bounds, files_of, made}
use Rattle.law_demo.specs.Small.{IsSmallFolder}
use Rattle.law_demo.proofs.FolderLaws.{all_written, asked_is, demo_libraries, demo_program, demo_ready}
use Rattle.law_demo.specs.Demo.{DemoLoadsAreFast, DemoProgramsAreReady, IsReady}
use Rattle.law_demo.proofs.PrelinkedLaws.{IsRun, slots_apart}
use Rattle.law_demo.proofs.CountLaws.{walk_count}
use Rattle.law_demo.proofs.FreeLaws.{off_is_clear}
use Rattle.law_demo.proofs.ReadyLaws.{ready_after}
use Rattle.law_demo.proofs.RunLaws.{after_next, prelinked_fast}

-- ---- a folder without marks keeps the rule

unmarked : (file : List ℕ) → marked_in file ≡ None → mark_in file ≡ None
unfolding mark_in
unmarked file none = ap (option_map mark_of) none

pub in_folder : (files : base.Files) (n file : List ℕ) → named files n ≡ Some file → get files n ≡ Some file
in_folder files n file is = by_name (is_valid_name n) is
  where
    by_name : (b : Bool) → (if b then get files n else None) ≡ Some file → get files n ≡ Some file
    by_name true e = e
    by_name false e = absurd cc

none_matches : (files : base.Files) → ((n file : List ℕ) → get files n ≡ Some file → marked_in file ≡ None) → Rule skip_causes (named files)
none_matches files bare = rule_in (format skip_causes) (named files) (λ n h m there. absurd (no_mark n h))
  where
    no_mark : (n : List ℕ) → Matches (format skip_causes) (named files) n → ⊥
    no_mark n h =
        let none : mark_in h.file ≡ None = unmarked h.file (bare n h.file (in_folder files n h.file h.there)) in
        false≢true (ap (λ (k : Option Mark). is_some k) (sym none ∙ h.marked))

-- ---- the run

changes_are : (files : base.Files) (rows : List Change) → run_meant (All ASKED) files ≡ Ok rows → changes_of files (All ASKED) ≡ Ok rows
changes_are files rows e = (bind_ok (ready files) (λ none. changes_of files (All ASKED)) rows e).2

folder_is : (number : ℕ) (rows : List Change) → run_meant (All ASKED) (made number) ≡ Ok rows → folder number ≡ with_rows rows (made number)
unfolding folder prelinked
folder_is number rows e = ap (λ (r : Result (List Change) Cause). after r (made number)) e

-- the folder before the run keeps the rule, and that after it has what the changes say
pub record IsRunOf (number : ℕ) : Type 0 where
  pub demo : IsDemoReady number
  pub keeps : Rule skip_causes (named (made number))
  pub changes : changes_of (made number) (All ASKED) ≡ Ok demo.rows
  pub are : (m : List ℕ) → get (folder number) m ≡ applied demo.rows (get (made number)) m

pub run_of : (number : ℕ) → IsRunOf number
run_of number =
    let demo : IsDemoReady number = demo_ready number in
    let same : folder number ≡ with_rows demo.rows (made number) = folder_is number demo.rows demo.runs in
    record {
      demo = demo;
      keeps = none_matches (made number) (λ m file e. (demo.folder.small.each m file e).plain);
      changes = changes_are (made number) demo.rows demo.runs;
      are = λ m. ap (λ (files : base.Files). get files m) same ∙ rows_get 0 demo.rows (made number) m;
    }

-- ---- the programs

not_below : (a b : ℕ) → b ≤ a → nat_lt a b ≡ false
not_below a b le = grind (arith, nat_tests)

not_many : (files : base.Files) → count_by is_valid_name (keys files) ≤ 128 → are_many (keys files) ≡ false
unfolding are_many
not_many files few = not_below FILES (count_by is_valid_name (keys files)) (omega (arith, few))

-- a folder without a cache has the empty one
none_cached : (files : base.Files) (old : List ℕ) (c : Cache) → get files cache ≡ None → cache_file files ≡ Ok old → cache_in old ≡ Ok c → is_cache c ≡ true
unfolding cache_file cache_in
none_cached files old c none found says =
    let empty : is_cache no_cache ≡ true = empty_spelled [] refl in
    let bytes : cache_bytes no_cache ≡ old = ok_same (cache_bytes no_cache) old (sym (ap cache_by none) ∙ found) in
    let own : read old ≡ Ok no_cache = subst (λ (xs : List ℕ). read xs ≡ Ok no_cache) bytes (read_again no_cache empty) in
    subst (λ (d : Cache). is_cache d ≡ true) (ok_same no_cache c (sym own ∙ because_ok bad_cache (read old) c says)) empty

ends_of : (ss : List Segment) → AllByRecursion (λ s. s.vaddr + s.memsz ≤ 2 ^ 26) ss → lists.All (λ s. s.vaddr + s.memsz ≤ 2 ^ 26) ss
ends_of [] low = All-nil (λ (s : Segment). s.vaddr + s.memsz ≤ 2 ^ 26)
ends_of (s ∷ ss) low = All-cons (λ (x : Segment). x.vaddr + x.memsz ≤ 2 ^ 26) s ss low.0 (ends_of ss low.1)

own_original : (view : Files) (n bytes : List ℕ) → view n ≡ Some bytes → marked_in bytes ≡ None → original_at (format skip_causes) (view n) ≡ bytes
unfolding original_in
own_original view n bytes there bare = ap (original_at (format skip_causes)) there ∙ ap (original_or_file bytes) bare

program_ready : (number j : ℕ) → j < drawn.programs number → IsReady number (program_name j)
program_ready number j lt =
    let r : IsRunOf number = run_of number in
    let n : List ℕ = program_name j in
    let small : IsSmallFolder bounds (made number) = r.demo.folder.small in
    let h : HasNext (made number) ASKED (applied r.demo.rows (get (made number))) = gives_next (made number) ASKED r.demo.rows r.changes in
    let is : (m : List ℕ) → valid_file (folder number) m ≡ from_scratch (named (made number)) ASKED.region h.plan m =
    λ m. after_next (made number) (folder number) ASKED r.demo.rows h r.are m ∙ next_is_from_scratch (named (made number)) ASKED.region h.plan r.keeps m in
    let run : IsRun (made number) ASKED h.cached h.plan = record {
      bytes = all_written number;
      asked = asked_is;
      few = not_many (made number) small.few;
      spelled = none_cached (made number) h.old h.cached small.no_cache h.found h.says;
      is_planned = h.is_planned;
      apart = slots_apart (made number) ASKED h.cached h.plan refl h.is_planned;
    } in
    let names : List (List ℕ) = library_names (drawn.libraries number) in
    let d : IsProgramFile (files_of number) names ASKED.region n = demo_program number j lt in
    let k : IsKnownFile (files_of number) elf.Program n d.recipe = files_known (files_of number) names kinds.Program n d.recipe (inr refl) d.file in
    let size : length k.bytes ≤ 2 ^ 21 = (small.each n k.bytes (in_folder (made number) n k.bytes k.file)).size in
    let own : original_at (format skip_causes) (named (made number) n) ≡ k.bytes = own_original (named (made number)) n k.bytes k.file k.bare.none in
    let short : length (original_at (format skip_causes) (named (made number) n)) ≤ 2 ^ 24 = subst (λ (xs : List ℕ). length xs ≤ 2 ^ 24) (sym own) (omega (arith, size)) in
    let at = ready_after (made number) ASKED h.cached h.plan run (valid_file (folder number)) is n k.object k.there k.same_kind (r.demo.programs j lt) short
    (walk_count (files_of number) names ASKED.region n (demo_libraries number) d) (2 ^ 26) (ends_of (loads k.object.segments) k.low) (omega arith) in
    record { prelinked = at.prelinked; program = at.program; off = at.off }

-- a name of those that a function gives in a range
ranged_has : (f : ℕ → List ℕ) (count from : ℕ) (n : List ℕ) → has (map f (range_with_len from count)) n ≡ true → (j : ℕ) × (j < from + count) × (f j ≡ n)
ranged_has f zero from n there = absurd (false≢true there)
ranged_has f (suc count) from n there = elim (has_cons (f from) n (map f (range_with_len (from + 1) count)) there) [
  | inl here ↦ (from, omega arith, here)
  | inr later ↦ (let rest = ranged_has f count (from + 1) n later in (rest.0, omega (arith, rest.1), rest.2))
]

pub programs_ready : DemoProgramsAreReady
programs_ready number n there =
    let of = ranged_has program_name (drawn.programs number) 0 n (subst (λ (ns : List (List ℕ)). has ns n ≡ true) (programs_drawn number) there) in
    subst (IsReady number) of.2 (program_ready number of.0 (omega (arith, of.1)))

-- ---- the loads

all_count : (p : List ℕ → Bool) (ns : List (List ℕ)) → ((n : List ℕ) → has ns n ≡ true → p n ≡ true) → count_by p ns ≡ length ns
all_count p [] each = refl
all_count p (n ∷ ns) each =
    let one : List ℕ → ℕ = λ m. if p m then 1 else 0 in
    let split : count_by p (n ∷ ns) ≡ one n + count_by p ns = sum_by-cons one n ns in
    let first : one n ≡ 1 = ap (λ (b : Bool). if b then 1 else 0) (each n (has_head n ns)) in
    omega (arith, split, first, all_count p ns (λ m there. each m (has_tail n m ns there)))

each_fast : (number : ℕ) (n : List ℕ) → has (programs number) n ≡ true → is_fast (cli.load (folder number) n) ≡ true
each_fast number n there =
    let r : IsRunOf number = run_of number in
    let is : IsReady number n = programs_ready number n there in
    prelinked_fast (made number) (folder number) ASKED r.demo.rows Lowest None n r.keeps r.changes r.are is.prelinked is.program
    (off_is_clear (made number) (folder number) ASKED r.demo.rows n r.keeps r.changes r.are is.prelinked is.program is.off)

pub demo_fast : DemoLoadsAreFast
unfolding fast_loads
demo_fast number =
    all_count (λ name. is_fast (cli.load (folder number) name)) (programs number) (each_fast number)
    ∙ (ap (λ (ns : List (List ℕ)). length ns) (programs_drawn number) ∙ length-map-range_with_len program_name 0 (drawn.programs number))
