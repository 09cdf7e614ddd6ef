-- A run that prelinks everything prelinks each candidate, unless it is a program whose file is longer than a folder stores.
use Rattle.std.proofs.Common.{◌≡◌, ℕ, ◌+◌, ◌^◌, ◌<◌, ◌≤◌, Bool, true, false, List, [], ◌∷◌, map, length, get_or, Option, Some, None, Result, Ok, Err, refl, sym, ap, subst, ◌∙◌, arith, inl, inr}
use Rattle.std.specs.Prelude.{◌≢◌, ◌&&◌, ◌%◌, ◌==◌, find, is_some, nat_le, nat_lt, if◌then◌else◌}
use Rattle.std.specs.FinMap.{get}
use Rattle.std.specs.List.{All, AllByRecursion, IsDistinct, list_all, list_any}
use Rattle.std.specs.Option.{option_map}
use Rattle.std.specs.Str.{bytes_eq}
use Rattle.std.proofs.lemmas.Bool.{and_from, and_parts, cases_Bool, false≢true, le-leb, leb-true, lt-ltb, ltb-true, or_from}
use Rattle.std.proofs.lemmas.Bool.Decides.{nat_tests}
use Rattle.std.proofs.lemmas.List.Elements.{All-head, All-tail}
use Rattle.std.proofs.lemmas.Option.{get_or_from_slice_get, none-some, slice_get-get_or, slice_get_within}
use Rattle.pl_base.specs.Bytes.{IsBytes}
use Rattle.pl_base.specs.Each.{each}
use Rattle.pl_base.specs.Files as base
use Rattle.pl_base.specs.Names.{is_valid_name}
use Rattle.pl_base.specs.Pairs.{any_pair}
use Rattle.pl_base.specs.Sums.{is_aligned}
use Rattle.pl_base.specs.Windows.{Window, any_share, share}
use Rattle.pl_base.proofs.AnswerLaws.{ok_same}
use Rattle.pl_batch.specs.All.{asked_of}
use Rattle.pl_batch.specs.Folder.{named}
use Rattle.pl_change.specs.Folder.{valid_names}
use Rattle.pl_batch.specs.declared.prelinking.Prelinking.{Prelinking}
use Rattle.pl_cache.specs.Spelling.{ascend, is_cache, is_row}
use Rattle.pl_cache.specs.declared.constants.TheConstants.{MAX_ROWS}
use Rattle.pl_cache.specs.declared.cache.Cache.{Cache}
use Rattle.pl_rewrite.specs.Plans.{slot_of}
use Rattle.pl_rewrite.specs.Skip.{Skip}
use Rattle.pl_conflict.specs.Format.{format, mark_in, mark_of}
use Rattle.pl_conflict.specs.Prelinked as prelinked
use Rattle.pl_conflict.specs.Prelinked.{firm_of, has_numbers, is_version, library_file, objects_of}
use Rattle.pl_elf.specs.Kinds.{is_library}
use Rattle.pl_elf.specs.declared.constants.TheConstants.{ADDRESS_LIMIT}
use Rattle.pl_elf.specs.declared.kind.Kind.{Kind}
use Rattle.pl_elf.specs.declared.kind.Kind.TheVariants.{Library, Program}
use Rattle.pl_elf.specs.declared.segment.Segment.{Segment}
use Rattle.law_folder.proofs.PlanLemmas.{are_names}
use Rattle.law_folder.proofs.StampLemmas.{stamp_small}
use Rattle.pl_form.specs.Files.{marked_in, original_in}
use Rattle.pl_form.specs.declared.file.Marked.{Marked}
use Rattle.pl_form.proofs.FilesLaws.{nothing_else_is_read}
use Rattle.pl_rewrite.specs.Fits.{fit_in, links, resolves}
use Rattle.pl_rewrite.specs.Plans.{is_candidate, stale, walks}
use Rattle.pl_rewrite.specs.Skipped.{skip_causes}
use Rattle.pl_rewrite.proofs.LinkLaws.{each_read}
use Rattle.pl_object.specs.PlaceClauses.{last_load}
use Rattle.pl_object.specs.Reads.{reads}
use Rattle.pl_object.specs.declared.object.Object.{Object}
use Rattle.pl_object.proofs.AcceptedLaws.{accepted}
use Rattle.pl_form.proofs.AcceptedIs.{segments_are}
use Rattle.pl_form.proofs.SomeLastLaws.{some_last}
use Rattle.pl_rewrite.specs.Plans.{RunPlan}
use Rattle.pl_rewrite.specs.Changes.{numbers}
use Rattle.pl_rewrite.proofs.FormLaws.{IsOriginal, firm_member, firm_nowhere, no_fault, original_bytes, original_is}
use Rattle.pl_rewrite.proofs.PlanLaws.{plan_stamp}
use Rattle.pl_rewrite.proofs.SoundCandidateLaws.{sound_is}
use Rattle.pl_scope.specs.Members.{has, names}
use Rattle.pl_scope.specs.Scope as scope
use Rattle.pl_scope.specs.Walk.{Walked}
use Rattle.pl_scope.specs.declared.constants.TheConstants.{MAX_MEMBERS}
use Rattle.pl_scope.proofs.ClosureLaws.{walk_is}
use Rattle.pl_scope.proofs.NameLaws.{has_cons, has_head, has_tail}
use Rattle.pl_scope.proofs.StepLaws.{walk_short}
use Rattle.pl_scope.proofs.WalkedLaws.{member_file, walk_distinct}
use Rattle.pl_slots.specs.Plan.{lies_in}
use Rattle.pl_slots.specs.declared.slot.Slot.{Slot}
use Rattle.law_sound.specs.Plan.{Plan, fits, for_library, is_current, links_as, planned_in, planned_member}
use Rattle.law_sound.specs.Rule.{Files, Member, mark_at, object_at, objects, of_walk, original_at, stamp_of, walk_in}
use Rattle.law_sound.proofs.PlanLaws.{candidate_member}
use Rattle.pl_tls.specs.Layout.{offsets}
use Rattle.pl_conflict.specs.Prelinked.{all_firm, stored}
use Rattle.pl_conflict.proofs.FormatLaws.{format_kept}
use Rattle.pl_elf.specs.declared.kind.Kind.TheVariants.{Static}
use Rattle.pl_form.specs.declared.constants.TheConstants.{STORED}
use Rattle.pl_form.specs.Back.{when}
use Rattle.pl_rewrite.specs.Changes as changes
use Rattle.pl_rewrite.specs.Changes.{next}
use Rattle.pl_rewrite.specs.Reports.{marked_at}
use Rattle.pl_rewrite.proofs.NextLaws.{next_off, next_on, scratch_by}
use Rattle.law_sound.specs.Plan.{is_held}
use Rattle.law_sound.specs.Rule.{Mark, matches, members, names_of, tells_walk}
use Rattle.law_sound.proofs.PlanLaws.{planned_is}
use Rattle.std.specs.Option.{option_or}
use Rattle.law_folder.specs.Candidates.{CandidatesAreMarked, CandidatesArePrelinked, HasPlan, IsTooLong}
use Rattle.law_folder.proofs.ApartLemmas.{LiesIn, program_apart}
use Rattle.law_folder.proofs.BesideLemmas.{beside, share_none, valid_distinct}
use Rattle.law_folder.proofs.ProgramLemmas.{HasProgramFile, IsFineProgram, firms_of, program_filed}
use Rattle.law_folder.proofs.SetLemmas.{HasObject, IsFine, fine_file, firm_for, window_for}
use Rattle.law_folder.proofs.WantLemmas.{candidate_slot, slot_start}

last_small : (c : Cache) → is_cache c ≡ true → c.last < 2 ^ 32
unfolding is_cache
last_small c is =
    let all = and_parts (nat_lt c.last (2 ^ 32) && nat_le (length c.rows) MAX_ROWS && list_all is_row c.rows) (ascend c.rows) is in
    let rows = and_parts (nat_lt c.last (2 ^ 32) && nat_le (length c.rows) MAX_ROWS) (list_all is_row c.rows) all.0 in
    ltb-true c.last (2 ^ 32) (and_parts (nat_lt c.last (2 ^ 32)) (nat_le (length c.rows) MAX_ROWS) rows.0).0

-- ---- the run

module _ (files : base.Files) (p : Prelinking) (made : RunPlan) (run : HasPlan files p made) where
  abbrev old : Files
  old = named files

  abbrev plan : Plan
  plan = numbers old p.region made

  abbrev HasIt : List ℕ × Object → Type 0
  HasIt = HasObject skip_causes old plan

  -- ---- a member's original

  record IsThere (n : List ℕ) (o : Object) : Type 0 where
    file : List ℕ
    there : old n ≡ Some file
    valid : is_valid_name n ≡ true
    bytes : IsBytes file
    original : IsOriginal (original_in file) o

  member_there : (n : List ℕ) (o : Object) → objects (format skip_causes) old n ≡ Ok o → IsThere n o
  member_there n o at = by_file (old n) refl at
    where
      at_name : (b : Bool) (file : List ℕ) → is_valid_name n ≡ b → (if b then get files n else None) ≡ Some file → (is_valid_name n ≡ true) × (get files n ≡ Some file)
      at_name true file valid e = (valid, e)
      at_name false file valid e = absurd cc

      by_file : (g : Option (List ℕ)) → old n ≡ g → object_at (format skip_causes) n g ≡ Ok o → IsThere n o
      by_file None is e = absurd cc
      by_file (Some file) is e =
          let named_so = at_name (is_valid_name n) file refl is in
          record { file = file; there = is; valid = named_so.0; bytes = run.bytes n file named_so.1; original = original_is n (original_in file) o e }

  firm_here : (m : List ℕ × Object) → HasIt m → is_candidate old p.region m.0 ≡ true → firm_of (planned_member (format skip_causes) old plan m.0) ≡ Some (firm_for skip_causes old plan m)
  firm_here m at candidate =
      let t = member_there m.0 m.1 at in
      let o : List ℕ = original_at (format skip_causes) (old m.0) in
      let same : original_in t.file ≡ o = sym (ap (original_at (format skip_causes)) t.there) in
      let sound = sound_is p.region old m.0 m.1 at candidate in
      let own : IsOriginal o m.1 = subst (λ (xs : List ℕ). IsOriginal xs m.1) same t.original in
      let bytes : IsBytes o = subst IsBytes same (original_bytes t.file t.bytes) in
      firm_member (planned_member (format skip_causes) old plan m.0) m.1 bytes own sound.dynamic (firm_nowhere m.1 p.region (no_fault p.region o m.1 own sound.fault))

  -- ---- its numbers

  mark_stamp : (g : Option (List ℕ)) → stamp_of (mark_at (format skip_causes) g) < 2 ^ 32
  unfolding mark_in
  mark_stamp None = omega arith
  mark_stamp (Some file) = by_mark (marked_in file) refl
    where
      by_mark : (o : Option Marked) → marked_in file ≡ o → stamp_of (option_map mark_of o) < 2 ^ 32
      by_mark None is = omega arith
      by_mark (Some m) is = elim (nothing_else_is_read file m is).mark [
        | inl library ↦ library.stamp
        | inr program ↦ omega (arith, program.stamp)
      ]

  run_stamp : made.stamp < 2 ^ 32
  run_stamp = stamp_small old (valid_names files) (asked_of p run.cached) (stale old p.region made.slots (valid_names files)) made.stamp (last_small run.cached run.spelled) run.asked.moment (plan_stamp old (valid_names files) (asked_of p run.cached) made run.is)

  plan_small : (n : List ℕ) → plan.stamp n < 2 ^ 32
  plan_small n = by_test (is_current (format skip_causes) (fit_in p.region) old (slot_of made.slots) n)
    where
      by_test : (b : Bool) → (if b then stamp_of (mark_at (format skip_causes) (old n)) else made.stamp) < 2 ^ 32
      by_test true = mark_stamp (old n)
      by_test false = run_stamp

  -- a library of a walk that may be prelinked
  record IsChosen (m : List ℕ × Object) : Type 0 where
    at : HasIt m
    candidate : is_candidate old p.region m.0 ≡ true
    library : is_library m.1.kind ≡ true

  abbrev planned_of : List ℕ → Member
  planned_of = planned_member (format skip_causes) old plan

  record HasPlace (m : List ℕ × Object) : Type 0 where
    slot : Slot
    found : find (λ s. bytes_eq s.name m.0) made.slots ≡ Some slot
    start : (planned_of m.0).slot ≡ slot.start
    large : m.1.span ≤ slot.span
    aligned : is_aligned slot.start m.1.align ≡ true
    above : p.region.start ≤ slot.start
    below : slot.start + slot.span ≤ p.region.end

  has_place : (m : List ℕ × Object) → IsChosen m → HasPlace m
  unfolding lies_in
  has_place m is =
      let s = candidate_slot old (valid_names files) (asked_of p run.cached) made m.0 m.1 (are_names files) run.is is.candidate is.at is.library in
      let within = and_parts (nat_le p.region.start s.slot.start) (nat_le (s.slot.start + s.slot.span) p.region.end) s.within in
      record {
        slot = s.slot;
        found = s.found;
        start = ap (λ (r : Result Object Skip). for_library r (slot_of made.slots m.0)) is.at ∙ (ap (λ (b : Bool). if b then slot_of made.slots m.0 else 0) is.library ∙ slot_start made.slots m.0 s.slot s.found);
        large = s.large;
        aligned = s.aligned;
        above = leb-true p.region.start s.slot.start within.0;
        below = leb-true (s.slot.start + s.slot.span) p.region.end within.1;
      }

  numbers_here : (m : List ℕ × Object) → IsChosen m → has_numbers (firm_for skip_causes old plan m) ≡ true
  unfolding has_numbers
  numbers_here m is =
      let s = has_place m is in
      let stamp : (planned_of m.0).stamp ≡ plan.stamp m.0 = ap (λ (r : Result Object Skip). for_library r (plan.stamp m.0)) is.at ∙ ap (λ (b : Bool). if b then plan.stamp m.0 else 0) is.library in
      let first : ((planned_of m.0).slot % m.1.align == 0) ≡ true = ap (λ (n : ℕ). n % m.1.align == 0) s.start ∙ s.aligned in
      let second : nat_le ((planned_of m.0).slot + m.1.span) ADDRESS_LIMIT ≡ true = le-leb ((planned_of m.0).slot + m.1.span) ADDRESS_LIMIT (omega (arith, s.start, s.below, s.large, run.asked.region)) in
      let third : nat_lt (planned_of m.0).stamp (2 ^ 32) ≡ true = lt-ltb (planned_of m.0).stamp (2 ^ 32) (omega (arith, stamp, plan_small m.0)) in
      ap (λ (b : Bool). is_version 2 && (if b then (planned_of m.0).slot % m.1.align == 0 && nat_le ((planned_of m.0).slot + m.1.span) ADDRESS_LIMIT && nat_lt (planned_of m.0).stamp (2 ^ 32) else (planned_of m.0).slot == 0 && (planned_of m.0).stamp == 0)) is.library
      ∙ and_from ((planned_of m.0).slot % m.1.align == 0 && nat_le ((planned_of m.0).slot + m.1.span) ADDRESS_LIMIT) (nat_lt (planned_of m.0).stamp (2 ^ 32))
      (and_from ((planned_of m.0).slot % m.1.align == 0) (nat_le ((planned_of m.0).slot + m.1.span) ADDRESS_LIMIT) first second) third

  fine_here : (m : List ℕ × Object) → IsChosen m → IsFine skip_causes old plan m
  fine_here m is = record {
    firm = firm_here m is.at is.candidate;
    numbers = numbers_here m is;
    valid = (member_there m.0 m.1 is.at).valid;
    library = is.library;
  }

  all_fine : (ms : Walked) → AllByRecursion IsChosen ms → AllByRecursion (IsFine skip_causes old plan) ms
  all_fine [] chosen = tt
  all_fine (m ∷ ms) chosen = (fine_here m chosen.0, all_fine ms chosen.1)

  -- ---- two of them

  abbrev at_place : ℕ → ℕ → Window
  at_place start span = record { at = start; size = span }

  -- all members of the walk of a candidate
  abbrev IsOf : List ℕ → List ℕ × Object → Type 0
  IsOf n m = has (members (format skip_causes) old n) m.0 ≡ true

  two_apart : (n : List ℕ) (m q : List ℕ × Object) → is_candidate old p.region n ≡ true → IsOf n m → IsOf n q → IsChosen m → IsChosen q → bytes_eq m.0 q.0 ≡ false → share (window_for skip_causes old plan m) (window_for skip_causes old plan q) ≡ false
  two_apart n m q candidate one other first second differ =
      let s = has_place m first in
      let t = has_place q second in
      let away = beside old (valid_names files) (asked_of p run.cached) made (are_names files) run.is n m.0 q.0 s.slot t.slot candidate one other differ s.found t.found (valid_distinct files) in
      ap (λ (k : ℕ). share (at_place k m.1.span) (at_place (planned_of q.0).slot q.1.span)) s.start
      ∙ (ap (λ (k : ℕ). share (at_place s.slot.start m.1.span) (at_place k q.1.span)) t.start
      ∙ share_none s.slot t.slot m.1.span q.1.span away s.large t.large)

  one_apart : (n : List ℕ) (m : List ℕ × Object) (ms : Walked) → is_candidate old p.region n ≡ true → IsOf n m → AllByRecursion (IsOf n) ms → IsChosen m → AllByRecursion IsChosen ms → AllByRecursion (λ k. bytes_eq m.0 k ≡ false) (names ms)
      → list_any (share (window_for skip_causes old plan m)) (map (window_for skip_causes old plan) ms) ≡ false
  one_apart n m [] candidate one others first chosen differ = refl
  one_apart n m (q ∷ ms) candidate one others first chosen differ =
      or_from (share (window_for skip_causes old plan m) (window_for skip_causes old plan q)) (list_any (share (window_for skip_causes old plan m)) (map (window_for skip_causes old plan) ms))
      (two_apart n m q candidate one others.0 first chosen.0 differ.0) (one_apart n m ms candidate one others.1 first chosen.1 differ.1)

  all_apart : (n : List ℕ) (ms : Walked) → is_candidate old p.region n ≡ true → AllByRecursion (IsOf n) ms → AllByRecursion IsChosen ms → IsDistinct bytes_eq (names ms) → any_share (map (window_for skip_causes old plan) ms) ≡ false
  unfolding IsDistinct
  all_apart n [] candidate within chosen distinct = refl
  all_apart n (m ∷ ms) candidate within chosen distinct =
      or_from (list_any (share (window_for skip_causes old plan m)) (map (window_for skip_causes old plan) ms)) (any_pair share (map (window_for skip_causes old plan) ms))
      (one_apart n m ms candidate within.0 within.1 chosen.0 chosen.1 distinct.0) (all_apart n ms candidate within.1 chosen.1 distinct.1)

  all_of_walk : (n : List ℕ) (ms : Walked) → ((k : List ℕ) → has (names ms) k ≡ true → has (members (format skip_causes) old n) k ≡ true) → AllByRecursion (IsOf n) ms
  all_of_walk n [] inside = tt
  all_of_walk n (m ∷ ms) inside = (inside m.0 (has_head m.0 (names ms)), all_of_walk n ms (λ k t. inside k (has_tail m.0 k (names ms) t)))

  -- the names of a walk are its members
  in_walk : (n : List ℕ) (ws : Walked) → walk_in (format skip_causes) old n ≡ Ok ws → (k : List ℕ) → has (names ws) k ≡ true → has (members (format skip_causes) old n) k ≡ true
  in_walk n ws walks k there = ap (λ (r : Result Walked Skip). has (names_of r) k) walks ∙ there

  -- ---- a library's file

  -- a candidate has a walk
  candidate_walk : (n : List ℕ) (o : Object) → objects (format skip_causes) old n ≡ Ok o → is_candidate old p.region n ≡ true → (ws : Walked) × (walk_in (format skip_causes) old n ≡ Ok ws)
  candidate_walk n o at candidate = by_walk (walk_in (format skip_causes) old n) refl (sym (ap (λ (r : Result Object Skip). fits (format skip_causes) (fit_in p.region) old r (walk_in (format skip_causes) old n)) at) ∙ candidate)
    where
      by_walk : (r : Result Walked Skip) → walk_in (format skip_causes) old n ≡ r → fits (format skip_causes) (fit_in p.region) old (Ok o) r ≡ true → (ws : Walked) × (walk_in (format skip_causes) old n ≡ Ok ws)
      by_walk (Ok ws) is e = (ws, is)
      by_walk (Err fault) is e = absurd (false≢true e)

  all_chosen : (n : List ℕ) (ws ms : Walked) → is_candidate old p.region n ≡ true → walk_in (format skip_causes) old n ≡ Ok ws → All HasIt ms → ((k : List ℕ) → has (names ms) k ≡ true → has (names ws) k ≡ true)
      → ((k : List ℕ) (o : Object) → has (names ms) k ≡ true → objects (format skip_causes) old k ≡ Ok o → o.kind ≡ Library) → AllByRecursion IsChosen ms
  all_chosen n ws [] candidate walks have inside kinds = tt
  all_chosen n ws (m ∷ ms) candidate walks have inside kinds =
      let at = All-head HasIt m ms have in
      let here = has_head m.0 (names ms) in (
        record { at = at; candidate = candidate_member (format skip_causes) (fit_in p.region) old n m.0 ws candidate walks (inside m.0 here); library = ap is_library (kinds m.0 m.1 here at) },
        all_chosen n ws ms candidate walks (All-tail HasIt m ms have) (λ k t. inside k (has_tail m.0 k (names ms) t)) (λ k o t. kinds k o (has_tail m.0 k (names ms) t)),
      )

  have_objects : (n : List ℕ) (ws : Walked) → walk_in (format skip_causes) old n ≡ Ok ws → All HasIt ws
  have_objects n ws walks = λ k d lt. member_file skip_causes.walk (objects (format skip_causes) old) n ws walks k (get_or ws k d) (slice_get-get_or ws k d lt)

  -- each library that is a candidate is prelinked
  pub library_planned : (n : List ℕ) (o : Object) → objects (format skip_causes) old n ≡ Ok o → o.kind ≡ Library → is_candidate old p.region n ≡ true → (file : List ℕ) × (planned_in (format skip_causes) old plan n ≡ Some file)
  library_planned n o at library candidate =
      let w = candidate_walk n o at candidate in
      let tells = walk_is skip_causes.walk (objects (format skip_causes) old) n w.0 w.1 in
      let all : Walked = (n, tells.object) ∷ tells.rest in
      let same : w.0 ≡ all = tells.is in
      let have : All HasIt all = subst (All HasIt) same (have_objects n w.0 w.1) in
      let kinds : (k : List ℕ) (x : Object) → has (names all) k ≡ true → objects (format skip_causes) old k ≡ Ok x → x.kind ≡ Library = λ k x there is. elim (has_cons n k (names tells.rest) there) [
        | inl e ↦ ap (λ (y : Object). y.kind) (ok_same x o (sym is ∙ (ap (objects (format skip_causes) old) (sym e) ∙ at))) ∙ library
        | inr later ↦ tells.libraries k x later is
      ] in
      let chosen = all_chosen n w.0 all candidate w.1 have (λ k there. subst (λ (vs : Walked). has (names vs) k ≡ true) (sym same) there) kinds in
      let inside = all_of_walk n all (λ k there. in_walk n w.0 w.1 k (subst (λ (vs : Walked). has (names vs) k ≡ true) (sym same) there)) in
      let distinct : IsDistinct bytes_eq (names all) = subst (λ (vs : Walked). IsDistinct bytes_eq (names vs)) same (walk_distinct skip_causes.walk (objects (format skip_causes) old) n w.0 w.1) in
      let short : length (names all) ≤ MAX_MEMBERS = subst (λ (vs : Walked). length (names vs) ≤ MAX_MEMBERS) same (walk_short skip_causes.walk (objects (format skip_causes) old) n w.0 w.1) in (
        library_file (map (firm_for skip_causes old plan) all),
        ap (of_walk (format skip_causes) planned_of) w.1
            ∙ (ap (λ (vs : Walked). prelinked.prelinked (map planned_of (names vs))) same
            ∙ fine_file skip_causes old plan (n, tells.object) tells.rest (all_fine all chosen) (all_apart n all candidate inside chosen distinct) distinct short),
      )

  -- ---- a program's file

  -- the libraries lie in the region
  all_lie : (ms : Walked) → AllByRecursion IsChosen ms → AllByRecursion (LiesIn p.region) (map (window_for skip_causes old plan) ms)
  all_lie [] chosen = tt
  all_lie (m ∷ ms) chosen =
      let s = has_place m chosen.0 in
      (record { above = omega (arith, s.start, s.above); below = omega (arith, s.start, s.large, s.below) }, all_lie ms chosen.1)

  -- a program has slot and stamp 0
  no_number : (n : List ℕ) (o : Object) (number : ℕ) → objects (format skip_causes) old n ≡ Ok o → is_library o.kind ≡ false → for_library (objects (format skip_causes) old n) number ≡ 0
  no_number n o number at program = ap (λ (r : Result Object Skip). for_library r number) at ∙ ap (λ (b : Bool). if b then number else 0) program

  zero_numbers : (n : List ℕ) (o : Object) → objects (format skip_causes) old n ≡ Ok o → is_library o.kind ≡ false → has_numbers (firm_for skip_causes old plan (n, o)) ≡ true
  unfolding has_numbers
  zero_numbers n o at program =
      ap (λ (b : Bool). is_version 2 && (if b then (planned_of n).slot % o.align == 0 && nat_le ((planned_of n).slot + o.span) ADDRESS_LIMIT && nat_lt (planned_of n).stamp (2 ^ 32) else (planned_of n).slot == 0 && (planned_of n).stamp == 0)) program
      ∙ (ap (λ (k : ℕ). k == 0 && (planned_of n).stamp == 0) (no_number n o (plan.slot n) at program)
      ∙ ap (λ (k : ℕ). k == 0) (no_number n o (plan.stamp n) at program))

  abbrev original_of : List ℕ → List ℕ
  original_of m = original_at (format skip_causes) (old m)

  own_original : (n : List ℕ) (o : Object) → objects (format skip_causes) old n ≡ Ok o → IsOriginal (original_of n) o
  own_original n o at =
      let t = member_there n o at in
      subst (λ (xs : List ℕ). IsOriginal xs o) (sym (ap (original_at (format skip_causes)) t.there)) t.original

  -- the objects of a program's walk link
  program_links : (n : List ℕ) (o : Object) (ws : Walked) → objects (format skip_causes) old n ≡ Ok o → o.kind ≡ Program → is_candidate old p.region n ≡ true → walk_in (format skip_causes) old n ≡ Ok ws → All HasIt ws
      → resolves (scope.objects ws) (offsets (map (λ x. x.tls) (scope.objects ws))) ≡ true
  program_links n o ws at kind candidate walks have =
      let here : fits (format skip_causes) (fit_in p.region) old (Ok o) (Ok ws) ≡ true =
      sym (ap (λ (r : Result Object Skip). fits (format skip_causes) (fit_in p.region) old r (walk_in (format skip_causes) old n)) at ∙ ap (λ (r : Result Walked Skip). fits (format skip_causes) (fit_in p.region) old (Ok o) r) walks) ∙ candidate in
      let parts = and_parts (list_all (λ m. (fit_in p.region).is_sound (original_of m)) (names ws)) (links_as (fit_in p.region) o.kind (map original_of (names ws))) here in
      let linked : links (each reads (map original_of (names ws))) ≡ true = subst (λ (k : Kind). links_as (fit_in p.region) k (map original_of (names ws)) ≡ true) kind parts.1 in
      let read = each_read original_of ws (λ i q e. (own_original q.0 q.1 (subst HasIt (get_or_from_slice_get ws i q q e) (have i q (slice_get_within ws i q e)))).reads) in
      ap links (sym read) ∙ linked

  firm_objects : (ms : Walked) → objects_of (map (firm_for skip_causes old plan) ms) ≡ scope.objects ms
  firm_objects [] = refl
  firm_objects (m ∷ ms) = ap (λ (os : List Object). m.1 ∷ os) (firm_objects ms)

  last_of : (n : List ℕ) (o : Object) (own : IsOriginal (original_of n) o) → (last : Segment) × (last_load o.segments ≡ Some last)
  last_of n o own =
      let same = segments_are (original_of n) o (accepted (original_of n) o own.reads) in
      let some : is_some (last_load o.segments) ≡ true = ap (λ (ss : List Segment). is_some (last_load ss)) same ∙ some_last (original_of n) o own.reads in
      by_last (last_load o.segments) refl some
    where
      by_last : (found : Option Segment) → last_load o.segments ≡ found → is_some found ≡ true → (last : Segment) × (last_load o.segments ≡ Some last)
      by_last None e some = absurd (false≢true some)
      by_last (Some last) e some = (last, e)

  -- what there is of a program that is a candidate
  pub record IsProgramWalk (n : List ℕ) (o : Object) : Type 0 where
    pub rest : Walked
    pub walked : Walked
    pub walks : walk_in (format skip_causes) old n ≡ Ok walked
    pub same : walked ≡ (n, o) ∷ rest
    pub program : is_library o.kind ≡ false
    pub objects_are : objects_of (firms_of skip_causes old plan (n, o) rest) ≡ scope.objects walked
    pub link : resolves (objects_of (firms_of skip_causes old plan (n, o) rest)) (offsets (map (λ x. x.tls) (objects_of (firms_of skip_causes old plan (n, o) rest)))) ≡ true
    pub filed : HasProgramFile skip_causes old plan (n, o) rest

  pub program_walk : (n : List ℕ) (o : Object) → objects (format skip_causes) old n ≡ Ok o → o.kind ≡ Program → is_candidate old p.region n ≡ true → IsProgramWalk n o
  unfolding IsDistinct
  program_walk n o at kind candidate =
      let w = candidate_walk n o at candidate in
      let tells = walk_is skip_causes.walk (objects (format skip_causes) old) n w.0 w.1 in
      let first : tells.object ≡ o = ok_same tells.object o (sym tells.file ∙ at) in
      let q : List ℕ × Object = (n, o) in
      let all : Walked = q ∷ tells.rest in
      let same : w.0 ≡ all = tells.is ∙ ap (λ (x : Object). (n, x) ∷ tells.rest) first in
      let have : All HasIt all = subst (All HasIt) same (have_objects n w.0 w.1) in
      let program : is_library o.kind ≡ false = ap is_library kind in
      let within : (k : List ℕ) → has (names tells.rest) k ≡ true → has (names w.0) k ≡ true = λ k there. subst (λ (vs : Walked). has (names vs) k ≡ true) (sym same) (has_tail n k (names tells.rest) there) in
      let chosen = all_chosen n w.0 tells.rest candidate w.1 (All-tail HasIt q tells.rest have) within tells.libraries in
      let inside = all_of_walk n tells.rest (λ k there. in_walk n w.0 w.1 k (within k there)) in
      let distinct : IsDistinct bytes_eq (names all) = subst (λ (vs : Walked). IsDistinct bytes_eq (names vs)) same (walk_distinct skip_causes.walk (objects (format skip_causes) old) n w.0 w.1) in
      let few : length (names all) ≤ MAX_MEMBERS = subst (λ (vs : Walked). length (names vs) ≤ MAX_MEMBERS) same (walk_short skip_causes.walk (objects (format skip_causes) old) n w.0 w.1) in
      let own : IsOriginal (original_of n) o = own_original n o at in
      let last = last_of n o own in
      let loaded = (accepted (original_of n) o own.reads).loads in
      let fault = no_fault p.region (original_of n) o own (sound_is p.region old n o at candidate).fault in
      let apart = program_apart o p.region last.0 (map (window_for skip_causes old plan) tells.rest) program fault last.1 loaded (all_apart n tells.rest candidate inside chosen distinct.1) (all_lie tells.rest chosen) in
      let objects_are : objects_of (firms_of skip_causes old plan q tells.rest) ≡ scope.objects w.0 = firm_objects all ∙ ap scope.objects (sym same) in
      let link = ap (λ (os : List Object). resolves os (offsets (map (λ x. x.tls) os))) objects_are ∙ program_links n o w.0 at kind candidate w.1 (have_objects n w.0 w.1) in
      let fine : IsFineProgram skip_causes old plan q = record { firm = firm_here q at candidate; numbers = zero_numbers n o at program; program = program } in
      record {
        rest = tells.rest;
        walked = w.0;
        walks = w.1;
        same = same;
        program = program;
        objects_are = objects_are;
        link = link;
        filed = program_filed skip_causes old plan q tells.rest fine (all_fine tells.rest chosen) apart distinct few link;
      }

  -- its file, where a folder stores that
  pub program_stored : (n : List ℕ) (o : Object) (w : IsProgramWalk n o) → planned_in (format skip_causes) old plan n ≡ stored (Some w.filed.file)
  program_stored n o w =
      ap (of_walk (format skip_causes) planned_of) w.walks
      ∙ (ap (λ (vs : Walked). prelinked.prelinked (map planned_of (names vs))) w.same
      ∙ sym w.filed.is)

  -- ---- who has no file

  too_long : (file : List ℕ) → stored (Some file) ≡ None → STORED < length file
  too_long file none = by_test (nat_le (length file) STORED) refl none
    where
      by_test : (b : Bool) → nat_le (length file) STORED ≡ b → when b (Some file) ≡ None → STORED < length file
      by_test true is e = absurd (none-some file (sym e))
      by_test false is e = grind (arith, nat_tests)

  program_long : (n : List ℕ) (o : Object) → objects (format skip_causes) old n ≡ Ok o → o.kind ≡ Program → is_candidate old p.region n ≡ true → planned_in (format skip_causes) old plan n ≡ None → IsTooLong old p.region made n
  program_long n o at kind candidate none =
      let w = program_walk n o at kind candidate in
      record {
        object = o;
        at = at;
        program = kind;
        walked = w.walked;
        walks = w.walks;
        firms = firms_of skip_causes old plan (n, o) w.rest;
        firm = ap (λ (vs : Walked). all_firm (map planned_of (names vs))) w.same ∙ w.filed.firm;
        set = w.filed.set.set;
        file = w.filed.file;
        made = w.filed.made;
        long = too_long w.filed.file (sym (program_stored n o w) ∙ none);
      }

  by_kind : (n : List ℕ) (o : Object) (kind : Kind) → objects (format skip_causes) old n ≡ Ok o → o.kind ≡ kind → is_candidate old p.region n ≡ true → planned_in (format skip_causes) old plan n ≡ None → IsTooLong old p.region made n
  by_kind n o Program at kind candidate none = program_long n o at kind candidate none
  by_kind n o Library at kind candidate none = let file = library_planned n o at kind candidate in absurd (none-some file.0 (sym none ∙ file.1))
  by_kind n o Static at kind candidate none =
      let w = candidate_walk n o at candidate in
      let here : fits (format skip_causes) (fit_in p.region) old (Ok o) (Ok w.0) ≡ true =
      sym (ap (λ (r : Result Object Skip). fits (format skip_causes) (fit_in p.region) old r (walk_in (format skip_causes) old n)) at ∙ ap (λ (r : Result Walked Skip). fits (format skip_causes) (fit_in p.region) old (Ok o) r) w.1) ∙ candidate in
      let parts = and_parts (list_all (λ m. (fit_in p.region).is_sound (original_of m)) (names w.0)) (links_as (fit_in p.region) o.kind (map original_of (names w.0))) here in
      absurd (false≢true (ap (λ (k : Kind). links_as (fit_in p.region) k (map original_of (names w.0))) (sym kind) ∙ parts.1))

  by_object : (n : List ℕ) (r : Result Object Skip) → objects (format skip_causes) old n ≡ r → is_candidate old p.region n ≡ true → planned_in (format skip_causes) old plan n ≡ None → IsTooLong old p.region made n
  by_object n (Ok o) at candidate none = by_kind n o o.kind at refl candidate none
  by_object n (Err cause) at candidate none = absurd (false≢true (sym (none_fits (walk_in (format skip_causes) old n)) ∙ (ap (λ (r : Result Object Skip). fits (format skip_causes) (fit_in p.region) old r (walk_in (format skip_causes) old n)) (sym at) ∙ candidate)))
    where
      none_fits : (r : Result Walked Skip) → fits (format skip_causes) (fit_in p.region) old (Err cause) r ≡ false
      none_fits (Ok ws) = refl
      none_fits (Err fault) = refl

pub candidates_prelinked : CandidatesArePrelinked
unfolding changes.prelinked
candidates_prelinked files p plan run n candidate none = by_object files p plan run n (objects (format skip_causes) (named files) n) refl candidate none

-- ---- what is left of the name

marked_none : (file : List ℕ) → marked_in file ≡ None → mark_in file ≡ None
unfolding mark_in
marked_none file none = ap (option_map mark_of) none

at_none : (g : Option (List ℕ)) → marked_at g ≡ None → mark_at (format skip_causes) g ≡ None
at_none None none = refl
at_none (Some file) none = marked_none file none

module _ (files : base.Files) (p : Prelinking) (made : RunPlan) (run : HasPlan files p made) (n : List ℕ) (candidate : is_candidate (named files) p.region n ≡ true) where
  -- a current name bears a mark
  current_marked : is_current (format skip_causes) (fit_in p.region) (named files) (slot_of made.slots) n ≡ true → mark_at (format skip_causes) (named files n) ≡ None → ⊥
  current_marked current none =
      let own = and_parts (is_candidate (named files) p.region n) (matches (format skip_causes) (named files) n && list_all (is_held (format skip_causes) (named files) (slot_of made.slots)) (members (format skip_causes) (named files) n)) current in
      let hit = and_parts (matches (format skip_causes) (named files) n) (list_all (is_held (format skip_causes) (named files) (slot_of made.slots)) (members (format skip_causes) (named files) n)) own.1 in
      false≢true (sym (ap (λ (k : Option Mark). tells_walk (format skip_causes) (named files) k (walk_in (format skip_causes) (named files) n)) none) ∙ hit.0)

  -- so does a file that was made
  made_marked : (file : List ℕ) → planned_in (format skip_causes) (named files) (numbers (named files) p.region made) n ≡ Some file → mark_in file ≡ None → ⊥
  made_marked file is none =
      let q = planned_is (format skip_causes) (format_kept skip_causes) (named files) (numbers (named files) p.region made) n file is in
      none-some _ (sym none ∙ q.mark)

  prelinked_by : changes.prelinked (named files) p.region made n ≡ planned_in (format skip_causes) (named files) (numbers (named files) p.region made) n
  unfolding changes.prelinked
  prelinked_by = refl

  new_long : (g : Option (List ℕ)) → planned_in (format skip_causes) (named files) (numbers (named files) p.region made) n ≡ g → is_current (format skip_causes) (fit_in p.region) (named files) (slot_of made.slots) n ≡ false → marked_at (next (named files) p.region made n) ≡ None
      → IsTooLong (named files) p.region made n
  new_long None is off none = by_object files p made run n (objects (format skip_causes) (named files) n) refl candidate is
  new_long (Some file) is off none =
      let there : next (named files) p.region made n ≡ Some file =
      next_off (named files) p.region made n off
      ∙ (scratch_by (named files) p.region made n true candidate ∙ ap (λ (o : Option (List ℕ)). option_or o (option_map original_in (named files n))) (prelinked_by ∙ is)) in
      absurd (made_marked file is (marked_none file (sym (ap marked_at there) ∙ none)))

  marked : marked_at (next (named files) p.region made n) ≡ None → IsTooLong (named files) p.region made n
  marked none = elim (cases_Bool (is_current (format skip_causes) (fit_in p.region) (named files) (slot_of made.slots) n)) [
    | inl on ↦ absurd (current_marked on (at_none (named files n) (sym (ap marked_at (next_on (named files) p.region made n on)) ∙ none)))
    | inr off ↦ new_long (planned_in (format skip_causes) (named files) (numbers (named files) p.region made) n) refl off none
  ]

pub candidates_marked : CandidatesAreMarked
candidates_marked files p plan run n candidate none = marked files p plan run n candidate none
