-- A run that prelinks everything takes a small folder.
use Rattle.std.proofs.Common.{◌≡◌, ℕ, suc, ◌+◌, ◌*◌, ◌≤◌, Bool, true, false, List, [], ◌∷◌, length, Option, Some, None, Result, Ok, Err, refl, ap, subst, ◌∙◌, arith, inl, inr}
use Rattle.std.specs.Prelude.{◌==◌, count_by, filter, fold, max, nat_le, nat_lt, not, if◌then◌else◌}
use Rattle.std.specs.FinMap.{contains_key-keys, get, keys}
use Rattle.std.specs.List.{AllByRecursion, cons_option, list_any, sum_by}
use Rattle.std.specs.Option.{is_some, option_map}
use Rattle.std.proofs.lemmas.Bool.{cases_Bool, false≢true, le-leb, or_left, or_right}
use Rattle.std.proofs.lemmas.Bool.Decides.{nat_tests}
use Rattle.std.proofs.lemmas.List.Sums.{length-filter, sum_by-cons}
use Rattle.std.proofs.lemmas.Option.{none-some, same_Some}
use Rattle.std.proofs.Math.Nat.{add-mul, mul-le-mul_right}
use Rattle.pl_base.specs.Answers.{◌>>=◌, because, unless}
use Rattle.pl_base.specs.Each.{each}
use Rattle.pl_base.specs.Files as base
use Rattle.pl_base.specs.Names.{is_valid_name}
use Rattle.pl_batch.specs.All.{all_changes, all_made, asked_of, made_of_folder, made_of, made_with_cache, of_planning, spelled, with_cache}
use Rattle.pl_batch.specs.Changes.{changes_of, run_meant}
use Rattle.pl_change.specs.Changes.{fitting}
use Rattle.pl_change.specs.Commands.{ready}
use Rattle.pl_change.specs.Folder.{all_files, bad_cache, cache, cache_by, cache_file, cache_in, no_cache, valid_names}
use Rattle.pl_batch.specs.Folder.{are_large, named}
use Rattle.pl_change.specs.Names.{are_many, file_of, of_file}
use Rattle.pl_change.specs.declared.cause.Cause.{Cause}
use Rattle.pl_change.specs.declared.cause.Cause.TheVariants as causes
use Rattle.pl_batch.specs.declared.prelinking.Prelinking.{Prelinking}
use Rattle.pl_change.specs.declared.room.TheConstants.{FOLDER, FILES}
use Rattle.pl_batch.specs.declared.run.Run.TheVariants.{All}
use Rattle.pl_change.proofs.CacheLemmas.{empty_spelled}
use Rattle.pl_cache.specs.Spelling.{cache_bytes, is_cache}
use Rattle.pl_cache.specs.declared.cache.Cache.{Cache}
use Rattle.pl_cache.proofs.CacheLaws.{read_again}
use Rattle.pl_cone.specs.Plans.{stamp_after}
use Rattle.pl_cone.specs.declared.skip.Skip.{Skip}
use Rattle.pl_conflict.specs.Format.{format, mark_in, mark_of}
use Rattle.pl_conflict.proofs.FormatLaws.{read_is}
use Rattle.pl_elf.specs.Kinds.{is_library}
use Rattle.law_folder.specs.Causes.{IsAsked}
use Rattle.law_folder.proofs.FitLemmas.{runs_fit}
use Rattle.law_folder.proofs.SlotLemmas.{Among, Fits, among_holds, among_short, want_name, wants_among}
use Rattle.law_folder.proofs.SpellLemmas.{next_spelled}
use Rattle.pl_folder.specs.Disk.{same}
use Rattle.pl_folder.specs.declared.TheConstants.{STORED}
use Rattle.pl_folder.proofs.ImageLaws.{itself}
use Rattle.pl_form.specs.Files.{marked_in, original_or_file, original_in}
use Rattle.pl_journal.specs.Names.{journal}
use Rattle.pl_journal.specs.Rows.{rows_in}
use Rattle.pl_journal.specs.declared.change.Change.{Change}
use Rattle.pl_cone.specs.Plans.{candidates, greatest, greatest_of, is_candidate, planned, slots, slots_of, stale, stamp_for, standings, walks, wants}
use Rattle.pl_cone.specs.Skipped.{skip_causes}
use Rattle.pl_object.specs.Reads.{reads}
use Rattle.pl_object.specs.declared.object.Object.{Object}
use Rattle.pl_cone.specs.Faulted.{of_cone, of_plan}
use Rattle.pl_cone.specs.Plans.{want_of}
use Rattle.pl_cone.specs.declared.planning.Asked.{Asked}
use Rattle.pl_cone.specs.declared.skip.PlanningFault.{PlanningFault}
use Rattle.pl_cone.specs.Plans.{RunPlan}
use Rattle.pl_rewrite.specs.Rewriting.{rewrite, rewritten}
use Rattle.pl_rewrite.specs.declared.rewriting.Rewritten.{Rewritten}
use Rattle.pl_share.specs.Disjoint.{disjoint}
use Rattle.pl_share.specs.Shared.{plan_shared}
use Rattle.pl_slots.specs.Plan.{plan}
use Rattle.pl_slots.specs.declared.slot.Slot.{Slot}
use Rattle.pl_slots.specs.declared.slot.Want.{Want}
use Rattle.law_sound.specs.Rule.{Mark, mark_at, object_at, objects}
use Rattle.law_demo.specs.Small.{Bounds, HasRoomForFiles, IsSmall, SmallFoldersAreTaken}
use Rattle.law_demo.proofs.RoomLaws.{all_placed, all_take}

-- ---- files

original_is : (file : List ℕ) → marked_in file ≡ None → original_in file ≡ file
unfolding original_in
original_is file plain = ap (original_or_file file) plain

not_below : (a b : ℕ) → b ≤ a → nat_lt a b ≡ false
not_below a b h = grind (arith, nat_tests)

-- a name has a file
abbrev IsThere : base.Files → List ℕ → Type 0
IsThere files n = (file : List ℕ) × (get files n ≡ Some file)

some_there : (o : Option (List ℕ)) → is_some o ≡ true → (file : List ℕ) × (o ≡ Some file)
some_there None e = absurd (false≢true e)
some_there (Some file) e = (file, refl)

all_by : (P : List ℕ → Type 0) (ks : List (List ℕ)) → ((n : List ℕ) → list_any (same n) ks ≡ true → P n) → AllByRecursion P ks
all_by P [] each = tt
all_by P (k ∷ ks) each = (each k (or_left (same k k) (list_any (same k) ks) (itself k)), all_by P ks (λ n there. each n (or_right (same n k) (list_any (same n) ks) there)))

passed : (P : List ℕ → Type 0) (q : List ℕ → Bool) (ks : List (List ℕ)) → AllByRecursion P ks → AllByRecursion P (filter q ks)
passed P q [] all = tt
passed P q (k ∷ ks) all = elim (cases_Bool (q k)) [
  | inl hit ↦ rw hit (all.0, passed P q ks all.1)
  | inr miss ↦ rw miss (passed P q ks all.1)
]

all_there : (files : base.Files) → AllByRecursion (IsThere files) (valid_names files)
all_there files = passed (IsThere files) is_valid_name (keys files) (all_by (IsThere files) (keys files) (λ n there. some_there (get files n) (contains_key-keys files n ∙ there)))

-- the files of names, each of which is there
record AreTaken (files : base.Files) (most : ℕ) (ns : List (List ℕ)) : Type 0 where
  bytes : List (List ℕ)
  taken : each (file_of files) ns ≡ Ok bytes
  few : sum_by (λ file. length (original_in file)) bytes ≤ length ns * most

more_taken : (most l k t : ℕ) → k ≤ most → t ≤ l * most → k + t ≤ suc l * most
more_taken most l k t le rest =
    let is : (l + 1) * most ≡ l * most + 1 * most = add-mul l 1 most in
    omega (arith, is, le, rest)

then_ok : {X Y E : Type 0} (r : Result X E) (x : X) (f : X → Result Y E) → r ≡ Ok x → (r >>= f) ≡ f x
then_ok r x f e = rw e refl

module _ (files : base.Files) (b : Bounds) (small : (n file : List ℕ) → get files n ≡ Some file → IsSmall b file) where
  one_taken : b.bytes ≤ STORED → (n file : List ℕ) → get files n ≡ Some file → file_of files n ≡ Ok file
  unfolding file_of
  one_taken stored n file there =
      let fits : nat_le (length file) STORED ≡ true = le-leb (length file) STORED (omega (arith, (small n file there).size, stored)) in
      ap (of_file n) there ∙ ap (λ (test : Bool). if test then Ok file else Err (causes.FileTooLarge n)) fits

  abbrev size_of : List ℕ → ℕ
  size_of file = length (original_in file)

  are_taken : b.bytes ≤ STORED → (ns : List (List ℕ)) → AllByRecursion (IsThere files) ns → AreTaken files b.bytes ns
  unfolding each
  are_taken stored [] all = record { bytes = []; taken = refl; few = omega arith }
  are_taken stored (n ∷ ns) all =
      let file = all.0.0 in
      let rest = are_taken stored ns all.1 in
      let is = small n file all.0.1 in
      let size : size_of file ≡ length file = ap length (original_is file is.plain) in
      record {
        bytes = file ∷ rest.bytes;
        taken = ap (λ (r : Result (List ℕ) Cause). r >>= λ y. each (file_of files) ns >>= λ ys. Ok (y ∷ ys)) (one_taken stored n file all.0.1) ∙ ap (λ (r : Result (List (List ℕ)) Cause). r >>= λ ys. Ok (file ∷ ys)) rest.taken;
        few = omega (arith, sum_by-cons size_of file rest.bytes, more_taken b.bytes (length ns) (size_of file) (sum_by size_of rest.bytes) (omega (arith, size, is.size)) rest.few);
      }

  -- ---- marks and objects

  no_mark : (n : List ℕ) → mark_at (format skip_causes) (named files n) ≡ None
  unfolding mark_in
  no_mark n = by_file (named files n) refl
    where
      at_name : (b : Bool) (file : List ℕ) → (if b then get files n else None) ≡ Some file → get files n ≡ Some file
      at_name true file e = e
      at_name false file e = absurd cc

      by_file : (g : Option (List ℕ)) → named files n ≡ g → mark_at (format skip_causes) g ≡ None
      by_file None is = refl
      by_file (Some file) is = ap (option_map mark_of) (small n file (at_name (is_valid_name n) file is)).plain

  object_small : (n : List ℕ) (o : Object) → objects (format skip_causes) (named files) n ≡ Ok o → o.span + o.align ≤ b.addresses
  object_small n o e = by_file (named files n) refl e
    where
      at_name : (b : Bool) (file : List ℕ) → (if b then get files n else None) ≡ Some file → get files n ≡ Some file
      at_name true file is = is
      at_name false file is = absurd cc

      by_file : (g : Option (List ℕ)) → named files n ≡ g → object_at (format skip_causes) n g ≡ Ok o → o.span + o.align ≤ b.addresses
      by_file None is at = absurd cc
      by_file (Some file) is at =
          let known = small n file (at_name (is_valid_name n) file is) in
          known.span o (subst (λ (bytes : List ℕ). reads bytes ≡ Ok o) (original_is file known.plain) (read_is skip_causes n (original_in file) o at))

  -- ---- stamps

  none_greatest : (ns : List (List ℕ)) → greatest (named files) 0 ns ≡ 0
  unfolding greatest
  none_greatest [] = refl
  none_greatest (n ∷ ns) = ap (λ (k : Option Mark). fold (λ (top : ℕ) (m : List ℕ). max top (greatest_of (mark_at (format skip_causes) (named files m)))) (max 0 (greatest_of k)) ns) (no_mark n) ∙ none_greatest ns

  stamp_taken : (ns left : List (List ℕ)) (a : Asked) → a.last ≡ 0 → (stamp : ℕ) × (stamp_for (named files) ns a left ≡ Ok stamp)
  unfolding stamp_for stamp_after
  stamp_taken ns left a zero = elim (cases_Bool (length left == 0)) [
    | inl none ↦ (a.last, rw none refl)
    | inr some ↦ (max a.moment 1, rw some (ap (λ (top : ℕ). because of_cone (stamp_after top a.moment)) (ap (λ (last : ℕ). greatest (named files) last ns) zero ∙ none_greatest ns)))
  ]

  -- ---- slots

  want_small : (n : List ℕ) (r : Result Object Skip) (w : Want) → objects (format skip_causes) (named files) n ≡ r → want_of n r ≡ Some w → w.span + w.align ≤ b.addresses
  want_small n (Err e) w at is = absurd (none-some w is)
  want_small n (Ok o) w at is = by_kind (is_library o.kind) is
    where
      by_kind : (test : Bool) → (if test then Some (record { name = n; span = o.span; align = o.align }) else None) ≡ Some w → w.span + w.align ≤ b.addresses
      by_kind true e = subst (λ (v : Want). v.span + v.align ≤ b.addresses) (same_Some (record { name = n; span = o.span; align = o.align }) w e) (object_small n o at)
      by_kind false e = absurd (none-some w e)

  few_taken : (ns : List (List ℕ)) → all_take (wants (named files) ns) ≤ length (wants (named files) ns) * b.addresses
  few_taken [] = omega arith
  few_taken (n ∷ ns) = by_want (want_of n (objects (format skip_causes) (named files) n)) refl (few_taken ns)
    where
      by_want : (o : Option Want) → want_of n (objects (format skip_causes) (named files) n) ≡ o → all_take (wants (named files) ns) ≤ length (wants (named files) ns) * b.addresses
          → all_take (cons_option o (wants (named files) ns)) ≤ length (cons_option o (wants (named files) ns)) * b.addresses
      by_want None is rest = rest
      by_want (Some w) is rest = more_taken b.addresses (length (wants (named files) ns)) (w.span + w.align) (all_take (wants (named files) ns)) (want_small n (objects (format skip_causes) (named files) n) w refl is) rest

  module _ (p : Prelinking) (room : HasRoomForFiles b p) (short : count_by is_valid_name (keys files) ≤ b.files) where
    few : are_many (keys files) ≡ false
    unfolding are_many
    few = not_below FILES (count_by is_valid_name (keys files)) (omega (arith, short, room.few))

    abbrev ns : List (List ℕ)
    ns = valid_names files

    names_few : length ns ≤ b.files
    names_few = omega (arith, length-filter is_valid_name (keys files), short)

    abbrev a : Asked
    a = asked_of p no_cache

    abbrev chosen : List (List ℕ)
    chosen = candidates (named files) p.region ns

    among : Among want_name Fits (wants (named files) chosen) ns
    among = wants_among (named files) (is_candidate (named files) p.region) ns

    slots_taken : (ss : List Slot) × (slots (named files) ns a ≡ Ok ss)
    unfolding slots_of
    slots_taken =
        let ws = wants (named files) chosen in
        let less : length ws ≤ b.files = omega (arith, among_short want_name Fits ws ns among, names_few) in
        let most_take : length ws * b.addresses ≤ b.files * b.addresses = mul-le-mul_right b.addresses less in
        let found = all_placed p.region ws room.some (omega (arith, few_taken chosen, most_take, room.room)) (among_holds want_name Fits ws ns among) in
        (found.0, ap (λ (test : Bool). because of_plan (if test then plan_shared [] ws (walks (named files) ws chosen) p.region else plan (disjoint [] ws p.region) ws p.region)) room.alone ∙ ap (because of_plan) found.1)

    -- ---- the plan

    abbrev plan_made : List Slot → ℕ → RunPlan
    plan_made rows stamp = record { standings = standings (named files) p.region ns; slots = rows; stale = stale (named files) p.region rows ns; stamp = stamp }

    is_planned : (made : RunPlan) × (planned (named files) ns a ≡ Ok made)
    unfolding planned
    is_planned =
        let s = slots_taken in
        let t = stamp_taken ns (stale (named files) p.region s.0 ns) a refl in (
          plan_made s.0 t.0,
          ap (λ (r : Result (List Slot) PlanningFault). r >>= λ rows. stamp_for (named files) ns a (stale (named files) p.region rows ns) >>= λ stamp. Ok (plan_made rows stamp)) s.1
              ∙ ap (λ (r : Result ℕ PlanningFault). r >>= λ stamp. Ok (plan_made s.0 stamp)) t.1,
        )

    is_rewritten : rewrite (named files) ns a ≡ Ok (rewritten (named files) ns a is_planned.0)
    unfolding rewrite
    is_rewritten = ap (λ (r : Result RunPlan PlanningFault). r >>= λ made. Ok (rewritten (named files) ns a made)) is_planned.1

    -- ---- the run

    empty_says : cache_in (cache_bytes no_cache) ≡ Ok no_cache
    unfolding cache_in
    empty_says = ap (because bad_cache) (read_again no_cache (empty_spelled [] refl))

    abbrev run_made : Rewritten
    run_made = rewritten (named files) ns a is_planned.0

    made_taken : IsAsked p → made_of (named files) ns p (cache_bytes no_cache) no_cache ≡ Ok (with_cache (cache_bytes no_cache) run_made)
    unfolding made_of spelled
    made_taken asked =
        let w = rewritten (named files) ns a is_planned.0 in
        let fine : is_cache w.cache ≡ true = next_spelled files p no_cache is_planned.0 asked.region asked.moment (empty_spelled [] refl) few is_planned.1 in
        ap (λ (r : Result Rewritten PlanningFault). because of_planning r >>= spelled (cache_bytes no_cache)) is_rewritten
        ∙ ap (λ (test : Bool). unless (not test) causes.BadCache (Ok (with_cache (cache_bytes no_cache) run_made))) fine

    files_taken : AreTaken files b.bytes ns
    files_taken = are_taken room.stored ns (all_there files)

    not_large : are_large files_taken.bytes ≡ false
    unfolding are_large
    not_large =
        let most : length ns * b.bytes ≤ b.files * b.bytes = mul-le-mul_right b.bytes names_few in
        not_below FOLDER (sum_by (λ file. length (original_in file)) files_taken.bytes) (omega (arith, files_taken.few, most, room.together))

    with_taken : IsAsked p → made_with_cache files p (cache_bytes no_cache) no_cache ≡ Ok (with_cache (cache_bytes no_cache) run_made)
    unfolding made_with_cache all_files
    with_taken asked =
        ap (λ (r : Result (List (List ℕ)) Cause). r >>= λ bytes. unless (are_large bytes) causes.FolderTooLarge (made_of (named files) ns p (cache_bytes no_cache) no_cache)) files_taken.taken
        ∙ (ap (λ (test : Bool). unless test causes.FolderTooLarge (made_of (named files) ns p (cache_bytes no_cache) no_cache)) not_large ∙ made_taken asked)

    by_taken : IsAsked p → get files cache ≡ None → made_of_folder files p ≡ Ok (with_cache (cache_bytes no_cache) run_made)
    unfolding made_of_folder cache_file
    by_taken asked none =
        ap (λ (o : Option (List ℕ)). cache_by o >>= λ old. cache_in old >>= λ cached. made_with_cache files p old cached) none
        ∙ (ap (λ (r : Result Cache Cause). r >>= λ cached. made_with_cache files p (cache_bytes no_cache) cached) empty_says ∙ with_taken asked)

    all_taken : IsAsked p → get files cache ≡ None → all_changes files p ≡ Ok (with_cache (cache_bytes no_cache) run_made).rows
    unfolding all_changes all_made
    all_taken asked none =
        then_ok (unless (are_many (keys files)) causes.TooManyFiles (made_of_folder files p)) (with_cache (cache_bytes no_cache) run_made) (λ made. Ok made.rows) (ap (λ (test : Bool). unless test causes.TooManyFiles (made_of_folder files p)) few ∙ by_taken asked none)

    run_taken : IsAsked p → get files cache ≡ None → get files journal ≡ None → run_meant (All p) files ≡ Ok (with_cache (cache_bytes no_cache) run_made).rows
    unfolding ready changes_of
    run_taken asked none without =
        let taken = all_taken asked none in
        ap (λ (o : Option (List ℕ)). ◌>>=◌ {A = List Change} (unless (not (is_some (rows_in o))) causes.BadJournal (Ok [])) (λ ready. changes_of files (All p))) without
        ∙ (ap (λ (r : Result (List Change) Cause). r >>= fitting) taken ∙ runs_fit files (All p) (with_cache (cache_bytes no_cache) run_made).rows taken)

pub small_taken : SmallFoldersAreTaken
small_taken files p b small asked room = ((with_cache (cache_bytes no_cache) (run_made files b small.each p room small.few)).rows, run_taken files b small.each p room small.few asked small.no_cache small.no_journal)
