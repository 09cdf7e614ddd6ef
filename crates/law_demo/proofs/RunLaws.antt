-- After a run that prelinks everything each program that is prelinked has a list that tells the files of its walk.
use Rattle.std.proofs.Common.{◌≡◌, ◌≤◌, ℕ, Bool, true, false, List, [], ◌∷◌, map, length, get_or, Option, Some, None, Result, Ok, refl, sym, ap, subst, ◌∙◌, inl, inr}
use Rattle.std.specs.Prelude.{if◌then◌else◌}
use Rattle.std.specs.FinMap.{get}
use Rattle.std.specs.List.{All, AllByRecursion, IsDistinct}
use Rattle.std.specs.Option.{is_some, option_map, option_or}
use Rattle.std.specs.Str.{bytes_eq}
use Rattle.std.proofs.lemmas.Bool.{true≢false}
use Rattle.std.proofs.lemmas.List.Elements.{All-nil, All-cons, All-head, All-tail}
use Rattle.std.proofs.lemmas.Option.{slice_get-get_or}
use Rattle.pl_base.specs.Files as base
use Rattle.pl_base.specs.Names.{is_valid_name}
use Rattle.pl_batch.specs.Folder.{named}
use Rattle.pl_batch.specs.declared.prelinking.Prelinking.{Prelinking}
use Rattle.pl_cli.specs.Files.{valid_file}
use Rattle.pl_cone.specs.Plans.{slot_of}
use Rattle.pl_cone.specs.declared.skip.Skip.{Skip}
use Rattle.pl_conflict.specs.Format.{Rule, format, slot_at}
use Rattle.pl_conflict.specs.Prelinked as prelinked
use Rattle.pl_conflict.specs.Prelinked.{library_file}
use Rattle.pl_conflict.proofs.FormatLaws.{format_kept}
use Rattle.pl_conflict.proofs.MadeLaws.{prelinked_is}
use Rattle.pl_elf.specs.Kinds.{is_library}
use Rattle.pl_elf.specs.declared.kind.Kind.{Kind}
use Rattle.pl_elf.specs.declared.kind.Kind.TheVariants.{Library}
use Rattle.pl_elf.specs.declared.range.Range.{Range}
use Rattle.law_folder.specs.All.{HasNext}
use Rattle.law_folder.proofs.NextLemmas.{gives_next}
use Rattle.pl_journal.specs.Meaning.{applied}
use Rattle.pl_journal.specs.declared.change.Change.{Change}
use Rattle.pl_cone.specs.Fits.{fit_in}
use Rattle.pl_cone.specs.Skipped.{skip_causes}
use Rattle.pl_object.specs.declared.object.Object.{Object}
use Rattle.pl_cone.specs.Plans.{RunPlan}
use Rattle.pl_rewrite.specs.Changes.{from_scratch, next, numbers}
use Rattle.pl_rewrite.proofs.SoundLaws.{names_stay, next_is_from_scratch}
use Rattle.pl_scope.specs.Members.{IsLinked, has, names, others}
use Rattle.pl_scope.specs.Walk.{Walked}
use Rattle.pl_scope.specs.declared.constants.TheConstants.{MAX_MEMBERS}
use Rattle.pl_scope.proofs.ClosureLaws.{WalkTells, member_walk, walk_is}
use Rattle.pl_scope.proofs.NameLaws.{has_head, has_tail}
use Rattle.pl_scope.proofs.StepLaws.{walk_local, walk_short, walk_there}
use Rattle.pl_scope.proofs.WalkedLaws.{member_file, walk_distinct}
use Rattle.law_sound.specs.Plan.{Plan, for_library, is_candidate, planned_in}
use Rattle.law_sound.specs.Rule as rule
use Rattle.law_sound.specs.Rule.{Files, Format, Mark, is_marked, mark_at, matches, objects, of_walk, row_at, row_of, walk_in}
use Rattle.law_sound.proofs.BookLaws.{marked_at}
use Rattle.law_sound.proofs.Matching.{Matches, rule_in, tells_back}
use Rattle.law_sound.proofs.PlanLaws as sound
use Rattle.law_sound.proofs.PlanLaws.{all_planned, candidate_member, planned_bears, planned_is, planned_object, rule_planned}
use Rattle.law_sound.proofs.RuleLaws.{is_other, linked, map_same, other_is, other_library}
use Rattle.law_demo.specs.Clear.{IsProgram}
use Rattle.law_demo.specs.Fast.{PrelinkedLoadsAreFast}
use Rattle.law_demo.proofs.AnswerLaws.{matched_fast}
use Rattle.law_folder.proofs.SetLemmas.{AreFine, HasLibrary, HasObject, IsAmong, firm_for, libraries_fine, planned, some_file}

made_by : (candidate : Bool) (planned old : Option (List ℕ)) (file : List ℕ) → candidate ≡ true → planned ≡ Some file → option_or (if candidate then planned else None) old ≡ Some file
made_by candidate planned old file on is = rw (on, is) refl

no_library : (kind : Kind) → kind ≡ Library → is_library kind ≡ false → ⊥
no_library kind is none = true≢false (sym (ap is_library is) ∙ none)

-- files after a run over a folder's old ones
module _ (old view : Files) (region : Range) (p : RunPlan) (is : (n : List ℕ) → view n ≡ from_scratch old region p n) where
  abbrev f : Format Skip
  f = format skip_causes

  abbrev plan : Plan
  plan = numbers old region p

  -- a name has the file that is planned
  record IsMade (m : List ℕ) : Type 0 where
    file : List ℕ
    there : view m ≡ Some file
    made : planned_in f old plan m ≡ Some file

  abbrev PlannedAt : (m : List ℕ) → IsMade m → Type 0
  PlannedAt m at = sound.IsPlannedFile f old plan m at.file

  made_is : (m : List ℕ) (at : IsMade m) → PlannedAt m at
  made_is m at = planned_is f (format_kept skip_causes) old plan m at.file at.made

  same_object : (m : List ℕ) (at : IsMade m) → objects f old m ≡ objects f view m
  same_object m at = planned_object f old view plan m at.file (made_is m at) at.there

  is_made : (m : List ℕ) → is_marked f view m ≡ true → (is_candidate f (fit_in region) old m ≡ true) × IsMade m
  is_made m marked =
      let k = marked_at f (view m) marked in
      let made = all_planned f (format_kept skip_causes) (fit_in region) old (slot_of p.slots) p.stamp m k.0 k.1 (sym (is m) ∙ k.2) k.3 in
      (made.0, record { file = k.0; there = k.2; made = made.1 })

  -- the rule holds of them
  pub view_keeps : Rule skip_causes view
  view_keeps = rule_in f view (rule_planned f (format_kept skip_causes) old view plan (λ m file k there marked.
      (all_planned f (format_kept skip_causes) (fit_in region) old (slot_of p.slots) p.stamp m file k (sym (is m) ∙ there) marked).1))

  are_libraries : (ms : Walked) → All (HasObject skip_causes old plan) ms → ((k : List ℕ) (o : Object) → has (names ms) k ≡ true → objects f old k ≡ Ok o → o.kind ≡ Library) → All (HasLibrary skip_causes old plan) ms
  are_libraries [] have kinds = All-nil (HasLibrary skip_causes old plan)
  are_libraries (m ∷ ms) have kinds = All-cons (HasLibrary skip_causes old plan) m ms (ap is_library (kinds m.0 m.1 (has_head m.0 (names ms)) (All-head (HasObject skip_causes old plan) m ms have)))
      (are_libraries ms (All-tail (HasObject skip_causes old plan) m ms have) (λ k o there. kinds k o (has_tail m.0 k (names ms) there)))

  are_among : (all ms : Walked) → All (HasObject skip_causes old plan) ms → ((k : List ℕ) → has (names ms) k ≡ true → has (names all) k ≡ true) → AllByRecursion (IsAmong skip_causes old plan all) ms
  are_among all [] have subset = tt
  are_among all (m ∷ ms) have subset = (
    record { there = subset m.0 (has_head m.0 (names ms)); object = All-head (HasObject skip_causes old plan) m ms have },
    are_among all ms (All-tail (HasObject skip_causes old plan) m ms have) (λ k there. subset k (has_tail m.0 k (names ms) there)),
  )

  have_objects : (n : List ℕ) (ws : Walked) → walk_in f old n ≡ Ok ws → All (HasObject skip_causes old plan) ws
  have_objects n ws walks = λ k d lt. member_file skip_causes.walk (objects f old) n ws walks k (get_or ws k d) (slice_get-get_or ws k d lt)

  -- a program that is prelinked
  module _ (n : List ℕ) (marked : is_marked f view n ≡ true) (program : IsProgram skip_causes view n) where
    abbrev own : IsMade n
    own = (is_made n marked).1

    abbrev ws : Walked
    ws = (made_is n own).walked

    walks : walk_in f old n ≡ Ok ws
    walks = (made_is n own).walks

    abbrev tells : WalkTells (objects f old) n ws
    tells = walk_is skip_causes.walk (objects f old) n ws walks

    not_library : (o : Object) → objects f old n ≡ Ok o → is_library o.kind ≡ false
    not_library o at = program o (sym (same_object n own) ∙ at)

    own_linked : (o : Object) → objects f old n ≡ Ok o → IsLinked o.kind
    own_linked o at =
        let k = marked_at f (view n) marked in
        linked f (format_kept skip_causes) view n k.0 k.1 k.2 k.3 o (sym (same_object n own) ∙ at)

    rest_objects : All (HasObject skip_causes old plan) tells.rest
    rest_objects = All-tail (HasObject skip_causes old plan) (n, tells.object) tells.rest (subst (All (HasObject skip_causes old plan)) tells.is (have_objects n ws walks))

    rest_fine : AreFine skip_causes old plan tells.rest
    rest_fine =
        let whole : prelinked.prelinked (map (planned skip_causes old plan) (names ws)) ≡ Some own.file = sym (ap (of_walk f (planned skip_causes old plan)) walks) ∙ own.made in
        let first : prelinked.prelinked (map (planned skip_causes old plan) (names ((n, tells.object) ∷ tells.rest))) ≡ Some own.file = subst (λ (vs : Walked). prelinked.prelinked (map (planned skip_causes old plan) (names vs)) ≡ Some own.file) tells.is whole in
        let q = prelinked_is (planned skip_causes old plan n) (map (planned skip_causes old plan) (names tells.rest)) own.file first in
        libraries_fine skip_causes old plan q.r tells.rest q.rs rest_objects (are_libraries tells.rest rest_objects tells.libraries) q.firms.1 q.set

    -- a member of a library's walk is one of its own walk's libraries
    inner_subset : (m : List ℕ) (inner : Walked) → has (names tells.rest) m ≡ true → walk_in f old m ≡ Ok inner → ((k : List ℕ) → has (names inner) k ≡ true → has (names ws) k ≡ true) → (k : List ℕ) → has (names inner) k ≡ true → has (names tells.rest) k ≡ true
    inner_subset m inner there inner_walks subset k at =
        let inner_tells = walk_is skip_causes.walk (objects f old) m inner inner_walks in
        let found : (o : Object) × (objects f old k ≡ Ok o) = walk_there skip_causes.walk (objects f old) m inner inner_walks k at in
        let library : found.0.kind ≡ Library = elim (is_other (objects f old) m k inner inner_tells at) [
          | inl e ↦ tells.libraries k found.0 (subst (λ (x : List ℕ). has (names tells.rest) x ≡ true) e there) found.1
          | inr o ↦ other_library (objects f old) m k inner found.0 inner_tells o found.1
        ] in
        elim (is_other (objects f old) n k ws tells (subset k at)) [
          | inl e ↦ absurd (no_library found.0.kind library (not_library found.0 (subst (λ (x : List ℕ). objects f old x ≡ Ok found.0) (sym e) found.1)))
          | inr o ↦ subst (λ (vs : Walked). has (others vs) k ≡ true) tells.is o
        ]

    library_made : (m : List ℕ) → has (names tells.rest) m ≡ true → IsMade m
    library_made m there =
        let inside : has (names ws) m ≡ true = other_is (objects f old) n m ws tells (subst (λ (vs : Walked). has (others vs) m ≡ true) (sym tells.is) there) in
        let w = member_walk skip_causes.walk (objects f old) n m ws walks own_linked inside in
        let inner_tells = walk_is skip_causes.walk (objects f old) m w.walked w.walks in
        let among : AllByRecursion (IsAmong skip_causes old plan tells.rest) w.walked = are_among tells.rest w.walked (have_objects m w.walked w.walks) (inner_subset m w.walked there w.walks w.subset) in
        let distinct = walk_distinct skip_causes.walk (objects f old) m w.walked w.walks in
        let short = walk_short skip_causes.walk (objects f old) m w.walked w.walks in
        let made : prelinked.prelinked (map (planned skip_causes old plan) (names ((m, inner_tells.object) ∷ inner_tells.rest))) ≡ Some (library_file (map (firm_for skip_causes old plan) ((m, inner_tells.object) ∷ inner_tells.rest))) =
        some_file skip_causes old plan tells.rest (m, inner_tells.object) inner_tells.rest rest_fine
        (subst (AllByRecursion (IsAmong skip_causes old plan tells.rest)) inner_tells.is among) (subst (λ (vs : Walked). IsDistinct bytes_eq (names vs)) inner_tells.is distinct) (subst (λ (vs : Walked). length (names vs) ≤ MAX_MEMBERS) inner_tells.is short) in
        let planned_so : planned_in f old plan m ≡ Some (library_file (map (firm_for skip_causes old plan) ((m, inner_tells.object) ∷ inner_tells.rest))) =
        ap (of_walk f (planned skip_causes old plan)) w.walks ∙ subst (λ (vs : Walked). prelinked.prelinked (map (planned skip_causes old plan) (names vs)) ≡ Some (library_file (map (firm_for skip_causes old plan) ((m, inner_tells.object) ∷ inner_tells.rest)))) (sym inner_tells.is) made in
        let candidate : is_candidate f (fit_in region) old m ≡ true = candidate_member f (fit_in region) old n m ws (is_made n marked).0 walks inside in
        record {
          file = library_file (map (firm_for skip_causes old plan) ((m, inner_tells.object) ∷ inner_tells.rest));
          there = is m ∙ made_by (is_candidate f (fit_in region) old m) (planned_in f old plan m) (option_map f.original (old m)) (library_file (map (firm_for skip_causes old plan) ((m, inner_tells.object) ∷ inner_tells.rest))) candidate planned_so;
          made = planned_so;
        }

    each_made : (m : List ℕ) → has (names ws) m ≡ true → IsMade m
    each_made m there = elim (is_other (objects f old) n m ws tells there) [
      | inl e ↦ subst IsMade e own
      | inr o ↦ library_made m (subst (λ (vs : Walked). has (others vs) m ≡ true) tells.is o)
    ]

    other_made : (m : List ℕ) → has (others ws) m ≡ true → IsMade m
    other_made m there = each_made m (other_is (objects f old) n m ws tells there)

    abbrev own_mark : Mark
    own_mark = record { version = f.version; slot = for_library (objects f old n) (plan.slot n); stamp = for_library (objects f old n) (plan.stamp n); list = map (λ m. row_of f (planned skip_causes old plan m)) (others ws) }

    walks_after : walk_in f view n ≡ Ok ws
    walks_after = walk_local skip_causes.walk skip_causes.walk (objects f old) (objects f view) n ws walks (λ m o there at. sym (same_object m (each_made m there)) ∙ at)

    own_matches : Matches f view n
    own_matches = record {
      file = own.file;
      mark = own_mark;
      walked = ws;
      there = own.there;
      marked = (made_is n own).mark;
      walks = walks_after;
      each = λ m there. ap (λ (g : Option (List ℕ)). is_some (mark_at f g)) (other_made m there).there ∙ ap (λ (k : Option Mark). is_some k) (made_is m (other_made m there)).mark;
      list = map_same (λ m. row_of f (planned skip_causes old plan m)) (λ m. row_at f m (view m)) (others ws) (λ m there.
          sym (ap (row_of f) (planned_bears f old view plan m (other_made m there).file (made_is m (other_made m there)) (other_made m there).there)));
    }

    pub prelinked_matches : matches f view n ≡ true
    prelinked_matches = tells_back f view n own_matches

    -- ---- a library of it, after the run

    inside_of : (m : List ℕ) → has (names tells.rest) m ≡ true → has (names ws) m ≡ true
    inside_of m there = other_is (objects f old) n m ws tells (subst (λ (vs : Walked). has (others vs) m ≡ true) (sym tells.is) there)

    library_candidate : (m : List ℕ) → has (names tells.rest) m ≡ true → is_candidate f (fit_in region) old m ≡ true
    library_candidate m there = candidate_member f (fit_in region) old n m ws (is_made n marked).0 walks (inside_of m there)

    -- it bears the planned slot
    library_slot : (m : List ℕ) (o : Object) → has (names tells.rest) m ≡ true → objects f old m ≡ Ok o → is_library o.kind ≡ true → slot_at skip_causes view m ≡ slot_of p.slots m
    library_slot m o there at library =
        let own : IsMade m = library_made m there in
        ap (λ (g : Option (List ℕ)). rule.slot_of (mark_at f g)) own.there
        ∙ (ap (λ (k : Option Mark). rule.slot_of k) (made_is m own).mark
        ∙ (ap (λ (r : Result Object Skip). for_library r (slot_of p.slots m)) at ∙ ap (λ (b : Bool). if b then slot_of p.slots m else 0) library))

    -- the walk, as the files after the run have it
    pub record IsWalkAfter : Type 0 where
      pub object : Object
      pub rest : Walked
      pub walks : walk_in f view n ≡ Ok ((n, object) ∷ rest)
      pub have : All (HasObject skip_causes old plan) rest
      pub libraries : All (HasLibrary skip_causes old plan) rest
      pub candidates : (m : List ℕ) → has (names rest) m ≡ true → is_candidate f (fit_in region) old m ≡ true
      pub slots : (m : List ℕ) (o : Object) → has (names rest) m ≡ true → objects f old m ≡ Ok o → is_library o.kind ≡ true → slot_at skip_causes view m ≡ slot_of p.slots m

    pub walk_after : IsWalkAfter
    walk_after = record {
      object = tells.object;
      rest = tells.rest;
      walks = walks_after ∙ ap (λ (vs : Walked). Ok vs) tells.is;
      have = rest_objects;
      libraries = are_libraries tells.rest rest_objects tells.libraries;
      candidates = library_candidate;
      slots = library_slot;
    }

-- ---- a run of a command

no_file : (o : Option (List ℕ)) → is_some o ≡ false → o ≡ None
no_file None e = refl
no_file (Some file) e = absurd (true≢false e)

pub after_next : (files after : base.Files) (p : Prelinking) (rows : List Change) (h : HasNext files p (applied rows (get files))) → ((n : List ℕ) → get after n ≡ applied rows (get files) n) → (n : List ℕ) → valid_file after n ≡ next (named files) p.region h.plan n
after_next files after p rows h are n = by_name (is_valid_name n) refl
  where
    by_name : (b : Bool) → is_valid_name n ≡ b → (if is_valid_name n then get after n else None) ≡ next (named files) p.region h.plan n
    by_name true valid = ap (λ (b : Bool). if b then get after n else None) valid ∙ (are n ∙ h.each n valid)
    by_name false invalid =
        let none : named files n ≡ None = ap (λ (b : Bool). if b then get files n else None) invalid in
        let gone : next (named files) p.region h.plan n ≡ None = no_file (next (named files) p.region h.plan n) (names_stay (named files) p.region h.plan n ∙ ap (λ (o : Option (List ℕ)). is_some o) none) in
        ap (λ (b : Bool). if b then get after n else None) invalid ∙ sym gone

pub prelinked_fast : PrelinkedLoadsAreFast
prelinked_fast files after p rows policy busy name keeps changes are marked program free =
    let h : HasNext files p (applied rows (get files)) = gives_next files p rows changes in
    let is : (n : List ℕ) → valid_file after n ≡ from_scratch (named files) p.region h.plan n = λ n. after_next files after p rows h are n ∙ next_is_from_scratch (named files) p.region h.plan keeps n in
    matched_fast skip_causes after policy busy name (λ m match there. view_keeps (named files) (valid_file after) p.region h.plan is name m match there)
    (prelinked_matches (named files) (valid_file after) p.region h.plan is name marked program) program free
