-- What the report of a run that prelinks everything says of each name.
use Rattle.std.proofs.Common.{◌≡◌, ◌⊎◌, inl, inr, ℕ, Bool, true, false, List, [], ◌∷◌, map, get_or, Option, Some, None, Result, Ok, Err, refl, sym, ap, subst, ◌∙◌}
use Rattle.std.specs.List.{All, list_all, list_any}
use Rattle.std.specs.Prelude.{◌&&◌, ◌==◌, is_some, length, nat_lt, not, if◌then◌else◌}
use Rattle.std.specs.Result.{is_ok}
use Rattle.std.proofs.lemmas.Bool.{false≢true}
use Rattle.std.proofs.lemmas.List.Elements.{All-map}
use Rattle.pl_base.specs.Answers.{◌>>=◌, NeverMemory, because, unless_found}
use Rattle.pl_base.specs.Each.{run}
use Rattle.pl_base.specs.Files as base
use Rattle.pl_base.proofs.TellsLaws.{cause_tells, either_tells, err_tells, ok_tells, run_tells, then_tells, unless_tells}
use Rattle.pl_change.specs.Folder.{cache, valid_names}
use Rattle.pl_batch.specs.Folder.{named}
use Rattle.pl_batch.specs.declared.prelinking.Prelinking.{Prelinking}
use Rattle.pl_rewrite.specs.Candidates.{all_formed, blocks, fit, formed, kind_of, check_links, of_link, resolved, zeros}
use Rattle.pl_rewrite.specs.Skips.{of_tls, of_walk}
use Rattle.pl_rewrite.specs.Skip.{Skip}
use Rattle.pl_rewrite.specs.Skip.TheVariants as skips
use Rattle.pl_conflict.specs.Format.{format, read_original}
use Rattle.pl_elf.specs.Kinds.{is_library, is_program, is_static}
use Rattle.pl_elf.specs.declared.kind.Kind.{Kind}
use Rattle.pl_elf.specs.declared.kind.Kind.TheVariants.{Library, Program, Static}
use Rattle.pl_elf.specs.declared.range.Range.{Range}
use Rattle.pl_elf.specs.declared.segment.Segment.{Segment}
use Rattle.pl_form.specs.Faults.{bss_too_large, cut_of, form_fault, in_region, is_later, program_fault, stray_header, wanted_spare}
use Rattle.pl_form.specs.Files.{original_in}
use Rattle.pl_form.specs.Marks.{has_mark}
use Rattle.pl_form.specs.declared.constants.TheConstants.{STORED}
use Rattle.pl_form.specs.declared.file.Marked.{Marked}
use Rattle.pl_form.specs.declared.fault.FormFault.{FormFault}
use Rattle.pl_form.specs.declared.fault.FormFault.TheVariants as forms
use Rattle.pl_rewrite.specs.Faults.{fault_by, fault_in, fault_number}
use Rattle.pl_rewrite.specs.Fits.{fit_in, links}
use Rattle.pl_rewrite.specs.Plans.{is_candidate, is_current}
use Rattle.pl_rewrite.specs.Skipped.{fault_at, of_refusal, skip_causes, skip_of}
use Rattle.pl_rewrite.proofs.LinkLaws.{each_read, links_is}
use Rattle.pl_object.specs.PlaceClauses.{last_load}
use Rattle.pl_object.specs.Reads.{reads}
use Rattle.pl_object.specs.declared.object.Object.{Object}
use Rattle.pl_object.specs.declared.refusal.Refusal.{Refusal}
use Rattle.pl_object.specs.declared.refusal.Refusal.TheVariants as refusals
use Rattle.pl_rewrite.specs.Plans.{RunPlan}
use Rattle.pl_rewrite.specs.Changes.{next}
use Rattle.pl_rewrite.specs.Reports.{marked_at, report, row_of, state_after, state_by, state_of}
use Rattle.pl_rewrite.specs.declared.rewriting.Report.{Report}
use Rattle.pl_rewrite.specs.declared.rewriting.RowState.{RowState}
use Rattle.pl_rewrite.specs.declared.rewriting.RowState.TheVariants as states
use Rattle.pl_rewrite.proofs.FormLaws.{original_is}
use Rattle.pl_scope.specs.Members.{names}
use Rattle.pl_scope.specs.Scope as scope
use Rattle.pl_scope.specs.Walk.{Walked}
use Rattle.pl_scope.specs.Walk as walking
use Rattle.pl_scope.specs.declared.fault.WalkFault.{WalkFault}
use Rattle.pl_scope.specs.declared.fault.WalkFault.TheVariants as walk_faults
use Rattle.pl_scope.proofs.ClosureLaws.{walk_is}
use Rattle.pl_scope.proofs.TellsLaws.{walk_tells}
use Rattle.pl_scope.proofs.WalkedLaws.{member_file}
use Rattle.law_sound.specs.Plan.{fits, links_as}
use Rattle.law_sound.specs.Rule.{Files, object_at, objects, original_at, walk_in}
use Rattle.pl_tls.specs.Layout.{offsets}
use Rattle.pl_tls.specs.declared.fault.TlsFault.{TlsFault}
use Rattle.pl_tls.specs.declared.fault.TlsFault.TheVariants as tls_faults
use Rattle.pl_value.specs.Meanings.{meanings}
use Rattle.pl_value.specs.declared.fault.LinkFault.{LinkFault}
use Rattle.law_folder.specs.Candidates.{HasPlan}
use Rattle.law_folder.specs.Reported.{ReportsTellNames, SaysPrelinked, SaysTooLong, TellsName}
use Rattle.law_folder.proofs.CandidateLemmas.{candidates_marked}
use Rattle.law_folder.proofs.CauseLemmas.{read_spelled}
use Rattle.law_folder.proofs.PlanLemmas.{all_told}

-- ---- a name may be prelinked where it has no cause

-- no member has a form fault
abbrev has_none : (List ℕ → Option ℕ) → List ℕ → Bool
has_none faults n = not (is_some (faults n))

formed_is : {X : Type 0} (faults : List ℕ → Option ℕ) (ns : List (List ℕ)) (r : Result X Skip) → is_ok (all_formed faults ns >>= λ _. r) ≡ (list_all (has_none faults) ns && is_ok r)
unfolding all_formed run
formed_is faults [] r = refl
formed_is {X = X} faults (n ∷ ns) r = by_fault (formed_is faults ns r) (faults n)
  where
    by_fault : is_ok (run (λ v m. formed faults m) tt ns >>= λ _. r) ≡ (list_all (has_none faults) ns && is_ok r) → (fault : Option ℕ)
        → is_ok ((unless_found fault (skips.Form n) (Ok tt) >>= λ u. run (λ v m. formed faults m) u ns) >>= λ _. r) ≡ ((not (is_some fault) && list_all (has_none faults) ns) && is_ok r)
    by_fault rest None = rest
    by_fault rest (Some number) = refl

off : (b : Bool) → (b && false) ≡ false
off true = refl
off false = refl

read_at : (n : List ℕ) (file : Option (List ℕ)) (o : Object) → object_at (format skip_causes) n file ≡ Ok o → reads (original_at (format skip_causes) file) ≡ Ok o
read_at n None o e = absurd cc
read_at n (Some file) o e = (original_is n (original_in file) o e).reads

module _ (files : Files) (region : Range) where
  abbrev original_of : List ℕ → List ℕ
  original_of m = original_at (format skip_causes) (files m)

  -- the originals of a walk link where its objects do
  walk_links : (n : List ℕ) (ws : Walked) → walk_in (format skip_causes) files n ≡ Ok ws → (fit_in region).links (map original_of (names ws)) ≡ is_ok (check_links ws)
  walk_links n ws walks =
      let read = each_read original_of ws (λ i q at. read_at q.0 (files q.0) q.1 (member_file skip_causes.walk (objects (format skip_causes) files) n ws walks i q at)) in
      ap links read ∙ links_is ws

  by_kind : (n : List ℕ) (ws : Walked) (kind : Kind) → kind_of ws ≡ kind → (fit_in region).links (map original_of (names ws)) ≡ is_ok (check_links ws)
      → (list_all (has_none (fault_at region files)) (names ws) && links_as (fit_in region) kind (map original_of (names ws))) ≡ is_ok (fit (fault_at region files) n ws)
  unfolding fit
  by_kind n ws Program is linking = ap (λ (b : Bool). list_all (has_none (fault_at region files)) (names ws) && b) linking ∙ sym (rw is (formed_is (fault_at region files) (names ws) (check_links ws)))
  by_kind n ws Library is linking = sym (rw is (formed_is (fault_at region files) (names ws) (Ok tt)))
  by_kind n ws Static is linking = off (list_all (has_none (fault_at region files)) (names ws)) ∙ sym (rw is refl)

  skip_is : (n : List ℕ) → is_candidate files region n ≡ is_ok (skip_of files region n)
  unfolding skip_of
  skip_is n = of_walk_in (walk_in (format skip_causes) files n) refl
    where
      of_object : (e : Skip) (r : Result Object Skip) → fits (format skip_causes) (fit_in region) files r (Err e) ≡ false
      of_object e (Ok o) = refl
      of_object e (Err c) = refl

      of_walk_in : (r : Result Walked Skip) → walk_in (format skip_causes) files n ≡ r → fits (format skip_causes) (fit_in region) files (objects (format skip_causes) files n) r ≡ is_ok (r >>= fit (fault_at region files) n)
      of_walk_in (Err e) is = of_object e (objects (format skip_causes) files n)
      of_walk_in (Ok ws) is =
          let i = walk_is skip_causes.walk (objects (format skip_causes) files) n ws is in
          let kind : kind_of ws ≡ i.object.kind = ap kind_of i.is in
          ap (λ (r : Result Object Skip). fits (format skip_causes) (fit_in region) files r (Ok ws)) i.file ∙ by_kind n ws i.object.kind kind (walk_links n ws is)

-- ---- no cause is the sixth form fault

abbrev is_six : ℕ → Bool
is_six n = n == 6

abbrev is_sixth : Skip → Bool
is_sixth (skips.Form name number) = is_six number
is_sixth _ = false

walk_not : (e : WalkFault) → is_sixth (of_walk e) ≡ false
walk_not (walk_faults.NeededIsProgram name) = refl
walk_not (walk_faults.TooMany name) = refl
walk_not (walk_faults.NotThere name) = refl
walk_not walk_faults.NoMemory = refl

refusal_not : (n : List ℕ) (e : Refusal) → is_sixth (of_refusal n e) ≡ false
refusal_not n (refusals.Clause number argument) = refl
refusal_not n refusals.NoMemory = refl

object_not : (n : List ℕ) (file : Option (List ℕ)) → NeverMemory is_sixth (object_at (format skip_causes) n file)
unfolding read_original
object_not n None = err_tells Object is_sixth (skips.NotThere n) refl
object_not n (Some file) =
    unless_tells is_sixth (nat_lt STORED (length (original_in file))) (skip_causes.large n) _ refl
    (unless_tells is_sixth (has_mark (original_in file)) (skip_causes.bad_mark n) _ refl (cause_tells is_sixth (skip_causes.refused n) (reads (original_in file)) (refusal_not n)))

-- a form fault that is found before a form is made
abbrev is_last : FormFault → Bool
is_last forms.TooLarge = true
is_last _ = false

program_not : (o : Object) (last : Option Segment) (region : Range) → NeverMemory is_last (program_fault o last region)
unfolding program_fault
program_not o None region = ok_tells is_last tt
program_not o (Some last) region =
    unless_tells is_last (bss_too_large last) forms.BssTooLarge _ refl
    (unless_tells is_last (stray_header o (cut_of last)) forms.StrayHeader _ refl
    (unless_tells is_last (in_region o.segments last region) forms.InRegion _ refl
    (unless_tells is_last (list_any (is_later last) o.segments) forms.LastLoadNotLast (Ok tt) refl (ok_tells is_last tt))))

form_not : (o : Object) (region : Range) → NeverMemory is_last (form_fault o region)
unfolding form_fault
form_not o region =
    unless_tells is_last (nat_lt o.spare (wanted_spare o)) forms.NoSpareTags _ refl
    (either_tells is_last (is_library o.kind) (Ok tt) (program_fault o (last_load o.segments) region) (ok_tells is_last tt) (program_not o (last_load o.segments) region))

number_not : (n : List ℕ) (r : Result (Unit {0}) FormFault) → NeverMemory is_last r → (number : ℕ) → fault_number r ≡ Some number → is_six number ≡ false
unfolding NeverMemory
number_not n (Ok u) t number e = absurd cc
number_not n (Err forms.NoSpareTags) t number e = let is : 1 ≡ number = cc in ap is_six (sym is)
number_not n (Err forms.BssTooLarge) t number e = let is : 2 ≡ number = cc in ap is_six (sym is)
number_not n (Err forms.StrayHeader) t number e = let is : 3 ≡ number = cc in ap is_six (sym is)
number_not n (Err forms.InRegion) t number e = let is : 4 ≡ number = cc in ap is_six (sym is)
number_not n (Err forms.LastLoadNotLast) t number e = let is : 5 ≡ number = cc in ap is_six (sym is)
number_not n (Err forms.TooLarge) t number e = absurd (false≢true (sym t))
number_not n (Err forms.NoMemory) t number e = let is : 0 ≡ number = cc in ap is_six (sym is)

fault_not : (n o : List ℕ) (region : Range) (number : ℕ) → fault_in region o ≡ Some number → is_six number ≡ false
unfolding fault_in
fault_not n o region number e = by_mark (has_mark o) e
  where
    by_read : (r : Result Object Refusal) → fault_by region r ≡ Some number → is_six number ≡ false
    by_read (Ok x) is = number_not n (form_fault x region) (form_not x region) number is
    by_read (Err fault) is = absurd cc

    by_mark : (b : Bool) → (if b then None else fault_by region (reads o)) ≡ Some number → is_six number ≡ false
    by_mark true is = absurd cc
    by_mark false is = by_read (reads o) is

tls_not : (e : TlsFault) → is_sixth (of_tls e) ≡ false
tls_not tls_faults.TooLarge = refl
tls_not tls_faults.NoMemory = refl

link_not : (ws : Walked) (e : LinkFault) → is_sixth (of_link ws e) ≡ false
link_not ws e = refl

linked_not : (ws : Walked) → NeverMemory is_sixth (check_links ws)
unfolding check_links resolved
linked_not ws =
    then_tells is_sixth (because of_tls (offsets (blocks ws))) (resolved ws) (cause_tells is_sixth of_tls (offsets (blocks ws)) tls_not)
    (λ modules.
    let found = meanings (scope.objects ws) (zeros ws) modules in
    then_tells is_sixth (because (of_link ws) found) (λ gs. Ok tt) (cause_tells is_sixth (of_link ws) found (link_not ws)) (λ gs. ok_tells is_sixth tt))

module _ (files : Files) (region : Range) where
  formed_not : (n : List ℕ) → NeverMemory is_sixth (formed (fault_at region files) n)
  formed_not n = by_fault (fault_at region files n) refl
    where
      by_fault : (fault : Option ℕ) → fault_at region files n ≡ fault → NeverMemory is_sixth (unless_found {X = Unit {0}} fault (skips.Form n) (Ok tt))
      by_fault None is = ok_tells is_sixth tt
      by_fault (Some number) is = err_tells (Unit {0}) is_sixth (skips.Form n number) (fault_not n (original_at (format skip_causes) (files n)) region number is)

  fit_not : (n : List ℕ) (ws : Walked) → NeverMemory is_sixth (fit (fault_at region files) n ws)
  unfolding fit all_formed
  fit_not n ws = unless_tells is_sixth (is_static (kind_of ws)) (skips.Static n) _ refl
      (then_tells is_sixth (run (λ u m. formed (fault_at region files) m) tt (names ws)) (λ u. if is_program (kind_of ws) then check_links ws else Ok tt)
      (run_tells is_sixth (λ u m. formed (fault_at region files) m) tt (names ws) (λ u m. formed_not m))
      (λ u. either_tells is_sixth (is_program (kind_of ws)) (check_links ws) (Ok tt) (linked_not ws) (ok_tells is_sixth tt)))

  skip_not : (n : List ℕ) → NeverMemory is_sixth (skip_of files region n)
  unfolding skip_of
  skip_not n = then_tells is_sixth (walking.walk of_walk (objects (format skip_causes) files) n) (fit (fault_at region files) n) (walk_tells of_walk is_sixth (objects (format skip_causes) files) n (λ e t. walk_not e) (λ m. object_not m (files m))) (fit_not n)

-- ---- a row

module _ (files : base.Files) (p : Prelinking) (plan : RunPlan) (run : HasPlan files p plan) (n : List ℕ) where
  abbrev old : Files
  old = named files

  abbrev after : Option Marked
  after = marked_at (next old p.region plan n)

  abbrev now : Bool
  now = is_current old p.region plan.slots n

  -- what is said of the name
  abbrev state : RowState
  state = state_after old p.region plan n

  state_is : (r : Result (Unit {0}) Skip) (m : Option Marked) → skip_of old p.region n ≡ r → after ≡ m → state ≡ state_by n now r m
  unfolding state_after
  state_is r m skip made =
      ap (λ (s : Result (Unit {0}) Skip). state_by n now s after) skip ∙ ap (λ (o : Option Marked). state_by n now r o) made

  marked_says : (current : Bool) (m : Marked) → SaysPrelinked (state_of current m)
  marked_says current m = by_kind_of (is_library m.object.kind)
    where
      by_kind_of : (b : Bool) → SaysPrelinked (if b then states.Library current m.slot m.stamp else states.Program current (length m.conflicts))
      by_kind_of true = tt
      by_kind_of false = tt

  -- a candidate
  may_say : is_candidate old p.region n ≡ true → skip_of old p.region n ≡ Ok tt → (m : Option Marked) → after ≡ m → SaysPrelinked state ⊎ SaysTooLong old p.region plan (row_of old p.region plan n)
  may_say candidate skip (Some m) made = inl (subst SaysPrelinked (sym (state_is (Ok tt) (Some m) skip made)) (marked_says now m))
  may_say candidate skip None made = inr (record { says = state_is (Ok tt) None skip made; is = candidates_marked files p plan run n candidate made })

  no_cause : (r : Result (Unit {0}) Skip) → is_ok r ≡ true → r ≡ Ok tt
  no_cause (Ok u) e = refl
  no_cause (Err cause) e = absurd (false≢true e)

  candidate_says : is_candidate old p.region n ≡ true → SaysPrelinked state ⊎ SaysTooLong old p.region plan (row_of old p.region plan n)
  candidate_says candidate = may_say candidate (no_cause (skip_of old p.region n) (sym (skip_is old p.region n) ∙ candidate)) after refl

  -- who is said to have the sixth form fault
  not_sixth : (cause : Skip) (m : List ℕ) → is_sixth cause ≡ false → states.Skipped cause ≡ states.Skipped (skips.Form m 6) → ⊥
  not_sixth cause m other same =
      let is : cause ≡ skips.Form m 6 = cc in
      false≢true (sym other ∙ ap is_sixth is)

  says_none : (s : RowState) (m : List ℕ) → SaysPrelinked s → s ≡ states.Skipped (skips.Form m 6) → ⊥
  says_none (states.Library current slot stamp) m says is = absurd cc
  says_none (states.Program current conflicts) m says is = absurd cc
  says_none (states.Skipped cause) m says is = absurd says

  sixth_says : (m : List ℕ) → state ≡ states.Skipped (skips.Form m 6) → SaysTooLong old p.region plan (row_of old p.region plan n)
  unfolding NeverMemory
  sixth_says m is = by_skip (skip_of old p.region n) refl (skip_not old p.region n)
    where
      by_skip : (r : Result (Unit {0}) Skip) → skip_of old p.region n ≡ r → NeverMemory is_sixth r → SaysTooLong old p.region plan (row_of old p.region plan n)
      by_skip (Err cause) skip other = absurd (not_sixth cause m other (sym (state_is (Err cause) after skip refl) ∙ is))
      by_skip (Ok u) skip other = elim (candidate_says (skip_is old p.region n ∙ ap (λ (r : Result (Unit {0}) Skip). is_ok r) skip)) [
        | inl says ↦ absurd (says_none state m says is)
        | inr long ↦ long
      ]

  pub row_tells : TellsName old p.region plan (row_of old p.region plan n)
  row_tells = record { candidate = candidate_says; sixth = sixth_says }

-- ---- the whole

pub reports_tell : ReportsTellNames
unfolding report
reports_tell files p told bytes asked e =
    let is = all_told files p told e in
    let made = is.1 in
    let spelled = read_spelled files made.old made.cached (λ file at. bytes cache file at) made.found made.says in
    let run : HasPlan files p made.plan = record { bytes = bytes; asked = asked; cached = made.cached; spelled = spelled; is = made.is_planned } in
    let rows : told.rows ≡ map (row_of (named files) p.region made.plan) (valid_names files) = ap (λ (r : Report). r.rows) made.tells in
    record {
      plan = made.plan;
      planned = run;
      each = subst (All (TellsName (named files) p.region made.plan)) (sym rows)
          (All-map (TellsName (named files) p.region made.plan) (row_of (named files) p.region made.plan) (valid_names files) (λ k d lt. row_tells files p made.plan run (get_or (valid_names files) k d)));
    }
