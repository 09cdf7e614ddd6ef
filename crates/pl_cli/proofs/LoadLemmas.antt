-- What `--load` finds, file by file.
use Rattle.std.proofs.Common.{◌≡◌, ◌<◌, ℕ, ◌+◌, List, Bool, true, false, Option, Some, None, refl, sym, ap, ◌∙◌}
use Rattle.std.specs.Prelude.{Result, Ok, Err, MatchBool, ⊤, not, if◌then◌else◌}
use Rattle.pl_base.specs.Answers.{unless, because, ◌>>=◌, Answers}
use Rattle.pl_base.specs.Files.{Files}
use Rattle.pl_base.specs.Names.{is_valid_name}
use Rattle.pl_elf.specs.declared.range.Range.{Range}
use Rattle.pl_folder.specs.Calls.{Calls}
use Rattle.pl_folder.specs.Seen.{Seen, IsFolder, Done}
use Rattle.pl_scope.specs.Walk as walk
use Rattle.pl_scope.specs.Walking.{Walking, wants}
use Rattle.pl_scope.specs.declared.constants.TheConstants.{MAX_MEMBERS}
use Rattle.pl_scope.specs.declared.fault.WalkFault.{WalkFault}
use Rattle.pl_loader.specs.Faults.{is_memory, of_walk}
use Rattle.pl_loader.specs.Loading.{Loading}
use Rattle.pl_loader.specs.Started as start
use Rattle.pl_loader.specs.Walk.{IsUnderWay, entered, file_of, files, give, of_wanted, read_in, taken, walk_fault, with_file}
use Rattle.pl_loader.specs.declared.object_file.ObjectFile.{ObjectFile}
use Rattle.pl_object.specs.declared.object.Object.{Object}
use Rattle.pl_loader.specs.declared.fault.LoadFault.{LoadFault}
use Rattle.pl_loader.specs.declared.fault.LoadFault.TheVariants.{NotThere}
use Rattle.pl_loader.proofs.LoadLaws.{load_ends, load_lacks, load_stops}
use Rattle.pl_words.specs.declared.command.Policy.{Policy}
use Rattle.pl_texts.specs.declared.cause.Cause.{Cause}
use Rattle.pl_texts.specs.declared.cause.Cause.TheVariants as causes
use Rattle.pl_texts.specs.declared.stop.Stop.{Stop}
use Rattle.pl_texts.specs.declared.stop.Stop.TheVariants as stops
use Rattle.pl_cli.specs.Came.{HasGiven, HasLoaded}
use Rattle.pl_texts.specs.Files.{file_in}
use Rattle.pl_loader.specs.Given.{given_from}
use Rattle.pl_cli.specs.Load.{choice, given_file, load_result, loaded_files, loaded_object, loading_file}
use Rattle.pl_texts.specs.Looks.{stepped, takes}
use Rattle.pl_texts.specs.Stops.{of_load_fault}
use Rattle.pl_texts.proofs.CallLemmas.{asked_all}
use Rattle.pl_texts.proofs.LookLemmas.{AllBut, left_from, step_lacks}
use Rattle.pl_texts.proofs.StopLemmas.{stops_as}
use Rattle.pl_texts.proofs.TakeLemmas.{invalid_file}
use Rattle.pl_texts.proofs.WalkLemmas.{goes_on, not_begun, refused_name, stopped_here}

-- ---- the step of the walk, as the load makes it

of_walked : (make : Walking → Loading) → ((w : Walking) → (make w).order ≡ w) → (r : Result Walking WalkFault)
    → because (walk_fault causes.Load) r ≡ because causes.Load ((because of_walk r >>= λ order. Ok (make order)) >>= λ m. Ok m.order)
of_walked make same (Ok w) = ap Ok (sym (same w))
of_walked make same (Err e) = refl

of_files : (r : Result ObjectFile LoadFault) (step : Object → Result Walking WalkFault) (make : ObjectFile → Walking → Loading) → ((f : ObjectFile) (w : Walking) → (make f w).order ≡ w)
    → ((because causes.Load r >>= λ f. Ok f.object) >>= λ o. because (walk_fault causes.Load) (step o)) ≡ because causes.Load ((r >>= λ f. because of_walk (step f.object) >>= λ order. Ok (make f order)) >>= λ m. Ok m.order)
of_files (Ok f) step make same = of_walked (make f) (same f) (step f.object)
of_files (Err e) step make same = refl

module _ (l : Loading) (n bytes : List ℕ) where
  step_is : (policy : Policy) (files : Files) (name : List ℕ) → wants l.order ≡ Some n → l.name ≡ name → loading_file policy files name n ≡ Ok bytes → stepped (loaded_object policy files name) l.order n ≡ because causes.Load (give l (Some bytes) >>= λ m. Ok m.order)
  unfolding taken entered file_of
  step_is policy files name is named there =
      let looked : stepped (loaded_object policy files name) l.order n ≡ ((because causes.Load (read_in name n bytes) >>= λ f. Ok f.object) >>= λ o. because (walk_fault causes.Load) (walk.entered l.order n o)) =
      ap (λ (r : Result (List ℕ) Cause). ((r >>= λ b. because causes.Load (read_in name n b)) >>= λ f. Ok f.object) >>= λ o. because (walk_fault causes.Load) (walk.entered l.order n o)) there in
      let same : (read_in name n bytes >>= λ f. because of_walk (walk.entered l.order n f.object) >>= λ order. Ok (with_file l order f)) ≡ give l (Some bytes) =
      ap (λ (m : List ℕ). read_in m n bytes >>= λ f. because of_walk (walk.entered l.order n f.object) >>= λ order. Ok (with_file l order f)) (sym named)
      ∙ ap (λ (wanted : Option (List ℕ)). read_in l.name n bytes >>= λ f. because of_walk (walk.of_wanted l.order f.object wanted) >>= λ order. Ok (with_file l order f)) (sym is)
      ∙ ap (λ (wanted : Option (List ℕ)). of_wanted l (Some bytes) wanted) (sym is) in
      looked ∙ of_files (read_in name n bytes) (walk.entered l.order n) (λ f order. with_file l order f) (λ f order. refl) ∙ ap (λ (r : Result Loading LoadFault). because causes.Load (r >>= λ m. Ok m.order)) same

  pub step_goes_on : (policy : Policy) (files : Files) (name : List ℕ) (m : Loading) → wants l.order ≡ Some n → l.name ≡ name → loading_file policy files name n ≡ Ok bytes → give l (Some bytes) ≡ Ok m → stepped (loaded_object policy files name) l.order n ≡ Ok m.order
  step_goes_on policy files name m is named there went =
      step_is policy files name is named there ∙ ap (λ (r : Result Loading LoadFault). because causes.Load (r >>= λ k. Ok k.order)) went

  pub step_stops : (policy : Policy) (files : Files) (name : List ℕ) (f : LoadFault) → wants l.order ≡ Some n → l.name ≡ name → loading_file policy files name n ≡ Ok bytes → give l (Some bytes) ≡ Err f → stepped (loaded_object policy files name) l.order n ≡ Err (causes.Load f)
  step_stops policy files name f is named there stopped =
      step_is policy files name is named there ∙ ap (λ (r : Result Loading LoadFault). because causes.Load (r >>= λ k. Ok k.order)) stopped

-- ---- the start is what the files of the walk start from

then_unless : {X Y : Type 0} (test : Bool) (fault : Cause) (r : Result X Cause) (f : X → Result Y Cause) → unless test fault (r >>= f) ≡ (unless test fault r >>= f)
then_unless true fault r f = refl
then_unless false fault r f = refl

pub loaded_is : (policy : Policy) (busy : Option Range) (fs : Files) (name : List ℕ) → load_result policy busy fs name ≡ (loaded_files policy fs name >>= λ all. because causes.Load (start.started (choice policy) busy all))
unfolding load_result loaded_files start.load
loaded_is policy busy fs name = then_unless (not (is_valid_name name)) causes.BadName (files causes.Load (loading_file policy fs name) name) (λ all. because causes.Load (start.started (choice policy) busy all))

-- ---- the files of the walk

pub lacks_file : (policy : Policy) (fs : Files) (name n : List ℕ) (cause : Cause) → file_in fs n ≡ Err cause → loading_file policy fs name n ≡ Err cause
unfolding loading_file given_from
lacks_file policy fs name n cause lacks = ap (λ (r : Result (List ℕ) Cause). r >>= given_file policy name n) lacks

lacks_object : (policy : Policy) (fs : Files) (name n : List ℕ) (cause : Cause) → loading_file policy fs name n ≡ Err cause → loaded_object policy fs name n ≡ Err cause
unfolding file_of
lacks_object policy fs name n cause lacks = ap (λ (r : Result (List ℕ) Cause). (r >>= λ bytes. because causes.Load (read_in name n bytes)) >>= λ f. Ok f.object) lacks

module _ (policy : Policy) (a : Seen) (name : List ℕ) where
  -- of a name that is not valid
  pub bad_name : {F : Type 0} → is_valid_name name ≡ false → HasLoaded {F = F} policy name (Err (stops.Cause causes.BadName)) a a
  unfolding loaded_files
  bad_name invalid =
      refused_name (loaded_object policy a.files name) name (loaded_files policy a.files name) (λ l. l.walk.files) a (causes.Load (NotThere name)) invalid (lacks_object policy a.files name name (causes.Load (NotThere name)) (lacks_file policy a.files name name (causes.Load (NotThere name)) (invalid_file a.files name invalid)))
      (ap (λ (b : Bool). unless (not b) causes.BadName (files causes.Load (loading_file policy a.files name) name)) invalid)

  pub not_begun_load : {F : Type 0} → HasLoaded {F = F} policy name (Err stops.NoMemory) a a
  not_begun_load = not_begun (loaded_object policy a.files name) name (loaded_files policy a.files name) (λ l. l.walk.files) a

module _ (policy : Policy) (a : Seen) (name : List ℕ) (valid : is_valid_name name ≡ true) where
  valid_files : loaded_files policy a.files name ≡ files causes.Load (loading_file policy a.files name) name
  unfolding loaded_files
  valid_files = ap (λ (b : Bool). unless (not b) causes.BadName (files causes.Load (loading_file policy a.files name) name)) valid

  -- all files were given
  pub loaded_ends : (l : Loading) → wants l.order ≡ None → IsUnderWay causes.Load (loading_file policy a.files name) name l → loaded_files policy a.files name ≡ Ok l.files
  loaded_ends l is way = valid_files ∙ load_ends causes.Load (loading_file policy a.files name) name l is way

  -- a is the folder before, and b where the load wants n
  module _ (folder : IsFolder a) (l : Loading) (n : List ℕ) (is : wants l.order ≡ Some n) (below : l.order.given < MAX_MEMBERS) (way : a.tells ≡ true → IsUnderWay causes.Load (loading_file policy a.files name) name l) (b c : Seen)
      (so_far : Calls Done (AllBut (left_from (loaded_object policy a.files name) l.order) (takes (loaded_object policy a.files name) name)) a b) where
    here : (r : Result (List ℕ) Cause) → ((is_valid_name n ≡ true → b.tells ≡ true) → loading_file policy b.files name n ≡ r) → a.tells ≡ true → loading_file policy a.files name n ≡ r
    here r means told = ap (λ (fs : Files). loading_file policy fs name n) (sym (so_far.files told)) ∙ means (λ _. so_far.tells ∙ told)

    -- the wanted file was not taken
    pub stopped_in_folder : {F : Type 0} (stop : Stop) → HasGiven policy name n (Err stop) b c → HasLoaded {F = F} policy name (Err stop) a c
    stopped_in_folder stop took =
        stopped_here (loaded_object policy a.files name) name valid l.order n is below folder so_far (loaded_files policy a.files name) (λ l. l.walk.files) stop
        (stops_as _ _ _ _ stop (λ cause told lacks. step_lacks (loaded_object policy a.files name) l.order n cause (lacks_object policy a.files name n cause (here (Err cause) lacks told))) took.means)
        (stops_as _ _ _ _ stop (λ cause told lacks. valid_files ∙ load_lacks causes.Load (loading_file policy a.files name) name n l cause is (here (Err cause) lacks told) (way told)) took.means)
        took.reads took.calls

    module _ (bytes : List ℕ) (took : HasGiven policy name n (Ok bytes) b c) where
      file_is : a.tells ≡ true → loading_file policy a.files name n ≡ Ok bytes
      file_is = here (Ok bytes) took.means

      -- it was given to the load
      pub load_goes : (m : Loading) → m.order.given ≡ l.order.given + 1 → give l (Some bytes) ≡ Ok m → Calls Done (AllBut (left_from (loaded_object policy a.files name) m.order) (takes (loaded_object policy a.files name) name)) a c
      load_goes m more went = goes_on (loaded_object policy a.files name) name valid l.order n is below folder so_far m.order more
          (λ told. step_goes_on l n bytes policy a.files name m is (way told).named (file_is told) went) took.calls

      -- it is refused, or memory lacked
      pub stopped_at_file : {F : Type 0} (fault : LoadFault) → Answers is_memory (Err fault) (give l (Some bytes)) → HasLoaded {F = F} policy name (Err (of_load_fault fault)) a c
      stopped_at_file {F = F} fault stop =
          elim (is_memory fault) as (λ m. MatchBool m ⊤ (give l (Some bytes) ≡ Err fault) → HasLoaded {F = F} policy name (Err (if m then stops.NoMemory else stops.Cause (causes.Load fault))) a c) [
            | true ↦ λ _. stopped_here (loaded_object policy a.files name) name valid l.order n is below folder so_far (loaded_files policy a.files name) (λ l. l.walk.files) stops.NoMemory tt tt refl (asked_all _ took.calls)
            | false ↦ λ stopped. stopped_here (loaded_object policy a.files name) name valid l.order n is below folder so_far (loaded_files policy a.files name) (λ l. l.walk.files) (stops.Cause (causes.Load fault))
                (λ told. step_stops l n bytes policy a.files name fault is (way told).named (file_is told) stopped)
                (λ told. valid_files ∙ load_stops causes.Load (loading_file policy a.files name) name n (Some bytes) l fault is (file_is told) stopped (way told)) refl took.calls
          ] stop
