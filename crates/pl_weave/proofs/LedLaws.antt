-- Where the files that a loader saw lead it.
use Rattle.std.proofs.Common.{◌≡◌, ◌∙◌, ℕ, true, false, List, [], ◌∷◌, ◌++◌, Option, Some, None, Result, Ok, Err, refl, sym, ap, subst, inl, inr}
use Rattle.std.specs.Prelude.{MatchBool, ⊤}
use Rattle.pl_base.specs.Answers.{◌>>=◌, Answers, because}
use Rattle.pl_base.proofs.AnswerLaws.{bind_err, bind_ok}
use Rattle.pl_elf.specs.declared.range.Range.{Range}
use Rattle.pl_loader.specs.Faults.{is_memory}
use Rattle.pl_loader.specs.Loading.{Loading}
use Rattle.pl_loader.specs.Started.{Start, load, started}
use Rattle.pl_loader.specs.Walk.{IsFile, IsUnderWay, begun, files, give, of_wanted, taken}
use Rattle.pl_loader.specs.declared.fault.LoadFault.{LoadFault}
use Rattle.pl_loader.specs.declared.fault.LoadFault.TheVariants.{NotThere}
use Rattle.pl_loader.specs.declared.object_file.ObjectFile.{ObjectFile}
use Rattle.pl_loader.proofs.LoadLaws.{load_begins, load_ends, load_goes_on, load_lacks, load_stops}
use Rattle.pl_place.specs.Policy.{Choice}
use Rattle.pl_scope.specs.Walking.{wants}
use Rattle.pl_loader.specs.Given.{given_from, given_of}
use Rattle.pl_weave.specs.Laws.{EventsLead, FinishedAreLoads}
use Rattle.pl_weave.specs.Opening.{HasSeen, IsLed, Leads, LeadsOn, Opened, came_to, ended, files_by, led_to, seen_of, taken_as, wanted_by}
use Rattle.pl_weave.specs.declared.seen.Seen.{Seen}

-- ---- one file more

-- the name that a walk wants is given its file
given_is : (walk : Loading) (name : List ℕ) (file : Option (List ℕ)) → wants walk.order ≡ Some name → give walk file ≡ taken walk name file
given_is walk name file is = ap (of_wanted walk file) is

ok_is : (a b : Loading) → ◌≡◌ {A = Result Loading LoadFault} (Ok a) (Ok b) → a ≡ b
ok_is a b e = cc

ok_not : (a : Loading) (fault : LoadFault) → ◌≡◌ {A = Result Loading LoadFault} (Ok a) (Err fault) → ⊥
ok_not a fault e = cc

err_is : (f g : LoadFault) → ◌≡◌ {A = Result Loading LoadFault} (Err f) (Err g) → f ≡ g
err_is f g e = cc

some_not : (n : List ℕ) → ◌≡◌ {A = Option (List ℕ)} None (Some n) → ⊥
some_not n e = cc

leads_once : (choose : Choice) (walk : Loading) (s : Seen) (came : Result Loading LoadFault) → taken_as choose walk s.name s.file ≡ came → LeadsOn (λ next. Leads choose next [] came) (taken_as choose walk s.name s.file) [] came
leads_once choose walk s (Ok next) went = subst (λ (r : Result Loading LoadFault). LeadsOn (λ w. Leads choose w [] (Ok next)) r [] (Ok next)) (sym went) refl
leads_once choose walk s (Err fault) went = subst (λ (r : Result Loading LoadFault). LeadsOn (λ w. Leads choose w [] (Err fault)) r [] (Err fault)) (sym went) (refl, refl)

leads_more : (choose : Choice) (walk last : Loading) (seen : List Seen) (s : Seen) → Leads choose walk seen (Ok last) → wants last.order ≡ Some s.name → Leads choose walk (seen ++ s ∷ []) (taken_as choose last s.name s.file)
leads_more choose walk last [] s led is =
    let same : last ≡ walk = ok_is last walk led in
    subst (λ (w : Loading). Leads choose w (s ∷ []) (taken_as choose last s.name s.file)) same (is, leads_once choose last s (taken_as choose last s.name s.file) refl)
leads_more choose walk last (first ∷ seen) s led is = (led.0, on (λ next more. leads_more choose next last seen s more is) (taken_as choose walk first.name first.file) led.1)
  where
    on : ((next : Loading) → Leads choose next seen (Ok last) → Leads choose next (seen ++ s ∷ []) (taken_as choose last s.name s.file)) → (r : Result Loading LoadFault)
        → LeadsOn (λ next. Leads choose next seen (Ok last)) r seen (Ok last) → LeadsOn (λ next. Leads choose next (seen ++ s ∷ []) (taken_as choose last s.name s.file)) r (seen ++ s ∷ []) (taken_as choose last s.name s.file)
    on further (Ok next) more = further next more
    on further (Err fault) more = absurd (ok_not last fault more.1)

leads_wanted : (choose : Choice) (name n : List ℕ) (file : Option (List ℕ)) (refused : Option LoadFault) (walk : Loading) (seen : List Seen) → Leads choose (begun name) seen (came_to refused walk) → wanted_by refused walk ≡ Some n
    → Leads choose (begun name) (seen ++ seen_of n file ∷ []) (taken_as choose walk n file)
leads_wanted choose name n file None walk seen led is = leads_more choose (begun name) walk seen (seen_of n file) led is
leads_wanted choose name n file (Some fault) walk seen led is = absurd (some_not n is)

led_to_is : {F : Type 0} (choose : Choice) (name : List ℕ) (o : Opened F) (s : Seen) (came : Result Loading LoadFault) → Leads choose (begun name) (o.seen ++ s ∷ []) came → IsLed choose name (led_to o s came)
led_to_is choose name o s (Ok walk) leads = leads
led_to_is choose name o s (Err fault) leads = leads

-- a loader that saw one file more
pub events_lead : {F : Type 0} → EventsLead F
events_lead choose o name n file led is = led_to_is choose name o (seen_of n file) (taken_as choose o.load.walk n file) (leads_wanted choose name n file o.fault o.load.walk o.seen led is)

-- ---- all files

some_bind : (r : Result (List ℕ) LoadFault) (next : Option (List ℕ) → Result Loading LoadFault) → ((r >>= λ file. Ok (Some file)) >>= next) ≡ (r >>= λ file. next (Some file))
some_bind (Ok file) next = refl
some_bind (Err fault) next = refl

-- the wanted name, n, is given what is loaded of its file
module _ {E : Type 0} (choose : Choice) (fault : LoadFault → E) (file : List ℕ → Result (List ℕ) E) (name n : List ℕ) (walk : Loading) (wanted_is : wants walk.order ≡ Some n) (way : IsUnderWay fault (given_from choose fault file name) name walk) where
  loading_is : (bytes : List ℕ) (r : Result (List ℕ) LoadFault) → file n ≡ Ok bytes → given_of choose walk.name n bytes ≡ r → given_from choose fault file name n ≡ because fault r
  unfolding given_from
  loading_is bytes r there is =
      ap (λ (found : Result (List ℕ) E). found >>= λ xs. because fault (given_of choose name n xs)) there
      ∙ ap (because fault) (ap (λ (m : List ℕ). given_of choose m n bytes) (sym way.named) ∙ is)

  lacks_is : (e : E) → file n ≡ Err e → given_from choose fault file name n ≡ Err e
  unfolding given_from
  lacks_is e lacks = ap (λ (found : Result (List ℕ) E). found >>= λ xs. because fault (given_of choose name n xs)) lacks

  goes_on : (seen : Option (List ℕ)) (next : Loading) → IsFile fault file n seen → taken_as choose walk n seen ≡ Ok next → IsUnderWay fault (given_from choose fault file name) name next
  goes_on None next there went = load_goes_on fault (given_from choose fault file name) name n None walk next wanted_is (lacks_is (fault (NotThere n)) there) (given_is walk n None wanted_is ∙ went) way
  goes_on (Some bytes) next there went =
      let a = bind_ok (given_of choose walk.name n bytes) (λ xs. taken walk n (Some xs)) next (sym (some_bind (given_of choose walk.name n bytes) (taken walk n)) ∙ went) in
      load_goes_on fault (given_from choose fault file name) name n (Some a.0) walk next wanted_is (loading_is bytes (Ok a.0) there a.1) (given_is walk n (Some a.0) wanted_is ∙ a.2) way

  stops : (seen : Option (List ℕ)) (f : LoadFault) → IsFile fault file n seen → taken_as choose walk n seen ≡ Err f → files fault (given_from choose fault file name) name ≡ Err (fault f)
  stops None f there went = load_stops fault (given_from choose fault file name) name n None walk f wanted_is (lacks_is (fault (NotThere n)) there) (given_is walk n None wanted_is ∙ went) way
  stops (Some bytes) f there went =
      elim (bind_err (given_of choose walk.name n bytes) (λ xs. taken walk n (Some xs)) f (sym (some_bind (given_of choose walk.name n bytes) (taken walk n)) ∙ went)) [
        | inl refused ↦ load_lacks fault (given_from choose fault file name) name n walk (fault f) wanted_is (loading_is bytes (Err f) there refused) way
        | inr later ↦ load_stops fault (given_from choose fault file name) name n (Some later.0) walk f wanted_is (loading_is bytes (Ok later.0) there later.1) (given_is walk n (Some later.0) wanted_is ∙ later.2) way
      ]

leads_files : {E : Type 0} (choose : Choice) (fault : LoadFault → E) (file : List ℕ → Result (List ℕ) E) (name : List ℕ) (walk : Loading) (seen : List Seen) (refused : Option LoadFault) (last : Loading) → Leads choose walk seen (came_to refused last)
    → IsUnderWay fault (given_from choose fault file name) name walk → HasSeen fault file seen → wanted_by refused last ≡ None → files fault (given_from choose fault file name) name ≡ because fault (files_by refused last)
leads_files choose fault file name walk [] None last led way has done =
    load_ends fault (given_from choose fault file name) name last done (subst (λ (w : Loading). IsUnderWay fault (given_from choose fault file name) name w) (sym (ok_is last walk led)) way)
leads_files choose fault file name walk [] (Some f) last led way has done = absurd (ok_not walk f (sym led))
leads_files {E = E} choose fault file name walk (s ∷ seen) refused last led way has done = on (λ next more under. leads_files choose fault file name next seen refused last more under has.1 done) (taken_as choose walk s.name s.file) refl led.1
  where
    stopped : (f : LoadFault) (r : Option LoadFault) → came_to r last ≡ Err f → ◌≡◌ {A = Result (List ObjectFile) E} (Err (fault f)) (because fault (files_by r last))
    stopped f None is = absurd (ok_not last f is)
    stopped f (Some g) is = ap (λ (h : LoadFault). Err (fault h)) (sym (err_is g f is))

    on : ((next : Loading) → Leads choose next seen (came_to refused last) → IsUnderWay fault (given_from choose fault file name) name next → files fault (given_from choose fault file name) name ≡ because fault (files_by refused last)) → (r : Result Loading LoadFault)
        → taken_as choose walk s.name s.file ≡ r → LeadsOn (λ next. Leads choose next seen (came_to refused last)) r seen (came_to refused last) → files fault (given_from choose fault file name) name ≡ because fault (files_by refused last)
    on further (Ok next) went more = further next more (goes_on choose fault file name s.name walk led.0 way s.file next has.0 went)
    on further (Err f) went more = stops choose fault file name s.name walk led.0 way s.file f has.0 went ∙ stopped f refused more.1

ends : {E : Type 0} (choose : Choice) (busy : Option Range) (fault : LoadFault → E) (refused : Option LoadFault) (last : Loading)
    → (because fault (files_by refused last) >>= λ all. because fault (started choose busy all)) ≡ because fault (files_by refused last >>= started choose busy)
ends choose busy fault None last = refl
ends choose busy fault (Some f) last = refl

pub finished_are_loads : {E F : Type 0} → FinishedAreLoads E F
unfolding load
finished_are_loads {E = E} o choose fault file name led done has =
    ap (λ (r : Result (List ObjectFile) E). r >>= λ all. because fault (started choose o.load.busy all))
    (leads_files choose fault file name (begun name) o.seen o.fault o.load.walk led (load_begins fault (given_from choose fault file name) name) has done)
    ∙ ends choose o.load.busy fault o.fault o.load.walk

-- a loader that was not refused
ended_by : (choose : Choice) (busy : Option Range) (refused : Option LoadFault) (walk : Loading) → refused ≡ None → (files_by refused walk >>= started choose busy) ≡ started choose busy walk.files
ended_by choose busy None walk is = refl
ended_by choose busy (Some f) walk is = absurd (fault_not f (sym is))
  where
    fault_not : (g : LoadFault) → ◌≡◌ {A = Option LoadFault} None (Some g) → ⊥
    fault_not g e = cc

pub unrefused : {F : Type 0} (choose : Choice) (o : Opened F) → o.fault ≡ None → ended choose o ≡ started choose o.load.busy o.load.walk.files
unrefused choose o is = ended_by choose o.load.busy o.fault o.load.walk is

-- ---- a fault that is told again

pub told_again : (f : LoadFault) → Answers {X = Start} is_memory (Err f) (Err f)
told_again f = elim (is_memory f) as (λ b. MatchBool b ⊤ (◌≡◌ {A = Result Start LoadFault} (Err f) (Err f))) [ true ↦ tt | false ↦ refl ]
