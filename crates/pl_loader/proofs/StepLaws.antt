-- One object more of a walk, and one file more of a load.
use Rattle.std.proofs.Common.{◌≡◌, ℕ, ◌+◌, ◌<◌, ◌≤◌, true, false, not, ◌&&◌, List, [], ◌∷◌, ◌++◌, Option, Some, None, Ok, refl, sym, ap, ◌∙◌, arith, length, drop, inl, inr}
use Rattle.std.specs.Prelude.{nat_lt, nat_le, slice_get}
use Rattle.std.specs.List.{All, list_any}
use Rattle.std.specs.Str.{bytes_eq}
use Rattle.std.proofs.lemmas.Bool.{cases_Bool, leb-false, lt-ltb, and_from, false≢true}
use Rattle.std.proofs.lemmas.List.{length_push}
use Rattle.std.proofs.lemmas.List.Elements.{All-nil, All-push}
use Rattle.std.proofs.lemmas.Option.{slice_get_within}
use Rattle.pl_base.specs.Answers.{◌>>=◌, unless_found}
use Rattle.pl_base.specs.Each.{run}
use Rattle.pl_base.proofs.AnswerLaws.{bind_ok, ok_same, unless_ok}
use Rattle.pl_object.specs.declared.object.Object.{Object}
use Rattle.pl_elf.specs.Kinds.{is_library}
use Rattle.pl_scope.specs.Walking.{Walking, IsWalking, wants}
use Rattle.pl_scope.specs.Walk.{added, checked, needed_program, program_name, entered, next, of_wanted}
use Rattle.pl_scope.specs.Walk as walk
use Rattle.pl_scope.specs.declared.constants.TheConstants.{MAX_MEMBERS}
use Rattle.pl_scope.proofs.NameLaws.{eq_refl}
use Rattle.pl_scope.specs.declared.fault.WalkFault.TheVariants.{TooMany, NeededIsProgram}
use Rattle.pl_loader.specs.Loading.{Loading, IsRead, IsLibrary, IsLoadable, BeginsWithProgram, AreFiles, IsLoading}
use Rattle.pl_loader.specs.Walk.{with_file}
use Rattle.pl_loader.specs.declared.object_file.ObjectFile.{ObjectFile}

-- ---- names of the walk

added_few : (names new : List (List ℕ)) (n : List ℕ) → length names ≤ MAX_MEMBERS → added names n ≡ Ok new → (length names ≤ length new) × (length new ≤ MAX_MEMBERS)
unfolding added
added_few names new n le is =
    elim (cases_Bool (list_any (λ m. bytes_eq m n) names)) [
      | inl hit ↦
          let same : names ≡ new = ok_same names new (rw hit at is) in
          rw (← same) (omega arith, le)
      | inr miss ↦
          let p = unless_ok (nat_le MAX_MEMBERS (length names)) (TooMany n) (Ok (names ++ n ∷ [])) new (rw miss at is) in
          let same : names ++ n ∷ [] ≡ new = ok_same (names ++ n ∷ []) new p.1 in
          let room = leb-false MAX_MEMBERS (length names) p.0 in
          let size = length_push names n in
          rw (← same) (omega arith, omega arith)
    ]

run_few : (names new needed : List (List ℕ)) → length names ≤ MAX_MEMBERS → run added names needed ≡ Ok new → (length names ≤ length new) × (length new ≤ MAX_MEMBERS)
unfolding run
run_few names new [] le is = let same : names ≡ new = ok_same names new is in rw (← same) (omega arith, le)
run_few names new (n ∷ ns) le is =
    let p = bind_ok (added names n) (λ t. run added t ns) new is in
    let one = added_few names p.0 n le p.1 in
    let rest = run_few p.0 new ns one.1 p.2 in
    (omega arith, rest.1)

-- the first name stays the first
first_added : (names new : List (List ℕ)) (n first : List ℕ) → slice_get names 0 ≡ Some first → added names n ≡ Ok new → slice_get new 0 ≡ Some first
unfolding added
first_added [] new n first begins is = absurd (none_first first begins)
  where
    none_first : (x : List ℕ) → None ≡ Some x → ⊥
    none_first x e = cc
first_added (m ∷ ms) new n first begins is =
    elim (cases_Bool (list_any (λ k. bytes_eq k n) (m ∷ ms))) [
      | inl hit ↦ let same : m ∷ ms ≡ new = ok_same (m ∷ ms) new (rw hit at is) in ap (λ (ns : List (List ℕ)). slice_get ns 0) (sym same) ∙ begins
      | inr miss ↦
          let p = unless_ok (nat_le MAX_MEMBERS (length (m ∷ ms))) (TooMany n) (Ok ((m ∷ ms) ++ n ∷ [])) new (rw miss at is) in
          let same : (m ∷ ms) ++ n ∷ [] ≡ new = ok_same ((m ∷ ms) ++ n ∷ []) new p.1 in
          ap (λ (ns : List (List ℕ)). slice_get ns 0) (sym same) ∙ begins
    ]

first_run : (names new needed : List (List ℕ)) (first : List ℕ) → slice_get names 0 ≡ Some first → run added names needed ≡ Ok new → slice_get new 0 ≡ Some first
unfolding run
first_run names new [] first begins is = let same : names ≡ new = ok_same names new is in ap (λ (ns : List (List ℕ)). slice_get ns 0) (sym same) ∙ begins
first_run names new (n ∷ ns) first begins is =
    let p = bind_ok (added names n) (λ t. run added t ns) new is in
    first_run p.0 new ns first (first_added names p.0 n first begins p.1) p.2

-- ---- one object more

-- the wanted name's object passed the walk's checks, and its needed names were appended
record IsStep (w v : Walking) (n : List ℕ) (o : Object) : Type 0 where
  pub names : List (List ℕ)
  pub unit : Unit {0}
  pub checks : checked w n o ≡ Ok unit
  pub adds : run added w.names o.needed ≡ Ok names
  pub is : v ≡ next w o names

give_is : (w v : Walking) (n : List ℕ) (o : Object) → wants w ≡ Some n → walk.give w o ≡ Ok v → IsStep w v n o
unfolding entered
give_is w v n o is given =
    let entry : entered w n o ≡ Ok v = sym (ap (of_wanted w o) is) ∙ given in
    let p = bind_ok (checked w n o) (λ _. run added w.names o.needed >>= λ all. Ok (next w o all)) v entry in
    let q = bind_ok (run added w.names o.needed) (λ all. Ok (next w o all)) v p.2 in
    record { names = q.0; unit = p.0; checks = p.1; adds = q.1; is = sym (ok_same (next w o q.0) v q.2) }

pub give_walking : (w v : Walking) (n : List ℕ) (o : Object) → IsWalking w → wants w ≡ Some n → walk.give w o ≡ Ok v → IsWalking v
give_walking w v n o walking is given =
    let step = give_is w v n o is given in
    let few = run_few w.names step.names o.needed walking.few step.adds in
    let within = slice_get_within w.names w.given n is in
    rw step.is (record { within = omega arith; few = few.1 })

pub give_begins : (w v : Walking) (n first : List ℕ) (o : Object) → slice_get w.names 0 ≡ Some first → wants w ≡ Some n → walk.give w o ≡ Ok v → slice_get v.names 0 ≡ Some first
give_begins w v n first o begins is given =
    let step = give_is w v n o is given in
    ap (λ (x : Walking). slice_get x.names 0) step.is ∙ first_run w.names step.names o.needed first begins step.adds

-- an object after the first is a library
pub give_library : (w v : Walking) (n : List ℕ) (o : Object) → wants w ≡ Some n → walk.give w o ≡ Ok v → 0 < w.given → is_library o.kind ≡ true
unfolding checked
give_library w v n o is given lt =
    let step = give_is w v n o is given in
    let p = unless_ok (nat_lt 0 w.given && not (is_library o.kind)) (NeededIsProgram n) (unless_found (needed_program (program_name w) o.needed) NeededIsProgram (Ok tt)) step.unit step.checks in
    elim (cases_Bool (is_library o.kind)) [
      | inl library ↦ library
      | inr other ↦
          let both : (nat_lt 0 w.given && not (is_library o.kind)) ≡ true = and_from (nat_lt 0 w.given) (not (is_library o.kind)) (lt-ltb 0 w.given lt) (ap not other) in
          absurd (false≢true (sym p.0 ∙ both))
    ]

-- ---- one file more

libraries_more : (fs : List ObjectFile) (f : ObjectFile) → All IsLibrary (drop 1 fs) → (0 < length fs → IsLibrary f) → All IsLibrary (drop 1 (fs ++ f ∷ []))
libraries_more [] f all last = All-nil IsLibrary
libraries_more (g ∷ fs) f all last = All-push IsLibrary fs f all (last (omega arith))

program_more : (fs : List ObjectFile) (f : ObjectFile) → BeginsWithProgram fs → (length fs ≡ 0 → is_library f.object.kind ≡ false) → BeginsWithProgram (fs ++ f ∷ [])
program_more [] f is first = first refl
program_more (g ∷ fs) f is first = is

pub files_more : (fs : List ObjectFile) (f : ObjectFile) → AreFiles fs → IsRead f → (length fs ≡ 0 → is_library f.object.kind ≡ false) → (0 < length fs → IsLibrary f) → AreFiles (fs ++ f ∷ [])
files_more fs f are read first last = record {
  read = All-push IsRead fs f are.read read;
  program = program_more fs f are.program first;
  libraries = libraries_more fs f are.libraries last;
}

-- the first file has the name that is loaded, so it is no library
first_program : (l : Loading) (f : ObjectFile) → IsLoading l → wants l.order ≡ Some f.name → IsLoadable l.name f → length l.files ≡ 0 → is_library f.object.kind ≡ false
first_program l f loading is loadable none =
    let given : l.order.given ≡ 0 = sym loading.given ∙ none in
    let names : ◌≡◌ {A = Option (List ℕ)} (Some f.name) (Some l.name) = sym is ∙ ap (slice_get l.order.names) given ∙ loading.begins in
    let name : f.name ≡ l.name = cc in
    let same : bytes_eq f.name l.name ≡ true = ap (λ (n : List ℕ). bytes_eq n l.name) name ∙ eq_refl l.name in
    elim (cases_Bool (is_library f.object.kind)) [
      | inl library ↦ absurd (false≢true (sym loadable ∙ and_from (bytes_eq f.name l.name) (is_library f.object.kind) same library))
      | inr other ↦ other
    ]

pub loading_more : (l : Loading) (order : Walking) (f : ObjectFile) → IsLoading l → wants l.order ≡ Some f.name → IsRead f → IsLoadable l.name f → walk.give l.order f.object ≡ Ok order → order.given ≡ l.order.given + 1 → IsLoading (with_file l order f)
loading_more l order f loading is read loadable given count = record {
  walking = give_walking l.order order f.name f.object loading.walking is given;
  begins = give_begins l.order order f.name l.name f.object loading.begins is given;
  given = let size = length_push l.files f in let before = loading.given in omega arith;
  files = files_more l.files f loading.files read (first_program l f loading is loadable) (λ lt. give_library l.order order f.name f.object is given (let before = loading.given in omega arith));
}
