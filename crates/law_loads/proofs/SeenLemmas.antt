-- A loader sees each name once.
use Rattle.std.proofs.Common.{◌≡◌, ◌∙◌, ℕ, zero, suc, ◌+◌, ◌<◌, Bool, true, false, List, [], ◌∷◌, ◌++◌, get_or, Option, Some, None, Result, Ok, Err, refl, sym, ap, subst, arith, inl, inr}
use Rattle.std.specs.Prelude.{slice_get, if◌then◌else◌}
use Rattle.std.specs.List.{IsDistinct}
use Rattle.std.specs.Option.{ok_or}
use Rattle.std.specs.Str.{bytes_eq}
use Rattle.std.proofs.lemmas.Bool.{cases_Bool}
use Rattle.std.proofs.lemmas.Map.Keys.{IsDistinct-push, apart_from_distinct}
use Rattle.std.proofs.lemmas.Option.{get_or_from_slice_get, slice_get_within}
use Rattle.pl_base.specs.Answers.{because}
use Rattle.pl_base.specs.Each.{run}
use Rattle.pl_base.proofs.AnswerLaws.{because_ok, bind_ok, ok_same}
use Rattle.pl_loader.specs.Faults.{of_walk}
use Rattle.pl_loader.specs.Loading.{Loading}
use Rattle.pl_loader.specs.Walk.{IsFile, begun, entered, read_in, taken, with_file}
use Rattle.pl_loader.specs.declared.fault.LoadFault.{LoadFault}
use Rattle.pl_loader.specs.declared.fault.LoadFault.TheVariants.{NotThere}
use Rattle.law_loads.specs.Paths.{GivesFrom}
use Rattle.pl_place.specs.Policy.{Choice}
use Rattle.pl_scope.specs.Members.{has}
use Rattle.pl_scope.specs.Walk.{added}
use Rattle.pl_scope.specs.Walk as scope
use Rattle.pl_scope.specs.Walking.{Walking, wants}
use Rattle.pl_scope.proofs.NameLaws.{eq_flip, eq_laws, eq_refl, has_flip, same_name}
use Rattle.pl_scope.proofs.StepLaws.{added_cases, entered_is, grown}
use Rattle.pl_loader.specs.Given.{given}
use Rattle.pl_weave.specs.Opening.{HasSeen, Leads, LeadsOn, taken_as}
use Rattle.pl_weave.specs.declared.seen.Seen.{Seen}
use Rattle.law_loads.specs.Weaves.{AreSeen, SawFile, file_seen}

-- ---- the names of a walk stay apart

added_apart : (ns : List (List ℕ)) (n : List ℕ) (ms : List (List ℕ)) → added ns n ≡ Ok ms → IsDistinct bytes_eq ns → IsDistinct bytes_eq ms
unfolding added
added_apart ns n ms h d =
    elim (added_cases ns n ms h) [
      | inl c ↦ rw c.1 d
      | inr c ↦ elim (cases_Bool (has ns n)) [
        | inl t ↦ rw (← ok_same ns ms (rw t at h)) d
        | inr t ↦ rw c.1 (IsDistinct-push eq_laws ns n d (has_flip n ns ∙ t))
      ]
    ]

run_apart : (needed ns ms : List (List ℕ)) → run added ns needed ≡ Ok ms → IsDistinct bytes_eq ns → IsDistinct bytes_eq ms
unfolding run
run_apart [] ns ms h d = rw (← ok_same ns ms h) d
run_apart (x ∷ needed) ns ms h d =
    let a = bind_ok (added ns x) (λ ks. run added ks needed) ms h in
    run_apart needed a.0 ms a.2 (added_apart ns x a.0 a.1 d)

-- ---- one file more

-- the walk has its names where they were, and new ones behind them
record Took (walk next : Loading) : Type 0 where
  pub more : List (List ℕ)
  pub names : next.order.names ≡ walk.order.names ++ more
  pub given : next.order.given ≡ walk.order.given + 1
  pub apart : IsDistinct bytes_eq walk.order.names → IsDistinct bytes_eq next.order.names

not_taken : (fault : LoadFault) (next : Loading) → ◌≡◌ {A = Result Loading LoadFault} (Err fault) (Ok next) → ⊥
not_taken fault next e = cc

took : (walk next : Loading) (n : List ℕ) (file : Option (List ℕ)) → wants walk.order ≡ Some n → taken walk n file ≡ Ok next → Took walk next
unfolding taken entered
took walk next n None is went = absurd (not_taken (NotThere n) next went)
took walk next n (Some bytes) is went =
    let p = bind_ok (read_in walk.name n bytes) (entered walk) next went in
    let object = p.0.object in
    let q = bind_ok (because of_walk (scope.give walk.order object)) (λ order. Ok (with_file walk order p.0)) next p.2 in
    let given : scope.give walk.order object ≡ Ok q.0 = because_ok of_walk (scope.give walk.order object) q.0 q.1 in
    let en = entered_is walk.order n object q.0 (sym (ap (scope.of_wanted walk.order object) is) ∙ given) in
    let g = grown object.needed walk.order.names en.names en.runs in
    let order_is : next.order ≡ scope.next walk.order object en.names = sym (ap (λ (l : Loading). l.order) (ok_same (with_file walk q.0 p.0) next q.2)) ∙ en.is in
    record {
      more = g.more;
      names = ap (λ (w : Walking). w.names) order_is ∙ g.is;
      given = ap (λ (w : Walking). w.given) order_is;
      apart = λ d. subst (λ (w : Walking). IsDistinct bytes_eq w.names) (sym order_is) (run_apart object.needed walk.order.names en.names en.runs d);
    }

-- whatever is loaded of it
took_as : (choose : Choice) (walk next : Loading) (n : List ℕ) (file : Option (List ℕ)) → wants walk.order ≡ Some n → taken_as choose walk n file ≡ Ok next → Took walk next
took_as choose walk next n file is went =
    let a = bind_ok (given choose walk.name n file) (taken walk n) next went in
    took walk next n a.0 is a.2

still_at : (ns more : List (List ℕ)) (i : ℕ) (n : List ℕ) → slice_get ns i ≡ Some n → slice_get (ns ++ more) i ≡ Some n
still_at [] more i n at = let no : ⊥ = cc in absurd no
still_at (x ∷ ns) more zero n at = at
still_at (x ∷ ns) more (suc i) n at = still_at ns more i n at

-- ---- a name that was given its file is not wanted again

abbrev Unlike : List ℕ → List Seen → Type 0
Unlike n [] = Unit {0}
Unlike n (s ∷ seen) = (bytes_eq s.name n ≡ false) × Unlike n seen

unlike : (choose : Choice) (walk : Loading) (seen : List Seen) (came : Result Loading LoadFault) (i : ℕ) (n : List ℕ) → Leads choose walk seen came → IsDistinct bytes_eq walk.order.names → i < walk.order.given → slice_get walk.order.names i ≡ Some n → Unlike n seen
unlike choose walk [] came i n led apart lt at = tt
unlike choose walk (s ∷ seen) came i n led apart lt at =
    (other, on (λ next t more. unlike choose next seen came i n more (t.apart apart) (omega (arith, lt, t.given)) (subst (λ (ns : List (List ℕ)). slice_get ns i ≡ Some n) (sym t.names) (still_at walk.order.names t.more i n at))) (taken_as choose walk s.name s.file) refl led.1)
  where
    names : List (List ℕ)
    names = walk.order.names

    other : bytes_eq s.name n ≡ false
    other =
        let within = slice_get_within names walk.order.given s.name led.0 in
        let pair = apart_from_distinct bytes_eq names i walk.order.given n apart lt within in
        eq_flip s.name n
        ∙ ap (λ (m : List ℕ). bytes_eq m s.name) (sym (get_or_from_slice_get names i n n at))
        ∙ ap (λ (m : List ℕ). bytes_eq (get_or names i n) m) (sym (get_or_from_slice_get names walk.order.given s.name n led.0))
        ∙ pair

    on : ((next : Loading) → Took walk next → Leads choose next seen came → Unlike n seen) → (r : Result Loading LoadFault) → taken_as choose walk s.name s.file ≡ r → LeadsOn (λ next. Leads choose next seen came) r seen came → Unlike n seen
    on further (Ok next) went more = further next (took_as choose walk next s.name s.file led.0 went) more
    on further (Err fault) went more = subst (λ (l : List Seen). Unlike n l) (sym more.0) tt

-- ---- each file that was seen is the one of its name

abbrev Owns : List Seen → List Seen → Type 0
Owns all [] = Unit {0}
Owns all (s ∷ seen) = (file_seen all s.name ≡ s.file) × Owns all seen

owns_more : (s : Seen) (all seen : List Seen) → Unlike s.name seen → Owns all seen → Owns (s ∷ all) seen
owns_more s all [] other owns = tt
owns_more s all (t ∷ seen) other owns = (ap (λ (b : Bool). if b then s.file else file_seen all t.name) other.0 ∙ owns.0, owns_more s all seen other.1 owns.1)

owns_all : (choose : Choice) (walk : Loading) (seen : List Seen) (came : Result Loading LoadFault) → Leads choose walk seen came → IsDistinct bytes_eq walk.order.names → Owns seen seen
owns_all choose walk [] came led apart = tt
owns_all choose walk (s ∷ seen) came led apart =
    let rest = on (λ next t more. owns_all choose next seen came more (t.apart apart)) (taken_as choose walk s.name s.file) refl led.1 in
    (ap (λ (b : Bool). if b then s.file else file_seen seen s.name) (eq_refl s.name), owns_more s seen seen rest.1 rest.0)
  where
    on : ((next : Loading) → Took walk next → Leads choose next seen came → Owns seen seen) → (r : Result Loading LoadFault) → taken_as choose walk s.name s.file ≡ r → LeadsOn (λ next. Leads choose next seen came) r seen came → Owns seen seen × Unlike s.name seen
    on further (Ok next) went more =
        let t = took_as choose walk next s.name s.file led.0 went in
        let there = subst (λ (ns : List (List ℕ)). slice_get ns walk.order.given ≡ Some s.name) (sym t.names) (still_at walk.order.names t.more walk.order.given s.name led.0) in
        (further next t more, unlike choose next seen came walk.order.given s.name more (t.apart apart) (omega (arith, t.given)) there)
    on further (Err fault) went more = subst (λ (l : List Seen). Owns l l × Unlike s.name l) (sym more.0) (tt, tt)

-- these are the files that were seen, and no other one is there
abbrev pub TellsSeen : {E : Type 0} → (LoadFault → E) → (List ℕ → Result (List ℕ) E) → List Seen → Type 0
TellsSeen fault file seen = (n : List ℕ) → file n ≡ ok_or (file_seen seen n) (fault (NotThere n))

is_file : {E : Type 0} (fault : LoadFault → E) (file : List ℕ → Result (List ℕ) E) (all : List Seen) (n : List ℕ) (found : Option (List ℕ)) → TellsSeen fault file all → file_seen all n ≡ found → IsFile fault file n found
is_file fault file all n None tells is = tells n ∙ ap (λ (o : Option (List ℕ)). ok_or o (fault (NotThere n))) is
is_file fault file all n (Some bytes) tells is = tells n ∙ ap (λ (o : Option (List ℕ)). ok_or o (fault (NotThere n))) is

tells_each : {E : Type 0} (fault : LoadFault → E) (file : List ℕ → Result (List ℕ) E) (all seen : List Seen) → TellsSeen fault file all → Owns all seen → HasSeen fault file seen
tells_each fault file all [] tells owns = tt
tells_each fault file all (s ∷ seen) tells owns = (is_file fault file all s.name s.file tells owns.0, tells_each fault file all seen tells owns.1)

-- what was seen is what is told of the names
pub has_seen : {E : Type 0} (fault : LoadFault → E) (file : List ℕ → Result (List ℕ) E) (choose : Choice) (name : List ℕ) (seen : List Seen) (came : Result Loading LoadFault) → TellsSeen fault file seen → Leads choose (begun name) seen came → HasSeen fault file seen
unfolding IsDistinct
has_seen fault file choose name seen came tells led = tells_each fault file seen seen tells (owns_all choose (begun name) seen came led (tt, tt))

-- ---- each file that is told was seen

pub are_seen : (seen : List Seen) → AreSeen (file_seen seen) seen
are_seen [] n bytes is = let no : ⊥ = cc in absurd no
are_seen (s ∷ seen) n bytes is = by (are_seen seen n bytes) (bytes_eq n s.name) refl is
  where
    by : (file_seen seen n ≡ Some bytes → SawFile seen n bytes) → (b : Bool) → bytes_eq n s.name ≡ b → (if b then s.file else file_seen seen n) ≡ Some bytes → SawFile (s ∷ seen) n bytes
    by further true hit told = inl (sym (same_name n s.name hit), told)
    by further false miss told = inr (further told)

pub gives_seen : {E : Type 0} (fault : LoadFault → E) (file : List ℕ → Result (List ℕ) E) (seen : List Seen) → TellsSeen fault file seen → GivesFrom (file_seen seen) file
gives_seen {E = E} fault file seen tells n bytes is = by (file_seen seen n) (sym (tells n) ∙ is)
  where
    by : (o : Option (List ℕ)) → ◌≡◌ {A = Result (List ℕ) E} (ok_or o (fault (NotThere n))) (Ok bytes) → o ≡ Some bytes
    by None e = let no : ⊥ = cc in absurd no
    by (Some found) e = ap (λ (xs : List ℕ). Some xs) (ok_same found bytes e)
