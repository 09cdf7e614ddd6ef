-- Records collected along a chain.
use Rattle.std.proofs.Common.{◌≡◌, ℕ, ◌+◌, ◌-◌, ◌<◌, ◌≤◌, Bool, true, false, ◌||◌, eqb, List, [], ◌∷◌, ◌++◌, map, Result, Ok, Err, refl, sym, ap, ◌∙◌, append_assoc}
use Rattle.std.specs.Prelude.{MatchBool, ⊤}
use Rattle.std.specs.List.{list_any, flat_map}
use Rattle.std.proofs.lemmas.List.{append-nil}
use Rattle.std.proofs.lemmas.List.Concat.{flat_map-cons}
use Rattle.std.proofs.lemmas.List.Folds.{list_any-append}
use Rattle.std.proofs.Math.Bool.{or_assoc}
use Rattle.pl_base.specs.Answers.{◌>>=◌, unless}
use Rattle.pl_base.specs.Each.{run}
use Rattle.pl_base.proofs.TestLaws.{number_flips}
use Rattle.pl_ver.specs.declared.fault.VerFault.{VerFault}
use Rattle.pl_ver.specs.declared.fault.VerFault.TheVariants.{BadIndex}
use Rattle.pl_ver.specs.declared.record.Record.{Record}
use Rattle.pl_ver.specs.Fields.{next}
use Rattle.pl_ver.specs.Chains.{chain}
use Rattle.pl_ver.specs.Versions.{is_memory, any_has, any_index_twice}
use Rattle.pl_ver.specs.Collecting.{add, add_all, distinct}
use Rattle.pl_ver.proofs.ChainLaws.{chain_step, chain_none}

abbrev Collected : Type 0
Collected = Result (List Record) VerFault

add_all-cons : (s : List Record) (r : Record) (rs : List Record) → add_all s (r ∷ rs) ≡ (add s r >>= λ t. add_all t rs)
unfolding add_all run
add_all-cons s r rs = refl

add_all-none : (s : List Record) → add_all s [] ≡ Ok s
unfolding add_all run
add_all-none s = refl

append_by : (first : Collected) (front rest : List Record) → ((t : List Record) → add_all t (front ++ rest) ≡ (add_all t front >>= λ u. add_all u rest))
    → (first >>= λ t. add_all t (front ++ rest)) ≡ ((first >>= λ t. add_all t front) >>= λ u. add_all u rest)
append_by (Ok t) front rest more = more t
append_by (Err e) front rest more = refl

pub add_all-append : (s : List Record) (front rest : List Record) → add_all s (front ++ rest) ≡ (add_all s front >>= λ t. add_all t rest)
add_all-append s [] rest = rw (add_all-none s) refl
add_all-append s (r ∷ front) rest =
    rw (add_all-cons s r (front ++ rest), add_all-cons s r front) (append_by (add s r) front rest (λ t. add_all-append t front rest))

-- ---- a loop along a chain, with a record for each offset

pub each_step : (f : ℕ → Record) (size : ℕ) (section : List ℕ) (count at : ℕ) (s : List Record) → 0 < count
    → add_all s (map f (chain size section count at)) ≡ (add s (f at) >>= λ t. add_all t (map f (chain size section (count - 1) (at + next size section at))))
each_step f size section count at s some = rw (chain_step size section count at some) (add_all-cons s (f at) _)

pub each_more : (f : ℕ → Record) (size : ℕ) (section : List ℕ) (count at to : ℕ) (r : Record) (s t : List Record) (whole : Collected) → 0 < count → r ≡ f at → to ≡ at + next size section at → add s r ≡ Ok t
    → add_all s (map f (chain size section count at)) ≡ whole → add_all t (map f (chain size section (count - 1) to)) ≡ whole
each_more f size section count at to r s t whole some is after step so_far =
    let taken : add s (f at) ≡ Ok t = rw (← is) step in
    let one : add_all s (map f (chain size section count at)) ≡ add_all t (map f (chain size section (count - 1) (at + next size section at))) = each_step f size section count at s some ∙ rw taken refl in
    rw after (sym one ∙ so_far)

pub each_fails : (f : ℕ → Record) (size : ℕ) (section : List ℕ) (count at : ℕ) (r : Record) (s : List Record) (e : VerFault) (whole : Collected) → 0 < count → r ≡ f at → MatchBool (is_memory e) ⊤ (add s r ≡ Err e)
    → add_all s (map f (chain size section count at)) ≡ whole → MatchBool (is_memory e) ⊤ (whole ≡ Err e)
each_fails f size section count at r s e whole some is step so_far =
    elim (is_memory e) as (λ b. MatchBool b ⊤ (add s r ≡ Err e) → MatchBool b ⊤ (whole ≡ Err e)) [
      | true ↦ λ _. tt
      | false ↦ λ stop. let stopped : add s (f at) ≡ Err e = rw (← is) stop in sym so_far ∙ each_step f size section count at s some ∙ rw stopped refl
    ] step

pub each_done : (f : ℕ → Record) (size : ℕ) (section : List ℕ) (count at : ℕ) (s : List Record) (whole : Collected) → count ≤ 0
    → add_all s (map f (chain size section count at)) ≡ whole → whole ≡ Ok s
each_done f size section count at s whole none so_far = sym so_far ∙ rw (chain_none size section count at none) (add_all-none s)

-- ---- a loop along a chain, with a list of records for each offset

pub lists_step : (g : ℕ → List Record) (size : ℕ) (section : List ℕ) (count at : ℕ) (s : List Record) → 0 < count
    → add_all s (flat_map g (chain size section count at)) ≡ (add_all s (g at) >>= λ t. add_all t (flat_map g (chain size section (count - 1) (at + next size section at))))
lists_step g size section count at s some =
    rw (chain_step size section count at some)
    (ap (add_all s) (flat_map-cons g at (chain size section (count - 1) (at + next size section at))) ∙ add_all-append s (g at) _)

pub lists_more : (g : ℕ → List Record) (size : ℕ) (section : List ℕ) (count at to : ℕ) (s t : List Record) (whole : Collected) → 0 < count → to ≡ at + next size section at → add_all s (g at) ≡ Ok t
    → add_all s (flat_map g (chain size section count at)) ≡ whole → add_all t (flat_map g (chain size section (count - 1) to)) ≡ whole
lists_more g size section count at to s t whole some after step so_far =
    let one : add_all s (flat_map g (chain size section count at)) ≡ add_all t (flat_map g (chain size section (count - 1) (at + next size section at))) = lists_step g size section count at s some ∙ rw step refl in
    rw after (sym one ∙ so_far)

pub lists_fail : (g : ℕ → List Record) (size : ℕ) (section : List ℕ) (count at : ℕ) (s : List Record) (e : VerFault) (whole : Collected) → 0 < count → MatchBool (is_memory e) ⊤ (add_all s (g at) ≡ Err e)
    → add_all s (flat_map g (chain size section count at)) ≡ whole → MatchBool (is_memory e) ⊤ (whole ≡ Err e)
lists_fail g size section count at s e whole some step so_far =
    elim (is_memory e) as (λ b. MatchBool b ⊤ (add_all s (g at) ≡ Err e) → MatchBool b ⊤ (whole ≡ Err e)) [
      | true ↦ λ _. tt
      | false ↦ λ stop. sym so_far ∙ lists_step g size section count at s some ∙ rw stop refl
    ] step

pub lists_done : (g : ℕ → List Record) (size : ℕ) (section : List ℕ) (count at : ℕ) (s : List Record) (whole : Collected) → count ≤ 0
    → add_all s (flat_map g (chain size section count at)) ≡ whole → whole ≡ Ok s
lists_done g size section count at s whole none so_far = sym so_far ∙ rw (chain_none size section count at none) (add_all-none s)

-- ---- records collected from none on are those of which no two have the same index

-- whether a record has an index that one of those before has
abbrev any_taken : List Record → List Record → Bool
any_taken before rs = list_any (λ r. any_has r.index before) rs

mixed : (a b c d : Bool) → ((a || (b || false)) || (c || d)) ≡ ((a || c) || (b || d))
mixed true b c d = refl
mixed false true true d = refl
mixed false true false d = refl
mixed false false true d = refl
mixed false false false d = refl

taken_more : (before : List Record) (r : Record) (rs : List Record) → any_taken (before ++ r ∷ []) rs ≡ (any_taken before rs || any_has r.index rs)
taken_more before r [] = refl
taken_more before r (q ∷ rs) =
    rw (list_any-append (λ k. eqb k.index q.index) before (r ∷ []), taken_more before r rs, number_flips r.index q.index)
    (mixed (any_has q.index before) (eqb q.index r.index) (any_taken before rs) (any_has r.index rs))

collected_by : (before : List Record) (r : Record) (rs : List Record) (b : Bool) → add_all (before ++ r ∷ []) rs ≡ unless (any_taken (before ++ r ∷ []) rs || any_index_twice rs) BadIndex (Ok ((before ++ r ∷ []) ++ rs))
    → (unless b BadIndex (Ok (before ++ r ∷ [])) >>= λ t. add_all t rs) ≡ unless ((b || any_taken before rs) || (any_has r.index rs || any_index_twice rs)) BadIndex (Ok (before ++ r ∷ rs))
collected_by before r rs true more = refl
collected_by before r rs false more =
    more
    ∙ rw (taken_more before r rs, append_assoc before (r ∷ []) rs)
    (ap (λ (b : Bool). unless b BadIndex (Ok (before ++ r ∷ rs))) (or_assoc (any_taken before rs) (any_has r.index rs) (any_index_twice rs)))

collected : (before rs : List Record) → add_all before rs ≡ unless (any_taken before rs || any_index_twice rs) BadIndex (Ok (before ++ rs))
collected before [] = add_all-none before ∙ ap (λ (xs : List Record). Ok xs) (sym (append-nil before))
collected before (r ∷ rs) = add_all-cons before r rs ∙ collected_by before r rs (any_has r.index before) (collected (before ++ r ∷ []) rs)

none_taken : (rs : List Record) → any_taken [] rs ≡ false
none_taken [] = refl
none_taken (r ∷ rs) = none_taken rs

pub collected_from_none : (rs : List Record) → add_all [] rs ≡ distinct rs
unfolding distinct
collected_from_none rs = collected [] rs ∙ rw (none_taken rs) refl

-- ---- records of both sections

pub both : (front rest t : List Record) → add_all [] front ≡ Ok t → distinct (front ++ rest) ≡ add_all t rest
both front rest t first = sym (collected_from_none (front ++ rest)) ∙ add_all-append [] front rest ∙ rw first refl

pub first_fails : (front rest : List Record) (e : VerFault) → MatchBool (is_memory e) ⊤ (add_all [] front ≡ Err e) → MatchBool (is_memory e) ⊤ (distinct (front ++ rest) ≡ Err e)
first_fails front rest e first =
    elim (is_memory e) as (λ b. MatchBool b ⊤ (add_all [] front ≡ Err e) → MatchBool b ⊤ (distinct (front ++ rest) ≡ Err e)) [
      | true ↦ λ _. tt
      | false ↦ λ stop. sym (collected_from_none (front ++ rest)) ∙ add_all-append [] front rest ∙ rw stop refl
    ] first
