-- A loader sees a file of the name that it wants.
use Rattle.std.proofs.Common.{◌≡◌, ◌∙◌, ◌++◌, ◌∷◌, [], ℕ, false, List, Option, Some, None, Result, Ok, Err, refl, sym, ap, subst}
use Rattle.std.specs.Prelude.{MatchBool, OnOk, ⊤}
use Rattle.std.specs.Option.{ok_or}
use Rattle.pl_base.specs.Answers.{◌>>=◌, because}
use Rattle.pl_base.proofs.AnswerLaws.{bind_ok, ok_same}
use Rattle.pl_loader.specs.Faults.{is_memory, of_walk}
use Rattle.pl_loader.specs.Loading.{Loading}
use Rattle.pl_loader.specs.Walk.{entered, give, of_wanted, read_in, taken, with_file}
use Rattle.pl_loader.specs.declared.fault.LoadFault.{LoadFault}
use Rattle.pl_loader.specs.declared.fault.LoadFault.TheVariants.{NotThere}
use Rattle.pl_place.specs.Policy.{Answering, Choice, Follows}
use Rattle.pl_scope.specs.Walk as walk
use Rattle.pl_scope.specs.Walking.{wants}
use Rattle.pl_loader.specs.Given.{given}
use Rattle.pl_weave.specs.Opening.{Opened, Sees, led_to, seen_of, taken_as, wanted, wanted_by}
use Rattle.pl_weave.specs.declared.seen.Seen.{Seen}

-- ---- the name that is loaded stays

taken_name : (l m : Loading) (n : List ℕ) (file : Option (List ℕ)) → taken l n file ≡ Ok m → m.name ≡ l.name
unfolding taken entered
taken_name l m n file is =
    let a = bind_ok (ok_or file (NotThere n)) (λ bytes. read_in l.name n bytes >>= entered l) m is in
    let b = bind_ok (read_in l.name n a.0) (entered l) m a.2 in
    let c = bind_ok (because of_walk (walk.give l.order b.0.object)) (λ order. Ok (with_file l order b.0)) m b.2 in
    ap (λ (k : Loading). k.name) (sym (ok_same (with_file l c.0 b.0) m c.2))

pub give_name : (l m : Loading) (file : Option (List ℕ)) → give l file ≡ Ok m → m.name ≡ l.name
give_name l m file is = by (wants l.order) is
  where
    by : (n : Option (List ℕ)) → of_wanted l file n ≡ Ok m → m.name ≡ l.name
    by None e = ap (λ (k : Loading). k.name) (sym (ok_same l m e))
    by (Some n) e = taken_name l m n file e

-- ---- what it comes to

wanted_parts : (fault : Option LoadFault) (l : Loading) (n : List ℕ) → wanted_by fault l ≡ Some n → (fault ≡ None) × (wants l.order ≡ Some n)
wanted_parts None l n is = (refl, is)
wanted_parts (Some fault) l n is = let no : ⊥ = cc in absurd no

module _ {F : Type 0} (post : F → Answering) (o new : Opened F) (name loaded : List ℕ) (file : Option (List ℕ)) (wanted_is : wanted o ≡ Some name) (loaded_is : loaded ≡ o.load.walk.name) where
  taken_given : (choose : Choice) (r : Result (Option (List ℕ)) LoadFault) → given choose loaded name file ≡ r → taken_as choose o.load.walk name file ≡ (r >>= taken o.load.walk name)
  taken_given choose r is =
      ap (λ (n : List ℕ). given choose n name file >>= taken o.load.walk name) (sym loaded_is)
      ∙ ap (λ (q : Result (Option (List ℕ)) LoadFault). q >>= taken o.load.walk name) is

  -- what is loaded of the file was given to the load
  pub sees_given : (given_file : Option (List ℕ)) (came : Result Loading LoadFault) → ((choose : Choice) → Follows (post o.load.policy) choose → given choose loaded name file ≡ Ok given_file) → give o.load.walk given_file ≡ came
      → new ≡ led_to o (seen_of name file) came → Sees post name file o new
  sees_given given_file came given_is went now = record {
    came = came;
    exact = λ choose follows. taken_given choose (Ok given_file) (given_is choose follows) ∙ sym (ap (of_wanted o.load.walk given_file) (wanted_parts o.fault o.load.walk name wanted_is).1) ∙ went;
    now = now;
  }

  -- nothing is loaded of it
  pub sees_none : (fault : LoadFault) → ((choose : Choice) → Follows (post o.load.policy) choose → given choose loaded name file ≡ Err fault) → new ≡ led_to o (seen_of name file) (Err fault) → Sees post name file o new
  sees_none fault given_is now = record { came = Err fault; exact = λ choose follows. taken_given choose (Err fault) (given_is choose follows); now = now }

-- ---- what it is then

pub led_on : {F : Type 0} (o new : Opened F) (s : Seen) (walk : Loading) → new.load ≡ record o.load { walk = walk } → new.seen ≡ o.seen ++ s ∷ [] → new.fault ≡ None → new ≡ led_to o s (Ok walk)
led_on o new s walk load seen fault = λ i. record { load = load i; seen = seen i; fault = fault i }

pub led_off : {F : Type 0} (o new : Opened F) (s : Seen) (fault : LoadFault) → new.load ≡ o.load → new.seen ≡ o.seen ++ s ∷ [] → new.fault ≡ Some fault → new ≡ led_to o s (Err fault)
led_off o new s fault load seen refused = λ i. record { load = load i; seen = seen i; fault = refused i }

-- a loader that wants a name was not refused
pub unrefused_yet : {F : Type 0} (o : Opened F) (name : List ℕ) → wanted o ≡ Some name → o.fault ≡ None
unrefused_yet o name is = (wanted_parts o.fault o.load.walk name is).0

-- ---- answers

-- a fault that is no want of memory is the one that is meant
pub is_told : {X : Type 0} (fault : LoadFault) (meant : Result X LoadFault) → is_memory fault ≡ false → MatchBool (is_memory fault) ⊤ (meant ≡ Err fault) → meant ≡ Err fault
is_told fault meant kept told = subst (λ b. MatchBool b ⊤ (meant ≡ Err fault)) kept told

pub on_both : {X E P Q R : Type 0} (r : Result X E) → (P → Q → R) → OnOk r P → OnOk r Q → OnOk r R
on_both (Ok x) both p q = both p q
on_both (Err e) both p q = tt
