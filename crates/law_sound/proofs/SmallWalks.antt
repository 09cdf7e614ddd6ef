-- Walks of one member, and of two.
use Rattle.std.proofs.Common.{◌≡◌, ℕ, suc, Bool, true, false, List, [], ◌∷◌, Option, Some, None, Result, Ok, refl, ap, ◌∙◌}
use Rattle.std.specs.Prelude.{nat_lt, ◌&&◌}
use Rattle.std.specs.Str.{bytes_eq}
use Rattle.pl_object.specs.declared.object.Object.{Object}
use Rattle.pl_elf.specs.declared.kind.Kind.TheVariants.{Library}
use Rattle.pl_base.specs.Each.{run}
use Rattle.pl_scope.specs.declared.fault.WalkFault.{WalkFault}
use Rattle.pl_scope.specs.Walking.{Walking}
use Rattle.pl_scope.specs.Walk.{walk, at_most, begun, added, checked, program_name, needed_program, next}
use Rattle.pl_scope.proofs.StepLaws.{step_back, none_back, entered_back, walk_most}
use Rattle.pl_scope.proofs.WalkedLaws.{limit_is}

-- ---- what an object adds to the names

run_none : (ns : List (List ℕ)) → run added ns [] ≡ Ok ns
unfolding run
run_none ns = refl

run_one : (n m : List ℕ) → bytes_eq n m ≡ false → run added (n ∷ []) (m ∷ []) ≡ Ok (n ∷ m ∷ [])
unfolding run added
run_one n m h = rw h refl

needs_none : (program : Option (List ℕ)) → needed_program program [] ≡ None
needs_none None = refl
needs_none (Some n) = refl

-- ---- what is asked of an object

check_first : (n : List ℕ) (o : Object) → checked (begun n) n o ≡ Ok tt
unfolding checked
check_first n o = refl

check_library : (w : Walking) (n : List ℕ) (o : Object) → o.kind ≡ Library → o.needed ≡ [] → checked w n o ≡ Ok tt
unfolding checked
check_library w n o kind none = rw (kind, none, off (nat_lt 0 w.given), needs_none (program_name w)) refl
  where
    off : (b : Bool) → (b && false) ≡ false
    off true = refl
    off false = refl

-- ---- the walks

at_end : {E : Type 0} (fault : WalkFault → E) (files : List ℕ → Result Object E) (most : ℕ) (w : Walking) (n m : List ℕ) → w.names ≡ n ∷ m ∷ [] → w.given ≡ 2 → at_most fault files (suc most) w ≡ Ok []
at_end fault files most w n m names given = none_back fault files most w [] (rw (names, given) refl) refl

pub walk_pair : {E : Type 0} (fault : WalkFault → E) (files : List ℕ → Result Object E) (n m : List ℕ) (o p : Object) → files n ≡ Ok o → o.needed ≡ m ∷ [] → bytes_eq n m ≡ false → files m ≡ Ok p → p.kind ≡ Library → p.needed ≡ [] → walk fault files n ≡ Ok ((n, o) ∷ (m, p) ∷ [])
walk_pair fault files n m o p first needs other second library none =
    let v : Walking = next (begun n) o (n ∷ m ∷ []) in
    let u : Walking = next v p (n ∷ m ∷ []) in
    walk_most fault files n ∙ (ap (λ (k : ℕ). at_most fault files k (begun n)) limit_is
    ∙ step_back fault files 255 (begun n) ((n, o) ∷ (m, p) ∷ []) (record {
      name = n;
      object = o;
      after = v;
      rest = (m, p) ∷ [];
      wanted = refl;
      file = first;
      enters = entered_back (begun n) n o (n ∷ m ∷ []) (check_first n o) (ap (run added (n ∷ [])) needs ∙ run_one n m other);
      goes = step_back fault files 254 v ((m, p) ∷ []) (record {
        name = m;
        object = p;
        after = u;
        rest = [];
        wanted = refl;
        file = second;
        enters = entered_back v m p (n ∷ m ∷ []) (check_library v m p library none) (ap (run added (n ∷ m ∷ [])) none ∙ run_none (n ∷ m ∷ []));
        goes = at_end fault files 253 u n m refl refl;
        is = refl;
      });
      is = refl;
    }))

pub walk_alone : {E : Type 0} (fault : WalkFault → E) (files : List ℕ → Result Object E) (n : List ℕ) (o : Object) → files n ≡ Ok o → o.needed ≡ [] → walk fault files n ≡ Ok ((n, o) ∷ [])
walk_alone fault files n o first none =
    let v : Walking = next (begun n) o (n ∷ []) in
    walk_most fault files n ∙ (ap (λ (k : ℕ). at_most fault files k (begun n)) limit_is
    ∙ step_back fault files 255 (begun n) ((n, o) ∷ []) (record {
      name = n;
      object = o;
      after = v;
      rest = [];
      wanted = refl;
      file = first;
      enters = entered_back (begun n) n o (n ∷ []) (check_first n o) (ap (run added (n ∷ [])) none ∙ run_none (n ∷ []));
      goes = none_back fault files 254 v [] refl refl;
      is = refl;
    }))
