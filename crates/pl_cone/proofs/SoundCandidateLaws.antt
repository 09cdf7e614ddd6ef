-- What a name is that may be prelinked.
use Rattle.std.proofs.Common.{◌≡◌, ℕ, Bool, true, false, List, Result, Ok, Err, refl, sym, ap, ◌∙◌}
use Rattle.std.specs.Prelude.{not, is_some, map}
use Rattle.std.specs.List.{list_all}
use Rattle.std.proofs.lemmas.Bool.{false≢true, not-true}
use Rattle.pl_conflict.specs.Format.{format}
use Rattle.pl_elf.specs.Kinds.{is_static}
use Rattle.pl_elf.specs.declared.kind.Kind.{Kind}
use Rattle.pl_elf.specs.declared.kind.Kind.TheVariants.{Program, Library, Static}
use Rattle.pl_elf.specs.declared.range.Range.{Range}
use Rattle.pl_object.specs.declared.object.Object.{Object}
use Rattle.pl_scope.specs.Members.{names}
use Rattle.pl_scope.specs.Walk.{Walked}
use Rattle.pl_scope.proofs.ClosureLaws.{walk_is}
use Rattle.pl_cone.specs.Faults.{fault_in}
use Rattle.pl_cone.specs.Fits.{fit_in}
use Rattle.pl_cone.specs.Plans.{is_candidate}
use Rattle.pl_cone.specs.Skipped.{skip_causes}
use Rattle.pl_cone.specs.declared.skip.Skip.{Skip}
use Rattle.law_sound.specs.Plan.{fits, links_as}
use Rattle.law_sound.specs.Rule as sound
use Rattle.law_sound.specs.Rule.{Files, objects, original_at}
use Rattle.law_sound.proofs.Matching.{and_both, each_all}
use Rattle.law_sound.proofs.RuleLaws.{first_is}

-- it is no static program, and its original has no form fault
pub record IsSound (region : Range) (files : Files) (n : List ℕ) (x : Object) : Type 0 where
  pub dynamic : is_static x.kind ≡ false
  pub fault : is_some (fault_in region (original_at (format skip_causes) (files n))) ≡ false

pub sound_is : (region : Range) (files : Files) (n : List ℕ) (x : Object) → objects (format skip_causes) files n ≡ Ok x → is_candidate files region n ≡ true → IsSound region files n x
sound_is region files n x there candidate =
    let here : fits (format skip_causes) (fit_in region) files (Ok x) (sound.walk_in (format skip_causes) files n) ≡ true =
    sym (ap (λ (r : Result Object Skip). fits (format skip_causes) (fit_in region) files r (sound.walk_in (format skip_causes) files n)) there) ∙ candidate in
    by_walk (sound.walk_in (format skip_causes) files n) refl here
  where
    has_form : List ℕ → Bool
    has_form m = not (is_some (fault_in region (original_at (format skip_causes) (files m))))

    by_kind : (kind : Kind) (os : List (List ℕ)) → links_as (fit_in region) kind os ≡ true → is_static kind ≡ false
    by_kind Program os e = refl
    by_kind Library os e = refl
    by_kind Static os e = absurd (false≢true e)

    by_walk : (r : Result Walked Skip) → sound.walk_in (format skip_causes) files n ≡ r → fits (format skip_causes) (fit_in region) files (Ok x) r ≡ true → IsSound region files n x
    by_walk (Err e) is fit = absurd (false≢true fit)
    by_walk (Ok ws) is fit =
        let i = walk_is skip_causes.walk (objects (format skip_causes) files) n ws is in
        let p = and_both (list_all has_form (names ws)) (links_as (fit_in region) x.kind (map (λ m. original_at (format skip_causes) (files m)) (names ws))) fit in
        record {
          dynamic = by_kind x.kind (map (λ m. original_at (format skip_causes) (files m)) (names ws)) p.1;
          fault = not-true (is_some (fault_in region (original_at (format skip_causes) (files n)))) (each_all has_form (names ws) p.0 n (first_is (objects (format skip_causes) files) n ws i));
        }
