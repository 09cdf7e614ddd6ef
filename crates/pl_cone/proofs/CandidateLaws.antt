-- Which names of a folder may be prelinked, by the first cause why not.
use Rattle.std.proofs.Common.{◌≡◌, ℕ, Bool, false, List, [], ◌∷◌, Option, Some, None, Result, Ok, Err, refl, sym, ap, ◌∙◌}
use Rattle.std.specs.Prelude.{◌&&◌, not, map, is_some}
use Rattle.std.specs.List.{list_all}
use Rattle.std.specs.Result.{is_ok}
use Rattle.pl_base.specs.Answers.{◌>>=◌, unless_found}
use Rattle.pl_base.specs.Each.{run}
use Rattle.pl_conflict.specs.Format.{format}
use Rattle.pl_conflict.proofs.FormatLaws.{read_is}
use Rattle.pl_elf.specs.declared.kind.Kind.{Kind}
use Rattle.pl_elf.specs.declared.kind.Kind.TheVariants.{Program, Library, Static}
use Rattle.pl_elf.specs.declared.range.Range.{Range}
use Rattle.pl_form.specs.Files.{original_in}
use Rattle.pl_object.specs.Reads.{reads}
use Rattle.pl_object.specs.declared.object.Object.{Object}
use Rattle.pl_scope.specs.Members.{names}
use Rattle.pl_scope.specs.Walk.{Walked}
use Rattle.pl_scope.proofs.ClosureLaws.{WalkTells, walk_is}
use Rattle.pl_scope.proofs.WalkedLaws.{member_file}
use Rattle.law_sound.specs.Plan.{Fit, fits, links_as}
use Rattle.law_sound.specs.Plan as sound
use Rattle.law_sound.specs.Rule.{Files, object_at, objects, original_at, walk_in}
use Rattle.pl_cone.specs.Candidates.{kind_of, formed, all_formed, check_links, fit}
use Rattle.pl_cone.specs.Fits.{fit_in, links}
use Rattle.pl_cone.specs.Skipped.{skip_causes, fault_at, skip_of}
use Rattle.pl_cone.specs.Skips.{of_walk}
use Rattle.pl_cone.specs.declared.skip.Skip.{Skip}
use Rattle.pl_cone.specs.declared.skip.Skip.TheVariants as skips
use Rattle.pl_cone.proofs.LinkLaws.{each_read, links_is}
use Rattle.pl_cone.proofs.ListLaws.{off}

-- no member has a form fault
abbrev pub has_none : (List ℕ → Option ℕ) → List ℕ → Bool
has_none faults n = not (is_some (faults n))

formed_is : {X : Type 0} (faults : List ℕ → Option ℕ) (ns : List (List ℕ)) (r : Result X Skip) → is_ok (all_formed faults ns >>= λ _. r) ≡ (list_all (has_none faults) ns && is_ok r)
unfolding all_formed run
formed_is faults [] r = refl
formed_is {X = X} faults (n ∷ ns) r = by_fault (formed_is faults ns r) (faults n)
  where
    by_fault : is_ok (run (λ v m. formed faults m) tt ns >>= λ _. r) ≡ (list_all (has_none faults) ns && is_ok r) → (fault : Option ℕ)
        → is_ok ((unless_found fault (skips.Form n) (Ok tt) >>= λ u. run (λ v m. formed faults m) u ns) >>= λ _. r) ≡ ((not (is_some fault) && list_all (has_none faults) ns) && is_ok r)
    by_fault rest None = rest
    by_fault rest (Some number) = refl

-- by the kind of the first object
by_kind : (fitting : Fit) (faults : List ℕ → Option ℕ) (n : List ℕ) (walked : Walked) (originals : List (List ℕ)) (kind : Kind) → kind_of walked ≡ kind → fitting.links originals ≡ is_ok (check_links walked)
    → (list_all (has_none faults) (names walked) && links_as fitting kind originals) ≡ is_ok (fit faults n walked)
unfolding fit
by_kind fitting faults n walked originals Program is links =
    ap (λ (b : Bool). list_all (has_none faults) (names walked) && b) links ∙ sym (rw is (formed_is faults (names walked) (check_links walked)))
by_kind fitting faults n walked originals Library is links = sym (rw is (formed_is faults (names walked) (Ok tt)))
by_kind fitting faults n walked originals Static is links = off (list_all (has_none faults) (names walked)) ∙ sym (rw is refl)

-- ---- links

read_at : (n : List ℕ) (file : Option (List ℕ)) (x : Object) → object_at (format skip_causes) n file ≡ Ok x → reads (original_at (format skip_causes) file) ≡ Ok x
read_at n None x is = absurd cc
read_at n (Some file) x is = read_is skip_causes n (original_in file) x is

links_at : (region : Range) (files : Files) (n : List ℕ) (walked : Walked) → walk_in (format skip_causes) files n ≡ Ok walked → (fit_in region).links (map (λ m. original_at (format skip_causes) (files m)) (names walked)) ≡ is_ok (check_links walked)
links_at region files n walked walks =
    ap links (each_read (λ (m : List ℕ). original_at (format skip_causes) (files m)) walked (λ i p at. read_at p.0 (files p.0) p.1 (member_file of_walk (objects (format skip_causes) files) n walked walks i p at)))
    ∙ links_is walked

-- ---- the whole

pub candidate_is : (region : Range) (files : Files) (n : List ℕ) → sound.is_candidate (format skip_causes) (fit_in region) files n ≡ is_ok (skip_of files region n)
unfolding skip_of
candidate_is region files n = of_walk_in (walk_in (format skip_causes) files n) refl
  where
    of_object : (e : Skip) (r : Result Object Skip) → fits (format skip_causes) (fit_in region) files r (Err e) ≡ false
    of_object e (Ok o) = refl
    of_object e (Err c) = refl

    of_walk_in : (r : Result Walked Skip) → walk_in (format skip_causes) files n ≡ r → fits (format skip_causes) (fit_in region) files (objects (format skip_causes) files n) r ≡ is_ok (r >>= fit (fault_at region files) n)
    of_walk_in (Err e) is = of_object e (objects (format skip_causes) files n)
    of_walk_in (Ok walked) is =
        let i : WalkTells (objects (format skip_causes) files) n walked = walk_is of_walk (objects (format skip_causes) files) n walked is in
        let kind : kind_of walked ≡ i.object.kind = ap kind_of i.is in
        ap (λ (r : Result Object Skip). fits (format skip_causes) (fit_in region) files r (Ok walked)) i.file
        ∙ by_kind (fit_in region) (fault_at region files) n walked (map (λ m. original_at (format skip_causes) (files m)) (names walked)) i.object.kind kind (links_at region files n walked is)
