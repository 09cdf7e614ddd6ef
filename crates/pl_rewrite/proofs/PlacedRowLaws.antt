-- The members of a program's walk are placed, and it copies of them alone.
use Rattle.std.proofs.Common.{◌≡◌, ℕ, zero, suc, ◌+◌, ◌<◌, ◌≤◌, List, [], ◌∷◌, length, get_or, Some, Ok, sym, ap, subst, ◌∙◌, arith}
use Rattle.std.specs.Prelude.{slice_get}
use Rattle.std.specs.List.{All, AllZip}
use Rattle.std.proofs.lemmas.List.{get_or-map, length-map}
use Rattle.std.proofs.lemmas.Option.{none-some, same_Some}
use Rattle.std.proofs.lemmas.Slice.Zip.{AllZip-long}
use Rattle.pl_conflict.specs.Prelinked.{Firm, objects_of, slots_of}
use Rattle.pl_image.specs.Loads.{IsPlaced}
use Rattle.pl_object.specs.declared.object.Object.{Object}
use Rattle.pl_object.specs.declared.reloc.Reloc.{Reloc}
use Rattle.pl_tls.specs.declared.module.Module.{Module}
use Rattle.pl_value.specs.Meanings.{meaning, row}
use Rattle.pl_value.specs.Targets.{base_of}
use Rattle.pl_value.specs.Values.{value_of}
use Rattle.pl_value.specs.declared.meaning.Meaning.{Meaning}
use Rattle.pl_value.specs.declared.word.Word.{Word}
use Rattle.pl_value.specs.declared.word.Word.TheVariants.{Put, Copy, Nothing}
use Rattle.pl_value.proofs.MeaningLaws.{IsGiven, meaning_given}
use Rattle.pl_rewrite.specs.Copies.{IsFillOf, IsPlacedRow}
use Rattle.pl_rewrite.specs.Fills.{IsProgramSet}
use Rattle.pl_rewrite.specs.Rows.{IsFirmAt, IsWalkRow, firms_of, walk_of}
use Rattle.pl_rewrite.specs.declared.numbers.Numbered.{Numbered}
use Rattle.pl_rewrite.proofs.FirmRowLaws.{firms_zip}
use Rattle.pl_rewrite.proofs.ProgramLaws.{originals_placed}
use Rattle.pl_rewrite.proofs.SourceLaws.{value_source}

zip_at : {A B : Type 0} (R : A → B → Type 0) (xs : List A) (ys : List B) (i : ℕ) (d : A) (e : B) → AllZip R xs ys → i < length xs → R (get_or xs i d) (get_or ys i e)
zip_at R [] ys i d e zip lt = absurd (omega (arith, lt))
zip_at R (x ∷ xs) [] i d e zip lt = absurd zip
zip_at R (x ∷ xs) (y ∷ ys) zero d e zip lt = zip.0
zip_at R (x ∷ xs) (y ∷ ys) (suc i) d e zip lt = zip_at R xs ys i d e zip.1 (omega (arith, lt))

pub placed_rows : (n : Numbered) (row : ℕ) → IsWalkRow n row → IsProgramSet (firms_of n row) → All (IsPlacedRow n) (walk_of n row)
placed_rows n row walk set = λ k d lt r e.
    let rs = firms_of n row in
    let zip = firms_zip n row walk.rows in
    let long : k < length rs = omega (arith, lt, AllZip-long (IsFirmAt n) (walk_of n row) rs zip) in
    let same : get_or rs k r ≡ r = same_Some (get_or rs k r) r (sym (zip_at (IsFirmAt n) (walk_of n row) rs k d r zip lt) ∙ e) in
    let placed : IsPlaced (base_of (slots_of rs) k) (get_or (objects_of rs) k r.object) = (originals_placed rs walk.sources set).placed k r.object (omega (arith, long, length-map rs (λ (x : Firm). x.object))) in
    let slot : base_of (slots_of rs) k ≡ r.member.slot = get_or-map (λ (x : Firm). x.member.slot) rs k r 0 long ∙ ap (λ (x : Firm). x.member.slot) same in
    let object : get_or (objects_of rs) k r.object ≡ r.object = get_or-map (λ (x : Firm). x.object) rs k r r.object long ∙ ap (λ (x : Firm). x.object) same in
    subst (λ (b : ℕ). IsPlaced b r.object) slot (subst (λ (o : Object). IsPlaced (base_of (slots_of rs) k) o) object placed)

-- ---- copies

within : (os : List Object) (m : ℕ) (o : Object) → slice_get os m ≡ Some o → m < length os
within [] m o at = absurd (none-some o at)
within (x ∷ os) zero o at = omega arith
within (x ∷ os) (suc m) o at = omega (arith, within os m o at)

fill_by : (walk : List ℕ) (os : List Object) (places : List ℕ) (modules : List Module) (r : Reloc) (w : Word) → length os ≡ length walk → value_of os places modules 0 r ≡ Ok w → IsFillOf walk w
fill_by walk os places modules r (Put x) same is = tt
fill_by walk os places modules r (Copy m from n) same is =
    let s = value_source os places modules 0 r m from n is in
    omega (arith, same, within os m s.object s.at)
fill_by walk os places modules r Nothing same is = tt

pub fill_of : (walk : List ℕ) (os : List Object) (places : List ℕ) (modules : List Module) (r : Reloc) (g : Meaning) → length os ≡ length walk → meaning os places modules (row 0 r) ≡ Ok g → IsFillOf walk g.word
fill_of walk os places modules r g same is =
    let given : IsGiven os places modules (row 0 r) g = meaning_given os places modules (row 0 r) g is in
    fill_by walk os places modules r g.word same given.word
