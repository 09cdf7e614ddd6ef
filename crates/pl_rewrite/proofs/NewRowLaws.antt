-- The parts of a new library are those of the member of its row.
use Rattle.std.proofs.Common.{◌≡◌, ℕ, Some, sym, ap, subst, ◌∙◌}
use Rattle.std.specs.Prelude.{slice_get}
use Rattle.std.proofs.lemmas.Option.{same_Some}
use Rattle.pl_cone.specs.Taken.{object_by}
use Rattle.pl_cone.specs.declared.taken.Taken.{Taken}
use Rattle.pl_conflict.specs.Prelinked.{Firm}
use Rattle.pl_form.specs.Files.{original_in}
use Rattle.pl_form.specs.declared.version.Version.{Version}
use Rattle.pl_form.specs.declared.version.Version.TheVariants.{Two}
use Rattle.pl_object.specs.declared.object.Object.{Object}
use Rattle.sha2.specs.Sha256.{sha256}
use Rattle.pl_rewrite.specs.Forms.{HasFormWith}
use Rattle.pl_rewrite.specs.Libraries.{HasForm, HasFormBy, IsNew, firm_of}
use Rattle.pl_rewrite.specs.Rows.{firm_by, number_at}
use Rattle.pl_rewrite.specs.declared.numbers.Numbered.{Numbered}
use Rattle.pl_rewrite.specs.declared.outcomes.NewLibrary.{NewLibrary}
use Rattle.pl_rewrite.proofs.FirmRowLaws.{IsRowOf, row_of}

-- the member that is made by them
member_parts : (t : Taken) (parts : NewLibrary) (o : Object) (slot stamp : ℕ) → parts.slot ≡ slot → parts.stamp ≡ stamp → (n : Numbered) (row : ℕ) → slot ≡ number_at n.places.now row → stamp ≡ number_at n.stamps.now row → firm_of t parts Two o ≡ firm_by n row t o
member_parts t parts o slot stamp first second n row place time =
    ap (λ (s : ℕ). firm_of t (record { slot = s; stamp = parts.stamp; digest = parts.digest; list = parts.list; words = parts.words }) Two o) (first ∙ place)
    ∙ ap (λ (s : ℕ). firm_of t (record { slot = number_at n.places.now row; stamp = s; digest = parts.digest; list = parts.list; words = parts.words }) Two o) (second ∙ time)

-- its form does not depend on its version
form_again : (t : Taken) (parts : NewLibrary) (o : Object) (version : Version) → HasFormWith (firm_of t parts Two o) parts.list parts.words → HasFormWith (firm_of t parts version o) parts.list parts.words
form_again t parts o version has = record { firm = has.firm; even = has.even; list = has.list; words = has.words }

new_row : (n : Numbered) (row : ℕ) (x : Taken) (parts : NewLibrary) → slice_get n.files.now row ≡ Some x → (new : IsNew n row parts) → IsRowOf n row new.firm
new_row n row x parts at new = row_of n row new.firm new.at

same_file : (n : Numbered) (row : ℕ) (x : Taken) (parts : NewLibrary) → (at : slice_get n.files.now row ≡ Some x) → (new : IsNew n row parts) → (new_row n row x parts at new).taken ≡ x
same_file n row x parts at new = same_Some (new_row n row x parts at new).taken x (sym (new_row n row x parts at new).at ∙ at)

pub library_object : (n : Numbered) (row : ℕ) (x : Taken) (parts : NewLibrary) → (at : slice_get n.files.now row ≡ Some x) → (new : IsNew n row parts) → object_by x.entry ≡ Some new.firm.object
library_object n row x parts at new = ap (λ (y : Taken). object_by y.entry) (sym (same_file n row x parts at new)) ∙ (new_row n row x parts at new).object

pub library_firm_is : (n : Numbered) (row : ℕ) (x : Taken) (parts : NewLibrary) → (at : slice_get n.files.now row ≡ Some x) → (new : IsNew n row parts) → firm_by n row x new.firm.object ≡ new.firm
library_firm_is n row x parts at new = ap (λ (y : Taken). firm_by n row y new.firm.object) (sym (same_file n row x parts at new)) ∙ (new_row n row x parts at new).is

pub made_firm : (n : Numbered) (row : ℕ) (x : Taken) (parts : NewLibrary) → (at : slice_get n.files.now row ≡ Some x) → (new : IsNew n row parts) → firm_of x parts Two new.firm.object ≡ new.firm
made_firm n row x parts at new =
    let firm : firm_by n row x new.firm.object ≡ new.firm = library_firm_is n row x parts at new in
    member_parts x parts new.firm.object new.firm.member.slot new.firm.member.stamp new.slot new.stamp n row (sym (ap (λ (r : Firm). r.member.slot) firm)) (sym (ap (λ (r : Firm). r.member.stamp) firm)) ∙ firm

pub library_may : (n : Numbered) (row : ℕ) (x : Taken) (parts : NewLibrary) → slice_get n.files.now row ≡ Some x → IsNew n row parts → HasForm x parts
library_may n row x parts at new =
    let has : HasFormWith (firm_of x parts Two new.firm.object) parts.list parts.words = subst (λ (r : Firm). HasFormWith r parts.list parts.words) (sym (made_firm n row x parts at new)) new.form in
    let original : new.firm.member.original ≡ original_in x.bytes = ap (λ (r : Firm). r.member.original) (sym (library_firm_is n row x parts at new)) in
    subst (HasFormBy x parts) (sym (library_object n row x parts at new)) (λ version. (form_again x parts new.firm.object version has, new.digest ∙ ap sha256 original))
