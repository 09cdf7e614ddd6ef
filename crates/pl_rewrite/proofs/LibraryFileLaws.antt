-- The file of a library by what it is made of.
use Rattle.std.proofs.Common.{◌≡◌, ℕ, Bool, List, length, Option, Some, None, sym, ap, subst, ◌∙◌}
use Rattle.std.specs.Prelude.{nat_le}
use Rattle.std.specs.Option.{option_and_then}
use Rattle.pl_cone.specs.Taken.{object_by}
use Rattle.pl_cone.specs.declared.taken.Taken.{Taken}
use Rattle.pl_conflict.specs.Prelinked.{stored}
use Rattle.pl_form.specs.Files.{original_in}
use Rattle.pl_form.specs.Library.{library_form}
use Rattle.pl_form.specs.declared.constants.TheConstants.{STORED}
use Rattle.pl_form.specs.declared.version.Version.{Version}
use Rattle.pl_lists.specs.declared.list_row.ListRow.{ListRow}
use Rattle.pl_object.specs.declared.object.Object.{Object}
use Rattle.pl_form.specs.Back.{when}
use Rattle.pl_rewrite.specs.Forms.{file_with}
use Rattle.pl_rewrite.specs.Libraries.{HasForm, HasFormBy, firm_of, storable_library}
use Rattle.pl_rewrite.specs.declared.outcomes.NewLibrary.{NewLibrary}
use Rattle.pl_rewrite.proofs.FirmLaws.{version_back}

pub has_form : (t : Taken) (parts : NewLibrary) (o : Object) → HasForm t parts → Some o ≡ object_by t.entry → HasFormBy t parts (Some o)
has_form t parts o has is = subst (HasFormBy t parts) (sym is) has

pub file_none : (t : Taken) (parts : NewLibrary) (version : Version) → None ≡ object_by t.entry → None ≡ storable_library t parts version
file_none t parts version none = ap (option_and_then (λ (o : Object). stored (Some (file_with (firm_of t parts version o) parts.list parts.words)))) none

-- what is written is the form
form_is : (t : Taken) (parts : NewLibrary) (version : Version) (o : Object) (original : List ℕ) (list : List ListRow) (words : List (Option ℕ)) → original ≡ original_in t.bytes → list ≡ parts.list → words ≡ parts.words
    → library_form original parts.slot parts.stamp list words version ≡ file_with (firm_of t parts version o) parts.list parts.words
form_is t parts version o original list words bytes lists own =
    ap (λ (bs : List ℕ). library_form bs parts.slot parts.stamp list words version) bytes
    ∙ ap (λ (ls : List ListRow). library_form (original_in t.bytes) parts.slot parts.stamp ls words version) lists
    ∙ ap (λ (ws : List (Option ℕ)). library_form (original_in t.bytes) parts.slot parts.stamp parts.list ws version) own
    ∙ ap (library_form (original_in t.bytes) parts.slot parts.stamp parts.list parts.words) (sym (version_back version))

by_object : (t : Taken) (parts : NewLibrary) (version : Version) (o : Object) → Some o ≡ object_by t.entry → stored (Some (file_with (firm_of t parts version o) parts.list parts.words)) ≡ storable_library t parts version
by_object t parts version o is = ap (option_and_then (λ (x : Object). stored (Some (file_with (firm_of t parts version x) parts.list parts.words)))) is

-- by whether a folder stores it
pub file_sized : (t : Taken) (parts : NewLibrary) (version : Version) (o : Object) (original : List ℕ) (list : List ListRow) (words : List (Option ℕ)) (file : List ℕ) (b : Bool) → Some o ≡ object_by t.entry → original ≡ original_in t.bytes → list ≡ parts.list → words ≡ parts.words
    → file ≡ library_form original parts.slot parts.stamp list words version → b ≡ nat_le (length file) STORED → when b (Some file) ≡ storable_library t parts version
file_sized t parts version o original list words file b is bytes lists own made size =
    ap (λ (x : Bool). when x (Some file)) size ∙ ap (λ (x : List ℕ). stored (Some x)) (made ∙ form_is t parts version o original list words bytes lists own) ∙ by_object t parts version o is
