-- Files in pieces that stand for originals.
use Rattle.std.proofs.Common.{◌≡◌, ℕ, false, List, [], ◌∷◌, Some, refl, ap, inl, inr}
use Rattle.std.specs.List.{list_any, AllZip}
use Rattle.std.proofs.lemmas.Bool.{cases_Bool}
use Rattle.pl_base.specs.Memory.{AtMostOne, Piece, lies, layered}
use Rattle.pl_base.proofs.MemoryLaws.{layered_one, shown_same}
use Rattle.pl_image.specs.declared.loaded_object.LoadedObject.{LoadedObject}
use Rattle.pl_value.specs.Linked.{under, relocated}
use Rattle.pl_value.specs.declared.meaning.Meaning.{Meaning}
use Rattle.pl_base.specs.Memory.{filled}
use Rattle.pl_conflict.specs.Fast.{patches, IsForm, AreForms, FastIsOrdinary}
use Rattle.pl_conflict.proofs.FastLaws.{IsFile, fast_is_relocated}

-- where no place is over the address, the originals' byte
forms_away : (gs : List Meaning) (a : ℕ) (ps qs : List Piece) → AllZip (IsForm gs a) ps qs → list_any (under a) gs ≡ false → layered qs a ≡ layered ps a
unfolding layered
forms_away gs a [] [] like none = refl
forms_away gs a [] (q ∷ qs) like none = absurd like
forms_away gs a (p ∷ ps) [] like none = absurd like
forms_away gs a (p ∷ ps) (q ∷ qs) like none =
    let rest = forms_away gs a ps qs like.1 none in
    let same : lies a q ≡ lies a p = rw (like.0.start, like.0.size) refl in
    elim (cases_Bool (lies a p)) [
      | inl hit ↦ rw (same, hit) (ap (λ (n : ℕ). Some n) (like.0.away hit none))
      | inr miss ↦ rw (same, miss) rest
    ]

forms_are_files : (originals files : List Piece) (members : List LoadedObject) (gs : List Meaning) (a : ℕ) → AtMostOne lies files → AreForms originals files members gs a → IsFile (layered originals) (layered files) members gs a
forms_are_files originals files members gs a apart are = record {
  away = λ none. forms_away gs a originals files are.forms none;
  program = λ k d lt hit mine. layered_one files a _ apart (are.program k d lt hit mine);
  library = λ k d lt hit mine. layered_one files a _ apart (are.library k d lt hit mine);
}

pub fast_ordinary : FastIsOrdinary
fast_ordinary originals files masked members gs rows fit lone apart perm are a =
    shown_same (layered originals) masked (filled (layered files) (patches rows)) (relocated (layered originals) gs) a
    (λ inside seen. fast_is_relocated (layered originals) (layered files) members gs rows a fit lone perm (forms_are_files originals files members gs a apart (are a seen)))
