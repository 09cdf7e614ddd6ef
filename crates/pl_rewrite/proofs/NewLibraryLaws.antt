-- What the file of a library is made of.
use Rattle.std.proofs.Common.{◌≡◌, ℕ, ◌<◌, true, false, List, [], ◌∷◌, length, drop, Option, Some, refl, sym, ap, subst, ◌∙◌}
use Rattle.std.specs.List.{AllZip}
use Rattle.pl_conflict.specs.Own.{own_words}
use Rattle.pl_conflict.specs.Prelinked.{Firm, are_set, list_of, objects_of, slots_of}
use Rattle.pl_elf.specs.Kinds.{is_library}
use Rattle.pl_lists.specs.declared.list_row.ListRow.{ListRow}
use Rattle.pl_rewrite.specs.Digests.{IsDigestAt}
use Rattle.pl_rewrite.specs.Forms.{HasFormWith}
use Rattle.pl_rewrite.specs.Libraries.{IsNewIfAny}
use Rattle.pl_rewrite.specs.Rows.{IsFirmAt, IsNumbered, IsWalkRow, firms_of, is_library_row, number_at, of_firm}
use Rattle.pl_rewrite.specs.RowWords.{own_words_at}
use Rattle.pl_rewrite.specs.Sources.{AreSources}
use Rattle.pl_rewrite.specs.declared.numbers.Numbered.{Numbered}
use Rattle.pl_rewrite.specs.declared.outcomes.NewLibrary.{NewLibrary}
use Rattle.pl_rewrite.proofs.FirmRowLaws.{firms_zip, row_of, row_slot}
use Rattle.pl_rewrite.proofs.WholeLaws.{library_has_form}
use Rattle.sha2.specs.Sha256.{sha256}

-- ---- the first of a walk

pub record IsFirst (n : Numbered) (row : ℕ) : Type 0 where
  pub firm : Firm
  pub at : IsFirmAt n row firm
  pub others : List Firm
  pub is : firms_of n row ≡ firm ∷ others

split_firms : (n : Numbered) (row : ℕ) (rows : List ℕ) (ms : List Firm) → AllZip (IsFirmAt n) (row ∷ rows) ms → (r : Firm) × (rs : List Firm) × (ms ≡ r ∷ rs) × IsFirmAt n row r
split_firms n row rows [] zip = absurd zip
split_firms n row rows (m ∷ ms) zip = (m, ms, refl, zip.0)

pub first_is : (n : Numbered) (row : ℕ) → IsWalkRow n row → IsFirst n row
first_is n row walk =
    let zip = firms_zip n row walk.rows in
    let s = split_firms n row walk.others (firms_of n row) (subst (λ (xs : List ℕ). AllZip (IsFirmAt n) xs (firms_of n row)) walk.is zip) in
    record { firm = s.0; at = s.3; others = s.1; is = s.2 }

pub library_firm : (n : Numbered) (row : ℕ) (r : Firm) → IsFirmAt n row r → is_library_row n row ≡ true → is_library r.object.kind ≡ true
library_firm n row r at library = sym (ap (of_firm false (λ (x : Firm). is_library x.object.kind)) at) ∙ library

-- ---- its parts

pub new_made : (n : Numbered) (row : ℕ) (parts : NewLibrary) → IsNumbered n → row < length n.files.now → IsWalkRow n row → is_library_row n row ≡ true → are_set (firms_of n row) ≡ true
    → parts.slot ≡ number_at n.places.now row → parts.stamp ≡ number_at n.stamps.now row → IsDigestAt n.files.now row parts.digest → parts.list ≡ list_of (drop 1 (firms_of n row)) → parts.words ≡ own_words_at n row
    → IsNewIfAny n row (Some parts)
new_made n row parts numbered lt walk library set slot stamp digest list words =
    let first = first_is n row walk in
    let r = first.firm in
    let f = row_of n row r first.at in
    let lists : parts.list ≡ list_of first.others = list ∙ ap (λ (ms : List Firm). list_of (drop 1 ms)) first.is in
    let own : parts.words ≡ own_words (objects_of (r ∷ first.others)) (slots_of (r ∷ first.others)) = words ∙ ap (λ (ms : List Firm). own_words (objects_of ms) (slots_of ms)) first.is in
    let has = library_has_form r first.others (subst AreSources first.is walk.sources) (library_firm n row r first.at library) (subst (λ (ms : List Firm). are_set ms ≡ true) first.is set) in (
      set,
      record {
        firm = r;
        at = first.at;
        slot = slot ∙ sym (row_slot n row r first.at);
        stamp = stamp ∙ ap (λ (x : Firm). x.member.stamp) f.is;
        digest = digest f.taken f.at ∙ ap (λ (x : Firm). sha256 x.member.original) f.is;
        list = list;
        words = words;
        form = subst (λ (ws : List (Option ℕ)). HasFormWith r parts.list ws) (sym own) (subst (λ (ls : List ListRow). HasFormWith r ls (own_words (objects_of (r ∷ first.others)) (slots_of (r ∷ first.others)))) (sym lists) has);
      },
    )
