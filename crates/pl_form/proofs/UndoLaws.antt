-- What is stored of an original is read again, in both versions.
use Rattle.std.proofs.Common.{◌≡◌, ℕ, ◌^◌, ◌<◌, true, List, [], ◌++◌, length, Option, Some, None, refl, sym, ap, ◌∙◌, arith, inl, inr}
use Rattle.std.specs.Prelude.{◌⊎◌}
use Rattle.std.proofs.lemmas.Bool.{lt-ltb, eq-eqb}
use Rattle.std.proofs.lemmas.List.{length-append}
use Rattle.pl_base.specs.Windows.{Window, within, AllIn}
use Rattle.pl_base.proofs.WindowLaws.{length-within}
use Rattle.pl_elf.specs.Headers.{header}
use Rattle.pl_elf.specs.declared.header.Header.{Header}
use Rattle.pl_undo.specs.declared.undo.Undo.{Undo}
use Rattle.pl_undo.specs.Section.{undo_bytes, is_digest, headers_size, fits_kind, are_words, has_headers, is_undo}
use Rattle.pl_undo.proofs.UndoLaws.{is_read}
use Rattle.pl_form.specs.Back.{found, undo_in, head_windows, header_window, segments_window, sections_window, headers_of, memory_of, undo_of}
use Rattle.pl_form.specs.declared.parts.Spot.{Spot}
use Rattle.pl_form.specs.PartLaws.{IsDigest}
use Rattle.pl_form.proofs.FrontTheorem.{header_again}

pub length-headers : (o : List ℕ) → AllIn (length o) (head_windows (header o)) → length (headers_of o) ≡ headers_size (header o)
unfolding headers_size
length-headers o fits =
    let a = within header_window o in
    let b = within (segments_window (header o)) o in
    let c = within (sections_window (header o)) o in
    length-append a (b ++ (c ++ [])) ∙ omega (arith, length-append b (c ++ []), length-append c [], length-within header_window o fits.0, length-within (segments_window (header o)) o fits.1.0, length-within (sections_window (header o)) o fits.1.1.0)

-- the numbers of an original: cut and shift by its type
pub record IsStored (o : List ℕ) (slot cut shift : ℕ) : Type 0 where
  pub told : (((header o).kind ≡ 3) × (cut ≡ length o) × (shift ≡ 0)) ⊎ (((header o).kind ≡ 2) × (slot ≡ 0))
  pub slot_in : slot < 2 ^ 64
  pub cut_in : cut < 2 ^ 64
  pub shift_in : shift < 2 ^ 64
  pub size : length o < 2 ^ 64

fits_told : (h : Header) (u : Undo) → (((h.kind ≡ 3) × (u.cut ≡ u.length) × (u.shift ≡ 0)) ⊎ ((h.kind ≡ 2) × (u.slot ≡ 0))) → fits_kind h.kind u ≡ true
unfolding fits_kind
fits_told h u (inl is) = rw (is.0, eq-eqb _ _ is.1, eq-eqb _ _ is.2) refl
fits_told h u (inr is) = rw (is.0, eq-eqb _ _ is.1) refl

all_words : (u : Undo) → u.slot < 2 ^ 64 → u.cut < 2 ^ 64 → u.shift < 2 ^ 64 → u.length < 2 ^ 64 → length u.kept < 2 ^ 64 → are_words u ≡ true
unfolding are_words
all_words u a b c d e = rw (lt-ltb _ _ a, lt-ltb _ _ b, lt-ltb _ _ c, lt-ltb _ _ d, lt-ltb _ _ e) refl

digest_fits : (digest : Option (List ℕ)) → IsDigest digest → is_digest digest ≡ true
digest_fits None is = refl
digest_fits (Some digest) is = eq-eqb _ _ is

is_undo_of : (o : List ℕ) (slot cut shift : ℕ) (d : Window) (ps : List Spot) (digest : Option (List ℕ)) → IsDigest digest → AllIn (length o) (head_windows (header o)) → IsStored o slot cut shift → length (within d o ++ memory_of ps o) < 2 ^ 64
    → is_undo (undo_of slot cut shift d ps o digest) ≡ true
unfolding has_headers
is_undo_of o slot cut shift d ps digest is fits stored few =
    let u = undo_of slot cut shift d ps o digest in
    let same : header (headers_of o) ≡ header o = header_again o fits in
    let told : length (headers_of o) ≡ headers_size (header (headers_of o)) = length-headers o fits ∙ ap headers_size (sym same) in
    let kind : fits_kind (header (headers_of o)).kind u ≡ true = ap (λ (h : Header). fits_kind h.kind u) same ∙ fits_told (header o) u stored.told in
    rw (all_words u stored.slot_in stored.cut_in stored.shift_in stored.size few, digest_fits digest is, eq-eqb _ _ told, kind) refl

-- what is stored is read again
pub undo_read : (digest : Option (List ℕ)) (o : List ℕ) (slot cut shift : ℕ) (d : Window) (ps : List Spot) → IsDigest digest → AllIn (length o) (head_windows (header o)) → IsStored o slot cut shift → length (within d o ++ memory_of ps o) < 2 ^ 64
    → undo_in (undo_bytes (undo_of slot cut shift d ps o digest)) ≡ Some (undo_of slot cut shift d ps o digest)
undo_read digest o slot cut shift d ps is fits stored few =
    let u = undo_of slot cut shift d ps o digest in
    ap found (is_read (undo_bytes u) u (record { in_bytes = refl; is_spelled = is_undo_of o slot cut shift d ps digest is fits stored few }))
