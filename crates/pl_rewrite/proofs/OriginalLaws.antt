-- The row of the journal that gives a file its original.
use Rattle.std.proofs.Common.{◌≡◌, ℕ, Bool, List, Some, None, ap, ◌∙◌}
use Rattle.std.specs.Prelude.{if◌then◌else◌}
use Rattle.pl_cone.specs.declared.taken.Taken.{Taken}
use Rattle.pl_form.specs.Files.{marked_in, original_in, original_or_file}
use Rattle.pl_form.specs.declared.file.Marked.{Marked}
use Rattle.pl_journal.specs.declared.change.Change.TheVariants.{Put}
use Rattle.pl_scope.proofs.NameLaws.{eq_refl}
use Rattle.pl_rewrite.specs.Changes.{put}
use Rattle.pl_rewrite.specs.Outcomes.{put_original}

-- a file that is not prelinked is its own original
pub no_mark : (x : Taken) → marked_in x.bytes ≡ None → put (Some x.bytes) x.name (Some (original_in x.bytes)) ≡ None
unfolding original_in
no_mark x none =
    let same : original_or_file x.bytes (marked_in x.bytes) ≡ x.bytes = ap (original_or_file x.bytes) none in
    ap (λ (bs : List ℕ). put (Some x.bytes) x.name (Some bs)) same ∙ ap (λ (b : Bool). if b then None else Some (Put x.name x.bytes)) (eq_refl x.bytes)

-- one that is gets what its mark tells
pub put_mark : (x : Taken) (m : Marked) (name old own original : List ℕ) → Some m ≡ marked_in x.bytes → name ≡ x.name → old ≡ x.bytes → own ≡ m.original → original ≡ own → put (Some old) name (Some original) ≡ put_original x
unfolding original_in
put_mark x m name old own original mark named before told copied =
    let same : m.original ≡ original_or_file x.bytes (marked_in x.bytes) = ap (original_or_file x.bytes) mark in
    ap (λ (bs : List ℕ). put (Some bs) name (Some original)) before
    ∙ (ap (λ (k : List ℕ). put (Some x.bytes) k (Some original)) named ∙ ap (λ (bs : List ℕ). put (Some x.bytes) x.name (Some bs)) (copied ∙ (told ∙ same)))
