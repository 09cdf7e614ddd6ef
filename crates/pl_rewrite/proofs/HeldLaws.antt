-- The words that a library's file holds, one relocation after the other.
use Rattle.std.proofs.Common.{◌≡◌, ℕ, ◌+◌, ◌<◌, ◌≤◌, List, length, get_or, Option, None, sym, ap, subst, arith}
use Rattle.std.specs.Option.{unwrap_or}
use Rattle.std.proofs.lemmas.List.{get_or_default}
use Rattle.std.proofs.lemmas.List.Elements.{All-weaker}
use Rattle.std.proofs.lemmas.Option.{slice_get-get_or}
use Rattle.pl_elf.specs.Headers.{loads}
use Rattle.pl_elf.specs.declared.constants.TheConstants.{ADDRESS_LIMIT}
use Rattle.pl_elf.specs.declared.segment.Segment.{Segment}
use Rattle.pl_elf.proofs.AcceptedLaws.{LoadFits, loads_fit}
use Rattle.pl_form.specs.Library.{IsFirmLibrary}
use Rattle.pl_form.specs.Words.{word_at}
use Rattle.pl_image.specs.Loads.{IsPlaced}
use Rattle.pl_image.specs.declared.loaded_object.LoadedObject.{LoadedObject}
use Rattle.pl_object.specs.declared.object.Object.{Object}
use Rattle.pl_object.specs.declared.reloc.Reloc.{Reloc}
use Rattle.pl_object.proofs.AcceptedLaws.{accepted}
use Rattle.pl_rewrite.specs.Held.{IsWordIn}

pub told_by : (original : List LoadedObject) (rs : List Reloc) (words : List (Option ℕ)) (i : ℕ) (d e : Reloc) (own : Option ℕ) (word : ℕ) → i < length rs → length words ≡ length rs → IsWordIn original (get_or rs i e) (get_or words i own) word
    → IsWordIn original (get_or rs i d) (word_at words i) word
told_by original rs words i d e own word lt same told =
    let at : word_at words i ≡ get_or words i own = ap (λ (w : Option (Option ℕ)). unwrap_or w None) (slice_get-get_or words i own (omega (arith, lt, same))) in
    subst (λ (w : Option ℕ). IsWordIn original (get_or rs i d) w word) (sym at) (subst (λ (r : Reloc). IsWordIn original r (get_or words i own) word) (get_or_default rs i e d lt) told)

abbrev EndsLow : Segment → Type 0
EndsLow s = 0 + (s.vaddr + s.memsz) ≤ ADDRESS_LIMIT

-- an accepted library lies within the limit of addresses where it was linked
pub placed_zero : (original : List ℕ) (o : Object) → IsFirmLibrary original o → IsPlaced 0 o
placed_zero original o firm =
    let facts = accepted original o firm.firm.accepted in
    record { accepted = facts.loads; ends = All-weaker LoadFits EndsLow (λ s fits. omega (arith, fits.ends)) (loads o.segments) (loads_fit (loads o.segments) facts.loads.fit) }
