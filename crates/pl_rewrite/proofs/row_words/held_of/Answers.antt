use Rattle.std.proofs.Common.{List, [], ◌∷◌, ◌∙◌, ap, length, subst, sym}
use Rattle.std.proofs.lemmas.Bool.{false≢true}
use Rattle.std.proofs.lemmas.Result.{IfOk-weaker}
use Rattle.std.specs.List.{AllZip}
use Rattle.pl_cone.specs.Taken.{HasItsEntry}
use Rattle.pl_image.proofs.PlacedLaws.{alone}
use Rattle.pl_image.specs.declared.loaded_object.LoadedObject.{LoadedObject}
use Rattle.pl_object.specs.declared.reloc.Reloc.{Reloc}
use Rattle.pl_rewrite.proofs.DigestLaws.{numbered_read, read_item}
use Rattle.pl_rewrite.proofs.HeldLaws.{placed_zero}
use Rattle.pl_rewrite.proofs.RowTestLaws.{file_or}
use Rattle.pl_rewrite.proofs.RowWordLaws.{held_at, held_count, held_firm, held_none, held_numbers}
use Rattle.pl_rewrite.specs.Held.{IsHeldIn}
use Rattle.pl_rewrite.proofs.row_words.held_of.Goals as goal

pub returns-then-not-asked : goal.returns-then-not-asked
returns-then-not-asked c = λ on. absurd (false≢true (sym c.if-not-asked.true ∙ on))

pub returns-in_default : goal.returns-in_default
returns-in_default c = λ on. held_none c.args.numbered.now c.args.row _ c.args.remaining.now _ (file_or c.args.numbered.now c.args.row c.index-numbered-row.result c.requires.row.within) c.in_default.ensures

pub original-requires : goal.original-requires
original-requires c = subst HasItsEntry c.index-numbered-row.is (read_item c.args.numbered.now.files.now c.args.row c.index-numbered-row.result (numbered_read c.args.numbered.now c.requires.row.numbered) c.requires.row.within c.index-numbered-row.is)

pub load_object-requires : goal.load_object-requires
load_object-requires c =
    placed_zero c.original.result.now c.in-Some.object.now
    (held_firm c.args.numbered.now c.args.row _ c.in-Some.object.now c.original.result.now c.requires.row.walk c.requires.row.library (file_or c.args.numbered.now c.args.row c.index-numbered-row.result c.requires.row.within) c.in-Some.ensures c.original.ensures)

pub held_words-requires-clause-loaded : goal.held_words-requires-clause-loaded
held_words-requires-clause-loaded c = alone c.in_ok-loaded.loaded c.in_ok-loaded.ensures.ascends c.in_ok-loaded.ensures.fits

pub held_words-requires-clause-words : goal.held_words-requires-clause-words
held_words-requires-clause-words c =
    held_count c.args.numbered.now c.args.row _ c.in-Some.object.now c.args.words.now c.requires.row.walk (file_or c.args.numbered.now c.args.row c.index-numbered-row.result c.requires.row.within) c.in-Some.ensures c.requires.words
    ∙ ap length (sym c.as_slice-relocs.ensures)

pub held_words-requires-clause-remaining : goal.held_words-requires-clause-remaining
held_words-requires-clause-remaining c =
    rw c.as_slice-relocs.ensures (held_numbers c.args.numbered.now c.args.row _ c.in-Some.object.now c.args.remaining.now (file_or c.args.numbered.now c.args.row c.index-numbered-row.result c.requires.row.within) c.in-Some.ensures c.requires.remaining)

pub returns : goal.returns
returns c =
    let n = c.args.numbered.now in
    let o = c.in-Some.object.now in
    let words = c.args.words.now in
    let at = file_or n c.args.row c.index-numbered-row.result c.requires.row.within in
    IfOk-weaker c.held_words.result _ _
    (λ held are. λ on. held_at n c.args.row _ o c.original.result.now words c.args.remaining.now held at c.in-Some.ensures c.original.ensures c.requires.words
    (subst (λ (l : LoadedObject). AllZip (IsHeldIn (l ∷ []) o.relocations words) c.args.remaining.now held) c.in_ok-loaded.ensures.value
    (subst (λ (rs : List Reloc). AllZip (IsHeldIn (c.in_ok-loaded.loaded ∷ []) rs words) c.args.remaining.now held) c.as_slice-relocs.ensures are))) c.held_words.ensures
