use Rattle.std.proofs.Common.{◌≤◌, ℕ, List, length, refl, subst, sym, ap, ◌∙◌, arith}
use Rattle.pl_base.specs.Bytes.{word32}
use Rattle.pl_form.specs.declared.parts.Listed.{Listed}
use Rattle.pl_form.specs.Library.{most_bytes, IsShortList}
use Rattle.pl_form.specs.Words.{digest_in}
use Rattle.pl_form.proofs.KeptLaws.{library_most_with}
use Rattle.pl_form.proofs.ReadyLaws.{library_with_is}
use Rattle.pl_form.proofs.library_form.library_with.Goals as goal
use Rattle.sha2.specs.Sha256.{sha256}

pub moved-requires-clause-slot : goal.moved-requires-clause-slot
moved-requires-clause-slot c = record { below = omega (arith, c.ranges.slot.fits); even = c.requires.even }

pub returns-clause-form : goal.returns-clause-form
returns-clause-form c =
    let o = c.args.source.now.original.now in
    c.in_ok-form.ensures
    ∙ library_with_is o c.args.slot c.args.stamp c.word32-checksum.result c.in_ok-lists.lists c.args.list.now c.args.flat.now (sha256 o) c.args.version (digest_in c.args.version o) refl
    (c.word32-checksum.ensures ∙ ap (word32 0) c.requires.source.found.digest) c.in_ok-lists.ensures refl

pub returns-clause-size : goal.returns-clause-size
returns-clause-size c =
    let o = c.args.source.now.original.now in
    let form =
    c.in_ok-form.ensures
    ∙ library_with_is o c.args.slot c.args.stamp c.word32-checksum.result c.in_ok-lists.lists c.args.list.now c.args.flat.now (sha256 o) c.args.version (digest_in c.args.version o) refl
    (c.word32-checksum.ensures ∙ ap (word32 0) c.requires.source.found.digest) c.in_ok-lists.ensures refl in
    subst (λ (xs : List ℕ). length xs ≤ most_bytes o c.args.list.now) (sym form)
    (library_most_with o c.args.source.now.object.now c.args.slot c.args.stamp c.args.list.now c.args.flat.now c.args.version c.requires.source.firm.firm c.requires.source.firm.library c.requires.flat
    (record { below = omega (arith, c.ranges.slot.fits); even = c.requires.even }) (subst (λ (l : Listed). IsShortList l) c.in_ok-lists.ensures c.in_ok-check_list.ensures))
