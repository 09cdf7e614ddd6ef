use Rattle.std.proofs.Common.{Option, sym, ap, ◌∙◌}
use Rattle.pl_form.specs.Files.{marked_in, original_in, original_or_file}
use Rattle.pl_form.specs.declared.file.Marked.{Marked}
use Rattle.sha2.specs.Sha256.{sha256}
use Rattle.pl_rewrite.proofs.library.digest_if.Goals as goal

pub returns-in-None : goal.returns-in-None
unfolding original_in
returns-in-None c =
    c.digest_of.ensures.value ∙ ap sha256 (c.as_slice-bytes.ensures ∙ ap (original_or_file c.args.taken.now.bytes) (c.in-None.ensures.read c.requires))

pub original_digest-requires : goal.original_digest-requires
original_digest-requires c = ap marked_in c.as_slice-bytes.ensures ∙ sym (c.in-Some.ensures.read c.requires)

pub returns-in_ok-original_digest-in-Some : goal.returns-in_ok-original_digest-in-Some
unfolding original_in
returns-in_ok-original_digest-in-Some c =
    c.in_ok-original_digest-in-Some.ensures ∙ ap (λ (m : Option Marked). sha256 (original_or_file c.args.taken.now.bytes m)) (c.in-Some.ensures.read c.requires)
