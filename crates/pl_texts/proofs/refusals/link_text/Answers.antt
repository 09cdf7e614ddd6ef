use Rattle.std.proofs.Common.{refl, append_assoc}
use Rattle.pl_texts.specs.Refusals.{link_text}
use Rattle.pl_texts.proofs.refusals.link_text.Goals as goal

pub returns : goal.returns
unfolding link_text
returns c =
    simp (c.in_ok-push_symbol.ensures, c.into_bytes-text.ensures.value, c.in_ok-format.ensures.ok, append_assoc)
    (rw c.as_str-object.ensures refl)
