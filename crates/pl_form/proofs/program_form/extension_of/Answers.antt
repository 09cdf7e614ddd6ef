use Rattle.std.proofs.Common.{ℕ, List, length, ap, ◌∙◌, arith}
use Rattle.pl_form.proofs.LengthLaws.{accepted_small}
use Rattle.pl_base.specs.Bytes.{part}
use Rattle.pl_lists.specs.Lists.{list_bytes, list_strings}
use Rattle.std.proofs.Common.{◌++◌}
use Rattle.pl_form.proofs.ReadyLaws.{extension_is}
use Rattle.pl_form.proofs.program_form.extension_of.Goals as goal

pub write_list-requires : goal.write_list-requires
write_list-requires c = omega (arith, ap length c.in_ok-strings.ensures.items, c.part-old.ensures.within, accepted_small c.args.original.now c.args.object.now c.requires.firm.firm.accepted, c.requires.names)

pub returns : goal.returns
returns c =
    extension_is c.args.original.now c.args.object.now c.args.list.now c.args.conflicts.now c.strings_of-window.result c.part-old.result.now c.from_vec.result c.from_vec-2.result c.from_vec-3.result c.requires.firm.firm
    c.strings_of-window.ensures (c.part-old.ensures.bytes ∙ ap (λ (n : ℕ). part n c.size.result c.args.original.now) c.at.ensures ∙ ap (λ (n : ℕ). part c.strings_of-window.result.at n c.args.original.now) c.size.ensures)
    (c.from_vec.ensures ∙ c.in_ok-rows.ensures.strings ∙ ap (λ (xs : List ℕ). xs ++ list_strings c.args.list.now) c.in_ok-strings.ensures.items)
    (c.from_vec-2.ensures ∙ c.in_ok-rows.ensures.table ∙ ap (λ (xs : List ℕ). list_bytes (length xs) c.args.list.now) c.in_ok-strings.ensures.items)
    (c.from_vec-3.ensures ∙ c.in_ok-conflicts.ensures.table)
