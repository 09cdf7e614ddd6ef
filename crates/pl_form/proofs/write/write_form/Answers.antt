use Rattle.std.proofs.Common.{◌≡◌, ◌<◌, ◌^◌, ◌∷◌, [], ℕ, List, length, map, subst, sym, ap, ◌∙◌, arith}
use Rattle.std.specs.List.{concat}
use Rattle.pl_base.specs.Bytes.{put}
use Rattle.pl_base.specs.Windows.{◌⊕◌}
use Rattle.pl_elf.specs.Headers.{header}
use Rattle.pl_elf.specs.Written.{header_bytes, section_header_bytes}
use Rattle.pl_elf.specs.declared.header.Header.{Header}
use Rattle.pl_elf.specs.declared.section.Section.{Section}
use Rattle.pl_form.specs.Parts.{up, joined, all_names}
use Rattle.pl_form.specs.Ends.{names_end, ended_rows, header_with}
use Rattle.pl_form.specs.Originals.{original}
use Rattle.pl_form.proofs.WriteLaws.{lies_in, ends_small, long_enough, written}
use Rattle.pl_form.proofs.write.write_form.Goals as goal

pub body-requires : goal.body-requires
body-requires c = lies_in _ _ _ _ _ c.requires.fits

pub push_ends-requires : goal.push_ends-requires
push_ends-requires c =
    subst (λ (xs : List ℕ). names_end (length c.in_ok-file.file.items) xs c.args.plan.now (length c.args.undo.now) < 2 ^ 32) (sym c.old_names-names.ensures)
    (ends_small c.args.plan.now (original c.args.bytes.now c.args.layout.now) c.args.flat.now c.args.undo.now c.in_ok-file.file.items c.requires.fits c.in_ok-file.ensures)

pub put_header-requires : goal.put_header-requires
put_header-requires c =
    long_enough c.args.plan.now (original c.args.bytes.now c.args.layout.now) c.args.flat.now c.args.undo.now c.in_ok-file.file.items _ c.push_ends.new.file.items c.deref-2.result.now c.push_part.new.file.items c.requires.fits c.in_ok-file.ensures
    c.in_ok-rows.ensures.file c.in_ok-push_part.ensures

pub returns : goal.returns
returns c =
    let length_is : c.len.result ≡ length c.push_ends.new.file.items = omega (arith, c.len.ensures) in
    c.put_header.ensures
    ∙ ap (put 0 (header_bytes c.new_header-header.result))
    (c.in_ok-push_part.ensures ∙ ap (λ (xs : List ℕ). c.push_ends.new.file.items ⊕ xs) (c.deref-2.ensures.value ∙ c.in_ok-table.ensures ∙ ap (λ (rs : List Section). concat (map section_header_bytes rs)) c.deref.ensures.value))
    ∙ written c.args.plan.now (original c.args.bytes.now c.args.layout.now) c.args.flat.now c.args.undo.now c.in_ok-file.file.items c.push_ends.new.file.items c.in_ok-rows.rows.items c.new_header-header.result c.requires.fits c.in_ok-file.ensures
    (c.in_ok-rows.ensures.file ∙ ap (λ (xs : List ℕ). joined c.in_ok-file.file.items (c.args.undo.now ∷ all_names xs c.args.plan.now ∷ [])) c.old_names-names.ensures)
    (c.in_ok-rows.ensures.rows ∙ ap (λ (xs : List ℕ). ended_rows (length c.in_ok-file.file.items) xs c.args.plan.now (length c.args.undo.now)) c.old_names-names.ensures)
    (c.new_header-header.ensures ∙ ap (λ (h : Header). header_with h c.args.plan.now c.up-at.result) c.header_fields-old.ensures
    ∙ ap (header_with (header c.args.bytes.now) c.args.plan.now) (c.up-at.ensures ∙ ap up length_is))

pub old_names-names-requires : goal.old_names-names-requires
old_names-names-requires c = c.requires.names
