use Rattle.std.proofs.Common.{◌≡◌, ℕ, ◌<◌, true, false, sym, ap, subst, ◌∙◌}
use Rattle.std.specs.List.{All}
use Rattle.std.proofs.lemmas.Result.{err_from_is_err_and}
use Rattle.pl_cone.specs.Linking.{is_library_in, is_library_row, is_static_entry}
use Rattle.pl_cone.specs.Table.{walked_by}
use Rattle.pl_cone.specs.Taken.{is_library_entry}
use Rattle.pl_cone.specs.declared.taken.Taken.{Taken}
use Rattle.pl_cone.proofs.AmongLaws.{index_among}
use Rattle.pl_cone.proofs.LinkedLaws.{form_stops, library_found, program_first, program_found, static_stops, taken_is, walk_is}
use Rattle.pl_cone.proofs.TellLaws.{program_tells}
use Rattle.pl_cone.proofs.WalkLaws.{rows_are, rows_once, walk_some}
use Rattle.pl_cone.proofs.linking.WalkedFiles.link_of.Goals as goal

pub returns-then-is_static : goal.returns-then-is_static
returns-then-is_static c = λ h.
    let one = sym c.index-self-row.is ∙ taken_is c.args.self.now c.args.row h c.index-self-row.result c.index-self-row.is in
    static_stops c.args.self.now c.args.row _ c.requires.walked h (ap (λ (t : Taken). is_static_entry t.entry) (sym one) ∙ (sym c.is_static.ensures ∙ c.if-is_static.true)) (c.in_ok-copy_of.ensures ∙ (c.as_str.ensures ∙ ap (λ (t : Taken). t.name) one))

pub all_formed-requires-clause-walk : goal.all_formed-requires-clause-walk
all_formed-requires-clause-walk c =
    let h = c.requires.row in
    rw (c.as_slice-walk.ensures ∙ (sym c.index-self-row-2.is ∙ walk_is c.args.self.now c.args.row h c.index-self-row-2.result c.index-self-row-2.is)) (rows_are c.args.self.now c.args.row c.requires.walked h)

pub of-requires-clause-rows : goal.of-requires-clause-rows
of-requires-clause-rows c =
    let h = c.requires.row in
    rw (c.as_slice-walk.ensures ∙ (sym c.index-self-row-2.is ∙ walk_is c.args.self.now c.args.row h c.index-self-row-2.result c.index-self-row-2.is)) (rows_are c.args.self.now c.args.row c.requires.walked h)

pub returns-in_err-all_formed : goal.returns-in_err-all_formed
returns-in_err-all_formed c = λ h.
    let p = err_from_is_err_and c.from_residual-in_err-all_formed.result c.from_residual-in_err-all_formed.ensures.1 in
    let same = c.as_slice-walk.ensures ∙ (sym c.index-self-row-2.is ∙ walk_is c.args.self.now c.args.row h c.index-self-row-2.result c.index-self-row-2.is) in
    let one = sym c.index-self-row.is ∙ taken_is c.args.self.now c.args.row h c.index-self-row.result c.index-self-row.is in
    rw (p.1, p.2) (form_stops c.args.self.now c.args.row _ c.requires.walked h (ap (λ (t : Taken). is_static_entry t.entry) (sym one) ∙ (sym c.is_static.ensures ∙ c.if-is_static.false)) (rw same at c.in_err-all_formed.ensures))

pub library_link-requires-clause-some : goal.library_link-requires-clause-some
library_link-requires-clause-some c =
    let h = c.requires.row in
    let same = c.as_slice-walk.ensures ∙ (sym c.index-self-row-2.is ∙ walk_is c.args.self.now c.args.row h c.index-self-row-2.result c.index-self-row-2.is) in
    rw (c.in_ok-own.ensures.scope, same) (walk_some c.args.self.now.files.now h.taken.name (walked_by c.args.self.now.files.now h.rows) h.told)

pub library_link-requires-clause-index : goal.library_link-requires-clause-index
library_link-requires-clause-index c =
    let h = c.requires.row in
    let same = c.as_slice-walk.ensures ∙ (sym c.index-self-row-2.is ∙ walk_is c.args.self.now c.args.row h c.index-self-row-2.result c.index-self-row-2.is) in
    index_among c.args.self.now.files.now h.rows c.args.self.now.index.now c.in_ok-own.own (rows_are c.args.self.now c.args.row c.requires.walked h) (rows_once c.args.self.now c.args.row c.requires.walked h) c.requires.walked.index (rw same at c.in_ok-own.ensures)

pub returns-then-is_library : goal.returns-then-is_library
returns-then-is_library c = λ h.
    let same = c.as_slice-walk.ensures ∙ (sym c.index-self-row-2.is ∙ walk_is c.args.self.now c.args.row h c.index-self-row-2.result c.index-self-row-2.is) in
    let one = sym c.index-self-row.is ∙ taken_is c.args.self.now c.args.row h c.index-self-row.result c.index-self-row.is in
    let library : is_library_row c.args.self.now c.args.row ≡ true = ap is_library_in h.file ∙ (ap (λ (t : Taken). is_library_entry t.entry) (sym one) ∙ (sym c.is_library.ensures ∙ c.if-is_library.true)) in
    library_found c.args.self.now c.args.row c.in_ok-library_link.field-0 c.requires.walked h library (rw same at c.in_ok-all_formed.ensures) (rw (c.in_ok-own.ensures.scope, same) at c.in_ok-library_link.ensures)

pub program_link-requires-clause-index : goal.program_link-requires-clause-index
program_link-requires-clause-index c =
    let h = c.requires.row in
    let same = c.as_slice-walk.ensures ∙ (sym c.index-self-row-2.is ∙ walk_is c.args.self.now c.args.row h c.index-self-row-2.result c.index-self-row-2.is) in
    index_among c.args.self.now.files.now h.rows c.args.self.now.index.now c.in_ok-own.own (rows_are c.args.self.now c.args.row c.requires.walked h) (rows_once c.args.self.now c.args.row c.requires.walked h) c.requires.walked.index (rw same at c.in_ok-own.ensures)

pub program_link-requires-clause-links : goal.program_link-requires-clause-links
program_link-requires-clause-links c =
    let h = c.requires.row in
    let same = c.as_slice-walk.ensures ∙ (sym c.index-self-row-2.is ∙ walk_is c.args.self.now c.args.row h c.index-self-row-2.result c.index-self-row-2.is) in
    let one = sym c.index-self-row.is ∙ taken_is c.args.self.now c.args.row h c.index-self-row.result c.index-self-row.is in
    let also : is_static_entry h.taken.entry ≡ false = ap (λ (t : Taken). is_static_entry t.entry) (sym one) ∙ (sym c.is_static.ensures ∙ c.if-is_static.false) in
    let out : is_library_row c.args.self.now c.args.row ≡ false = ap is_library_in h.file ∙ (ap (λ (t : Taken). is_library_entry t.entry) (sym one) ∙ (sym c.is_library.ensures ∙ c.if-is_library.false)) in
    let rows = rows_are c.args.self.now c.args.row c.requires.walked h in
    rw (c.in_ok-own.ensures.scope, same) (record {
      some = walk_some c.args.self.now.files.now h.taken.name (walked_by c.args.self.now.files.now h.rows) h.told;
      walk = record {
        each = sym rows.each;
        within = subst (λ (count : ℕ). All (λ r. r < count) h.rows) (sym c.requires.sized) rows.within;
      };
      tell = program_tells c.requires.walked.taken.0 c.args.self.now c.requires.walked c.requires.walked.taken.1 c.args.row h (program_first c.args.self.now c.args.row c.requires.walked h out also) (rw same at c.in_ok-all_formed.ensures) c.args.links.now (c.requires.libraries out);
    })

pub returns : goal.returns
returns c = λ h.
    let same = c.as_slice-walk.ensures ∙ (sym c.index-self-row-2.is ∙ walk_is c.args.self.now c.args.row h c.index-self-row-2.result c.index-self-row-2.is) in
    let one = sym c.index-self-row.is ∙ taken_is c.args.self.now c.args.row h c.index-self-row.result c.index-self-row.is in
    let out : is_library_row c.args.self.now c.args.row ≡ false = ap is_library_in h.file ∙ (ap (λ (t : Taken). is_library_entry t.entry) (sym one) ∙ (sym c.is_library.ensures ∙ c.if-is_library.false)) in
    program_found c.args.self.now c.args.row c.program_link.result c.requires.walked h out (ap (λ (t : Taken). is_static_entry t.entry) (sym one) ∙ (sym c.is_static.ensures ∙ c.if-is_static.false)) (rw same at c.in_ok-all_formed.ensures) (rw (c.in_ok-own.ensures.scope, same) at c.program_link.ensures)
