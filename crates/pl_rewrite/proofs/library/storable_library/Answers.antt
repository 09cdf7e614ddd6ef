use Rattle.std.proofs.Common.{◌≡◌, ◌<◌, ◌≤◌, ℕ, false, true, ap, length, sym, ◌∙◌, arith}
use Rattle.std.proofs.lemmas.Bool.Decides.{nat_tests}
use Rattle.std.specs.Prelude.{nat_le}
use Rattle.pl_form.specs.declared.constants.TheConstants.{STORED}
use Rattle.pl_rewrite.proofs.LibraryFileLaws.{file_none, file_sized, has_form}
use Rattle.pl_rewrite.proofs.library.storable_library.Goals as goal
use Rattle.sha2.specs.Sha256.{sha256}

pub returns-in_default : goal.returns-in_default
returns-in_default c = file_none c.args.taken.now c.args.parts.now c.args.version c.in_default.ensures

pub form_library_with-requires-clause-firm : goal.form_library_with-requires-clause-firm
form_library_with-requires-clause-firm c = rw c.original.ensures (has_form c.args.taken.now c.args.parts.now c.in-Some.object.now c.requires.form c.in-Some.ensures c.args.version).0.firm

pub form_library_with-requires-clause-even : goal.form_library_with-requires-clause-even
form_library_with-requires-clause-even c = (has_form c.args.taken.now c.args.parts.now c.in-Some.object.now c.requires.form c.in-Some.ensures c.args.version).0.even

pub form_library_with-requires-clause-list : goal.form_library_with-requires-clause-list
form_library_with-requires-clause-list c = rw c.as_slice.ensures (has_form c.args.taken.now c.args.parts.now c.in-Some.object.now c.requires.form c.in-Some.ensures c.args.version).0.list

pub form_library_with-requires-clause-words : goal.form_library_with-requires-clause-words
form_library_with-requires-clause-words c = ap length (c.as_slice-2.ensures ∙ c.in_ok-words.ensures) ∙ (has_form c.args.taken.now c.args.parts.now c.in-Some.object.now c.requires.form c.in-Some.ensures c.args.version).0.words

pub form_library_with-requires-clause-digest : goal.form_library_with-requires-clause-digest
form_library_with-requires-clause-digest c = (has_form c.args.taken.now c.args.parts.now c.in-Some.object.now c.requires.form c.in-Some.ensures c.args.version).1 ∙ ap sha256 (sym c.original.ensures)

within : (a b : ℕ) → a ≤ b → true ≡ nat_le a b
within a b le = grind (arith, nat_tests)

beyond : (a b : ℕ) → b < a → false ≡ nat_le a b
beyond a b lt = grind (arith, nat_tests)

pub returns-then-len-gt-STORED : goal.returns-then-len-gt-STORED
returns-then-len-gt-STORED c =
    let long : STORED < length c.in_ok-file.file.items = omega (arith, c.if-len-gt-STORED.true, c.len.ensures, c.in_ok-file.file.ok.0) in
    file_sized c.args.taken.now c.args.parts.now c.args.version c.in-Some.object.now c.original.result.now c.as_slice.result.now c.as_slice-2.result.now c.in_ok-file.file.items false c.in-Some.ensures c.original.ensures c.as_slice.ensures (c.as_slice-2.ensures ∙ c.in_ok-words.ensures) c.in_ok-file.ensures.form
    (beyond (length c.in_ok-file.file.items) STORED long)

pub returns : goal.returns
returns c =
    let short : length c.in_ok-file.file.items ≤ STORED = omega (arith, c.if-len-gt-STORED.false, c.len.ensures, c.in_ok-file.file.ok.0) in
    file_sized c.args.taken.now c.args.parts.now c.args.version c.in-Some.object.now c.original.result.now c.as_slice.result.now c.as_slice-2.result.now c.in_ok-file.file.items true c.in-Some.ensures c.original.ensures c.as_slice.ensures (c.as_slice-2.ensures ∙ c.in_ok-words.ensures) c.in_ok-file.ensures.form
    (within (length c.in_ok-file.file.items) STORED short)
