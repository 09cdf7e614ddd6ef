use Rattle.std.proofs.Common.{◌<◌, List, ℕ, Vec, Global, Some, length, refl, sym, ap, ◌∙◌}
use Rattle.std.specs.Option.{option_map}
use Rattle.std.proofs.lemmas.Option.{same_Some, slice_get_read, slice_get_within}
use Rattle.pl_cone.specs.Taken.{files_in, marked_by}
use Rattle.pl_cone.specs.declared.taken.Taken.{Taken}
use Rattle.pl_scope.proofs.NameLaws.{same_name}
use Rattle.pl_rewrite.specs.Verify.{is_same, verified_original}
use Rattle.pl_rewrite.proofs.VerifyLaws.{no_original}
use Rattle.pl_rewrite.proofs.VerifyingLaws.{other_file, plain_file, same_file}
use Rattle.pl_rewrite.proofs.verifying.verified_original.Goals as goal

pub returns-in_default : goal.returns-in_default
returns-in_default c = no_original c.args.files.now c.args.name.now (sym c.in_default.ensures)

pub bounds-files-row : goal.bounds-files-row
bounds-files-row c = slice_get_within c.args.files.now c.in-Some.row c.in-Some.ensures.0 c.in-Some.ensures.1

pub returns-in_default-marked : goal.returns-in_default-marked
returns-in_default-marked c =
    let ts = c.args.files.now in
    let t = c.in-Some.ensures.0 in
    let at = c.in-Some.ensures.1 in
    let lt : c.in-Some.row < length ts = slice_get_within ts c.in-Some.row t at in
    let there = same_Some c.index-files-row.result t (sym (slice_get_read ts (length ts) c.in-Some.row c.index-files-row.result refl lt c.index-files-row.is) ∙ at) in
    plain_file c.requires.0 ts c.in-Some.row t c.requires.1 at (c.in_default-marked.ensures.value ∙ ap (λ (x : Taken). marked_by x.entry) there)
    ∙ ap (verified_original (files_in ts)) (same_name t.name c.args.name.now c.in-Some.ensures.2)

pub returns-then-not-is_file : goal.returns-then-not-is_file
returns-then-not-is_file c =
    let ts = c.args.files.now in
    let t = c.in-Some.ensures.0 in
    let at = c.in-Some.ensures.1 in
    let lt : c.in-Some.row < length ts = slice_get_within ts c.in-Some.row t at in
    let there = same_Some c.index-files-row.result t (sym (slice_get_read ts (length ts) c.in-Some.row c.index-files-row.result refl lt c.index-files-row.is) ∙ at) in
    let mark = sym (c.in-Some-marked.ensures.value ∙ ap (λ (x : Taken). marked_by x.entry) there) in
    let bytes = c.as_slice.ensures ∙ ap (λ (x : Taken). x.bytes) there in
    let file = option_map (λ (v : Vec ℕ Global). v.items) c.in_ok-file.file in
    let test = ap (is_same file) (sym bytes) ∙ (sym c.is_file.ensures ∙ c.if-not-is_file.true) in
    other_file c.requires.0 ts c.in-Some.row t c.in-Some-marked.marked.now file c.requires.1 at mark (c.in_ok-file.ensures t c.in-Some-marked.marked.now at mark refl) test
    ∙ ap (verified_original (files_in ts)) (same_name t.name c.args.name.now c.in-Some.ensures.2)

pub returns : goal.returns
returns c =
    let ts = c.args.files.now in
    let t = c.in-Some.ensures.0 in
    let at = c.in-Some.ensures.1 in
    let lt : c.in-Some.row < length ts = slice_get_within ts c.in-Some.row t at in
    let there = same_Some c.index-files-row.result t (sym (slice_get_read ts (length ts) c.in-Some.row c.index-files-row.result refl lt c.index-files-row.is) ∙ at) in
    let mark = sym (c.in-Some-marked.ensures.value ∙ ap (λ (x : Taken). marked_by x.entry) there) in
    let bytes = c.as_slice.ensures ∙ ap (λ (x : Taken). x.bytes) there in
    let file = option_map (λ (v : Vec ℕ Global). v.items) c.in_ok-file.file in
    let test = ap (is_same file) (sym bytes) ∙ (sym c.is_file.ensures ∙ c.if-not-is_file.false) in
    ap (λ (o : List ℕ). Some o) c.as_slice-2.ensures
    ∙ (same_file c.requires.0 ts c.in-Some.row t c.in-Some-marked.marked.now file c.requires.1 at mark (c.in_ok-file.ensures t c.in-Some-marked.marked.now at mark refl) test
    ∙ ap (verified_original (files_in ts)) (same_name t.name c.args.name.now c.in-Some.ensures.2))
