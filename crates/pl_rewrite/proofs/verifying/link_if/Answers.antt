use Rattle.std.proofs.Common.{ℕ, List, length, refl, subst, sym, ap, ◌∙◌, arith}
use Rattle.std.proofs.lemmas.Bool.{false≢true}
use Rattle.pl_cone.specs.Table.{IsWalkScope}
use Rattle.pl_rewrite.proofs.ProgramFormLaws.{index_of_walk}
use Rattle.pl_rewrite.proofs.RowTestLaws.{file_or}
use Rattle.pl_rewrite.proofs.RowWordLaws.{library_row}
use Rattle.pl_rewrite.proofs.VerifyingLaws.{library_link_at, program_link_at}
use Rattle.pl_rewrite.proofs.verifying.link_if.Goals as goal

pub is_needed-requires-clause-made : goal.is_needed-requires-clause-made
is_needed-requires-clause-made c = omega (arith, c.requires.row, c.requires.needed.flags.made)

pub is_needed-requires-clause-held : goal.is_needed-requires-clause-held
is_needed-requires-clause-held c = omega (arith, c.requires.row, c.requires.needed.flags.held)

pub returns-then-not-is_needed : goal.returns-then-not-is_needed
returns-then-not-is_needed c = λ need. absurd (false≢true (sym c.if-not-is_needed.true ∙ (c.is_needed.ensures ∙ need)))

pub of-requires-clause-files : goal.of-requires-clause-files
of-requires-clause-files c = c.requires.needed.numbered.taken

pub of-requires-clause-rows : goal.of-requires-clause-rows
of-requires-clause-rows c = rw c.walk-members.ensures (c.requires.needed.walks c.args.row (sym c.is_needed.ensures ∙ c.if-not-is_needed.false)).rows

pub library_link-linked-requires-clause-some : goal.library_link-linked-requires-clause-some
library_link-linked-requires-clause-some c =
    let row = c.requires.needed.walks c.args.row (sym c.is_needed.ensures ∙ c.if-not-is_needed.false) in
    let walk = subst (λ (ks : List ℕ). IsWalkScope c.args.numbered.now.files.now ks c.in_ok-walk.walk) c.walk-members.ensures c.in_ok-walk.ensures in
    omega (arith, ap length walk.scope, row.rows.each, ap length row.is)

pub library_link-linked-requires-clause-index : goal.library_link-linked-requires-clause-index
library_link-linked-requires-clause-index c =
    let row = c.requires.needed.walks c.args.row (sym c.is_needed.ensures ∙ c.if-not-is_needed.false) in
    let walk = subst (λ (ks : List ℕ). IsWalkScope c.args.numbered.now.files.now ks c.in_ok-walk.walk) c.walk-members.ensures c.in_ok-walk.ensures in
    index_of_walk c.args.numbered.now c.args.row c.in_ok-walk.walk c.requires.needed.numbered row walk

pub returns-then-is_library : goal.returns-then-is_library
returns-then-is_library c = λ need.
    let n = c.args.numbered.now in
    let row = c.requires.needed.walks c.args.row need in
    let walk = subst (λ (ks : List ℕ). IsWalkScope n.files.now ks c.in_ok-walk.walk) c.walk-members.ensures c.in_ok-walk.ensures in
    let at = file_or n c.args.row c.index-numbered-row.result c.requires.row in
    let library = library_row n c.args.row _ c.is_library.result at c.is_library.ensures ∙ c.if-is_library.true in
    library_link_at n c.args.row c.in_ok-walk.walk.scope c.in_ok-link.link row library walk.scope c.in_ok-link.ensures

pub returns : goal.returns
returns c = λ need.
    let n = c.args.numbered.now in
    let row = c.requires.needed.walks c.args.row need in
    let walk = subst (λ (ks : List ℕ). IsWalkScope n.files.now ks c.in_ok-walk.walk) c.walk-members.ensures c.in_ok-walk.ensures in
    let at = file_or n c.args.row c.index-numbered-row.result c.requires.row in
    let other = library_row n c.args.row _ c.is_library.result at c.is_library.ensures ∙ c.if-is_library.false in
    program_link_at n c.args.row c.in_ok-walk.walk.scope c.in_ok-link.link _ row other walk.scope c.in_ok-link.ensures refl c.new.ensures
