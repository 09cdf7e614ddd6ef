use Rattle.std.proofs.Common.{◌≡◌, ◌≢◌, ℕ, Bool, true, false, length, refl, sym, ap, subst, ◌∙◌, arith}
use mathlib.Core.Bool.{beq}
use Rattle.pl_cone.specs.Linking.{HaveLinked, is_library_row}
use Rattle.pl_cone.specs.Taken.{is_library_entry}
use Rattle.pl_cone.specs.declared.taken.Taken.{Taken}
use Rattle.pl_cone.proofs.LinkedLaws.{library_read, pass_put, pass_row, pass_skips}
use Rattle.pl_cone.proofs.linking.WalkedFiles.link_rows.Goals.{then-is_library-libraries+in_ok-link_row, else-is_library-libraries}
use Rattle.pl_cone.proofs.linking.WalkedFiles.link_rows.Goals as goal

same : (a b : Bool) → beq a b ≡ true → a ≡ b
same true true is = refl
same true false is = absurd cc
same false true is = absurd cc
same false false is = refl

apart : (a b : Bool) → beq a b ≡ false → a ≢ b
apart true true is = absurd cc
apart true false is = λ e. absurd cc
apart false true is = λ e. absurd cc
apart false false is = absurd cc

pub link_row-requires : goal.link_row-requires
link_row-requires c =
    let library : is_library_row c.args.self.now c.loop-row.row ≡ c.is_library.result =
    library_read c.args.self.now c.loop-row.row c.index-self-row.result _ c.loop-row-test.true c.index-self-row.is (c.is_library.ensures ∙ ap (λ (t : Taken). is_library_entry t.entry) (sym c.index-self-row.is)) in
    pass_row c.args.libraries c.args.self.now c.loop-row.linked c.loop-row.row c.requires.walked c.loop-row-test.true (library ∙ same c.is_library.result c.args.libraries c.if-is_library-libraries.true) c.loop-row.invariant

pub loop-row-preserved : goal.loop-row-preserved
loop-row-preserved c =
    let library : is_library_row c.args.self.now c.loop-row.row ≡ c.is_library.result =
    library_read c.args.self.now c.loop-row.row c.index-self-row.result _ c.loop-row-test.true c.index-self-row.is (c.is_library.ensures ∙ ap (λ (t : Taken). is_library_entry t.entry) (sym c.index-self-row.is)) in
    elim c.if-is_library-libraries.branch [
      | then-is_library-libraries+in_ok-link_row w ↦
          rw w.linked-is (pass_put c.args.libraries c.args.self.now c.loop-row.linked _ c.loop-row.row (library ∙ same c.is_library.result c.args.libraries w.if-is_library-libraries.true) c.loop-row.invariant w.in_ok-link_row.ensures)
      | else-is_library-libraries w ↦
          rw w.linked-is (pass_skips c.args.libraries c.is_library.result c.args.self.now c.loop-row.linked c.loop-row.row c.loop-row-test.true library (apart c.is_library.result c.args.libraries w.if-is_library-libraries.false) c.loop-row.invariant)
    ]

pub returns : goal.returns
returns c =
    let all : c.loop-row.row ≡ length c.args.self.now.files.now = omega (arith, c.loop-row-test.false) in
    subst (λ (count : ℕ). HaveLinked c.args.libraries c.args.self.now count c.loop-row.linked) all c.loop-row.invariant
