use Rattle.std.proofs.Common.{◌≢◌, ◌≡◌, ◌∙◌, ℕ, List, sym, ap, arith, length}
use Rattle.std.proofs.lemmas.Bool.{eqb-true, eqb-false}
use Rattle.pl_relr.specs.Places.{unpacked}
use Rattle.pl_relr.proofs.PackLaws.{unpacked-packed, first_and_rest, none_packed}
use Rattle.pl_relr.proofs.packing.pack.Goals as goal
use Rattle.pl_relr.proofs.packing.pack.Goals.{then-not-is_empty+in_ok-push64+in_ok-push_entries, else-not-is_empty}

pub returns-clause-exact : goal.returns-clause-exact
returns-clause-exact c =
    let places = c.args.places.now in
    c.from_vec.ensures ∙ elim c.if-not-is_empty.branch [
      | then-not-is_empty+in_ok-push64+in_ok-push_entries w ↦
          let some : length places ≢ 0 = eqb-false (length places) 0 (sym c.is_empty.ensures ∙ w.if-not-is_empty.true) in
          ap (λ v. v.items) w.table-is ∙ first_and_rest c.new-table.result.items w.push64.new.bytes.items w.push_entries.new.table.items places (omega (arith, some)) c.new-table.ensures.items w.in_ok-push64.ensures.ok w.in_ok-push_entries.ensures
      | else-not-is_empty w ↦
          let none : length places ≡ 0 = eqb-true (length places) 0 (sym c.is_empty.ensures ∙ w.if-not-is_empty.false) in
          ap (λ v. v.items) w.table-is ∙ none_packed c.new-table.result.items places none c.new-table.ensures.items
    ]

pub returns-clause-back : goal.returns-clause-back
returns-clause-back c most few =
    ap (λ (table : List ℕ). unpacked table most) (returns-clause-exact c) ∙ unpacked-packed c.args.places.now most c.requires few
