use Rattle.std.proofs.Common.{◌≡◌, ◌<◌, ◌%◌, ℕ, Some, None, sym, ◌∙◌, arith}
use Rattle.std.specs.Prelude.{slice_index}
use Rattle.std.proofs.lemmas.Nat.{mod_below}
use Rattle.pl_hash.specs.Table.{bucket_count}
use Rattle.pl_hash.specs.Chain.{head}
use Rattle.pl_hash.proofs.JumpLaws.{query_none, query_unknown, query_far, query_near}
use Rattle.pl_hash.proofs.jumps.query_of.Goals as goal
use Rattle.pl_hash.proofs.jumps.query_of.Goals.{then-rest-eq0-via-then-rest-eq0, then-rest-eq0-via-else-rest-eq0+then-rest-whole}

pub returns-in_default-clause-asked : goal.returns-in_default-clause-asked
returns-in_default-clause-asked c =
    let t = c.args.table.now in
    let k : ℕ = c.args.hash % bucket_count t in
    let at : head t k ≡ None = sym (rw c.bucket_count.ensures at c.head.ensures) ∙ c.in_default.is in
    query_none t c.args.lengths.now k c.args.index c.requires.known c.requires.formed (mod_below c.args.hash (bucket_count t) c.requires.formed.buckets.some) at

pub returns-then-rest-eq0-clause-asked : goal.returns-then-rest-eq0-clause-asked
returns-then-rest-eq0-clause-asked c =
    let t = c.args.table.now in
    let lengths = c.args.lengths.now in
    let k : ℕ = c.args.hash % bucket_count t in
    let lt : k < bucket_count t = mod_below c.args.hash (bucket_count t) c.requires.formed.buckets.some in
    let at : head t k ≡ Some c.in-Some.start = sym (rw c.bucket_count.ensures at c.head.ensures) ∙ c.in-Some.is in
    let rest : c.length_at-rest.result ≡ slice_index lengths c.args.index = c.length_at-rest.ensures in
    let whole : c.length_at-whole.result ≡ slice_index lengths c.in-Some.start = c.length_at-whole.ensures in
    elim c.then-rest-eq0.branch [
      | then-rest-eq0-via-then-rest-eq0 w ↦ query_unknown t lengths k c.in-Some.start c.args.index c.requires.known c.requires.formed lt at (omega (arith, rest, w.if-rest-eq0.true))
      | then-rest-eq0-via-else-rest-eq0+then-rest-whole w ↦
          query_far t lengths k c.in-Some.start c.args.index c.requires.known c.requires.formed lt at (omega (arith, rest, whole, w.if-rest-whole.true)) (omega (arith, rest, whole, w.if-rest-whole.true))
    ]

pub returns-clause-asked : goal.returns-clause-asked
returns-clause-asked c =
    let t = c.args.table.now in
    let lengths = c.args.lengths.now in
    let k : ℕ = c.args.hash % bucket_count t in
    let lt : k < bucket_count t = mod_below c.args.hash (bucket_count t) c.requires.formed.buckets.some in
    let at : head t k ≡ Some c.in-Some.start = sym (rw c.bucket_count.ensures at c.head.ensures) ∙ c.in-Some.is in
    let rest : c.length_at-rest.result ≡ slice_index lengths c.args.index = c.length_at-rest.ensures in
    let whole : c.length_at-whole.result ≡ slice_index lengths c.in-Some.start = c.length_at-whole.ensures in
    rw (rest, whole) (query_near t lengths k c.in-Some.start c.args.index c.requires.known c.requires.formed lt at (omega (arith, rest, c.if-rest-eq0.false)) (omega (arith, rest, whole, c.if-rest-whole.false)))
