use Rattle.std.proofs.Common.{rules, ◌≡◌, ℕ, ◌+◌, ◌*◌, max, true, Some, None, drop, refl, sym, ap, subst, ◌∙◌, arith}
use Rattle.std.specs.Prelude.{nat_le, nat_lt, find}
use Rattle.std.specs.List.{list_any}
use Rattle.std.proofs.lemmas.List.{take_rest}
use Rattle.std.proofs.lemmas.List.Sorted.{IsPartitionPoint-from_clause}
use Rattle.pl_base.specs.Memory.{Piece}
use Rattle.pl_image.specs.Image.{stored, stores_in}
use Rattle.pl_image.proofs.PieceLemmas.{ended_first, others_store, found_stores, none_stored, none_stored_before, found_limit, ascends_drop}
use Rattle.pl_image.proofs.piece.next_stored.Goals as goal

pub returns-in-Some-clause-within : goal.returns-in-Some-clause-within
returns-in-Some-clause-within c =
    let ps = c.args.pieces.now in
    let i = c.partition_point-index.result in
    let found : find (λ (q : Piece). nat_lt 0 (stored q)) (drop i ps) ≡ Some c.in-Some.piece.now = ap (find (λ (q : Piece). nat_lt 0 (stored q))) (sym (take_rest ps i)) ∙ sym c.first_stored.ensures ∙ rw c.in-Some.is refl in
    let limit = found_limit 0 (drop i ps) c.in-Some.piece.now (ascends_drop 0 ps i c.requires.ascending) found in
    (omega (arith, c.max.ensures), omega (arith, c.max.ensures, c.first_word.ensures, c.requires.limit, limit))

pub returns-in-Some-clause-none : goal.returns-in-Some-clause-none
returns-in-Some-clause-none c = λ a low high.
    let ps = c.args.pieces.now in
    let i = c.partition_point-index.result in
    let found : find (λ (q : Piece). nat_lt 0 (stored q)) (drop i ps) ≡ Some c.in-Some.piece.now = ap (find (λ (q : Piece). nat_lt 0 (stored q))) (sym (take_rest ps i)) ∙ sym c.first_stored.ensures ∙ rw c.in-Some.is refl in
    let point = IsPartitionPoint-from_clause (λ p. nat_le (p.start + stored p) (8 * c.args.from)) _ _ c.partition_point-index.ensures.partitioned (ended_first ps (8 * c.args.from) c.requires.ascending) (λ a r q k. search rules) in
    others_store ps (8 * c.args.from) i c.requires.ascending point a low
    (none_stored_before 0 (drop i ps) c.in-Some.piece.now a (ascends_drop 0 ps i c.requires.ascending) found (omega (arith, low, high, c.max.ensures, c.first_word.ensures)))

pub returns-in-Some-clause-found : goal.returns-in-Some-clause-found
returns-in-Some-clause-found c = λ lt.
    let ps = c.args.pieces.now in
    let i = c.partition_point-index.result in
    let found : find (λ (q : Piece). nat_lt 0 (stored q)) (drop i ps) ≡ Some c.in-Some.piece.now = ap (find (λ (q : Piece). nat_lt 0 (stored q))) (sym (take_rest ps i)) ∙ sym c.first_stored.ensures ∙ rw c.in-Some.is refl in
    let point = IsPartitionPoint-from_clause (λ p. nat_le (p.start + stored p) (8 * c.args.from)) _ _ c.partition_point-index.ensures.partitioned (ended_first ps (8 * c.args.from) c.requires.ascending) (λ a r q k. search rules) in
    subst (λ (n : ℕ). list_any (stores_in n) ps ≡ true) (sym (c.max.ensures ∙ ap (max c.args.from) c.first_word.ensures))
    (found_stores ps (8 * c.args.from) i c.requires.ascending point c.in-Some.piece.now c.args.from found (omega arith) (omega arith))

pub returns-in-None-clause-none : goal.returns-in-None-clause-none
returns-in-None-clause-none c = λ a low high.
    let ps = c.args.pieces.now in
    let i = c.partition_point-index.result in
    let found : find (λ (q : Piece). nat_lt 0 (stored q)) (drop i ps) ≡ None = ap (find (λ (q : Piece). nat_lt 0 (stored q))) (sym (take_rest ps i)) ∙ sym c.first_stored.ensures ∙ rw c.in-None.is refl in
    let point = IsPartitionPoint-from_clause (λ p. nat_le (p.start + stored p) (8 * c.args.from)) _ _ c.partition_point-index.ensures.partitioned (ended_first ps (8 * c.args.from) c.requires.ascending) (λ a r q k. search rules) in
    others_store ps (8 * c.args.from) i c.requires.ascending point a low (none_stored (drop i ps) a found)
