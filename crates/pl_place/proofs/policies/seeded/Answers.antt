use Rattle.std.proofs.Common.{◌≡◌, ◌%◌, ◌<◌, ◌∙◌, ap, sym, arith}
use Rattle.pl_base.specs.Sums.{plus}
use Rattle.pl_place.specs.Numbering.{all_room, numbered, first_word}
use Rattle.pl_place.proofs.PolicyLaws.{no_room, seeded_is, seeded_none, seeded_some}
use Rattle.pl_place.proofs.policies.seeded.Goals as goal

pub returns-then-all-eq0-clause-may : goal.returns-then-all-eq0-clause-may
returns-then-all-eq0-clause-may c =
    let all : c.all_room-all.result ≡ all_room c.args.span c.args.align c.args.holes.now = c.all_room-all.ensures ∙ ap (all_room c.args.span c.args.align) c.rows.ensures.rows in
    no_room c.args.span c.args.align c.args.holes.now c.requires c.rows.ensures.holes (sym all ∙ c.if-all-eq0.true)

pub returns-then-all-eq0-clause-exact : goal.returns-then-all-eq0-clause-exact
returns-then-all-eq0-clause-exact c =
    let all : c.all_room-all.result ≡ all_room c.args.span c.args.align c.args.holes.now = c.all_room-all.ensures ∙ ap (all_room c.args.span c.args.align) c.rows.ensures.rows in
    seeded_none c.args.number c.args.holes.now c.args.span c.args.align (sym all ∙ c.if-all-eq0.true)

pub returns : goal.returns
returns c =
    let all : c.all_room-all.result ≡ all_room c.args.span c.args.align c.args.holes.now = c.all_room-all.ensures ∙ ap (all_room c.args.span c.args.align) c.rows.ensures.rows in
    let some : 0 < all_room c.args.span c.args.align c.args.holes.now = omega (arith, c.if-all-eq0.false, all) in
    let word : c.from.result ≡ first_word (plus c.args.number c.args.span) = c.from.ensures ∙ c.first_word-word.ensures in
    let is : c.numbered.result ≡ numbered c.args.span c.args.align c.args.holes.now (first_word (plus c.args.number c.args.span) % all_room c.args.span c.args.align c.args.holes.now) =
    c.numbered.ensures ∙ ap (λ rows. numbered c.args.span c.args.align rows (c.from.result % c.all_room-all.result)) c.rows-2.ensures.rows
    ∙ ap (λ n. numbered c.args.span c.args.align c.args.holes.now (c.from.result % n)) all
    ∙ ap (λ n. numbered c.args.span c.args.align c.args.holes.now (n % all_room c.args.span c.args.align c.args.holes.now)) word in
    let both = seeded_is c.args.number c.args.span c.args.align c.args.holes.now c.numbered.result c.requires c.rows.ensures.holes some is in
    record { may = both.0; seeded = both.1; exact = is ∙ seeded_some c.args.number c.args.holes.now c.args.span c.args.align some }
