use Rattle.std.proofs.Common.{◌≡◌, ◌-◌, ◌<◌, ◌∙◌, ap, sym, arith}
use Rattle.pl_place.specs.Numbering.{all_room, numbered}
use Rattle.pl_place.proofs.PolicyLaws.{highest_is, highest_none, highest_some, no_room}
use Rattle.pl_place.proofs.policies.highest.Goals as goal

pub returns-then-all-eq0-clause-may : goal.returns-then-all-eq0-clause-may
returns-then-all-eq0-clause-may c =
    let all : c.all_room-all.result ≡ all_room c.args.span c.args.align c.args.holes.now = c.all_room-all.ensures ∙ ap (all_room c.args.span c.args.align) c.rows.ensures.rows in
    no_room c.args.span c.args.align c.args.holes.now c.requires c.rows.ensures.holes (sym all ∙ c.if-all-eq0.true)

pub returns-then-all-eq0-clause-exact : goal.returns-then-all-eq0-clause-exact
returns-then-all-eq0-clause-exact c =
    let all : c.all_room-all.result ≡ all_room c.args.span c.args.align c.args.holes.now = c.all_room-all.ensures ∙ ap (all_room c.args.span c.args.align) c.rows.ensures.rows in
    highest_none c.args.holes.now c.args.span c.args.align (sym all ∙ c.if-all-eq0.true)

pub returns : goal.returns
returns c =
    let all : c.all_room-all.result ≡ all_room c.args.span c.args.align c.args.holes.now = c.all_room-all.ensures ∙ ap (all_room c.args.span c.args.align) c.rows.ensures.rows in
    let some : 0 < all_room c.args.span c.args.align c.args.holes.now = omega (arith, c.if-all-eq0.false, all) in
    let is : c.numbered.result ≡ numbered c.args.span c.args.align c.args.holes.now (all_room c.args.span c.args.align c.args.holes.now - 1) =
    c.numbered.ensures ∙ ap (λ rows. numbered c.args.span c.args.align rows (c.all_room-all.result - 1)) c.rows-2.ensures.rows ∙ ap (λ n. numbered c.args.span c.args.align c.args.holes.now (n - 1)) all in
    let both = highest_is c.args.span c.args.align c.args.holes.now c.numbered.result c.requires c.rows.ensures.holes some is in
    record { may = both.0; highest = both.1; exact = is ∙ highest_some c.args.holes.now c.args.span c.args.align some }
