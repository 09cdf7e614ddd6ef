use Rattle.std.proofs.Common.{map, arith}
use Rattle.std.proofs.lemmas.List.{get_or-map}
use Rattle.pl_base.specs.Windows.{Window}
use Rattle.pl_form.specs.Found.{word_window}
use Rattle.pl_form.proofs.SpotLaws.{spots_more, spots_done, word_count}
use Rattle.pl_form.proofs.found.push_word_spots.Goals as goal

pub loop-address-preserved : goal.loop-address-preserved
loop-address-preserved c =
    let words = c.args.addresses.now in
    let i = c.loop-address.address-index in
    let none : Window = record { at = 0; size = 0 } in
    spots_more c.args.memory.now (map word_window words) i none _ _ _ _ _ (omega (arith, word_count words)) (cc (get_or-map word_window words i 0 none c.loop-address-test.true)) c.spot_of.ensures
    c.in_ok-push.ensures.items c.loop-address.invariant

pub returns : goal.returns
returns c = spots_done c.args.memory.now (map word_window c.args.addresses.now) _ _ _ (omega (arith, word_count c.args.addresses.now)) c.loop-address.invariant
