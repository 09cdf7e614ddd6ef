use Rattle.std.proofs.Common.{◌≡◌, ◌+◌, ◌≤◌, true, length, rules, sym, subst}
use Rattle.std.proofs.lemmas.List.{length_push}
use Rattle.std.proofs.lemmas.Slice.Zip.{zip_turn, zip_end}
use Rattle.pl_elf.specs.Headers.{is_load}
use Rattle.pl_elf.specs.declared.constants.TheConstants.{ADDRESS_LIMIT}
use Rattle.pl_elf.specs.declared.segment.Segment.{Segment}
use Rattle.pl_loader.proofs.StandingLaws.{pieces_more, pieces_done}
use Rattle.pl_loader.proofs.standing.pieces.Goals as goal

pub add_piece-requires : goal.add_piece-requires
add_piece-requires c =
    let t = zip_turn c.args.segments.now c.args.headers.now c.loop-segment.yielded c.into_iter-segment-iterator.result c.loop-segment.segment-iterator c.next.new.self c.next.result (search rules) (search rules) c.loop-segment.yielded_by (c.in-Some.segment, c.in-Some.borne) c.in-Some.is c.next.ensures.steps in
    subst (λ (s : Segment). is_load s ≡ true → c.args.place + (s.vaddr + s.memsz) ≤ ADDRESS_LIMIT) (sym (t.2 c.in-Some.segment.now)) (c.requires (length c.loop-segment.yielded) c.in-Some.segment.now t.0)

pub loop-segment-preserved : goal.loop-segment-preserved
loop-segment-preserved c =
    let t = zip_turn c.args.segments.now c.args.headers.now c.loop-segment.yielded c.into_iter-segment-iterator.result c.loop-segment.segment-iterator c.next.new.self c.next.result (search rules) (search rules) c.loop-segment.yielded_by (c.in-Some.segment, c.in-Some.borne) c.in-Some.is c.next.ensures.steps in
    rw (length_push c.loop-segment.yielded (c.in-Some.segment, c.in-Some.borne))
    (pieces_more c.args.place c.args.bytes.now c.args.segments.now c.args.headers.now (length c.loop-segment.yielded) c.in-Some.segment.now c.in-Some.borne.now c.loop-segment.pieces c.add_piece.new.pieces _ t.0 t.1 (t.2 c.in-Some.segment.now) (t.3 c.in-Some.borne.now) c.in_ok-add_piece.ensures c.loop-segment.invariant)

pub returns : goal.returns
returns c =
    let count = zip_end c.args.segments.now c.args.headers.now c.loop-segment.yielded c.into_iter-segment-iterator.result c.loop-segment.segment-iterator c.next.new.self c.next.result (search rules) (search rules) c.loop-segment.yielded_by c.in-None.is c.next.ensures.steps in
    pieces_done c.args.place c.args.bytes.now c.args.segments.now c.args.headers.now (length c.loop-segment.yielded) c.loop-segment.pieces _ count c.loop-segment.invariant
