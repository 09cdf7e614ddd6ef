use Rattle.std.proofs.Common.{◌≡◌, ap, ◌∙◌}
use Rattle.pl_elf.specs.Headers.{header, segments}
use Rattle.pl_image.specs.Image.{ascends}
use Rattle.pl_image.proofs.PlacedLaws.{pieces_ascend}
use Rattle.pl_form.specs.Loads.{pieces_of}
use Rattle.pl_loader.specs.Fast.{stored}
use Rattle.pl_loader.proofs.StandingLaws.{stored_header, stored_segments, low_if, standing_ascends, standing_whole}
use Rattle.pl_loader.proofs.standing.standing_file.Goals as goal

pub header_fields-requires : goal.header_fields-requires
header_fields-requires c = rw c.stored-bytes.ensures (stored_header c.args.file.now c.requires.read c.requires.marked)

pub read_segments-requires : goal.read_segments-requires
read_segments-requires c = rw (c.header_fields.ensures, c.stored-bytes.ensures) (stored_segments c.args.file.now c.requires.read c.requires.marked)

pub pieces-requires : goal.pieces-requires
pieces-requires c = rw c.as_slice.ensures (low_if c.args.place c.args.file.now.object.segments c.requires.placed.ends)

pub returns-clause-value : goal.returns-clause-value
returns-clause-value c =
    let all : c.in_ok-pieces.pieces ≡ pieces_of c.args.place (stored c.args.file.now) c.args.file.now.object.segments (segments (stored c.args.file.now) (header (stored c.args.file.now))) =
    rw (c.as_slice.ensures, c.deref.ensures.value, c.in_ok-headers.ensures, c.header_fields.ensures, c.stored-bytes.ensures) at c.in_ok-pieces.ensures in
    standing_whole c.args.file.now c.args.place c.in_ok-pieces.pieces c.in_ok-mask.mask all c.in_ok-mask.ensures.value

pub returns-clause-ascends : goal.returns-clause-ascends
returns-clause-ascends c =
    let all : c.in_ok-pieces.pieces ≡ pieces_of c.args.place (stored c.args.file.now) c.args.file.now.object.segments (segments (stored c.args.file.now) (header (stored c.args.file.now))) =
    rw (c.as_slice.ensures, c.deref.ensures.value, c.in_ok-headers.ensures, c.header_fields.ensures, c.stored-bytes.ensures) at c.in_ok-pieces.ensures in
    ap (ascends 0) all ∙ standing_ascends c.args.file.now c.args.place c.requires.read c.requires.marked (pieces_ascend c.args.place c.args.file.now.bytes c.args.file.now.object c.requires.placed)
