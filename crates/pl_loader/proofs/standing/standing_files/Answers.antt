use Rattle.std.proofs.Common.{◌≡◌, ◌+◌, ◌≤◌, true, length, List, rules, sym, subst}
use Rattle.std.specs.List.{All}
use Rattle.std.proofs.lemmas.List.{length_push}
use Rattle.std.proofs.lemmas.List.Elements.{All-push, All-same}
use Rattle.std.proofs.lemmas.Slice.Zip.{zip_turn, zip_end}
use Rattle.pl_base.specs.Memory.{AtMostOne, lies}
use Rattle.pl_elf.specs.declared.constants.TheConstants.{ADDRESS_LIMIT}
use Rattle.pl_image.specs.Image.{all_pieces, ascends}
use Rattle.pl_image.specs.declared.loaded_object.LoadedObject.{LoadedObject}
use Rattle.pl_loader.specs.Fast.{IsMarked}
use Rattle.pl_loader.specs.Loading.{IsRead}
use Rattle.pl_loader.proofs.StandingLaws.{standing_more, standing_done, placed_turn, standing_apart}
use Rattle.pl_loader.proofs.standing.standing_files.Goals as goal

abbrev Ascends : LoadedObject → Type 0
Ascends o = ascends 0 o.pieces ≡ true

abbrev Fits : LoadedObject → Type 0
Fits o = All (λ l. l.start + l.size ≤ ADDRESS_LIMIT) o.mask.loads

pub standing_file-requires-clause-read : goal.standing_file-requires-clause-read
standing_file-requires-clause-read c =
    let t = zip_turn c.args.files.now c.args.places.now c.loop-file.yielded c.into_iter-file-iterator.result c.loop-file.file-iterator c.next.new.self c.next.result (search rules) (search rules) c.loop-file.yielded_by (c.in-Some.file, c.in-Some.place) c.in-Some.is c.next.ensures.steps in
    subst IsRead (sym (t.2 c.in-Some.file.now)) (c.requires.files.read (length c.loop-file.yielded) c.in-Some.file.now t.0)

pub standing_file-requires-clause-marked : goal.standing_file-requires-clause-marked
standing_file-requires-clause-marked c =
    let t = zip_turn c.args.files.now c.args.places.now c.loop-file.yielded c.into_iter-file-iterator.result c.loop-file.file-iterator c.next.new.self c.next.result (search rules) (search rules) c.loop-file.yielded_by (c.in-Some.file, c.in-Some.place) c.in-Some.is c.next.ensures.steps in
    subst IsMarked (sym (t.2 c.in-Some.file.now)) (c.requires.marked (length c.loop-file.yielded) c.in-Some.file.now t.0)

pub standing_file-requires-clause-placed : goal.standing_file-requires-clause-placed
standing_file-requires-clause-placed c =
    let t = zip_turn c.args.files.now c.args.places.now c.loop-file.yielded c.into_iter-file-iterator.result c.loop-file.file-iterator c.next.new.self c.next.result (search rules) (search rules) c.loop-file.yielded_by (c.in-Some.file, c.in-Some.place) c.in-Some.is c.next.ensures.steps in
    placed_turn c.args.files.now c.args.places.now (length c.loop-file.yielded) c.in-Some.file.now c.in-Some.place.now c.requires.placed t.0 t.1 (t.2 c.in-Some.file.now) (t.3 c.in-Some.place.now)

pub loop-file-preserved : goal.loop-file-preserved
loop-file-preserved c =
    let t = zip_turn c.args.files.now c.args.places.now c.loop-file.yielded c.into_iter-file-iterator.result c.loop-file.file-iterator c.next.new.self c.next.result (search rules) (search rules) c.loop-file.yielded_by (c.in-Some.file, c.in-Some.place) c.in-Some.is c.next.ensures.steps in
    record {
      so_far = rw (length_push c.loop-file.yielded (c.in-Some.file, c.in-Some.place))
          (standing_more c.args.files.now c.args.places.now (length c.loop-file.yielded) c.in-Some.file.now c.in-Some.place.now c.loop-file.loaded.items c.push.new.self.items c.in_ok-whole.whole t.0 t.1 (t.2 c.in-Some.file.now) (t.3 c.in-Some.place.now) c.in_ok-whole.ensures.value c.loop-file.invariant.so_far c.in_ok-push.ensures.items);
      ascend = All-same Ascends _ _ c.in_ok-push.ensures.items (All-push Ascends c.loop-file.loaded.items c.in_ok-whole.whole c.loop-file.invariant.ascend c.in_ok-whole.ensures.ascends);
      fit = All-same Fits _ _ c.in_ok-push.ensures.items (All-push Fits c.loop-file.loaded.items c.in_ok-whole.whole c.loop-file.invariant.fit c.in_ok-whole.ensures.fits);
    }

pub returns-clause-value : goal.returns-clause-value
returns-clause-value c =
    let count = zip_end c.args.files.now c.args.places.now c.loop-file.yielded c.into_iter-file-iterator.result c.loop-file.file-iterator c.next.new.self c.next.result (search rules) (search rules) c.loop-file.yielded_by c.in-None.is c.next.ensures.steps in
    standing_done c.args.files.now c.args.places.now (length c.loop-file.yielded) c.loop-file.loaded.items (sym c.requires.one_each) count c.loop-file.invariant.so_far

pub returns-clause-loaded : goal.returns-clause-loaded
returns-clause-loaded c =
    let count = zip_end c.args.files.now c.args.places.now c.loop-file.yielded c.into_iter-file-iterator.result c.loop-file.file-iterator c.next.new.self c.next.result (search rules) (search rules) c.loop-file.yielded_by c.in-None.is c.next.ensures.steps in
    let whole = standing_done c.args.files.now c.args.places.now (length c.loop-file.yielded) c.loop-file.loaded.items (sym c.requires.one_each) count c.loop-file.invariant.so_far in
    record {
      ascend = c.loop-file.invariant.ascend;
      fit = c.loop-file.invariant.fit;
      apart = subst (λ (ls : List LoadedObject). AtMostOne lies (all_pieces ls)) (sym whole) (standing_apart c.args.files.now c.args.places.now c.requires.files c.requires.marked c.requires.one_each c.requires.placed);
    }
