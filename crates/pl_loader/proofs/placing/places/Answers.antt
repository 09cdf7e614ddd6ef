use Rattle.std.proofs.Common.{◌≡◌, ◌-◌, List, ◌∷◌, length, take, drop, subst, rules}
use Rattle.pl_loader.specs.Loading.{AreFiles}
use Rattle.pl_loader.specs.declared.object_file.ObjectFile.{ObjectFile}
use Rattle.pl_loader.proofs.ApartLaws.{nothing_placed}
use Rattle.pl_loader.proofs.FileLaws.{files_are, files_placed}
use Rattle.pl_loader.proofs.placing.places.Goals as goal

pub returns-in_default-clause-apart : goal.returns-in_default-clause-apart
returns-in_default-clause-apart g c = nothing_placed c.args.files.now c.new.result c.in_default.len_below c.new.ensures

pub library_places-requires-clause-files : goal.library_places-requires-clause-files
library_places-requires-clause-files g c = subst AreFiles (files_are c.args.files.now c.program-item.result c.in-len1-up.len_at_least c.program-item.is) c.requires.files

pub returns-clause-within : goal.returns-clause-within
returns-clause-within g c =
    let rest : List ObjectFile = take (length c.args.files.now - 1) (drop 1 c.args.files.now) in
    let all : c.from_vec.result ≡ 0 ∷ c.in_ok-others.others.items = search rules in
    (files_placed c.args.busy c.args.files.now c.from_vec.result c.program-item.result rest c.in_ok-others.others.items (files_are c.args.files.now c.program-item.result c.in-len1-up.len_at_least c.program-item.is) all c.requires.files c.in_ok-others.ensures.free).0

pub returns-clause-apart : goal.returns-clause-apart
returns-clause-apart g c =
    let rest : List ObjectFile = take (length c.args.files.now - 1) (drop 1 c.args.files.now) in
    let all : c.from_vec.result ≡ 0 ∷ c.in_ok-others.others.items = search rules in
    (files_placed c.args.busy c.args.files.now c.from_vec.result c.program-item.result rest c.in_ok-others.others.items (files_are c.args.files.now c.program-item.result c.in-len1-up.len_at_least c.program-item.is) all c.requires.files c.in_ok-others.ensures.free).1

pub returns-clause-placed : goal.returns-clause-placed
returns-clause-placed g c =
    let rest : List ObjectFile = take (length c.args.files.now - 1) (drop 1 c.args.files.now) in
    let all : c.from_vec.result ≡ 0 ∷ c.in_ok-others.others.items = search rules in
    rw (files_are c.args.files.now c.program-item.result c.in-len1-up.len_at_least c.program-item.is, all) c.in_ok-others.ensures.placed

pub returns-in_err-others-clause-stops : goal.returns-in_err-others-clause-stops
returns-in_err-others-clause-stops g c = rw (files_are c.args.files.now c.program-item.result c.in-len1-up.len_at_least c.program-item.is) (search rules)
