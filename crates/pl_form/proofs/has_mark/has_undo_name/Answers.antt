use Rattle.pl_form.proofs.has_mark.has_undo_name.Goals as goal

pub old_names-requires : goal.old_names-requires
old_names-requires c = record { long = c.requires.long; row = c.requires.names }
