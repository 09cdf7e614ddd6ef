use Rattle.pl_rewrite.proofs.own_words.OwnWords.rows.Goals as goal

pub returns : goal.returns
returns c =
    rw (c.from_vec.ensures, c.in_ok-rows.ensures, c.as_slice.ensures, c.as_slice-2.ensures) c.self.view_is
