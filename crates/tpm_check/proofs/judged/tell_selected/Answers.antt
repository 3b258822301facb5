use Rattle.tpm_check.proofs.judged.tell_selected.Goals as goal

pub returns-in-Covers : goal.returns-in-Covers
returns-in-Covers g c = rw c.in-Covers.is c.tell_word.ensures

pub returns-in-Empty : goal.returns-in-Empty
returns-in-Empty g c = rw c.in-Empty.is c.tell_word-in-Empty.ensures

pub returns-in-NotCompared : goal.returns-in-NotCompared
returns-in-NotCompared g c = rw c.in-NotCompared.is c.tell_word-in-NotCompared.ensures
