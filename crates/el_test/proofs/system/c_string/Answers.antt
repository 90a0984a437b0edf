use Rattle.el_test.proofs.Paths.{path_in_array, array_ends}
use Rattle.el_test.proofs.system.c_string.Goals as goal

pub returns-clause-path : goal.returns-clause-path
returns-clause-path c = rw c.copy_from_slice.ensures.after (path_in_array c.args.path.now c.requires.short c.requires.no_nul)

pub returns-clause-ended : goal.returns-clause-ended
returns-clause-ended c = rw c.copy_from_slice.ensures.after (array_ends c.args.path.now c.requires.short)
