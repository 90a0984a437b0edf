use Rattle.el_keep.proofs.Texts.{comments-stay}
use Rattle.el_keep.proofs.OneReading.{one-list_of_comments}
use Rattle.el_keep.proofs.laws.comments_stay.Goals as goal

pub returns-clause-same : goal.returns-clause-same
returns-clause-same c = comments-stay

pub returns-clause-one : goal.returns-clause-one
returns-clause-one c = one-list_of_comments
