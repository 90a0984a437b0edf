use Rattle.el_keep.proofs.WideLaws.{wider-comments}
use Rattle.el_keep.proofs.laws.wider_comments_stay.Goals as goal

pub returns : goal.returns
returns c = wider-comments
