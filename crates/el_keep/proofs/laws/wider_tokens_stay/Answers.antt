use Rattle.el_keep.proofs.WideLaws.{wider-tokens}
use Rattle.el_keep.proofs.laws.wider_tokens_stay.Goals as goal

pub returns : goal.returns
returns c = wider-tokens
