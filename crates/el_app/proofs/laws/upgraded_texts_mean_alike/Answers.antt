use Rattle.el_app.proofs.Layouts.{upgraded-means}
use Rattle.el_app.proofs.laws.upgraded_texts_mean_alike.Goals as goal

pub returns : goal.returns
returns c = upgraded-means
