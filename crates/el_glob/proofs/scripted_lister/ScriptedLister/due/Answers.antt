use Rattle.std.proofs.Common.{ap, ◌∙◌}
use Rattle.el_glob.specs.ScriptedLister.{ListScript, due}
use Rattle.el_glob.proofs.Told.{due-drop}
use Rattle.el_glob.proofs.scripted_lister.ScriptedLister.due.Goals as goal

pub returns : goal.returns
returns c = c.get.ensures ∙ due-drop c.self.inside.answers c.self.inside.taken ∙ ap (λ (s : ListScript). due s.answers) c.self.view_is
